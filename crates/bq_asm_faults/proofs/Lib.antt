pub mod ComplaintLemmas
