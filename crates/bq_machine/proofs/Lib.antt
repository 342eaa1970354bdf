pub mod AheadLemmas
pub mod BriefLemmas
pub mod InstallLemmas
