mod DifferenceLemmas
mod ImageLemmas
mod ListLemmas
mod ShowingLemmas
