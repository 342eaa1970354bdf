pub mod EachLemmas
pub mod EntryLemmas
pub mod KeyLemmas
pub mod MaskLemmas
pub mod PlaceLemmas
pub mod SoundLemmas
