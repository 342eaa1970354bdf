mod LineLemmas
mod GatheringLemmas
mod LatencyLemmas
mod RunLemmas
mod RangeLemmas
mod RowLemmas
mod PairLemmas
