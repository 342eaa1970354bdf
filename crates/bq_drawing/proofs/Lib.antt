pub mod AxisLemmas
pub mod HashLemmas
pub mod LegendLemmas
pub mod PerfettoLemmas
pub mod PictureLemmas
pub mod PlacedLemmas
