-- Names of tasks, as comments give them
pub mod NamingLemmas
pub mod NameLemmas
-- The extent of a schedule: its earliest and its latest reading
pub mod ExtentLemmas
-- Reports, rows and lists of runs, one part behind another
pub mod ReportLemmas
pub mod RowLemmas
pub mod TimehistLemmas
-- Maps: the times of tasks, columns, the legend, and the map as a whole
pub mod LongestLemmas
pub mod MapLemmas
pub mod LegendLemmas
pub mod DrawnLemmas
