pub mod DialCounts
pub mod StoreCounts
