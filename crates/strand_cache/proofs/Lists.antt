-- Serves cache_laws, and clause access of Hierarchy::access: the lines that each core holds, as lists.
pub mod Newest
pub mod LongerList
pub mod OneMore
pub mod Recency
pub mod Step
mod Examples
pub mod Once
pub mod Totals
pub mod Access
