-- Serves clauses value and memory of Hierarchy::access: caches and backing words show one flat memory.
pub mod Words
pub mod RowMembers
pub mod Coherence
pub mod OtherCores
pub mod SetAccess
pub mod Whole
pub mod Empty
