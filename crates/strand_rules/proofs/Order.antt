-- Serves clauses closed and joined of durable_sets_are_allowed: each step of a state keeps the order of its parts.
pub mod Sets
pub mod Apart
pub mod Invariant
pub mod Core
pub mod Item
pub mod Send
pub mod Write
pub mod Run
