-- Serves clauses closed and joined of durable_sets_are_allowed: the same of a trace, counts and parts alone.
pub mod Invariant
pub mod Event
pub mod Dispatch
pub mod Send
pub mod Write
