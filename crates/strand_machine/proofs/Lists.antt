-- Serves clauses step and parts of Machine::step: what queues, buffers and requests hold for a state, as lists.
pub mod FromOpen
pub mod Eligible
pub mod Room
pub mod SendWrite
pub mod Item
pub mod Event
pub mod Queue
pub mod Requests
