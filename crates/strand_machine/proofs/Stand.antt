-- Serves clause parts of Machine::new and step: the parts stand for the state, at the start and after each step.
pub mod Cache
pub mod Counts
pub mod PersistWaits
pub mod SendWrite
pub mod Item
pub mod Core
pub mod Event
pub mod Start
pub mod Write
pub mod Machine
pub mod NextEvent
pub mod Retire
