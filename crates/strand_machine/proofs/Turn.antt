-- Serves clause step of Machine::step: each turn of the rules, by what the parts answer.
pub mod MetByCounts
pub mod Steps
pub mod SendWrite
pub mod Waits
pub mod Item
