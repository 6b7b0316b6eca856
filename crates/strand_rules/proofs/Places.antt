-- Serves clause placed of Pipeline::trace: persists lie in the persistent words, by events and by runs.
pub mod Event
pub mod Run
