-- Serves paths_are_persist_order and paths_past_barriers_and_joins_are_direct.
pub mod Steps
pub mod Path
pub mod Before
pub mod Direct
