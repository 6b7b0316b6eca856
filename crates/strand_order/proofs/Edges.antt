-- Serves edges_are_listed, and Graph::edges with the three steps of build: the last events, the sources, the walk.
pub mod List
pub mod Ends
pub mod Few
pub mod LastEvent
pub mod Gate
pub mod Lasts
pub mod FromLast
pub mod Kinds
pub mod Sources
pub mod Walk
