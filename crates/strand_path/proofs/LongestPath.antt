-- Serves longest: a pass over the edges, and the way back over its links.
pub mod Levels
pub mod Links
pub mod Members
pub mod WayBack
pub mod Route
pub mod ChosenChain
