-- Serves check_path: the chain, the route and the levels that it looks at, and what follows from them.
pub mod Edges
pub mod Route
pub mod Chain
pub mod Bounds
