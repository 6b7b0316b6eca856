pub mod Vectors
pub mod StandFor
pub mod LongerTrace
pub mod Waits
pub mod ConflictWaits
