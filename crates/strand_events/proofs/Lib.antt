pub mod TestLaws
pub mod LongerTrace
pub mod PersistOrder
pub mod StrandAndEpoch
pub mod TraceInvariant
pub mod Joins
pub mod EventWithin
pub mod Waits
