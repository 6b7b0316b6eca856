-- Serves clause buffers of parts_are_kept: one strand in a buffer, no ring past its places, by steps.
pub mod RingUse
pub mod Begin
pub mod RingEvent
pub mod RingItem
pub mod BeginItem
pub mod Run
pub mod OneStrand
