pub mod Entries
pub mod Links
pub mod Ring
pub mod Buffers
pub mod KeptBuffers
