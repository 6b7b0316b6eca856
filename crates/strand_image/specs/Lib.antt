pub mod ImageSeen
pub mod Symbols
pub mod Checking
pub mod Limits
pub mod Image
pub mod Reading
