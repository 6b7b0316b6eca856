pub mod DrawList
pub mod GeneratedImage
mod Examples
