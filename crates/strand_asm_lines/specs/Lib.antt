pub mod Bytes
pub mod Token
pub mod Table
pub mod Line
