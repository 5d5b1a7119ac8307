pub mod Bytes
pub mod Items
pub mod Limits
pub mod Names
