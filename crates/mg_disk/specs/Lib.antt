pub mod Files
pub mod Hosts
pub mod Images
pub mod Moments
pub mod Names
