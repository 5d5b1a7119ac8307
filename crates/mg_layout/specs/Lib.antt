pub mod Files
pub mod Holding
pub mod Jobs
pub mod Made
