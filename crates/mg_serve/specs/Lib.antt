pub mod Placed
pub mod Answers
pub mod Told
pub mod Statuses
pub mod Writing
pub mod Sessions
pub mod Lasting
pub mod Serving
