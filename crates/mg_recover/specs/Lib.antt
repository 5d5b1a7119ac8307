pub mod Made
pub mod Stores
pub mod Answers
pub mod Steps
pub mod Cuts
pub mod Refusals
pub mod Replays
pub mod Openings
