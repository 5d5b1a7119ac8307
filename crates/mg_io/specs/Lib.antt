pub mod Fakes
pub mod Told
