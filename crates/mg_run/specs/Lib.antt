pub mod Words
pub mod Hosting
pub mod Runs
