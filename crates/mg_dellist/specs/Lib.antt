pub mod Lists
pub mod Lookup
