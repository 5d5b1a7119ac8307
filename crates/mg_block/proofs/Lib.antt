pub mod Order
pub mod Spelling
pub mod Fields
pub mod Loops
pub mod Views
pub mod Finding
pub mod Listing
pub mod Readings
