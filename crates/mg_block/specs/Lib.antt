pub mod Block
pub mod Builder
pub mod Cursor
pub mod Item
pub mod Matches
pub mod Place
pub mod Search
pub mod View
