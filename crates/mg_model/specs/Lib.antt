pub mod Mutations
pub mod State
pub mod History
pub mod Placed
pub mod Fits
