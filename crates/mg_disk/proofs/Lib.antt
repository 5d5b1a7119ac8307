pub mod Moments
pub mod NameLaws
