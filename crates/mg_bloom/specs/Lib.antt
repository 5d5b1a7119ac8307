pub mod Bloom
pub mod Folding
