pub mod Flaws
pub mod Manifests
pub mod Spelling
