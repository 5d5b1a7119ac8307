pub mod Tokens
pub mod Fields
pub mod Script
pub mod Lines
pub mod Transcript
