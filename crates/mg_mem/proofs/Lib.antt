pub mod KeyLemmas
pub mod InsertLemmas
pub mod CopyLemmas
pub mod OrderLemmas
pub mod Crossing
