pub mod Cuts
pub mod FieldLaws
pub mod Numbers
pub mod ScriptLaws
pub mod ScriptLemmas
pub mod Spellings
pub mod TokenLaws
