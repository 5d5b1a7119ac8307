pub mod FieldLaws
pub mod HandleLaws
pub mod IndexLaws
pub mod LoadingLaws
pub mod LoadingSteps
pub mod WritingLaws
