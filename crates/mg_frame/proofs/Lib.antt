pub mod BigEndianLaws
pub mod FrameLaws
pub mod FramesLaws
pub mod FrontLaws
pub mod SplitLaws
