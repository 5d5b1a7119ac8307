pub mod BloomLaws
pub mod FoldLaws
pub mod OneFilter
