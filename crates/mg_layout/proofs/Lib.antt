pub mod MadeLaws
pub mod SeekLaws
pub mod ZipLaws
