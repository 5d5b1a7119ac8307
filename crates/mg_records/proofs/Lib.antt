pub mod BlockLaws
mod ContentsReading
pub mod HandleLaws
pub mod FileLaws
pub mod FooterCounts
mod ItemReading
pub mod ListLaws
pub mod LoadingLaws
pub mod ListingLaws
pub mod LookupLaws
pub mod PageLaws
pub mod RecordLaws
pub mod RefusalLaws
pub mod ScanLaws
pub mod WholeLaws
pub mod WithinLaws
pub mod WriterLaws
