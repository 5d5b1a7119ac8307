pub mod HistoryLemmas
pub mod ListLemmas
pub mod MarkLemmas
pub mod ManyParts
mod CutLemmas
mod StateLemmas
mod AllowedLemmas
mod LimitLemmas
mod CallerLemmas
mod FitsLemmas
