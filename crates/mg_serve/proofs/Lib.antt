mod Answering
mod Counts
mod Told
mod Shown
mod Causes
mod Standing
mod Holding
pub mod Pieces
mod Rising
mod ServingLemmas
mod Ending
mod Needing
