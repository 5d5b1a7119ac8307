pub mod RunLemmas
pub mod StepLemmas
pub mod StandLemmas
pub mod GivesLemmas
pub mod MadeLaws
pub mod OpenLaws
pub mod PlaceLaws
pub mod ReplayLaws
pub mod CutLemmas
mod OneCut
