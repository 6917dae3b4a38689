pub mod Utf8Lemmas
pub mod LabelLemmas
pub mod Walk
pub mod Keeps
pub mod TellLemmas
pub mod Pacing
