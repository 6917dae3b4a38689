pub mod BlockLemmas
pub mod CountLemmas
pub mod CoverLemmas
pub mod ExactLemmas
pub mod SpotLemmas
pub mod WalkLemmas
