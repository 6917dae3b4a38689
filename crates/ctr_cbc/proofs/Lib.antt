pub mod BlockLemmas
pub mod StreamLemmas
pub mod ChainLemmas
pub mod JoinLemmas
pub mod BackLemmas
