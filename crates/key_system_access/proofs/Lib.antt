pub mod AccessLemmas
pub mod ConfigsLemmas
pub mod TextLemmas
