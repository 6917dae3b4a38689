pub mod JsonLemmas
pub mod KeySetLemmas
pub mod RequestLemmas
