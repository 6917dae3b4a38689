pub mod RowLemmas
pub mod TableLemmas
pub mod KeysLemmas
pub mod PlainLemmas
pub mod TreeLemmas
pub mod ReadLemmas
pub mod LicenceLemmas
