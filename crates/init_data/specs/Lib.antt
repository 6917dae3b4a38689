pub mod InitData
pub mod Pssh
