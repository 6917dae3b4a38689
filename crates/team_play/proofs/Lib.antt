pub mod Stays
pub mod Added
pub mod Runs
pub mod Teams
