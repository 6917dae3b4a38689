pub mod In
pub mod Distinct
pub mod Tracks
pub mod Lost
