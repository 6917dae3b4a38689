pub mod Adds
pub mod Team
