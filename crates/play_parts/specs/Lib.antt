pub mod Asks
pub mod Parts
pub mod Crew
pub mod Whole
