pub mod Sealed
pub mod Layout
pub mod Lengths
pub mod Refusals
pub mod Views
pub mod Answers
