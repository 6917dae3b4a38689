pub mod Alone
pub mod Course
pub mod Turns
pub mod Left
pub mod Inspect
pub mod Demo
