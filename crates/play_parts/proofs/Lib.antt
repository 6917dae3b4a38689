pub mod Reading
pub mod Steps
pub mod Feeding
pub mod Scripts
pub mod Lines
pub mod Behind
pub mod Joined
pub mod Lanes
pub mod Crews
mod Tail
mod Team
pub mod Complete
mod Staff
