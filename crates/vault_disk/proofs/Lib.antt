pub mod Puts
pub mod Replay
pub mod Moments
pub mod Written
