pub mod Walking
pub mod Places
pub mod WrittenAgain
pub mod Repeating
pub mod Bounds
pub mod Gathering
pub mod Front
