pub mod Shelf
pub mod Files
pub mod Calls
pub mod Memory
pub mod View
pub mod Host
pub mod Words
