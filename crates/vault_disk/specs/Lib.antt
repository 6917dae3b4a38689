pub mod Disk
pub mod Calls
pub mod Content
pub mod Memory
pub mod Laws
pub mod View
pub mod Host
