pub mod Table
pub mod TableState
pub mod Statuses
pub mod Loops
pub mod Picked
pub mod Laws
pub mod Index
