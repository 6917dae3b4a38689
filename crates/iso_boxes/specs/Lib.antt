pub mod Walk
pub mod Fields
pub mod Writing
pub mod Reading
pub mod Children
pub mod Laws
