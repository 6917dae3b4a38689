pub mod ItemsAt
pub mod Members
