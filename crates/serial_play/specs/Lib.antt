pub mod Served
pub mod Serial
pub mod Law
pub mod Behind
pub mod Answer
