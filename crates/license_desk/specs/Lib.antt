pub mod Words
pub mod Views
pub mod Rows
pub mod Table
pub mod Licence
pub mod ReadBack
pub mod Answer
