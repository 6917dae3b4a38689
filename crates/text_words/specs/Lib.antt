pub mod Fronts
pub mod Lines
pub mod Words
pub mod Pieces
pub mod Numbers
pub mod Hexadecimal
