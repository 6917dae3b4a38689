pub mod Tables
pub mod Reports
pub mod Differ
pub mod Once
pub mod Sorted
pub mod Alike
pub mod Numbers
pub mod Holders
