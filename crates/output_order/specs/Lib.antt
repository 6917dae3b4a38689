pub mod Log
pub mod Summary
pub mod TrackFile
pub mod Lane
pub mod Complete
pub mod Staffed
pub mod Law
pub mod News
