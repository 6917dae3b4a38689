pub mod TextsAppended
pub mod FilesRead
pub mod FilesWritten
pub mod DistinctNames
pub mod ReadInOrder
pub mod CommandEnds
pub mod DoneWhole
