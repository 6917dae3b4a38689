pub mod FirstFault
pub mod Fed
pub mod KeyId
pub mod WellFormed
