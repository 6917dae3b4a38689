pub mod Blocks
pub mod KeyStream
pub mod Chain
