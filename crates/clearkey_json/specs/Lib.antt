pub mod Base64url
pub mod Json
pub mod KeySet
pub mod Request
