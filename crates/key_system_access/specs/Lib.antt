pub mod Access
pub mod Configs
pub mod ConfigText
pub mod ContentType
pub mod Utf8
