pub mod Bytes
pub mod Field
pub mod Sbox
pub mod State
pub mod KeyExpansion
pub mod Cipher
pub mod InverseCipher
pub mod Words
