pub mod Bytes
pub mod Entries
