pub mod Bytes
pub mod Forms
pub mod Walks
pub mod Order
pub mod Checks
pub mod Documents
pub mod Files
pub mod Trees
