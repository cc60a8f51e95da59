pub mod Examples
pub mod Strategy
pub mod Theorems
