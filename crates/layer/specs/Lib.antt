pub mod Blur
pub mod Hints
pub mod Notes
pub mod Laws
