pub mod Counting
pub mod Counts
pub mod Cut
pub mod Examples
pub mod Plays
pub mod Refutations
