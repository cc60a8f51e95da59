pub mod Coins
pub mod Digits
pub mod Making
pub mod Meaning
pub mod Pegs
pub mod Rules
pub mod Table
pub mod Laws
