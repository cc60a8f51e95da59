pub mod Balance
pub mod Report
