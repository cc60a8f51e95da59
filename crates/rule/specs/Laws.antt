-- Why each rule keeps the law: proofs that the rules cite. A reader has to believe none of it.
pub mod Below
pub mod CoinLaws
pub mod Kept
pub mod Pairs
pub mod PegLaws
pub mod Rows
pub mod TableLaws
pub mod Totals
