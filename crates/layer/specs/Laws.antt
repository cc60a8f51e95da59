-- Why each layer keeps the law when the rule below does: proofs that the layers cite. A reader has to believe none of it.
pub mod BlurLaws
pub mod HintLaws
