-- Which answer of a coin game stands for what the balance shows. Assumes nothing.
use Rattle.std.specs.Prelude.{ℕ}
use Rattle.figures.specs.declared.coins.Outcome.{Outcome}
use Rattle.figures.specs.declared.coins.Outcome.TheVariants.{Level, LeftHeavier, RightHeavier}

abbrev pub answer_of : Outcome → ℕ
answer_of Level = 0
answer_of LeftHeavier = 1
answer_of RightHeavier = 2
