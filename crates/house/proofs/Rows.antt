-- One computed test of all rows, and that it speaks of each. Assumes nothing.
use Rattle.std.proofs.Common.{◌≡◌, Bool, true, ◌&&◌, List, [], ◌∷◌, refl, ap, ◌∙◌, ⊎_elim}
use Rattle.std.proofs.lemmas.Bool.{and_parts}
use Rattle.rule.specs.Coins.{is_weighing, weighed}
use Rattle.rule.specs.Pegs.{is_row, pairs, peg_answer}
use Rattle.house.specs.Figures.{Figure, holds, figures, Among, EveryFigure}

-- all rows of a list hold
abbrev all_hold : List Figure → Bool
all_hold [] = true
all_hold (row ∷ rest) = holds row && all_hold rest

each_holds : (rows : List Figure) → all_hold rows ≡ true → (row : Figure) → Among row rows → holds row ≡ true
each_holds [] test row among = absurd among
each_holds (first ∷ rest) test row among =
    let parts = and_parts (holds first) (all_hold rest) test in
    ⊎_elim (λ same. ap holds same ∙ parts.0) (each_holds rest parts.1 row) among

pub every_figure : EveryFigure
unfolding is_row peg_answer pairs is_weighing weighed
every_figure = each_holds figures refl
