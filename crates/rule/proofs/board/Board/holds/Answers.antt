use Rattle.std.proofs.Common.{arith}
use Rattle.std.proofs.lemmas.Bool.Decides.{nat_tests}
use Rattle.rule.specs.Pegs.{is_row}
use Rattle.rule.proofs.board.Board.holds.Goals as goal

pub returns-then-self : goal.returns-then-self
unfolding is_row
returns-then-self c = grind (arith, nat_tests)

pub returns-else-self : goal.returns-else-self
unfolding is_row
returns-else-self c = grind (arith, nat_tests)

pub returns-else-number-self : goal.returns-else-number-self
unfolding is_row
returns-else-number-self c = grind (arith, nat_tests)
