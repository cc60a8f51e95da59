use Rattle.std.proofs.Common.{◌≡◌}
use Rattle.rule.specs.Digits.{digits, occurs}
use Rattle.rule.proofs.Lasts.{Tallied, all_once}
use Rattle.rule.proofs.board.Board.all_different.Given as goal

abbrev pub invariant-loop-colour : goal.invariant-loop-colour
invariant-loop-colour l = record {
  counted : Tallied l.counts l.colour-iterator (λ k. occurs k (digits l.self.pegs l.self.colours l.number));
  once : l.different ≡ all_once l.counts;
}
