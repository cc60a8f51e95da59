use Rattle.std.proofs.Common.{◌≡◌, ◌+◌, length}
use Rattle.std.specs.Iterator.Adapters.{zip_first, zip_second}
use Rattle.rule.specs.Digits.{digits, occurs}
use Rattle.rule.specs.Pegs.{equal_places}
use Rattle.rule.proofs.Lasts.{Tallied}
use Rattle.rule.proofs.board.Board.compare.Given as goal

abbrev pub invariant-loop-own : goal.invariant-loop-own
invariant-loop-own l = record {
  lefts : Tallied l.left (zip_first l.own-iterator) (λ k. occurs k (digits l.self.pegs l.self.colours l.code));
  rights : Tallied l.right (zip_second l.own-iterator) (λ k. occurs k (digits l.self.pegs l.self.colours l.guess));
  beside : length (zip_first l.own-iterator) ≡ length (zip_second l.own-iterator);
  blacks : l.black + equal_places (zip_first l.own-iterator) (zip_second l.own-iterator) ≡ equal_places (digits l.self.pegs l.self.colours l.code) (digits l.self.pegs l.self.colours l.guess);
}
