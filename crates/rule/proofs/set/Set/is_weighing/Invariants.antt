use Rattle.std.proofs.Common.{◌≡◌, ◌+◌}
use Rattle.rule.specs.Digits.{digits, occurs}
use Rattle.rule.proofs.set.Set.is_weighing.Given as goal

abbrev pub invariant-loop-digit : goal.invariant-loop-digit
invariant-loop-digit l = record {
  lefts : l.left + occurs 1 l.digit-iterator ≡ occurs 1 (digits l.self.coins 3 l.number);
  rights : l.right + occurs 2 l.digit-iterator ≡ occurs 2 (digits l.self.coins 3 l.number);
}
