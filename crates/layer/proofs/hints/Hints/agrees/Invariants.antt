use Rattle.std.proofs.Common.{◌≡◌, ◌<◌, ◌≤◌, drop, length}
use Rattle.layer.specs.Hints.{agrees}
use Rattle.layer.proofs.hints.Hints.agrees.Given as goal

abbrev pub invariant-loop-at : goal.invariant-loop-at
invariant-loop-at g l = record {
  left : agrees (g.R.AnswerRule.meaning l.self.below) l.code (drop l.at l.self.notes) ≡ agrees (g.R.AnswerRule.meaning l.self.below) l.code l.self.notes;
  few : 0 < l.at → length l.self.notes ≤ 8;
}
