use Rattle.std.proofs.Common.{rules, tests, arith}
use Rattle.std.proofs.lemmas.Grind.{common_steps}
use Rattle.layer.proofs.Entries.{entered_at, still_packed}
use Rattle.layer.proofs.notes.Notes.enter.Goals as goal

pub invariant_of-self : goal.invariant_of-self
invariant_of-self c = search (rules, tests, still_packed)

pub returns-clause-after : goal.returns-clause-after
returns-clause-after c = grind (arith, common_steps, entered_at)
