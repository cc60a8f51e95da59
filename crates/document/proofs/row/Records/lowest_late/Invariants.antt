use Rattle.std.proofs.Common.{ℕ, ◌≤◌, Option, Result}
use Rattle.document.specs.declared.row.Misfit.{Misfit}
use Rattle.document.specs.Bytes.{chunk_at}
use Rattle.document.specs.Walks.{Tells}
use Rattle.document.proofs.Rows.{over}
use Rattle.document.proofs.row.Records.lowest_late.Given as goal

-- whatever the records up to the end tell, with what was found so far they tell it of all up to i
abbrev pub invariant-loop-end : goal.invariant-loop-end
invariant-loop-end l =
    (l.low ≤ l.end) × (l.end ≤ l.i)
    × ((r : Result (Option ℕ) Misfit) → Tells l.self.kind (chunk_at l.self.groups.now) l.low l.end r → Tells l.self.kind (chunk_at l.self.groups.now) l.low l.i (over l.found r))

abbrev pub decreases-loop-end : goal.decreases-loop-end
decreases-loop-end l = l.end
