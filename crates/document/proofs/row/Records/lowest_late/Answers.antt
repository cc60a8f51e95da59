use Rattle.std.proofs.Common.{ap, ◌∙◌, arith}
use Rattle.document.specs.Bytes.{chunk_at}
use Rattle.document.specs.Forms.{key}
use Rattle.document.proofs.Rows.{turn_broken, turn_late, turn_rising, walk_done}
use Rattle.document.proofs.row.Records.lowest_late.Goals as goal
use Rattle.document.proofs.row.Records.lowest_late.Goals.{else-low-next-via-then-low-next+else-key_of, else-low-next-via-else-low-next}

pub returns-then-span-end : goal.returns-then-span-end
returns-then-span-end c =
    turn_broken c.args.self.kind (chunk_at c.args.self.groups.now) c.args.low c.loop-end.found c.loop-end.end c.args.i _
    c.loop-end.invariant.2 c.record-child.ensures (omega arith) (omega arith) _

pub loop-end-preserved-then-key_of : goal.loop-end-preserved-then-key_of
loop-end-preserved-then-key_of c = (
  omega arith,
  omega arith,
  turn_late c.args.self.kind (chunk_at c.args.self.groups.now) c.args.low c.loop-end.found c.loop-end.end c.args.i _
      c.loop-end.invariant.2 c.record-child.ensures (omega arith) (omega arith) (omega arith)
      (omega (arith, c.key_of.ensures, c.key_of-then-low-next.ensures ∙ ap (key c.args.self.kind) c.record.ensures)),
)

pub loop-end-preserved : goal.loop-end-preserved
loop-end-preserved c = (
  omega arith,
  omega arith,
  turn_rising c.args.self.kind (chunk_at c.args.self.groups.now) c.args.low c.loop-end.found c.loop-end.end c.args.i _
      c.loop-end.invariant.2 c.record-child.ensures (omega arith) (omega arith)
      (λ more. elim c.else-low-next.branch [
        | else-low-next-via-then-low-next+else-key_of w ↦ omega (arith, w.if-key_of.false, w.key_of.ensures, w.key_of-then-low-next.ensures ∙ ap (key c.args.self.kind) w.record.ensures)
        | else-low-next-via-else-low-next w ↦ absurd (omega (arith, w.if-low-next.false))
      ]),
)

pub returns : goal.returns
returns c = walk_done c.args.self.kind (chunk_at c.args.self.groups.now) c.args.low c.loop-end.found c.loop-end.end c.args.i c.loop-end.invariant.2 (omega arith)
