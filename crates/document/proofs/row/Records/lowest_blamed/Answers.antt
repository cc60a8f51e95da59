use Rattle.std.proofs.Common.{length}
use Rattle.std.proofs.lemmas.Bool.{both_ways}
use Rattle.document.proofs.Blames.{blames_none, blames_itself, blames_late}
use Rattle.document.proofs.row.Records.lowest_blamed.Goals as goal

pub returns-in-Ok-Some : goal.returns-in-Ok-Some
returns-in-Ok-Some c =
    blames_late c.args.self.kind _ (length c.args.self.groups.now) c.args.i _ c.record-item.ensures c.if-span-i.false _ (rw c.in-Ok-Some.field-0-is at c.in-Ok-Some.ensures)

pub returns-in-Ok-None : goal.returns-in-Ok-None
returns-in-Ok-None c =
    blames_none c.args.self.kind _ (length c.args.self.groups.now) c.args.i _ c.record-item.ensures c.if-span-i.false (rw c.in-Ok-None.field-0-is at c.in-Ok-None.ensures)
    (c.is_plain.ensures.0 c.if-is_plain.true)

pub returns-in-Ok-None-2 : goal.returns-in-Ok-None-2
returns-in-Ok-None-2 c =
    blames_itself c.args.self.kind _ (length c.args.self.groups.now) c.args.i _ c.record-item.ensures c.if-span-i.false (rw c.in-Ok-None.field-0-is at c.in-Ok-None.ensures)
    (λ plain. both_ways c.is_plain.result c.if-is_plain.false (c.is_plain.ensures.1 plain))
