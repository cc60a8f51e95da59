use Rattle.std.proofs.Common.{length, arith}
use Rattle.document.specs.Bytes.{chunk_at}
use Rattle.document.proofs.Blames.{faulty_below}
use Rattle.document.proofs.sheet.check_records.Goals as goal

pub overflow_cast-place : goal.overflow_cast-place
overflow_cast-place c = omega (arith, faulty_below c.args.records.kind (chunk_at c.args.records.groups.now) (length c.args.records.groups.now) c.in-Some.place c.in-Some.ensures.0)
