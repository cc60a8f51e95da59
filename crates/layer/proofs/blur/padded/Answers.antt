use Rattle.std.proofs.Common.{length}
use Rattle.layer.proofs.Bytes.{padded_read}
use Rattle.layer.proofs.blur.padded.Goals as goal

pub returns : goal.returns
returns c a = rw c.copy_from_slice.ensures.after (padded_read c.args.bytes.now (length c.args.bytes.now) 64 a)
