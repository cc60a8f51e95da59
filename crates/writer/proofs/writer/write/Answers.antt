use Rattle.std.proofs.Common.{◌≡◌, ◌++◌, drop, sym, subst, arith}
use Rattle.document.specs.Bytes.{encode}
use Rattle.document.specs.Checks.{paper_of}
use Rattle.writer.proofs.Written.{written_again}
use Rattle.writer.proofs.writer.write.Goals as goal

pub returns : goal.returns
returns c =
    let paper = paper_of c.args.sheet in
    let size = c.size-bytes.ensures in
    written_again paper _ _ _ (λ i. (c.type_inv.out i).fits) c.put.ensures.fits size (omega (arith, size))
    (subst (λ n. c.put.new.out ≡ encode paper ++ drop n c.args.out.now) (sym size) c.put.ensures.bytes)
    c.in_ok-judged.ensures.1
