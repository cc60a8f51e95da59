use Rattle.std.proofs.Common.{◌≡◌, ◌-◌, take, sym, ◌∙◌, subst, arith, None}
use Rattle.std.proofs.lemmas.Result.{MatchResult-weaker, err_from_is_err_and}
use Rattle.document.specs.Checks.{paper_of}
use Rattle.document.specs.Files.{Reads, file_tests}
use Rattle.document.proofs.Orders.{not_both}
use Rattle.writer.proofs.round.reread.Goals as goal

pub returns : goal.returns
returns c =
    let n = c.in_ok-bytes.bytes in
    let w = c.in_ok-bytes.ensures in
    let e : n ≡ n - 0 = omega arith in
    let back = subst (λ k. Reads None (take k c.write.new.out) (paper_of c.args.sheet)) e w.back in
    MatchResult-weaker c.read.result c.read.ensures
    (λ d h. (h.says ∙ sym back.says, w.passed))
    (λ f h. absurd (not_both (file_tests None (take (n - 0) c.write.new.out)) f.fault back.passed h.first))

pub returns-in_err-bytes : goal.returns-in_err-bytes
returns-in_err-bytes c =
    let p = err_from_is_err_and c.from_residual.result c.from_residual.ensures.1 in
    rw (p.1, p.2) c.in_err-bytes.ensures.1
