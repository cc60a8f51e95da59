use Rattle.std.proofs.Common.{ℕ, length, sym, refl, subst, None}
use Rattle.std.proofs.lemmas.Result.{MatchResult-weaker, err_from_is_err_and}
use Rattle.document.specs.Files.{Reads}
use Rattle.writer.proofs.Written.{rewritten, not_rewritten, not_reread}
use Rattle.writer.proofs.round.rewrite.Goals as goal

pub returns : goal.returns
returns c =
    let bytes = λ (i : ℕ). (c.type_inv.file i).fits in
    let read = subst (Reads None c.args.file.now) (sym c.into.ensures) c.in_ok-document.ensures in
    MatchResult-weaker c.write.result c.write.ensures
    (λ n h. rewritten c.args.file.now bytes _ read n _ _ h)
    (λ f h. (h.0, not_rewritten c.args.file.now bytes _ read f.fault _ h.1))

pub returns-in_err-document : goal.returns-in_err-document
returns-in_err-document c =
    let p = err_from_is_err_and c.from_residual.result c.from_residual.ensures.1 in
    rw (p.1, p.2) (refl, not_reread c.args.file.now (length c.args.out.now) _ c.in_err-document.ensures)
