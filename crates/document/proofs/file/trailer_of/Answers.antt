use Rattle.std.proofs.Common.{ap, ◌∙◌, ◌-◌, drop, arith}
use Rattle.document.specs.Files.{trailer_by}
use Rattle.document.proofs.Chunks.{trailer_there}
use Rattle.document.proofs.file.trailer_of.Goals as goal

pub returns-in-Some-clause-trailer : goal.returns-in-Some-clause-trailer
returns-in-Some-clause-trailer c =
    let whole = c.in-Some.ensures.cases.1 in
    let back = c.as_rchunks.ensures.back in
    c.from.ensures
    ∙ ap trailer_by (whole.same ∙ (λ k. drop (c.as_rchunks.ensures.back_len k - 6) (back k)))
    ∙ trailer_there c.args.file.now (omega arith)
