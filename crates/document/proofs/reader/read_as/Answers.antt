use Rattle.std.proofs.Common.{ℕ}
use Rattle.std.proofs.lemmas.Result.{MatchResult-weaker, err_from_is_err_and}
use Rattle.document.specs.Documents.{document_paper}
use Rattle.document.proofs.Reading.{reads, reading_refused, opening_refused}
use Rattle.document.proofs.reader.read_as.Goals as goal

pub returns : goal.returns
returns c =
    let opened = c.in_ok-sheet.ensures in
    let bytes = λ (i : ℕ). (c.type_inv.file i).fits in
    MatchResult-weaker c.judged.result c.judged.ensures
    (λ d h. reads c.args.only c.args.file.now bytes opened.1 _ (document_paper d) opened.0 h.0 h.1)
    (λ f h. reading_refused c.args.only c.args.file.now bytes opened.1 _ f.fault opened.0 h)

pub returns-in_err-sheet : goal.returns-in_err-sheet
returns-in_err-sheet c =
    let p = err_from_is_err_and c.from_residual.result c.from_residual.ensures.1 in
    rw (p.1, p.2) (opening_refused c.args.only c.args.file.now _ c.in_err-sheet.ensures)
