use Rattle.std.proofs.Common.{◌/◌, length, ap, ◌∙◌}
use Rattle.std.proofs.lemmas.Result.{err_from_is_err_and}
use Rattle.document.specs.Bytes.{chunk_at}
use Rattle.document.specs.Checks.{paper_of, letter_for}
use Rattle.document.specs.Documents.{contents_paper}
use Rattle.document.proofs.Chunks.{chunk_records}
use Rattle.document.proofs.Judging.{same_letter, all_passed, record_refused}
use Rattle.document.proofs.judge.judged.Goals as goal

pub returns-in_err-check_records : goal.returns-in_err-check_records
returns-in_err-check_records c =
    let p = err_from_is_err_and c.from_residual-in_err-check_records.result c.from_residual-in_err-check_records.ensures.1 in
    let bs = c.args.sheet.contents.records.now in
    let sized = c.in_ok-check_lengths.ensures in
    rw (p.1, p.2)
    (record_refused (paper_of c.args.sheet) _ _ _ c.in_ok-kind.ensures.kind
    (ap chunk_at c.as_chunks.ensures.front ∙ chunk_records bs (length bs / 12) sized.even) c.as_chunks.ensures.front_len
    c.in_ok-kind.ensures.taken sized c.in_ok-check_title.ensures c.in_ok-check_figures.ensures
    _ c.in_err-check_records.ensures)

pub returns : goal.returns
returns c =
    let bs = c.args.sheet.contents.records.now in
    let sized = c.in_ok-check_lengths.ensures in (
      c.of_kind.ensures ∙ ap (λ l. contents_paper l c.args.sheet.contents)
          (ap letter_for c.in_ok-kind.ensures.kind ∙ same_letter c.args.sheet.letter c.in_ok-kind.ensures.taken),
      all_passed (paper_of c.args.sheet) _ _ _ c.in_ok-kind.ensures.kind
          (ap chunk_at c.as_chunks.ensures.front ∙ chunk_records bs (length bs / 12) sized.even) c.as_chunks.ensures.front_len
          c.in_ok-kind.ensures.taken sized c.in_ok-check_title.ensures c.in_ok-check_figures.ensures
          c.in_ok-check_records.ensures,
    )
