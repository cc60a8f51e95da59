use Rattle.std.proofs.lemmas.Result.{err_from_is_err_and}
use Rattle.document.proofs.Opening.{title_refused}
use Rattle.document.proofs.file.opened.Goals as goal

pub returns-in_err-check_title : goal.returns-in_err-check_title
returns-in_err-check_title c =
    let p = err_from_is_err_and c.from_residual-in_err-check_title.result c.from_residual-in_err-check_title.ensures.1 in
    let told = c.in_ok-trailer.ensures in
    let title = c.in_err-check_title.ensures in
    rw (p.1, p.2)
    (title_refused c.args.only c.args.file.now _ _ told.trailer told.room c.in_ok-check_edition.ensures c.in_ok-check_agreement.ensures title.0 title.1)
