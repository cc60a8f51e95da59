use Rattle.document.proofs.Reading.{contents_alone}
use Rattle.document.proofs.reader.read_of_kind.Goals as goal

pub returns : goal.returns
returns c = rw c.contents.ensures (contents_alone c.args.kind c.args.file.now c.in_ok-document.document c.in_ok-document.ensures)
