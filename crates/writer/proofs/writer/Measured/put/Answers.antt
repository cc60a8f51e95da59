use Rattle.std.proofs.Common.{[], ◌++◌, length, drop, refl, ap, ◌∙◌, arith}
use Rattle.std.proofs.lemmas.List.{length-append, append_assoc}
use Rattle.document.specs.Bytes.{size}
use Rattle.document.specs.Checks.{paper_of}
use Rattle.writer.proofs.Written.{put_more}
use Rattle.writer.proofs.writer.Measured.put.Goals as goal

pub returns-clause-bytes : goal.returns-clause-bytes
returns-clause-bytes c =
    let paper = paper_of c.args.self.sheet in
    let title = paper.title in
    let records = paper.records in
    let before = c.args.out.now in
    let last = c.as_flattened.result.now in
    let is = c.as_flattened.ensures.value ∙ c.trailer-last.ensures.bytes in
    let one = put_more [] title before before _ 0 (length title) refl refl c.put_part.ensures (omega arith) in
    let two = put_more title records before _ _ (length title) _ refl one c.put_part-2.ensures refl in
    let three = put_more (title ++ records) last before _ _ _ (size paper) (length-append title records) two c.put_part-3.ensures (omega (arith, ap length is)) in
    three ∙ ap (λ l. l ++ drop (size paper) before) (append_assoc title records last ∙ ap (λ l. title ++ (records ++ l)) is)
