use Rattle.std.proofs.Common.{◌≡◌, ◌*◌, ◌/◌, [], length, slice_index, get_or, ap, ◌∙◌, arith}
use Rattle.document.specs.Bytes.{kind_byte, record_at}
use Rattle.document.proofs.Chunks.{chunk_record}
use Rattle.document.proofs.Slices.{kind_same}
use Rattle.document.proofs.record.record_in.Goals as goal

pub returns : goal.returns
returns c =
    let bs = c.args.records.now in
    let i = c.args.i in
    let found = c.in_ok-bytes.ensures.lookup.3 in
    let chunks = c.as_chunks.ensures in
    let same : c.from.result ≡ record_at bs i =
    c.from.ensures ∙ ap (λ group. record_at group 0) (found.1 [] ∙ ap (λ l. get_or l i []) chunks.front)
    ∙ chunk_record bs (length bs / 12) i (λ l. absurd (omega (arith, found.0, chunks.front_len))) in
    record {
      value = (omega (arith, found.0, chunks.front_len), same);
      byte = ap (λ e. kind_byte e.kind) same ∙ kind_same (slice_index bs (12 * i));
    }
