use Rattle.std.proofs.Common.{◌≡◌, [], slice_index, slice_index_or, arith}
use Rattle.document.specs.Bytes.{two_at, four_at}
use Rattle.document.proofs.file.TrailerFromArrayArrayU846.from.Goals as goal

pub returns : goal.returns
returns c =
    let words = c.args.words in
    let title : c.from_be_bytes.result ≡ two_at (slice_index_or words 0 []) 2 = omega (arith, c.from_be_bytes.ensures) in
    let count : c.from_be_bytes-2.result ≡ four_at (slice_index_or words 1 []) 0 = omega (arith, c.from_be_bytes-2.ensures) in
    let first : c.from_be_bytes-3.result ≡ four_at (slice_index_or words 2 []) 0 = omega (arith, c.from_be_bytes-3.ensures) in
    let second : c.from_be_bytes-4.result ≡ four_at (slice_index_or words 3 []) 0 = omega (arith, c.from_be_bytes-4.ensures) in
    let distance : c.from_be_bytes-5.result ≡ four_at (slice_index_or words 4 []) 0 = omega (arith, c.from_be_bytes-5.ensures) in
    let game : c.from_be_bytes-6.result ≡ four_at (slice_index_or words 5 []) 0 = omega (arith, c.from_be_bytes-6.ensures) in
    let head = slice_index_or words 0 [] in
    λ k. record { letter = slice_index head 0; edition = slice_index head 1; title = title k; count = count k; first = first k; second = second k; distance = distance k; game = game k }
