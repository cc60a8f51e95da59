-- Bytes in groups of one size, read one by one. Assumes nothing.
use Rattle.std.proofs.Common.{◌≡◌, ℕ, zero, suc, ◌+◌, ◌-◌, ◌*◌, ◌/◌, ◌%◌, ◌<◌, ◌≤◌, List, [], length, get_or, drop, sym, ap, ◌∙◌, arith}
use Rattle.std.specs.Simd.{first_chunks}
use Rattle.std.proofs.lemmas.List.{get_or-take, get_or-drop, get_or_past, length-drop}
use Rattle.document.specs.Bytes.{two_at, four_at, kind_in, record_at, chunk_at}
use Rattle.document.specs.Files.{trailer_by, trailer_in}

-- byte j of group i, and none past the bytes where there is no such group
chunk_byte : (n k : ℕ) (xs : List ℕ) (i j : ℕ) → j < n → (k ≤ i → length xs ≤ n * i + j) → get_or (get_or (first_chunks n k xs) i []) j 0 ≡ get_or xs (n * i + j) 0
chunk_byte n zero xs i j inside past = sym (get_or_past xs (n * i + j) 0 (past (omega arith)))
chunk_byte n (suc k) xs zero j inside past = get_or-take n xs j 0 inside ∙ ap (λ m. get_or xs m 0) (grind arith)
chunk_byte n (suc k) xs (suc i) j inside past =
    let more : n + (n * i + j) ≡ n * suc i + j = grind arith in
    chunk_byte n k (drop n xs) i j inside (λ l. let far = past (omega arith) in omega (arith, length-drop n xs))
    ∙ get_or-drop n xs (n * i + j) 0 ∙ ap (λ m. get_or xs m 0) more

-- numbers in a group of bytes that stands at a place among others
module _ (group bs : List ℕ) (n start : ℕ) (same : (j : ℕ) → j < n → get_or group j 0 ≡ get_or bs (start + j) 0) where
  one_in : (j at : ℕ) → at ≡ start + j → j < n → get_or group j 0 ≡ get_or bs at 0
  one_in j at is inside = same j inside ∙ ap (λ m. get_or bs m 0) (sym is)

  two_in : (j at : ℕ) → at ≡ start + j → j + 1 < n → two_at group j ≡ two_at bs at
  two_in j at is inside =
      let a = one_in j at is (omega arith) in
      let b = one_in (j + 1) (at + 1) (omega arith) inside in
      λ t. a t * 256 + b t

  four_in : (j at : ℕ) → at ≡ start + j → j + 3 < n → four_at group j ≡ four_at bs at
  four_in j at is inside =
      let a = one_in j at is (omega arith) in
      let b = one_in (j + 1) (at + 1) (omega arith) (omega arith) in
      let c = one_in (j + 2) (at + 2) (omega arith) (omega arith) in
      let d = one_in (j + 3) (at + 3) (omega arith) inside in
      λ t. a t * 16777216 + b t * 65536 + c t * 256 + d t

module _ (bs : List ℕ) (k : ℕ) where
  -- a record read from its own twelve bytes
  pub chunk_record : (i : ℕ) → (k ≤ i → length bs ≤ 12 * i) → chunk_at (first_chunks 12 k bs) i ≡ record_at bs i
  chunk_record i past =
      let group = get_or (first_chunks 12 k bs) i [] in
      let same = λ (j : ℕ) (inside : j < 12). chunk_byte 12 k bs i j inside (λ l. let far = past l in omega arith) in
      let kind = one_in group bs 12 (12 * i) same 0 (12 * i) (omega arith) (omega arith) in
      let answer = one_in group bs 12 (12 * i) same 1 (12 * i + 1) (omega arith) (omega arith) in
      let gap = two_in group bs 12 (12 * i) same 2 (12 * i + 2) (omega arith) (omega arith) in
      let value = four_in group bs 12 (12 * i) same 4 (12 * i + 4) (omega arith) (omega arith) in
      let span = four_in group bs 12 (12 * i) same 8 (12 * i + 8) (omega arith) (omega arith) in
      λ t. record { kind = kind_in (kind t); answer = answer t; gap = gap t; value = value t; span = span t }

  -- the records of whole groups, one and all
  pub chunk_records : length bs ≡ 12 * k → chunk_at (first_chunks 12 k bs) ≡ record_at bs
  chunk_records long = λ t i. chunk_record i (λ l. omega arith) t

-- the trailer in the last six groups of four bytes
module _ (bs : List ℕ) (long : 24 ≤ length bs) where
  word_byte : (i j : ℕ) → i < 6 → j < 4 → get_or (get_or (drop (length bs / 4 - 6) (first_chunks 4 (length bs / 4) (drop (length bs % 4) bs))) i []) j 0 ≡ get_or bs (length bs - 24 + 4 * i + j) 0
  word_byte i j here inside =
      let there : length bs % 4 + (4 * (length bs / 4 - 6 + i) + j) ≡ length bs - 24 + 4 * i + j = omega arith in
      ap (λ g. get_or g j 0) (get_or-drop (length bs / 4 - 6) (first_chunks 4 (length bs / 4) (drop (length bs % 4) bs)) i [])
      ∙ chunk_byte 4 (length bs / 4) (drop (length bs % 4) bs) (length bs / 4 - 6 + i) j inside (λ l. absurd (omega arith))
      ∙ get_or-drop (length bs % 4) bs (4 * (length bs / 4 - 6 + i) + j) 0
      ∙ ap (λ m. get_or bs m 0) there

  word_is : (i at : ℕ) → i < 6 → at ≡ length bs - 24 + 4 * i → four_at (get_or (drop (length bs / 4 - 6) (first_chunks 4 (length bs / 4) (drop (length bs % 4) bs))) i []) 0 ≡ four_at bs at
  word_is i at here is = four_in _ bs 4 (length bs - 24 + 4 * i) (λ j inside. word_byte i j here inside) 0 at (omega arith) (omega arith)

  pub trailer_there : trailer_by (drop (length bs / 4 - 6) (first_chunks 4 (length bs / 4) (drop (length bs % 4) bs))) ≡ trailer_in bs
  trailer_there =
      let t = length bs - 24 in
      let head = get_or (drop (length bs / 4 - 6) (first_chunks 4 (length bs / 4) (drop (length bs % 4) bs))) 0 [] in
      let same = λ (j : ℕ) (inside : j < 4). word_byte 0 j (omega arith) inside in
      let letter = one_in head bs 4 (t + 4 * 0) same 0 t (omega arith) (omega arith) in
      let edition = one_in head bs 4 (t + 4 * 0) same 1 (t + 1) (omega arith) (omega arith) in
      let title = two_in head bs 4 (t + 4 * 0) same 2 (t + 2) (omega arith) (omega arith) in
      let count = word_is 1 (t + 4) (omega arith) (omega arith) in
      let first = word_is 2 (t + 8) (omega arith) (omega arith) in
      let second = word_is 3 (t + 12) (omega arith) (omega arith) in
      let distance = word_is 4 (t + 16) (omega arith) (omega arith) in
      let game = word_is 5 (t + 20) (omega arith) (omega arith) in
      λ k. record { letter = letter k; edition = edition k; title = title k; count = count k; first = first k; second = second k; distance = distance k; game = game k }
