-- The records at consecutive places, as a list and as bytes. Assumes nothing.
use Rattle.std.proofs.Common.{◌≡◌, ℕ, zero, suc, ◌+◌, ◌*◌, ◌<◌, ◌≤◌, List, [], ◌∷◌, ◌++◌, length, get_or, drop, sym, refl, ap, ◌∙◌, subst, arith}
use Rattle.std.specs.List.{flat_map}
use Rattle.std.proofs.lemmas.List.{append_assoc, append-nil, drop_all, length-append, get_or-append-add}
use Rattle.std.proofs.lemmas.Bool.Decides.{nat_tests}
use Rattle.document.specs.declared.record.Record.{Record}
use Rattle.std.proofs.lemmas.Bool.Decides.{nat_tests}
use Rattle.document.specs.Bytes.{kind_byte, kind_in, record_at, record_bytes}
use Rattle.document.proofs.Coding.{front, two_front, four_front, two_field, four_field}

-- the records at m places from low on
abbrev pub slice : (ℕ → Record) → ℕ → ℕ → List Record
slice at low zero = []
slice at low (suc m) = at low ∷ slice at (low + 1) m

module _ (at : ℕ → Record) where
  pub slice_length : (m low : ℕ) → length (slice at low m) ≡ m
  slice_length zero low = refl
  slice_length (suc m) low = ap suc (slice_length m (low + 1))

  pub slice_append : (m k low : ℕ) → slice at low (m + k) ≡ slice at low m ++ slice at (low + m) k
  slice_append zero k low = let e : 0 + k ≡ k = omega arith in let f : low ≡ low + 0 = omega arith in ap (slice at low) e ∙ ap (λ l. slice at l k) f
  slice_append (suc m) k low =
      let e : suc m + k ≡ suc (m + k) = omega arith in
      let f : low + 1 + m ≡ low + suc m = omega arith in
      ap (slice at low) e ∙ ap (λ l. at low ∷ l) (slice_append m k (low + 1) ∙ ap (λ l. slice at (low + 1) m ++ slice at l k) f)

  pub slice_one : (low : ℕ) → slice at low 1 ≡ at low ∷ []
  slice_one low = refl

-- the byte of the kind that a byte stands for
pub kind_same : (byte : ℕ) → kind_byte (kind_in byte) ≡ byte
kind_same byte = grind (arith, nat_tests)

pub joined_append : (xs ys : List Record) → flat_map record_bytes (xs ++ ys) ≡ flat_map record_bytes xs ++ flat_map record_bytes ys
joined_append [] ys = refl
joined_append (x ∷ xs) ys = ap (λ l. record_bytes x ++ l) (joined_append xs ys) ∙ sym (append_assoc (record_bytes x) (flat_map record_bytes xs) (flat_map record_bytes ys))

pub joined_length : (xs : List Record) → length (flat_map record_bytes xs) ≡ 12 * length xs
joined_length [] = refl
joined_length (x ∷ xs) = let h = joined_length xs in length-append (record_bytes x) (flat_map record_bytes xs) ∙ omega (arith, h)

module _ (bs : List ℕ) (bytes : (i : ℕ) → get_or bs i 0 < 256) where
  -- the bytes of one record, and of those after it
  record_front : (i j : ℕ) → j ≡ 12 * i + 12 → j ≤ length bs → (rest : List ℕ) → rest ≡ drop j bs → record_bytes (record_at bs i) ++ rest ≡ drop (12 * i) bs
  record_front i j e l rest left =
      let span = four_front bs bytes (12 * i + 8) j (omega arith) l rest left in
      let value = four_front bs bytes (12 * i + 4) (12 * i + 8) (omega arith) (omega arith) _ span in
      let gap = two_front bs bytes (12 * i + 2) (12 * i + 4) (omega arith) (omega arith) _ value in
      front bs (12 * i) (12 * i + 1) refl (omega arith) _ (kind_same (get_or bs (12 * i) 0)) _ (front bs (12 * i + 1) (12 * i + 2) (omega arith) (omega arith) _ refl _ gap)

  slice_front : (m i : ℕ) → 12 * (i + m) ≤ length bs → flat_map record_bytes (slice (record_at bs) i m) ++ drop (12 * (i + m)) bs ≡ drop (12 * i) bs
  slice_front zero i l = let e : i + 0 ≡ i = omega arith in ap (λ k. drop (12 * k) bs) e
  slice_front (suc m) i l =
      let e : i + suc m ≡ i + 1 + m = omega arith in
      let rest = slice_front m (i + 1) (subst (λ k. 12 * k ≤ length bs) e l) in
      append_assoc (record_bytes (record_at bs i)) (flat_map record_bytes (slice (record_at bs) (i + 1) m)) (drop (12 * (i + suc m)) bs)
      ∙ record_front i (12 * (i + 1)) (omega arith) (omega arith) _ (ap (λ k. flat_map record_bytes (slice (record_at bs) (i + 1) m) ++ drop (12 * k) bs) e ∙ rest)

  -- bytes of whole records are those of the records in them
  pub slice_bytes : (n : ℕ) → length bs ≡ 12 * n → flat_map record_bytes (slice (record_at bs) 0 n) ≡ bs
  slice_bytes n long =
      let all = slice_front n 0 (omega arith) in
      sym (append-nil (flat_map record_bytes (slice (record_at bs) 0 n)))
      ∙ ap (λ l. flat_map record_bytes (slice (record_at bs) 0 n) ++ l) (sym (drop_all (12 * (0 + n)) bs (omega arith)))
      ∙ all

-- the fields of a record are those that its bytes stand for
abbrev pub Fit : Record → Type 0
Fit x = (kind_in (kind_byte x.kind) ≡ x.kind) × (x.gap < 65536) × (x.value < 4294967296) × (x.span < 4294967296)

abbrev pub AllFit : List Record → Type 0
AllFit [] = Unit {0}
AllFit (x ∷ xs) = Fit x × AllFit xs

pub fit_append : (xs ys : List Record) → AllFit xs → AllFit ys → AllFit (xs ++ ys)
fit_append [] ys a b = b
fit_append (x ∷ xs) ys a b = (a.0, fit_append xs ys a.1 b)

module _ (bs : List ℕ) where
  -- where a record's bytes stand, the record stands
  record_there : (before : List ℕ) (x : Record) (rest : List ℕ) (i : ℕ) → bs ≡ before ++ (record_bytes x ++ rest) → length before ≡ 12 * i → Fit x → record_at bs i ≡ x
  record_there before x rest i is long fit =
      let byte : (k j : ℕ) → j ≡ 12 * i + k → get_or bs j 0 ≡ get_or (record_bytes x ++ rest) k 0 =
      λ k j e. ap (λ l. get_or l j 0) is ∙ ap (λ n. get_or (before ++ (record_bytes x ++ rest)) n 0) (e ∙ ap (λ n. n + k) (sym long)) ∙ get_or-append-add before (record_bytes x ++ rest) k 0 in
      let kind = ap kind_in (byte 0 (12 * i) (omega arith)) ∙ fit.0 in
      let answer = byte 1 (12 * i + 1) (omega arith) in
      let gap = two_field bs (12 * i + 2) x.gap fit.1 (byte 2 _ (omega arith)) (byte 3 _ (omega arith)) in
      let value = four_field bs (12 * i + 4) x.value fit.2 (byte 4 _ (omega arith)) (byte 5 _ (omega arith)) (byte 6 _ (omega arith)) (byte 7 _ (omega arith)) in
      let span = four_field bs (12 * i + 8) x.span fit.3 (byte 8 _ (omega arith)) (byte 9 _ (omega arith)) (byte 10 _ (omega arith)) (byte 11 _ (omega arith)) in
      λ k. record { kind = kind k; answer = answer k; gap = gap k; value = value k; span = span k }

  pub slice_there : (xs : List Record) (before : List ℕ) (i : ℕ) → bs ≡ before ++ flat_map record_bytes xs → length before ≡ 12 * i → AllFit xs → slice (record_at bs) i (length xs) ≡ xs
  slice_there [] before i is long fit = refl
  slice_there (x ∷ xs) before i is long fit =
      let here = record_there before x (flat_map record_bytes xs) i is long fit.0 in
      let more = slice_there xs (before ++ record_bytes x) (i + 1) (is ∙ sym (append_assoc before (record_bytes x) (flat_map record_bytes xs))) (length-append before (record_bytes x) ∙ omega (arith, long)) fit.1 in
      λ k. here k ∷ more k
