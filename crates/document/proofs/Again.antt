-- The bytes of a paper in order, read again. Assumes nothing.
use Rattle.std.proofs.Common.{◌≡◌, ℕ, ◌+◌, ◌-◌, ◌*◌, ◌/◌, ◌%◌, ◌<◌, ◌≤◌, List, ◌++◌, length, get_or, take, sym, refl, ap, ◌∙◌, subst, inl, inr, ⊎_elim, arith, Option, Some, None}
use Rattle.std.proofs.lemmas.List.{append_assoc, take_at, drop_at, length-append, get_or-append-add, get_or_append_left, get_or_past}
use Rattle.std.proofs.lemmas.Bool.{cases_lt}
use Rattle.document.specs.declared.file.Trailer.{Trailer}
use Rattle.fault.specs.declared.Fault.{Fault}
use Rattle.document.specs.declared.kind.Kind.{Kind}
use Rattle.document.specs.declared.kind.Kind.TheVariants.{Tree, Refutation}
use Rattle.document.specs.Bytes.{four_at, record_at, Paper, ending, encode, size}
use Rattle.document.specs.Forms.{Faulty}
use Rattle.document.specs.Order.{Passed, Refused}
use Rattle.document.specs.Checks.{kind_of, Taken, Sized, Printable, Ranged, paper_tests}
use Rattle.document.specs.Files.{trailer_in, Agreed, paper_by, paper_in, file_tests, Rejects}
use Rattle.document.proofs.Coding.{two_field, four_field}
use Rattle.document.specs.Trees.{Stands}
use Rattle.document.proofs.Growing.{tree_grown}
use Rattle.document.proofs.Orders.{not_both}
use Rattle.document.proofs.Planting.{planted_length, planted_clear}

pub taken_either : (only : Option Kind) (letter : ℕ) → Taken only letter → Taken None letter
taken_either None letter h = h
taken_either (Some Tree) letter h = inl h
taken_either (Some Refutation) letter h = inr h

pub size_is : (p : Paper) → length (encode p) ≡ size p
size_is p = simp length-append (omega arith)

-- what the trailer of a paper says
abbrev said : Paper → Trailer
said p =
    record {
      letter = p.letter;
      edition = 1;
      title = length p.title;
      count = length p.records / 12;
      first = p.first;
      second = p.second;
      distance = 12 * (length p.records / 12);
      game = p.game;
    }

module _ (p : Paper) (sized : Sized p.title p.records) (first : p.first < 4294967296) (second : p.second < 4294967296) (game : p.game < 4294967296) where
  at_last : (k i : ℕ) → i ≡ length p.title + length p.records + k → get_or (encode p) i 0 ≡ get_or (ending p) k 0
  at_last k i e =
      ap (λ m. get_or (encode p) m 0) (e ∙ ap (λ m. m + k) (sym (length-append p.title p.records)))
      ∙ ap (λ l. get_or l (length (p.title ++ p.records) + k) 0) (sym (append_assoc p.title p.records (ending p)))
      ∙ get_or-append-add (p.title ++ p.records) (ending p) k 0

  start : length (encode p) - 24 ≡ length p.title + length p.records
  start = omega (arith, size_is p)

  four_last : (k n : ℕ) → n < 4294967296 → get_or (ending p) k 0 ≡ n / 16777216 % 256
      → get_or (ending p) (k + 1) 0 ≡ n / 65536 % 256
      → get_or (ending p) (k + 2) 0 ≡ n / 256 % 256
      → get_or (ending p) (k + 3) 0 ≡ n % 256
      → four_at (encode p) (length (encode p) - 24 + k) ≡ n
  four_last k n l a b c d =
      four_field (encode p) (length (encode p) - 24 + k) n l (at_last k _ (omega (arith, start)) ∙ a) (at_last (k + 1) _ (omega (arith, start)) ∙ b) (at_last (k + 2) _ (omega (arith, start)) ∙ c) (at_last (k + 3) _ (omega (arith, start)) ∙ d)

  trailer_again : trailer_in (encode p) ≡ said p
  trailer_again =
      let letter = at_last 0 (length (encode p) - 24) (omega (arith, start)) in
      let edition = at_last 1 (length (encode p) - 24 + 1) (omega (arith, start)) in
      let title = two_field (encode p) (length (encode p) - 24 + 2) (length p.title) (omega (arith, sized.short)) (at_last 2 _ (omega (arith, start))) (at_last 3 _ (omega (arith, start))) in
      let count = four_last 4 (length p.records / 12) (omega (arith, sized.few)) refl refl refl refl in
      let first' = four_last 8 p.first first refl refl refl refl in
      let second' = four_last 12 p.second second refl refl refl refl in
      let distance = four_last 16 (12 * (length p.records / 12)) (omega (arith, sized.few)) refl refl refl refl in
      let game' = four_last 20 p.game game refl refl refl refl in
      λ i. record { letter = letter i; edition = edition i; title = title i; count = count i; first = first' i; second = second' i; distance = distance i; game = game' i }

  paper_again : paper_in (encode p) ≡ p
  paper_again =
      let rest = drop_at p.title (p.records ++ ending p) (length p.title) refl in
      let records = ap (take (12 * (length p.records / 12))) rest ∙ take_at p.records (ending p) _ sized.even in
      let title = take_at p.title (p.records ++ ending p) (length p.title) refl in
      ap (λ t. paper_by t (encode p)) trailer_again
      ∙ (λ i. record { letter = p.letter; title = title i; records = records i; first = p.first; second = p.second; game = p.game })

  agreed_again : Agreed (length (encode p)) (trailer_in (encode p))
  agreed_again =
      subst (Agreed (length (encode p))) (sym trailer_again)
      (record { short = sized.short; some = sized.some; few = sized.few; back = refl; all = omega (arith, size_is p, sized.even) })

  -- the bytes of a paper that passes its checks pass those of a file
  pub again_passed : (only : Option Kind) → Taken only p.letter → Passed (paper_tests p) → Passed (file_tests only (encode p))
  again_passed only taken (letter, (lengths, (title, (figures, (records, end))))) =
      let t : said p ≡ trailer_in (encode p) = sym trailer_again in
      let q : p ≡ paper_in (encode p) = sym paper_again in
      let long : 36 ≤ length (encode p) = omega (arith, size_is p, sized.even, sized.some) in
      let edition = subst (λ (u : Trailer). Taken only u.letter × (u.edition ≡ 1)) t (taken, refl) in
      let printable = subst (λ (u : Paper). Printable u.title) q title in
      let ranged = subst (λ (u : Trailer). Ranged (kind_of u.letter) u.first u.second) t figures in
      let counted = subst (λ (u : Trailer). (k : ℕ) → Faulty (kind_of p.letter) (record_at p.records) u.count k → ⊥) t records in
      let clear = subst (λ (u : Paper). (k : ℕ) → Faulty (kind_of u.letter) (record_at u.records) (trailer_in (encode p)).count k → ⊥) q counted in
      (long, (edition, (agreed_again, (printable, (ranged, (clear, tt))))))

in_range : (kind : Kind) (first second : ℕ) → Ranged kind first second → (first < 4294967296) × (second < 4294967296)
in_range Tree first second (a, b, c, d) = (omega arith, omega arith)
in_range Refutation first second (a, b) = (omega arith, omega arith)

-- a document passes the checks of its paper, and of its file, and says what the file says
module _ (only : Option Kind) (bs : List ℕ) (p : Paper) (stands : Stands only bs p) where
  stands_sized : Sized p.title p.records
  stands_sized =
      let long = planted_length (kind_of p.letter) p.records stands.planted in
      let few = stands.planted.few in
      record { short = stands.short; even = omega arith; some = omega arith; few = omega arith }

  stands_paper : Passed (paper_tests p)
  stands_paper =
      let long = planted_length (kind_of p.letter) p.records stands.planted in
      (taken_either only p.letter stands.letter, (stands_sized, (stands.printable, (stands.ranged, (planted_clear (kind_of p.letter) p.records stands.planted (length p.records / 12) (omega arith), tt)))))

  ranges : (p.first < 4294967296) × (p.second < 4294967296)
  ranges = in_range (kind_of p.letter) p.first p.second stands.ranged

  pub stands_passed : Passed (file_tests only bs)
  stands_passed =
      subst (λ b. Passed (file_tests only b)) (sym stands.same)
      (again_passed p stands_sized ranges.0 ranges.1 stands.game only stands.letter stands_paper)

  pub stands_says : p ≡ paper_in bs
  stands_says = sym (paper_again p stands_sized ranges.0 ranges.1 stands.game) ∙ ap paper_in (sym stands.same)

-- bytes of a paper that passes its checks are a document
module _ (only : Option Kind) (bs : List ℕ) (bytes : (i : ℕ) → get_or bs i 0 < 256) (p : Paper) (same : bs ≡ encode p) (taken : Taken only p.letter) (game : p.game < 4294967296) (passed : Passed (paper_tests p)) where
  record_byte : (i : ℕ) → get_or p.records i 0 < 256
  record_byte i =
      ⊎_elim
      (λ (l : i < length p.records).
      let e = ap (λ b. get_or b (length p.title + i) 0) same ∙ get_or-append-add p.title (p.records ++ ending p) i 0 ∙ get_or_append_left p.records (ending p) 0 i l in
      subst (λ x. x < 256) e (bytes (length p.title + i)))
      (λ (l : length p.records ≤ i). subst (λ x. x < 256) (sym (get_or_past p.records i 0 l)) (omega arith))
      (cases_lt i (length p.records))

  pub stands_so : Stands only bs p
  stands_so =
      let sized = passed.1.0 in
      record {
        same = same;
        letter = taken;
        short = sized.short;
        printable = passed.1.1.0;
        ranged = passed.1.1.1.0;
        planted = tree_grown (kind_of p.letter) p.records record_byte (length p.records / 12) sized.even sized.some sized.few passed.1.1.1.1.0;
        game = game;
      }

-- a file's bytes that stand for no paper are refused, and others are not
pub rejected : (only : Option Kind) (bs : List ℕ) (f : Fault) → Refused (file_tests only bs) f → Rejects only bs f
rejected only bs f refused = record { first = refused; order = (omega arith, (omega arith, (omega arith, (omega arith, (omega arith, (omega arith, tt)))))); none = λ p stands. not_both (file_tests only bs) f (stands_passed only bs p stands) refused }
