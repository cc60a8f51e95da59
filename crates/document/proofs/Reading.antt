-- From the checks of what a document says to those of its file. Assumes nothing.
use Rattle.std.proofs.Common.{◌≡◌, ℕ, ◌+◌, ◌-◌, ◌/◌, ◌<◌, List, length, get_or, sym, ap, ◌∙◌, subst, inl, inr, Some, arith, Option, None}
use Rattle.fault.specs.declared.Fault.{Fault}
use Rattle.document.specs.declared.kind.Kind.{Kind}
use Rattle.document.specs.declared.judge.Document.{Document}
use Rattle.document.specs.declared.judge.Document.TheVariants.{Tree, Refutation}
use Rattle.document.specs.Documents.{contents_paper, contents_of, document_paper}
use Rattle.document.specs.Bytes.{Paper, encode, four_at, record_at}
use Rattle.document.specs.Forms.{Faulty}
use Rattle.document.specs.Order.{Passed, Refused}
use Rattle.document.specs.Checks.{kind_of, letter_for, Taken, Sized, paper_tests}
use Rattle.document.specs.Files.{trailer_in, paper_in, opening_tests, closing_tests, Reads, Rejects}
use Rattle.document.proofs.Again.{taken_either, stands_so, rejected}
use Rattle.document.proofs.Orders.{passed_append, refused_front, refused_back}
use Rattle.document.proofs.Whole.{title_length, records_length, records_count, encode_in}

module _ (only : Option Kind) (bs : List ℕ) (bytes : (i : ℕ) → get_or bs i 0 < 256) (open' : Passed (opening_tests only bs)) where
  number_fits : (i : ℕ) → four_at bs i < 4294967296
  number_fits i = omega (arith, bytes i, bytes (i + 1), bytes (i + 2), bytes (i + 3))

  letter_taken : Taken None (trailer_in bs).letter
  letter_taken = taken_either only _ open'.1.0.0

  count_is : length (paper_in bs).records / 12 ≡ (trailer_in bs).count
  count_is = records_count bs bytes open'.1.0.1 open'.1.1.0

  sized : Sized (paper_in bs).title (paper_in bs).records
  sized =
      let agreed = open'.1.1.0 in
      let edition = open'.1.0.1 in
      let titled = title_length bs bytes edition agreed in
      let long = records_length bs bytes edition agreed in
      record {
        short = omega (arith, titled, agreed.short);
        even = omega (arith, long, count_is);
        some = omega (arith, count_is, agreed.some);
        few = omega (arith, count_is, agreed.few);
      }

  -- once a file is opened, what is left to check of what it says are its figures and its records
  pub closing_passed : Passed (paper_tests (paper_in bs)) → Passed (closing_tests bs)
  closing_passed (letter, (lengths, (title, (figures, (records, end))))) =
      (figures, (subst (λ n. (p : ℕ) → Faulty (kind_of (trailer_in bs).letter) (record_at (paper_in bs).records) n p → ⊥) count_is records, tt))

  pub closing_refused : (f : Fault) → Refused (paper_tests (paper_in bs)) f → Refused (closing_tests bs) f
  closing_refused f (inl (bad, e)) = absurd (bad letter_taken)
  closing_refused f (inr (ok, inl (bad, e))) = absurd (bad sized)
  closing_refused f (inr (ok, inr (ok', inl (bad, e)))) = absurd (bad open'.1.1.1.0)
  closing_refused f (inr (ok, inr (ok', inr (ok'', inl bad)))) = inl bad
  closing_refused f (inr (ok, inr (ok', inr (ok'', inr (figures, inl (p, bad, least, e)))))) =
      inr (figures, inl (p, subst (λ n. Faulty (kind_of (trailer_in bs).letter) (record_at (paper_in bs).records) n p) count_is bad, subst (λ n. (q : ℕ) → q < p → Faulty (kind_of (trailer_in bs).letter) (record_at (paper_in bs).records) n q → ⊥) count_is least, e))
  closing_refused f (inr (ok, inr (ok', inr (ok'', inr (figures, inr (records, none)))))) = absurd none

  pub reads : (p q : Paper) → p ≡ paper_in bs → q ≡ p → Passed (paper_tests p) → Reads only bs q
  reads p q is same passed =
      let own : paper_in bs ≡ q = sym (same ∙ is) in
      let whole' : encode q ≡ bs = ap encode (same ∙ is) ∙ encode_in bs bytes open'.1.0.1 open'.1.1.0 in
      let fits : (paper_in bs).game < 4294967296 = number_fits (length bs - 24 + 20) in
      record {
        says = sym own;
        same = whole';
        passed = passed_append (opening_tests only bs) (closing_tests bs) open' (closing_passed (subst (λ x. Passed (paper_tests x)) is passed));
        stands = stands_so only bs bytes q (sym whole') (subst (λ (x : Paper). Taken only x.letter) own open'.1.0.0) (subst (λ (x : Paper). x.game < 4294967296) own fits) (subst (λ x. Passed (paper_tests x)) (sym same) passed);
      }

  pub reading_refused : (p : Paper) (f : Fault) → p ≡ paper_in bs → Refused (paper_tests p) f → Rejects only bs f
  reading_refused p f is bad = rejected only bs f (refused_back (opening_tests only bs) (closing_tests bs) f open' (closing_refused f (subst (λ x. Refused (paper_tests x) f) is bad)))

  pub paper_passed : Passed (closing_tests bs) → Passed (paper_tests (paper_in bs))
  paper_passed (figures, (records, end)) =
      (letter_taken, (sized, (open'.1.1.1.0, (figures, (subst (λ n. (p : ℕ) → Faulty (kind_of (trailer_in bs).letter) (record_at (paper_in bs).records) n p → ⊥) (sym count_is) records, tt)))))

-- what a document of one kind holds stands under the letter of that kind
pub contents_alone : (kind : Kind) (bs : List ℕ) (d : Document) → Reads (Some kind) bs (document_paper d) → Reads (Some kind) bs (contents_paper (letter_for kind) (contents_of d))
contents_alone kind bs (Tree d) reads = subst (λ l. Reads (Some kind) bs (contents_paper l d)) reads.stands.letter reads
contents_alone kind bs (Refutation d) reads = subst (λ l. Reads (Some kind) bs (contents_paper l d)) reads.stands.letter reads

-- a file that is not opened is not read
pub opening_refused : (only : Option Kind) (bs : List ℕ) (f : Fault) → Refused (opening_tests only bs) f → Rejects only bs f
opening_refused only bs f refused = rejected only bs f (refused_front (opening_tests only bs) (closing_tests bs) f refused)
