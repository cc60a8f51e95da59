-- The checks one after the other, up to the records. Assumes nothing.
use Rattle.std.proofs.Common.{◌≡◌, ℕ, ◌/◌, length, Option, Some, None, sym, ap, ◌∙◌, subst, inl, inr, ⊎_elim}
use Rattle.fault.specs.declared.Fault.{Fault}
use Rattle.fault.specs.declared.Check.TheVariants.{RecordForm}
use Rattle.fault.specs.declared.Place.TheVariants as Place
use Rattle.fault.specs.Faults.{fault_at}
use Rattle.document.specs.declared.kind.Kind.{Kind}
use Rattle.document.specs.declared.record.Record.{Record}
use Rattle.document.specs.Bytes.{Paper, record_at}
use Rattle.document.specs.Forms.{Faulty}
use Rattle.document.specs.Walks.{Least}
use Rattle.document.specs.Order.{Passed, Refused}
use Rattle.document.specs.Checks.{kind_of, letter_for, Taken, Sized, Printable, Ranged, paper_tests}

-- a letter that is taken is the letter of its kind
pub same_letter : (letter : ℕ) → Taken None letter → letter_for (kind_of letter) ≡ letter
same_letter letter taken =
    ⊎_elim (λ t. ap (λ x. letter_for (kind_of x)) t ∙ sym t) (λ r. ap (λ x. letter_for (kind_of x)) r ∙ sym r) taken

module _ (p : Paper) (kind : Kind) (at : ℕ → Record) (n : ℕ) (is : kind ≡ kind_of p.letter) (same : at ≡ record_at p.records) (count : n ≡ length p.records / 12)
    (taken : Taken None p.letter) (sized : Sized p.title p.records) (printable : Printable p.title) (ranged : Ranged kind p.first p.second) where
  own_least : (lowest : Option ℕ) → Least (Faulty kind at n) lowest → Least (Faulty (kind_of p.letter) (record_at p.records) (length p.records / 12)) lowest
  own_least lowest least = subst (λ T. T) (λ t. Least (Faulty (is t) (same t) (count t)) lowest) least

  own_ranged : Ranged (kind_of p.letter) p.first p.second
  own_ranged = subst (λ k. Ranged k p.first p.second) is ranged

  pub all_passed : Least (Faulty kind at n) None → Passed (paper_tests p)
  all_passed clear = (taken, (sized, (printable, (own_ranged, (own_least None clear, tt)))))

  pub record_refused : (f : Fault) → ((q : ℕ) × Least (Faulty kind at n) (Some q) × (f ≡ fault_at RecordForm (Place.Record q))) → Refused (paper_tests p) f
  record_refused f (q, least, e) =
      let here = own_least (Some q) least in
      inr (taken, inr (sized, inr (printable, inr (own_ranged, inl (q, here.0, here.1, e)))))
