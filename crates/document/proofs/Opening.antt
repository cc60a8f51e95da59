-- The checks of a file up to its title. Assumes nothing.
use Rattle.std.proofs.Common.{◌≡◌, ℕ, ◌-◌, ◌≤◌, List, length, take, subst, inl, inr, arith, Option}
use Rattle.fault.specs.declared.Fault.{Fault}
use Rattle.fault.specs.declared.Check.TheVariants.{TitleByte}
use Rattle.fault.specs.Faults.{refusal}
use Rattle.document.specs.declared.kind.Kind.{Kind}
use Rattle.document.specs.declared.file.Trailer.{Trailer}
use Rattle.document.specs.Order.{Refused}
use Rattle.document.specs.Checks.{Taken, Printable}
use Rattle.document.specs.Files.{trailer_in, Agreed, opening_tests}

pub title_refused : (only : Option Kind) (bs : List ℕ) (t : Trailer) (f : Fault) → t ≡ trailer_in bs → 36 ≤ length bs → Taken only t.letter × (t.edition ≡ 1) → Agreed (length bs) t
    → (Printable (take (t.title - 0) bs) → ⊥) → f ≡ refusal TitleByte → Refused (opening_tests only bs) f
title_refused only bs t f is long edition agreed bad e =
    let whole : t.title - 0 ≡ t.title = omega arith in
    let ill = subst (λ n. Printable (take n bs) → ⊥) whole bad in
    inr (long, inr (subst (λ (u : Trailer). Taken only u.letter × (u.edition ≡ 1)) is edition, inr (subst (Agreed (length bs)) is agreed, inl (subst (λ (u : Trailer). Printable (take u.title bs) → ⊥) is ill, e))))
