-- An array that a closure fills, where no call changes the closure. Assumes nothing.
use Rattle.std.proofs.Common.{◌≡◌, ℕ, zero, suc, ◌+◌, ◌<◌, ◌≤◌, List, slice_index_or, subst, sym, ap, ◌∙◌, ⊎_elim, arith}
use Rattle.std.proofs.lemmas.Bool.{cases_eq}
use Rattle.std.specs.Array.{IsFromFnResult, IsFromFnResultFrom}
use Rattle.std.specs.Fn.{Called, Mut}

module _ {F B : Type 0} (g : Mut F (ℕ × Unit {0}) B) (value : ℕ → B) (top : ℕ) (f : F) (xs : List B) (one : (i : ℕ) (x : B) (q : F) → i < top → Called g f (i, tt) x q → (q ≡ f) × (x ≡ value i)) where
  filled_from : (n i : ℕ) → i + n ≤ top → IsFromFnResultFrom g f xs i n → (k : ℕ) (d : B) → i ≤ k → k < i + n → slice_index_or xs k d ≡ value k
  filled_from zero i room each k d from below = absurd (omega arith)
  filled_from (suc n) i room each k d from below =
      let said = one i each.1 each.0 (omega arith) each.3 in
      ⊎_elim
      (λ here. ap (λ z. slice_index_or xs z d) here ∙ each.2.1 d ∙ said.1 ∙ ap value (sym here))
      (λ other. filled_from n (i + 1) (omega arith) (subst (λ p. IsFromFnResultFrom g p xs (i + 1) n) said.0 each.4) k d (omega arith) (omega arith))
      (cases_eq k i)

  pub filled : IsFromFnResult g f xs top → (k : ℕ) (d : B) → k < top → slice_index_or xs k d ≡ value k
  filled made k d below = filled_from top 0 (omega arith) made.each k d (omega arith) (omega arith)
