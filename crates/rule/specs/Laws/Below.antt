-- A test that passes at every number below a bound passes at each. Assumes nothing.
use Rattle.std.specs.Prelude.{◌≡◌, ℕ, zero, suc, ◌+◌, ◌<◌, Bool, true, false}
use Rattle.std.proofs.Common.{ap, subst, sym, ◌∙◌, ⊎_elim, add-one, arith}
use Rattle.std.proofs.lemmas.Bool.{and_parts, and_from, and_left, and_right, cases_eq}
use Rattle.rule.specs.Digits.{all_below}

pub all_below_at : (n : ℕ) (f : ℕ → Bool) → all_below n f ≡ true → (k : ℕ) → k < n → f k ≡ true
all_below_at zero f t k h = absurd (omega arith)
all_below_at (suc n) f t k h =
    let parts = and_parts (f n) (all_below n f) t in
    ⊎_elim (λ e. subst (λ z. f z ≡ true) (sym e) parts.0) (λ e. all_below_at n f parts.1 k (omega arith)) (cases_eq k n)

-- one number more
pub all_below_more : (n : ℕ) (f : ℕ → Bool) → f n ≡ true → all_below n f ≡ true → all_below (n + 1) f ≡ true
all_below_more n f here before = ap (λ k. all_below k f) (add-one n) ∙ and_from (f n) (all_below n f) here before

-- one failure is enough
pub all_below_not : (n : ℕ) (f : ℕ → Bool) (k : ℕ) → k < n → f k ≡ false → all_below n f ≡ false
all_below_not zero f k h e = absurd (omega arith)
all_below_not (suc n) f k h e =
    ⊎_elim
    (λ same. and_left (f n) (all_below n f) (subst (λ z. f z ≡ false) same e))
    (λ other. and_right (f n) (all_below n f) (all_below_not n f k (omega arith) e))
    (cases_eq k n)
