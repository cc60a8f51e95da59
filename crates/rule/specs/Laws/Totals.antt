-- Sums over the numbers below a bound. Assumes nothing.
use Rattle.std.specs.Prelude.{◌≡◌, ℕ, zero, suc, ◌+◌, ◌<◌, ◌≤◌, ◌==◌, ◌≢◌, refl}
use Rattle.std.proofs.Common.{ap, ⊎_elim, arith}
use Rattle.std.proofs.lemmas.Bool.{eq-eqb, ne_eqb, cases_eq}
use Rattle.rule.specs.Digits.{tally, total}

pub total_add : (n : ℕ) (f g : ℕ → ℕ) → total n (λ k. f k + g k) ≡ total n f + total n g
total_add zero f g = refl
total_add (suc n) f g = omega (arith, total_add n f g)

pub total_same : (n : ℕ) (f g : ℕ → ℕ) → ((k : ℕ) → k < n → f k ≡ g k) → total n f ≡ total n g
total_same zero f g h = refl
total_same (suc n) f g h = omega (arith, total_same n f g (λ k l. h k (omega arith)), h n (omega arith))

pub total_le : (n : ℕ) (f g : ℕ → ℕ) → ((k : ℕ) → k < n → f k ≤ g k) → total n f ≤ total n g
total_le zero f g h = omega arith
total_le (suc n) f g h = omega (arith, total_le n f g (λ k l. h k (omega arith)), h n (omega arith))

pub total_zero : (n : ℕ) (f : ℕ → ℕ) → ((k : ℕ) → k < n → f k ≡ 0) → total n f ≡ 0
total_zero zero f h = refl
total_zero (suc n) f h = omega (arith, total_zero n f (λ k l. h k (omega arith)), h n (omega arith))

pub tally_same : (x k : ℕ) → x ≡ k → tally (x == k) ≡ 1
tally_same x k e = ap tally (eq-eqb x k e)

pub tally_other : (x k : ℕ) → (x ≢ k) → tally (x == k) ≡ 0
tally_other x k e = ap tally (ne_eqb x k e)

-- a number below n is met once
pub total_one : (n x : ℕ) → x < n → total n (λ k. tally (x == k)) ≡ 1
total_one zero x h = absurd (omega arith)
total_one (suc n) x h =
    ⊎_elim
    (λ e. let rest : total n (λ k. tally (x == k)) ≡ 0 = total_zero n _ (λ k l. tally_other x k (λ s. absurd (omega arith))) in omega (arith, rest, tally_same x n e))
    (λ e. omega (arith, total_one n x (omega arith), tally_other x n e))
    (cases_eq x n)
