-- What `how_many` gives: of a part, of nothing, of one, and of classes. Assumes nothing.
use Rattle.std.proofs.Common.{◌≡◌, ℕ, zero, suc, ◌+◌, ◌*◌, ◌<◌, ◌≤◌, Bool, true, false, not, ◌&&◌, ◌==◌, sym, refl, ◌∙◌, zero-le, le_trans, not-suc-le-zero, suc-mul, arith}
use Rattle.std.proofs.lemmas.Bool.{eqb-false, and_parts, and_from, not-true, true≢false}
use Rattle.rule.specs.Laws.Totals.{total_add, total_same, total_le, total_zero}
use Rattle.rule.specs.Digits.{tally, how_many}

weight_le : (p q : Bool) → (p ≡ true → q ≡ true) → tally p ≤ tally q
weight_le true true h = omega arith
weight_le true false h = absurd (true≢false (sym (h refl)))
weight_le false q h = zero-le

-- what passes one test passes the other
pub count_part : (n : ℕ) (P Q : ℕ → Bool) → ((x : ℕ) → P x ≡ true → Q x ≡ true) → how_many n P ≤ how_many n Q
count_part n P Q h = total_le n (λ x. tally (P x)) (λ x. tally (Q x)) (λ x lt. weight_le (P x) (Q x) (h x))

weight_none : (p : Bool) → (p ≡ true → ⊥) → tally p ≡ 0
weight_none true h = absurd (h refl)
weight_none false h = refl

pub count_none : (n : ℕ) (P : ℕ → Bool) → ((x : ℕ) → x < n → P x ≡ true → ⊥) → how_many n P ≡ 0
count_none n P h = total_zero n (λ x. tally (P x)) (λ x lt. weight_none (P x) (h x lt))

pub count_one : (n d : ℕ) (P : ℕ → Bool) → ((x : ℕ) → P x ≡ true → x ≡ d) → how_many n P ≤ 1
count_one zero d P h = zero-le
count_one (suc n) d P h = go (count_one n d P h) (P n) refl
  where
    go : how_many n P ≤ 1 → (p : Bool) → P n ≡ p → how_many n P + tally (P n) ≤ 1
    go rest true e = rw (e, count_none n P (λ x lt f. omega (arith, h x f, h n e))) (omega arith)
    go rest false e = rw e (omega arith)

pub count_le : (n : ℕ) (P : ℕ → Bool) → how_many n P ≤ n
count_le zero P = zero-le
count_le (suc n) P = omega (arith, weight_le (P n) true (λ e. refl), count_le n P)

weight_two : (p q : Bool) → tally p ≡ tally (p && q) + tally (p && not q)
weight_two true true = refl
weight_two true false = refl
weight_two false q = refl

-- those that pass a second test, and those that do not
pub count_two : (n : ℕ) (P q : ℕ → Bool) → how_many n P ≡ how_many n (λ x. P x && q x) + how_many n (λ x. P x && not (q x))
count_two n P q =
    total_same n (λ x. tally (P x)) (λ x. tally (P x && q x) + tally (P x && not (q x))) (λ x lt. weight_two (P x) (q x))
    ∙ total_add n (λ x. tally (P x && q x)) (λ x. tally (P x && not (q x)))

-- A classes of at most b each
pub count_classes : (A b n : ℕ) (f : ℕ → ℕ) (P : ℕ → Bool)
    → ((x : ℕ) → P x ≡ true → f x < A)
    → ((a : ℕ) → a < A → how_many n (λ x. P x && f x == a) ≤ b)
    → how_many n P ≤ A * b
count_classes zero b n f P below each = rw (count_none n P (λ x lt e. not-suc-le-zero (below x e))) zero-le
count_classes (suc A) b n f P below each =
    let rest : how_many n others ≤ A * b = count_classes A b n f others below_last each_other in
    rw (count_two n P last, suc-mul A b) (omega (arith, each A (omega arith)))
  where
    last : ℕ → Bool
    last x = f x == A

    others : ℕ → Bool
    others x = P x && not (last x)

    below_last : (x : ℕ) → others x ≡ true → f x < A
    below_last x e =
        let two = and_parts (P x) (not (last x)) e in
        let other : f x ≡ A → ⊥ = eqb-false (f x) A (not-true (last x) two.1) in
        omega (arith, below x two.0)

    smaller : (a : ℕ) (x : ℕ) → (others x && f x == a) ≡ true → (P x && f x == a) ≡ true
    smaller a x e =
        let two = and_parts (others x) (f x == a) e in
        and_from (P x) (f x == a) (and_parts (P x) (not (last x)) two.0).0 two.1

    each_other : (a : ℕ) → a < A → how_many n (λ x. others x && f x == a) ≤ b
    each_other a lt =
        le_trans (count_part n (λ x. others x && f x == a) (λ x. P x && f x == a) (smaller a)) (each a (omega arith))
