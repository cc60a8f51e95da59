-- Places cut at the most codes that a game can have: the cut of each is got from the cut of the one before, and it bounds
-- what strategies find. Assumes nothing.
use Rattle.std.proofs.Common.{◌≡◌, ℕ, zero, suc, ◌+◌, ◌-◌, ◌*◌, ◌<◌, ◌≤◌, min, Bool, true, false, ◌&&◌, ◌⊎◌, refl, subst₂, inl, inr, mul-le-mul_right, zero-mul, arith}
use Rattle.std.specs.Int.{from_bool}
use Rattle.std.proofs.lemmas.Bool.{cases_lt}
use Rattle.strategy.specs.Strategy.{places, size, found_within}
use Rattle.strategy.specs.Theorems.{FindsAtMost}
use Rattle.strategy.proofs.Counts.{count_le}
use Rattle.strategy.proofs.Counting.{strategy_bound}

-- a product is cut as the product of a cut factor, with b more in both
pub cut_product : (b x p : ℕ) → min (b + x * min p 16384) 16384 ≡ min (b + x * p) 16384
cut_product b x p = go (cases_lt 16384 p)
  where
    past : (x : ℕ) → 16384 < p → min (b + x * 16384) 16384 ≡ min (b + x * p) 16384
    past zero h = rw (zero-mul p)
    past (suc y) h =
        let one : 1 * 16384 ≤ suc y * 16384 = mul-le-mul_right {m = 1} 16384 (omega arith) in
        let other : 1 * p ≤ suc y * p = mul-le-mul_right {m = 1} p (omega arith) in
        omega arith

    go : (16384 < p) ⊎ (p ≤ 16384) → min (b + x * min p 16384) 16384 ≡ min (b + x * p) 16384
    go (inl h) =
        let cut : min p 16384 ≡ 16384 = omega arith in
        rw cut (past x h)
    go (inr h) =
        let whole : min p 16384 ≡ p = omega arith in
        rw whole

pub at_most : (naming : Bool) (answers k r : ℕ) → r ≡ min (places naming answers k) 16384 → FindsAtMost naming answers k r
at_most naming answers k r e m lawful kind many s fits S =
    let found = subst₂ (λ (b : Bool) (a : ℕ). size m (found_within m s k S) ≤ places b a k) kind many (strategy_bound m lawful s fits k S) in
    omega (arith, count_le m.code_bound (λ c. m.is_code c && found_within m s k S c), lawful.few_codes)

-- with one guess more
pub cut_next : (naming : Bool) (answers k fewer : ℕ) → (k ≡ 0 → ⊥) → fewer ≡ min (places naming answers (k - 1)) 16384
    → min (from_bool naming + (answers - from_bool naming) * fewer) 16384 ≡ min (places naming answers k) 16384
cut_next naming answers zero fewer some e = absurd (some refl)
cut_next naming answers (suc k) fewer some e =
    let below : suc k - 1 ≡ k = omega arith in
    go naming (rw below at e)
  where
    go : (b : Bool) → fewer ≡ min (places b answers k) 16384 → min (from_bool b + (answers - from_bool b) * fewer) 16384 ≡ min (places b answers (suc k)) 16384
    go true cut = rw cut (cut_product 1 (answers - 1) (places true answers k))
    go false cut =
        let all : answers - 0 ≡ answers = omega arith in
        rw (cut, all) (omega (arith, cut_product 0 answers (places false answers k)))
