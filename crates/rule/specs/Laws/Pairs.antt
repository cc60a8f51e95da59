-- Where each pair of black and white stands among the answers, computed once for every number of pegs. Assumes nothing.
use Rattle.std.specs.Prelude.{◌≡◌, ℕ, ◌+◌, ◌-◌, ◌*◌, ◌/◌, ◌<◌, ◌≤◌, Bool, true, false, ◌&&◌, length, ◌==◌, nat_le, nat_lt, refl}
use Rattle.std.proofs.Common.{arith}
use Rattle.std.proofs.lemmas.Bool.{and_parts, both_ways, eqb-true, leb-true, ltb-true, eq-eqb, le-leb}
use Rattle.rule.specs.Digits.{tally, all_below}
use Rattle.rule.specs.Pegs.{pairs, position, possible}
use Rattle.rule.specs.Laws.Below.{all_below_at}

-- the position of a pair, reckoned from its black and white
abbrev pub place : ℕ → ℕ → ℕ → ℕ
place p b w = (b * (2 * p + 3 - b)) / 2 + w - tally (b == p)

-- how many answers p pegs have
abbrev pub answer_count : ℕ → ℕ
answer_count p = ((p + 1) * (p + 2)) / 2 - 1

implies : Bool → Bool → Bool
implies true b = b
implies false b = true

use_implies : (a b : Bool) → implies a b ≡ true → a ≡ true → b ≡ true
unfolding implies
use_implies true b h t = h
use_implies false b h t = absurd (both_ways false refl t)

abbrev pair_right : ℕ → ℕ → ℕ → Bool
pair_right p b w =
    implies (possible p (b, w))
    (position (b, w) (pairs p) == place p b w
    && nat_lt (place p b w) (length (pairs p))
    && implies (place p b w + 1 == length (pairs p)) (b == p)
    && implies (b == p) (place p b w + 1 == length (pairs p)))

abbrev count_right : ℕ → Bool
count_right p = implies (nat_le 1 p) (length (pairs p) == answer_count p && nat_le 2 (length (pairs p)) && nat_le (length (pairs p)) 64)

every_pair : all_below 7 (λ p. all_below 7 (λ b. all_below 7 (λ w. pair_right p b w))) ≡ true
unfolding implies pairs
every_pair = refl

every_count : all_below 7 count_right ≡ true
unfolding implies pairs
every_count = refl

-- what is known of a pair that p pegs can answer
pub record Placed (p b w : ℕ) : Type 0 where
  pub at : position (b, w) (pairs p) ≡ place p b w
  pub within : place p b w < length (pairs p)
  pub last_is_all : place p b w + 1 ≡ length (pairs p) → b ≡ p
  pub all_is_last : b ≡ p → place p b w + 1 ≡ length (pairs p)

pub placed : (p b w : ℕ) → p < 7 → possible p (b, w) ≡ true → b + w ≤ p → Placed p b w
placed p b w small can few =
    let row = all_below_at 7 (pair_right p b) (all_below_at 7 (λ y. all_below 7 (pair_right p y)) (all_below_at 7 (λ x. all_below 7 (λ y. all_below 7 (pair_right x y))) every_pair p small) b (omega arith)) w (omega arith) in
    let all = and_parts _ _ (use_implies (possible p (b, w)) _ row can) in
    let inner = and_parts _ _ all.0 in
    let first = and_parts _ _ inner.0 in
    record {
      at = eqb-true _ _ first.0;
      within = ltb-true _ _ first.1;
      last_is_all = λ e. eqb-true _ _ (use_implies _ _ inner.1 (eq-eqb _ _ e));
      all_is_last = λ e. eqb-true _ _ (use_implies _ _ all.1 (eq-eqb _ _ e));
    }

-- how many answers there are
pub record Counted (p : ℕ) : Type 0 where
  pub is : length (pairs p) ≡ answer_count p
  pub some : 2 ≤ length (pairs p)
  pub few : length (pairs p) ≤ 64

pub counted : (p : ℕ) → 1 ≤ p → p < 7 → Counted p
counted p some small =
    let all = and_parts _ _ (use_implies (nat_le 1 p) _ (all_below_at 7 count_right every_count p small) (le-leb 1 p some)) in
    let first = and_parts _ _ all.0 in
    record { is = eqb-true _ _ first.0; some = leb-true _ _ first.1; few = leb-true _ _ all.1 }
