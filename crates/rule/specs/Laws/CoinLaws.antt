-- What the balance shows, and that the coin game keeps the law. Assumes nothing.
use Rattle.std.specs.Prelude.{◌≡◌, ℕ, zero, suc, ◌+◌, ◌-◌, ◌*◌, ◌/◌, ◌%◌, ◌^◌, ◌<◌, ◌≤◌, Bool, true, false, cond, List, [], ◌∷◌, length, ◌==◌, ◌≢◌, slice_index, slice_index_or, refl}
use Rattle.std.proofs.Common.{sym, ap, subst, ◌∙◌, ⊎_elim, arith, lit<}
use Rattle.std.proofs.Math.Nat.{pow-le-pow_right}
use Rattle.std.proofs.lemmas.Nat.{mod_below}
use Rattle.std.proofs.lemmas.Bool.{and_parts, and_from, both_ways, ltb-true, eqb-true, eq-eqb, ne_eqb, lt-ltb, le-ltb, cases_eq, cases_order, cond-true, cond-false}
use Rattle.rule.specs.Coins.{weight, load, balance, is_weighing, weighed, coins}
use Rattle.rule.specs.Digits.{digits, tally, occurs}
use Rattle.rule.specs.Meaning.{Lawful}
use Rattle.rule.specs.Laws.Rows.{length_digits, power_positive}

-- under a code the false coin is f and weighs h, and every other coin weighs 2
pub record False (code f h : ℕ) : Type 0 where
  pub coin : weight code f ≡ h
  pub good : (i : ℕ) → (i ≢ f) → weight code i ≡ 2

pub heavy : (f : ℕ) → False (2 * f) f 3
heavy f = record {
  coin = cond-true _ _ _ (eq-eqb (2 * f) (2 * f) refl);
  good = λ i ne. cond-false _ _ _ (ne_eqb (2 * f) (2 * i) (λ e. ne (omega arith))) ∙ cond-false _ _ _ (ne_eqb (2 * f) (2 * i + 1) (λ e. absurd (omega arith)));
}

pub light : (f : ℕ) → False (2 * f + 1) f 1
light f = record {
  coin = cond-false _ _ _ (ne_eqb (2 * f + 1) (2 * f) (λ e. absurd (omega arith))) ∙ cond-true _ _ _ (eq-eqb (2 * f + 1) (2 * f + 1) refl);
  good = λ i ne. cond-false _ _ _ (ne_eqb (2 * f + 1) (2 * i) (λ e. absurd (omega arith))) ∙ cond-false _ _ _ (ne_eqb (2 * f + 1) (2 * i + 1) (λ e. ne (omega arith)));
}

on_pan : (b : Bool) (w : ℕ) → cond b w 0 ≡ w * tally b
on_pan true w = omega arith
on_pan false w = omega arith

module _ {code f h : ℕ} (false-coin : False code f h) (pan : ℕ) where
  good_coin : (i x : ℕ) → (i ≢ f) → cond (x == pan) (weight code i) 0 ≡ 2 * tally (x == pan)
  good_coin i x ne = ap (λ w. cond (x == pan) w 0) (false-coin.good i ne) ∙ on_pan (x == pan) 2

  -- past the false coin each coin on the pan weighs 2
  load_past : (i : ℕ) (xs : List ℕ) → f < i → load pan code i xs ≡ 2 * occurs pan xs
  load_past i [] h' = refl
  load_past i (x ∷ xs) h' = omega (arith, good_coin i x (λ e. absurd (omega arith)), load_past (suc i) xs (omega arith))

  -- and the false coin weighs h where its digit says that it lies on the pan
  pub load_is : (i : ℕ) (xs : List ℕ) → i ≤ f → f < i + length xs → load pan code i xs + 2 * tally (slice_index xs (f - i) == pan) ≡ 2 * occurs pan xs + h * tally (slice_index xs (f - i) == pan)
  load_is i [] low high = absurd (omega arith)
  load_is i (x ∷ xs) low high =
      ⊎_elim
      (λ e.
      let at : slice_index_or (x ∷ xs) (f - i) 0 ≡ x = ap (λ z. slice_index (x ∷ xs) z) (let none : f - i ≡ 0 = omega arith in none) in
      let here : cond (x == pan) (weight code i) 0 ≡ h * tally (x == pan) = ap (λ z. cond (x == pan) (weight code z) 0) e ∙ ap (λ w. cond (x == pan) w 0) false-coin.coin ∙ on_pan (x == pan) h in
      subst (λ z. load pan code i (x ∷ xs) + 2 * tally (z == pan) ≡ 2 * occurs pan (x ∷ xs) + h * tally (z == pan)) (sym at)
      (omega (arith, here, load_past (suc i) xs (omega arith))))
      (λ ne.
      let at : slice_index_or (x ∷ xs) (f - i) 0 ≡ slice_index_or xs (f - suc i) 0 = ap (λ z. slice_index (x ∷ xs) z) (let one : f - i ≡ suc (f - suc i) = omega arith in one) in
      subst (λ z. load pan code i (x ∷ xs) + 2 * tally (z == pan) ≡ 2 * occurs pan (x ∷ xs) + h * tally (z == pan)) (sym at)
      (omega (arith, good_coin i x ne, load_is (suc i) xs (omega arith) (omega arith))))
      (cases_eq i f)

level : (l r : ℕ) → l ≡ r → balance l r ≡ 0
level l r e = cond-true _ _ _ (eq-eqb l r e)

left_down : (l r : ℕ) → r < l → balance l r ≡ 1
left_down l r h = cond-false _ _ _ (ne_eqb l r (λ e. absurd (omega arith))) ∙ cond-true _ _ _ (lt-ltb r l h)

right_down : (l r : ℕ) → l < r → balance l r ≡ 2
right_down l r h = cond-false _ _ _ (ne_eqb l r (λ e. absurd (omega arith))) ∙ cond-false _ _ _ (le-ltb r l (omega arith))

balance_below : (l r : ℕ) → balance l r < 3
balance_below l r =
    ⊎_elim
    (λ e. omega (arith, level l r e))
    (⊎_elim (λ h. omega (arith, right_down l r h)) (λ h. omega (arith, left_down l r h)))
    (cases_order l r)

-- the digit that stands for a coin
pub slice_index_digits : (n b g i : ℕ) → i < n → slice_index (digits n b g) i ≡ (g / b ^ (n - 1 - i)) % b
slice_index_digits zero b g i h = absurd (omega arith)
slice_index_digits (suc n) b g zero h = ap (λ z. (g / b ^ z) % b) (let same : n ≡ suc n - 1 - 0 = omega arith in same)
slice_index_digits (suc n) b g (suc i) h =
    slice_index_digits n b g i (omega arith) ∙ ap (λ z. (g / b ^ z) % b) (let same : n - 1 - i ≡ suc n - 1 - suc i = omega arith in same)

level_pans : (n g : ℕ) → is_weighing n g ≡ true → occurs 1 (digits n 3 g) ≡ occurs 2 (digits n 3 g)
unfolding is_weighing
level_pans n g h = eqb-true _ _ (and_parts _ _ (and_parts _ _ h).0).1

abbrev left_pan : ℕ → ℕ → ℕ → ℕ
left_pan n code g = load 1 code 0 (digits n 3 g)

abbrev right_pan : ℕ → ℕ → ℕ → ℕ
right_pan n code g = load 2 code 0 (digits n 3 g)

-- the loads of the two pans, where the digit d says where the false coin lies
record Loads (n code g h d : ℕ) : Type 0 where
  left : left_pan n code g + 2 * tally (d == 1) ≡ 2 * occurs 1 (digits n 3 g) + h * tally (d == 1)
  right : right_pan n code g + 2 * tally (d == 2) ≡ 2 * occurs 2 (digits n 3 g) + h * tally (d == 2)

loads : (n code g f h d : ℕ) → False code f h → f < n → d ≡ slice_index (digits n 3 g) f → Loads n code g h d
loads n code g f h d fc low e =
    let at : slice_index_or (digits n 3 g) (f - 0) 0 ≡ d = ap (λ z. slice_index (digits n 3 g) z) (let same : f - 0 ≡ f = omega arith in same) ∙ sym e in
    let room : f < 0 + length (digits n 3 g) = omega (arith, length_digits n 3 g) in
    record {
      left = subst (λ z. load 1 code 0 (digits n 3 g) + 2 * tally (z == 1) ≡ 2 * occurs 1 (digits n 3 g) + h * tally (z == 1)) at (load_is fc 1 0 (digits n 3 g) (omega arith) room);
      right = subst (λ z. load 2 code 0 (digits n 3 g) + 2 * tally (z == 2) ≡ 2 * occurs 2 (digits n 3 g) + h * tally (z == 2)) at (load_is fc 2 0 (digits n 3 g) (omega arith) room);
    }

heavy_shows : (n f g d : ℕ) → f < n → is_weighing n g ≡ true → d ≡ slice_index (digits n 3 g) f → d < 3 → weighed n (2 * f) g ≡ d
unfolding weighed
heavy_shows n f g zero low w e small = let l = loads n (2 * f) g f 3 0 (heavy f) low e in level (left_pan n (2 * f) g) (right_pan n (2 * f) g) (omega (arith, l.left, l.right, level_pans n g w))
heavy_shows n f g (suc zero) low w e small = let l = loads n (2 * f) g f 3 1 (heavy f) low e in left_down (left_pan n (2 * f) g) (right_pan n (2 * f) g) (omega (arith, l.left, l.right, level_pans n g w))
heavy_shows n f g (suc (suc zero)) low w e small = let l = loads n (2 * f) g f 3 2 (heavy f) low e in right_down (left_pan n (2 * f) g) (right_pan n (2 * f) g) (omega (arith, l.left, l.right, level_pans n g w))
heavy_shows n f g (suc (suc (suc d))) low w e small = absurd (omega arith)

-- what a light coin shows on the pan where it lies
abbrev other_pan : ℕ → ℕ
other_pan zero = 0
other_pan (suc d) = 2 - d

light_shows : (n f g d : ℕ) → f < n → is_weighing n g ≡ true → d ≡ slice_index (digits n 3 g) f → d < 3 → weighed n (2 * f + 1) g ≡ other_pan d
unfolding weighed
light_shows n f g zero low w e small = let l = loads n (2 * f + 1) g f 1 0 (light f) low e in level (left_pan n (2 * f + 1) g) (right_pan n (2 * f + 1) g) (omega (arith, l.left, l.right, level_pans n g w))
light_shows n f g (suc zero) low w e small = let l = loads n (2 * f + 1) g f 1 1 (light f) low e in right_down (left_pan n (2 * f + 1) g) (right_pan n (2 * f + 1) g) (omega (arith, l.left, l.right, level_pans n g w))
light_shows n f g (suc (suc zero)) low w e small = let l = loads n (2 * f + 1) g f 1 2 (light f) low e in left_down (left_pan n (2 * f + 1) g) (right_pan n (2 * f + 1) g) (omega (arith, l.left, l.right, level_pans n g w))
light_shows n f g (suc (suc (suc d))) low w e small = absurd (omega arith)

-- a heavy coin shows its own pan
pub heavy_code : (n code g d : ℕ) → code < 2 * n → is_weighing n g ≡ true → d ≡ slice_index (digits n 3 g) (code / 2) → d < 3 → code % 2 ≡ 0 → d ≡ weighed n code g
heavy_code n code g d low w e small even =
    sym (ap (λ z. weighed n z g) (let twice : code ≡ 2 * (code / 2) = omega arith in twice) ∙ heavy_shows n (code / 2) g d (omega arith) w e small)

other_pan_is : (d : ℕ) → (d ≢ 0) → other_pan d ≡ 3 - d
other_pan_is zero ne = absurd (ne refl)
other_pan_is (suc d) ne = omega arith

-- a light coin shows the other
pub light_code : (n code g d : ℕ) → code < 2 * n → is_weighing n g ≡ true → d ≡ slice_index (digits n 3 g) (code / 2) → d < 3 → (code % 2 ≢ 0) → weighed n code g ≡ other_pan d
light_code n code g d low w e small odd =
    ap (λ z. weighed n z g) (let twice : code ≡ 2 * (code / 2) + 1 = omega (arith, mod_below code 2 (omega arith)) in twice) ∙ light_shows n (code / 2) g d (omega arith) w e small

pub light_aside : (n code g d : ℕ) → code < 2 * n → is_weighing n g ≡ true → d ≡ slice_index (digits n 3 g) (code / 2) → (code % 2 ≢ 0) → d ≡ 0 → d ≡ weighed n code g
light_aside n code g d low w e odd none = none ∙ sym (light_code n code g 0 low w (sym none ∙ e) (omega arith) odd)

pub light_weighed : (n code g d : ℕ) → code < 2 * n → is_weighing n g ≡ true → d ≡ slice_index (digits n 3 g) (code / 2) → d < 3 → (code % 2 ≢ 0) → (d ≢ 0) → 3 - d ≡ weighed n code g
light_weighed n code g d low w e small odd some = sym (light_code n code g d low w e small odd ∙ other_pan_is d some)

pub three_power : (n : ℕ) → n < 13 → 3 ^ n ≤ 531441
three_power n h = let low : n ≤ 12 = omega arith in pow-le-pow_right {n = 3} (lit< tt) low

weighed_below : (n code g : ℕ) → weighed n code g < 3
unfolding weighed
weighed_below n code g = balance_below (left_pan n code g) (right_pan n code g)

weighing_below : (n g : ℕ) → is_weighing n g ≡ true → g < 3 ^ n
unfolding is_weighing
weighing_below n g h = ltb-true _ _ (and_parts _ _ (and_parts _ _ h).0).0

pub coins_lawful : (n : ℕ) → 2 ≤ n → n < 13 → Lawful (coins n)
coins_lawful n some few = record {
  some_codes = omega arith;
  few_codes = omega arith;
  some_guesses = power_positive 3 n (omega arith);
  few_guesses = omega (arith, three_power n few);
  some_answers = omega arith;
  few_answers = omega arith;
  code_below = λ c h. ltb-true c (2 * n) h;
  guess_below = weighing_below n;
  answer_below = λ c g both. subst (λ z. z < 3) (sym (cond-true _ (weighed n c g) 3 (and_from _ _ both.0 both.1))) (weighed_below n c g);
  no_answer = λ c g none. cond-false _ _ _ none;
  win_names = λ names c g both won. absurd (both_ways false refl names);
  named_wins = λ names c g both same. absurd (both_ways false refl names);
}
