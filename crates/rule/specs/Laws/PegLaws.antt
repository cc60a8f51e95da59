-- The peg games keep the law. Assumes nothing.
use Rattle.std.specs.Prelude.{◌≡◌, ℕ, ◌+◌, ◌-◌, ◌*◌, ◌/◌, ◌^◌, ◌<◌, ◌≤◌, Bool, true, cond, ◌&&◌, length, ◌≢◌}
use Rattle.std.proofs.Common.{sym, ap, subst, ◌∙◌, ⊎_elim, arith}
use Rattle.std.proofs.lemmas.Nat.{mul-le}
use Rattle.std.proofs.lemmas.Bool.{and_parts, eq-eqb, and_from, and_left, and_right, not_from_false, le-leb, ne_eqb, ltb-true, cases_eq, cond-true, cond-false}
use Rattle.rule.specs.Digits.{digits, tally}
use Rattle.rule.specs.Meaning.{Lawful}
use Rattle.rule.specs.Pegs.{is_row, equal_places, white, pairs, possible, peg_answer, pegs, blacks}
use Rattle.rule.specs.Laws.Pairs.{place, Placed, placed, counted}
use Rattle.rule.specs.Laws.Rows.{digits_below, length_digits, equal_le, equal_le_shared, shared_le, one_off, same_equal, all_equal, same_number, power_positive}

module _ (p c : ℕ) (some : 1 ≤ p) (few : p < 7) (colours : 2 ≤ c) where
  abbrev black : ℕ → ℕ → ℕ
  black m n = equal_places (digits p c m) (digits p c n)

  abbrev whites : ℕ → ℕ → ℕ
  whites m n = white c (digits p c m) (digits p c n)

  pub black_le : (m n : ℕ) → black m n ≤ p
  black_le m n = omega (arith, equal_le (digits p c m) (digits p c n), length_digits p c m)

  pub pair_le : (m n : ℕ) → black m n + whites m n ≤ p
  pair_le m n =
      omega (arith, equal_le_shared c (digits p c m) (digits p c n) (digits_below p c m (omega arith)), shared_le c (digits p c m) (digits p c n) (digits_below p c m (omega arith)), length_digits p c m)

  no_white : (m n : ℕ) → black m n + 1 ≡ p → whites m n ≡ 0
  no_white m n e =
      omega (arith, one_off c (digits p c m) (digits p c n) (digits_below p c m (omega arith)) (length_digits p c m ∙ sym (length_digits p c n)) (e ∙ sym (length_digits p c m)))

  can_come : (m n : ℕ) → possible p (black m n, whites m n) ≡ true
  can_come m n =
      and_from _ _ (le-leb _ _ (pair_le m n))
      (not_from_false _
      (⊎_elim
      (λ e. and_right _ _ (ne_eqb (whites m n) 1 (λ one. omega (arith, no_white m n e))))
      (λ e. and_left _ _ (ne_eqb (black m n + 1) p e))
      (cases_eq (black m n + 1) p)))

  pub pair_placed : (m n : ℕ) → Placed p (black m n) (whites m n)
  pair_placed m n = placed p (black m n) (whites m n) few (can_come m n) (pair_le m n)

  pub peg_answer_is : (m n : ℕ) → peg_answer p c m n ≡ place p (black m n) (whites m n)
  unfolding peg_answer
  peg_answer_is m n = (pair_placed m n).at

  pub same_black_names : (m n : ℕ) → m < c ^ p → n < c ^ p → black m n ≡ p → m ≡ n
  same_black_names m n lm ln e =
      same_number p c m n (omega arith) lm ln
      (all_equal (digits p c m) (digits p c n) (length_digits p c m ∙ sym (length_digits p c n)) (e ∙ sym (length_digits p c m)))

  pub named_black : (m n : ℕ) → m ≡ n → black m n ≡ p
  named_black m n e = ap (λ z. black m z) (sym e) ∙ same_equal (digits p c m) ∙ length_digits p c m

  row_below : (repeats : Bool) (n : ℕ) → is_row p c repeats n ≡ true → n < c ^ p
  unfolding is_row
  row_below repeats n h = ltb-true n (c ^ p) (and_parts _ _ h).0

  pub pegs_lawful : (repeats : Bool) → c ^ p ≤ 16384 → Lawful (pegs p c repeats)
  pegs_lawful repeats rows = record {
    some_codes = power_positive c p (omega arith);
    few_codes = rows;
    some_guesses = power_positive c p (omega arith);
    few_guesses = omega arith;
    some_answers = (counted p some few).some;
    few_answers = (counted p some few).few;
    code_below = row_below repeats;
    guess_below = row_below repeats;
    answer_below = λ m n both. subst (λ z. z < length (pairs p)) (sym (answered m n both)) (pair_placed m n).within;
    no_answer = λ m n none. cond-false _ _ _ none;
    win_names = λ _ m n both won.
        same_black_names m n (row_below repeats m both.0) (row_below repeats n both.1)
        ((pair_placed m n).last_is_all (omega (arith, answered m n both, won, (counted p some few).some)));
    named_wins = λ _ m n both same. omega (arith, answered m n both, (pair_placed m n).all_is_last (named_black m n same));
  }
    where
      answered : (m n : ℕ) → (is_row p c repeats m ≡ true) × (is_row p c repeats n ≡ true) → cond (is_row p c repeats m && is_row p c repeats n) (peg_answer p c m n) (length (pairs p)) ≡ place p (black m n) (whites m n)
      answered m n both = cond-true _ _ _ (and_from _ _ both.0 both.1) ∙ peg_answer_is m n

  pub blacks_lawful : (repeats : Bool) → c ^ p ≤ 16384 → Lawful (blacks p c repeats)
  blacks_lawful repeats rows = record {
    some_codes = power_positive c p (omega arith);
    few_codes = rows;
    some_guesses = power_positive c p (omega arith);
    few_guesses = omega arith;
    some_answers = omega arith;
    few_answers = omega arith;
    code_below = row_below repeats;
    guess_below = row_below repeats;
    answer_below = λ m n both. omega (arith, answered m n both, black_le m n);
    no_answer = λ m n none. cond-false _ _ _ none;
    win_names = λ _ m n both won.
        same_black_names m n (row_below repeats m both.0) (row_below repeats n both.1) (omega (arith, answered m n both, won));
    named_wins = λ _ m n both same. omega (arith, answered m n both, named_black m n same);
  }
    where
      answered : (m n : ℕ) → (is_row p c repeats m ≡ true) × (is_row p c repeats n ≡ true) → cond (is_row p c repeats m && is_row p c repeats n) (black m n) (p + 1) ≡ black m n
      answered m n both = cond-true _ _ _ (and_from _ _ both.0 both.1)

-- what black and white of two rows say of the answer
pub record Compared (p b w answer : ℕ) : Type 0 where
  pub few : b ≤ p
  pub both : b + w ≤ p
  pub product : b * (2 * p + 3 - b) ≤ 90
  -- the position before the pair that cannot come is left out
  pub last : b ≡ p → (2 ≤ (b * (2 * p + 3 - b)) / 2 + w) × (answer ≡ (b * (2 * p + 3 - b)) / 2 + w - 1)
  pub other : (b ≢ p) → answer ≡ (b * (2 * p + 3 - b)) / 2 + w

pub compared : (p c m n b w : ℕ) → 1 ≤ p → p < 7 → 2 ≤ c → b ≡ equal_places (digits p c m) (digits p c n) → w ≡ white c (digits p c m) (digits p c n) → Compared p b w (peg_answer p c m n)
compared p c m n b w some few colours eb ew =
    let is : peg_answer p c m n ≡ place p b w = peg_answer_is p c some few colours m n ∙ (λ i. place p (sym eb i) (sym ew i)) in
    let low : b ≤ p = omega (arith, black_le p c some few colours m n) in
    let end : b ≡ p → place p b w + 1 ≡ length (pairs p) = λ e. (λ i. place p (eb i) (ew i) + 1) ∙ (pair_placed p c some few colours m n).all_is_last (sym eb ∙ e) in
    record {
      few = low;
      both = omega (arith, pair_le p c some few colours m n);
      product = mul-le b (2 * p + 3 - b) 6 15 (omega arith) (omega arith);
      last = λ e. let t = ap tally (eq-eqb b p e) in (omega (arith, t, end e, (counted p some few).some), omega (arith, is, t));
      other = λ e. let t = ap tally (ne_eqb b p e) in omega (arith, is, t);
    }
