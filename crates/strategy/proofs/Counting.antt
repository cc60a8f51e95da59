-- No strategy finds more codes of a set within k guesses than there are places. Assumes nothing.
use Rattle.std.proofs.Common.{◌≡◌, ℕ, zero, suc, ◌+◌, ◌-◌, ◌*◌, ◌<◌, ◌≤◌, Bool, true, false, cond, not, ◌&&◌, ◌==◌, sym, refl, ◌∙◌, zero-le, le_trans, add-le-add, mul-pos, arith}
use Rattle.std.proofs.Math.Option.{Option, none}
use Rattle.std.proofs.lemmas.Bool.{eqb-true, eqb-false, ne_eqb, and_parts, and_from, and_left, and_right, not-true, true≢false, false≢true}
use Rattle.rule.specs.Digits.{how_many}
use Rattle.rule.specs.Meaning.{Meaning, Lawful, win}
use Rattle.strategy.specs.Strategy.{Strategy, Branches, leaf, ask, no_more, branch, IsStrategy, AreBranches, wins, one_more, play, follow, within, Codes, places, size}
use Rattle.strategy.proofs.Counts.{count_part, count_none, count_one, count_two, count_classes}
use Rattle.strategy.proofs.Plays.{never_at_zero, one_fewer, leaf_finds}

places_more : (naming : Bool) (A k : ℕ) → naming ≡ false → places naming A (suc k) ≡ A * places naming A k
places_more true A k e = absurd (true≢false e)
places_more false A k e = refl

places_more_naming : (naming : Bool) (A k : ℕ) → naming ≡ true → places naming A (suc k) ≡ 1 + (A - 1) * places naming A k
places_more_naming true A k e = refl
places_more_naming false A k e = absurd (false≢true e)

places_some : (naming : Bool) (A k : ℕ) → naming ≡ false → 1 ≤ A → 1 ≤ places naming A k
places_some true A k e h = absurd (true≢false e)
places_some false A zero e h = omega arith
places_some false A (suc k) e h = mul-pos h (places_some false A k e h)

module _ (m : Meaning) (lawful : Lawful m) where
  -- how many codes of the set end within k guesses, by a plan that says how each goes on
  abbrev ending : Codes → ℕ → (ℕ → Option ℕ) → ℕ
  ending S k plan = size m (λ c. S c && within k (plan c))

  -- a code of the set that ends in time
  ends : (S : Codes) (k : ℕ) (plan : ℕ → Option ℕ) (c : ℕ) → (m.is_code c && (S c && within k (plan c))) ≡ true → (m.is_code c ≡ true) × (S c ≡ true) × (within k (plan c) ≡ true)
  ends S k plan c e =
      let one = and_parts (m.is_code c) (S c && within k (plan c)) e in
      let two = and_parts (S c) (within k (plan c)) one.1 in
      (one.0, two.0, two.1)

  leaf_bound : (d k : ℕ) (S : Codes) (naming : Bool) → m.naming ≡ naming → ending S k (λ c. play m c false (leaf d)) ≤ places m.naming m.answers k
  leaf_bound d k S true e =
      let None-found = count_none m.code_bound _ (λ c lt f. true≢false (sym e ∙ (leaf_finds m c d k (ends S k (λ x. play m x false (leaf d)) c f).2).0)) in
      rw None-found zero-le
  leaf_bound d k S false e =
      le_trans (count_one m.code_bound d _ (λ c f. (leaf_finds m c d k (ends S k (λ x. play m x false (leaf d)) c f).2).1))
      (places_some m.naming m.answers k e (omega (arith, lawful.some_answers)))

  none_bound : (rest : Branches) (S : Codes) (answer : ℕ → ℕ) → ending S 0 (λ c. one_more (follow m c (answer c) rest)) ≤ places m.naming m.answers 0
  none_bound rest S answer =
      let None-found = count_none m.code_bound _ (λ c lt f. never_at_zero (follow m c (answer c) rest) (ends S 0 (λ x. one_more (follow m x (answer x) rest)) c f).2) in
      rw None-found zero-le

  -- a guess g, and what then follows each answer, where what follows an answer other than the win keeps to the places
  module _ (g k : ℕ) (admitted : m.admits g ≡ true) (next : ℕ → ℕ → Option ℕ) (kept : (a : ℕ) → wins m a ≡ false → (S : Codes) → ending S k (λ c. next c a) ≤ places m.naming m.answers k) (S : Codes) where
    asked : ℕ → Option ℕ
    asked c = one_more (next c (m.answer c g))

    found : ℕ → Bool
    found c = m.is_code c && (S c && within (suc k) (asked c))

    answer_below : (c : ℕ) → found c ≡ true → m.answer c g < m.answers
    unfolding found
    answer_below c e = lawful.answer_below c g ((ends S (suc k) asked c e).0, admitted)

    class : (a c : ℕ) → (found c && m.answer c g == a) ≡ true → (m.is_code c && (S c && within k (next c a))) ≡ true
    unfolding found asked
    class a c e =
        let two = and_parts (found c) (m.answer c g == a) e in
        let parts = ends S (suc k) asked c two.0 in
        let same : m.answer c g ≡ a = eqb-true (m.answer c g) a two.1 in
        let later : within k (next c a) ≡ true = rw same at (one_fewer k (next c (m.answer c g)) parts.2) in
        and_from (m.is_code c) (S c && within k (next c a)) parts.0 (and_from (S c) (within k (next c a)) parts.1 later)

    class_bound : (a : ℕ) → wins m a ≡ false → how_many m.code_bound (λ c. found c && m.answer c g == a) ≤ places m.naming m.answers k
    class_bound a e = le_trans (count_part m.code_bound _ _ (class a)) (kept a e S)

    -- in a naming game only the guess itself answers by the win
    won : m.naming ≡ true → how_many m.code_bound (λ c. found c && m.answer c g == win m) ≤ 1
    unfolding found
    won e =
        count_one m.code_bound g _
        (λ c f. let two = and_parts (found c) (m.answer c g == win m) f in
        lawful.win_names e c g ((ends S (suc k) asked c two.0).0, admitted) (eqb-true (m.answer c g) (win m) two.1))

    lost : ℕ → Bool
    lost c = found c && not (m.answer c g == win m)

    lost_below : (c : ℕ) → lost c ≡ true → m.answer c g < win m
    unfolding lost
    lost_below c e =
        let two = and_parts (found c) (not (m.answer c g == win m)) e in
        let other : m.answer c g ≡ win m → ⊥ = eqb-false (m.answer c g) (win m) (not-true _ two.1) in
        omega (arith, answer_below c two.0)

    lost_class : (a : ℕ) → a < win m → how_many m.code_bound (λ c. lost c && m.answer c g == a) ≤ places m.naming m.answers k
    unfolding lost
    lost_class a lt =
        le_trans (count_part m.code_bound _ (λ c. found c && m.answer c g == a)
        (λ c e. let two = and_parts (lost c) (m.answer c g == a) e in
        and_from (found c) (m.answer c g == a) (and_parts (found c) (not (m.answer c g == win m)) two.0).0 two.1))
        (class_bound a (and_right m.naming _ (ne_eqb a (win m) (omega arith))))

    ask_bound : (naming : Bool) → m.naming ≡ naming → how_many m.code_bound found ≤ places m.naming m.answers (suc k)
    unfolding lost
    ask_bound false e =
        rw (places_more m.naming m.answers k e)
        (count_classes m.answers _ m.code_bound (λ c. m.answer c g) found answer_below (λ a lt. class_bound a (and_left m.naming _ e)))
    ask_bound true e =
        rw (places_more_naming m.naming m.answers k e, count_two m.code_bound found (λ c. m.answer c g == win m))
        (add-le-add (won e) (count_classes (win m) _ m.code_bound (λ c. m.answer c g) lost lost_below lost_class))

  branch_bound : (k a p : ℕ) (S : Codes) (s : Strategy) (rest : Branches) → ending S k (λ c. play m c false s) ≤ p → ending S k (λ c. follow m c a rest) ≤ p
      → (same won : Bool) → won ≡ false → ending S k (λ c. cond same (play m c won s) (follow m c a rest)) ≤ p
  branch_bound k a p S s rest own other true true e = absurd (true≢false e)
  branch_bound k a p S s rest own other true false e = own
  branch_bound k a p S s rest own other false won e = other

  mutual
    unfolding found asked

    pub strategy_bound : (s : Strategy) → IsStrategy m s → (k : ℕ) (S : Codes) → ending S k (λ c. play m c false s) ≤ places m.naming m.answers k
    strategy_bound (leaf d) h k S = leaf_bound d k S m.naming refl
    strategy_bound (ask g rest) h zero S = none_bound rest S (λ c. m.answer c g)
    strategy_bound (ask g rest) h (suc k) S = ask_bound g k h.0 (λ c a. follow m c a rest) (λ a e. branches_bound rest h.1 k a e) S m.naming refl

    branches_bound : (rest : Branches) → AreBranches m rest → (k a : ℕ) → wins m a ≡ false → (S : Codes) → ending S k (λ c. follow m c a rest) ≤ places m.naming m.answers k
    branches_bound no_more h k a e S = rw (count_none m.code_bound _ (λ c lt f. false≢true (ends S k (λ x. none) c f).2)) zero-le
    branches_bound (branch b s rest) h k a e S =
        branch_bound k a _ S s rest (strategy_bound s h.2 k S) (branches_bound rest h.3 k a e S) (a == b) (wins m a) e
