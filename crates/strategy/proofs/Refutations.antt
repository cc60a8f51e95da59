-- A refutation is right of every strategy. Each kind of evidence has a lemma of its own, about sets that are out of reach.
-- Assumes nothing.
use Rattle.std.proofs.Common.{◌≡◌, ℕ, zero, suc, ◌+◌, ◌<◌, ◌≤◌, max, true, false, ◌&&◌, ◌==◌, ◌⊎◌, sym, ◌∙◌, subst, inl, inr, not-suc-le-zero, arith}
use Rattle.std.proofs.Math.Option.{none}
use Rattle.std.proofs.lemmas.Bool.{eqb-true, and_parts, and_from, le-leb, cases_lt, true≢false, false≢true}
use Rattle.rule.specs.Meaning.{Meaning, Lawful}
use Rattle.strategy.specs.Strategy.{Strategy, Branches, leaf, ask, IsStrategy, FindsEvery, wins, play, follow, within, cost, guesses, greatest, worst_case, Codes, all_codes, that_answer, found_within, places, size, Refutation, count, split}
use Rattle.strategy.specs.Theorems.{OutOfReach, Begins, NoFewer}
use Rattle.strategy.proofs.Counts.{count_part}
use Rattle.strategy.proofs.Plays.{one_fewer, leaf_finds, leaf_at_once, child}
use Rattle.strategy.proofs.Counting.{strategy_bound}

module _ (m : Meaning) (lawful : Lawful m) where
  -- a set with more codes than places
  pub count_right : (S : Codes) (k : ℕ) → places m.naming m.answers k < size m S → OutOfReach m S k
  count_right S k more s fits all =
      let whole : size m S ≤ size m (found_within m s k S) =
      count_part m.code_bound (λ c. m.is_code c && S c) (λ c. m.is_code c && found_within m s k S c)
      (λ c e. let two = and_parts (m.is_code c) (S c) e in
      and_from (m.is_code c) _ two.0 (and_from (S c) _ two.1 (all c two.0 two.1))) in
      omega (arith, strategy_bound m lawful s fits k S)

  -- a set that leaves, whichever guess is asked, a set out of reach
  module _ (S : Codes) (k : ℕ) (reply : ℕ → ℕ) (lost : (g : ℕ) → m.admits g ≡ true → wins m (reply g) ≡ false) (left : (g : ℕ) → m.admits g ≡ true → OutOfReach m (that_answer m S g (reply g)) k) where
    split_ask : (g : ℕ) (rest : Branches) → IsStrategy m (ask g rest) → ((c : ℕ) → m.is_code c ≡ true → S c ≡ true → within (suc k) (cost m (ask g rest) c) ≡ true) → ⊥
    split_ask g rest fits all = go (child m (reply g) rest fits.1)
      where
        -- a code that the reply leaves is found from the child on within k guesses
        later : (c : ℕ) → m.is_code c ≡ true → that_answer m S g (reply g) c ≡ true → within k (follow m c (reply g) rest) ≡ true
        later c code e =
            let two = and_parts (S c) (m.answer c g == reply g) e in
            let same = eqb-true (m.answer c g) (reply g) two.1 in
            rw same at (one_fewer k (follow m c (m.answer c g) rest) (all c code two.0))

        go : ((s : Strategy) × IsStrategy m s × ((c : ℕ) → follow m c (reply g) rest ≡ play m c (wins m (reply g)) s)) ⊎ ((c : ℕ) → follow m c (reply g) rest ≡ none) → ⊥
        go (inl t) = left g fits.0 t.0 t.1 (λ c code e. rw (t.2 c, lost g fits.0) at (later c code e))
        go (inr f) = left g fits.0 (ask g rest) fits (λ c code e. absurd (false≢true (rw (f c) at (later c code e))))

    pub split_right : (g : ℕ) → m.admits g ≡ true → OutOfReach m S (suc k)
    split_right g admitted (leaf d) fits all =
        left g admitted (leaf d) fits
        (λ c code e. leaf_at_once m c d (suc k) k (all c code (and_parts (S c) (m.answer c g == reply g) e).0))
    split_right g admitted (ask h rest) fits all = split_ask h rest fits all

  -- where a guess can be asked, a refuted set is out of reach
  pub refutation_right : (g : ℕ) → m.admits g ≡ true → {S : Codes} {k : ℕ} → Refutation m S k → OutOfReach m S k
  refutation_right g admitted (count {S = S} {k = k} more) = count_right S k more
  refutation_right g admitted (split {S = S} {k = k} reply fair left) =
      split_right S k reply (λ h e. (fair h e).1) (λ h e. refutation_right g admitted (left h e)) g admitted

greatest_bound : (n : ℕ) (f : ℕ → ℕ) (x : ℕ) → x < n → f x ≤ greatest n f
greatest_bound zero f x lt = absurd (not-suc-le-zero lt)
greatest_bound (suc n) f x lt = go (greatest_bound n f x) (cases_lt x n)
  where
    go : (x < n → f x ≤ greatest n f) → (x < n) ⊎ (n ≤ x) → f x ≤ max (f n) (greatest n f)
    go below (inl h) = omega (arith, below h)
    go below (inr h) =
        let same : x ≡ n = omega arith in
        rw same (omega arith)

module _ (m : Meaning) (lawful : Lawful m) (s : Strategy) (finds : FindsEvery m s) where
  -- each code is found within the worst case
  worst_right : (k : ℕ) → worst_case m s ≤ k → (c : ℕ) → m.is_code c ≡ true → within k (cost m s c) ≡ true
  worst_right k least c code =
      let found = finds c code in
      let own : guesses m s c ≡ found.0 = rw (code, found.1) in
      let bound = greatest_bound m.code_bound (guesses m s) c (lawful.code_below c code) in
      rw found.1 (le-leb found.0 k (omega arith))

  worst_past : (k : ℕ) → OutOfReach m all_codes k → IsStrategy m s → k + 1 ≤ worst_case m s
  worst_past k out fits = go (cases_lt k (worst_case m s))
    where
      go : (k < worst_case m s) ⊎ (worst_case m s ≤ k) → k + 1 ≤ worst_case m s
      go (inl h) = omega arith
      go (inr h) = absurd (out s fits (λ c code e. worst_right k h c code))

-- a leaf alone finds every code only in a game that has one code and is not a naming one
leaf_alone : (m : Meaning) (d : ℕ) → m.is_code d ≡ true → FindsEvery m (leaf d) → (m.naming ≡ false) × ((c : ℕ) → m.is_code c ≡ true → c ≡ d)
leaf_alone m d code finds = ((only d code).0, λ c e. (only c e).1)
  where
    only : (c : ℕ) → m.is_code c ≡ true → (m.naming ≡ false) × (c ≡ d)
    only c e =
        let found = finds c e in
        leaf_finds m c d found.0 (rw found.1 (le-leb found.0 found.0 (omega arith)))

no_fewer_next : (k : ℕ) → NoFewer k (k + 1)
no_fewer_next k m lawful begins refuted (ask g rest) fits finds =
    worst_past m lawful (ask g rest) finds k (refutation_right m lawful g fits.0 refuted) fits
no_fewer_next k m lawful begins refuted (leaf d) fits finds = go begins
  where
    alone : (m.naming ≡ false) × ((c : ℕ) → m.is_code c ≡ true → c ≡ d)
    alone = leaf_alone m d fits finds

    go : Begins m → k + 1 ≤ worst_case m (leaf d)
    go (inl naming) = absurd (true≢false (sym naming ∙ alone.0))
    go (inr (inl g)) = worst_past m lawful (leaf d) finds k (refutation_right m lawful g.0 g.1 refuted) fits
    go (inr (inr two)) = absurd (two.4 (alone.1 two.0 two.2 ∙ sym (alone.1 two.1 two.3)))

pub no_fewer : (k w : ℕ) → w ≡ k + 1 → NoFewer k w
no_fewer k w e = subst (NoFewer k) (sym e) (no_fewer_next k)
