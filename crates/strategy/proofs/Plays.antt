-- How a play goes on from a leaf, a guess and a branch. Assumes nothing.
use Rattle.std.proofs.Common.{◌≡◌, ℕ, suc, Bool, true, false, cond, ◌==◌, ◌⊎◌, sym, refl, ◌∙◌, inl, inr}
use Rattle.std.specs.Bool.{beq}
use Rattle.std.proofs.Math.Option.{Option, none, some}
use Rattle.std.proofs.Math.Dec.{leb-zero, leb-suc-zero, leb-suc-suc}
use Rattle.std.proofs.lemmas.Bool.{eqb-true, and_parts, false≢true}
use Rattle.rule.specs.Meaning.{Meaning}
use Rattle.strategy.specs.Strategy.{Strategy, Branches, leaf, no_more, branch, IsStrategy, AreBranches, wins, one_more, play, follow, within}

-- no guess is no time for one
pub never_at_zero : (o : Option ℕ) → within 0 (one_more o) ≡ true → ⊥
never_at_zero none e = false≢true e
never_at_zero (some n) e = false≢true (sym (leb-suc-zero n) ∙ e)

-- after one guess there is one fewer to ask
pub one_fewer : (k : ℕ) (o : Option ℕ) → within (suc k) (one_more o) ≡ true → within k o ≡ true
one_fewer k none e = e
one_fewer k (some n) e = sym (leb-suc-suc n k) ∙ e

at_leaf : (j : ℕ) (b : Bool) → within j (cond b (some 0) none) ≡ true → b ≡ true
at_leaf j true e = refl
at_leaf j false e = e

leaf_at : (k : ℕ) (b : Bool) → b ≡ true → within k (cond b (some 0) none) ≡ true
leaf_at k true e = leb-zero k
leaf_at k false e = e

not_naming : (b : Bool) → beq false b ≡ true → b ≡ false
not_naming true e = sym e
not_naming false e = refl

-- a leaf with no guess before it finds its own code, and only where the game is not a naming one
pub leaf_finds : (m : Meaning) (c d j : ℕ) → within j (play m c false (leaf d)) ≡ true → (m.naming ≡ false) × (c ≡ d)
leaf_finds m c d j e =
    let two = and_parts (beq false m.naming) (d == c) (at_leaf j _ e) in
    (not_naming m.naming two.0, sym (eqb-true d c two.1))

-- what a leaf finds, it finds without a guess
pub leaf_at_once : (m : Meaning) (c d j k : ℕ) → within j (play m c false (leaf d)) ≡ true → within k (play m c false (leaf d)) ≡ true
leaf_at_once m c d j k e = leaf_at k _ (at_leaf j _ e)

-- the child that the branches have for an answer, if they have one
pub child : (m : Meaning) (a : ℕ) (rest : Branches) → AreBranches m rest
    → ((s : Strategy) × IsStrategy m s × ((c : ℕ) → follow m c a rest ≡ play m c (wins m a) s)) ⊎ ((c : ℕ) → follow m c a rest ≡ none)
child m a no_more h = inr (λ c. refl)
child m a (branch b s rest) h = go (child m a rest h.3) (a == b) refl
  where
    Child : Branches → Type 0
    Child bs = ((t : Strategy) × IsStrategy m t × ((c : ℕ) → follow m c a bs ≡ play m c (wins m a) t)) ⊎ ((c : ℕ) → follow m c a bs ≡ none)

    go : Child rest → (t : Bool) → (a == b) ≡ t → Child (branch b s rest)
    go later true e = inl (s, h.2, λ c. rw e)
    go (inl t) false e = inl (t.0, t.1, λ c. rw e (t.2 c))
    go (inr f) false e = inr (λ c. rw e (f c))
