-- What is promised of every strategy there is, of any size and depth. Assumes nothing.
use Rattle.std.specs.Prelude.{◌≡◌, ℕ, ◌≤◌, Bool, true, ◌≢◌, ◌⊎◌}
use Rattle.rule.specs.Meaning.{Meaning, Lawful}
use Rattle.strategy.specs.Strategy.{Strategy, IsStrategy, FindsEvery, Codes, all_codes, cost, within, found_within, size, worst_case, Refutation}

-- No strategy finds more than r codes of any set within k guesses, in any game of this kind with so many answers.
abbrev pub FindsAtMost : Bool → ℕ → ℕ → ℕ → Type 0
FindsAtMost naming answers k r =
    (m : Meaning) → Lawful m → m.naming ≡ naming → m.answers ≡ answers → (s : Strategy) → IsStrategy m s → (S : Codes) → size m (found_within m s k S) ≤ r

-- No strategy finds all codes of the set within k guesses.
abbrev pub OutOfReach : Meaning → Codes → ℕ → Type 0
OutOfReach m S k =
    (s : Strategy) → IsStrategy m s → ((c : ℕ) → m.is_code c ≡ true → S c ≡ true → within k (cost m s c) ≡ true) → ⊥

-- No strategy finds all of any set of so many codes within k guesses, in any game of this kind with so many answers.
abbrev pub NotAll : Bool → ℕ → ℕ → ℕ → Type 0
NotAll naming answers k codes =
    (m : Meaning) → Lawful m → m.naming ≡ naming → m.answers ≡ answers → (S : Codes) → size m S ≡ codes → OutOfReach m S k

-- The game is not over before it begins: a guess has to be asked, or one can be, or there are two codes to tell apart.
abbrev pub Begins : Meaning → Type 0
Begins m =
    (m.naming ≡ true) ⊎ ((g : ℕ) × (m.admits g ≡ true)) ⊎ ((c : ℕ) × (d : ℕ) × (m.is_code c ≡ true) × (m.is_code d ≡ true) × (c ≢ d))

-- Where a refutation of k guesses stands for all codes, every strategy that finds every code has a worst case of at least w.
abbrev pub NoFewer : ℕ → ℕ → Type 0
NoFewer k w =
    (m : Meaning) → Lawful m → Begins m → Refutation m all_codes k → (s : Strategy) → IsStrategy m s → FindsEvery m s → w ≤ worst_case m s
