-- What a strategy is and costs, how many codes a number of guesses can find, and what a refutation is: all that a reader
-- has to believe. Assumes nothing.
use Rattle.std.specs.Prelude.{◌≡◌, ℕ, zero, suc, ◌+◌, ◌-◌, ◌*◌, ◌<◌, max, Bool, true, false, cond, ◌&&◌, ◌≢◌, ◌==◌, nat_le}
use Rattle.std.specs.Bool.{beq}
use Rattle.std.proofs.Math.Option.{Option, none, some, get_or}
use Rattle.rule.specs.Digits.{total, how_many}
use Rattle.rule.specs.Meaning.{Meaning, win}

mutual
  -- A finite decision tree: a leaf names a code, a node asks a guess.
  pub data Strategy : Type 0 where
    leaf : ℕ → Strategy
    ask : ℕ → Branches → Strategy

  -- How a node goes on: an answer with the strategy to follow then, and the branches for other answers.
  pub data Branches : Type 0 where
    no_more : Branches
    branch : ℕ → Strategy → Branches → Branches

-- No branch is for this answer.
abbrev pub Absent : ℕ → Branches → Type 0
Absent a no_more = Unit {0}
Absent a (branch b s rest) = (a ≢ b) × Absent a rest

abbrev mutual
  -- The tree fits the game: leaves name codes, guesses are admitted, and each answer has at most one child.
  pub IsStrategy : Meaning → Strategy → Type 0
  IsStrategy m (leaf c) = m.is_code c ≡ true
  IsStrategy m (ask g rest) = (m.admits g ≡ true) × AreBranches m rest

  -- The branches fit the game.
  pub AreBranches : Meaning → Branches → Type 0
  AreBranches m no_more = Unit {0}
  AreBranches m (branch a s rest) = (a < m.answers) × Absent a rest × IsStrategy m s × AreBranches m rest

-- The answer ends a naming game.
abbrev pub wins : Meaning → ℕ → Bool
wins m a = m.naming && a == win m

-- One guess more.
abbrev pub one_more : Option ℕ → Option ℕ
one_more none = none
one_more (some n) = some (suc n)

abbrev mutual
  -- How many guesses the play of the code c asks from here until it ends on c's own leaf, if it ends there. It was the win
  -- that led here where `won` is true: then a leaf has to follow, and in a naming game a leaf follows only then.
  pub play : Meaning → ℕ → Bool → Strategy → Option ℕ
  play m c won (leaf d) = cond (beq won m.naming && d == c) (some 0) none
  play m c won (ask g rest) = cond won none (one_more (follow m c (m.answer c g) rest))

  -- The same from the child for the answer a, if there is one.
  pub follow : Meaning → ℕ → ℕ → Branches → Option ℕ
  follow m c a no_more = none
  follow m c a (branch b s rest) = cond (a == b) (play m c (wins m a) s) (follow m c a rest)

-- What a code costs: the number of guesses asked, if its play ends on its own leaf.
abbrev pub cost : Meaning → Strategy → ℕ → Option ℕ
cost m s c = play m c false s

-- The code's own leaf is reached after at most k guesses.
abbrev pub within : ℕ → Option ℕ → Bool
within k none = false
within k (some n) = nat_le n k

-- The strategy finds every code: the play of each ends on the leaf that names it.
abbrev pub FindsEvery : Meaning → Strategy → Type 0
FindsEvery m s = (c : ℕ) → m.is_code c ≡ true → (n : ℕ) × (cost m s c ≡ some n)

-- The guesses that a code adds to the account of a strategy; a number that is no code adds none.
abbrev pub guesses : Meaning → Strategy → ℕ → ℕ
guesses m s c = cond (m.is_code c) (get_or (cost m s c) 0) 0

-- The greatest of the values below n.
abbrev pub greatest : ℕ → (ℕ → ℕ) → ℕ
greatest zero f = 0
greatest (suc n) f = max (f n) (greatest n f)

-- The greatest cost of a code.
abbrev pub worst_case : Meaning → Strategy → ℕ
worst_case m s = greatest m.code_bound (guesses m s)

-- The sum of the costs of all codes.
abbrev pub cost_sum : Meaning → Strategy → ℕ
cost_sum m s = total m.code_bound (guesses m s)

-- A set of codes, by a test. Numbers that are no codes do not count.
abbrev pub Codes : Type 0
Codes = ℕ → Bool

-- The set of all codes.
abbrev pub all_codes : Codes
all_codes c = true

-- Those codes of the set that answer the guess g by a.
abbrev pub that_answer : Meaning → Codes → ℕ → ℕ → Codes
that_answer m S g a c = S c && m.answer c g == a

-- Those codes of the set that the strategy finds within k guesses.
abbrev pub found_within : Meaning → Strategy → ℕ → Codes → Codes
found_within m s k S c = S c && within k (cost m s c)

-- How many codes the set has.
abbrev pub size : Meaning → Codes → ℕ
size m S = how_many m.code_bound (λ c. m.is_code c && S c)

-- How many codes k guesses can find at most, in a naming game or another, with so many answers.
abbrev pub places : Bool → ℕ → ℕ → ℕ
places true answers zero = 0
places true answers (suc k) = 1 + (answers - 1) * places true answers k
places false answers zero = 1
places false answers (suc k) = answers * places false answers k

-- A refutation of k guesses for a set of codes: a reason why no strategy finds them all within k guesses.
pub data Refutation (m : Meaning) : Codes → ℕ → Type 0 where
  -- the set has more codes than k guesses have places
  count : {S : Codes} {k : ℕ} → places m.naming m.answers k < size m S → Refutation m S k
  -- whichever guess is asked, the reply to it leaves codes that the guesses then left are refuted for; a reply is not the win
  split : {S : Codes} {k : ℕ} (reply : ℕ → ℕ)
      → ((g : ℕ) → m.admits g ≡ true → (reply g < m.answers) × (wins m (reply g) ≡ false))
      → ((g : ℕ) → m.admits g ≡ true → Refutation m (that_answer m S g (reply g)) k)
      → Refutation m S (suc k)
