-- What an answer rule means, and the law that every rule keeps. Assumes nothing.
use Rattle.std.specs.Prelude.{◌≡◌, ℕ, ◌-◌, ◌<◌, ◌≤◌, Bool, true, false, ◌&&◌}

-- A game as the rest of the product knows it. Codes and guesses are numbers.
pub record Meaning : Type 0 where
  -- each code is below this number
  pub code_bound : ℕ
  -- each admitted guess is below this number
  pub guess_bound : ℕ
  pub is_code : ℕ → Bool
  pub admits : ℕ → Bool
  -- how many answers there are; the answers are the numbers below it
  pub answers : ℕ
  -- whether a code is found by guessing it, rather than by knowing it
  pub naming : Bool
  -- the answer that a code gives to a guess
  pub answer : ℕ → ℕ → ℕ

-- the code and the guess make a pair that the game can answer
abbrev pub Playable : Meaning → ℕ → ℕ → Type 0
Playable m c g = (m.is_code c ≡ true) × (m.admits g ≡ true)

-- the answer that ends a naming game
abbrev pub win : Meaning → ℕ
win m = m.answers - 1

-- What every rule owes.
pub record Lawful (m : Meaning) : Type 0 where
  pub some_codes : 1 ≤ m.code_bound
  pub few_codes : m.code_bound ≤ 16384
  pub some_guesses : 1 ≤ m.guess_bound
  pub few_guesses : m.guess_bound ≤ 1048576
  pub some_answers : 2 ≤ m.answers
  pub few_answers : m.answers ≤ 64
  pub code_below : (c : ℕ) → m.is_code c ≡ true → c < m.code_bound
  pub guess_below : (g : ℕ) → m.admits g ≡ true → g < m.guess_bound
  pub answer_below : (c g : ℕ) → Playable m c g → m.answer c g < m.answers
  -- a pair that is not a code and an admitted guess has the answer past the last
  pub no_answer : (c g : ℕ) → (m.is_code c && m.admits g) ≡ false → m.answer c g ≡ m.answers
  -- in a naming game the win is the answer to the code itself, and to nothing else
  pub win_names : m.naming ≡ true → (c g : ℕ) → Playable m c g → m.answer c g ≡ win m → c ≡ g
  pub named_wins : m.naming ≡ true → (c g : ℕ) → Playable m c g → c ≡ g → m.answer c g ≡ win m
