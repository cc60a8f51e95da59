-- The house figures: one table of rows, each of them computed from what the games mean. Assumes nothing.
use Rattle.std.specs.Prelude.{◌≡◌, ℕ, Bool, true, false, ◌&&◌, ◌⊎◌, List, [], ◌∷◌, length, ◌==◌, nat_lt}
use Rattle.rule.specs.Coins.{coins}
use Rattle.rule.specs.Meaning.{Meaning}
use Rattle.rule.specs.Pegs.{pegs, blacks, pairs, position}
use Rattle.strategy.specs.Strategy.{places}

pub data Figure : Type 0 where
  -- in this game, the code and the guess have this answer
  answers : Meaning → ℕ → ℕ → ℕ → Figure
  -- for so many pegs, so much black and so much white is this answer
  stands_for : ℕ → ℕ → ℕ → ℕ → Figure
  -- in a naming game or another, with so many answers, so many guesses find at most this many codes
  finds_at_most : Bool → ℕ → ℕ → ℕ → Figure

-- what a row says, as a test
abbrev pub holds : Figure → Bool
holds (answers game code guess answer) = game.answer code guess == answer
holds (stands_for p black white answer) = nat_lt answer (length (pairs p)) && position (black, white) (pairs p) == answer
holds (finds_at_most naming a guesses codes) = places naming a guesses == codes

-- four pegs in six colours
abbrev pub mastermind : Meaning
mastermind = pegs 4 6 true

-- four digits, all different
abbrev pub bulls_and_cows : Meaning
bulls_and_cows = pegs 4 10 false

abbrev pub figures : List Figure
figures =
    -- BACC and CCAC: one black and two white
    answers mastermind 230 506 7
    ∷ stands_for 4 1 2 7
    ∷ answers (blacks 4 6 true) 230 506 1
    ∷ answers bulls_and_cows 1234 3154 7
    ∷ answers bulls_and_cows 1234 3145 3
    -- the first coin left, the second right, the third aside: the first is heavy, or light, or the third is heavy
    ∷ answers (coins 3) 0 15 1
    ∷ answers (coins 3) 1 15 2
    ∷ answers (coins 3) 4 15 0
    -- a naming game with the answers of four pegs
    ∷ finds_at_most true 14 0 0
    ∷ finds_at_most true 14 1 1
    ∷ finds_at_most true 14 2 14
    ∷ finds_at_most true 14 3 183
    ∷ finds_at_most true 14 4 2380
    -- weighings on a balance
    ∷ finds_at_most false 3 0 1
    ∷ finds_at_most false 3 1 3
    ∷ finds_at_most false 3 2 9
    ∷ finds_at_most false 3 3 27
    ∷ finds_at_most false 3 4 81
    ∷ []

-- the row is one of the list
abbrev pub Among : Figure → List Figure → Type 0
Among row [] = ⊥
Among row (first ∷ rest) = (row ≡ first) ⊎ Among row rest

-- every row of the table holds
abbrev pub EveryFigure : Type 0
EveryFigure = (row : Figure) → Among row figures → holds row ≡ true
