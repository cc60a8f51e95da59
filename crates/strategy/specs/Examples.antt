-- Two games small enough to go through by hand, which show that strategies and refutations exist. Assumes nothing.
use Rattle.std.specs.Prelude.{◌≡◌, ℕ, ◌-◌, ◌<◌, ◌≤◌, true}
use Rattle.rule.specs.Coins.{coins}
use Rattle.rule.specs.Digits.{how_many}
use Rattle.rule.specs.Meaning.{Meaning}
use Rattle.rule.specs.Pegs.{pegs}
use Rattle.strategy.specs.Strategy.{Strategy, leaf, ask, no_more, branch, IsStrategy, FindsEvery, worst_case, cost_sum, all_codes, size, places, Refutation}

-- One peg in one of two colours: the answers are 0 for a wrong colour and 1 for the win.
abbrev pub one_peg : Meaning
one_peg = pegs 1 2 true

-- Guess one colour, and if it was wrong the other.
abbrev pub in_turn : Strategy
in_turn = ask 0 (branch 0 (ask 1 (branch 1 (leaf 1) no_more)) (branch 1 (leaf 0) no_more))

-- Guessing in turn finds both codes, with this worst case and sum; one guess fewer is refuted, so no strategy has a better
-- worst case.
pub record OnePeg (most all : ℕ) : Type 0 where
  pub two_codes : size one_peg all_codes ≡ 2
  pub fits : IsStrategy one_peg in_turn
  pub finds : FindsEvery one_peg in_turn
  pub costs_most : worst_case one_peg in_turn ≡ most
  pub costs_all : cost_sum one_peg in_turn ≡ all
  pub refuted : Refutation one_peg all_codes (most - 1)
  pub least : (s : Strategy) → IsStrategy one_peg s → FindsEvery one_peg s → most ≤ worst_case one_peg s

-- Four coins, one of them false: k weighings are refuted, though they have a place for each code, so that it takes a split
-- over the weighings; no strategy does with k of them.
pub record FourCoins (k : ℕ) : Type 0 where
  pub eight_codes : size (coins 4) all_codes ≡ 8
  pub weighings : how_many (coins 4).guess_bound (coins 4).admits ≡ 18
  pub places_enough : size (coins 4) all_codes ≤ places (coins 4).naming (coins 4).answers k
  pub refuted : Refutation (coins 4) all_codes k
  pub least : (s : Strategy) → IsStrategy (coins 4) s → FindsEvery (coins 4) s → k < worst_case (coins 4) s
