-- The two small games, computed. Assumes nothing.
use Rattle.std.proofs.Common.{◌≡◌, ℕ, zero, suc, ◌<◌, ◌≤◌, Bool, true, false, cond, not, ◌&&◌, ◌||◌, nat_lt, refl, inl, inr, arith, lit<, lit≤}
use Rattle.std.proofs.lemmas.Bool.{ltb-true, and_parts, false≢true, not-true}
use Rattle.rule.specs.Laws.Below.{all_below_at}
use Rattle.rule.specs.Laws.CoinLaws.{coins_lawful}
use Rattle.rule.specs.Laws.PegLaws.{pegs_lawful}
use Rattle.rule.specs.Coins.{coins, is_weighing, weighed}
use Rattle.rule.specs.Digits.{all_below}
use Rattle.rule.specs.Meaning.{Meaning}
use Rattle.rule.specs.Pegs.{is_row, pairs, peg_answer}
use Rattle.strategy.proofs.Refutations.{no_fewer}
use Rattle.strategy.specs.Examples.{one_peg, in_turn}
use Rattle.strategy.specs.Strategy.{Strategy, worst_case, Codes, all_codes, that_answer, size, places, wins, IsStrategy, FindsEvery, Refutation, count, split}

-- a reply that is no win and leaves more codes than there are places
abbrev overfull : (m : Meaning) → Codes → ℕ → (ℕ → ℕ) → ℕ → Bool
overfull m S k reply g =
    nat_lt (reply g) m.answers && (not (wins m (reply g)) && nat_lt (places m.naming m.answers k) (size m (that_answer m S g (reply g))))

if_admitted : (a b : Bool) → (not a || b) ≡ true → a ≡ true → b ≡ true
if_admitted true b e h = e
if_admitted false b e h = absurd (false≢true h)

-- a split all of whose parts are too many, by one test
split_at_once : (m : Meaning) (S : Codes) (k : ℕ) (reply : ℕ → ℕ) → ((g : ℕ) → m.admits g ≡ true → g < m.guess_bound)
    → all_below m.guess_bound (λ g. not (m.admits g) || overfull m S k reply g) ≡ true → Refutation m S (suc k)
split_at_once m S k reply below test =
    split reply (λ g e. (ltb-true _ _ (good g e).0, not-true _ (rest g e).0)) (λ g e. count (ltb-true _ _ (rest g e).1))
  where
    good : (g : ℕ) → m.admits g ≡ true → (nat_lt (reply g) m.answers ≡ true) × ((not (wins m (reply g)) && nat_lt (places m.naming m.answers k) (size m (that_answer m S g (reply g)))) ≡ true)
    good g e =
        and_parts _ _ (if_admitted (m.admits g) (overfull m S k reply g) (all_below_at m.guess_bound _ test g (below g e)) e)

    rest : (g : ℕ) → m.admits g ≡ true → (not (wins m (reply g)) ≡ true) × (nat_lt (places m.naming m.answers k) (size m (that_answer m S g (reply g))) ≡ true)
    rest g e = and_parts _ _ (good g e).1

pub in_turn_finds : FindsEvery one_peg in_turn
unfolding is_row peg_answer pairs
in_turn_finds zero e = (1, refl)
in_turn_finds (suc zero) e = (2, refl)
in_turn_finds (suc (suc c)) e =
    let below = ltb-true (suc (suc c)) 2 (and_parts (nat_lt (suc (suc c)) 2) _ e).0 in
    let never : ⊥ = omega arith in
    absurd never

pub in_turn_fits : IsStrategy one_peg in_turn
unfolding is_row pairs
in_turn_fits = (refl, (lit< tt, (λ e. omega (arith, e), tt), (refl, (lit< tt, tt, refl, tt)), (lit< tt, tt, refl, tt)))

-- level where that leaves more than three codes, else the left pan
heavier_part : ℕ → ℕ
heavier_part g = cond (nat_lt 3 (size (coins 4) (that_answer (coins 4) all_codes g 0))) 0 1

weighing_below : (g : ℕ) → (coins 4).admits g ≡ true → g < 81
unfolding is_weighing
weighing_below g e = ltb-true g 81 (and_parts (nat_lt g 81) _ (and_parts _ _ e).0).0

pub four_coins_refuted : Refutation (coins 4) all_codes 2
unfolding is_weighing weighed heavier_part
four_coins_refuted = split_at_once (coins 4) all_codes 1 heavier_part weighing_below refl

pub one_peg_refuted : Refutation one_peg all_codes 1
unfolding is_row peg_answer pairs
one_peg_refuted = count (lit< tt)

pub one_peg_least : (s : Strategy) → IsStrategy one_peg s → FindsEvery one_peg s → 2 ≤ worst_case one_peg s
one_peg_least = no_fewer 1 2 refl one_peg (pegs_lawful 1 2 (lit≤ tt) (lit< tt) (lit≤ tt) true (lit≤ tt)) (inl refl) one_peg_refuted

pub four_coins_least : (s : Strategy) → IsStrategy (coins 4) s → FindsEvery (coins 4) s → 3 ≤ worst_case (coins 4) s
unfolding is_weighing
four_coins_least = no_fewer 2 3 refl (coins 4) (coins_lawful 4 (lit≤ tt) (lit< tt)) (inr (inr (0, 1, refl, refl, λ e. omega (arith, e)))) four_coins_refuted
