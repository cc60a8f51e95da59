-- The game of the false coin: weights, pans and the balance. Assumes nothing.
use Rattle.std.specs.Prelude.{ℕ, suc, ◌+◌, ◌*◌, ◌^◌, Bool, false, cond, ◌&&◌, List, [], ◌∷◌, ◌==◌, nat_le, nat_lt}
use Rattle.rule.specs.Digits.{digits, occurs}
use Rattle.rule.specs.Meaning.{Meaning}
use Rattle.rule.specs.declared.set.Pan.{Pan}
use Rattle.rule.specs.declared.set.Pan.TheVariants.{Aside, Left, Right}

-- how many coins can be played with
abbrev pub coins_fit : ℕ → Bool
coins_fit n = nat_le 2 n && nat_le n 12

-- what coin i weighs under a code: 2 when good, 3 when the code says that it is heavy, 1 when light
abbrev pub weight : ℕ → ℕ → ℕ
weight code i = cond (code == 2 * i) 3 (cond (code == 2 * i + 1) 1 2)

-- the digit that puts a coin there, and the answer when that pan goes down
abbrev pub pan_digit : Pan → ℕ
pan_digit Aside = 0
pan_digit Left = 1
pan_digit Right = 2

-- where a digit puts its coin
abbrev pub pan_of : ℕ → Pan
pan_of digit = cond (digit == 1) Left (cond (digit == 2) Right Aside)

-- the pan on the other side
abbrev pub opposite : Pan → Pan
opposite Aside = Aside
opposite Left = Right
opposite Right = Left

-- what lies on a pan, from coin i on: each digit says where its coin goes, 0 aside, 1 left and 2 right
abbrev pub load : ℕ → ℕ → ℕ → List ℕ → ℕ
load pan code i [] = 0
load pan code i (x ∷ xs) = cond (x == pan) (weight code i) 0 + load pan code (suc i) xs

-- how the balance tips: by 1 where it goes down on the left, by 2 on the right, and by 0 where the loads are equal
abbrev pub balance : ℕ → ℕ → ℕ
balance left right = cond (left == right) 0 (cond (nat_lt right left) 1 2)

-- a weighing: as many coins left as right, and at least one
unfoldable pub is_weighing : ℕ → ℕ → Bool
is_weighing n g =
    nat_lt g (3 ^ n) && occurs 1 (digits n 3 g) == occurs 2 (digits n 3 g) && nat_le 1 (occurs 1 (digits n 3 g))

-- what the balance shows when a weighing is made under a code
unfoldable pub weighed : ℕ → ℕ → ℕ → ℕ
weighed n code g = balance (load 1 code 0 (digits n 3 g)) (load 2 code 0 (digits n 3 g))

-- the game with n coins, one of them false: the false coin's index is half the code, and an odd code means that it is light
abbrev pub coins : ℕ → Meaning
coins n = record {
  code_bound = 2 * n;
  guess_bound = 3 ^ n;
  is_code = λ code. nat_lt code (2 * n);
  admits = is_weighing n;
  answers = 3;
  naming = false;
  answer = λ code guess. cond (nat_lt code (2 * n) && is_weighing n guess) (weighed n code guess) 3;
}
