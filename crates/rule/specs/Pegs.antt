-- The two games of coloured pegs: which numbers are rows of pegs, what black and white count, and the answers. Assumes nothing.
use Rattle.std.specs.Prelude.{ℕ, zero, suc, ◌+◌, ◌-◌, ◌^◌, min, Bool, true, cond, not, ◌&&◌, ◌||◌, List, [], ◌∷◌, ◌++◌, length, ◌==◌, nat_le, nat_lt}
use Rattle.rule.specs.Digits.{digits, tally, occurs, different, total}
use Rattle.rule.specs.Meaning.{Meaning}

-- the parameters that can be played: p pegs and c colours
abbrev pub board_fits : ℕ → ℕ → Bool → Bool
board_fits p c repeats =
    nat_le 1 p && nat_le p 6 && nat_le 2 c && nat_le c 10 && nat_le (c ^ p) 16384 && (repeats || nat_le p c)

-- the numbers that are rows of pegs; where repeats are not allowed, all pegs differ in colour
unfoldable pub is_row : ℕ → ℕ → Bool → ℕ → Bool
is_row p c repeats n = nat_lt n (c ^ p) && (repeats || different (digits p c n))

-- black: at how many places two rows agree
abbrev pub equal_places : List ℕ → List ℕ → ℕ
equal_places [] ys = 0
equal_places (x ∷ xs) [] = 0
equal_places (x ∷ xs) (y ∷ ys) = tally (x == y) + equal_places xs ys

-- how many pegs of two rows can be paired by colour: for each colour, the smaller of its two counts
abbrev pub shared : ℕ → List ℕ → List ℕ → ℕ
shared c xs ys = total c (λ k. min (occurs k xs) (occurs k ys))

-- white: the pairs by colour that are not pairs by place
abbrev pub white : ℕ → List ℕ → List ℕ → ℕ
white c xs ys = shared c xs ys - equal_places xs ys

-- the pairs (b, w), (b, w + 1), .. with n of them
abbrev pub same_black : ℕ → ℕ → ℕ → List (ℕ × ℕ)
same_black b w zero = []
same_black b w (suc n) = (b, w) ∷ same_black b (suc w) n

-- the pairs of black from b on, n values of it, and white from 0 to p, by rising black and then rising white
abbrev pub by_black : ℕ → ℕ → ℕ → List (ℕ × ℕ)
by_black p b zero = []
by_black p b (suc n) = same_black b 0 (suc p) ++ by_black p (suc b) n

-- a pair that a game of p pegs can answer: with p − 1 pegs in place the last is in place or of a wrong colour
abbrev pub possible : ℕ → ℕ × ℕ → Bool
possible p (b, w) = nat_le (b + w) p && not (b + 1 == p && w == 1)

-- the members of a list that pass a test
abbrev pub kept : (ℕ × ℕ → Bool) → List (ℕ × ℕ) → List (ℕ × ℕ)
kept f [] = []
kept f (x ∷ xs) = cond (f x) (x ∷ kept f xs) (kept f xs)

-- the answers of p pegs, as pairs of black and white, in their order
unfoldable pub pairs : ℕ → List (ℕ × ℕ)
pairs p = kept (possible p) (by_black p 0 (suc p))

-- how many members stand before the first that is the pair (b, w)
abbrev pub position : ℕ × ℕ → List (ℕ × ℕ) → ℕ
position (b, w) [] = 0
position (b, w) ((x, y) ∷ rest) = cond (b == x && w == y) 0 (suc (position (b, w) rest))

-- the answer to two rows: the position of their black and white among the pairs
unfoldable pub peg_answer : ℕ → ℕ → ℕ → ℕ → ℕ
peg_answer p c code guess =
    position (equal_places (digits p c code) (digits p c guess), white c (digits p c code) (digits p c guess)) (pairs p)

-- The game with rows of p pegs in c colours as codes and as guesses, whichever way two rows are compared: how many answers
-- so many pegs have, and the answer of so many pegs and colours to a code and a guess.
abbrev pub row_game : (ℕ → ℕ) → (ℕ → ℕ → ℕ → ℕ → ℕ) → ℕ → ℕ → Bool → Meaning
row_game answers answer p c repeats = record {
  code_bound = c ^ p;
  guess_bound = c ^ p;
  is_code = is_row p c repeats;
  admits = is_row p c repeats;
  answers = answers p;
  naming = true;
  answer = λ code guess. cond (is_row p c repeats code && is_row p c repeats guess) (answer p c code guess) (answers p);
}

-- how many pairs of black and white p pegs can answer
abbrev pub peg_answers : ℕ → ℕ
peg_answers p = length (pairs p)

-- the game that answers black and white
abbrev pub pegs : ℕ → ℕ → Bool → Meaning
pegs = row_game peg_answers peg_answer

-- from none of p pegs in place to all of them
abbrev pub black_answers : ℕ → ℕ
black_answers p = p + 1

-- how many pegs of two rows are in place
abbrev pub black_answer : ℕ → ℕ → ℕ → ℕ → ℕ
black_answer p c code guess = equal_places (digits p c code) (digits p c guess)

-- the game that answers black alone
abbrev pub blacks : ℕ → ℕ → Bool → Meaning
blacks = row_game black_answers black_answer
