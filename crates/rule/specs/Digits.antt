-- Numbers read as rows of digits, and what is counted in such rows. Assumes nothing.
use Rattle.std.specs.Prelude.{ℕ, zero, suc, ◌+◌, ◌/◌, ◌%◌, ◌^◌, Bool, true, false, ◌&&◌, List, [], ◌∷◌, ◌==◌}

-- a number as a row of p digits in base b, the most significant first
abbrev pub digits : ℕ → ℕ → ℕ → List ℕ
digits zero b n = []
digits (suc p) b n = (n / b ^ p) % b ∷ digits p b n

-- the last p digits of a number in base b, the last one first
abbrev pub last_digits : ℕ → ℕ → ℕ → List ℕ
last_digits zero b n = []
last_digits (suc p) b n = n % b ∷ last_digits p b (n / b)

-- one where a test passes, and nothing where it fails
abbrev pub tally : Bool → ℕ
tally true = 1
tally false = 0

-- how often a digit stands in a row
abbrev pub occurs : ℕ → List ℕ → ℕ
occurs k [] = 0
occurs k (x ∷ xs) = tally (x == k) + occurs k xs

-- no digit of the row comes twice
abbrev pub different : List ℕ → Bool
different [] = true
different (x ∷ xs) = occurs x xs == 0 && different xs

-- f 0 + f 1 + .. + f (n − 1)
abbrev pub total : ℕ → (ℕ → ℕ) → ℕ
total zero f = 0
total (suc n) f = total n f + f n

-- the test passes at each number below n
abbrev pub all_below : ℕ → (ℕ → Bool) → Bool
all_below zero f = true
all_below (suc n) f = f n && all_below n f

-- how many numbers below n pass the test
abbrev pub how_many : ℕ → (ℕ → Bool) → ℕ
how_many n f = total n (λ k. tally (f k))
