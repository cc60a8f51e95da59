-- What black and white count in two rows of pegs. Assumes nothing.
use Rattle.std.specs.Prelude.{◌≡◌, ℕ, zero, suc, ◌+◌, ◌*◌, ◌/◌, ◌%◌, ◌^◌, ◌<◌, ◌≤◌, min, Bool, true, false, List, [], ◌∷◌, length, ◌==◌, ◌≢◌, refl}
use Rattle.std.proofs.Common.{sym, ap, subst, ◌∙◌, ⊎_elim, arith, pow-suc, mod-eq_of_lt}
use Rattle.std.proofs.Math.Nat.{pow-zero, pow-succ'}
use Rattle.std.proofs.Math.Arith.{mod-mul}
use Rattle.std.proofs.lemmas.Nat.{mod_below, mul-lt}
use Rattle.std.proofs.lemmas.Bool.{cases_eq}
use Rattle.rule.specs.Digits.{digits, tally, occurs, total}
use Rattle.rule.specs.Pegs.{equal_places, shared}
use Rattle.rule.specs.Laws.Totals.{total_add, total_same, total_le, total_zero, total_one, tally_same, tally_other}

-- every digit of the row is below b
abbrev pub Below : ℕ → List ℕ → Type 0
Below b [] = Unit {0}
Below b (x ∷ xs) = (x < b) × Below b xs

pub digits_below : (p b n : ℕ) → 0 < b → Below b (digits p b n)
digits_below zero b n h = tt
digits_below (suc p) b n h = (mod_below (n / b ^ p) b h, digits_below p b n h)

pub length_digits : (p b n : ℕ) → length (digits p b n) ≡ p
length_digits zero b n = refl
length_digits (suc p) b n = ap suc (length_digits p b n)

pub total_occurs : (c : ℕ) (xs : List ℕ) → Below c xs → total c (λ k. occurs k xs) ≡ length xs
total_occurs c [] h = total_zero c _ (λ k l. refl)
total_occurs c (x ∷ xs) h =
    total_add c (λ k. tally (x == k)) (λ k. occurs k xs)
    ∙ omega (arith, total_one c x h.0, total_occurs c xs h.1)

min_both : (b : Bool) (m n : ℕ) → min (tally b + m) (tally b + n) ≡ tally b + min m n
min_both true m n = omega arith
min_both false m n = omega arith

min_more : (a b : Bool) (m n : ℕ) → min m n ≤ min (tally a + m) (tally b + n)
min_more true true m n = omega arith
min_more true false m n = omega arith
min_more false true m n = omega arith
min_more false false m n = omega arith

pub shared_same : (c x : ℕ) (xs ys : List ℕ) → x < c → shared c (x ∷ xs) (x ∷ ys) ≡ suc (shared c xs ys)
shared_same c x xs ys h =
    total_same c _ (λ k. tally (x == k) + min (occurs k xs) (occurs k ys)) (λ k l. min_both (x == k) (occurs k xs) (occurs k ys))
    ∙ total_add c (λ k. tally (x == k)) (λ k. min (occurs k xs) (occurs k ys))
    ∙ omega (arith, total_one c x h)

pub shared_more : (c x y : ℕ) (xs ys : List ℕ) → shared c xs ys ≤ shared c (x ∷ xs) (y ∷ ys)
shared_more c x y xs ys = total_le c _ _ (λ k l. min_more (x == k) (y == k) (occurs k xs) (occurs k ys))

pub shared_le : (c : ℕ) (xs ys : List ℕ) → Below c xs → shared c xs ys ≤ length xs
shared_le c xs ys h =
    omega (arith, total_le c (λ k. min (occurs k xs) (occurs k ys)) (λ k. occurs k xs) (λ k l. omega arith), total_occurs c xs h)

pub equal_le : (xs ys : List ℕ) → equal_places xs ys ≤ length xs
equal_le [] ys = omega arith
equal_le (x ∷ xs) [] = omega arith
equal_le (x ∷ xs) (y ∷ ys) =
    ⊎_elim
    (λ e. omega (arith, tally_same x y e, equal_le xs ys))
    (λ e. omega (arith, tally_other x y e, equal_le xs ys))
    (cases_eq x y)

pub equal_le_shared : (c : ℕ) (xs ys : List ℕ) → Below c xs → equal_places xs ys ≤ shared c xs ys
equal_le_shared c [] ys h = omega arith
equal_le_shared c (x ∷ xs) [] h = omega arith
equal_le_shared c (x ∷ xs) (y ∷ ys) h =
    ⊎_elim
    (λ e.
    let one : shared c (x ∷ xs) (y ∷ ys) ≡ suc (shared c xs ys) = subst (λ z. shared c (x ∷ xs) (z ∷ ys) ≡ suc (shared c xs ys)) e (shared_same c x xs ys h.0) in
    omega (arith, tally_same x y e, one, equal_le_shared c xs ys h.1))
    (λ e. omega (arith, tally_other x y e, shared_more c x y xs ys, equal_le_shared c xs ys h.1))
    (cases_eq x y)

pub same_equal : (xs : List ℕ) → equal_places xs xs ≡ length xs
same_equal [] = refl
same_equal (x ∷ xs) = omega (arith, tally_same x x refl, same_equal xs)

-- rows that agree at every place are the same row
pub all_equal : (xs ys : List ℕ) → length xs ≡ length ys → equal_places xs ys ≡ length xs → xs ≡ ys
all_equal [] [] l e = refl
all_equal [] (y ∷ ys) l e = absurd (omega arith)
all_equal (x ∷ xs) [] l e = absurd (omega arith)
all_equal (x ∷ xs) (y ∷ ys) l e =
    ⊎_elim
    (λ s. let rest = all_equal xs ys (omega arith) (omega (arith, tally_same x y s)) in λ i. s i ∷ rest i)
    (λ s. absurd (omega (arith, tally_other x y s, equal_le xs ys)))
    (cases_eq x y)

min_apart : (x y k m : ℕ) → (x ≢ y) → min (tally (x == k) + m) (tally (y == k) + m) ≡ m
min_apart x y k m ne =
    ⊎_elim
    (λ e. omega (arith, tally_same x k e, tally_other y k (λ s. ne (e ∙ sym s))))
    (λ e. omega (arith, tally_other x k e))
    (cases_eq x k)

-- with all places but one in agreement, no colour of the last is left to pair
pub one_off : (c : ℕ) (xs ys : List ℕ) → Below c xs → length xs ≡ length ys → equal_places xs ys + 1 ≡ length xs → shared c xs ys ≡ equal_places xs ys
one_off c [] ys h l e = absurd (omega arith)
one_off c (x ∷ xs) [] h l e = absurd (omega arith)
one_off c (x ∷ xs) (y ∷ ys) h l e =
    ⊎_elim
    (λ s.
    let one : shared c (x ∷ xs) (y ∷ ys) ≡ suc (shared c xs ys) = subst (λ z. shared c (x ∷ xs) (z ∷ ys) ≡ suc (shared c xs ys)) s (shared_same c x xs ys h.0) in
    omega (arith, tally_same x y s, one, one_off c xs ys h.1 (omega arith) (omega (arith, tally_same x y s))))
    (λ s.
    let all : equal_places xs ys ≡ length xs = omega (arith, tally_other x y s) in
    let rest : xs ≡ ys = all_equal xs ys (omega arith) all in
    let apart : shared c (x ∷ xs) (y ∷ xs) ≡ total c (λ k. occurs k xs) = total_same c _ _ (λ k k<c. min_apart x y k (occurs k xs) s) in
    let moved : shared c (x ∷ xs) (y ∷ ys) ≡ length xs = subst (λ zs. shared c (x ∷ xs) (y ∷ zs) ≡ length xs) rest (apart ∙ total_occurs c xs h.1) in
    omega (arith, tally_other x y s, moved))
    (cases_eq x y)

pub power_positive : (b p : ℕ) → 0 < b → 0 < b ^ p
power_positive b zero h = rw pow-zero (omega arith)
power_positive b (suc p) h = rw pow-suc (mul-lt 0 0 (b ^ p) b (power_positive b p h) h)

-- a number is known by its digits, up to the power past them
pub same_digits : (p b m n : ℕ) → 0 < b → digits p b m ≡ digits p b n → m % b ^ p ≡ n % b ^ p
same_digits zero b m n h e = rw pow-zero (omega arith)
same_digits (suc p) b m n h e =
    let first : (m / b ^ p) % b ≡ (n / b ^ p) % b = cc in
    let rest : digits p b m ≡ digits p b n = cc in
    let low = same_digits p b m n h rest in
    let room = power_positive b p h in
    ap (λ z. m % z) (pow-succ' b p) ∙ mod-mul m h room
    ∙ (λ i. first i * b ^ p + low i)
    ∙ sym (ap (λ z. n % z) (pow-succ' b p) ∙ mod-mul n h room)

-- rows that are the same stand for the same number
pub same_number : (p b m n : ℕ) → 0 < b → m < b ^ p → n < b ^ p → digits p b m ≡ digits p b n → m ≡ n
same_number p b m n h lm ln e = sym (mod-eq_of_lt lm) ∙ same_digits p b m n h e ∙ mod-eq_of_lt ln
