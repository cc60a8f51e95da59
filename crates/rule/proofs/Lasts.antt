-- What the digits of a number tell, taken from the last to the first. Assumes nothing.
use Rattle.std.proofs.Common.{◌≡◌, ℕ, zero, suc, ◌+◌, ◌-◌, ◌/◌, ◌%◌, ◌^◌, ◌<◌, ◌≤◌, min, ◌==◌, Bool, true, false, ◌&&◌, cond, List, [], ◌∷◌, ◌++◌, length, replicate, slice_index, slice_set, nat_le, sym, refl, ap, subst, ◌∙◌, ⊎_elim, arith, div-one, length-set}
use Rattle.std.proofs.Math.Bool.{and-true, and-false, and_assoc}
use Rattle.std.proofs.Math.Nat.{pow-zero, pow-succ', div-div-eq-div-mul}
use Rattle.std.proofs.lemmas.Nat.{mod_below}
use Rattle.std.proofs.lemmas.List.Sums.{sum_by-cons}
use Rattle.std.proofs.lemmas.List.{get_or-replicate, get_or_default, get_or-set_same, get_or-set_other}
use Rattle.std.proofs.lemmas.List.Sums.{AllPass-from_list_all, list_all-from_AllPass}
use Rattle.std.proofs.lemmas.Bool.{and_parts, and_from, both_ways, cases_Bool, cases_eq, eqb-true, eq-eqb, ne_eqb, leb-true, le-leb}
use Rattle.std.specs.Int.{from_bool}
use Rattle.std.specs.List.{zip, count_by, sum_by, list_all}
use Rattle.rule.specs.Digits.{digits, last_digits, tally, occurs, different, total}
use Rattle.rule.specs.Pegs.{equal_places, shared}
use Rattle.rule.specs.Laws.Rows.{Below, length_digits}
use Rattle.rule.specs.Laws.Totals.{tally_same, tally_other, total_same}

-- a number without its last digit has the digits before it
pub digits_last : (p b n : ℕ) → digits (suc p) b n ≡ digits p b (n / b) ++ n % b ∷ []
digits_last zero b n = ap (λ z. (n / z) % b ∷ []) (pow-zero b) ∙ ap (λ z. z % b ∷ []) (div-one n)
digits_last (suc p) b n =
    let same : n / b ^ suc p ≡ n / b / b ^ p = ap (λ z. n / z) (pow-succ' b p) ∙ sym (div-div-eq-div-mul n b (b ^ p)) in
    λ i. (same i % b) ∷ digits_last p b n i

pub length_last : (p b n : ℕ) → length (last_digits p b n) ≡ p
length_last zero b n = refl
length_last (suc p) b n = ap suc (length_last p b (n / b))

pub last_below : (p b c n : ℕ) → 0 < b → b ≤ c → Below c (last_digits p b n)
last_below zero b c n some few = tt
last_below (suc p) b c n some few = (omega (arith, mod_below n b some), last_below p b c (n / b) some few)

pub below_wider : (b c : ℕ) (xs : List ℕ) → b ≤ c → Below b xs → Below c xs
below_wider b c [] wide below = tt
below_wider b c (x ∷ xs) wide below = (omega (arith, below.0), below_wider b c xs wide below.1)

occurs_end : (k x : ℕ) (xs : List ℕ) → occurs k (xs ++ x ∷ []) ≡ tally (x == k) + occurs k xs
occurs_end k x [] = refl
occurs_end k x (y ∷ ys) = omega (arith, occurs_end k x ys)

-- a digit comes as often in a row read from its end
pub occurs_last : (k p b n : ℕ) → occurs k (last_digits p b n) ≡ occurs k (digits p b n)
occurs_last k zero b n = refl
occurs_last k (suc p) b n =
    ap (λ m. tally (n % b == k) + m) (occurs_last k p b (n / b))
    ∙ sym (ap (occurs k) (digits_last p b n) ∙ occurs_end k (n % b) (digits p b (n / b)))

equal_end : (xs ys : List ℕ) (x y : ℕ) → length xs ≡ length ys → equal_places (xs ++ x ∷ []) (ys ++ y ∷ []) ≡ tally (x == y) + equal_places xs ys
equal_end [] [] x y same = refl
equal_end [] (w ∷ ws) x y same = absurd (omega arith)
equal_end (v ∷ vs) [] x y same = absurd (omega arith)
equal_end (v ∷ vs) (w ∷ ws) x y same = omega (arith, equal_end vs ws x y (omega arith))

tally_is : (b : Bool) → cond b 1 0 ≡ tally b
tally_is true = refl
tally_is false = refl

-- a test as a number
pub byte_tally : (b : Bool) → from_bool b ≡ tally b
byte_tally true = refl
byte_tally false = refl

-- the next places of two rows are told by one comparison
pub equal_next : {xs ys us vs : List ℕ} {x y : ℕ} → xs ≡ x ∷ us → ys ≡ y ∷ vs → equal_places xs ys ≡ from_bool (x == y) + equal_places us vs
equal_next {us = us} {vs = vs} {x = x} {y = y} first second =
    (λ i. equal_places (first i) (second i)) ∙ ap (λ k. k + equal_places us vs) (sym (byte_tally (x == y)))

-- the places where two lists beside one another agree
equal_zip : (xs ys : List ℕ) → count_by (λ both. both.0 == both.1) (zip xs ys) ≡ equal_places xs ys
equal_zip [] ys = refl
equal_zip (x ∷ xs) [] = refl
equal_zip (x ∷ xs) (y ∷ ys) =
    sum_by-cons (λ both. cond (both.0 == both.1) 1 0) (x, y) (zip xs ys)
    ∙ (λ i. tally_is (x == y) i + equal_zip xs ys i)

-- two rows agree at as many places when they are read from their ends
pub equal_ends : (p b m n : ℕ) → equal_places (last_digits p b m) (last_digits p b n) ≡ equal_places (digits p b m) (digits p b n)
equal_ends zero b m n = refl
equal_ends (suc p) b m n =
    ap (λ k. tally (m % b == n % b) + k) (equal_ends p b (m / b) (n / b))
    ∙ sym ((λ i. equal_places (digits_last p b m i) (digits_last p b n i))
    ∙ equal_end (digits p b (m / b)) (digits p b (n / b)) (m % b) (n % b) (length_digits p b (m / b) ∙ sym (length_digits p b (n / b))))

pub equal_last : (p b m n : ℕ) → count_by (λ both. both.0 == both.1) (zip (last_digits p b m) (last_digits p b n)) ≡ equal_places (digits p b m) (digits p b n)
equal_last p b m n = equal_zip (last_digits p b m) (last_digits p b n) ∙ equal_ends p b m n

-- how often each digit has come, while the digits `left` are still to come
pub record Tallied (counts left : List ℕ) (all : ℕ → ℕ) : Type 0 where
  pub ten : length counts ≡ 10
  pub below : Below 10 left
  pub each : (k : ℕ) → k < 10 → slice_index counts k + occurs k left ≡ all k

pub tallied_start : (p b n : ℕ) → 0 < b → b ≤ 10 → Tallied (replicate 10 0) (last_digits p b n) (λ k. occurs k (digits p b n))
tallied_start p b n some few = record {
  ten = refl;
  below = last_below p b 10 n some few;
  each = λ k h. let none : slice_index (replicate 10 0) k ≡ 0 = get_or-replicate 10 k 0 0 h in omega (arith, none, occurs_last k p b n);
}

-- where the digits still to come are told otherwise
pub tallied_as : {counts left now : List ℕ} {all : ℕ → ℕ} → left ≡ now → Tallied counts left all → Tallied counts now all
tallied_as {counts = counts} {all = all} is before = subst (λ l. Tallied counts l all) is before

-- once the next digit is counted
pub tallied_more : {counts left : List ℕ} {all : ℕ → ℕ} (x : ℕ) → Tallied counts (x ∷ left) all → Tallied (slice_set counts x (slice_index counts x + 1)) left all
tallied_more {counts = counts} {left = left} {all = all} x before = record {
  ten = length-set counts x (slice_index counts x + 1) ∙ before.ten;
  below = before.below.1;
  each = λ k h.
      ⊎_elim
      (λ here.
      let got : slice_index (slice_set counts x (slice_index counts x + 1)) k ≡ slice_index counts k + 1 =
      subst (λ z. slice_index (slice_set counts x (slice_index counts x + 1)) z ≡ slice_index counts z + 1) (sym here) (get_or-set_same counts x (slice_index counts x + 1) 0 (omega (arith, before.ten, before.below.0))) in
      omega (arith, got, before.each k h, tally_same x k (sym here)))
      (λ other. omega (arith, get_or-set_other counts x k (slice_index counts x + 1) 0 other, before.each k h, tally_other x k (λ e. other (sym e))))
      (cases_eq k x);
}

-- once no digit is left
pub tallied_whole : {counts left : List ℕ} {all : ℕ → ℕ} → Tallied counts left all → length left ≡ 0 → (k : ℕ) → k < 10 → slice_index counts k ≡ all k
tallied_whole {left = []} done none k h = omega (arith, done.each k h)
tallied_whole {left = x ∷ xs} done none k h = absurd (omega arith)

pub occurs_le : (k : ℕ) (xs : List ℕ) → occurs k xs ≤ length xs
occurs_le k [] = omega arith
occurs_le k (x ∷ xs) =
    ⊎_elim (λ e. omega (arith, tally_same x k e, occurs_le k xs)) (λ e. omega (arith, tally_other x k e, occurs_le k xs)) (cases_eq x k)

pub occurs_few : (b n p k : ℕ) → occurs k (digits p b n) ≤ p
occurs_few b n p k = omega (arith, occurs_le k (digits p b n), length_digits p b n)

-- no digit comes twice where none comes more than once
once_different : (xs : List ℕ) → different xs ≡ true → (k : ℕ) → occurs k xs ≤ 1
once_different [] d k = omega arith
once_different (x ∷ xs) d k =
    let parts = and_parts (occurs x xs == 0) (different xs) d in
    ⊎_elim
    (λ e. let none : occurs k xs ≡ 0 = ap (λ z. occurs z xs) (sym e) ∙ eqb-true _ _ parts.0 in omega (arith, none, tally_same x k e))
    (λ e. omega (arith, once_different xs parts.1 k, tally_other x k e))
    (cases_eq x k)

different_once : (xs : List ℕ) → Below 10 xs → ((k : ℕ) → k < 10 → occurs k xs ≤ 1) → different xs ≡ true
different_once [] below once = refl
different_once (x ∷ xs) below once =
    and_from (occurs x xs == 0) (different xs)
    (eq-eqb _ _ (let none : occurs x xs ≡ 0 = omega (arith, once x below.0, tally_same x x refl) in none))
    (different_once xs below.1 (λ k h. omega (arith, once k h)))

-- no count above one
abbrev pub all_once : List ℕ → Bool
all_once counts = list_all (λ count. nat_le count 1) counts

-- one digit more is counted
pub once_more : (counts : List ℕ) (x : ℕ) → x < length counts → all_once (slice_set counts x (slice_index counts x + 1)) ≡ (all_once counts && slice_index counts x == 0)
once_more [] x low = absurd (omega arith)
once_more (zero ∷ counts) zero low = sym (and-true (all_once counts))
once_more (suc c ∷ counts) zero low =
    ⊎_elim
    (λ t. absurd (omega (arith, leb-true _ _ t)))
    (λ f. ap (λ b. b && all_once counts) f ∙ sym (ap (λ b. all_once (suc c ∷ counts) && b) (ne_eqb (suc c) 0 (λ e. omega arith)) ∙ and-false (all_once (suc c ∷ counts))))
    (cases_Bool (nat_le (suc c + 1) 1))
once_more (c ∷ counts) (suc x) low =
    ap (λ b. nat_le c 1 && b) (once_more counts x (omega arith)) ∙ sym (and_assoc (nat_le c 1) (all_once counts) (slice_index counts x == 0))

-- the counts of a row say whether its digits differ
module _ (xs counts : List ℕ) (ten : length counts ≡ 10) (each : (k : ℕ) → k < 10 → slice_index counts k ≡ occurs k xs) where
  pub differ : Below 10 xs → all_once counts ≡ different xs
  differ below =
      ⊎_elim
      (λ t. list_all-from_AllPass _ counts (λ k d h. le-leb _ _ (let was = get_or_default counts k d 0 h in omega (arith, was, each k (omega (arith, ten)), once_different xs t k))) ∙ sym t)
      (λ f.
      ⊎_elim
      (λ t.
      absurd (both_ways (different xs) f (different_once xs below (λ k h. omega (arith, each k h, leb-true _ _ (AllPass-from_list_all _ counts t k 0 (omega (arith, ten))))))))
      (λ g. g ∙ sym f)
      (cases_Bool (all_once counts)))
      (cases_Bool (different xs))

total_shift : (n : ℕ) (f : ℕ → ℕ) → total (suc n) f ≡ f 0 + total n (λ k. f (suc k))
total_shift zero f = omega arith
total_shift (suc n) f = omega (arith, total_shift n f)

-- a sum over two lists side by side goes by their places
zip_total : (ls rs : List ℕ) → length ls ≡ length rs → sum_by (λ both. min both.0 both.1) (zip ls rs) ≡ total (length ls) (λ k. min (slice_index ls k) (slice_index rs k))
zip_total [] rs same = refl
zip_total (l ∷ ls) [] same = absurd (omega arith)
zip_total (l ∷ ls) (r ∷ rs) same =
    sum_by-cons (λ both. min both.0 both.1) (l, r) (zip ls rs)
    ∙ ap (λ n. min l r + n) (zip_total ls rs (omega arith))
    ∙ sym (total_shift (length ls) (λ k. min (slice_index (l ∷ ls) k) (slice_index (r ∷ rs) k)))

-- a digit that is none of the base does not come
occurs_none : (b k : ℕ) (xs : List ℕ) → Below b xs → b ≤ k → occurs k xs ≡ 0
occurs_none b k [] below past = refl
occurs_none b k (x ∷ xs) below past = omega (arith, occurs_none b k xs below.1 past, tally_other x k (λ e. absurd (omega (arith, below.0))))

total_end : (c more : ℕ) (f : ℕ → ℕ) → ((k : ℕ) → c ≤ k → f k ≡ 0) → total (more + c) f ≡ total c f
total_end c zero f none = ap (λ n. total n f) (let same : 0 + c ≡ c = omega arith in same)
total_end c (suc more) f none =
    ap (λ n. total n f) (let same : suc more + c ≡ suc (more + c) = omega arith in same)
    ∙ omega (arith, total_end c more f none, none (more + c) (omega arith))

-- the counts of two rows give the pairs by colour
pub counts_shared : (c : ℕ) (xs ys ls rs : List ℕ) → c ≤ 10 → Below c xs → length ls ≡ 10 → length rs ≡ 10
    → ((k : ℕ) → k < 10 → slice_index ls k ≡ occurs k xs)
    → ((k : ℕ) → k < 10 → slice_index rs k ≡ occurs k ys)
    → sum_by (λ both. min both.0 both.1) (zip ls rs) ≡ shared c xs ys
counts_shared c xs ys ls rs few below ten ten' left right =
    zip_total ls rs (ten ∙ sym ten')
    ∙ total_same (length ls) (λ k. min (slice_index ls k) (slice_index rs k)) (λ k. min (occurs k xs) (occurs k ys))
    (λ k h. λ i. min (left k (omega (arith, ten)) i) (right k (omega (arith, ten)) i))
    ∙ ap (λ n. total n (λ k. min (occurs k xs) (occurs k ys))) (let split : length ls ≡ (10 - c) + c = omega (arith, ten) in split)
    ∙ total_end c (10 - c) (λ k. min (occurs k xs) (occurs k ys)) (λ k past. omega (arith, occurs_none c k xs below past))
