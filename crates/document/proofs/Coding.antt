-- Bytes to numbers and numbers to bytes, both ways round. Assumes nothing.
use Rattle.std.proofs.Common.{◌≡◌, ℕ, ◌+◌, ◌*◌, ◌/◌, ◌%◌, ◌<◌, ◌≤◌, List, ◌∷◌, ◌++◌, length, get_or, drop, sym, refl, ap, ◌∙◌, arith}
use Rattle.std.proofs.lemmas.List.{drop_more}
use Rattle.std.proofs.lemmas.Nat.{from_be_bytes-to_be_bytes_2, from_be_bytes-to_be_bytes_4}
use Rattle.document.specs.Bytes.{two, four, two_at, four_at}

-- the number of the two bytes of a number
pub from_two : (n : ℕ) → n < 65536 → (n / 256 % 256) * 256 + n % 256 ≡ n
from_two n l = from_be_bytes-to_be_bytes_2 n l

pub from_four : (n : ℕ) → n < 4294967296 → (n / 16777216 % 256) * 16777216 + (n / 65536 % 256) * 65536 + (n / 256 % 256) * 256 + n % 256 ≡ n
from_four n l = from_be_bytes-to_be_bytes_4 n l

module _ (a b : ℕ) (la : a < 256) (lb : b < 256) where
  two_high : (a * 256 + b) / 256 % 256 ≡ a
  two_high = omega arith

  two_low : (a * 256 + b) % 256 ≡ b
  two_low = omega arith

module _ (a b c d : ℕ) (la : a < 256) (lb : b < 256) (lc : c < 256) (ld : d < 256) where
  four_0 : (a * 16777216 + b * 65536 + c * 256 + d) / 16777216 % 256 ≡ a
  four_0 = omega arith

  four_1 : (a * 16777216 + b * 65536 + c * 256 + d) / 65536 % 256 ≡ b
  four_1 = omega arith

  four_2 : (a * 16777216 + b * 65536 + c * 256 + d) / 256 % 256 ≡ c
  four_2 = omega arith

  four_3 : (a * 16777216 + b * 65536 + c * 256 + d) % 256 ≡ d
  four_3 = omega arith

-- one more byte at the front
pub front : (bs : List ℕ) (i j : ℕ) → j ≡ i + 1 → i < length bs → (x : ℕ) → x ≡ get_or bs i 0 → (rest : List ℕ) → rest ≡ drop j bs → x ∷ rest ≡ drop i bs
front bs i j e l x is rest left =
    (λ k. is k ∷ (left ∙ ap (λ m. drop m bs) e) k) ∙ sym (drop_more bs i 0 l)

module _ (bs : List ℕ) (bytes : (i : ℕ) → get_or bs i 0 < 256) where
  pub two_front : (i j : ℕ) → j ≡ i + 2 → j ≤ length bs → (rest : List ℕ) → rest ≡ drop j bs → two (two_at bs i) ++ rest ≡ drop i bs
  two_front i j e l rest left =
      front bs i (i + 1) refl (omega arith) _ (two_high _ _ (bytes i) (bytes (i + 1))) _
      (front bs (i + 1) j (omega arith) (omega arith) _ (two_low (get_or bs i 0) _ (bytes i) (bytes (i + 1))) _ left)

  pub four_front : (i j : ℕ) → j ≡ i + 4 → j ≤ length bs → (rest : List ℕ) → rest ≡ drop j bs → four (four_at bs i) ++ rest ≡ drop i bs
  four_front i j e l rest left =
      front bs i (i + 1) refl (omega arith) _ (four_0 _ _ _ _ (bytes i) (bytes (i + 1)) (bytes (i + 2)) (bytes (i + 3))) _
      (front bs (i + 1) (i + 2) (omega arith) (omega arith) _ (four_1 (get_or bs i 0) _ _ _ (bytes i) (bytes (i + 1)) (bytes (i + 2)) (bytes (i + 3))) _
      (front bs (i + 2) (i + 3) (omega arith) (omega arith) _ (four_2 (get_or bs i 0) (get_or bs (i + 1) 0) _ _ (bytes i) (bytes (i + 1)) (bytes (i + 2)) (bytes (i + 3))) _
      (front bs (i + 3) j (omega arith) (omega arith) _ (four_3 (get_or bs i 0) (get_or bs (i + 1) 0) (get_or bs (i + 2) 0) _ (bytes i) (bytes (i + 1)) (bytes (i + 2)) (bytes (i + 3))) _ left)))

-- bytes that are those of a number stand for it
pub two_field : (bs : List ℕ) (i n : ℕ) → n < 65536 → get_or bs i 0 ≡ n / 256 % 256 → get_or bs (i + 1) 0 ≡ n % 256 → two_at bs i ≡ n
two_field bs i n l a b = (λ k. a k * 256 + b k) ∙ from_two n l

pub four_field : (bs : List ℕ) (i n : ℕ) → n < 4294967296 → get_or bs i 0 ≡ n / 16777216 % 256 → get_or bs (i + 1) 0 ≡ n / 65536 % 256 → get_or bs (i + 2) 0 ≡ n / 256 % 256 → get_or bs (i + 3) 0 ≡ n % 256 → four_at bs i ≡ n
four_field bs i n l a b c d = (λ k. a k * 16777216 + b k * 65536 + c k * 256 + d k) ∙ from_four n l
