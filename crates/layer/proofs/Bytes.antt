-- Bytes with zeros after them, and a byte that stands last and nowhere else. Assumes nothing.
use Rattle.std.proofs.Common.{◌≡◌, ℕ, zero, suc, ◌-◌, ◌<◌, Bool, true, false, not, ◌&&◌, ◌||◌, ◌==◌, List, [], ◌∷◌, ◌++◌, length, slice_index, take, drop, replicate, refl, sym, ap, ◌∙◌, add-one, arith}
use Rattle.std.specs.Bool.{beq}
use Rattle.std.specs.List.{list_any}
use Rattle.std.proofs.lemmas.List.{drop-replicate}
use Rattle.std.proofs.lemmas.List.Folds.{list_any_more}
use Rattle.std.proofs.lemmas.Bool.{eq-eqb, ne_eqb}
use Rattle.rule.specs.Digits.{all_below}

zeros_read : (n a : ℕ) → slice_index (replicate n 0) a ≡ 0
zeros_read zero a = refl
zeros_read (suc n) zero = refl
zeros_read (suc n) (suc a) = zeros_read n a

zeros_after : (bytes : List ℕ) (n a : ℕ) → slice_index (bytes ++ replicate n 0) a ≡ slice_index bytes a
zeros_after [] n a = zeros_read n a
zeros_after (x ∷ xs) n zero = refl
zeros_after (x ∷ xs) n (suc a) = zeros_after xs n a

pub padded_read : (bytes : List ℕ) (m n a : ℕ) → slice_index (bytes ++ drop m (replicate n 0)) a ≡ slice_index bytes a
padded_read bytes m n a = rw drop-replicate (zeros_after bytes (n - m) a)

none_of : (a b : Bool) → (not b && not a) ≡ not (a || b)
none_of true true = refl
none_of true false = refl
none_of false true = refl
none_of false false = refl

beq_true : (b : Bool) → beq b true ≡ b
beq_true true = refl
beq_true false = refl

beq_false : (b : Bool) → beq b false ≡ not b
beq_false true = refl
beq_false false = refl

-- the last of some bytes is the win, and no other is
module _ (bytes : List ℕ) (win : ℕ) where
  abbrev alone_at : ℕ → Bool
  alone_at a = beq (slice_index bytes a == win) (a == length bytes - 1)

  none_before : (n : ℕ) → n < length bytes → all_below n alone_at ≡ not (list_any (λ byte. byte == win) (take n bytes))
  none_before zero room = refl
  none_before (suc n) room =
      let other : alone_at n ≡ not (slice_index bytes n == win) = ap (beq (slice_index bytes n == win)) (ne_eqb n (length bytes - 1) (λ same. omega arith)) ∙ beq_false _ in
      ap (λ b. b && all_below n alone_at) other ∙ ap (λ b. not (slice_index bytes n == win) && b) (none_before n (omega arith))
      ∙ none_of (list_any (λ byte. byte == win) (take n bytes)) (slice_index bytes n == win)
      ∙ ap not (sym (list_any_more (λ byte. byte == win) bytes n 0 (omega arith)))
      ∙ ap (λ k. not (list_any (λ byte. byte == win) (take k bytes))) (add-one n)

  pub last_alone : (n : ℕ) → suc n ≡ length bytes → slice_index bytes n ≡ win → all_below (length bytes) alone_at ≡ not (list_any (λ byte. byte == win) (take n bytes))
  last_alone n long won =
      let here : alone_at n ≡ true = ap (beq (slice_index bytes n == win)) (eq-eqb _ _ (omega arith)) ∙ beq_true _ ∙ eq-eqb _ _ won in
      ap (λ k. all_below k alone_at) (sym long) ∙ ap (λ b. b && all_below n alone_at) here ∙ none_before n (omega arith)
