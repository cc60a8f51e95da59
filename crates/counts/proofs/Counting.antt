-- Numbers that are counted one after another. Assumes nothing.
use Rattle.std.proofs.Common.{◌≡◌, ℕ, zero, suc, Bool, true, false, cond, [], ◌∷◌, length, map, refl, sym, ap, ◌∙◌, arith, add-one, length-append}
use Rattle.std.specs.List.{filter, range_with_len}
use Rattle.std.proofs.lemmas.List.{map-id}
use Rattle.std.proofs.lemmas.List.FromFn.{filter_of_map_range_with_len_more}
use Rattle.rule.specs.Digits.{tally, how_many}

one : (n : ℕ) (b : Bool) → length (cond b (n ∷ []) []) ≡ tally b
one n true = refl
one n false = refl

counted_of_map : (n : ℕ) (test : ℕ → Bool) → length (filter test (map (λ k. k) (range_with_len 0 n))) ≡ how_many n test
counted_of_map zero test = refl
counted_of_map (suc n) test =
    ap (λ m. length (filter test (map (λ k. k) (range_with_len 0 m)))) (sym (add-one n))
    ∙ rw (filter_of_map_range_with_len_more test (λ k. k) 0 n n (omega arith), length-append, one, counted_of_map n test) refl

pub counted : (n : ℕ) (test : ℕ → Bool) → length (filter test (range_with_len 0 n)) ≡ how_many n test
counted n test = rw map-id at (counted_of_map n test)
