-- For a table that fits, what any sizes and bytes mean is the game that was asked for. Assumes nothing.
use Rattle.std.specs.Prelude.{◌≡◌, ℕ, zero, suc, ◌+◌, ◌*◌, ◌<◌, ◌≤◌, true, false, cond, ◌&&◌, List, [], ◌∷◌, nat_lt, slice_index, refl}
use Rattle.std.proofs.Common.{sym, subst, ◌∙◌, arith}
use Rattle.std.proofs.lemmas.Bool.{and_parts, and_from, both_ways, leb-true, ltb-true, cond-true, cond-false, cond_both}
use Rattle.rule.specs.Meaning.{Lawful}
use Rattle.rule.specs.Table.{all_under, table_fits, table, nearest, as_answer, any_table}

pub nearest_is : (low high n : ℕ) → low ≤ n → n ≤ high → nearest low high n ≡ n
nearest_is low high n l h = omega arith

missing : (a : ℕ) → as_answer a 0 ≡ 0
missing a = elim (nat_lt 0 a) as (λ b. ◌≡◌ {A = ℕ} (cond b 0 0) 0) [ true ↦ refl | false ↦ refl ]

-- each byte counts as itself
pub each_byte : (a : ℕ) (bytes : List ℕ) → all_under a bytes ≡ true → (i : ℕ) → as_answer a (slice_index bytes i) ≡ slice_index bytes i
each_byte a [] h i = missing a
each_byte a (x ∷ xs) h zero = cond-true (nat_lt x a) x 0 (and_parts (nat_lt x a) (all_under a xs) h).0
each_byte a (x ∷ xs) h (suc i) = each_byte a xs (and_parts (nat_lt x a) (all_under a xs) h).1 i

pub any_is : (rows codes a : ℕ) (bytes : List ℕ) → table_fits rows codes a bytes ≡ true → any_table rows codes a bytes ≡ table rows codes a bytes
any_is rows codes a bytes h =
    let p8 = and_parts _ _ h in
    let p7 = and_parts _ _ p8.0 in
    let p6 = and_parts _ _ p7.0 in
    let p5 = and_parts _ _ p6.0 in
    let p4 = and_parts _ _ p5.0 in
    let p3 = and_parts _ _ p4.0 in
    let p2 = and_parts _ _ p3.0 in
    let p1 = and_parts _ _ p2.0 in
    let r = nearest_is 1 4096 rows (leb-true 1 rows p1.0) (leb-true rows 4096 p1.1) in
    let c = nearest_is 2 16384 codes (leb-true 2 codes p2.1) (leb-true codes 16384 p3.1) in
    let b = nearest_is 2 64 a (leb-true 2 a p6.1) (leb-true a 64 p7.1) in
    (λ i. record {
      code_bound = c i;
      guess_bound = r i;
      is_code = λ code. nat_lt code (c i);
      admits = λ guess. nat_lt guess (r i);
      answers = b i;
      naming = false;
      answer = λ code guess. cond (nat_lt code (c i) && nat_lt guess (r i)) (as_answer (b i) (slice_index bytes (guess * c i + code))) (b i);
    })
    ∙ (λ i. record {
      code_bound = codes;
      guess_bound = rows;
      is_code = λ code. nat_lt code codes;
      admits = λ guess. nat_lt guess rows;
      answers = a;
      naming = false;
      answer = λ code guess. cond (nat_lt code codes && nat_lt guess rows) (each_byte a bytes p8.1 (guess * codes + code) i) a;
    })

pub answer_under : (a byte : ℕ) → 2 ≤ a → as_answer a byte < a
answer_under a byte some = cond_both (nat_lt byte a) byte 0 (λ x. x < a) (ltb-true byte a) (λ _. omega arith)

pub any_lawful : (rows codes a : ℕ) (bytes : List ℕ) → Lawful (any_table rows codes a bytes)
any_lawful rows codes a bytes = record {
  some_codes = omega arith;
  few_codes = omega arith;
  some_guesses = omega arith;
  few_guesses = omega arith;
  some_answers = omega arith;
  few_answers = omega arith;
  code_below = λ code. ltb-true code (nearest 2 16384 codes);
  guess_below = λ guess. ltb-true guess (nearest 1 4096 rows);
  answer_below = λ code guess both.
      subst (λ z. z < nearest 2 64 a)
      (sym (cond-true _ (as_answer (nearest 2 64 a) (slice_index bytes (guess * nearest 2 16384 codes + code))) (nearest 2 64 a) (and_from _ _ both.0 both.1)))
      (answer_under (nearest 2 64 a) (slice_index bytes (guess * nearest 2 16384 codes + code)) (omega arith));
  no_answer = λ code guess none. cond-false _ _ _ none;
  win_names = λ names code guess both won. absurd (both_ways false refl names);
  named_wins = λ names code guess both same. absurd (both_ways false refl names);
}
