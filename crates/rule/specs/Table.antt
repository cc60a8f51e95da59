-- The game given by a table of its answers. Assumes nothing.
use Rattle.std.specs.Prelude.{ℕ, ◌+◌, ◌*◌, min, max, Bool, false, cond, ◌&&◌, List, length, ◌==◌, nat_le, nat_lt, slice_index}
use Rattle.std.specs.List.{list_all}
use Rattle.rule.specs.Meaning.{Meaning}

-- each byte is an answer
abbrev pub all_under : ℕ → List ℕ → Bool
all_under a bytes = list_all (λ x. nat_lt x a) bytes

-- the tables that can be played: the answers to the first guess come first, in the order of the codes, then those to the next
abbrev pub table_fits : ℕ → ℕ → ℕ → List ℕ → Bool
table_fits rows codes a bytes =
    nat_le 1 rows && nat_le rows 4096 && nat_le 2 codes && nat_le codes 16384 && nat_le (rows * codes) 65536
    && length bytes == rows * codes && nat_le 2 a && nat_le a 64 && all_under a bytes

-- the game whose answer to a code and a guess stands in the guess's row at the code's place
abbrev pub table : ℕ → ℕ → ℕ → List ℕ → Meaning
table rows codes a bytes = record {
  code_bound = codes;
  guess_bound = rows;
  is_code = λ code. nat_lt code codes;
  admits = λ guess. nat_lt guess rows;
  answers = a;
  naming = false;
  answer = λ code guess. cond (nat_lt code codes && nat_lt guess rows) (slice_index bytes (guess * codes + code)) a;
}

-- the number nearest to n from low to high
abbrev pub nearest : ℕ → ℕ → ℕ → ℕ
nearest low high n = min (max n low) high

-- a byte that is no answer counts as 0
abbrev pub as_answer : ℕ → ℕ → ℕ
as_answer a byte = cond (nat_lt byte a) byte 0

-- What any sizes and bytes mean, so that the law holds of them all: a size out of range counts as the nearest in range,
-- a byte that is no answer or is missing counts as 0. For a table that fits this is the game above.
abbrev pub any_table : ℕ → ℕ → ℕ → List ℕ → Meaning
any_table rows codes a bytes = record {
  code_bound = nearest 2 16384 codes;
  guess_bound = nearest 1 4096 rows;
  is_code = λ code. nat_lt code (nearest 2 16384 codes);
  admits = λ guess. nat_lt guess (nearest 1 4096 rows);
  answers = nearest 2 64 a;
  naming = false;
  answer = λ code guess.
      cond (nat_lt code (nearest 2 16384 codes) && nat_lt guess (nearest 1 4096 rows))
      (as_answer (nearest 2 64 a) (slice_index bytes (guess * nearest 2 16384 codes + code)))
      (nearest 2 64 a);
}
