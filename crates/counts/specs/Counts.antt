-- What is counted of a game. Assumes nothing.
use Rattle.std.specs.Prelude.{ℕ, ◌==◌}
use Rattle.rule.specs.Digits.{how_many}
use Rattle.rule.specs.Meaning.{Meaning}

abbrev pub codes_of : Meaning → ℕ
codes_of m = how_many m.code_bound m.is_code

abbrev pub guesses_of : Meaning → ℕ
guesses_of m = how_many m.guess_bound m.admits

-- how many codes have an answer to a guess: a number that is no code has none of the answers
abbrev pub that_answer : Meaning → ℕ → ℕ → ℕ
that_answer m guess answer = how_many m.code_bound (λ code. m.answer code guess == answer)
