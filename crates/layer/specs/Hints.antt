-- A game narrowed by hints: the codes that would have given each hint's answer. Assumes nothing.
use Rattle.std.specs.Prelude.{ℕ, suc, Bool, true, cond, ◌&&◌, List, [], ◌∷◌, Ok, Err, Result, ◌==◌, nat_lt}
use Rattle.fault.specs.Faults.{refusal}
use Rattle.fault.specs.declared.Check.TheVariants.{HintPair, NinthHint}
use Rattle.fault.specs.declared.Fault.{Fault}
use Rattle.rule.specs.Meaning.{Meaning}
use Rattle.layer.specs.declared.hint.Hint.{Hint}

-- a code agrees with each hint in turn, as the game below answers
abbrev pub agrees : Meaning → ℕ → List Hint → Bool
agrees below code [] = true
agrees below code (hint ∷ hints) = below.answer code hint.guess == hint.answer && agrees below code hints

-- the game below, with fewer codes
abbrev pub hinted : Meaning → List Hint → Meaning
hinted below hints = record {
  code_bound = below.code_bound;
  guess_bound = below.guess_bound;
  is_code = λ code. below.is_code code && agrees below code hints;
  admits = below.admits;
  answers = below.answers;
  naming = below.naming;
  answer = λ code guess. cond ((below.is_code code && agrees below code hints) && below.admits guess) (below.answer code guess) below.answers;
}

-- a hint that the game below could give
abbrev pub hint_fits : Meaning → Hint → Bool
hint_fits below hint = below.admits hint.guess && nat_lt hint.answer below.answers

-- how many hints stand before the one for a guess: all of them when there is none
abbrev pub place_of : ℕ → List Hint → ℕ
place_of guess [] = 0
place_of guess (hint ∷ hints) = cond (hint.guess == guess) 0 (suc (place_of guess hints))

-- there is a hint for this guess already, or fewer than eight hints
abbrev pub has_room : List Hint → Hint → Bool
has_room hints hint = nat_lt (place_of hint.guess hints) 8

-- the hints once one more is entered: it replaces the one for the same guess, or comes last
abbrev pub entered : List Hint → Hint → List Hint
entered [] hint = hint ∷ []
entered (x ∷ xs) hint = cond (x.guess == hint.guess) (hint ∷ xs) (x ∷ entered xs hint)

-- what entering a hint answers: a hint that the game below could not give is refused first, then one for a ninth guess
abbrev pub hint_result : Meaning → List Hint → Hint → Result (Unit {0}) Fault
hint_result below hints hint = cond (hint_fits below hint) (cond (has_room hints hint) (Ok tt) (Err (refusal NinthHint))) (Err (refusal HintPair))

-- the hints after that: a refusal leaves them as they were
abbrev pub hints_after : Meaning → List Hint → Hint → List Hint
hints_after below hints hint = cond (hint_fits below hint && has_room hints hint) (entered hints hint) hints
