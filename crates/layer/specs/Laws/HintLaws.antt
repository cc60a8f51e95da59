-- A game narrowed by hints keeps the law. Assumes nothing.
use Rattle.std.specs.Prelude.{◌≡◌, ℕ, ◌<◌, List}
use Rattle.std.proofs.Common.{sym, subst, ◌∙◌}
use Rattle.std.proofs.lemmas.Bool.{and_parts, and_from, cond-true, cond-false}
use Rattle.rule.specs.Meaning.{Meaning, Lawful, Playable}
use Rattle.layer.specs.declared.hint.Hint.{Hint}
use Rattle.layer.specs.Hints.{agrees, hinted}

module _ (below : Meaning) (law : Lawful below) (hints : List Hint) where
  -- a pair of the narrowed game is a pair of the game below, with the same answer
  below_pair : (c g : ℕ) → Playable (hinted below hints) c g → Playable below c g
  below_pair c g both = ((and_parts (below.is_code c) (agrees below c hints) both.0).0, both.1)

  same_answer : (c g : ℕ) → Playable (hinted below hints) c g → (hinted below hints).answer c g ≡ below.answer c g
  same_answer c g both = cond-true _ _ _ (and_from _ _ both.0 both.1)

  pub hinted_lawful : Lawful (hinted below hints)
  hinted_lawful = record {
    some_codes = law.some_codes;
    few_codes = law.few_codes;
    some_guesses = law.some_guesses;
    few_guesses = law.few_guesses;
    some_answers = law.some_answers;
    few_answers = law.few_answers;
    code_below = λ c h. law.code_below c (and_parts (below.is_code c) (agrees below c hints) h).0;
    guess_below = law.guess_below;
    answer_below = λ c g both. subst (λ a. a < below.answers) (sym (same_answer c g both)) (law.answer_below c g (below_pair c g both));
    no_answer = λ c g none. cond-false _ _ _ none;
    win_names = λ names c g both won. law.win_names names c g (below_pair c g both) (sym (same_answer c g both) ∙ won);
    named_wins = λ names c g both same. same_answer c g both ∙ law.named_wins names c g (below_pair c g both) same;
  }
