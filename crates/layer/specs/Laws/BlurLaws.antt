-- A blurred game keeps the law, and is the one that was asked for where the table fits. Assumes nothing.
use Rattle.std.specs.Prelude.{◌≡◌, ℕ, ◌-◌, ◌<◌, ◌≤◌, Bool, true, false, cond, not, ◌&&◌, ◌||◌, List, length, ◌==◌, ◌≢◌, nat_le, slice_index, refl}
use Rattle.std.proofs.Common.{sym, ap, subst, ◌∙◌, ⊎_elim, arith}
use Rattle.std.specs.Bool.{beq}
use Rattle.std.proofs.lemmas.Bool.{and_parts, and_from, and_left, and_right, both_ways, cases_Bool, cases_eq, cond-true, cond-false, eq-eqb, eqb-true, eqb-false, ne_eqb, leb-true, or_cases, not-true}
use Rattle.rule.specs.Meaning.{Meaning, Lawful, Playable, win}
use Rattle.rule.specs.Table.{all_under, nearest, as_answer}
use Rattle.rule.specs.Laws.Below.{all_below_at}
use Rattle.rule.specs.Laws.TableLaws.{answer_under, each_byte, nearest_is}
use Rattle.layer.specs.Blur.{win_alone, blur_fits, resent, blurred, short_of_win, sent, any_blur}

short_below : (naming : Bool) (b byte : ℕ) → 2 ≤ b → byte < b → short_of_win naming b byte < b
short_below naming b byte some low =
    elim (naming && byte == b - 1) as (λ t. cond t 0 byte < b) [ true ↦ omega arith | false ↦ low ]

short_not_last : (b byte : ℕ) → 2 ≤ b → byte < b → short_of_win true b byte ≢ b - 1
short_not_last b byte some low e =
    ⊎_elim
    (λ t. absurd (omega (arith, cond-true (byte == b - 1) 0 byte t)))
    (λ f. eqb-false byte (b - 1) f (sym (cond-false (byte == b - 1) 0 byte f) ∙ e))
    (cases_Bool (byte == b - 1))

module _ (below : Meaning) (law : Lawful below) (bytes : List ℕ) (b : ℕ) (some : 2 ≤ b) where
  sent_below : (a : ℕ) → sent below bytes b a < b
  sent_below a =
      elim (below.naming && a == win below) as (λ t. cond t (b - 1) (short_of_win below.naming b (as_answer b (slice_index bytes a))) < b)
      [ true ↦ omega arith | false ↦ short_below below.naming b (as_answer b (slice_index bytes a)) some (answer_under b (slice_index bytes a) some) ]

  sent_win : below.naming ≡ true → (a : ℕ) → a ≡ win below → sent below bytes b a ≡ b - 1
  sent_win names a e = cond-true _ _ _ (and_from _ _ names (eq-eqb a (win below) e))

  -- nothing but the win is sent to the last answer
  sent_only : below.naming ≡ true → (a : ℕ) → sent below bytes b a ≡ b - 1 → a ≡ win below
  sent_only names a e =
      ⊎_elim (λ same. same)
      (λ other.
      let rest : sent below bytes b a ≡ short_of_win below.naming b (as_answer b (slice_index bytes a)) = cond-false (below.naming && a == win below) _ _ (and_right below.naming _ (ne_eqb a (win below) other)) in
      absurd (short_not_last b (as_answer b (slice_index bytes a)) some (answer_under b (slice_index bytes a) some)
      (ap (λ t. short_of_win t b (as_answer b (slice_index bytes a))) (sym names) ∙ sym rest ∙ e)))
      (cases_eq a (win below))

  resent_answer : (c g : ℕ) → Playable below c g → (resent below b (sent below bytes b)).answer c g ≡ sent below bytes b (below.answer c g)
  resent_answer c g both = cond-true _ _ _ (and_from _ _ both.0 both.1)

  pub resent_lawful : b ≤ 64 → Lawful (resent below b (sent below bytes b))
  resent_lawful few = record {
    some_codes = law.some_codes;
    few_codes = law.few_codes;
    some_guesses = law.some_guesses;
    few_guesses = law.few_guesses;
    some_answers = some;
    few_answers = few;
    code_below = law.code_below;
    guess_below = law.guess_below;
    answer_below = λ c g both. subst (λ a. a < b) (sym (resent_answer c g both)) (sent_below (below.answer c g));
    no_answer = λ c g none. cond-false _ _ _ none;
    win_names = λ names c g both won. law.win_names names c g both (sent_only names (below.answer c g) (sym (resent_answer c g both) ∙ won));
    named_wins = λ names c g both same. resent_answer c g both ∙ sent_win names (below.answer c g) (law.named_wins names c g both same);
  }

pub any_blur_lawful : (below : Meaning) → Lawful below → (bytes : List ℕ) (b : ℕ) → Lawful (any_blur below bytes b)
any_blur_lawful below law bytes b = resent_lawful below law bytes (nearest 2 64 b) (omega arith) (omega arith)

-- a table that fits sends each answer where its byte says
module _ (below : Meaning) (law : Lawful below) (bytes : List ℕ) (b : ℕ) (fits : blur_fits below bytes b ≡ true) where
  some_last : (not below.naming || win_alone below bytes b) ≡ true
  some_last = (and_parts (nat_le 2 b && nat_le b 64 && length bytes == below.answers && all_under b bytes) _ fits).1

  under : all_under b bytes ≡ true
  under = (and_parts (nat_le 2 b && nat_le b 64 && length bytes == below.answers) _ (and_parts (nat_le 2 b && nat_le b 64 && length bytes == below.answers && all_under b bytes) _ fits).0).1

  pub fitting : nearest 2 64 b ≡ b
  fitting =
      let three = and_parts (nat_le 2 b && nat_le b 64 && length bytes == below.answers) _ (and_parts (nat_le 2 b && nat_le b 64 && length bytes == below.answers && all_under b bytes) _ fits).0 in
      let two = and_parts (nat_le 2 b && nat_le b 64) _ three.0 in
      let one = and_parts (nat_le 2 b) (nat_le b 64) two.0 in
      nearest_is 2 64 b (leb-true 2 b one.0) (leb-true b 64 one.1)

  -- what is known of the byte of each answer over a naming game
  alone_at : below.naming ≡ true → (a : ℕ) → a < below.answers → beq (slice_index bytes a == b - 1) (a == win below) ≡ true
  alone_at names a low =
      ⊎_elim
      (λ t. absurd (both_ways below.naming (not-true below.naming t) names))
      (λ t. all_below_at below.answers (λ x. beq (slice_index bytes x == b - 1) (x == win below)) t a low)
      (or_cases (not below.naming) (win_alone below bytes b) some_last)

  tests_same : (x y : Bool) → beq x y ≡ true → x ≡ y
  tests_same true true e = refl
  tests_same true false e = sym e
  tests_same false true e = e
  tests_same false false e = refl

  pub sent_is : (a : ℕ) → a < below.answers → sent below bytes b a ≡ slice_index bytes a
  sent_is a low =
      ⊎_elim
      (λ names.
      let same = tests_same (slice_index bytes a == b - 1) (a == win below) (alone_at names a low) in
      ⊎_elim
      (λ t. cond-true _ _ _ (and_from _ _ names t) ∙ sym (eqb-true (slice_index bytes a) (b - 1) (same ∙ t)))
      (λ f.
      cond-false (below.naming && a == win below) _ _ (and_right below.naming _ f)
      ∙ ap (short_of_win below.naming b) (each_byte b bytes under a)
      ∙ cond-false (below.naming && slice_index bytes a == b - 1) _ _ (and_right below.naming _ (same ∙ f)))
      (cases_Bool (a == win below)))
      (λ no_name.
      cond-false (below.naming && a == win below) _ _ (and_left below.naming _ no_name)
      ∙ ap (short_of_win below.naming b) (each_byte b bytes under a)
      ∙ cond-false (below.naming && slice_index bytes a == b - 1) _ _ (and_left below.naming _ no_name))
      (cases_Bool below.naming)

  same_answer : (c g : ℕ) → (resent below b (sent below bytes b)).answer c g ≡ (blurred below bytes b).answer c g
  same_answer c g =
      ⊎_elim
      (λ t.
      let parts = and_parts (below.is_code c) (below.admits g) t in
      cond-true _ _ _ t ∙ sent_is (below.answer c g) (law.answer_below c g parts) ∙ sym (cond-true _ _ _ t))
      (λ f. cond-false (below.is_code c && below.admits g) (sent below bytes b (below.answer c g)) b f ∙ sym (cond-false (below.is_code c && below.admits g) (slice_index bytes (below.answer c g)) b f))
      (cases_Bool (below.is_code c && below.admits g))

  pub blur_is : any_blur below bytes b ≡ blurred below bytes b
  blur_is =
      ap (λ n. resent below n (sent below bytes n)) fitting
      ∙ (λ i. record {
        code_bound = below.code_bound;
        guess_bound = below.guess_bound;
        is_code = below.is_code;
        admits = below.admits;
        answers = b;
        naming = below.naming;
        answer = λ c g. same_answer c g i;
      })

-- only the bytes that are read matter
pub same_blur : (below : Meaning) (xs ys : List ℕ) (b : ℕ) → ((a : ℕ) → slice_index xs a ≡ slice_index ys a) → any_blur below xs b ≡ any_blur below ys b
same_blur below xs ys b same i =
    resent below (nearest 2 64 b)
    (λ a. cond (below.naming && a == win below) (nearest 2 64 b - 1) (short_of_win below.naming (nearest 2 64 b) (as_answer (nearest 2 64 b) (same a i))))
