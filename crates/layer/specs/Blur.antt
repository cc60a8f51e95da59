-- A game whose answers are told more coarsely. Assumes nothing.
use Rattle.std.specs.Prelude.{ℕ, ◌-◌, Bool, cond, not, ◌&&◌, ◌||◌, List, length, ◌==◌, nat_le, slice_index}
use Rattle.std.specs.Bool.{beq}
use Rattle.rule.specs.Digits.{all_below}
use Rattle.rule.specs.Meaning.{Meaning, win}
use Rattle.rule.specs.Table.{all_under, nearest, as_answer}

-- the win below, and nothing else, is sent to the last of b answers
abbrev pub win_alone : Meaning → List ℕ → ℕ → Bool
win_alone below bytes b = all_below below.answers (λ a. beq (slice_index bytes a == b - 1) (a == win below))

-- the tables that can be used over a game: a byte for each answer below, each one of the b answers
abbrev pub blur_fits : Meaning → List ℕ → ℕ → Bool
blur_fits below bytes b =
    nat_le 2 b && nat_le b 64 && length bytes == below.answers && all_under b bytes && (not below.naming || win_alone below bytes b)

-- the game below, each answer sent to another by a rule
abbrev pub resent : Meaning → ℕ → (ℕ → ℕ) → Meaning
resent below b send = record {
  code_bound = below.code_bound;
  guess_bound = below.guess_bound;
  is_code = below.is_code;
  admits = below.admits;
  answers = b;
  naming = below.naming;
  answer = λ code guess. cond (below.is_code code && below.admits guess) (send (below.answer code guess)) b;
}

-- the game below, each answer sent where its byte says
abbrev pub blurred : Meaning → List ℕ → ℕ → Meaning
blurred below bytes b = resent below b (λ a. slice_index bytes a)

-- over a naming game no answer but the win is sent to the win
abbrev pub short_of_win : Bool → ℕ → ℕ → ℕ
short_of_win naming b byte = cond (naming && byte == b - 1) 0 byte

-- where an answer goes whatever the bytes are: a byte that is no answer counts as 0; where the game below names, its win
-- goes to the win and any other answer that its byte would send there goes to 0
abbrev pub sent : Meaning → List ℕ → ℕ → ℕ → ℕ
sent below bytes b a = cond (below.naming && a == win below) (b - 1) (short_of_win below.naming b (as_answer b (slice_index bytes a)))

-- What any bytes and any number of answers mean, so that the law holds of them all. For a table that fits this is the game above.
abbrev pub any_blur : Meaning → List ℕ → ℕ → Meaning
any_blur below bytes b = resent below (nearest 2 64 b) (sent below bytes (nearest 2 64 b))
