-- What making a game answers. Assumes nothing.
use Rattle.std.specs.Prelude.{◌≡◌, Bool, true, false, Result, MatchResult}
use Rattle.fault.specs.declared.Check.{Check}
use Rattle.fault.specs.declared.Fault.{Fault}
use Rattle.fault.specs.Faults.{refusal}

-- a value of which something holds, where what was asked for fits, and otherwise what the check refuses with
abbrev pub Makes : {A : Type 0} → Result A Fault → Bool → Check → (A → Type 0) → Type 0
Makes result fits check Good = MatchResult result (λ made. (fits ≡ true) × Good made) (λ f. (fits ≡ false) × (f ≡ refusal check))
