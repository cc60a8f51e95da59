-- Which fault an input is refused with, given the checks in their order: the first that it does not pass, at its lowest place. Assumes nothing.
use Rattle.std.specs.Prelude.{◌≡◌, ℕ, ◌<◌, ◌⊎◌, List, [], ◌∷◌}
use Rattle.fault.specs.declared.Check.{Check}
use Rattle.fault.specs.declared.Fault.{Fault}
use Rattle.fault.specs.declared.Place.TheVariants.{Record}
use Rattle.fault.specs.Faults.{number_of, fault_at, refusal}

-- a check of the whole input, with what holds where it is passed; or a check of each record, with what holds where one is faulty
pub data Test : Type 1 where
  whole : Check → Type 0 → Test
  each : Check → (ℕ → Type 0) → Test

-- every check is passed
abbrev pub Passed : List Test → Type 0
Passed [] = Unit {0}
Passed (whole check good ∷ rest) = good × Passed rest
Passed (each check bad ∷ rest) = ((p : ℕ) → bad p → ⊥) × Passed rest

-- the input is refused with this fault
abbrev pub Refused : List Test → Fault → Type 0
Refused [] f = ⊥
Refused (whole check good ∷ rest) f = ((good → ⊥) × (f ≡ refusal check)) ⊎ (good × Refused rest f)
Refused (each check bad ∷ rest) f =
    ((p : ℕ) × bad p × ((q : ℕ) → q < p → bad q → ⊥) × (f ≡ fault_at check (Record p))) ⊎ (((p : ℕ) → bad p → ⊥) × Refused rest f)

-- the numbers of the checks rise, so the first that is not passed has the lowest number
abbrev pub Numbered : ℕ → List Test → Type 0
Numbered low [] = Unit {0}
Numbered low (whole check good ∷ rest) = (low < number_of check) × Numbered (number_of check) rest
Numbered low (each check bad ∷ rest) = (low < number_of check) × Numbered (number_of check) rest
