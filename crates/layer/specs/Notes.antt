-- The hints that a table holds. Assumes nothing.
use Rattle.std.specs.Prelude.{◌≡◌, ◌-◌, List, ◌++◌, map, length, replicate, Some, None}
use Rattle.std.specs.List.{filter_map}
use Rattle.layer.specs.declared.hint.Hint.{Hint}
use Rattle.layer.specs.declared.notes.Notes.TheInside.{Inside}

-- the entries in use, in the order in which their guesses came
abbrev pub listed : Inside → List Hint
listed notes = filter_map (λ entry. entry) notes.entries

-- the entries in use stand first
abbrev pub Packed : Inside → Type 0
Packed notes = notes.entries ≡ map Some (listed notes) ++ replicate (8 - length (listed notes)) None
