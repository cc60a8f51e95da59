-- Where a hint goes among those that are there. Assumes nothing.
use Rattle.std.proofs.Common.{◌≡◌, ℕ, zero, suc, ◌+◌, ◌-◌, ◌<◌, Bool, true, false, cond, not, ◌&&◌, ◌==◌, Option, None, Some, List, [], ◌∷◌, ◌++◌, map, replicate, length, slice_set, slice_get, drop, sym, refl, ap, ◌∙◌, arith, length-append, length-set}
use Rattle.std.specs.List.{filter_map, position_or_len}
use Rattle.std.proofs.lemmas.List.{at_drop_more, length-map, length-replicate}
use Rattle.std.proofs.lemmas.Option.{slice_get_within, get_or_from_slice_get}
use Rattle.rule.specs.Meaning.{Meaning}
use Rattle.layer.specs.declared.hint.Hint.{Hint}
use Rattle.layer.specs.Hints.{agrees, place_of, entered}

-- the places of a table: hints, and free places after them
abbrev places : List Hint → ℕ → List (Option Hint)
places hints free = map Some hints ++ replicate free None

abbrev in_use : List (Option Hint) → List Hint
in_use entries = filter_map (λ entry. entry) entries

abbrev HintsFirst : List (Option Hint) → Type 0
HintsFirst entries = entries ≡ places (in_use entries) (8 - length (in_use entries))

length-places : (hints : List Hint) (free : ℕ) → length (places hints free) ≡ length hints + free
length-places hints free = simp (length-append, length-map, length-replicate) refl

-- a place where a hint for a guess can stand
abbrev pub takes : ℕ → Option Hint → Bool
takes guess None = true
takes guess (Some hint) = hint.guess == guess

pub first_place : (guess : ℕ) (hints : List Hint) (free : ℕ) → position_or_len (takes guess) (places hints free) ≡ place_of guess hints
first_place guess [] zero = refl
first_place guess [] (suc free) = refl
first_place guess (x ∷ xs) free =
    let rest = first_place guess xs free in
    elim (x.guess == guess) as (λ t. cond (not t) (1 + position_or_len (takes guess) (places xs free)) 0 ≡ cond t 0 (suc (place_of guess xs))) [ true ↦ refl | false ↦ omega arith ]

used : (hints : List Hint) (free : ℕ) → in_use (places hints free) ≡ hints
used [] zero = refl
used [] (suc free) = used [] free
used (x ∷ xs) free = ap (λ l. x ∷ l) (used xs free)

-- a hint takes the place of the one for the same guess, or the first that is free
written : (hints : List Hint) (free : ℕ) (hint : Hint) → place_of hint.guess hints < length (places hints free) → (left : ℕ) × (slice_set (places hints free) (place_of hint.guess hints) (Some hint) ≡ places (entered hints hint) left)
written [] zero hint room = absurd (omega arith)
written [] (suc free) hint room = (free, refl)
written (x ∷ xs) free hint room =
    let table : List (Option Hint) = places (x ∷ xs) free in
    let later : ℕ = suc (place_of hint.guess xs) in
    elim (x.guess == hint.guess)
    as (λ t. cond t 0 later < length table → (left : ℕ) × (slice_set table (cond t 0 later) (Some hint) ≡ places (cond t (hint ∷ xs) (x ∷ entered xs hint)) left)) [
      | true ↦ λ _. (free, refl)
      | false ↦ λ more.
          let rest = written xs free hint (omega arith) in
          (rest.0, ap (λ l. Some x ∷ l) rest.1)
    ]
    room

-- the table once a hint is written at its place
module _ (entries : List (Option Hint)) (hints : List Hint) (at : ℕ) (hint : Hint) (packed : HintsFirst entries) (same : in_use entries ≡ hints) (here : at ≡ place_of hint.guess hints) (room : at < length entries) where
  table : entries ≡ places hints (8 - length hints)
  table = packed ∙ ap (λ l. places l (8 - length l)) same

  placed : (left : ℕ) × (slice_set entries at (Some hint) ≡ places (entered hints hint) left)
  placed =
      let rest = written hints (8 - length hints) hint (omega (arith, ap length table)) in
      (rest.0, ap (λ l. slice_set l at (Some hint)) table ∙ ap (λ k. slice_set (places hints (8 - length hints)) k (Some hint)) here ∙ rest.1)

  pub entered_at : in_use (slice_set entries at (Some hint)) ≡ entered hints hint
  entered_at = ap in_use placed.1 ∙ used (entered hints hint) placed.0

  left_over : length entries ≡ 8 → placed.0 ≡ 8 - length (entered hints hint)
  left_over long = omega (arith, ap length placed.1, length-set entries at (Some hint), length-places (entered hints hint) placed.0)

  pub still_packed : length entries ≡ 8 → HintsFirst (slice_set entries at (Some hint))
  still_packed long = placed.1 ∙ ap (places (entered hints hint)) (left_over long) ∙ ap (λ l. places l (8 - length l)) (sym entered_at)

-- whether a code agrees with the hints from one on
module _ (below : Meaning) (code : ℕ) where
  pub agrees_at : (hints : List Hint) (at : ℕ) (hint : Hint) → slice_get hints at ≡ Some hint → agrees below code (drop at hints) ≡ (below.answer code hint.guess == hint.answer && agrees below code (drop (at + 1) hints))
  agrees_at hints at hint e =
      at_drop_more (agrees below code) hints at hint (slice_get_within hints at hint e)
      ∙ ap (λ h. agrees below code (h ∷ drop (at + 1) hints)) (get_or_from_slice_get hints at hint hint e)

  pub agrees_past : (hints : List Hint) (at : ℕ) → slice_get hints at ≡ None → agrees below code (drop at hints) ≡ true
  agrees_past [] zero e = refl
  agrees_past [] (suc at) e = refl
  agrees_past (x ∷ xs) zero e = cc
  agrees_past (x ∷ xs) (suc at) e = agrees_past xs at e
