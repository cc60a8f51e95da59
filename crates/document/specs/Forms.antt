-- When a record of a document is in form, and which records are blamed where one is not. Assumes nothing.
use Rattle.std.specs.Prelude.{◌≡◌, ℕ, ◌+◌, ◌-◌, ◌<◌, ◌≤◌, ◌⊎◌, List, [], ◌∷◌}
use Rattle.document.specs.declared.kind.Kind.{Kind}
use Rattle.document.specs.declared.kind.Kind.TheVariants.{Tree, Refutation}
use Rattle.document.specs.declared.record.Record.{Record}
use Rattle.document.specs.declared.record.RecordKind.TheVariants.{Leaf, Guess, Count, Split}

-- what the siblings of a document rise by
abbrev pub key : Kind → Record → ℕ
key Tree e = e.answer
key Refutation e = e.value

-- the kinds that records of a document may have: a leaf and a count have no span, a guess has some, a split may have any
abbrev pub Shaped : Kind → Record → Type 0
Shaped Tree e = ((e.kind ≡ Leaf) × (e.span ≡ 0)) ⊎ ((e.kind ≡ Guess) × (0 < e.span))
Shaped Refutation e = ((e.kind ≡ Count) × (e.span ≡ 0)) ⊎ (e.kind ≡ Split)

-- what the root has zero
abbrev pub Unasked : Kind → Record → Type 0
Unasked Tree e = e.answer ≡ 0
Unasked Refutation e = (e.answer ≡ 0) × (e.value ≡ 0)

-- the records from low up to end are those of the siblings cs, each with all that stands beneath it, the last sibling first
abbrev pub Row : (ℕ → Record) → ℕ → List ℕ → ℕ → Type 0
Row at low [] end = end ≡ low
Row at low (c ∷ cs) end = (end ≡ c + 1) × (low + (at c).span ≤ c) × Row at low cs (c - (at c).span)

-- the span of record i is used up exactly by its children cs, the last one first
abbrev pub Children : (ℕ → Record) → ℕ → List ℕ → Type 0
Children at i cs = ((at i).span ≤ i) × Row at (i - (at i).span) cs i

abbrev pub Begins : List ℕ → ℕ → Type 0
Begins [] c = ⊥
Begins (x ∷ xs) c = x ≡ c

-- c is the sibling directly before d, in a row whose last sibling comes first
abbrev pub Beside : List ℕ → ℕ → ℕ → Type 0
Beside [] d c = ⊥
Beside (x ∷ xs) d c = ((x ≡ d) × Begins xs c) ⊎ Beside xs d c

-- d does not rise above the sibling before it
abbrev pub Behind : Kind → (ℕ → Record) → List ℕ → ℕ → Type 0
Behind kind at cs d = (c : ℕ) × Beside cs d c × (key kind (at d) ≤ key kind (at c))

-- record i of n has the fields of its kind, and of the root where it is the last
pub record Plain (kind : Kind) (e : Record) (n i : ℕ) : Type 0 where
  pub shape : Shaped kind e
  pub gap : e.gap ≡ 0
  pub root : i + 1 ≡ n → (e.span ≡ i) × Unasked kind e

-- record i of n is in form by itself
abbrev pub Formed : Kind → (ℕ → Record) → ℕ → ℕ → Type 0
Formed kind at n i = Plain kind (at i) n i × ((cs : List ℕ) × Children at i cs)

-- the records that are faulty on account of record i: itself where it is not in form, and each of its children that does not rise above the one before
abbrev pub Blames : Kind → (ℕ → Record) → ℕ → ℕ → ℕ → Type 0
Blames kind at n i p = ((p ≡ i) × (Formed kind at n i → ⊥)) ⊎ ((cs : List ℕ) × Children at i cs × Behind kind at cs p)

-- record p of n is faulty
abbrev pub Faulty : Kind → (ℕ → Record) → ℕ → ℕ → Type 0
Faulty kind at n p = (i : ℕ) × (i < n) × Blames kind at n i p
