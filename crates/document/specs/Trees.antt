-- What the bytes of a document are: a title, the records of a tree with its children before it, and a trailer. Assumes nothing.
use Rattle.std.specs.Prelude.{◌≡◌, ℕ, ◌+◌, ◌<◌, ◌≤◌, ◌⊎◌, List, [], ◌∷◌, ◌++◌, length, ◌≢◌, Option}
use Rattle.std.specs.List.{flat_map}
use Rattle.document.specs.declared.kind.Kind.{Kind}
use Rattle.document.specs.declared.kind.Kind.TheVariants.{Tree, Refutation}
use Rattle.document.specs.declared.record.Record.{Record}
use Rattle.document.specs.declared.record.RecordKind.{RecordKind}
use Rattle.document.specs.declared.record.RecordKind.TheVariants.{Leaf, Guess, Count, Split}
use Rattle.document.specs.Bytes.{Paper, encode, record_bytes}
use Rattle.document.specs.Checks.{kind_of, Taken, Printable, Ranged}

-- a row of trees: none, or a row and after it one more tree, which is a kind, an answer and a value with the row of trees beneath
pub data Forest : Type 0 where
  none : Forest
  grown : Forest → RecordKind → ℕ → ℕ → Forest → Forest

-- how many records a row of trees has
abbrev pub weight : Forest → ℕ
weight none = 0
weight (grown before kind answer value beneath) = weight before + weight beneath + 1

-- the records of a row of trees: of each tree first those beneath it, then its own, whose span is how many they are
abbrev pub records_of : Forest → List Record
records_of none = []
records_of (grown before kind answer value beneath) =
    records_of before ++ (records_of beneath ++ (record { kind = kind; answer = answer; gap = 0; value = value; span = weight beneath } ∷ []))

-- a leaf and a count have nothing beneath, a guess has something, a split may have anything
abbrev pub Fitting : Kind → RecordKind → Forest → Type 0
Fitting Tree kind beneath = ((kind ≡ Leaf) × (beneath ≡ none)) ⊎ ((kind ≡ Guess) × (beneath ≢ none))
Fitting Refutation kind beneath = ((kind ≡ Count) × (beneath ≡ none)) ⊎ (kind ≡ Split)

-- the last tree of a row, if there is one, has a lower answer, or in a refutation a lower value
abbrev pub Lower : Kind → Forest → ℕ → ℕ → Type 0
Lower kind none answer value = Unit {0}
Lower Tree (grown before kind' answer' value' beneath) answer value = answer' < answer
Lower Refutation (grown before kind' answer' value' beneath) answer value = value' < value

-- every tree of a row, and every tree beneath one, has what its kind asks, stands above the one before it, and has an answer of one byte and a value of four
abbrev pub Grows : Kind → Forest → Type 0
Grows kind none = Unit {0}
Grows kind (grown before kind' answer value beneath) =
    Grows kind before × Grows kind beneath × Fitting kind kind' beneath × Lower kind before answer value × (answer < 256) × (value < 4294967296)

-- what the root of a tree has zero
abbrev pub Rooted : Kind → ℕ → ℕ → Type 0
Rooted Tree answer value = answer ≡ 0
Rooted Refutation answer value = (answer ≡ 0) × (value ≡ 0)

-- bytes that are the records of one tree in form
pub record Planted (kind : Kind) (bs : List ℕ) : Type 0 where
  pub top : RecordKind
  pub answer : ℕ
  pub value : ℕ
  pub beneath : Forest
  pub bytes : bs ≡ flat_map record_bytes (records_of (grown none top answer value beneath))
  pub grows : Grows kind (grown none top answer value beneath)
  pub root : Rooted kind answer value
  pub few : weight (grown none top answer value beneath) ≤ 1048576

-- the bytes of a file are a document, which says this paper
pub record Stands (only : Option Kind) (bs : List ℕ) (p : Paper) : Type 0 where
  pub same : bs ≡ encode p
  pub letter : Taken only p.letter
  pub short : length p.title ≤ 40
  pub printable : Printable p.title
  pub ranged : Ranged (kind_of p.letter) p.first p.second
  pub planted : Planted (kind_of p.letter) p.records
  pub game : p.game < 4294967296
