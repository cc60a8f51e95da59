-- The checks that a document is put to. Assumes nothing.
use Rattle.std.specs.Prelude.{◌≡◌, ℕ, ◌*◌, ◌/◌, ◌<◌, ◌≤◌, cond, ◌⊎◌, List, [], ◌∷◌, length, ◌==◌, slice_index, Result, MatchResult, Option, Some, None, codes}
use Rattle.fault.specs.declared.Check.{Check}
use Rattle.fault.specs.declared.Check.TheVariants.{KindOrEdition, Lengths, TitleByte, Figure, RecordForm}
use Rattle.fault.specs.declared.Place.TheVariants.{Record}
use Rattle.fault.specs.Faults.{fault_at, refusal}
use Rattle.document.specs.declared.kind.Kind.{Kind}
use Rattle.document.specs.declared.kind.Kind.TheVariants.{Tree, Refutation}
use Rattle.document.specs.declared.sheet.Sheet.{Sheet}
use Rattle.document.specs.declared.sheet.FileFault.{FileFault}
use Rattle.document.specs.Documents.{contents_paper}
use Rattle.document.specs.Bytes.{Paper, record_at}
use Rattle.document.specs.Forms.{Faulty}
use Rattle.document.specs.Order.{Test, whole, each}
use Rattle.document.specs.Walks.{Least}

-- the kind of document that a letter stands for: T (84) for a tree, R (82) for a refutation
abbrev pub kind_of : ℕ → Kind
kind_of letter = cond (letter == 84) Tree Refutation

-- the letter of a kind of document
abbrev pub letter_for : Kind → ℕ
letter_for Tree = 84
letter_for Refutation = 82

-- what is printed for a kind of document
abbrev pub kind_text : Kind → List ℕ
kind_text Tree = codes "tree"
kind_text Refutation = codes "refutation"

-- the letters that a call takes, of either kind or of one alone
abbrev pub Taken : Option Kind → ℕ → Type 0
Taken None letter = (letter ≡ 84) ⊎ (letter ≡ 82)
Taken (Some kind) letter = letter ≡ letter_for kind

-- a check of the whole input: it is passed where P holds, and refuses with its fault where P does not
abbrev pub Checks : {A : Type 0} → Result A FileFault → Type 0 → Check → Type 0
Checks result P check = MatchResult result (λ _. P) (λ f. (P → ⊥) × (f.fault ≡ refusal check))

-- a check of each record: it is passed where none is bad, and blames the lowest where one is
abbrev pub ChecksEach : {A : Type 0} → Result A FileFault → (ℕ → Type 0) → Check → Type 0
ChecksEach result bad check =
    MatchResult result (λ _. Least bad None) (λ f. (p : ℕ) × Least bad (Some p) × (f.fault ≡ fault_at check (Record p)))

-- a letter is read as the kind that it stands for, and no other letter is
abbrev pub Spelled : ℕ → Result Kind FileFault → Type 0
Spelled letter r = MatchResult r (λ kind. letter ≡ letter_for kind) (λ f. (Taken None letter → ⊥) × (f.fault ≡ refusal KindOrEdition))

-- a title of at most 40 bytes, and whole records, from 1 to 1,048,576 of them
pub record Sized (title records : List ℕ) : Type 0 where
  pub short : length title ≤ 40
  pub even : length records ≡ 12 * (length records / 12)
  pub some : 1 ≤ length records / 12
  pub few : length records / 12 ≤ 1048576

-- every byte of a title is a printable character of ASCII
abbrev pub Printable : List ℕ → Type 0
Printable title = (i : ℕ) → i < length title → (32 ≤ slice_index title i) × (slice_index title i ≤ 126)

-- the figures are in the ranges of the kind
abbrev pub Ranged : Kind → ℕ → ℕ → Type 0
Ranged Tree first second = (1 ≤ first) × (first ≤ 30) × (1 ≤ second) × (second ≤ 491520)
Ranged Refutation first second = (first ≤ 30) × (second ≡ 0)

-- the checks of what a document says, in their order
abbrev pub paper_tests : Paper → List Test
paper_tests p =
    whole KindOrEdition (Taken None p.letter)
    ∷ whole Lengths (Sized p.title p.records)
    ∷ whole TitleByte (Printable p.title)
    ∷ whole Figure (Ranged (kind_of p.letter) p.first p.second)
    ∷ each RecordForm (Faulty (kind_of p.letter) (record_at p.records) (length p.records / 12))
    ∷ []

-- what a sheet says
abbrev pub paper_of : Sheet → Paper
paper_of s = contents_paper s.letter s.contents
