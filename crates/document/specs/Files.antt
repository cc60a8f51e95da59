-- What the bytes of a file say, and the checks that a file is put to. Assumes nothing.
use Rattle.std.specs.Prelude.{◌≡◌, ℕ, ◌+◌, ◌-◌, ◌*◌, ◌≤◌, List, [], ◌∷◌, ◌++◌, length, take, drop, slice_index, slice_index_or, Option}
use Rattle.fault.specs.declared.Check.TheVariants.{FileTooShort, KindOrEdition, Lengths, TitleByte, Figure, RecordForm}
use Rattle.fault.specs.declared.Fault.{Fault}
use Rattle.document.specs.declared.kind.Kind.{Kind}
use Rattle.document.specs.declared.file.Trailer.{Trailer}
use Rattle.document.specs.Bytes.{Paper, encode, two_at, four_at, record_at}
use Rattle.document.specs.Forms.{Faulty}
use Rattle.document.specs.Order.{Test, whole, each, Passed, Refused, Numbered}
use Rattle.document.specs.Trees.{Stands}
use Rattle.document.specs.Checks.{kind_of, Taken, Printable, Ranged}

-- the fields of the last 24 bytes of a file
abbrev pub trailer_in : List ℕ → Trailer
trailer_in bs =
    record {
      letter = slice_index bs (length bs - 24);
      edition = slice_index bs (length bs - 24 + 1);
      title = two_at bs (length bs - 24 + 2);
      count = four_at bs (length bs - 24 + 4);
      first = four_at bs (length bs - 24 + 8);
      second = four_at bs (length bs - 24 + 12);
      distance = four_at bs (length bs - 24 + 16);
      game = four_at bs (length bs - 24 + 20);
    }

-- the fields of a trailer in six groups of four bytes
abbrev pub trailer_by : List (List ℕ) → Trailer
trailer_by words =
    record {
      letter = slice_index (slice_index_or words 0 []) 0;
      edition = slice_index (slice_index_or words 0 []) 1;
      title = two_at (slice_index_or words 0 []) 2;
      count = four_at (slice_index_or words 1 []) 0;
      first = four_at (slice_index_or words 2 []) 0;
      second = four_at (slice_index_or words 3 []) 0;
      distance = four_at (slice_index_or words 4 []) 0;
      game = four_at (slice_index_or words 5 []) 0;
    }

-- the lengths in a trailer are in range, and agree with one another and with the length of the file
pub record Agreed (size : ℕ) (t : Trailer) : Type 0 where
  pub short : t.title ≤ 40
  pub some : 1 ≤ t.count
  pub few : t.count ≤ 1048576
  pub back : t.distance ≡ 12 * t.count
  pub all : size ≡ t.title + 12 * t.count + 24

-- what a file says by its trailer
abbrev pub paper_by : Trailer → List ℕ → Paper
paper_by t bs =
    record {
      letter = t.letter;
      title = take t.title bs;
      records = take (12 * t.count) (drop t.title bs);
      first = t.first;
      second = t.second;
      game = t.game;
    }

-- what a file says
abbrev pub paper_in : List ℕ → Paper
paper_in bs = paper_by (trailer_in bs) bs

-- the checks of a file before the game that it is for is looked at
abbrev pub opening_tests : Option Kind → List ℕ → List Test
opening_tests only bs =
    whole FileTooShort (36 ≤ length bs)
    ∷ whole KindOrEdition (Taken only (trailer_in bs).letter × ((trailer_in bs).edition ≡ 1))
    ∷ whole Lengths (Agreed (length bs) (trailer_in bs))
    ∷ whole TitleByte (Printable (paper_in bs).title)
    ∷ []

-- the checks of a file after that
abbrev pub closing_tests : List ℕ → List Test
closing_tests bs =
    whole Figure (Ranged (kind_of (trailer_in bs).letter) (trailer_in bs).first (trailer_in bs).second)
    ∷ each RecordForm (Faulty (kind_of (trailer_in bs).letter) (record_at (paper_in bs).records) (trailer_in bs).count)
    ∷ []

-- the checks that a file is put to when it is read alone
abbrev pub file_tests : Option Kind → List ℕ → List Test
file_tests only bs = opening_tests only bs ++ closing_tests bs

-- reading a file gives this paper: the file passes its checks, is the paper's bytes, and is a document that says it
pub record Reads (only : Option Kind) (bs : List ℕ) (p : Paper) : Type 0 where
  pub says : p ≡ paper_in bs
  pub same : encode p ≡ bs
  pub passed : Passed (file_tests only bs)
  pub stands : Stands only bs p

-- reading a file gives this fault: that of the first check it does not pass, and it is no document
pub record Rejects (only : Option Kind) (bs : List ℕ) (f : Fault) : Type 0 where
  pub first : Refused (file_tests only bs) f
  pub order : Numbered 0 (file_tests only bs)
  pub none : (p : Paper) → Stands only bs p → ⊥
