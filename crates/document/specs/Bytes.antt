-- Which bytes stand for which numbers, records and documents: every number has its most significant byte first. Assumes nothing.
use Rattle.std.specs.Prelude.{ℕ, ◌+◌, ◌*◌, ◌/◌, ◌%◌, List, [], ◌∷◌, ◌++◌, length, if◌then◌else◌, ◌==◌, slice_index, slice_index_or}
use Rattle.document.specs.declared.record.Record.{Record}
use Rattle.document.specs.declared.record.RecordKind.{RecordKind}
use Rattle.document.specs.declared.record.RecordKind.TheVariants.{Leaf, Guess, Count, Split, Other}

-- the two bytes of a number below 2 ^ 16
abbrev pub two : ℕ → List ℕ
two n = (n / 256 % 256) ∷ (n % 256) ∷ []

-- the four bytes of a number below 2 ^ 32
abbrev pub four : ℕ → List ℕ
four n = (n / 16777216 % 256) ∷ (n / 65536 % 256) ∷ (n / 256 % 256) ∷ (n % 256) ∷ []

-- the number that the two bytes at a place stand for
abbrev pub two_at : List ℕ → ℕ → ℕ
two_at bs i = slice_index bs i * 256 + slice_index bs (i + 1)

-- the number that the four bytes at a place stand for
abbrev pub four_at : List ℕ → ℕ → ℕ
four_at bs i = slice_index bs i * 16777216 + slice_index bs (i + 1) * 65536 + slice_index bs (i + 2) * 256 + slice_index bs (i + 3)

-- the byte of a record's kind
abbrev pub kind_byte : RecordKind → ℕ
kind_byte Leaf = 0
kind_byte Guess = 1
kind_byte Count = 2
kind_byte Split = 3
kind_byte (Other byte) = byte

-- the kind that a byte stands for: any other byte is kept as it is
abbrev pub kind_in : ℕ → RecordKind
kind_in byte =
    if byte == 0 then Leaf else (if byte == 1 then Guess else (if byte == 2 then Count else (if byte == 3 then Split else Other byte)))

-- the twelve bytes of a record
abbrev pub record_bytes : Record → List ℕ
record_bytes e = kind_byte e.kind ∷ e.answer ∷ two e.gap ++ (four e.value ++ four e.span)

-- the record whose bytes begin at twelve times its index
abbrev pub record_at : List ℕ → ℕ → Record
record_at bs i =
    record {
      kind = kind_in (slice_index bs (12 * i));
      answer = slice_index bs (12 * i + 1);
      gap = two_at bs (12 * i + 2);
      value = four_at bs (12 * i + 4);
      span = four_at bs (12 * i + 8);
    }

-- the record at a place, where each has its twelve bytes to itself
abbrev pub chunk_at : List (List ℕ) → ℕ → Record
chunk_at chunks i = record_at (slice_index_or chunks i []) 0

-- the trailer, which ends a document: what it is, in which edition, how long its parts are, its figures, and which game it is for
abbrev pub trailer : ℕ → ℕ → ℕ → ℕ → ℕ → ℕ → List ℕ
trailer letter title count first second game =
    letter ∷ 1 ∷ two title ++ (four count ++ (four first ++ (four second ++ (four (12 * count) ++ four game))))

-- what a document says: its kind's letter, its title and its records as bytes, its two figures and the number of its game
pub record Paper : Type 0 where
  pub letter : ℕ
  pub title : List ℕ
  pub records : List ℕ
  pub first : ℕ
  pub second : ℕ
  pub game : ℕ

-- the trailer of a paper
abbrev pub ending : Paper → List ℕ
ending p = trailer p.letter (length p.title) (length p.records / 12) p.first p.second p.game

-- the bytes of a document
abbrev pub encode : Paper → List ℕ
encode p = p.title ++ (p.records ++ ending p)

-- how many bytes a document has
abbrev pub size : Paper → ℕ
size p = length p.title + length p.records + 24
