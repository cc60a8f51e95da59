-- What writing a document asks, and what it leaves in the buffer. Assumes nothing.
use Rattle.std.specs.Prelude.{◌≡◌, ℕ, ◌≤◌, List, [], ◌∷◌, ◌++◌, length, take, drop, None}
use Rattle.fault.specs.declared.Check.TheVariants.{OutputTooShort}
use Rattle.document.specs.Bytes.{Paper, encode, size}
use Rattle.document.specs.Order.{Test, whole, Passed}
use Rattle.document.specs.Checks.{paper_tests}
use Rattle.document.specs.Files.{file_tests, Reads}

-- the checks that a paper is put to before it is written into so much room
abbrev pub write_tests : Paper → ℕ → List Test
write_tests p room = paper_tests p ++ (whole OutputTooShort (size p ≤ room) ∷ [])

-- the checks that a file is put to when it is read and written again into so much room
abbrev pub rewrite_tests : List ℕ → ℕ → List Test
rewrite_tests bs room = file_tests None bs ++ (whole OutputTooShort (length bs ≤ room) ∷ [])

-- n bytes of a buffer are written: a paper that passes its checks stands at the front and is read back from there, and what is past it stays
pub record Writes (p : Paper) (n : ℕ) (before after : List ℕ) : Type 0 where
  pub all : n ≡ size p
  pub bytes : after ≡ encode p ++ drop n before
  pub passed : Passed (write_tests p (length before))
  pub back : Reads None (take n after) p
