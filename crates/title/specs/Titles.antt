-- Which title is shown. Assumes nothing.
use Rattle.std.specs.Prelude.{◌≡◌, List, ℕ, ◌<◌, length, codes}
use Rattle.title.specs.declared.Shown.{Shown}
use Rattle.title.specs.declared.Source.{Source}
use Rattle.title.specs.declared.Source.TheVariants.{House, Supplier}

-- what is printed for the house or for the supplier
abbrev pub name_of : Source → List ℕ
name_of House = codes "house"
name_of Supplier = codes "supplier"

-- the line of the house or of the supplier
abbrev pub line_of : List ℕ → List ℕ → Source → List ℕ
line_of house supplier House = house
line_of house supplier Supplier = supplier

-- what is shown is the line of the house where it has any byte, otherwise that of the supplier, from its first byte to its last
pub record Shows (house supplier : List ℕ) (s : Shown) : Type 0 where
  pub own : 0 < length house → s.source ≡ House
  pub other : length house ≡ 0 → s.source ≡ Supplier
  pub whole : s.title.now ≡ line_of house supplier s.source
  pub start : s.start ≡ 0
  pub end : s.end ≡ length (line_of house supplier s.source)
