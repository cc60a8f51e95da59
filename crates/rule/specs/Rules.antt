-- What the rules of this crate mean. Assumes nothing.
use Rattle.rule.specs.Coins.{coins}
use Rattle.std.specs.Prelude.{ℕ, List}
use Rattle.rule.specs.Digits.{digits}
use Rattle.rule.specs.Meaning.{Meaning}
use Rattle.rule.specs.Pegs.{row_game, peg_answers, peg_answer, black_answers, black_answer}
use Rattle.rule.specs.Table.{any_table}
use Rattle.rule.specs.declared.blacks.BlackAlone.{BlackAlone}
use Rattle.rule.specs.declared.board.Board.{Board}
use Rattle.rule.specs.declared.coins.Coins.{Coins}
use Rattle.rule.specs.declared.pegs.BlackAndWhite.{BlackAndWhite}
use Rattle.rule.specs.declared.row_game.RowGame.{RowGame}
use Rattle.rule.specs.declared.table.Table.{Table}

-- the row of colours that a number stands for on a board
abbrev pub row_on : Board → ℕ → List ℕ
row_on board n = digits board.pegs board.colours n

-- what a game of rows means, at a way to compare them
abbrev pub rows_of : {M : Type 0} → (ℕ → ℕ) → (ℕ → ℕ → ℕ → ℕ → ℕ) → RowGame M → Meaning
rows_of answers answer rule = row_game answers answer rule.board.pegs rule.board.colours rule.board.repeats

abbrev pub pegs_of : RowGame BlackAndWhite → Meaning
pegs_of rule = rows_of peg_answers peg_answer rule

abbrev pub blacks_of : RowGame BlackAlone → Meaning
blacks_of rule = rows_of black_answers black_answer rule

abbrev pub coins_of : Coins → Meaning
coins_of rule = coins rule.set.coins

abbrev pub table_of : Table → Meaning
table_of rule = any_table rule.rows rule.codes rule.answers rule.bytes.now
