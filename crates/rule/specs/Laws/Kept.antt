-- Each rule of this crate keeps the law. Assumes nothing.
use Rattle.std.proofs.Common.{subst}
use Rattle.std.specs.Prelude.{ℕ, ◌^◌, ◌<◌, ◌≤◌, Bool}
use Rattle.rule.specs.Meaning.{Lawful}
use Rattle.rule.specs.Pegs.{row_game, peg_answers, peg_answer, black_answers, black_answer}
use Rattle.rule.specs.Rules.{pegs_of, blacks_of, coins_of, table_of}
use Rattle.rule.specs.declared.blacks.BlackAlone.{BlackAlone}
use Rattle.rule.specs.declared.board.Board.{Board}
use Rattle.rule.specs.declared.coins.Coins.{Coins}
use Rattle.rule.specs.declared.pegs.BlackAndWhite.{BlackAndWhite}
use Rattle.rule.specs.declared.row_game.RowGame.{RowGame}
use Rattle.rule.specs.declared.table.Table.{Table}
use Rattle.rule.specs.Laws.CoinLaws.{coins_lawful}
use Rattle.rule.specs.Laws.PegLaws.{pegs_lawful, blacks_lawful}
use Rattle.rule.specs.Laws.TableLaws.{any_lawful}

-- a way of comparing rows that is lawful on every board is so on this one
pub rows_lawful : (answers : ℕ → ℕ) (answer : ℕ → ℕ → ℕ → ℕ → ℕ)
    → ((p c : ℕ) → 1 ≤ p → p < 7 → 2 ≤ c → (repeats : Bool) → c ^ p ≤ 16384 → Lawful (row_game answers answer p c repeats))
    → (board : Board) → Lawful (row_game answers answer board.pegs board.colours board.repeats)
rows_lawful answers answer law b =
    law b.pegs b.colours b.some_pegs b.few_pegs b.some_colours b.repeats (subst (λ n. n ≤ 16384) b.whole b.few_rows)

pub pegs_rule : (rule : RowGame BlackAndWhite) → Lawful (pegs_of rule)
pegs_rule rule = rows_lawful peg_answers peg_answer pegs_lawful rule.board

pub blacks_rule : (rule : RowGame BlackAlone) → Lawful (blacks_of rule)
blacks_rule rule = rows_lawful black_answers black_answer blacks_lawful rule.board

pub coins_rule : (rule : Coins) → Lawful (coins_of rule)
coins_rule rule = coins_lawful rule.set.coins rule.set.some_coins rule.set.few_coins

pub table_rule : (rule : Table) → Lawful (table_of rule)
table_rule rule = any_lawful rule.rows rule.codes rule.answers rule.bytes.now
