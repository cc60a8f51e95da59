use Rattle.std.proofs.Common.{sym, arith}
use Rattle.rule.specs.Laws.Pairs.{counted}
use Rattle.rule.proofs.board.Board.pairs.Goals as goal

pub returns : goal.returns
returns c = sym (counted c.args.self.now.pegs (omega arith) (omega arith)).is
