use Rattle.std.proofs.Common.{arith}
use Rattle.rule.specs.Laws.CoinLaws.{three_power}
use Rattle.rule.proofs.set.Set.new.Goals as goal

pub pow-requires : goal.pow-requires
pow-requires c = omega (arith, three_power c.args.coins (omega arith))
