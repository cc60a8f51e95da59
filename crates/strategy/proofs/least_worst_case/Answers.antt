use Rattle.std.proofs.Common.{arith}
use Rattle.strategy.proofs.Refutations.{no_fewer}
use Rattle.strategy.proofs.least_worst_case.Goals as goal

pub returns-clause-fewest : goal.returns-clause-fewest
returns-clause-fewest c = no_fewer c.args.k _ (omega (arith, c.from.ensures))
