use Rattle.std.proofs.Common.{rules, arith}
use Rattle.std.proofs.lemmas.Grind.{common_steps}
use Rattle.strategy.proofs.Cut.{at_most, cut_next}
use Rattle.strategy.proofs.+places.Goals as goal

pub returns-then-k-eq0-clause-most : goal.returns-then-k-eq0-clause-most
returns-then-k-eq0-clause-most t c = at_most c.args.naming c.args.answers c.args.k _ (search rules)

pub returns-clause-value : goal.returns-clause-value
returns-clause-value t c = search (rules, cut_next)

pub returns-clause-most : goal.returns-clause-most
returns-clause-most t c = at_most c.args.naming c.args.answers c.args.k _ (grind (arith, common_steps, cut_next))
