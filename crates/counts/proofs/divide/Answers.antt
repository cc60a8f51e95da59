use Rattle.counts.specs.Counts.{that_answer}
use Rattle.std.proofs.Common.{rules}
use Rattle.counts.proofs.Filling.{filled}
use Rattle.counts.proofs.divide.Goals as goal

pub returns : goal.returns
returns g c a low =
    filled _ (λ k. that_answer (g.R.AnswerRule.meaning c.args.rule.now) c.args.guess k) 64 _ _ (λ i x q small k. search rules) c.from_fn.ensures.items a 0 low
