use Rattle.std.proofs.Common.{sym, ◌∙◌, arith, rules, tests}
use Rattle.std.proofs.lemmas.Grind.{common_steps}
use Rattle.layer.proofs.Entries.{agrees_at, agrees_past}
use Rattle.layer.proofs.hints.Hints.agrees.Goals as goal

pub returns-in_default : goal.returns-in_default
returns-in_default g c = grind (arith, common_steps, agrees_past)

pub returns-then-answer-hint : goal.returns-then-answer-hint
returns-then-answer-hint g c =
    let here = agrees_at (g.R.AnswerRule.meaning c.args.self.now.below) c.args.code _ c.loop-at.at c.in-Some.hint (sym c.entry.ensures.value ∙ c.in-Some.is) in
    grind (arith, common_steps)

pub loop-at-preserved : goal.loop-at-preserved
loop-at-preserved g c =
    let here = agrees_at (g.R.AnswerRule.meaning c.args.self.now.below) c.args.code _ c.loop-at.at c.in-Some.hint (sym c.entry.ensures.value ∙ c.in-Some.is) in
    search (rules, tests)
