use Rattle.std.proofs.Common.{ℕ, Bool, ◌==◌, ◌∙◌, rules, tests, arith}
use Rattle.std.proofs.lemmas.Iterator.{YieldsList-from_range}
use Rattle.std.proofs.lemmas.Iterator.Consumers.{YieldsList-from_filter, count_from_yields_List}
use Rattle.counts.proofs.Counting.{counted}
use Rattle.counts.proofs.count_that_answer.Goals as goal

pub returns : goal.returns
returns g c =
    let m = g.R.AnswerRule.meaning c.args.rule.now in
    let test : ℕ → Bool = λ code. m.answer code c.args.guess == c.args.answer in
    count_from_yields_List _ _ c.count.ensures.ran (YieldsList-from_filter _ test (YieldsList-from_range 0 m.code_bound m.code_bound (search rules) (omega arith)) c.filter.ensures.closure (λ x r q k. search (rules, tests)))
    ∙ counted m.code_bound test
