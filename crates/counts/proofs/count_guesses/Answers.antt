use Rattle.std.proofs.Common.{ℕ, Bool, ◌∙◌, rules, tests, arith}
use Rattle.std.proofs.lemmas.Iterator.{YieldsList-from_range}
use Rattle.std.proofs.lemmas.Iterator.Consumers.{YieldsList-from_filter, count_from_yields_List}
use Rattle.counts.proofs.Counting.{counted}
use Rattle.counts.proofs.count_guesses.Goals as goal

pub returns : goal.returns
returns g c =
    let m = g.R.AnswerRule.meaning c.args.rule.now in
    let test : ℕ → Bool = m.admits in
    count_from_yields_List _ _ c.count.ensures.ran (YieldsList-from_filter _ test (YieldsList-from_range 0 m.guess_bound m.guess_bound (search rules) (omega arith)) c.filter.ensures.closure (λ x r q k. search (rules, tests)))
    ∙ counted m.guess_bound test
