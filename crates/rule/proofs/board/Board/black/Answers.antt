use Rattle.std.proofs.Common.{◌==◌, ◌∙◌, rules, tests}
use Rattle.std.specs.List.{zip}
use Rattle.std.proofs.lemmas.Iterator.{YieldsList-from_zip}
use Rattle.std.proofs.lemmas.Iterator.Consumers.{YieldsList-at, YieldsList-from_first, YieldsList-from_filter, count_from_yields_List}
use Rattle.std.proofs.lemmas.List.Sums.{length-filter}
use Rattle.rule.specs.Digits.{last_digits}
use Rattle.rule.proofs.Lasts.{equal_last}
use Rattle.rule.proofs.board.Board.black.Goals as goal

pub returns : goal.returns
returns c =
    let p = c.args.self.now.pegs in
    let b = c.args.self.now.colours in
    let both = zip (last_digits p b c.args.code) (last_digits p b c.args.guess) in
    count_from_yields_List c.filter.result c.count.result c.count.ensures.ran
    (YieldsList-from_filter _ (λ both. both.0 == both.1)
    (YieldsList-at c.filter.ensures.source
    (YieldsList-from_zip
    (YieldsList-from_first (λ x. x) (λ rest. rest) (last_digits p b c.args.code) (c.zip.ensures.first ∙ c.row.ensures.value))
    (YieldsList-from_first (λ x. x) (λ rest. rest) (last_digits p b c.args.guess) (c.zip.ensures.second ∙ c.row-2.ensures.value))))
    c.filter.ensures.closure (λ x r q k. search (rules, tests)))
    ∙ length-filter (λ both. both.0 == both.1) both ∙ equal_last p b c.args.code c.args.guess
