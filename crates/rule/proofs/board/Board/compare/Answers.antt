use Rattle.std.proofs.Common.{◌≡◌, ◌+◌, ◌<◌, min, length, sym, ap, ◌∙◌, ⊎_elim, arith, rules, tests}
use Rattle.std.specs.List.{zip, sum_by}
use Rattle.std.specs.Iterator.Adapters.{zip_first, zip_second}
use Rattle.std.proofs.lemmas.Iterator.{YieldsList-from_slice, YieldsList-from_zip, YieldsList-from_map}
use Rattle.std.proofs.lemmas.Iterator.Consumers.{YieldsList-at, sum_by_from_yields_List, fits_by_from_yields_list}
use Rattle.rule.specs.Digits.{digits, last_digits}
use Rattle.rule.specs.Pegs.{equal_places, shared}
use Rattle.rule.specs.Laws.Rows.{digits_below, length_digits, equal_le, shared_le}
use Rattle.rule.proofs.Lasts.{tallied_start, tallied_as, tallied_more, occurs_few, tallied_whole, equal_next, equal_ends, length_last, counts_shared}
use Rattle.rule.proofs.board.Board.compare.Goals as goal
use Rattle.rule.proofs.board.Board.compare.Goals.{After-map}

pub loop-own-init : goal.loop-own-init
loop-own-init c =
    let p = c.args.self.now.pegs in
    let b = c.args.self.now.colours in
    let first : zip_first c.into_iter-own-iterator.result ≡ last_digits p b c.args.code = ap zip_first c.into_iter-own-iterator.ensures.into_iter_gives ∙ c.zip-own-items.ensures.first ∙ c.row.ensures.value in
    let second : zip_second c.into_iter-own-iterator.result ≡ last_digits p b c.args.guess = ap zip_second c.into_iter-own-iterator.ensures.into_iter_gives ∙ c.zip-own-items.ensures.second ∙ c.row-2.ensures.value in
    record {
      lefts = tallied_as (sym first) (tallied_start p b c.args.code (omega arith) (omega arith));
      rights = tallied_as (sym second) (tallied_start p b c.args.guess (omega arith) (omega arith));
      beside = omega (arith, ap length first, ap length second, length_last p b c.args.code, length_last p b c.args.guess);
      blacks = omega (arith, (λ i. equal_places (first i) (second i)) ∙ equal_ends p b c.args.code c.args.guess);
    }

pub overflow_add-black : goal.overflow_add-black
overflow_add-black c =
    let p = c.args.self.now.pegs in
    let b = c.args.self.now.colours in
    let more = equal_next c.in-Some.ensures.steps.0 c.in-Some.ensures.steps.1 in
    let few = equal_le (digits p b c.args.code) (digits p b c.args.guess) in
    let small : c.loop-own.black + c.from-black.result < 7 = omega (arith, c.loop-own.invariant.blacks, more, c.from-black.ensures, few, length_digits p b c.args.code) in
    search rules

pub overflow_add-left : goal.overflow_add-left
overflow_add-left c =
    let t = tallied_as c.in-Some.ensures.steps.0 c.loop-own.invariant.lefts in
    let few = occurs_few c.args.self.now.colours c.args.code c.args.self.now.pegs c.in-Some.own in
    let each = t.each c.in-Some.own t.below.0 in
    search rules

pub overflow_add-right : goal.overflow_add-right
overflow_add-right c =
    let t = tallied_as c.in-Some.ensures.steps.1 c.loop-own.invariant.rights in
    let few = occurs_few c.args.self.now.colours c.args.guess c.args.self.now.pegs c.in-Some.other in
    let each = t.each c.in-Some.other t.below.0 in
    search rules

pub loop-own-preserved : goal.loop-own-preserved
loop-own-preserved c =
    let first = c.in-Some.ensures.steps.0 in
    let second = c.in-Some.ensures.steps.1 in
    let more = equal_next first second in
    record {
      lefts = tallied_more c.in-Some.own (tallied_as first c.loop-own.invariant.lefts);
      rights = tallied_more c.in-Some.other (tallied_as second c.loop-own.invariant.rights);
      beside = omega (arith, c.loop-own.invariant.beside, ap length first, ap length second);
      blacks = omega (arith, c.loop-own.invariant.blacks, more, c.from-black.ensures);
    }

-- both rows are read to their ends
first_read : (c : After-map) → length (zip_first c.loop-own.own-iterator) ≡ 0
first_read c =
    ⊎_elim (λ first. ap length first.1.0) (λ second. omega (arith, c.loop-own.invariant.beside, ap length second.1.0)) c.in-None.ensures.steps

-- what is summed up
pairs : (c : After-map) → sum_by (λ both. min both.0 both.1) (zip c.loop-own.left c.loop-own.right) ≡ shared c.args.self.now.colours (digits c.args.self.now.pegs c.args.self.now.colours c.args.code) (digits c.args.self.now.pegs c.args.self.now.colours c.args.guess)
pairs c =
    let p = c.args.self.now.pegs in
    let b = c.args.self.now.colours in
    let second : length (zip_second c.loop-own.own-iterator) ≡ 0 = omega (arith, c.loop-own.invariant.beside, first_read c) in
    counts_shared b (digits p b c.args.code) (digits p b c.args.guess) c.loop-own.left c.loop-own.right (omega arith) (digits_below p b c.args.code (omega arith))
    c.loop-own.invariant.lefts.ten c.loop-own.invariant.rights.ten
    (tallied_whole c.loop-own.invariant.lefts (first_read c)) (tallied_whole c.loop-own.invariant.rights second)

pub sum-shared-requires-clause-fits : goal.sum-shared-requires-clause-fits
sum-shared-requires-clause-fits c =
    let p = c.args.self.now.pegs in
    let b = c.args.self.now.colours in
    let le = shared_le b (digits p b c.args.code) (digits p b c.args.guess) (digits_below p b c.args.code (omega arith)) in
    fits_by_from_yields_list (λ both. min both.0 both.1) (zip c.loop-own.left c.loop-own.right) c.map.result 256
    (YieldsList-from_map _ (λ both. min both.0 both.1)
    (YieldsList-at c.map.ensures.source
    (YieldsList-from_zip (YieldsList-from_slice c.loop-own.left cc) (YieldsList-from_slice c.loop-own.right cc)))
    c.map.ensures.closure (λ x r q k. search (rules, tests)))
    (omega (arith, pairs (goal.at.sum-shared-requires-clause-fits c).After-map, le, length_digits p b c.args.code))

pub returns-clause-shared : goal.returns-clause-shared
returns-clause-shared c =
    sum_by_from_yields_List (λ both. min both.0 both.1) (zip c.loop-own.left c.loop-own.right) c.map.result c.sum-shared.result c.sum-shared.ensures.ran
    (YieldsList-from_map _ (λ both. min both.0 both.1)
    (YieldsList-at c.map.ensures.source
    (YieldsList-from_zip (YieldsList-from_slice c.loop-own.left cc) (YieldsList-from_slice c.loop-own.right cc)))
    c.map.ensures.closure (λ x r q k. search (rules, tests)))
    ∙ pairs (goal.at.returns-clause-shared c).After-map
