use Rattle.std.proofs.Common.{◌-◌, ◌≤◌, arith, rules}
use Rattle.rule.specs.Digits.{digits}
use Rattle.rule.specs.Pegs.{peg_answer}
use Rattle.rule.specs.Laws.PegLaws.{Compared, compared}
use Rattle.rule.specs.Laws.Rows.{digits_below, equal_le_shared}
use Rattle.rule.proofs.board.Board.pair.Goals as goal
use Rattle.rule.proofs.board.Board.pair.Goals.{After-compare-black}

-- the pairs by place are among those by colour
placed : (c : After-compare-black) → c.compare-black.result.0 ≤ c.compare-black.result.1
placed c =
    let p = c.args.self.now.pegs in
    let b = c.args.self.now.colours in
    let among = equal_le_shared b (digits p b c.args.code) (digits p b c.args.guess) (digits_below p b c.args.code (omega arith)) in
    omega (arith, among, c.compare-black.ensures.black, c.compare-black.ensures.shared)

-- what black and white say of the answer
known : (c : After-compare-black) → Compared c.args.self.now.pegs c.compare-black.result.0 (c.compare-black.result.1 - c.compare-black.result.0) (peg_answer c.args.self.now.pegs c.args.self.now.colours c.args.code c.args.guess)
known c =
    compared _ c.args.self.now.colours c.args.code c.args.guess _ _ (omega arith) (omega arith) (omega arith) c.compare-black.ensures.black
    (λ i. c.compare-black.ensures.shared i - c.compare-black.ensures.black i)

pub overflow_sub-white : goal.overflow_sub-white
overflow_sub-white c = placed (goal.at.overflow_sub-white c).After-compare-black

pub overflow_sub-before : goal.overflow_sub-before
overflow_sub-before c = omega (arith, (known (goal.at.overflow_sub-before c).After-compare-black).few)

pub overflow_mul-before-2 : goal.overflow_mul-before-2
overflow_mul-before-2 c = let small = (known (goal.at.overflow_mul-before-2 c).After-compare-black).product in search rules

pub overflow_add-before-2 : goal.overflow_add-before-2
overflow_add-before-2 c =
    let small = (known (goal.at.overflow_add-before-2 c).After-compare-black).product in
    let both = (known (goal.at.overflow_add-before-2 c).After-compare-black).both in
    search rules

pub returns-then-black-self : goal.returns-then-black-self
returns-then-black-self c = omega (arith, ((known (goal.at.returns-then-black-self c).After-compare-black).last c.if-black-self.true).1)

pub returns-else-black-self : goal.returns-else-black-self
returns-else-black-self c = omega (arith, (known (goal.at.returns-else-black-self c).After-compare-black).other c.if-black-self.false)
