use Rattle.std.proofs.Common.{◌&&◌, ◌==◌, length, slice_index, sym, ap, refl, ◌∙◌, arith, rules}
use Rattle.rule.specs.Digits.{digits}
use Rattle.rule.specs.Laws.Rows.{digits_below}
use Rattle.rule.proofs.Lasts.{tallied_start, tallied_as, tallied_more, tallied_whole, occurs_few, once_more, differ, below_wider}
use Rattle.rule.proofs.board.Board.all_different.Goals as goal

pub loop-colour-init : goal.loop-colour-init
loop-colour-init c =
    record {
      counted = tallied_as (sym (c.into_iter-colour-iterator.ensures.into_iter_gives ∙ c.row-colour-items.ensures.value)) (tallied_start c.args.self.now.pegs c.args.self.now.colours c.args.number (omega arith) (omega arith));
      once = refl;
    }

pub overflow_add-counts : goal.overflow_add-counts
overflow_add-counts c =
    let t = tallied_as c.in-Some.ensures.steps c.loop-colour.invariant.counted in
    let few = occurs_few c.args.self.now.colours c.args.number c.args.self.now.pegs c.in-Some.colour in
    let each = t.each c.in-Some.colour t.below.0 in
    search rules

pub loop-colour-preserved : goal.loop-colour-preserved
loop-colour-preserved c =
    let t = tallied_as c.in-Some.ensures.steps c.loop-colour.invariant.counted in
    record {
      counted = tallied_more c.in-Some.colour t;
      once = ap (λ b. b && slice_index c.loop-colour.counts c.in-Some.colour == 0) c.loop-colour.invariant.once ∙ sym (once_more c.loop-colour.counts c.in-Some.colour (omega (arith, t.ten, t.below.0)));
    }

pub returns : goal.returns
returns c =
    let row = digits c.args.self.now.pegs c.args.self.now.colours c.args.number in
    let below = below_wider c.args.self.now.colours 10 row (omega arith) (digits_below c.args.self.now.pegs c.args.self.now.colours c.args.number (omega arith)) in
    c.loop-colour.invariant.once
    ∙ differ row c.loop-colour.counts c.loop-colour.invariant.counted.ten (tallied_whole c.loop-colour.invariant.counted (ap length c.in-None.ensures.steps.0)) below
