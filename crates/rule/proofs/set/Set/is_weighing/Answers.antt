use Rattle.std.proofs.Common.{◌≡◌, ap, ◌∙◌, arith, rules}
use Rattle.std.proofs.lemmas.Bool.Decides.{nat_tests}
use Rattle.rule.specs.Coins.{is_weighing}
use Rattle.rule.specs.Digits.{digits, occurs}
use Rattle.rule.proofs.Lasts.{occurs_last, occurs_few}
use Rattle.rule.proofs.set.Set.is_weighing.Goals as goal

pub returns-then-number-self : goal.returns-then-number-self
unfolding is_weighing
returns-then-number-self c = grind (arith, nat_tests)

pub loop-digit-init : goal.loop-digit-init
loop-digit-init c =
    let from = c.into_iter-digit-iterator.ensures.into_iter_gives ∙ c.of-digit-items.ensures in
    record {
      lefts = omega (arith, ap (occurs 1) from, occurs_last 1 c.args.self.now.coins 3 c.args.number);
      rights = omega (arith, ap (occurs 2) from, occurs_last 2 c.args.self.now.coins 3 c.args.number);
    }

pub overflow_add-left : goal.overflow_add-left
overflow_add-left c = let few = occurs_few 3 c.args.number c.args.self.now.coins 1 in search rules

pub overflow_add-right : goal.overflow_add-right
overflow_add-right c = let few = occurs_few 3 c.args.number c.args.self.now.coins 2 in search rules

pub returns-then-left-right : goal.returns-then-left-right
unfolding is_weighing
returns-then-left-right c =
    let left : c.loop-digit.left ≡ occurs 1 (digits c.args.self.now.coins 3 c.args.number) = omega (arith, c.loop-digit.invariant.lefts, ap (occurs 1) c.in-None.ensures.steps.0) in
    let right : c.loop-digit.right ≡ occurs 2 (digits c.args.self.now.coins 3 c.args.number) = omega (arith, c.loop-digit.invariant.rights, ap (occurs 2) c.in-None.ensures.steps.0) in
    grind (arith, nat_tests)

pub returns-else-left-right : goal.returns-else-left-right
unfolding is_weighing
returns-else-left-right c =
    let left : c.loop-digit.left ≡ occurs 1 (digits c.args.self.now.coins 3 c.args.number) = omega (arith, c.loop-digit.invariant.lefts, ap (occurs 1) c.in-None.ensures.steps.0) in
    let right : c.loop-digit.right ≡ occurs 2 (digits c.args.self.now.coins 3 c.args.number) = omega (arith, c.loop-digit.invariant.rights, ap (occurs 2) c.in-None.ensures.steps.0) in
    grind (arith, nat_tests)
