use Rattle.std.proofs.Common.{◌-◌, ◌/◌, ◌%◌, sym, ap, ◌∙◌, arith}
use Rattle.std.proofs.lemmas.Nat.{mod_below}
use Rattle.rule.specs.Coins.{pan_digit}
use Rattle.rule.specs.Laws.CoinLaws.{slice_index_digits, three_power}
use Rattle.rule.specs.Laws.Rows.{power_positive}
use Rattle.rule.proofs.Pans.{digit_of_pan}
use Rattle.rule.proofs.set.Set.pan.Goals as goal

pub pow-requires : goal.pow-requires
pow-requires c = omega (arith, three_power (c.args.self.now.coins - 1 - c.args.coin) (omega arith))

pub nonzero_div-weighing : goal.nonzero_div-weighing
nonzero_div-weighing c = omega (arith, c.pow.ensures, power_positive 3 (c.args.self.now.coins - 1 - c.args.coin) (omega arith))

pub returns : goal.returns
returns c =
    ap pan_digit c.of_digit.ensures
    ∙ digit_of_pan (c.args.weighing / c.pow.result % 3) (mod_below (c.args.weighing / c.pow.result) 3 (omega arith))
    ∙ ap (λ z. (c.args.weighing / z) % 3) c.pow.ensures
    ∙ sym (slice_index_digits c.args.self.now.coins 3 c.args.weighing c.args.coin (omega arith))
