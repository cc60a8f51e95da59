use Rattle.std.proofs.Common.{refl}
use Rattle.rule.specs.Pegs.{is_row, pairs, peg_answer}
use Rattle.strategy.proofs.Examples.{in_turn_fits, in_turn_finds, one_peg_refuted, one_peg_least}
use Rattle.strategy.proofs.one_peg_two_colours.Goals as goal

pub returns : goal.returns
unfolding is_row peg_answer pairs
returns c =
    record { two_codes = refl; fits = in_turn_fits; finds = in_turn_finds; costs_most = refl; costs_all = refl; refuted = one_peg_refuted; least = one_peg_least }
