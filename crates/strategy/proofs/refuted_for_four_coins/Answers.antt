use Rattle.std.proofs.Common.{refl, lit≤}
use Rattle.rule.specs.Coins.{is_weighing}
use Rattle.strategy.proofs.Examples.{four_coins_refuted, four_coins_least}
use Rattle.strategy.proofs.refuted_for_four_coins.Goals as goal

pub returns : goal.returns
unfolding is_weighing
returns c = record { value = refl; refuted = record { eight_codes = refl; weighings = refl; places_enough = lit≤ tt; refuted = four_coins_refuted; least = four_coins_least } }
