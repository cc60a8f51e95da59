use Rattle.std.proofs.Common.{refl}
use Rattle.house.proofs.Rows.{every_figure}
use Rattle.house.proofs.house_figures.Goals as goal

pub returns : goal.returns
returns c = record { rows = refl; every = every_figure }
