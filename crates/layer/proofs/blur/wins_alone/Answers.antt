use Rattle.std.proofs.Common.{◌-◌, length, arith}
use Rattle.layer.proofs.Bytes.{last_alone}
use Rattle.layer.proofs.blur.wins_alone.Goals as goal

pub returns-then-last-win : goal.returns-then-last-win
returns-then-last-win c =
    let alone = last_alone c.args.bytes.now c.args.win (length c.args.bytes.now - 1) (omega arith) c.if-last-win.true in
    cc
