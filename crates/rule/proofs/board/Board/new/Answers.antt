use Rattle.std.proofs.Common.{◌^◌, ◌≤◌, arith, lit<}
use Rattle.std.proofs.lemmas.Bool.Decides.{nat_tests}
use Rattle.std.proofs.Math.Nat.{pow-le-pow_left, pow-le-pow_right}
use Rattle.rule.proofs.board.Board.new.Goals as goal

pub pow-bound-requires : goal.pow-bound-requires
pow-bound-requires c =
    let colours : c.args.colours ≤ 10 = grind (arith, nat_tests) in
    let pegs : c.args.pegs ≤ 6 = grind (arith, nat_tests) in
    let wide : c.args.colours ^ c.args.pegs ≤ 10 ^ c.args.pegs = pow-le-pow_left colours c.args.pegs in
    let long : 10 ^ c.args.pegs ≤ 1000000 = pow-le-pow_right (lit< tt) pegs in
    omega arith
