use Rattle.std.proofs.Common.{arith}
use Rattle.std.proofs.lemmas.Bool.Decides.{nat_tests}
use Rattle.jade_base.proofs.Orders.{path_order-end}
use Rattle.jade_base.proofs.path.compare_lists.Goals as goal

pub returns : goal.returns
returns c =
    let e = path_order-end c.args.left.now c.args.right.now c.loop-i.i (omega arith) in
    grind (arith, nat_tests, e)
