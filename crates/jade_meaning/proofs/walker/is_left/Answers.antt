use Rattle.std.proofs.Common.{◌≡◌, ◌<◌, length, arith}
use Rattle.jade_meaning.proofs.Walking.{left_ready}
use Rattle.jade_meaning.proofs.walker.is_left.Goals as goal

pub returns-then-told-len : goal.returns-then-told-len
returns-then-told-len c =
    let n : c.args.at.now.pending.len ≡ length c.args.at.now.pending.items = omega (arith, c.args.at.now.pending.ok.0) in
    let lt : c.args.told < length c.args.at.now.pending.items = omega (arith, n) in
    left_ready c.args.at.now.pending.items c.args.told c.args.at.now.stage lt
