use Rattle.std.proofs.Common.{arith}
use Rattle.proc_expand.proofs.Heads.{curly_within, known_curly, curly_ends}
use Rattle.proc_expand.proofs.procedures.body_end.Goals as goal

pub bounds-ends-head : goal.bounds-ends-head
bounds-ends-head c =
    let l = curly_within c.args.signs.now c.args.ends.now c.args.head.stop c.requires.ends c.requires.opens in
    let m = c.requires.ends.as_many in omega (arith, l, m)

pub returns-clause-value : goal.returns-clause-value
returns-clause-value c = known_curly c.args.signs.now c.args.ends.now c.args.head.stop c.requires.ends c.requires.opens

pub returns-clause-within : goal.returns-clause-within
returns-clause-within c = curly_ends c.args.signs.now c.args.ends.now c.args.head.stop c.requires.ends c.requires.opens
