use Rattle.std.proofs.Common.{arith}
use Rattle.spec_cover.proofs.Merged.{enough-here, enough-later, first_uncovered-turn}
use Rattle.spec_cover.proofs.cover.merged.Goals as goal

pub granted_from-next-requires : goal.granted_from-next-requires
granted_from-next-requires c = record {
  enough = enough-here c.args.parent.now.entries c.args.child.now.entries c.loop-i.i c.loop-i.place c.entry.result c.entry.ensures c.loop-i.invariant.enough;
}

pub returns-then-not-covers-clause-first : goal.returns-then-not-covers-clause-first
returns-then-not-covers-clause-first c =
    let turn = first_uncovered-turn c.args.parent.now.entries c.args.child.now.entries c.loop-i.i c.entry.result c.entry.ensures in
    grind (arith, turn)

pub loop-i-preserved : goal.loop-i-preserved
loop-i-preserved c =
    let turn = first_uncovered-turn c.args.parent.now.entries c.args.child.now.entries c.loop-i.i c.entry.result c.entry.ensures in
    record {
      rest = grind (arith, turn);
      enough = enough-later c.args.parent.now.entries c.args.child.now.entries c.loop-i.i c.granted_from-next.result.0 c.entry.result
          c.len-i-end.ensures.ascending c.entry.ensures c.granted_from-next.ensures.enough;
    }
