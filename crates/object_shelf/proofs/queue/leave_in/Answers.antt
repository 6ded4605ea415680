use Rattle.std.proofs.Common.{◌∙◌, ap, arith}
use Rattle.object_shelf.specs.Order.{is_ordered}
use Rattle.object_shelf.proofs.Entries.{without-place, without-no-place, there-is}
use Rattle.object_shelf.proofs.Order.{without-ordered}
use Rattle.object_shelf.proofs.queue.leave_in.Goals as goal

pub returns-then-place-len-clause-done : goal.returns-then-place-len-clause-done
returns-then-place-len-clause-done c =
    c.take_out.ensures.rest ∙ without-place c.args.path.now c.args.rows.now.items c.entry_place-place.result c.entry_place-place.ensures
    (omega (arith, c.len.ensures, c.if-place-len.true))

pub returns-then-place-len-clause-order : goal.returns-then-place-len-clause-order
returns-then-place-len-clause-order c =
    ap is_ordered (returns-then-place-len-clause-done c) ∙ without-ordered c.args.path.now c.args.rows.now.items c.requires.ordered

pub returns-else-place-len-clause-done : goal.returns-else-place-len-clause-done
returns-else-place-len-clause-done c =
    without-no-place c.args.path.now c.args.rows.now.items c.entry_place-place.result c.entry_place-place.ensures (omega (
      arith,
      c.len.ensures,
      c.if-place-len.false,
    ))

pub returns-then-place-len-clause-clears : goal.returns-then-place-len-clause-clears
returns-then-place-len-clause-clears c =
    let es = c.args.rows.now.items in
    let at = there-is es c.entry_place-place.result (omega (arith, c.len.ensures, c.if-place-len.true)) in
    c.left.ensures es at.0 at.1 (c.out_at-was_out.ensures.out at.0 at.1) c.take_out.ensures.rest c.requires.clear
