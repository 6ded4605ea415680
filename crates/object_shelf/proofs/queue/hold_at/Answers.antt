use Rattle.std.proofs.Common.{◌∙◌, ap, refl, arith}
use Rattle.object_shelf.specs.declared.queue.Entry.{Entry}
use Rattle.object_shelf.specs.Shelves.{held_with}
use Rattle.object_shelf.specs.Order.{is_ordered}
use Rattle.object_shelf.proofs.Entries.{got}
use Rattle.object_shelf.proofs.Places.{nth-set, nth-past, nth-ordered}
use Rattle.object_shelf.proofs.queue.hold_at.Goals as goal

pub returns-then-place-len-clause-done : goal.returns-then-place-len-clause-done
returns-then-place-len-clause-done c =
    nth-set c.args.place (held_with c.args.mode c.args.fresh) c.args.rows.now.items c.index_mut.result.now c.hold-is_alike.new.entry
    (omega (arith, c.len.ensures, c.if-place-len.true)) c.index_mut.ensures.value c.hold-is_alike.ensures.done

pub returns-then-place-len-clause-order : goal.returns-then-place-len-clause-order
returns-then-place-len-clause-order c =
    ap is_ordered (returns-then-place-len-clause-done c) ∙ nth-ordered c.args.place (held_with c.args.mode c.args.fresh) c.args.rows.now.items (λ e. refl) ∙
    c.requires.ordered

pub returns-else-place-len-clause-done : goal.returns-else-place-len-clause-done
returns-else-place-len-clause-done c =
    nth-past c.args.place (held_with c.args.mode c.args.fresh) c.args.rows.now.items (omega (arith, c.len.ensures, c.if-place-len.false))

pub returns-then-place-len-clause-clears : goal.returns-then-place-len-clause-clears
returns-then-place-len-clause-clears c =
    let es = c.args.rows.now.items in
    let e = c.index_mut.result.now in
    let get = got es c.args.place e (omega (arith, c.len.ensures, c.if-place-len.true)) c.index_mut.ensures.value in
    c.turned.ensures es e get (c.out_at-was_out.ensures.out e get) c.hold-is_alike.new.entry (ap (λ (x : Entry). x.rights) c.hold-is_alike.ensures.done)
    c.hold-is_alike.ensures.alike refl c.requires.clear
