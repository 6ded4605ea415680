use Rattle.std.proofs.Common.{◌∙◌, ap, refl, arith}
use Rattle.object_shelf.specs.declared.queue.Entry.{Entry}
use Rattle.object_shelf.specs.Shelves.{released}
use Rattle.object_shelf.specs.Order.{is_ordered}
use Rattle.object_shelf.proofs.Entries.{at-place, at-no-place, got}
use Rattle.object_shelf.proofs.Order.{at-ordered}
use Rattle.object_shelf.proofs.queue.release_in.Goals as goal

pub returns-then-place-len-clause-done : goal.returns-then-place-len-clause-done
returns-then-place-len-clause-done c =
    at-place c.args.path.now released c.args.rows.now.items c.entry_place-place.result c.index_mut.result.now c.release-is_alike.new.entry c.entry_place-place.ensures
    (omega (arith, c.len.ensures, c.if-place-len.true)) c.index_mut.ensures.value c.release-is_alike.ensures.done

pub returns-then-place-len-clause-order : goal.returns-then-place-len-clause-order
returns-then-place-len-clause-order c =
    ap is_ordered (returns-then-place-len-clause-done c) ∙ at-ordered c.args.path.now released c.args.rows.now.items (λ e. refl) ∙ c.requires.ordered

pub returns-else-place-len-clause-done : goal.returns-else-place-len-clause-done
returns-else-place-len-clause-done c =
    at-no-place c.args.path.now released c.args.rows.now.items c.entry_place-place.result c.entry_place-place.ensures
    (omega (arith, c.len.ensures, c.if-place-len.false))

pub returns-then-place-len-clause-clears : goal.returns-then-place-len-clause-clears
returns-then-place-len-clause-clears c =
    let es = c.args.rows.now.items in
    let e = c.index_mut.result.now in
    let get = got es c.entry_place-place.result e (omega (arith, c.len.ensures, c.if-place-len.true)) c.index_mut.ensures.value in
    c.turned.ensures es e get (c.out_at-was_out.ensures.out e get) c.release-is_alike.new.entry
    (ap (λ (x : Entry). x.rights) c.release-is_alike.ensures.done) c.release-is_alike.ensures.alike refl c.requires.clear
