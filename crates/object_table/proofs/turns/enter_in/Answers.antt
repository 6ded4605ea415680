use Rattle.std.proofs.Common.{List, ◌≡◌, length, ap, sym, ◌∙◌}
use Rattle.object_shelf.specs.declared.queue.Entry.{Entry}
use Rattle.object_shelf.specs.Order.{fitted_in}
use Rattle.object_shelf.proofs.Wholes.{same-length}
use Rattle.object_table.specs.declared.slot.Slot.TheVariants.{Object}
use Rattle.object_table.proofs.turns.enter_in.Goals as goal

pub returns-then-len-before : goal.returns-then-len-before
returns-then-len-before c =
    let es = c.args.shelf.now.queue in
    let l : length (fitted_in c.args.parent.now c.args.child c.args.rights es) ≡ length es =
    sym (ap (λ s. length s.queue) c.in_ok-enter.ensures.done) ∙ sym c.len.ensures ∙ c.if-len-before.true ∙ c.len-before.ensures in
    ap Object (c.in_ok-enter.ensures.done ∙ ap (λ (q : List Entry). record c.args.shelf.now {
      queue =
          q;
    }) (same-length c.args.parent.now c.args.child c.args.rights es l))
