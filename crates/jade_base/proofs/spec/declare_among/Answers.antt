use Rattle.std.proofs.Common.{refl, sym, ap, ◌∙◌}
use Rattle.jade_base.proofs.Entries.{joined-at, joined-new, joined-none, settled-insert, settled-set}
use Rattle.jade_base.proofs.spec.declare_among.Goals as goal

pub returns-in-Ok-clause-joined : goal.returns-in-Ok-clause-joined
returns-in-Ok-clause-joined c =
    let entry = c.settled_entry.ensures in
    joined-at c.args.entries.now.items c.args.object c.args.rights c.in-Ok.place c.index.result.now c.settled_entry.result c.in-Ok.ensures c.index.ensures
    (ap (λ e. e.object.0) entry) (ap (λ e. e.rights) entry ∙ c.join-rights.ensures)

pub returns-in-Ok-clause-settled : goal.returns-in-Ok-clause-settled
returns-in-Ok-clause-settled c =
    settled-set c.args.entries.now.items c.in-Ok.place c.settled_entry.result (rw c.settled_entry.ensures refl)

pub returns-in_ok-insert-in-Err-clause-joined : goal.returns-in_ok-insert-in-Err-clause-joined
returns-in_ok-insert-in-Err-clause-joined c =
    let entry = c.settled_entry-then-any.ensures in
    rw c.in_ok-insert-in-Err.ensures.items (joined-new c.args.entries.now.items c.args.object c.args.rights c.in-Err.place _ c.in-Err.ensures (sym c.any.ensures
    ∙ c.if-any.true) (ap (λ e. e.object) entry) (ap (λ e. e.rights) entry))

pub returns-in_ok-insert-in-Err-clause-settled : goal.returns-in_ok-insert-in-Err-clause-settled
returns-in_ok-insert-in-Err-clause-settled c =
    λ h. rw c.in_ok-insert-in-Err.ensures.items (settled-insert c.args.entries.now.items c.in-Err.place _ (rw c.settled_entry-then-any.ensures refl) h)

pub returns-else-any-clause-joined : goal.returns-else-any-clause-joined
returns-else-any-clause-joined c =
    sym (joined-none c.args.entries.now.items c.args.object c.args.rights c.in-Err.place c.in-Err.ensures (sym c.any.ensures ∙ c.if-any.false))
