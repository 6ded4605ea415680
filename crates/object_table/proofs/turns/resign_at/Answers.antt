use Rattle.std.proofs.Common.{◌≡◌, ℕ, List, Option, Some, ◌+◌, ◌-◌, ◌<◌, ◌^◌, ◌++◌, ◌∷◌, [], length, refl, sym, ap, ◌∙◌, subst, arith}
use Rattle.std.specs.Prelude.{IsSome}
use Rattle.atomic_table.specs.declared.shared.Seat.{Seat as SeatOf}
use Rattle.object_table.specs.Views.{View}
use Rattle.object_table.specs.Plays.{note_after}
use Rattle.object_table.specs.steps.Kept.{shown}
use Rattle.object_table.specs.declared.slot.Slot.{Slot}
use Rattle.object_table.proofs.Calls.{alive}
use Rattle.object_table.proofs.RollCalls.{one_fits, may_resign, has_ticket, resigned_is, resigned_rests, resigned_shown}
use Rattle.object_table.proofs.turns.resign_at.Goals as goal

some_path : (p q : List ℕ) → ◌≡◌ {A = Option (List ℕ)} (Some p) (Some q) → p ≡ q
some_path p q e = cc

pub taken_out-spare-requires : goal.taken_out-spare-requires
taken_out-spare-requires c =
    subst IsSome (sym (c.requires.rests.spare (alive c.args.task.now c.requires.rests _ c.requires.next))) refl

pub load-requires : goal.load-requires
load-requires c =
    let words = c.args.words.now in
    let wide = c.requires.laid.wide in
    let deep = c.requires.laid.deep in (
      c.requires.mark,
      omega (arith, wide, deep),
      may_resign c.args.task.now c.requires.rests words.key (c.core_laws.ensures words.key) words.table_id.slots c.args.blame c.args.steps c.requires.next
          c.args.task.now.seat.id,
    )

pub overflow_sub-task : goal.overflow_sub-task
overflow_sub-task c =
    let words = c.args.words.now in
    let some = has_ticket c.args.task.now c.requires.rests words.key (c.core_laws.ensures words.key) words.table_id.slots c.args.blame c.args.steps c.requires.next in
    let same = c.settle.ensures.purse.0 in
    omega (arith, some, same)

pub push-requires : goal.push-requires
push-requires c =
    let words = c.args.words.now in
    let t = c.args.task.now in
    let r = c.requires.rests in
    let e = resigned_is t r words.key (c.core_laws.ensures words.key) words.table_id.slots c.args.blame c.args.steps c.requires.next c.load.result
    c.load.new.seat.me c.load.ensures.2 in
    let fits = one_fits t r (note_after (shown t) c.args.steps c.args.blame) c.load.new.seat.me.0 (λ i. (e.0 i).0.notes) e.1 in
    subst (λ ns. length ns + 1 < 2 ^ 63) (sym c.settle.ensures.purse.1) fits

pub returns-clause-rests : goal.returns-clause-rests
returns-clause-rests c =
    let words = c.args.words.now in
    let t = c.args.task.now in
    let r = c.requires.rests in
    let s = c.settle.ensures in
    let some = has_ticket t r words.key (c.core_laws.ensures words.key) words.table_id.slots c.args.blame c.args.steps c.requires.next in
    let same = s.purse.0 in
    let is : c.taken_out-spare.result ≡ t.path = some_path _ _ (sym c.taken_out-spare.ensures ∙ r.spare (alive t r _ c.requires.next)) in
    let e = resigned_is t r words.key (c.core_laws.ensures words.key) words.table_id.slots c.args.blame c.args.steps c.requires.next c.load.result
    c.load.new.seat.me c.load.ensures.2 in
    resigned_rests t r words.key (c.core_laws.ensures words.key) words.table_id.slots c.args.blame c.args.steps c.requires.next _
    (ap (λ (q : SeatOf Slot View). q.me) s.seat ∙ e.0) s.events s.path.0 s.path.1 s.path.2 (omega (arith, some, same))
    (c.push.ensures ∙ λ i. s.purse.1 i ++ record { path = is i; children = s.path.1 i; steps = c.args.steps; blame = c.args.blame } ∷ [])

pub returns-clause-done : goal.returns-clause-done
returns-clause-done c =
    let words = c.args.words.now in
    let t = c.args.task.now in
    let r = c.requires.rests in
    let s = c.settle.ensures in
    let e = resigned_is t r words.key (c.core_laws.ensures words.key) words.table_id.slots c.args.blame c.args.steps c.requires.next c.load.result
    c.load.new.seat.me c.load.ensures.2 in
    resigned_shown t r words.key (c.core_laws.ensures words.key) words.table_id.slots c.args.blame c.args.steps c.requires.next
    (record c.settle.new.task { tickets = c.settle.new.task.tickets - 1; notes = c.push.new.self }) (ap (λ (q : SeatOf Slot View). q.me) s.seat ∙ e.0) s.events
    e.2
