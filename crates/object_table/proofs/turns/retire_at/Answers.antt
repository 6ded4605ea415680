use Rattle.std.proofs.Common.{◌≡◌, ℕ, List, Option, Some, [], ◌<◌, ◌+◌, ◌-◌, ◌++◌, ◌∷◌, ◌^◌, ◌∙◌, length, refl, sym, subst, arith}
use Rattle.std.specs.Prelude.{IsSome}
use Rattle.task_roll.specs.declared.note.PartNote.{PartNote}
use Rattle.object_table.specs.steps.Kept.{shown}
use Rattle.object_table.proofs.AtRoll.{looking}
use Rattle.object_table.proofs.Calls.{alive}
use Rattle.object_table.proofs.RollCalls.{may_resign, has_ticket, may_join, joined_is, joined_rests, joined_shown, notes_fit, tickets_fit}
use Rattle.object_table.proofs.Retiring.{last, last_rests, last_ended, last_gone, one_more}
use Rattle.object_table.proofs.turns.retire_at.Goals as goal

some_path : (p q : List ℕ) → ◌≡◌ {A = Option (List ℕ)} (Some p) (Some q) → p ≡ q
some_path p q e = cc

pub taken_out-spare-requires : goal.taken_out-spare-requires
taken_out-spare-requires c =
    let u = c.args.task in
    subst IsSome (sym (c.requires.rests.1.spare (alive u c.requires.rests.1 _ c.requires.next))) refl

pub load-requires : goal.load-requires
load-requires c =
    let words = c.args.words.now in
    let u = c.args.task in
    let wide = c.requires.laid.wide in
    let deep = c.requires.laid.deep in (
      c.requires.mark.1,
      omega (arith, wide, deep),
      may_resign u c.requires.rests.1 words.key (c.core_laws.ensures words.key) words.table_id.slots c.args.blame c.args.steps c.requires.next u.seat.id,
    )

pub join_seat-requires : goal.join_seat-requires
join_seat-requires c =
    let words = c.args.words.now in
    let t = c.args.keeper.now in
    let u = c.args.task in
    let laws = c.core_laws.ensures words.key in
    let wide = c.requires.laid.wide in
    let deep = c.requires.laid.deep in
    let seat = c.load.new.seat in
    let did = c.load.ensures.2 in
    let q = c.requires.rests.1 in
    let rests = last_rests u q words.key laws words.table_id.slots c.args.blame c.args.steps c.requires.next c.load.result seat did in
    let gone = last_gone u q words.key laws words.table_id.slots c.args.blame c.args.steps c.requires.next c.load.result seat did in (
      c.requires.mark.0,
      c.load.ensures.0 ∙ c.requires.mark.1,
      rests.holds,
      omega (arith, wide, deep),
      may_join t c.requires.rests.0 (last u q words.key laws words.table_id.slots c.args.blame c.args.steps c.requires.next c.load.result seat did) rests
          c.requires.gone gone words.key laws t.seat.id seat.id,
    )

pub load-requires-2 : goal.load-requires-2
load-requires-2 c =
    let words = c.args.words.now in
    let wide = c.requires.laid.wide in
    let deep = c.requires.laid.deep in (
      c.join_seat.ensures.0 ∙ c.requires.mark.0,
      omega (arith, wide, deep),
      looking words.key words.table_id.slots c.join_seat.new.seat.id c.join_seat.new.seat.me,
    )

pub overflow_sub-keeper : goal.overflow_sub-keeper
overflow_sub-keeper c =
    let words = c.args.words.now in
    has_ticket c.args.task c.requires.rests.1 words.key (c.core_laws.ensures words.key) words.table_id.slots c.args.blame c.args.steps c.requires.next

pub overflow_add-keeper : goal.overflow_add-keeper
overflow_add-keeper c =
    let words = c.args.words.now in
    let t = c.args.keeper.now in
    let u = c.args.task in
    let laws = c.core_laws.ensures words.key in
    let seat = c.load.new.seat in
    let did = c.load.ensures.2 in
    let q = c.requires.rests.1 in
    let f = tickets_fit t c.requires.rests.0 (last u q words.key laws words.table_id.slots c.args.blame c.args.steps c.requires.next c.load.result seat did)
    (last_rests u q words.key laws words.table_id.slots c.args.blame c.args.steps c.requires.next c.load.result seat did) c.requires.gone
    (last_gone u q words.key laws words.table_id.slots c.args.blame c.args.steps c.requires.next c.load.result seat did) words.table_id.slots c.load-2.result
    c.join_seat.new.seat c.load-2.new.seat c.join_seat.ensures.2 c.load-2.ensures.2 in
    omega (arith, f)

pub append_last-requires : goal.append_last-requires
append_last-requires c =
    let words = c.args.words.now in
    let t = c.args.keeper.now in
    let u = c.args.task in
    let laws = c.core_laws.ensures words.key in
    let seat = c.load.new.seat in
    let did = c.load.ensures.2 in
    let q = c.requires.rests.1 in
    let f = notes_fit t c.requires.rests.0 (last u q words.key laws words.table_id.slots c.args.blame c.args.steps c.requires.next c.load.result seat did)
    (last_rests u q words.key laws words.table_id.slots c.args.blame c.args.steps c.requires.next c.load.result seat did) c.requires.gone
    (last_gone u q words.key laws words.table_id.slots c.args.blame c.args.steps c.requires.next c.load.result seat did) words.table_id.slots c.load-2.result
    c.join_seat.new.seat c.load-2.new.seat c.join_seat.ensures.2 c.load-2.ensures.2 in
    let n : PartNote = record { path = u.path; children = u.children; steps = c.args.steps; blame = c.args.blame } in
    let more = one_more u.notes n in
    omega (arith, f, more)

pub returns-clause-rests : goal.returns-clause-rests
returns-clause-rests c =
    let words = c.args.words.now in
    let t = c.args.keeper.now in
    let u = c.args.task in
    let laws = c.core_laws.ensures words.key in
    let seat = c.load.new.seat in
    let did = c.load.ensures.2 in
    let r = c.requires.rests.0 in
    let q = c.requires.rests.1 in
    let end = last u q words.key laws words.table_id.slots c.args.blame c.args.steps c.requires.next c.load.result seat did in
    let rests = last_rests u q words.key laws words.table_id.slots c.args.blame c.args.steps c.requires.next c.load.result seat did in
    let gone = last_gone u q words.key laws words.table_id.slots c.args.blame c.args.steps c.requires.next c.load.result seat did in
    let is : c.taken_out-spare.result ≡ u.path = some_path _ _ (sym c.taken_out-spare.ensures ∙ q.spare (alive u q _ c.requires.next)) in
    let added = c.append_last.ensures
    ∙ λ i. t.notes ++ (u.notes ++ record { path = is i; children = u.children; steps = c.args.steps; blame = c.args.blame } ∷ []) in
    joined_rests t r end rests c.requires.gone gone c.load-2.new.seat
    (joined_is t r end rests c.requires.gone gone words.table_id.slots c.load-2.result c.join_seat.new.seat c.load-2.new.seat c.join_seat.ensures.2 c.load-2.ensures.2)
    c.either-keeper.result c.either-keeper.ensures _ refl _ added

pub returns-clause-done : goal.returns-clause-done
returns-clause-done c =
    let words = c.args.words.now in
    let t = c.args.keeper.now in
    let u = c.args.task in
    let laws = c.core_laws.ensures words.key in
    let seat = c.load.new.seat in
    let did = c.load.ensures.2 in
    let r = c.requires.rests.0 in
    let q = c.requires.rests.1 in
    let end = last u q words.key laws words.table_id.slots c.args.blame c.args.steps c.requires.next c.load.result seat did in
    let rests = last_rests u q words.key laws words.table_id.slots c.args.blame c.args.steps c.requires.next c.load.result seat did in
    let gone = last_gone u q words.key laws words.table_id.slots c.args.blame c.args.steps c.requires.next c.load.result seat did in
    let is : c.taken_out-spare.result ≡ u.path = some_path _ _ (sym c.taken_out-spare.ensures ∙ q.spare (alive u q _ c.requires.next)) in
    let added = c.append_last.ensures
    ∙ λ i. t.notes ++ (u.notes ++ record { path = is i; children = u.children; steps = c.args.steps; blame = c.args.blame } ∷ []) in
    record {
      last = shown end;
      ended = last_ended u q words.key laws words.table_id.slots c.args.blame c.args.steps c.requires.next c.load.result seat did;
      after = joined_shown t r end rests c.requires.gone gone c.load-2.new.seat
          (joined_is t r end rests c.requires.gone gone words.table_id.slots c.load-2.result c.join_seat.new.seat c.load-2.new.seat c.join_seat.ensures.2
          c.load-2.ensures.2)
          c.either-keeper.result c.either-keeper.ensures (t.tickets + (u.tickets - 1)) refl c.append_last.new.self added;
    }
