use Rattle.std.proofs.Common.{◌∙◌, ℕ, List, ◌∷◌, refl, ap, arith}
use Rattle.object_table.specs.Plays.{tried_at, in_turn}
use Rattle.object_table.specs.declared.slot.Slot.{Slot}
use Rattle.object_table.proofs.Goes.{trying}
use Rattle.object_table.proofs.turns.take_turn.Goals as goal

pub overflow_mul-place : goal.overflow_mul-place
overflow_mul-place c =
    let wide = c.requires.laid.wide in
    let few = c.requires.laid.few in
    let lt = c.requires.table.1 in
    record { fits = omega (arith, wide, few, lt) }

pub overflow_add-place : goal.overflow_add-place
overflow_add-place c =
    let wide = c.requires.laid.wide in
    let few = c.requires.laid.few in
    let lt = c.requires.table.1 in
    record { fits = omega (arith, wide, few, lt) }

pub compare_exchange-found-requires : goal.compare_exchange-found-requires
compare_exchange-found-requires c =
    let words = c.args.words.now in
    let wide = c.requires.laid.wide in
    let lt = c.requires.table.1 in (
      c.requires.table.0,
      omega (arith, wide, lt),
      trying words.key words.table_id.slots c.args.seat.now.id c.args.place c.args.seat.now.me lt c.requires.rests.1
          c.requires.ready,
    )

pub returns-then-found-ne0-clause-busy : goal.returns-then-found-ne0-clause-busy
returns-then-found-ne0-clause-busy c =
    let o = c.args.place in
    let told = c.compare_exchange-found.ensures.2 o refl in
    let missed = told.1 (λ e. absurd (let some = c.if-found-ne0.true in omega (arith, e, some))) in
    (missed.0, missed.1 ∙ ap (λ (xs : List (ℕ × Slot)). (tried_at o 1 c.args.seat.now.me.0, xs)) c.requires.rests.0)

pub returns-clause-got : goal.returns-clause-got
returns-clause-got c =
    let o = c.args.place in
    let told = c.compare_exchange-found.ensures.2 o refl in
    let had = told.0 (let none = c.if-found-ne0.false in omega (arith, none)) in (
      had.0,
      record {
        me = had.1 ∙ ap (λ (xs : List (ℕ × Slot)). (in_turn o had.0 c.args.seat.now.me.0, (o, had.0) ∷ xs)) c.requires.rests.0;
        told = had.2;
        roll = had.3;
      },
    )
