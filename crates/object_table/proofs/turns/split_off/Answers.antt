use Rattle.std.proofs.Common.{rules, ◌≡◌, ◌+◌, ◌-◌, ◌/◌, ◌∷◌, ◌++◌, [], false, Some, refl, ap, ◌∙◌, arith}
use Rattle.object_table.specs.declared.task.Task.{Task}
use Rattle.object_table.proofs.RollCalls.{youngest, has_child, may_share, may_split, parent_rests, parent_shown, child_rests, child_shown}
use Rattle.object_table.proofs.turns.split_off.Goals as goal

pub split_seat-seat-requires : goal.split_seat-seat-requires
split_seat-seat-requires c =
    let t = c.args.task.now in
    let r = c.requires.rests in
    let wide = c.requires.laid.wide in
    let deep = c.requires.laid.deep in
    (c.requires.mark, omega (arith, wide, deep), may_split t r c.requires.kid.0 c.requires.kid.1 c.args.words.now.key t.seat.id c.requires.live)

pub overflow_sub-task : goal.overflow_sub-task
overflow_sub-task c =
    let h = has_child c.args.task.now c.requires.rests c.requires.kid.0 c.requires.kid.1 in
    omega (arith, h)

pub overflow_sub-task-2 : goal.overflow_sub-task-2
overflow_sub-task-2 c = may_share c.args.task.now c.requires.rests c.requires.kid.0 c.requires.kid.1

pub returns-clause-rests : goal.returns-clause-rests
returns-clause-rests c =
    parent_rests c.args.task.now c.requires.rests c.requires.kid.0 c.requires.kid.1 c.split_seat-seat.new.seat c.split_seat-seat.ensures.2

pub returns-clause-parent : goal.returns-clause-parent
returns-clause-parent c =
    parent_shown c.args.task.now c.requires.rests c.requires.kid.0 c.requires.kid.1 c.split_seat-seat.new.seat c.split_seat-seat.ensures.2

pub returns-clause-child : goal.returns-clause-child
returns-clause-child c =
    let t = c.args.task.now in
    let r = c.requires.rests in
    let baby = c.requires.kid.0 in
    let waits = c.requires.kid.1 in
    let h = has_child t r baby waits in
    let seat = c.split_seat-seat.result in
    let number = (youngest t r baby waits).number in
    let same : t.children - 1 ≡ number = omega (arith, h) in
    let path : c.in_ok-path.path ≡ t.path ++ (t.children - 1) ∷ [] = search rules in
    let kid : Task = record {
      seat = seat;
      path = c.in_ok-path.path;
      spare = Some c.in_ok-spare.spare;
      tickets = 1 + t.tickets / 16;
      notes = c.none.result;
      children = 0;
      events = 0;
      touched = 0;
      over = false;
    } in
    let twice : kid.spare ≡ Some kid.path = ap (λ p. Some p) c.in_ok-spare.ensures in
    let is = c.split_seat-seat.ensures.4 in
    let at = path ∙ ap (λ n. t.path ++ n ∷ []) same in (
      c.split_seat-seat.ensures.3,
      child_rests t r baby waits kid is at twice refl (refl, refl) refl refl c.none.ensures,
      child_shown t r baby waits kid is at twice refl (refl, refl) refl refl c.none.ensures,
    )
