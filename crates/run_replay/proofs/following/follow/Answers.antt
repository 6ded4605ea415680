use Rattle.std.proofs.Common.{◌≡◌, ◌<◌, ◌≤◌, ℕ, true, false, [], length, arith, refl, sym, ◌∙◌}
use Rattle.jade_meaning.specs.Serial.{Path}
use Rattle.jade_syntax.specs.Image.{program}
use Rattle.jade_meaning.specs.Turns.{Full, turns_in}
use Rattle.schedule_core.specs.Soundness.{turns_of}
use Rattle.run_replay.proofs.Runs.{starts, goes, few, some_in_step, used_up, ended, report_is, full_is, turns_told, seat_there, none_live}
use Rattle.run_replay.proofs.following.follow.Goals as goal

pub events-init : goal.events-init
events-init c =
    starts c.args.checked.now.program c.args.numbers.now c.args.limit (turns_in c.args.turns.now) c.in_ok-core.core c.in_ok-core.ensures

pub returns-in-None-clause-off : goal.returns-in-None-clause-off
returns-in-None-clause-off c = λ e full.
    some_in_step c.args.checked.now.program c.args.numbers.now c.args.limit (turns_in c.args.turns.now) c.events.core c.events.invariant
    c.full_lists_go_on.ensures full (omega (arith, c.live.ensures, c.events-test.true)) c.in-None.ensures

pub next_at-act-requires : goal.next_at-act-requires
next_at-act-requires c = seat_there (turns_in c.args.turns.now) c.events.core.shelves c.events.core.roll c.in-Some.place c.in-Some.ensures

pub go_on_at-requires-clause-within : goal.go_on_at-requires-clause-within
go_on_at-requires-clause-within c = seat_there (turns_in c.args.turns.now) c.events.core.shelves c.events.core.roll c.in-Some.place c.in-Some.ensures

pub events-smaller : goal.events-smaller
events-smaller c =
    let p = c.args.checked.now.program in
    let lists = turns_in c.args.turns.now in
    let step = c.in_ok-go_on_at.ensures.done in
    let on = goes p c.args.numbers.now c.args.limit lists c.events.core c.events.invariant c.in-Some.place c.go_on_at.new.self c.in-Some.ensures step in
    let most = few p c.args.numbers.now c.args.limit lists c.go_on_at.new.self on c.bounded.ensures in
    let one = step.done in
    omega (arith, most, one)

pub events-preserved : goal.events-preserved
events-preserved c =
    goes c.args.checked.now.program c.args.numbers.now c.args.limit (turns_in c.args.turns.now) c.events.core c.events.invariant c.in-Some.place
    c.go_on_at.new.self c.in-Some.ensures c.in_ok-go_on_at.ensures.done

pub returns-then-not-is_used_up-clause-off : goal.returns-then-not-is_used_up-clause-off
returns-then-not-is_used_up-clause-off c = λ e full.
    let over = none_live c.events.core.roll (omega (arith, c.live.ensures, c.events-test.false)) in
    let used = c.if-not-is_used_up.ensures.no (used_up c.args.checked.now.program c.args.numbers.now c.args.limit (turns_in c.args.turns.now) c.events.core
    c.events.invariant c.full_lists_go_on.ensures full over) in
    absurd (cc)

-- the lists are those of the objects
same : (c : goal.In_ok-report) → turns_of c.events.core.shelves ≡ turns_in c.args.turns.now
same c =
    ended c.args.checked.now.program c.args.numbers.now c.args.limit c.args.turns.now c.events.core c.events.invariant c.objects.result
    (c.requires.lists ∙ sym c.objects.ensures) (c.if-not-is_used_up.ensures.yes refl)

pub returns-clause-report : goal.returns-clause-report
returns-clause-report c =
    report_is c.args.checked.now.program c.args.numbers.now c.args.limit c.args.turns.now c.events.core c.events.invariant (same c) c.in_ok-report.report
    c.in_ok-report.ensures.report

full : (c : goal.In_ok-report) → Full (program c.args.checked.now.program) c.args.numbers.now c.args.limit (turns_in c.args.turns.now)
full c =
    full_is c.args.checked.now.program c.args.numbers.now c.args.limit c.args.turns.now c.events.core c.events.invariant (same c) c.in_ok-report.ensures.full

pub returns-clause-turns : goal.returns-clause-turns
returns-clause-turns c =
    turns_told c.args.checked.now.program c.args.numbers.now c.args.limit c.args.turns.now c.requires.lists (full c) c.in_ok-report.report
    (returns-clause-report c)

pub returns-clause-full : goal.returns-clause-full
returns-clause-full c = full c
