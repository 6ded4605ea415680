use Rattle.std.proofs.Common.{sym, ◌∙◌, arith}
use Rattle.task_machine.specs.Machines.{candidates, is_to_move}
use Rattle.task_machine.proofs.Searching.{first_is_least, none_is_left, is_candidate, is_object}
use Rattle.task_machine.proofs.next.search.Goals as goal

pub objects-init : goal.objects-init
objects-init c i x lt h = c.requires x.0 (c.start_from-first.ensures i x lt h)

pub returns-then-moves-clause-found : goal.returns-then-moves-clause-found
returns-then-moves-clause-found c =
    let e = c.args.execution.now in
    let p = c.args.phase in
    let ds = c.args.due.now in
    first_is_least (is_to_move p e ds) (candidates p e) e.stage.objects c.objects.place c.candidate-object.result c.count-place-end.ensures.ascend
    (is_candidate e p ds) (is_object e p ds) c.candidate-object.ensures c.objects.invariant (sym c.moves.ensures ∙ c.if-moves.true)

pub returns-clause-none : goal.returns-clause-none
returns-clause-none c =
    let e = c.args.execution.now in
    let p = c.args.phase in
    let ds = c.args.due.now in
    none_is_left (is_to_move p e ds) (candidates p e) e.stage.objects c.objects.place (is_candidate e p ds)
    (omega (arith, c.objects-test.false, c.count-place-end.ensures.count)) c.objects.invariant
