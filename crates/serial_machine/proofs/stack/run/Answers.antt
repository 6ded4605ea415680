use Rattle.std.proofs.Common.{ap, ◌∙◌, subst, arith}
use Rattle.task_machine.specs.steps.Holding.{contents_of}
use Rattle.serial_machine.specs.steps.Stack.{Counted}
use Rattle.serial_machine.specs.steps.Levels.{ComesTo}
use Rattle.serial_machine.proofs.stack.run.Goals as goal

pub run-preserved : goal.run-preserved
run-preserved c =
    let on = subst (λ p. ComesTo p c.args.code.now c.args.numbers.now c.run.stack (contents_of c.run.held) c.proceed.new.stack (contents_of c.proceed.new.held))
    c.in-On.is c.in_ok-proceed.ensures in
    let less = on.fewer in
    record {
      fits = on.fits;
      same = c.run.invariant.same ∙ ap (λ (r : Counted). r.comes) (on.same c.args.limit c.run.invariant.within);
      within = omega (arith, less, c.run.invariant.within);
    }
