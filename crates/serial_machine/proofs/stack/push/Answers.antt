use Rattle.std.proofs.Common.{sym, subst}
use Rattle.task_machine.specs.steps.Owning.{rights_of}
use Rattle.serial_machine.specs.steps.Levels.{BeginsChild, Passes}
use Rattle.serial_machine.proofs.stack.push.Goals as goal

pub returns : goal.returns
returns c =
    let old = c.args.stack.now.level in
    record {
      parent = c.replace-parent.result;
      waiting = c.in_ok-push.ensures.items;
      passes = subst (λ v. Passes old v (rights_of old.own)) (sym c.replace-parent.ensures.value) c.in_ok-child.ensures.parent;
      child = subst (BeginsChild c.args.code.now c.args.numbers.now old c.args.number) (sym c.replace-parent.ensures.after) c.in_ok-child.ensures.child;
    }
