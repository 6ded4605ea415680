use Rattle.task_suspend.proofs.Asking.{kept_waiting}
use Rattle.task_suspend.proofs.waiting.Waiting.put.Goals as goal

pub invariant_of-self : goal.invariant_of-self
invariant_of-self g c = record {
  here = kept_waiting c.args.self.now.object.0 c.args.capsule c.args.self.now.line c.put.new.self c.put.result c.requires c.args.self.now.here c.put.ensures;
}
