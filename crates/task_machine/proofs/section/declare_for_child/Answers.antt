use Rattle.task_machine.proofs.Sparse.{joined_spread}
use Rattle.task_machine.proofs.section.declare_for_child.Goals as goal

pub returns-clause-spread : goal.returns-clause-spread
returns-clause-spread c =
    let w = c.args.own.now in
    joined_spread w.objects w.child.entries c.declare.new.self.entries c.args.object c.args.rights c.requires c.in_ok-declare.ensures.here
    c.in_ok-declare.ensures.elsewhere
