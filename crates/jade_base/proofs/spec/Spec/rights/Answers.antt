use Rattle.std.proofs.Common.{sym}
use Rattle.jade_base.specs.Specification.{shown_all}
use Rattle.jade_base.proofs.Entries.{rights-of_there, rights-without, there_from}
use Rattle.jade_base.proofs.spec.Spec.rights.Goals as goal

pub returns-in-Some : goal.returns-in-Some
returns-in-Some c =
    let xs = c.self.inside.entries.items in
    let there = there_from xs c.args.object c.in-Some.place c.self.invariant.0 c.in-Some.ensures in
    rw (← c.self.view_is) (rights-of_there xs c.args.object c.in-Some.place c.index.result.now c.self.invariant.0 there c.index.ensures)

pub returns-in-None : goal.returns-in-None
returns-in-None c =
    rw (← c.self.view_is) (sym (rights-without (shown_all c.self.inside.entries.items) c.args.object 0 c.in-None.ensures))
