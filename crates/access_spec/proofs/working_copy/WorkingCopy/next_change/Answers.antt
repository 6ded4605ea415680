use Rattle.access_spec.proofs.Changed.{found, least, none}
use Rattle.access_spec.proofs.working_copy.WorkingCopy.next_change.Goals as goal

pub returns-clause-found : goal.returns-clause-found
returns-clause-found c =
    rw (← c.self.view_is) (found c.next_change_of.result c.self.inside.spec c.args.from c.next_change_of.ensures.drafted c.next_change_of.ensures.ascending
    c.next_change_of.ensures.next)

pub returns-clause-least : goal.returns-clause-least
returns-clause-least c =
    rw (← c.self.view_is) (least c.next_change_of.result c.self.inside.spec c.args.from c.next_change_of.ensures.drafted c.next_change_of.ensures.ascending
    c.next_change_of.ensures.next)

pub returns-clause-none : goal.returns-clause-none
returns-clause-none c =
    rw (← c.self.view_is) (none c.next_change_of.result c.self.inside.spec c.args.from c.next_change_of.ensures.drafted c.next_change_of.ensures.ascending
    c.next_change_of.ensures.next)
