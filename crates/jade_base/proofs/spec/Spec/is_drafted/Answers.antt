use Rattle.jade_base.proofs.Drafts.{settled-is}
use Rattle.jade_base.proofs.spec.Spec.is_drafted.Goals as goal

pub returns : goal.returns
returns c =
    λ q. rw (← c.self.view_is) (settled-is c.self.inside.entries.items (c.self.invariant.1 q))
