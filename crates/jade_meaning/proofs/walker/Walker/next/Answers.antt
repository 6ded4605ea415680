use Rattle.std.proofs.Common.{◌≡◌, subst}
use Rattle.jade_meaning.specs.steps.Perform.{shown}
use Rattle.jade_meaning.specs.Walks.{Walk}
use Rattle.jade_meaning.specs.Walk.{upcoming, First, act_of}
use Rattle.jade_meaning.proofs.Walking.{first_known}
use Rattle.jade_meaning.proofs.walker.Walker.next.Goals as goal

pub returns : goal.returns
returns c =
    subst (λ (w : Walk). First (upcoming w) (λ e. act_of e ≡ c.next_act.result)) c.self.view_is
    (first_known c.self.invariant (λ e. act_of e ≡ c.next_act.result) (c.next_act.ensures (shown c.self.inside.setting) c.self.inside.answers.items))
