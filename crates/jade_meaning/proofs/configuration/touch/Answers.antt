use Rattle.std.proofs.Common.{◌++◌, ap, ◌∙◌}
use Rattle.jade_base.specs.Rights.{mode_of}
use Rattle.jade_meaning.specs.Specification.{rights_on}
use Rattle.jade_meaning.specs.Talk.{held}
use Rattle.jade_meaning.specs.steps.Configuration.{pending_of}
use Rattle.jade_meaning.proofs.Configurations.{touched_same}
use Rattle.jade_meaning.proofs.configuration.touch.Goals as goal

pub returns-clause-told : goal.returns-clause-told
returns-clause-told c =
    λ t. c.in_ok-add.ensures t
    ∙ ap (λ xs. pending_of t c.args.at.now ++ xs) (c.taken_first.ensures t ∙ touched_same c.on-2.result (held c.args.at.now.holds c.args.object)
    c.mode_of-mode.result (mode_of (rights_on c.args.at.now.spec c.args.object)) c.in_ok-id.id.0 c.args.object c.on-2.ensures (c.mode_of-mode.ensures
    ∙ ap mode_of c.on.ensures) c.in_ok-id.ensures)
