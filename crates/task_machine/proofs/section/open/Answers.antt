use Rattle.std.proofs.Common.{ap, ◌∙◌}
use Rattle.jade_meaning.specs.Course.{Building}
use Rattle.jade_meaning.specs.Spread.{spread}
use Rattle.task_machine.proofs.Sparse.{none_spread}
use Rattle.task_machine.proofs.section.open.Goals as goal

pub returns-clause-draft : goal.returns-clause-draft
returns-clause-draft c =
    ap (λ s. Building (spread c.args.own.now.objects s.entries)) c.clear.ensures ∙ ap Building (none_spread 0 c.args.own.now.objects)
