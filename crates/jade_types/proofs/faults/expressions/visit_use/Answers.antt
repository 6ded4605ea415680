use Rattle.std.proofs.Common.{ap, sym, refl, ◌∙◌}
use Rattle.jade_syntax.specs.StaticFaults.{Uses, wrong_use}
use Rattle.jade_types.specs.steps.Meanings.{used}
use Rattle.jade_types.specs.steps.Scoped.{in_scope}
use Rattle.jade_types.proofs.faults.expressions.visit_use.Goals as goal

pub returns : goal.returns
returns c = c.note.ensures (Uses (used c.args.how) c.args.name.now c.args.pos (in_scope c.args.scope.now)) refl
    (sym (c.wrong_use.ensures ∙ ap (wrong_use (used c.args.how)) c.found.ensures))
