use Rattle.std.proofs.Common.{subst}
use Rattle.jade_run.specs.Answered.{RefusedAs}
use Rattle.jade_run.proofs.answer.expanded_tree.Goals as goal

pub returns-in-Err-Refused-clause-refused : goal.returns-in-Err-Refused-clause-refused
returns-in-Err-Refused-clause-refused c =
    let at = c.in-Err-Refused.pos in
    let why = c.in-Err-Refused.why.now in
    (at, (subst (λ t. RefusedAs t at why) c.text.ensures (rw c.in-Err-Refused.field-0-is at c.in-Err-Refused.ensures.refused), c.origin.ensures))
