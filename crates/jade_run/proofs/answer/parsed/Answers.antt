use Rattle.std.proofs.Common.{refl}
use Rattle.jade_run.specs.steps.Homes.{at_token, too_long}
use Rattle.jade_run.proofs.answer.parsed.Goals as goal

pub returns-in-Err-Token-clause-refused : goal.returns-in-Err-Token-clause-refused
returns-in-Err-Token-clause-refused c = at_token (rw c.in-Err-Token.field-0-is at c.in-Err-Token.ensures.refused) refl

pub returns-in-Err-Long-clause-refused : goal.returns-in-Err-Long-clause-refused
returns-in-Err-Long-clause-refused c = too_long (rw c.in-Err-Long.field-0-is at c.in-Err-Long.ensures.refused) refl
