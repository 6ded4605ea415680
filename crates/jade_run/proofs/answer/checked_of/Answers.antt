use Rattle.jade_run.proofs.Calls.{unread_for}
use Rattle.jade_run.proofs.answer.checked_of.Goals as goal

pub returns-in-Err-clause-refused : goal.returns-in-Err-clause-refused
returns-in-Err-clause-refused c = unread_for c.args.text.now c.in-Err.error c.in-Err.ensures.refused
