use Rattle.jade_run.proofs.Given.{read_as, tokens_refused, not_lexed_is}
use Rattle.jade_run.proofs.answer.tree_of.Goals as goal

pub returns-in-Ok-clause-read : goal.returns-in-Ok-clause-read
returns-in-Ok-clause-read c = read_as c.args.text.now c.in-Ok.tokens c.parsed.result c.in-Ok.ensures.whole c.parsed.ensures.read

pub returns-in-Ok-clause-refused : goal.returns-in-Ok-clause-refused
returns-in-Ok-clause-refused c = tokens_refused c.args.text.now c.in-Ok.tokens c.parsed.result c.in-Ok.ensures.whole c.parsed.ensures.refused

pub returns-in-Err-clause-refused : goal.returns-in-Err-clause-refused
returns-in-Err-clause-refused c = not_lexed_is c.args.text.now c.in-Err.error c.in-Err.ensures.refused
