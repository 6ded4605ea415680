use Rattle.proc_expand.proofs.CallFacts.{known_call, ends_within}
use Rattle.proc_expand.proofs.calls.call_end.Goals as goal

pub returns-clause-value : goal.returns-clause-value
returns-clause-value c = known_call c.args.signs.now c.args.ends.now c.args.call c.requires.ends c.requires.call

pub returns-clause-within : goal.returns-clause-within
returns-clause-within c =
    ends_within c.args.signs.now c.args.call _ (known_call c.args.signs.now c.args.ends.now c.args.call c.requires.ends c.requires.call) c.requires.call
