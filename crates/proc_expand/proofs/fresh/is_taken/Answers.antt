use Rattle.std.proofs.Common.{sym, ◌∙◌}
use Rattle.proc_expand.proofs.TakenNames.{known_among}
use Rattle.proc_expand.proofs.fresh.is_taken.Goals as goal

pub returns : goal.returns
returns c = c.is_known.ensures ∙ sym (known_among c.args.taken.now c.args.number)
