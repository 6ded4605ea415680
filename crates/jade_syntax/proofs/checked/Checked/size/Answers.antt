use Rattle.jade_syntax.proofs.Faultless.{keeps_limits}
use Rattle.jade_syntax.proofs.checked.Checked.size.Goals as goal

pub size_of-requires-clause-within : goal.size_of-requires-clause-within
size_of-requires-clause-within c = keeps_limits c.self.inside.program c.self.invariant.faultless
