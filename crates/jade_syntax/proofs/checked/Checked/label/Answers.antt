use Rattle.jade_syntax.proofs.Faultless.{keeps_limits}
use Rattle.jade_syntax.proofs.checked.Checked.label.Goals as goal

pub label_of-requires-clause-within : goal.label_of-requires-clause-within
label_of-requires-clause-within c = keeps_limits c.self.inside.program c.self.invariant.faultless
