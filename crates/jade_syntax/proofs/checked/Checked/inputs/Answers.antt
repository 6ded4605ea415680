use Rattle.jade_syntax.proofs.Faultless.{keeps_limits}
use Rattle.jade_syntax.proofs.checked.Checked.inputs.Goals as goal

pub count_inputs-requires : goal.count_inputs-requires
count_inputs-requires c = keeps_limits c.self.inside.program c.self.invariant.faultless
