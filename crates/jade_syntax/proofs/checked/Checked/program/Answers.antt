use Rattle.std.proofs.Common.{◌≡◌, true, subst}
use Rattle.jade_syntax.specs.CheckedProgram.{CheckedProgram}
use Rattle.jade_syntax.specs.Limits.{within_limits}
use Rattle.jade_syntax.proofs.Faultless.{keeps_limits}
use Rattle.jade_syntax.proofs.checked.Checked.program.Goals as goal

pub returns-clause-limits : goal.returns-clause-limits
returns-clause-limits c =
    let P : CheckedProgram → Type 0 = λ x. within_limits x.program.items ≡ true in
    subst P c.self.view_is (keeps_limits c.self.inside.program c.self.invariant.faultless)
