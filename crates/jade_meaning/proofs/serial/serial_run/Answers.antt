use Rattle.std.proofs.Common.{◌≤◌, sym, subst, length}
use Rattle.jade_syntax.specs.declared.objects.TheConstants.{OBJECT_LIMIT}
use Rattle.jade_syntax.specs.declared.tree.Program.{Program}
use Rattle.jade_syntax.specs.Objects.{sizes}
use Rattle.jade_syntax.proofs.Limits.{limits}
use Rattle.jade_meaning.proofs.serial.serial_run.Goals as goal

pub serial_program-requires-clause-objects : goal.serial_program-requires-clause-objects
serial_program-requires-clause-objects c =
    let P : Program → Type 0 = λ p. length (sizes p.items) ≤ OBJECT_LIMIT in
    subst P (sym c.program.ensures.program) (limits c.args.checked.now.program.items c.program.ensures.limits).objects
