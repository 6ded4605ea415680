use Rattle.std.proofs.Common.{ap, sym, refl}
use Rattle.jade_syntax.specs.declared.static_fault.StaticKind.TheVariants as fault
use Rattle.jade_syntax.specs.StaticFaults.{Declares, when}
use Rattle.jade_types.proofs.faults.notes.Notes.declares.Goals as goal

pub returns : goal.returns
returns c = λ x names h. c.note_when.ensures (Declares x c.args.pos names) refl (ap (λ b. when b fault.Twice) (sym h))
