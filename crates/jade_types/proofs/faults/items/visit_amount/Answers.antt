use Rattle.std.proofs.Common.{ap, sym, not, refl}
use Rattle.jade_syntax.specs.declared.static_fault.StaticKind.TheVariants as fault
use Rattle.jade_syntax.specs.StaticFaults.{Amounts, when}
use Rattle.jade_types.proofs.faults.items.visit_amount.Goals as goal

pub returns : goal.returns
returns c = c.note_when.ensures (Amounts c.args.most c.args.number.now) refl (ap (λ b. when (not b) fault.Size) (sym c.is_amount.ensures))
