use Rattle.std.proofs.Common.{sym, subst}
use Rattle.proc_expand.specs.steps.Replaced.{AreFree}
use Rattle.proc_expand.proofs.FreeNumbers.{none_free}
use Rattle.proc_expand.proofs.pen.new_pen.Goals as goal

pub returns-clause-pen : goal.returns-clause-pen
returns-clause-pen c = λ names. record { sheet = c.blank.ensures.sheet; free = subst (AreFree names) (sym c.new.ensures.items) (none_free names) }
