use Rattle.std.proofs.lemmas.Result.{IfOk-weaker}
use Rattle.jade_layout.proofs.Adding.{laid_out}
use Rattle.jade_layout.proofs.statements.print_program.Goals as goal

pub returns : goal.returns
returns c =
    IfOk-weaker c.finish.result _ _ (λ text e. laid_out _ _ _ _ _ (rw c.new-printer.ensures at c.in_ok-put_program.ensures) e) c.finish.ensures
