use Rattle.proc_expand.proofs.PenFacts.{on_both}
use Rattle.proc_expand.proofs.pen.put_bytes.Goals as goal

pub returns-clause-wrote : goal.returns-clause-wrote
returns-clause-wrote c =
    on_both c.put.result c.put.ensures.sheet c.put.ensures.tokens (λ a b names h. record { pen = record { sheet = a; free = h.free }; tokens = b })

pub returns-clause-grown : goal.returns-clause-grown
returns-clause-grown c = λ e. record { long = c.put.ensures.grown e }
