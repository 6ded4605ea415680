use Rattle.std.proofs.lemmas.Result.{on_ok_weaker}
use Rattle.jade_layout.proofs.Adding.{after}
use Rattle.jade_layout.proofs.statements.put_value.Goals as goal

pub returns : goal.returns
returns c = on_ok_weaker _ (λ last. after (after c.in_ok-put.ensures c.in_ok-put_expr.ensures) last) c.put-2.ensures
