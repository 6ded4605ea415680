use Rattle.std.proofs.lemmas.Result.{on_ok_weaker}
use Rattle.jade_layout.proofs.Adding.{after}
use Rattle.jade_layout.proofs.statements.put_bounds.Goals as goal

pub returns : goal.returns
returns c = on_ok_weaker _ (λ last. after
    (after (after (after (after c.in_ok-put.ensures c.in_ok-put_name.ensures) c.in_ok-put-2.ensures) c.in_ok-put_expr.ensures) c.in_ok-put-3.ensures) last)
    c.put_expr-2.ensures
