use Rattle.std.proofs.Common.{◌-◌, length, drop, arith, ap, ◌∙◌}
use Rattle.name_scope.proofs.Kept.{dropped_more}
use Rattle.name_scope.proofs.scope.NameScope.leave.Goals as goal

pub ending-preserved : goal.ending-preserved
ending-preserved g c =
    ap (λ s. drop (length s - c.args.len) s) c.end_newest.ensures ∙ dropped_more c.ending.self c.args.len (omega (arith, c.ending-test.true, c.len.ensures))
    ∙ c.ending.invariant
