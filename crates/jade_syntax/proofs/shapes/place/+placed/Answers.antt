use Rattle.std.proofs.Common.{sym, ◌∙◌}
use Rattle.jade_syntax.specs.declared.tree.Statement.TheVariants.{outs-For, outs-Withonly, outs-With}
use Rattle.jade_syntax.specs.Shapes.{is_placed}
use Rattle.jade_syntax.proofs.Placing.{placed_arm, if_outs, and_is, and_not, and_last, all_passed, all_failed}
use Rattle.jade_syntax.proofs.shapes.place.+placed.Goals as goal

pub are_placed-returns-then-not-is_placed : goal.are_placed-returns-then-not-is_placed
are_placed-returns-then-not-is_placed t c =
    all_failed (is_placed c.args.place) _ _ _ c.at.ensures (sym c.is_placed.ensures ∙ c.if-not-is_placed.true) c.loop-i.invariant

pub are_placed-loop-i-preserved : goal.are_placed-loop-i-preserved
are_placed-loop-i-preserved t c = all_passed (is_placed c.args.place) _ _ _ c.at.ensures (sym c.is_placed.ensures ∙ c.if-not-is_placed.false) c.loop-i.invariant

pub is_placed-returns-in-None : goal.is_placed-returns-in-None
is_placed-returns-in-None t c = placed_arm _ _ _ _ _ c.in-If.is (if_outs _ _ _ _ c.in-None.is) (and_last _ _ c.are_placed.ensures)

pub is_placed-returns-then-are_placed : goal.is_placed-returns-then-are_placed
is_placed-returns-then-are_placed t c =
    placed_arm _ _ _ _ _ c.in-If.is (if_outs _ _ _ _ c.in-Some.is)
    (and_is _ _ _ _ c.are_placed-in-Some.ensures c.if-are_placed.true c.are_placed-then-are_placed.ensures)

pub is_placed-returns-else-are_placed : goal.is_placed-returns-else-are_placed
is_placed-returns-else-are_placed t c =
    placed_arm _ _ _ _ _ c.in-If.is (if_outs _ _ _ _ c.in-Some.is) (and_not _ _ _ c.are_placed-in-Some.ensures c.if-are_placed.false)

pub is_placed-returns-in-For : goal.is_placed-returns-in-For
is_placed-returns-in-For t c = placed_arm _ _ _ _ _ c.in-For.is (outs-For _ _ _ _ _) c.are_placed-in-For.ensures

pub is_placed-returns-then-are_placed-2 : goal.is_placed-returns-then-are_placed-2
is_placed-returns-then-are_placed-2 t c =
    placed_arm _ _ _ _ _ c.in-Withonly.is (outs-Withonly _ _ _ _)
    (and_is _ _ _ _ c.is_main-in-Withonly.ensures c.if-is_main.true
    (and_is _ _ _ _ c.are_placed-then-is_main.ensures c.if-are_placed-2.true c.are_placed-then-are_placed-2.ensures))

pub is_placed-returns-else-are_placed-2 : goal.is_placed-returns-else-are_placed-2
is_placed-returns-else-are_placed-2 t c =
    placed_arm _ _ _ _ _ c.in-Withonly.is (outs-Withonly _ _ _ _)
    (and_is _ _ _ _ c.is_main-in-Withonly.ensures c.if-is_main.true (and_not _ _ _ c.are_placed-then-is_main.ensures c.if-are_placed-2.false))

pub is_placed-returns-then-is_main-2 : goal.is_placed-returns-then-is_main-2
is_placed-returns-then-is_main-2 t c =
    placed_arm _ _ _ _ _ c.in-With.is (outs-With _ _) (and_is _ _ _ _ c.is_main-in-With.ensures c.if-is_main-2.true c.are_placed-then-is_main-2.ensures)
