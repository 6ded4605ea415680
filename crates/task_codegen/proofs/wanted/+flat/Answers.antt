use Rattle.std.proofs.Common.{refl, sym, ◌∙◌}
use Rattle.task_codegen.proofs.Opening.{local_is, assign_is, store_is, for_is, with_is, withonly_is, declare_is}
use Rattle.task_codegen.proofs.Wants.{flat_arm, flat_more, flat_not}
use Rattle.task_codegen.proofs.wanted.+flat.Goals as goal

pub is_flat-returns-in-Local : goal.is_flat-returns-in-Local
is_flat-returns-in-Local t c = flat_arm _ _ _ _ c.in-Local.is (local_is _ _ _ _) refl

pub is_flat-returns-in-Assign : goal.is_flat-returns-in-Assign
is_flat-returns-in-Assign t c = flat_arm _ _ _ _ c.in-Assign.is (assign_is _ _ _) refl

pub is_flat-returns-in-Store : goal.is_flat-returns-in-Store
is_flat-returns-in-Store t c = flat_arm _ _ _ _ c.in-Store.is (store_is _ _) refl

pub is_flat-returns-in-For : goal.is_flat-returns-in-For
is_flat-returns-in-For t c = flat_arm _ _ _ _ c.in-For.is (for_is _ _ _ _ _) refl

pub is_flat-returns-in-Withonly : goal.is_flat-returns-in-Withonly
is_flat-returns-in-Withonly t c = flat_arm _ _ _ _ c.in-Withonly.is (withonly_is _ _ _ _) refl

pub is_flat-returns-in-With : goal.is_flat-returns-in-With
is_flat-returns-in-With t c = flat_arm _ _ _ _ c.in-With.is (with_is _ _) refl

pub is_flat-returns-in-Declare : goal.is_flat-returns-in-Declare
is_flat-returns-in-Declare t c = flat_arm _ _ _ _ c.in-Declare.is (declare_is _ _ _) refl

pub all_flat-returns-then-not-is_flat : goal.all_flat-returns-then-not-is_flat
all_flat-returns-then-not-is_flat t c =
    flat_not c.args.block.now c.loop-i.i _ c.at.ensures (sym c.is_flat.ensures ∙ c.if-not-is_flat.true) c.loop-i.invariant

pub all_flat-loop-i-preserved : goal.all_flat-loop-i-preserved
all_flat-loop-i-preserved t c =
    flat_more c.args.block.now c.loop-i.i _ c.at.ensures (sym c.is_flat.ensures ∙ c.if-not-is_flat.false) c.loop-i.invariant
