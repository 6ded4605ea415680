use Rattle.std.proofs.Common.{sym, ap, ◌∙◌, arith}
use Rattle.std.proofs.lemmas.Bool.{false≢true}
use Rattle.jade_syntax.specs.declared.tree.Statement.TheVariants as statement
use Rattle.task_codegen.proofs.Opening.{local_is, assign_is, store_is, if_is, if_else_is, for_is, with_is, withonly_is, declare_is}
use Rattle.task_codegen.proofs.Steadiness.{stirs_arm, stirs_local, stirs_no, stirs_slot, stirs_store, stirs_if, stirs_if_else, stirring_more, stirring_ends}
use Rattle.task_codegen.proofs.steady.+disturbs.Goals as goal

pub disturbs-returns-in_ok-declare-in-Local : goal.disturbs-returns-in_ok-declare-in-Local
disturbs-returns-in_ok-declare-in-Local t c =
    stirs_arm _ _ _ c.in-Local.is (local_is _ _ _ _) (λ flat. stirs_local _ _ _ c.next-slot.ensures c.in_ok-declare-in-Local.ensures)

pub disturbs-returns-in-None : goal.disturbs-returns-in-None
disturbs-returns-in-None t c =
    stirs_arm _ _ _ c.in-Assign.is (assign_is _ _ _) (λ flat. stirs_no _ _ (sym c.in-None.is ∙ c.slot_of.ensures))

pub disturbs-returns-in-Some : goal.disturbs-returns-in-Some
disturbs-returns-in-Some t c =
    stirs_arm _ _ _ c.in-Assign.is (assign_is _ _ _) (λ flat. stirs_slot _ _ c.in-Some.slot (sym c.in-Some.is ∙ c.slot_of.ensures) c.has_slot.ensures)

pub disturbs-returns-in-None-otherwise : goal.disturbs-returns-in-None-otherwise
disturbs-returns-in-None-otherwise t c =
    stirs_arm _ _ _ (c.in-If.is ∙ ap (λ o. statement.If c.in-If.test c.in-If.then o) c.in-None-otherwise.is) (if_is _ _)
    (stirs_if _ _ c.in_ok-first-in-If.ensures)

pub disturbs-returns-in_ok-second-in-Some-otherwise : goal.disturbs-returns-in_ok-second-in-Some-otherwise
disturbs-returns-in_ok-second-in-Some-otherwise t c =
    stirs_arm _ _ _ (c.in-If.is ∙ ap (λ o. statement.If c.in-If.test c.in-If.then o) c.in-Some-otherwise.is) (if_else_is _ _ _)
    (stirs_if_else _ _ _ c.in_ok-first-in-If.ensures c.in_ok-second-in-Some-otherwise.ensures)

pub disturbs-returns-in-Store : goal.disturbs-returns-in-Store
disturbs-returns-in-Store t c = stirs_arm _ _ _ c.in-Store.is (store_is _ _) (λ flat. stirs_store _ _ _)

pub disturbs-returns-in-For : goal.disturbs-returns-in-For
disturbs-returns-in-For t c = stirs_arm _ _ _ c.in-For.is (for_is _ _ _ _ _) (λ flat. absurd (false≢true flat))

pub disturbs-returns-in-Withonly : goal.disturbs-returns-in-Withonly
disturbs-returns-in-Withonly t c = stirs_arm _ _ _ c.in-Withonly.is (withonly_is _ _ _ _) (λ flat. absurd (false≢true flat))

pub disturbs-returns-in-With : goal.disturbs-returns-in-With
disturbs-returns-in-With t c = stirs_arm _ _ _ c.in-With.is (with_is _ _) (λ flat. absurd (false≢true flat))

pub disturbs-returns-in-Declare : goal.disturbs-returns-in-Declare
disturbs-returns-in-Declare t c = stirs_arm _ _ _ c.in-Declare.is (declare_is _ _ _) (λ flat. absurd (false≢true flat))

pub all_disturb-loop-i-preserved : goal.all_disturb-loop-i-preserved
all_disturb-loop-i-preserved t c = stirring_more c.args.block.now c.loop-i.i _ c.at.ensures c.loop-i.invariant c.in_ok-own.ensures

pub all_disturb-returns : goal.all_disturb-returns
all_disturb-returns t c =
    stirring_ends c.args.block.now c.loop-i.i (omega (arith, c.len-i-end.ensures, c.loop-i-test.false)) c.len-outer.ensures c.next-next.ensures
    c.loop-i.invariant c.leave.ensures
