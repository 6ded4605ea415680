use Rattle.std.proofs.Common.{refl}
use Rattle.task_translation.specs.Compile.{is_candidate}
use Rattle.task_codegen.proofs.Opening.{local_is, for_is, with_is, withonly_is, declare_is}
use Rattle.task_codegen.proofs.Wants.{begins_none, begins_if, begins_store, begins_assign}
use Rattle.task_codegen.proofs.wanted.wanted_of.Goals as goal

pub returns-in_ok-wanted-in-Store : goal.returns-in_ok-wanted-in-Store
returns-in_ok-wanted-in-Store c =
    begins_store (is_candidate c.args.names.now.scope c.args.n) _ c.in-Store.target c.in-Store.value c.in-Store.is c.in_ok-wanted_cell-in-Store.ensures
    c.in_ok-wanted-in-Store.ensures

pub returns-in_ok-wanted-in-Assign : goal.returns-in_ok-wanted-in-Assign
returns-in_ok-wanted-in-Assign c =
    begins_assign (is_candidate c.args.names.now.scope c.args.n) _ _ _ _ c.in-Assign.is c.in_ok-wanted-in-Assign.ensures

pub returns-in-Local : goal.returns-in-Local
returns-in-Local c = begins_none (is_candidate c.args.names.now.scope c.args.n) _ _ _ c.in-Local.is (local_is _ _ _ _) (λ more. refl)

pub returns-in-If : goal.returns-in-If
returns-in-If c = begins_if (is_candidate c.args.names.now.scope c.args.n) _ _ _ _ c.in-If.is

pub returns-in-For : goal.returns-in-For
returns-in-For c = begins_none (is_candidate c.args.names.now.scope c.args.n) _ _ _ c.in-For.is (for_is _ _ _ _ _) (λ more. refl)

pub returns-in-Withonly : goal.returns-in-Withonly
returns-in-Withonly c = begins_none (is_candidate c.args.names.now.scope c.args.n) _ _ _ c.in-Withonly.is (withonly_is _ _ _ _) (λ more. refl)

pub returns-in-With : goal.returns-in-With
returns-in-With c = begins_none (is_candidate c.args.names.now.scope c.args.n) _ _ _ c.in-With.is (with_is _ _) (λ more. refl)

pub returns-in-Declare : goal.returns-in-Declare
returns-in-Declare c = begins_none (is_candidate c.args.names.now.scope c.args.n) _ _ _ c.in-Declare.is (declare_is _ _ _) (λ more. refl)
