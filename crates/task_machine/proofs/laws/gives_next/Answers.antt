use Rattle.std.proofs.Common.{sym, subst}
use Rattle.jade_meaning.specs.Talk.{given_back}
use Rattle.task_machine.specs.Left.{IsLeast, IsNone, for_child, is_held}
use Rattle.task_machine.specs.Machines.{amended_at, holds_at, made_at}
use Rattle.task_machine.proofs.Asking.{spec_long, made_long, new_long}
use Rattle.task_machine.proofs.Asking.{give_for_child, creation_next, give_for_change, change_next, give_at_end, end_next}
use Rattle.task_machine.proofs.laws.gives_next.Goals as goal

pub returns-clause-creation : goal.returns-clause-creation
returns-clause-creation c = λ m good none. record {
  gives = λ number o is least.
      give_for_child m good number o none is
      (subst (λ k. IsLeast (for_child (made_at m.execution) (holds_at m.execution)) k o) (sym (made_long m good)) least);
  creates = λ number is free.
      creation_next m good number none is (subst (IsNone (for_child (made_at m.execution) (holds_at m.execution))) (sym (made_long m good)) free);
}

pub returns-clause-change : goal.returns-clause-change
returns-clause-change c = λ m good. record {
  gives = λ o least.
      give_for_change m good o
      (subst (λ k. IsLeast (given_back (amended_at m.execution) (holds_at m.execution)) k o) (sym (new_long m good)) least);
  changes = λ free.
      change_next m good (subst (IsNone (given_back (amended_at m.execution) (holds_at m.execution))) (sym (new_long m good)) free);
}

pub returns-clause-end : goal.returns-clause-end
returns-clause-end c = λ m good none. record {
  gives = λ b o is least.
      give_at_end m good b o none is (subst (λ k. IsLeast (is_held (holds_at m.execution)) k o) (sym (spec_long m good)) least);
  ends = λ b is free. end_next m good b none is (subst (IsNone (is_held (holds_at m.execution))) (sym (spec_long m good)) free);
}
