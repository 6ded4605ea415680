use Rattle.std.proofs.Common.{◌<◌, sym, subst}
use Rattle.jade_meaning.specs.Specification.{commuting_on}
use Rattle.task_machine.specs.Stages.{rights_at}
use Rattle.task_machine.specs.Left.{IsLeast, IsNone, others, to_take}
use Rattle.task_machine.specs.Machines.{due_at}
use Rattle.task_machine.proofs.Asking.{spec_long, start_other, start_own, starts_done, take_due, takes_done, take_wanted}
use Rattle.task_machine.proofs.laws.takes_next.Goals as goal

pub returns-clause-starts : goal.returns-clause-starts
returns-clause-starts c = λ m good. record {
  takes = λ o mode least is.
      start_other m good o mode (subst (λ k. IsLeast (to_take (others (commuting_on (rights_at m.execution.stage)) (due_at m)) (rights_at m.execution.stage)) k o)
      (sym (spec_long m good)) least) is;
  takes_own = λ o mode none own due lt is.
      start_own m good o mode (subst (IsNone (to_take (others (commuting_on (rights_at m.execution.stage)) (due_at m)) (rights_at m.execution.stage)))
      (sym (spec_long m good)) none) own due (subst (λ k. o < k) (sym (spec_long m good)) lt) is;
  goes_on = λ none. starts_done m good none;
}

pub returns-clause-due : goal.returns-clause-due
returns-clause-due c = λ m good. record {
  takes = λ o mode least is.
      take_due m good o mode (subst (λ k. IsLeast (to_take (due_at m) (rights_at m.execution.stage)) k o) (sym (spec_long m good)) least) is;
  goes_on = λ none. takes_done m good (subst (IsNone (to_take (due_at m) (rights_at m.execution.stage))) (sym (spec_long m good)) none);
}

pub returns-clause-wanted : goal.returns-clause-wanted
returns-clause-wanted c = λ m good none o mode row lt touches free is. take_wanted m good o mode none row lt touches free is
