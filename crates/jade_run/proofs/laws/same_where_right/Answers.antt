use Rattle.jade_run.proofs.Right.{right_always, right_only}
use Rattle.jade_run.proofs.laws.same_where_right.Goals as goal

pub returns-clause-only : goal.returns-clause-only
returns-clause-only c = right_only

pub returns-clause-always : goal.returns-clause-always
returns-clause-always c = right_always (record {
  one_spelling = c.one_reading.ensures.spelling;
  refusal = c.one_reading.ensures.refusal;
  apart = c.one_reading.ensures.apart;
  alike =
      c.spelled_alike.ensures;
  placed = c.one_tree.ensures;
  erased = c.erased_is_program.ensures;
  shaped = c.read_is_shaped.ensures;
})
