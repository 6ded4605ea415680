use Rattle.jade_run.proofs.Once.{same_outcomes}
use Rattle.jade_run.proofs.laws.one_outcome.Goals as goal

pub returns : goal.returns
returns c = same_outcomes (record {
  one_spelling = c.one_reading.ensures.spelling;
  refusal = c.one_reading.ensures.refusal;
  apart = c.one_reading.ensures.apart;
  alike =
      c.spelled_alike.ensures;
  placed = c.one_tree.ensures;
  erased = c.erased_is_program.ensures;
  shaped = c.read_is_shaped.ensures;
})
