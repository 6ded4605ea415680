use Rattle.jade_parser.proofs.OneReading.{refusals_same, apart_is}
use Rattle.jade_parser.proofs.laws.one_reading.Goals as goal

pub returns-clause-refusal : goal.returns-clause-refusal
returns-clause-refusal c = refusals_same

pub returns-clause-apart : goal.returns-clause-apart
returns-clause-apart c = apart_is
