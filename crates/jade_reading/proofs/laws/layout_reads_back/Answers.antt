use Rattle.jade_reading.proofs.ReadingBack.{reads_back}
use Rattle.jade_reading.proofs.laws.layout_reads_back.Goals as goal

pub returns : goal.returns
returns c = λ p shaped. reads_back p shaped (c.layout_is_read.ensures.program p shaped)
