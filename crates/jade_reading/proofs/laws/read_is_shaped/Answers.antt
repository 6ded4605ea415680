use Rattle.jade_reading.proofs.ReadingIsShaped.{shaped_if_read}
use Rattle.jade_reading.proofs.laws.read_is_shaped.Goals as goal

pub returns : goal.returns
returns c = λ text tokens p short read. shaped_if_read text tokens p (c.reading_is_cut.ensures.cut text tokens read) short
