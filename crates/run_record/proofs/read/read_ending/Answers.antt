use Rattle.run_record.proofs.Passing.{ending_read}
use Rattle.run_record.proofs.read.read_ending.Goals as goal

pub returns-in-Ok-of : goal.returns-in-Ok-of
returns-in-Ok-of c =
    let a = c.in-Ok.ensures in
    ending_read c.args.count c.args.rest.number c.in-Ok.answer.1.number c.args.rest.bytes.now c.in-Ok.answer.0 c.in-Ok.answer.1.bytes.now c.in-Ok-read_text.bytes.now c.in-Ok-of.text
    a.0 a.1 a.2 c.in-Ok-read_text.ensures c.in-Ok-of.ensures
