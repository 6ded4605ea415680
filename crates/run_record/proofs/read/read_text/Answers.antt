use Rattle.std.proofs.Common.{◌≡◌, true}
use Rattle.run_record.specs.Form.{at_answer}
use Rattle.run_record.proofs.Passing.{unfit, missing, answer_open}
use Rattle.run_record.proofs.read.read_text.Goals as goal

pub returns-else-is_text : goal.returns-else-is_text
returns-else-is_text c =
    unfit (at_answer 0) c.args.rest.number c.args.rest.bytes.now c.in-Some.line.now c.in-Some.next.bytes.now (answer_open 0) c.in-Some.ensures.none
    (λ next t. let y : c.is_text.result ≡ true = c.is_text.ensures.1 t.0 in absurd (cc (y, c.if-is_text.false)))

pub returns-in-None : goal.returns-in-None
returns-in-None c = missing (at_answer 0) c.args.rest.number c.args.rest.bytes.now (answer_open 0) c.in-None.ensures.none
