use Rattle.std.proofs.Common.{◌≡◌, true, refl}
use Rattle.run_record.specs.Recording.{head_line}
use Rattle.run_record.specs.Form.{at_head, at_limit}
use Rattle.run_record.proofs.Passing.{passed_text, unfit, missing, head_open}
use Rattle.run_record.proofs.read.read_head.Goals as goal

pub returns-then-is_text : goal.returns-then-is_text
returns-then-is_text c =
    passed_text at_head at_limit c.args.rest.number c.in-Some.next.number c.args.rest.bytes.now c.in-Some.line.now head_line c.in-Some.next.bytes.now c.in-Some.ensures.none
    (c.is_text.ensures.0 c.if-is_text.true) (refl, refl) c.in-Some.ensures.next

pub returns-else-is_text : goal.returns-else-is_text
returns-else-is_text c =
    unfit at_head c.args.rest.number c.args.rest.bytes.now c.in-Some.line.now c.in-Some.next.bytes.now head_open c.in-Some.ensures.none
    (λ next t. let y : c.is_text.result ≡ true = c.is_text.ensures.1 t.0 in absurd (cc (y, c.if-is_text.false)))

pub returns-in-None : goal.returns-in-None
returns-in-None c = missing at_head c.args.rest.number c.args.rest.bytes.now head_open c.in-None.ensures.none
