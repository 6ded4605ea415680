use Rattle.std.proofs.Common.{refl}
use Rattle.run_record.specs.Recording.{limit_line}
use Rattle.run_record.specs.Form.{at_limit, at_numbers}
use Rattle.run_record.proofs.Passing.{passed_text, unfit, missing, limit_open}
use Rattle.run_record.proofs.read.read_limit.Goals as goal

pub returns-in-Some-limit_of : goal.returns-in-Some-limit_of
returns-in-Some-limit_of c =
    let l = c.in-Some-limit_of.ensures in (
      record { some = l.some; within = l.within; spelled = refl },
      passed_text at_limit at_numbers c.args.rest.number c.in-Some.next.number c.args.rest.bytes.now c.in-Some.line.now (limit_line c.in-Some-limit_of.limit) c.in-Some.next.bytes.now
          c.in-Some.ensures.none l.spelled ((c.in-Some-limit_of.limit, record { some = l.some; within = l.within; spelled = refl }), refl) c.in-Some.ensures.next,
    )

pub returns-in-None-limit_of : goal.returns-in-None-limit_of
returns-in-None-limit_of c =
    unfit at_limit c.args.rest.number c.args.rest.bytes.now c.in-Some.line.now c.in-Some.next.bytes.now limit_open c.in-Some.ensures.none
    (λ next t. c.in-None-limit_of.ensures t.0.0 t.0.1)

pub returns-in-None : goal.returns-in-None
returns-in-None c = missing at_limit c.args.rest.number c.args.rest.bytes.now limit_open c.in-None.ensures.none
