use Rattle.std.proofs.Common.{refl}
use Rattle.run_record.specs.Recording.{numbers_line}
use Rattle.run_record.specs.Form.{at_numbers, at_turns}
use Rattle.run_record.proofs.Passing.{passed_text, no_numbers, missing, numbers_open}
use Rattle.run_record.proofs.read.read_numbers.Goals as goal

pub returns-in-Ok : goal.returns-in-Ok
returns-in-Ok c =
    let l = c.in-Ok.ensures in (
      record { fit = l.fit; few = l.few; spelled = refl },
      passed_text at_numbers at_turns c.args.rest.number c.in-Some.next.number c.args.rest.bytes.now c.in-Some.line.now (numbers_line c.in-Ok.numbers) c.in-Some.next.bytes.now
          c.in-Some.ensures.none l.spelled ((c.in-Ok.numbers, record { fit = l.fit; few = l.few; spelled = refl }), refl) c.in-Some.ensures.next,
    )

pub returns-in-Err : goal.returns-in-Err
returns-in-Err c =
    no_numbers c.args.rest.number c.args.rest.bytes.now c.in-Some.line.now c.in-Some.next.bytes.now c.in-Err.unfit c.at_line.result c.in-Some.ensures.none c.in-Err.ensures
    c.at_line.ensures

pub returns-in-None : goal.returns-in-None
returns-in-None c = missing at_numbers c.args.rest.number c.args.rest.bytes.now numbers_open c.in-None.ensures.none
