use Rattle.std.specs.Prelude.{ℤ}
use Rattle.std.proofs.Common.{◌≡◌, ℕ, subst, List}
use Rattle.jade_base.specs.declared.place.Pos.{Pos}
use Rattle.jade_syntax.specs.CheckedProgram.{CheckedProgram}
use Rattle.jade_syntax.specs.Image.{program}
use Rattle.jade_meaning.specs.Answer.{Answer, answer}
use Rattle.jade_meaning.specs.Turns.{in_order}
use Rattle.jade_run.specs.declared.status.Status.{Status}
use Rattle.jade_run.specs.Answered.{Shows}
use Rattle.jade_meaning.specs.Moved.{moved_answer}
use Rattle.jade_run.specs.steps.Homes.{home_of}
use Rattle.jade_run.proofs.run.run_serially.Goals as goal

-- what shows the answer of the program that was compiled shows that of the program
shown : (home : Pos → Pos) (p q r : CheckedProgram) (a : Answer) (ns : List ℤ) (limit : ℕ) (text : List ℕ) (status : Status) → q ≡ p → r ≡ q
    → a ≡ answer (program q.program) ns limit in_order → Shows (program r.program) (moved_answer home a) text status
    → Shows (program p.program) (moved_answer home (answer (program p.program) ns limit in_order)) text status
shown home p q r a ns limit text status e d t h =
    subst (λ (x : CheckedProgram). Shows (program x.program) (moved_answer home (answer (program x.program) ns limit in_order)) text status) e
    (subst (λ b. Shows (program q.program) (moved_answer home b) text status) t (subst (λ (x : CheckedProgram). Shows (program x.program) (moved_answer home a) text status) d h))

pub returns : goal.returns
returns c =
    shown (home_of c.args.home.now) c.args.checked c.in_ok-compiled.compiled c.checked.result.now _ c.args.numbers.now c.args.limit _ _ c.in_ok-compiled.ensures c.checked.ensures
    c.in_ok-answer.ensures c.in_ok-text.ensures
