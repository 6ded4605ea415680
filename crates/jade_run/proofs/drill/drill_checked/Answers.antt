use Rattle.std.specs.Prelude.{ℤ}
use Rattle.std.proofs.Common.{◌≡◌, ℕ, ◌≤◌, true, [], length, ap, ◌∙◌, sym, subst, refl, List}
use Rattle.std.specs.List.{sum_by}
use Rattle.jade_base.specs.declared.place.Pos.{Pos}
use Rattle.jade_base.specs.declared.report.Report.{Report}
use Rattle.jade_syntax.specs.CheckedProgram.{CheckedProgram}
use Rattle.jade_syntax.specs.Image.{program}
use Rattle.jade_syntax.specs.Limits.{within_limits}
use Rattle.jade_meaning.specs.Answer.{Answer, answer}
use Rattle.jade_meaning.specs.Report.{report}
use Rattle.jade_meaning.specs.ReportAnswer.{report_answer, ReportTells}
use Rattle.jade_meaning.specs.Turns.{marks_by, turns_in}
use Rattle.jade_run.specs.Answered.{TurnLists}
use Rattle.jade_run.specs.declared.status.Status.{Status}
use Rattle.jade_meaning.specs.Moved.{moved_answer}
use Rattle.jade_run.specs.steps.Drilling.{ShowsSum}
use Rattle.jade_run.specs.steps.Homes.{home_of}
use Rattle.jade_run.proofs.Running.{planned, reported, run_is_shown}
use Rattle.jade_run.proofs.Totals.{few_after}
use Rattle.jade_run.proofs.drill.drill_checked.Goals as goal

-- what tells the answer of a report by a sum tells the program's so
told : (r : Report) (home : Pos → Pos) (p q s : CheckedProgram) (tasks limit : ℕ) (turns : TurnLists) (text : List ℕ) (status : Status)
    → r ≡ report (program p.program) [] limit turns → q ≡ p → s ≡ q →
    ReportTells (program p.program) [] limit turns → ShowsSum (program s.program) tasks (moved_answer home (report_answer limit r)) text status →
    ShowsSum (program p.program) tasks (moved_answer home (answer (program p.program) [] limit turns)) text status
told r home p q s tasks limit turns text status e f g t h =
    let P : Answer → Type 0 = λ a. ShowsSum (program p.program) tasks (moved_answer home a) text status in
    let Q : CheckedProgram → Type 0 = λ x. ShowsSum (program x.program) tasks (moved_answer home (report_answer limit r)) text status in
    subst P (ap (report_answer limit) e ∙ t.same) (subst Q (g ∙ f) h)

-- a run of a program within the limits has few cells
few : (r : Report) (p q s : CheckedProgram) (limit : ℕ) (turns : TurnLists) → r ≡ report (program p.program) [] limit turns → q ≡ p → s ≡ q → within_limits s.program.items ≡ true →
    sum_by (length {A = ℤ}) r.objects ≤ 1048576
few r p q s limit turns e f g h =
    let P : Report → Type 0 = λ x. sum_by (length {A = ℤ}) x.objects ≤ 1048576 in
    let Q : CheckedProgram → Type 0 = λ x. within_limits x.program.items ≡ true in
    subst P (sym e) (few_after p.program.items (marks_by (program p.program) [] limit turns) (subst Q (g ∙ f) h))

pub sum_of_run-requires : goal.sum_of_run-requires
sum_of_run-requires g c =
    let plan = c.in_ok-ran.ran.plan in
    let turns = turns_in c.in_ok-ran.ran.report.turns in
    let all = report (program plan.program) plan.numbers plan.limit turns in
    record {
      few = few all c.args.checked c.in_ok-compiled.compiled c.checked-seen.result.now 4294967295 turns
          (reported all plan c.args.checked c.in_ok-compiled.compiled [] 4294967295 turns refl c.in_ok-ran.ensures c.in_ok-compiled.ensures)
          c.in_ok-compiled.ensures c.checked-seen.ensures c.program-program.ensures.limits;
    }

pub returns : goal.returns
returns g c =
    let ran = c.in_ok-ran.ran in
    let plan = ran.plan in
    let turns = turns_in c.in_ok-ran.ran.report.turns in
    let all = report (program plan.program) plan.numbers plan.limit turns in (
      turns,
      record {
        shows = told all (home_of c.args.home.now) c.args.checked c.in_ok-compiled.compiled c.checked-seen.result.now c.args.tasks 4294967295 turns _ _
            (reported all plan c.args.checked c.in_ok-compiled.compiled [] 4294967295 turns refl c.in_ok-ran.ensures c.in_ok-compiled.ensures)
            c.in_ok-compiled.ensures c.checked-seen.ensures (c.report_tells.ensures (program c.args.checked.program) [] 4294967295 turns)
            c.in_ok-answer.ensures.shows;
        shown = run_is_shown (record { plan = ran.plan; turns = ran.report.turns }) c.args.checked.program [] 4294967295 _ _ c.see.ensures
            (planned plan c.in_ok-compiled.compiled c.args.checked [] 4294967295 c.in_ok-ran.ensures c.in_ok-compiled.ensures)
            c.in_ok-answer.ensures.full;
      },
    )
