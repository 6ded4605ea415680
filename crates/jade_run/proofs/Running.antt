-- What the report of a run tells.
use Rattle.std.proofs.Common.{◌≡◌, ℕ, List, Option, ap, refl, sym, subst, ◌∙◌, map}
use Rattle.std.specs.Prelude.{ℤ}
use Rattle.jade_base.specs.declared.place.Pos.{Pos}
use Rattle.jade_base.specs.declared.report.Report.{Report}
use Rattle.jade_syntax.specs.Abstract.{AbstractProgram}
use Rattle.jade_syntax.specs.CheckedProgram.{CheckedProgram}
use Rattle.jade_syntax.specs.Image.{program}
use Rattle.jade_meaning.specs.Answer.{Answer, answer}
use Rattle.jade_meaning.specs.Plan.{RunPlan}
use Rattle.jade_meaning.specs.Report.{report, Ascends}
use Rattle.jade_meaning.specs.ReportAnswer.{report_answer, ReportTells}
use Rattle.jade_meaning.specs.Turns.{Full, turns_in}
use Rattle.jade_syntax.specs.declared.tree.Program.{Program as ProgramOf}
use Rattle.jade_run.specs.declared.answer.Ready.{Ready}
use Rattle.jade_run.specs.declared.answer.Ready.TheVariants.{Program, Answered}
use Rattle.jade_run.specs.declared.answer.Answer.{Answer as AnswerOf}
use Rattle.jade_run.specs.declared.standing.Home.{Home}
use Rattle.jade_run.specs.declared.status.Status.{Status}
use Rattle.jade_run.specs.Answered.{fault_key, Shows, TurnLists}
use Rattle.jade_meaning.specs.Moved.{moved_answer}
use Rattle.jade_run.specs.Witnessed.{SeenRun, seen_with}
use Rattle.jade_run.specs.steps.Ending.{ShownRun}
use Rattle.jade_run.specs.steps.Preparing.{IsReady, IsSettled}

-- the report of a run of the program that was compiled is that of the program
pub reported : (r : Report) (plan : RunPlan) (p q : CheckedProgram) (ns : List ℤ) (limit : ℕ) (turns : TurnLists)
    → r ≡ report (program plan.program) plan.numbers plan.limit turns →
    plan ≡ record { program = q.program; numbers = ns; limit = limit } → q ≡ p → r ≡ report (program p.program) ns limit turns
reported r plan p q ns limit turns e f g =
    e ∙ ap (λ (x : RunPlan). report (program x.program) x.numbers x.limit turns) f ∙ ap (λ (x : CheckedProgram). report (program x.program) ns limit turns) g

pub faults_ascend : (r : Report) (p : AbstractProgram) (ns : List ℤ) (limit : ℕ) (turns : TurnLists) → r ≡ report p ns limit turns →
    Ascends (map fault_key (report p ns limit turns).faults) → Ascends (map fault_key r.faults)
faults_ascend r p ns limit turns e h = let P : Report → Type 0 = λ x. Ascends (map fault_key x.faults) in subst P (sym e) h

-- what shows the answer that the report tells shows the program's
pub shows_answer : (r : Report) (home : Pos → Pos) (p q s : CheckedProgram) (ns : List ℤ) (limit : ℕ) (turns : TurnLists) (text : List ℕ) (status : Status)
    → r ≡ report (program p.program) ns limit turns →
    q ≡ p → s ≡ q → ReportTells (program p.program) ns limit turns → Shows (program s.program) (moved_answer home (report_answer limit r)) text status →
    Shows (program p.program) (moved_answer home (answer (program p.program) ns limit turns)) text status
shows_answer r home p q s ns limit turns text status e f g t h =
    let P : Answer → Type 0 = λ a. Shows (program p.program) (moved_answer home a) text status in
    let Q : CheckedProgram → Type 0 = λ x. Shows (program x.program) (moved_answer home (report_answer limit r)) text status in
    subst P (ap (report_answer limit) e ∙ t.same) (subst Q (g ∙ f) h)

pub program_ready : (bytes : List ℕ) (ns : List ℤ) (r : Ready) (c : CheckedProgram) (home : Home) → r ≡ Program c home → IsReady bytes ns r
    → IsReady bytes ns (Program c home)
program_ready bytes ns r c home e h = subst (λ x. IsReady bytes ns x) e h

pub answered_ready : (bytes : List ℕ) (ns : List ℤ) (r : Ready) (a : AnswerOf) → r ≡ Answered a → IsReady bytes ns r →
    IsSettled bytes ns a.text.items a.status
answered_ready bytes ns r a e h = let P : Ready → Type 0 = λ x. IsReady bytes ns x in subst P e h

-- the plan of a run of the program that was compiled
pub planned : (plan : RunPlan) (q p : CheckedProgram) (ns : List ℤ) (limit : ℕ) → plan ≡ record { program = q.program; numbers = ns; limit = limit } → q ≡ p
    → plan ≡ record { program = p.program; numbers = ns; limit = limit }
planned plan q p ns limit e f = e ∙ ap (λ (x : CheckedProgram). record { program = x.program; numbers = ns; limit = limit }) f

-- a run that a witness saw, whose turns are full
pub run_is_shown : (run : SeenRun) (tree : ProgramOf) (ns : List ℤ) (limit : ℕ) (before after : Option (List SeenRun)) → after ≡ seen_with before run
    → run.plan ≡ record { program = tree; numbers = ns; limit = limit } → Full (program run.plan.program) run.plan.numbers run.plan.limit (turns_in run.turns)
    → ShownRun tree ns limit (turns_in run.turns) before after
run_is_shown run tree ns limit before after saw plan full = record {
  run = run;
  saw = saw;
  plan = plan;
  taken = refl;
  full = subst (λ (p : RunPlan). Full (program p.program) p.numbers p.limit (turns_in run.turns)) plan full;
}
