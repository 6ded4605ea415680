-- What a witness is shown, each in one step.
use Rattle.std.proofs.Common.{◌≡◌, ℕ, ◌⊎◌, inl, inr, List, [], length, Option, refl, sym, ap, ◌∙◌, subst}
use Rattle.std.specs.Prelude.{ℤ, Result, Ok, Err, IfOk, IfErr}
use Rattle.jade_base.specs.declared.failure.Memory.{Memory as NoMemory}
use Rattle.jade_base.specs.declared.place.Pos.{Pos}
use Rattle.jade_gen.specs.Drill.{drill_text}
use Rattle.jade_meaning.specs.Answer.{Answer, Faulted, Cells, answer}
use Rattle.jade_meaning.specs.Plan.{RunPlan}
use Rattle.jade_meaning.specs.Turns.{Full, in_order}
use Rattle.jade_syntax.specs.Abstract.{AbstractProgram}
use Rattle.jade_syntax.specs.declared.tree.Program.{Program}
use Rattle.jade_syntax.specs.Image.{program}
use Rattle.jade_run.specs.declared.answer.Answer.{Answer as AnswerOf}
use Rattle.jade_run.specs.declared.status.Status.{Status}
use Rattle.jade_run.specs.declared.status.Status.TheVariants.{Refused, Numbers, Reading, Memory}
use Rattle.jade_run.specs.declared.words.Command.{Command}
use Rattle.jade_run.specs.declared.words.Command.TheVariants.{Run, Serial, Check, Show, Drill, Record, Replay, Expand}
use Rattle.jade_run.specs.Answered.{BySomeTurns, IsDrilled, IsGood, TurnLists, answer_status, answered, input_count}
use Rattle.jade_run.specs.steps.Drilling.{IsDrillOf, IsRunDrill, ShowsSum}
use Rattle.jade_run.specs.steps.Ending.{IsRunOf, IsRunText, ShownRun}
use Rattle.jade_run.specs.steps.Preparing.{IsSettled}
use Rattle.jade_meaning.specs.Moved.{moved_answer}
use Rattle.jade_run.specs.Witnessed.{SeenRun, SawOne, SawRun, SawCommand, SawWords}
use Rattle.jade_run.specs.Witnessed.{serially, checks, shows, replays, expands, of_run, of_drill, of_record, of_none}
use Rattle.jade_run.specs.Words.{NeedsText, Asks, to_run, to_serial, to_check, to_show, to_record, to_replay, to_expand}

answer_saw : (bytes : List ℕ) (ns : List ℤ) (limit : ℕ) (turns : TurnLists) (a : Answer) (before after : Option (List SeenRun))
    → SawOne bytes ns limit turns before after → SawRun bytes ns limit turns (answer_status a) before after
answer_saw bytes ns limit turns (Faulted path blame) before after h = h
answer_saw bytes ns limit turns (Cells store) before after h = h

-- the run of the program of a text
pub one : (bytes : List ℕ) (ns : List ℤ) (limit : ℕ) (turns : TurnLists) (tree : Program) (home : Pos → Pos) (before after : Option (List SeenRun))
    → IsGood bytes tree home
    → ShownRun tree ns limit turns before after → SawOne bytes ns limit turns before after
one bytes ns limit turns tree home before after g s = record {
  run = s.run;
  saw = s.saw;
  home = home;
  good = subst (λ (p : RunPlan). IsGood bytes p.program home) (sym s.plan) g;
  given = ap (λ (p : RunPlan). p.numbers) s.plan;
  limited = ap (λ (p : RunPlan). p.limit) s.plan;
  taken = s.taken;
  full = subst (λ (p : RunPlan). Full (program p.program) ns limit turns) (sym s.plan) s.full;
}

-- the run of a text's program that shows its answer
pub program_saw : (bytes : List ℕ) (ns : List ℤ) (limit : ℕ) (tree : Program) (home : Pos → Pos) (r : Result AnswerOf NoMemory)
    (before after : Option (List SeenRun)) → IsGood bytes tree home → length ns ≡ input_count tree
    → IfOk r (λ a. BySomeTurns (λ turns. IsRunOf tree home ns limit turns a.text.items a.status before after))
    → IfOk r (λ a. BySomeTurns (λ turns. IsRunText bytes ns limit turns a.text.items a.status before after))
program_saw bytes ns limit tree home (Ok a) before after g n h = (
  h.0,
  record {
    is = answered tree home g n h.1.shows;
    saw = subst (λ s. SawRun bytes ns limit h.0 s before after) (sym h.1.shows.ended)
        (answer_saw bytes ns limit h.0 (moved_answer home (answer (program tree) ns limit h.0)) before after (one bytes ns limit h.0 tree home before after g h.1.shown));
  },
)
program_saw bytes ns limit tree home (Err m) before after g n h = tt

-- the run of a drill's program that shows the sum of its cells
sum_saw : (p : AbstractProgram) (tasks : ℕ) (x : Answer) (bytes text : List ℕ) (status : Status) (ns : List ℤ) (limit : ℕ) (turns : TurnLists)
    (before after : Option (List SeenRun)) → ShowsSum p tasks x text status → SawOne bytes ns limit turns before after
    → SawRun bytes ns limit turns status before after
sum_saw p tasks (Cells store) bytes text status ns limit turns before after h o = subst (λ s. SawRun bytes ns limit turns s before after) (sym h.1) o
sum_saw p tasks (Faulted path blame) bytes text status ns limit turns before after h o =
    subst (λ s. SawRun bytes ns limit turns s before after) (sym h.ended) o

pub drill_saw : (tasks : ℕ) (bytes : List ℕ) (tree : Program) (home : Pos → Pos) (r : Result AnswerOf NoMemory) (before after : Option (List SeenRun))
    → bytes ≡ drill_text tasks → IsGood bytes tree home
    → IfOk r (λ a. BySomeTurns (λ turns. IsDrillOf tree home tasks turns a.text.items a.status before after))
    → IfOk r (λ a. IsDrilled tasks a.text.items a.status)
    → IfOk r (λ a. BySomeTurns (λ turns. IsRunDrill tasks turns a.text.items a.status before after))
drill_saw tasks bytes tree home (Ok a) before after made g h d = (
  h.0,
  record {
    is = d;
    saw =
        let P : List ℕ → Type 0 = λ b. IsGood b tree home in
        sum_saw (program tree) tasks (moved_answer home (answer (program tree) [] 4294967295 h.0)) (drill_text tasks) a.text.items a.status [] 4294967295 h.0 before after h.1.shows
        (one (drill_text tasks) [] 4294967295 h.0 tree home before after (subst P made g) h.1.shown);
  },
)
drill_saw tasks bytes tree home (Err m) before after made g h d = tt

-- a text that is answered without a run
settled_saw : (bytes : List ℕ) (ns ms : List ℤ) (text source : List ℕ) (status : Status) (limit : ℕ) (before : Option (List SeenRun))
    → IsSettled source ms text status → SawRun bytes ns limit in_order status before before
settled_saw bytes ns ms text source status limit before h = go h.unrun
  where
    go : (status ≡ Refused) ⊎ (status ≡ Numbers) → SawRun bytes ns limit in_order status before before
    go (inl e) = subst (λ s. SawRun bytes ns limit in_order s before before) (sym e) refl
    go (inr e) = subst (λ s. SawRun bytes ns limit in_order s before before) (sym e) refl

pub settled_text : (bytes : List ℕ) (ns : List ℤ) (limit : ℕ) (text : List ℕ) (status : Status) (before : Option (List SeenRun))
    → IsSettled bytes ns text status → BySomeTurns (λ turns. IsRunText bytes ns limit turns text status before before)
settled_text bytes ns limit text status before h =
    (in_order, record { is = h.answered limit in_order; saw = settled_saw bytes ns ns text bytes status limit before h })

pub settled_drill : (tasks : ℕ) (bytes text : List ℕ) (status : Status) (before : Option (List SeenRun)) → IsSettled bytes [] text status
    → IsDrilled tasks text status → BySomeTurns (λ turns. IsRunDrill tasks turns text status before before)
settled_drill tasks bytes text status before h d =
    (in_order, record { is = d; saw = settled_saw (drill_text tasks) [] [] text bytes status 4294967295 before h })

-- a command on a text
pub command_words : (words : List (List ℕ)) (c : Command) (bytes : List ℕ) (turns : TurnLists) (status : Status) (before after : Option (List SeenRun))
    → Asks words c → SawCommand c bytes turns status before after → SawWords words bytes turns status before after
command_words words (Run w e) bytes turns status before after asked h = of_run w e.limit e.numbers asked h
command_words words (Serial e) bytes turns status before after asked h = of_none (serially e.limit e.numbers asked) h
command_words words Check bytes turns status before after asked h = of_none (checks asked) h
command_words words Show bytes turns status before after asked h = of_none (shows asked) h
command_words words (Drill n w) bytes turns status before after asked h = of_drill n w asked h
command_words words (Record w e) bytes turns status before after asked h = of_record w e.limit e.numbers asked h
command_words words Replay bytes turns status before after asked h = of_none (replays asked) h
command_words words Expand bytes turns status before after asked h = of_none (expands asked) h

-- a text that is too long
pub refused_words : (words : List (List ℕ)) (bytes : List ℕ) (turns : TurnLists) (before : Option (List SeenRun)) → NeedsText words
    → SawWords words bytes turns Refused before before
refused_words words bytes turns before (to_run w limit ns h) = of_run w limit ns h refl
refused_words words bytes turns before (to_serial limit ns h) = of_none (serially limit ns h) refl
refused_words words bytes turns before (to_check h) = of_none (checks h) refl
refused_words words bytes turns before (to_show h) = of_none (shows h) refl
refused_words words bytes turns before (to_record w limit ns h) = of_record w limit ns h refl
refused_words words bytes turns before (to_replay h) = of_none (replays h) refl
refused_words words bytes turns before (to_expand h) = of_none (expands h) refl

-- want of memory is no failed source
pub memory_still : {T : Type 0} (r : Result T Status) (before after : Option (List SeenRun)) → IfErr r (λ s. s ≡ Memory)
    → IfErr r (λ s. s ≡ Reading → after ≡ before)
memory_still (Ok a) before after h = tt
memory_still (Err s) before after h = λ e. let m : Memory ≡ Reading = sym h ∙ e in absurd (cc)
