-- What a command comes to, by what its text comes to.
use Rattle.std.proofs.Common.{◌≡◌, ℕ, List, Option, refl, sym, subst}
use Rattle.std.specs.Prelude.{ℤ, Result, Ok, Err, IfOk}
use Rattle.jade_base.specs.declared.failure.Memory.{Memory}
use Rattle.jade_meaning.specs.Turns.{in_order}
use Rattle.jade_run.specs.declared.answer.Answer.{Answer}
use Rattle.jade_run.specs.declared.words.Command.{Command}
use Rattle.jade_run.specs.declared.words.Command.TheVariants.{Run, Serial, Check, Show, Drill, Record, Replay, Expand}
use Rattle.jade_run.specs.declared.words.Execution.{Execution}
use Rattle.jade_run.specs.Answered.{BySomeTurns, IsAnswered, IsExpanded, IsShown, IsTested}
use Rattle.jade_run.specs.Outcome.{IsCommanded}
use Rattle.jade_run.specs.Recordings.{IsReplayed}
use Rattle.jade_run.specs.Witnessed.{Carried, SawCommand, SeenRun}
use Rattle.jade_run.specs.steps.Drilling.{IsRunDrill}
use Rattle.jade_run.specs.steps.Ending.{IsRunText}
use Rattle.jade_run.specs.steps.Recording.{IsKeptText}

pub by_run : (c : Command) (w : ℕ) (e : Execution) (bytes : List ℕ) (ns : List ℤ) (r : Result Answer Memory) (old new : Option (List SeenRun))
    → c ≡ Run w e → ns ≡ e.numbers
    → IfOk r (λ a. BySomeTurns (λ turns. IsRunText bytes ns e.limit turns a.text.items a.status old new))
    → IfOk r (λ a. BySomeTurns (λ turns. Carried c bytes turns a.text.items a.status old new))
by_run c w e bytes ns (Ok a) old new is same h =
    let P : List ℤ → Type 0 = λ ms. IsRunText bytes ms e.limit h.0 a.text.items a.status old new in
    let Q : Command → Type 0 = λ z. Carried z bytes h.0 a.text.items a.status old new in
    let k = subst P same h.1 in
    (h.0, subst Q (sym is) (record { is = k.is; saw = k.saw }))
by_run c w e bytes ns (Err m) old new is same h = tt

-- a command that no workers carry out
unseen : (c d : Command) (bytes : List ℕ) (a : Answer) (seen : Option (List SeenRun)) → c ≡ d → IsCommanded d bytes in_order a.text.items a.status
    → SawCommand d bytes in_order a.status seen seen → BySomeTurns (λ turns. Carried c bytes turns a.text.items a.status seen seen)
unseen c d bytes a seen is h saw =
    let Q : Command → Type 0 = λ z. Carried z bytes in_order a.text.items a.status seen seen in
    (in_order, subst Q (sym is) (record { is = h; saw = saw }))

pub by_serial : (c : Command) (e : Execution) (bytes : List ℕ) (ns : List ℤ) (r : Result Answer Memory) (seen : Option (List SeenRun))
    → c ≡ Serial e → ns ≡ e.numbers → IfOk r (λ a. IsAnswered bytes ns e.limit in_order a.text.items a.status)
    → IfOk r (λ a. BySomeTurns (λ turns. Carried c bytes turns a.text.items a.status seen seen))
by_serial c e bytes ns (Ok a) seen is same h =
    let P : List ℤ → Type 0 = λ ms. IsAnswered bytes ms e.limit in_order a.text.items a.status in
    unseen c (Serial e) bytes a seen is (subst P same h) refl
by_serial c e bytes ns (Err m) seen is same h = tt

pub by_check : (c : Command) (bytes : List ℕ) (r : Result Answer Memory) (seen : Option (List SeenRun)) → c ≡ Check
    → IfOk r (λ a. IsTested bytes a.text.items a.status)
    → IfOk r (λ a. BySomeTurns (λ turns. Carried c bytes turns a.text.items a.status seen seen))
by_check c bytes (Ok a) seen is h = unseen c Check bytes a seen is h refl
by_check c bytes (Err m) seen is h = tt

pub by_show : (c : Command) (bytes : List ℕ) (r : Result Answer Memory) (seen : Option (List SeenRun)) → c ≡ Show
    → IfOk r (λ a. IsShown bytes a.text.items a.status)
    → IfOk r (λ a. BySomeTurns (λ turns. Carried c bytes turns a.text.items a.status seen seen))
by_show c bytes (Ok a) seen is h = unseen c Show bytes a seen is h refl
by_show c bytes (Err m) seen is h = tt

pub by_drill : (c : Command) (n w : ℕ) (bytes : List ℕ) (r : Result Answer Memory) (old new : Option (List SeenRun)) → c ≡ Drill n w
    → IfOk r (λ a. BySomeTurns (λ turns. IsRunDrill n turns a.text.items a.status old new))
    → IfOk r (λ a. BySomeTurns (λ turns. Carried c bytes turns a.text.items a.status old new))
by_drill c n w bytes (Ok a) old new is h =
    let Q : Command → Type 0 = λ z. Carried z bytes h.0 a.text.items a.status old new in
    (h.0, subst Q (sym is) (record { is = h.1.is; saw = h.1.saw }))
by_drill c n w bytes (Err m) old new is h = tt

pub by_record : (c : Command) (w : ℕ) (e : Execution) (bytes : List ℕ) (ns : List ℤ) (r : Result Answer Memory) (old new : Option (List SeenRun))
    → c ≡ Record w e → ns ≡ e.numbers
    → IfOk r (λ a. BySomeTurns (λ turns. IsKeptText bytes ns e.limit turns a.text.items a.status old new))
    → IfOk r (λ a. BySomeTurns (λ turns. Carried c bytes turns a.text.items a.status old new))
by_record c w e bytes ns (Ok a) old new is same h =
    let P : List ℤ → Type 0 = λ ms. IsKeptText bytes ms e.limit h.0 a.text.items a.status old new in
    let Q : Command → Type 0 = λ z. Carried z bytes h.0 a.text.items a.status old new in
    let k = subst P same h.1 in
    (h.0, subst Q (sym is) (record { is = k.is; saw = k.saw }))
by_record c w e bytes ns (Err m) old new is same h = tt

pub by_replay : (c : Command) (bytes : List ℕ) (r : Result Answer Memory) (seen : Option (List SeenRun)) → c ≡ Replay
    → IfOk r (λ a. IsReplayed bytes a.text.items a.status)
    → IfOk r (λ a. BySomeTurns (λ turns. Carried c bytes turns a.text.items a.status seen seen))
by_replay c bytes (Ok a) seen is h = unseen c Replay bytes a seen is h refl
by_replay c bytes (Err m) seen is h = tt

pub by_expand : (c : Command) (bytes : List ℕ) (r : Result Answer Memory) (seen : Option (List SeenRun)) → c ≡ Expand
    → IfOk r (λ a. IsExpanded bytes a.text.items a.status)
    → IfOk r (λ a. BySomeTurns (λ turns. Carried c bytes turns a.text.items a.status seen seen))
by_expand c bytes (Ok a) seen is h = unseen c Expand bytes a seen is h refl
by_expand c bytes (Err m) seen is h = tt
