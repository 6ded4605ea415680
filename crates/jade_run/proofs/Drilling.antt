-- What a drill comes to.
use Rattle.std.proofs.Common.{◌≡◌, ℕ, ◌⊎◌, inl, inr, List, [], Option, refl, sym, ◌∙◌, subst}
use Rattle.std.specs.Prelude.{Result, Ok, Err, IfOk}
use Rattle.jade_base.specs.declared.failure.Memory.{Memory as NoMemory}
use Rattle.jade_base.specs.declared.place.Pos.{Pos}
use Rattle.jade_gen.specs.Drill.{drill_text}
use Rattle.jade_syntax.specs.declared.tree.Program.{Program}
use Rattle.jade_syntax.specs.Image.{program}
use Rattle.jade_meaning.specs.Answer.{Answer, Faulted, Cells, answer}
use Rattle.jade_run.specs.declared.answer.Answer.{Answer as AnswerOf}
use Rattle.jade_run.specs.declared.status.Status.{Status}
use Rattle.jade_run.specs.declared.status.Status.TheVariants.{Good, Fault, Refused, Numbers}
use Rattle.jade_run.specs.Answered.{TurnLists, BySomeTurns, IsAnswered, IsDrilled, IsGood, Shows}
use Rattle.jade_meaning.specs.Turns.{in_order}
use Rattle.jade_run.specs.Answered.{summed, not_summed, answered, input_count}
use Rattle.jade_meaning.specs.Moved.{moved_answer}
use Rattle.jade_run.specs.Witnessed.{SeenRun}
use Rattle.jade_run.specs.steps.Drilling.{IsDrillOf, ShowsSum}
use Rattle.jade_run.specs.steps.Preparing.{IsSettled}

refused_is_bad : Refused ≡ Good → ⊥
refused_is_bad e = absurd (cc)

numbers_is_bad : Numbers ≡ Good → ⊥
numbers_is_bad e = absurd (cc)

unrun_is_bad : (status : Status) → (status ≡ Refused) ⊎ (status ≡ Numbers) → status ≡ Good → ⊥
unrun_is_bad status (inl e) g = refused_is_bad (sym e ∙ g)
unrun_is_bad status (inr e) g = numbers_is_bad (sym e ∙ g)

fault_is_bad : Fault ≡ Good → ⊥
fault_is_bad e = absurd (cc)

-- a drill whose text is answered without a run
pub settled_drilled : (tasks : ℕ) (bytes text : List ℕ) (status : Status) → bytes ≡ drill_text tasks → IsSettled bytes [] text status →
    IsDrilled tasks text status
settled_drilled tasks bytes text status e h =
    let P : List ℕ → Type 0 = λ b. IsAnswered b [] 4294967295 in_order text status in
    not_summed (subst P e (h.answered 4294967295 in_order)) (unrun_is_bad status h.unrun)

told : (tasks : ℕ) (tree : Program) (home : Pos → Pos) (text : List ℕ) (status : Status) → IsGood (drill_text tasks) tree home → input_count tree ≡ 0 →
    (x : Answer) → answer (program tree) [] 4294967295 in_order ≡ x → ShowsSum (program tree) tasks (moved_answer home x) text status → IsDrilled tasks text status
told tasks tree home text status g n (Cells store) e h = summed tree home g n store e h.0 h.1
told tasks tree home text status g n (Faulted path blame) e h =
    let P : Answer → Type 0 = λ x. Shows (program tree) (moved_answer home x) text status in
    not_summed (answered tree home g (sym n) (subst P (sym e) h)) (λ good. fault_is_bad (sym h.ended ∙ good))

pub sum_drilled : (tasks : ℕ) (bytes : List ℕ) (tree : Program) (home : Pos → Pos) (r : Result AnswerOf NoMemory) → bytes ≡ drill_text tasks →
    IsGood bytes tree home → input_count tree ≡ 0 → (IsGood (drill_text tasks) tree home → (turns : TurnLists) →
    answer (program tree) [] 4294967295 turns ≡ answer (program tree) [] 4294967295 in_order) →
    (old new : Option (List SeenRun)) → IfOk r (λ a. BySomeTurns (λ turns. IsDrillOf tree home tasks turns a.text.items a.status old new)) →
    IfOk r (λ a. IsDrilled tasks a.text.items a.status)
sum_drilled tasks bytes tree home (Ok a) made g n same old new h =
    let P : List ℕ → Type 0 = λ b. IsGood b tree home in
    let Q : Answer → Type 0 = λ x. ShowsSum (program tree) tasks (moved_answer home x) a.text.items a.status in
    let good : IsGood (drill_text tasks) tree home = subst P made g in
    told tasks tree home a.text.items a.status good n (answer (program tree) [] 4294967295 in_order) refl (subst Q (same good h.0) h.1.shows)
sum_drilled tasks bytes tree home (Err m) made g n same old new h = tt
