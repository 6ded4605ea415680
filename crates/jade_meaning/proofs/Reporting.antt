-- The report of a program that was run.
use Rattle.std.proofs.Common.{◌≡◌, [], ◌∷◌, ap, sym, ◌∙◌, ℕ, List, length, replicate, Result, Ok, Err}
use Rattle.std.specs.Prelude.{ℤ, IfOk}
use Rattle.jade_syntax.specs.declared.tree.Item.{Item}
use Rattle.jade_meaning.specs.Specification.{Specification}
use Rattle.jade_meaning.specs.Serial.{Path}
use Rattle.jade_syntax.specs.Abstract.{AbstractProgram}
use Rattle.jade_syntax.specs.Objects.{sizes}
use Rattle.jade_base.specs.Rights.{both_rights}
use Rattle.jade_meaning.specs.declared.run_state.RunState.{RunState}
use Rattle.jade_meaning.specs.Course.{Setting, Environment, inputs, finish}
use Rattle.jade_meaning.specs.Report.{report}
use Rattle.jade_meaning.specs.Turns.{in_order}
use Rattle.jade_meaning.specs.steps.Carry.{report_of, nothing_yet}
use Rattle.jade_meaning.specs.steps.Perform.{ended, perform_all, child_task}
use Rattle.jade_meaning.proofs.Carrying.{reports}
use Rattle.jade_meaning.proofs.Performing.{all_is, ended_is}

-- the root, run to its end, leaves the report
pub performed : (p : AbstractProgram) (ns : List ℤ) (limit : ℕ) (last : RunState)
    → last ≡ ended (0 ∷ []) (perform_all (record { items = p.items; given = inputs p.items ns; limit = limit }) (0 ∷ []) p.main
    (child_task (inputs p.items ns) (replicate (length (sizes p.items)) both_rights)) (nothing_yet (sizes p.items)))
    → report_of last ≡ report p ns limit in_order
performed p ns limit last h =
    let s : Setting = record { items = p.items; given = inputs p.items ns; limit = limit } in
    let t = child_task (inputs p.items ns) (replicate (length (sizes p.items)) both_rights) in
    let l : RunState = nothing_yet (sizes p.items) in
    reports p ns limit last (h ∙ sym (ended_is (0 ∷ []) (perform_all s (0 ∷ []) p.main t l)) ∙ sym (all_is s (0 ∷ []) p.main finish t l))

-- the same of what the code has
pub performed_by : (p : AbstractProgram) (ns : List ℤ) (limit n : ℕ) (items : List Item) (given env : Environment) (spec : Specification) (path : Path)
    (start last : RunState) → items ≡ p.items → given ≡ inputs p.items ns → env ≡ given → n ≡ length (sizes items) → spec ≡ replicate n both_rights
    → path ≡ 0 ∷ [] → start ≡ nothing_yet (sizes p.items)
    → last ≡ ended path (perform_all (record { items = items; given = given; limit = limit }) path p.main (child_task env spec) start)
    → report_of last ≡ report p ns limit in_order
performed_by p ns limit n items given env spec path start last a b c d e f g h =
    let first : RunState = nothing_yet (sizes p.items) in
    performed p ns limit last (h
    ∙ ap (λ x. ended path (perform_all (record { items = items; given = given; limit = limit }) path p.main (child_task env spec) x)) g
    ∙ ap (λ x. ended x (perform_all (record { items = items; given = given; limit = limit }) x p.main (child_task env spec) first)) f
    ∙ ap (λ x. ended (0 ∷ []) (perform_all (record { items = items; given = given; limit = limit }) (0 ∷ []) p.main (child_task env x) first))
    (e ∙ ap (λ k. replicate k both_rights) d)
    ∙ ap (λ x. ended (0 ∷ []) (perform_all (record { items = items; given = given; limit = limit }) (0 ∷ []) p.main
    (child_task x (replicate (length (sizes items)) both_rights)) first)) c
    ∙ ap (λ x. ended (0 ∷ []) (perform_all (record { items = items; given = x; limit = limit }) (0 ∷ []) p.main
    (child_task x (replicate (length (sizes items)) both_rights)) first)) b
    ∙ ap (λ x. ended (0 ∷ []) (perform_all (record { items = x; given = inputs p.items ns; limit = limit }) (0 ∷ []) p.main
    (child_task (inputs p.items ns) (replicate (length (sizes x)) both_rights)) first)) a)

pub in_ok : {A E : Type 0} {P Q : A → Type 0} (r : Result A E) → ((x : A) → P x → Q x) → IfOk r P → IfOk r Q
in_ok (Ok x) f h = f x h
in_ok (Err e) f h = h
