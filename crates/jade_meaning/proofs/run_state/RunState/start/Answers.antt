use Rattle.std.proofs.Common.{◌≡◌, ◌∙◌, ap, List, [], length, replicate}
use Rattle.jade_base.specs.declared.report.FaultNote.{FaultNote}
use Rattle.jade_base.specs.declared.report.PartStep.{PartStep}
use Rattle.jade_syntax.specs.Objects.{sizes}
use Rattle.jade_meaning.specs.declared.run_state.RunState.{RunState}
use Rattle.jade_meaning.specs.Serial.{Path, Store, zeros}
use Rattle.jade_meaning.proofs.Immediate.{zeros_length}
use Rattle.jade_meaning.proofs.run_state.RunState.start.Goals as goal

pub returns : goal.returns
returns c =
    let ns = sizes c.args.items.now in
    let none : List (List Path) = [] in
    let state : Store → List FaultNote → List (List Path) → List PartStep → RunState = λ o f t s. record { objects = o; faults = f; turns = t; steps = s } in
    let count : c.len-count.result ≡ length ns = c.len-count.ensures ∙ ap (λ (s : Store). length s) c.in_ok-objects.ensures ∙ zeros_length ns in
    ap (λ (s : Store). state s c.empty.result c.in_ok-none.field-0 c.empty-2.result) c.in_ok-objects.ensures
    ∙ ap (λ f. state (zeros ns) f c.in_ok-none.field-0 c.empty-2.result) c.empty.ensures
    ∙ ap (λ t. state (zeros ns) [] t c.empty-2.result) (c.in_ok-none.ensures ∙ ap (λ n. replicate n []) count)
    ∙ ap (λ s. state (zeros ns) [] (replicate (length ns) []) s) c.empty-2.ensures
