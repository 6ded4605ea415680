use Rattle.std.proofs.Common.{◌≡◌, ℕ, ◌^◌, ◌<◌, length, sym, ap, ◌∙◌, subst}
use Rattle.jade_syntax.specs.CheckedProgram.{CheckedProgram}
use Rattle.jade_syntax.specs.Objects.{sizes}
use Rattle.task_code.specs.Rules.{TaskCode}
use Rattle.code_keeps.proofs.Inputs.{inputs_many}
use Rattle.task_suspend.proofs.Beginning.{rooted}
use Rattle.task_suspend.proofs.capsule.Capsule.root.Goals as goal

pub root-requires-clause-numbers : goal.root-requires-clause-numbers
root-requires-clause-numbers g c =
    c.requires.given ∙ inputs_many c.args.compiled.now.program.items ∙ sym (ap (λ (x : TaskCode). x.inputs) c.decoded.ensures.code)

pub invariant_of-result : goal.invariant_of-result
invariant_of-result g c = record {
  tied = rw c.in_ok-task.ensures
      (rooted c.args.compiled.now.program c.decoded.result.now c.args.numbers.now c.args.limit c.decoded.ensures.code (c.decoded.ensures.follows c.args.limit)
      (c.requires.given ∙ inputs_many c.args.compiled.now.program.items) g.N.RunName.mark g.N.RunName.plan c.args.pass c.in_ok-machine.machine
      c.requires.mark c.requires.shows c.requires.plan c.in_ok-machine.ensures.begins c.in_ok-machine.ensures.objects);
}

pub root-requires-clause-objects : goal.root-requires-clause-objects
root-requires-clause-objects g c =
    let count : c.objects-objects.result ≡ length c.decoded.result.now.sizes = c.objects-objects.ensures
    ∙ ap (λ (p : CheckedProgram). length (sizes p.program.items)) c.checked.ensures ∙ sym (ap (λ (x : TaskCode). length x.sizes) c.decoded.ensures.code) in
    let P : ℕ → Type 0 = λ n. n < 2 ^ 32 in
    subst P count c.objects-objects.type_inv
