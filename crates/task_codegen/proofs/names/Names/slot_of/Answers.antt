use Rattle.std.proofs.Common.{ap, ◌∙◌}
use Rattle.std.specs.Map.{lookup}
use Rattle.jade_syntax.specs.Numbering.{same_name}
use Rattle.task_translation.specs.Compile.{slot_of}
use Rattle.task_codegen.specs.Bodies.{InBody}
use Rattle.task_codegen.proofs.Naming.{slot_found}
use Rattle.task_codegen.proofs.names.Names.slot_of.Goals as goal

pub returns : goal.returns
returns c =
    let x = c.args.name.now in
    let variables = c.self.inside.variables in
    c.get.ensures ∙ ap (λ y. lookup (same_name y) variables) c.bytes.ensures ∙ slot_found x variables ∙ ap (λ (b : InBody). slot_of x b.scope) c.self.view_is
