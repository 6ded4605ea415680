use Rattle.std.proofs.Common.{◌≡◌, ap, ◌∙◌}
use Rattle.jade_syntax.specs.CheckedProgram.{CheckedProgram}
use Rattle.jade_syntax.specs.Image.{program as abstracted}
use Rattle.jade_meaning.specs.Course.{root_spec}
use Rattle.code_meaning.specs.Meaning.{code_course}
use Rattle.code_keeps.specs.Keeps.{whole_code}
use Rattle.task_code.specs.Rules.{TaskCode}
use Rattle.code_keeps.proofs.compiled.Compiled.code.Goals as goal

pub returns-clause-follows : goal.returns-clause-follows
returns-clause-follows c =
    let p = abstracted c.args.self.now.program in
    let code : c.self.inside.code ≡ whole_code p = c.self.invariant.0 ∙ ap (λ (k : CheckedProgram). whole_code (abstracted k.program)) c.self.view_is in
    λ limit numbers long. ap (λ (t : TaskCode). code_course t.bodies numbers limit (root_spec p)) code ∙ c.code_follows.ensures p limit numbers long
