use Rattle.std.proofs.Common.{ap₂, sym, ◌∙◌, slice_set}
use Rattle.std.proofs.Math.Seq.{set-append_seam}
use Rattle.task_codegen.proofs.bodies.fill.Goals as goal

pub returns : goal.returns
returns c base rest old e long = ap₂ (λ l k. slice_set l k c.args.body) e (sym long) ∙ set-append_seam base old rest c.args.body
