use Rattle.std.proofs.Common.{[], ◌∷◌, ◌++◌, ap, sym, ◌∙◌}
use Rattle.jade_syntax.specs.Objects.{sizes}
use Rattle.task_codegen.proofs.Ranging.{sizes_more}
use Rattle.task_codegen.proofs.ranges.sizes.Goals as goal

pub loop-i-preserved : goal.loop-i-preserved
loop-i-preserved c =
    let item = c.at.result.now in
    c.in_ok-push_sizes.ensures ∙ ap (λ l. l ++ sizes (item ∷ [])) c.loop-i.invariant ∙ sym (sizes_more c.args.items.now c.loop-i.i item c.at.ensures)
