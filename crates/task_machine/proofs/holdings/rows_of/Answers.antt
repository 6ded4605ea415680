use Rattle.std.proofs.Common.{◌≡◌, ◌∙◌, rules}
use Rattle.jade_syntax.specs.Objects.{sizes}
use Rattle.task_machine.specs.steps.Holding.{whole_row}
use Rattle.std.specs.Prelude.{◌++◌, [], ◌∷◌}
use Rattle.task_machine.proofs.Rows.{whole_next}
use Rattle.task_machine.proofs.holdings.rows_of.Goals as goal

pub loop-object-preserved : goal.loop-object-preserved
loop-object-preserved c =
    let pushed : c.push.new.self.items ≡ c.loop-object.rows.items ++ whole_row c.loop-object.object c.size.result ∷ [] = search rules in
    pushed ∙ whole_next c.loop-object.rows.items (sizes c.args.checked.now.program.items) c.loop-object.object c.size.result c.size.ensures
    c.loop-object.invariant
