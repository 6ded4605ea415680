use Rattle.std.proofs.Common.{◌∙◌, ap, w64}
use Rattle.std.proofs.lemmas.Int.{to_z-of_z}
use Rattle.object_shelf.specs.Shelves.{written}
use Rattle.schedule_core.proofs.steps.write_to.Goals as goal

pub returns-clause-shelf : goal.returns-clause-shelf
returns-clause-shelf c = c.write.ensures ∙ ap (λ z. written c.args.cell z c.args.shelf.now) (to_z-of_z w64 c.args.value c.ranges.value)
