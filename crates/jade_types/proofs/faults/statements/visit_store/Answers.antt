use Rattle.std.proofs.Common.{refl, sym, subst}
use Rattle.jade_syntax.specs.Placed.{Store}
use Rattle.jade_syntax.specs.PlacedImage.{Reference, forms, term}
use Rattle.jade_types.specs.steps.Passed.{Passed}
use Rattle.jade_types.proofs.Noting.{after}
use Rattle.jade_syntax.proofs.Opened.{cell_opens}
use Rattle.jade_types.proofs.faults.statements.visit_store.Goals as goal

pub returns : goal.returns
returns c =
    let P : Reference → Type 0 = λ r. Passed c.args.notes.now c.visit_needed-2.new.notes c.args.scope.now c.args.scope.now
    (Store r.place r.cell (term c.args.value.now)) in
    subst P (sym (cell_opens forms c.args.target.now))
    (record { noted = after (after c.visit_object.ensures c.visit_needed.ensures) c.visit_needed-2.ensures; scope = refl })
