use Rattle.std.proofs.Common.{ap, ◌∙◌, subst, []}
use Rattle.jade_syntax.specs.PlacedImage.{block}
use Rattle.jade_syntax.specs.StaticFaults.{program_sites, faults_of, kept}
use Rattle.jade_syntax.specs.PlacedImage.{placed_program}
use Rattle.jade_types.specs.steps.Passed.{PassedBlock}
use Rattle.jade_types.specs.steps.Scoped.{Scoped}
use Rattle.jade_types.proofs.Noting.{after}
use Rattle.jade_types.proofs.faults.first_fault.Goals as goal

pub returns : goal.returns
returns c =
    let P : Scoped → Type 0 = λ s. PassedBlock c.visit_items.new.notes c.visit_block.new.notes s c.visit_block.new.scope (block c.args.program.now.main) in
    let main = subst P (c.of-scope.ensures ∙ ap (λ names. record { locals = []; items = names }) c.in_ok-known.ensures.names)
    c.in_ok-visit_block.ensures in
    (after c.in_ok-known.ensures.noted main.noted).by
    ∙ ap (λ f. kept f (faults_of (program_sites (placed_program c.args.program.now)))) c.none-notes.ensures
