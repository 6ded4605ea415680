use Rattle.jade_syntax.specs.PlacedImage.{term}
use Rattle.jade_types.specs.steps.Scoped.{in_scope}
use Rattle.jade_types.proofs.Noting.{after}
use Rattle.jade_types.proofs.faults.expressions.visit_needed.Goals as goal

pub returns : goal.returns
returns c = after c.visit_expr-seen.ensures.noted (c.needs.ensures (in_scope c.args.scope.now) (term c.args.e.now) c.visit_expr-seen.ensures.sees)
