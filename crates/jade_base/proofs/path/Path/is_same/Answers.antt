use Rattle.std.proofs.Common.{ap, ◌∙◌}
use Rattle.std.specs.Ordering.{is_eq}
use Rattle.jade_base.proofs.Paths.{is_eq-path_order}
use Rattle.jade_base.proofs.path.Path.is_same.Goals as goal

pub returns : goal.returns
returns c = c.is_eq.ensures ∙ ap is_eq c.compare.ensures ∙ is_eq-path_order c.args.self.now c.args.other.now
