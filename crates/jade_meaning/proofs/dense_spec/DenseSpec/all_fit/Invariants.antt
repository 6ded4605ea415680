use Rattle.jade_meaning.proofs.Covering.{FitFrom}
use Rattle.jade_meaning.proofs.dense_spec.DenseSpec.all_fit.Given as goal

abbrev pub invariant-loop-object : goal.invariant-loop-object
invariant-loop-object l = FitFrom l.own l.self l.object
