use Rattle.jade_meaning.proofs.Covering.{CoversFrom}
use Rattle.jade_meaning.proofs.dense_spec.DenseSpec.covers.Given as goal

abbrev pub invariant-loop-object : goal.invariant-loop-object
invariant-loop-object l = CoversFrom l.self l.child l.object
