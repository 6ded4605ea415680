use Rattle.jade_meaning.proofs.Covering.{CommutesFrom}
use Rattle.jade_meaning.proofs.dense_spec.DenseSpec.commuting_on.Given as goal

abbrev pub invariant-loop-object : goal.invariant-loop-object
invariant-loop-object l = CommutesFrom l.self l.object
