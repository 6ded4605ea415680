use Rattle.std.proofs.Common.{arith, sym}
use Rattle.jade_types.specs.steps.Bodies.{names_in}
use Rattle.jade_types.proofs.Putting.{told, more, all, mentioned, names_open}
use Rattle.jade_types.proofs.numbers.statements.number_names.Goals as goal

pub loop-i-preserved : goal.loop-i-preserved
loop-i-preserved c = more (mentioned (names_in c.args.body.now)) c.args.names.now c.loop-i.i _ c.at.ensures c.loop-i.invariant c.in_ok-number_name.ensures

pub returns : goal.returns
returns c =
    told (sym (names_open (names_in c.args.body.now) c.args.names.now))
    (all (mentioned (names_in c.args.body.now)) _ c.loop-i.i (omega arith) c.loop-i.invariant)
