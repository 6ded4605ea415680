use Rattle.std.proofs.Common.{◌≡◌, [], rules}
use Rattle.run_record.proofs.Passing.{no_line}
use Rattle.run_record.proofs.pieces.first_line.Goals as goal

pub returns-in-None : goal.returns-in-None
returns-in-None c line after f =
    let e : c.cut.result.1.now ≡ [] = search rules in
    no_line c.args.bytes.now c.cut.result.0.now c.cut.result.1.now line after c.cut.ensures e f
