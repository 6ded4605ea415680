use Rattle.std.proofs.Common.{◌∙◌, arith}
use Rattle.proc_expand.proofs.Nested.{known_end, opens_here, at_index}
use Rattle.proc_expand.specs.declared.sign.Sign.TheVariants.{Opens}
use Rattle.proc_expand.proofs.brackets.end_here.Goals as goal

pub returns-in-Opens : goal.returns-in-Opens
returns-in-Opens c =
    known_end c.args.signs.now c.args.ends.now c.args.place c.args.place c.in-Opens.field-0 c.requires.ends (omega arith) c.requires.within c.in-Opens.is
    ∙ opens_here c.args.signs.now c.args.place c.args.bracket c.in-Opens.field-0 c.requires.within
    (at_index c.args.signs.now c.args.place (Opens c.in-Opens.field-0) c.requires.within c.in-Opens.is) c.requires.stops
