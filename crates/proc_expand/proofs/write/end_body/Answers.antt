use Rattle.std.proofs.Common.{[], sym, ap}
use Rattle.proc_expand.specs.Written.{text_names}
use Rattle.proc_expand.specs.steps.Frames.{end_of}
use Rattle.proc_expand.proofs.PenFacts.{wrote_none, same_wrote}
use Rattle.proc_expand.proofs.write.end_body.Goals as goal

pub returns-in-None-clause-wrote : goal.returns-in-None-clause-wrote
returns-in-None-clause-wrote c =
    let ts = c.args.tokens.now.lexemes in let end = c.args.tokens.now.end in
    same_wrote (text_names ts end) [] (end_of ts end c.args.call) c.args.pen.now c.args.pen.now (sym (ap (end_of ts end) c.in-None.is))
    (wrote_none (text_names ts end) c.args.pen.now c.requires)
