use Rattle.proc_expand.proofs.KnownNames.{known_before}
use Rattle.proc_expand.proofs.known.add_procedure.Goals as goal

pub returns-in-Some : goal.returns-in-Some
returns-in-Some c =
    known_before c.args.tokens.now.lexemes c.args.place c.args.known.now c.bytes_at-name.result.now c.in-Some.field-0 c.bytes_at-name.ensures
    c.in-Some.ensures c.requires.known
