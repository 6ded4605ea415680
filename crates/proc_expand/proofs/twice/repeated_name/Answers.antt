use Rattle.std.proofs.Common.{◌+◌, Some, None, ap, sym, ◌∙◌}
use Rattle.std.specs.Map.{lookup}
use Rattle.jade_syntax.specs.Numbering.{same_name}
use Rattle.proc_expand.specs.Words.{bytes_at}
use Rattle.proc_expand.proofs.KnownNames.{lies_in}
use Rattle.proc_expand.proofs.Repeated.{no_name, name_repeats}
use Rattle.proc_expand.proofs.twice.repeated_name.Goals as goal

pub returns-then-not-has_name : goal.returns-then-not-has_name
returns-then-not-has_name c =
    let ts = c.args.tokens.now.lexemes in
    no_name ts c.args.place (lies_in ts c.args.scan.now c.requires.scan c.args.place c.requires.within) (sym c.has_name.ensures ∙ c.if-not-has_name.true)

pub returns-in-None : goal.returns-in-None
returns-in-None c =
    let ts = c.args.tokens.now.lexemes in
    name_repeats ts c.args.place (lies_in ts c.args.scan.now c.requires.scan c.args.place c.requires.within)
    (sym c.has_name.ensures ∙ c.if-not-has_name.false) None
    (c.in-None.ensures ∙ ap (λ x. lookup (same_name x) c.args.known.now) c.bytes_at.ensures ∙ c.requires.known.first_of (bytes_at ts (c.args.place + 1)))

pub returns-in-Some : goal.returns-in-Some
returns-in-Some c =
    let ts = c.args.tokens.now.lexemes in
    c.name_of_later.ensures
    ∙ name_repeats ts c.args.place (lies_in ts c.args.scan.now c.requires.scan c.args.place c.requires.within)
    (sym c.has_name.ensures ∙ c.if-not-has_name.false) (Some c.in-Some.procedure)
    (c.in-Some.ensures ∙ ap (λ x. lookup (same_name x) c.args.known.now) c.bytes_at.ensures ∙ c.requires.known.first_of (bytes_at ts (c.args.place + 1)))
