use Rattle.std.proofs.Common.{ap, sym, not, ◌∙◌}
use Rattle.jade_syntax.specs.declared.static_fault.StaticKind.TheVariants as fault
use Rattle.jade_syntax.specs.StaticFaults.{Needs, suits, when}
use Rattle.jade_types.proofs.faults.notes.Notes.needs.Goals as goal

pub returns : goal.returns
returns c = λ names e h. c.note_when.ensures (Needs c.args.kind e names) (sym h.pos)
    (ap (λ b. when (not b) fault.Kind) (sym (c.suits.ensures ∙ ap (suits c.args.kind) h.kind)))
