use Rattle.std.proofs.Common.{◌≡◌, take}
use Rattle.proc_expand.specs.steps.Replaced.{names_of}
use Rattle.proc_expand.proofs.NameLists.{items_among}
use Rattle.proc_expand.proofs.naming.items.Given as goal

abbrev pub invariant-loop-i : goal.invariant-loop-i
invariant-loop-i l = names_of l.found ≡ items_among l.tokens.lexemes l.signs (take l.i l.outer)
