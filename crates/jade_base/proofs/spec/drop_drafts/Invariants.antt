use Rattle.std.proofs.Common.{◌≡◌, ◌++◌, take, drop, map}
use Rattle.jade_base.proofs.Drafts.{with_same_draft}
use Rattle.jade_base.proofs.spec.drop_drafts.Given as goal

abbrev pub invariant-loop-i : goal.invariant-loop-i
invariant-loop-i l = l.entries.items ≡ map with_same_draft (take l.i l.initial.entries.items) ++ drop l.i l.initial.entries.items
