use Rattle.std.proofs.Common.{◌≡◌, ◌++◌, take, drop, map}
use Rattle.jade_base.proofs.Drafts.{with_draft_kept}
use Rattle.jade_base.proofs.spec.keep_drafts.Given as goal

abbrev pub invariant-loop-i : goal.invariant-loop-i
invariant-loop-i l = l.entries.items ≡ map with_draft_kept (take l.i l.initial.entries.items) ++ drop l.i l.initial.entries.items
