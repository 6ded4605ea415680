use Rattle.std.proofs.Common.{◌≡◌, ◌∷◌, ap, ◌∙◌}
use Rattle.std.specs.Prelude.{reverse}
use Rattle.name_scope.proofs.Kept.{last_first, kept_less, newest_kept}
use Rattle.name_scope.proofs.scope.NameScope.end_newest.Goals as goal

pub invariant_of-self : goal.invariant_of-self
invariant_of-self g c =
    let left = c.pop.new.self.items in
    let before : reverse c.self.inside.entries.items ≡ c.in-Some.entry ∷ reverse left = ap reverse c.in-Some.ensures.items ∙ last_first left c.in-Some.entry in
    kept_less (reverse left) c.in-Some.entry c.in-Ok.ensures.updates.0 (rw (← before) c.self.invariant)

pub unreachable-requires : goal.unreachable-requires
unreachable-requires g c =
    let left = c.pop.new.self.items in
    let before : reverse c.self.inside.entries.items ≡ c.in-Some.entry ∷ reverse left = ap reverse c.in-Some.ensures.items ∙ last_first left c.in-Some.entry in
    newest_kept (reverse left) c.in-Some.entry (rw (← before) c.self.invariant) c.in-Err.ensures.absent
