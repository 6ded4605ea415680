use Rattle.std.proofs.Common.{◌≡◌, ◌-◌, length, drop}
use Rattle.name_scope.proofs.scope.NameScope.leave.Given as goal

abbrev pub invariant-ending : goal.invariant-ending
invariant-ending g l = drop (length l.self - l.len) l.self ≡ drop (length l.initial.self - l.len) l.initial.self

abbrev pub decreases-ending : goal.decreases-ending
decreases-ending g l = length l.self
