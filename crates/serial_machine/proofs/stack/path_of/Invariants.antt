use Rattle.std.proofs.Common.{◌≡◌, ◌∷◌, map, take}
use Rattle.serial_machine.specs.declared.level.Level.{Level}
use Rattle.serial_machine.proofs.stack.path_of.Given as goal

abbrev pub invariant-waiting : goal.invariant-waiting
invariant-waiting l = l.path ≡ 0 ∷ map (λ (v : Level). v.children) (take l.place l.waiting)
