-- What the checker says of a program.
use Rattle.std.specs.Prelude.{◌≡◌, Some}
use Rattle.jade_syntax.specs.declared.tree.Program.{Program}
use Rattle.jade_syntax.specs.PlacedImage.{placed_program}
use Rattle.jade_syntax.specs.StaticFaults.{static_faults, first_fault}
use Rattle.jade_types.specs.declared.checker.TypeError.{TypeError}
use Rattle.jade_types.specs.declared.checker.TypeError.TheVariants.{Refused, Memory}

-- a program is refused at the first of its static faults; want of memory says nothing of it
abbrev pub IsStaticRefusal : Program → TypeError → Type 0
IsStaticRefusal p (Refused at kind) = first_fault (static_faults (placed_program p)) ≡ Some (record { pos = at; kind = kind })
IsStaticRefusal p Memory = Unit {0}
