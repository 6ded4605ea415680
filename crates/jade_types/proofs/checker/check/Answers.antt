use Rattle.std.proofs.Common.{◌≡◌, List, [], ◌∷◌, None, Some, refl, sym, ◌∙◌}
use Rattle.jade_syntax.specs.declared.static_fault.StaticFault.{StaticFault}
use Rattle.jade_syntax.specs.StaticFaults.{kept, keep, first_fault}
use Rattle.jade_types.proofs.checker.check.Goals as goal

-- what is kept once is not lost
still_kept : (f : StaticFault) (faults : List StaticFault) → kept (Some f) faults ≡ None → ⊥
still_kept f [] e = cc
still_kept f (g ∷ faults) e = still_kept (keep (Some f) g) faults e

-- only of no faults is there no first
no_faults : (faults : List StaticFault) → first_fault faults ≡ None → faults ≡ []
no_faults [] e = refl
no_faults (f ∷ faults) e = absurd (still_kept f faults e)

pub of-requires : goal.of-requires
of-requires c = record { faultless = no_faults _ (sym c.in_ok-fault.ensures ∙ c.in-None.is); numbered = c.in_ok-stands-in-None.ensures }
