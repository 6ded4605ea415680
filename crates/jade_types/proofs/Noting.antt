-- Places that are gone through one after another.
use Rattle.std.proofs.Common.{◌≡◌, List, [], ◌∷◌, ◌++◌, Option, Some, refl, ap, sym, ◌∙◌}
use Rattle.std.proofs.lemmas.List.Elements.{filter_map-append}
use Rattle.jade_syntax.specs.declared.static_fault.StaticFault.{StaticFault}
use Rattle.jade_syntax.specs.StaticFaults.{Site, keep, kept, faults_of, fault_at}
use Rattle.jade_types.specs.declared.faults.notes.Notes.{Notes}
use Rattle.jade_types.specs.steps.Noted.{Noted}

kept_both : (f : Option StaticFault) (a b : List StaticFault) → kept f (a ++ b) ≡ kept (kept f a) b
kept_both f [] b = refl
kept_both f (g ∷ a) b = kept_both (Some (keep f g)) a b

pub kept_sites : (f : Option StaticFault) (a b : List Site) → kept f (faults_of (a ++ b)) ≡ kept (kept f (faults_of a)) (faults_of b)
kept_sites f a b = ap (kept f) (filter_map-append fault_at a b) ∙ kept_both f (faults_of a) (faults_of b)

pub nothing : (n : Notes) → Noted n n []
nothing n = record { by = refl }

pub after : {n0 n1 n2 : Notes} {a b : List Site} → Noted n0 n1 a → Noted n1 n2 b → Noted n0 n2 (a ++ b)
after {n0} {n1} {n2} {a} {b} p q = record { by = q.by ∙ ap (λ f. kept f (faults_of b)) p.by ∙ sym (kept_sites n0.first a b) }

-- some of all places were gone through, and these are left
pub record Left (before now : Notes) (all rest : List Site) : Type 0 where
  pub by : kept before.first (faults_of all) ≡ kept now.first (faults_of rest)

pub begins : (n : Notes) (all : List Site) → Left n n all all
begins n all = record { by = refl }

pub goes_on : {n0 n1 n2 : Notes} {all a b : List Site} → Left n0 n1 all (a ++ b) → Noted n1 n2 a → Left n0 n2 all b
goes_on {n0} {n1} {n2} {all} {a} {b} p q = record { by = p.by ∙ kept_sites n1.first a b ∙ ap (λ f. kept f (faults_of b)) (sym q.by) }

pub ends : {n0 n1 : Notes} {all : List Site} → Left n0 n1 all [] → Noted n0 n1 all
ends p = record { by = sym p.by }
