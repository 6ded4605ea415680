-- What a section has made, and one that is begun for a child.
use Rattle.std.proofs.Common.{◌≡◌, ℕ, zero, suc, [], ◌∷◌, length, refl, sym, ap, ◌∙◌, subst, arith}
use Rattle.std.specs.Prelude.{replicate}
use Rattle.jade_base.specs.declared.rights.Rights.{Rights}
use Rattle.jade_base.specs.Rights.{no_rights}
use Rattle.jade_base.specs.Specification.{rights_in, kept, IsAscending}
use Rattle.access_spec.specs.Copies.{copied}
use Rattle.jade_meaning.specs.Specification.{Specification, fitted}
use Rattle.jade_meaning.specs.Spread.{spread}
use Rattle.jade_meaning.specs.Course.{Draft, NoDraft, Building, Amending, drafted, working}
use Rattle.task_machine.specs.declared.section.Own.{Own}
use Rattle.task_machine.specs.declared.section.Section.{Section}
use Rattle.task_machine.specs.declared.section.Section.TheVariants as section
use Rattle.task_machine.specs.steps.Owning.{id, copy_spread, drafted_as, rights_of, draft_of}
use Rattle.task_machine.proofs.Sparse.{tab_long, kept_spread}
use Rattle.task_machine.proofs.Acting.{fits_already}

abbrev is_building : Draft → Type 0
is_building NoDraft = ⊥
is_building (Building s) = Unit {0}
is_building (Amending s) = ⊥

abbrev is_amending : Draft → Type 0
is_amending NoDraft = ⊥
is_amending (Building s) = ⊥
is_amending (Amending s) = Unit {0}

-- the specification in a draft
abbrev in_draft : Draft → Specification
in_draft NoDraft = []
in_draft (Building s) = s
in_draft (Amending s) = s

pub building_is : (w : Own) (s : Specification) → draft_of w ≡ Building s → (w.section ≡ section.Building) × (spread w.objects w.child.entries ≡ s)
building_is w s h = go w.section refl h
  where
    go : (k : Section) → w.section ≡ k → drafted_as k w.objects w.child w.spec ≡ Building s
        → (w.section ≡ section.Building) × (spread w.objects w.child.entries ≡ s)
    go section.Absent e q = absurd (subst is_building (sym q) tt)
    go section.Building e q = (e, ap in_draft q)
    go section.Amending e q = absurd (subst is_building (sym q) tt)

pub amending_is : (w : Own) (s : Specification) → draft_of w ≡ Amending s → (w.section ≡ section.Amending) × (copy_spread w.objects w.spec ≡ s)
amending_is w s h = go w.section refl h
  where
    go : (k : Section) → w.section ≡ k → drafted_as k w.objects w.child w.spec ≡ Amending s
        → (w.section ≡ section.Amending) × (copy_spread w.objects w.spec ≡ s)
    go section.Absent e q = absurd (subst is_amending (sym q) tt)
    go section.Building e q = absurd (subst is_amending (sym q) tt)
    go section.Amending e q = (e, ap in_draft q)

-- where a section is not one of the task itself, it leaves the rights as they are
pub not_amending : (w : Own) (s : Specification) → (w.section ≡ section.Amending → ⊥) → working (draft_of w) s ≡ s
not_amending w s ne = go w.section refl
  where
    go : (k : Section) → w.section ≡ k → working (drafted_as k w.objects w.child w.spec) s ≡ s
    go section.Absent e = refl
    go section.Building e = refl
    go section.Amending e = absurd (ne e)

none_fits : (base : Specification) (n : ℕ) → length base ≡ n → fitted base [] ≡ replicate n no_rights
none_fits [] zero e = refl
none_fits [] (suc n) e = absurd (omega (arith, e))
none_fits (a ∷ base) zero e = absurd (omega (arith, e))
none_fits (a ∷ base) (suc n) e = ap (λ l. no_rights ∷ l) (none_fits base n (omega (arith, e)))

-- rights on so many objects
pub long_fits : (w : Own) (s : Specification) → length s ≡ w.objects → fitted (rights_of w) s ≡ s
long_fits w s e = fits_already (rights_of w) s (e ∙ sym (tab_long (λ o. rights_in w.spec.entries (id o)) 0 w.objects))

pub rights_long : (w : Own) → length (rights_of w) ≡ w.objects
rights_long w = tab_long (λ o. rights_in w.spec.entries (id o)) 0 w.objects

pub made_long : (w : Own) (d : Draft) → length (fitted (rights_of w) (drafted d)) ≡ w.objects
made_long w d = go (rights_of w) (drafted d) ∙ tab_long (λ o. rights_in w.spec.entries (id o)) 0 w.objects
  where
    go : (base s : Specification) → length (fitted base s) ≡ length base
    go [] s = refl
    go (a ∷ base) [] = ap suc (go base [])
    go (a ∷ base) (b ∷ s) = ap suc (go base s)

pub begun_absent : (w : Own) → w.section ≡ section.Absent → Building (replicate w.objects no_rights) ≡ Building (fitted (rights_of w) (drafted (draft_of w)))
begun_absent w e =
    ap Building (sym (none_fits (rights_of w) w.objects (tab_long (λ o. rights_in w.spec.entries (id o)) 0 w.objects))
    ∙ ap (λ k. fitted (rights_of w) (drafted (drafted_as k w.objects w.child w.spec))) (sym e))

pub begun_building : (w : Own) → w.section ≡ section.Building → draft_of w ≡ Building (fitted (rights_of w) (drafted (draft_of w)))
begun_building w e =
    let f : ℕ → Rights = λ o. rights_in w.child.entries (id o) in
    ap (λ k. drafted_as k w.objects w.child w.spec) e
    ∙ ap Building (sym (long_fits w (spread w.objects w.child.entries) (tab_long f 0 w.objects)))
    ∙ ap (λ k. Building (fitted (rights_of w) (drafted (drafted_as k w.objects w.child w.spec)))) (sym e)

pub begun_amending : (w : Own) → w.section ≡ section.Amending → IsAscending w.spec.entries
    → Building (spread w.objects (kept w.spec.entries w.spec.draft)) ≡ Building (fitted (rights_of w) (drafted (draft_of w)))
begun_amending w e h =
    let f : ℕ → Rights = λ o. copied w.spec (id o) in
    ap Building (kept_spread w.objects w.spec h)
    ∙ ap Building (sym (long_fits w (copy_spread w.objects w.spec) (tab_long f 0 w.objects)))
    ∙ ap (λ k. Building (fitted (rights_of w) (drafted (drafted_as k w.objects w.child w.spec)))) (sym e)
