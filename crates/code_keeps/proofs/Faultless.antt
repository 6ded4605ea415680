-- Parts of a program without static faults.
use Rattle.std.proofs.Common.{◌≡◌, List, [], ◌∷◌, ◌++◌, Option, Some, None, refl, sym, ◌∙◌}
use Rattle.std.specs.List.{cons_option}
use Rattle.std.proofs.lemmas.List.Elements.{filter_map-append}
use Rattle.jade_base.specs.declared.place.Pos.{Pos}
use Rattle.jade_syntax.specs.declared.static_fault.StaticFault.{StaticFault}
use Rattle.jade_syntax.specs.declared.tree.Item.{Item}
use Rattle.jade_syntax.specs.Abstract.{Name}
use Rattle.jade_syntax.specs.Objects.{sizes}
use Rattle.jade_syntax.specs.Placed.{Mention}
use Rattle.jade_syntax.specs.StaticFaults.{Meaning, Input, Holds, Turns, Single, Family, Names, found, AsSingle, AsFamily, Site, Uses, fault_at, faulty}
use Rattle.jade_syntax.specs.StaticFaults.{faults_of, wrong_use, kind_of_name, parameter, parameters}
use Rattle.jade_meaning.specs.Course.{range_from}
use Rattle.code_keeps.proofs.Declared.{There, Knows, knows_more}

-- nothing is wrong at some places
pub record Faultless (places : List Site) : Type 0 where
  pub none : faults_of places ≡ []

both_empty : {A : Type 0} (xs ys : List A) → xs ++ ys ≡ [] → (xs ≡ []) × (ys ≡ [])
both_empty [] ys e = (refl, e)
both_empty (x ∷ xs) ys e = absurd (cc)

-- nor at those before, and those behind
pub split : (a b : List Site) → Faultless (a ++ b) → Faultless a × Faultless b
split a b f =
    let r = both_empty (faults_of a) (faults_of b) (sym (filter_map-append fault_at a b) ∙ f.none) in
    (record { none = r.0 }, record { none = r.1 })

pub rest : (s : Site) (places : List Site) → Faultless (s ∷ places) → Faultless places
rest s places f = record { none = by_case (fault_at s) f.none }
  where
    by_case : (o : Option StaticFault) → cons_option o (faults_of places) ≡ [] → faults_of places ≡ []
    by_case None e = e
    by_case (Some g) e = absurd (cc)

first : (s : Site) (places : List Site) → Faultless (s ∷ places) → fault_at s ≡ None
first s places f = by_case (fault_at s) f.none
  where
    by_case : (o : Option StaticFault) → cons_option o (faults_of places) ≡ [] → o ≡ None
    by_case None e = refl
    by_case (Some g) e = absurd (cc)

-- the name of an object that stands alone
pub single : (items : List Item) (names : Names) (x : Name) (at : Pos) (places : List Site) → Knows items names
    → Faultless (Uses AsSingle x at names ∷ places) → There (sizes items) (range_from 0 x items)
single items names x at places k f = by_case (found x names) refl (first _ places f)
  where
    by_case : (o : Option Meaning) → found x names ≡ o → faulty at (wrong_use AsSingle o) ≡ None → There (sizes items) (range_from 0 x items)
    by_case None is e = absurd (cc)
    by_case (Some Input) is e = absurd (cc)
    by_case (Some (Holds h)) is e = absurd (cc)
    by_case (Some Turns) is e = absurd (cc)
    by_case (Some Single) is e = k.object x Single is tt
    by_case (Some Family) is e = absurd (cc)

-- the name of a family
pub family : (items : List Item) (names : Names) (x : Name) (at : Pos) (places : List Site) → Knows items names
    → Faultless (Uses AsFamily x at names ∷ places) → There (sizes items) (range_from 0 x items)
family items names x at places k f = by_case (found x names) refl (first _ places f)
  where
    by_case : (o : Option Meaning) → found x names ≡ o → faulty at (wrong_use AsFamily o) ≡ None → There (sizes items) (range_from 0 x items)
    by_case None is e = absurd (cc)
    by_case (Some Input) is e = absurd (cc)
    by_case (Some (Holds h)) is e = absurd (cc)
    by_case (Some Turns) is e = absurd (cc)
    by_case (Some Single) is e = absurd (cc)
    by_case (Some Family) is e = k.object x Family is tt

-- the names of a `do` list are those of no objects
pub knows_parameters : (items : List Item) (base names before : Names) (ms : List Mention) → Knows items (before ++ base)
    → Knows items (parameters names before ms ++ base)
knows_parameters items base names before [] k = k
knows_parameters items base names before (m ∷ ms) k =
    knows_parameters items base names (parameter names m ∷ before) ms
    (knows_more items m.name (Holds (kind_of_name (found m.name names))) (before ++ base) (λ o. o) k)
