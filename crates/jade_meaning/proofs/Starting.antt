-- What a task takes when it begins, told without the object on which it commutes, and then of that one.
use Rattle.std.proofs.Common.{◌≡◌, ◌≢◌, ℕ, ◌<◌, true, false, List, [], ◌∷◌, ◌++◌, length, refl, sym, ap, ◌∙◌, Some, None, arith, append-nil, Result, Ok, Err}
use Rattle.std.proofs.Common.{get_or-set_same, get_or-set_other, ◌⊎◌, inl, inr}
use Rattle.std.specs.Prelude.{nat_eq, slice_set, if◌then◌else◌, OnOk}
use Rattle.std.specs.List.{flat_map}
use Rattle.std.proofs.lemmas.List.{length-set}
use Rattle.std.proofs.lemmas.Grind.{flat_map-append}
use Rattle.std.proofs.lemmas.Bool.Decides.{eqb_tells}
use Rattle.jade_base.specs.declared.rights.Rights.{Rights}
use Rattle.jade_base.specs.Rights.{no_rights, mode_of}
use Rattle.jade_meaning.specs.Specification.{Specification, rights_on, numbers, objects, commuting_on}
use Rattle.jade_meaning.specs.Talk.{Event, Holds, take_in, without, own_last, start_takes}
use Rattle.jade_meaning.specs.declared.holds.Listing.TheVariants.{StartTakes}
use Rattle.jade_meaning.specs.steps.Holding.{all_listed}
use Rattle.jade_meaning.proofs.Telling.{among_below}

abbrev takes : Specification → ℕ → List Event
takes spec o = take_in (mode_of (rights_on spec o)) o

pub start_none : (spec : Specification) (h : Holds) → commuting_on spec ≡ None → all_listed StartTakes spec spec h ≡ start_takes spec
start_none spec h e = ap (λ x. flat_map (takes spec) (own_last x (objects spec))) (sym e)

without_own : (f g : ℕ → List Event) (own : ℕ) (os : List ℕ) → g own ≡ [] → ((x : ℕ) → x ≢ own → g x ≡ f x) → flat_map g os ≡ flat_map f (without own os)
without_own f g own [] h k = refl
without_own f g own (x ∷ os) h k = go (eqb_tells own x) (without_own f g own os h k)
  where
    go : ((nat_eq own x ≡ true) × (own ≡ x)) ⊎ ((nat_eq own x ≡ false) × (own ≢ x)) → flat_map g os ≡ flat_map f (without own os)
        → flat_map g (x ∷ os) ≡ flat_map f (without own (x ∷ os))
    go (inl e) r =
        ap (λ z. g z ++ flat_map g os) (sym e.1) ∙ ap (λ l. l ++ flat_map g os) h ∙ r
        ∙ sym (ap (λ b. flat_map f (if b then without own os else x ∷ without own os)) e.0)
    go (inr e) r =
        ap (λ l. l ++ flat_map g os) (k x (λ i. e.1 (sym i))) ∙ ap (λ l. f x ++ l) r
        ∙ sym (ap (λ b. flat_map f (if b then without own os else x ∷ without own os)) e.0)

pub start_some : (spec : Specification) (own : ℕ) (h : Holds) → commuting_on spec ≡ Some own
    → all_listed StartTakes (slice_set spec own no_rights) (slice_set spec own no_rights) h ++ takes spec own ≡ start_takes spec
start_some spec own h e =
    let others = slice_set spec own no_rights in
    let lt : own < length spec = let l = among_below spec 0 (length spec) own e in omega (arith, l) in
    let none : takes others own ≡ [] = ap (λ (a : Rights). take_in (mode_of a) own) (get_or-set_same spec own no_rights no_rights lt) in
    let same = λ (x : ℕ) (ne : x ≢ own). ap (λ (a : Rights). take_in (mode_of a) x) (get_or-set_other spec own x no_rights no_rights ne) in
    ap (λ n. flat_map (takes others) (numbers 0 n) ++ takes spec own) (length-set spec own no_rights)
    ∙ ap (λ l. l ++ takes spec own) (without_own (takes spec) (takes others) own (objects spec) none same)
    ∙ sym (ap (λ x. flat_map (takes spec) (own_last x (objects spec))) e ∙ flat_map-append (takes spec) (without own (objects spec)) (own ∷ [])
    ∙ ap (λ l. flat_map (takes spec) (without own (objects spec)) ++ l) (append-nil (takes spec own)))

pub on_ok : {E P Q : Type 0} (r : Result (Unit {0}) E) → (P → Q) → OnOk r P → OnOk r Q
on_ok (Ok x) f h = f h
on_ok (Err e) f h = tt
