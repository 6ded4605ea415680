-- A program without static faults declares, hands to a task and assigns no item.
use Rattle.std.proofs.Common.{◌≡◌, Bool, true, false, List, [], ◌∷◌, ◌++◌, map, Option, Some, None, refl, sym, ap, ◌∙◌, subst}
use Rattle.std.proofs.lemmas.List.Elements.{filter_map-append}
use Rattle.std.specs.Prelude.{not, if◌then◌else◌}
use Rattle.std.specs.List.{cons_option}
use Rattle.jade_base.specs.declared.place.Pos.{Pos}
use Rattle.jade_syntax.specs.declared.tree.Item.{Item}
use Rattle.jade_syntax.specs.declared.tree.Item.TheVariants as item
use Rattle.jade_syntax.specs.declared.tree.ValueKind.TheVariants as value
use Rattle.jade_syntax.specs.declared.static_fault.StaticKind.TheVariants as fault
use Rattle.jade_syntax.specs.declared.static_fault.StaticFault.{StaticFault}
use Rattle.jade_syntax.specs.Abstract.{Name}
use Rattle.jade_syntax.specs.Numbering.{same_name}
use Rattle.jade_syntax.specs.Placed.{Mention, Phrase, Local, Assign, Store, If, IfElse, For, Withonly, With, Declare, Phrases, Done, Then, PlacedProgram}
use Rattle.jade_syntax.specs.Erased.{erased_phrase, erased_phrases, erased_program, erased_mention}
use Rattle.jade_syntax.specs.StaticFaults.{Meaning, Input, Holds, Turns, Single, Family, Names, known, found, Site, Uses, Declares, AsTarget, Handed, needed, given, parameter, parameters, mention_sites, names_after, sites, block_sites, item_names, item_sites, wrong_use, is_known, when, faulty, fault_at, faults_of, static_faults, kind_of_name}
use Rattle.proc_laws.specs.Expansion.{item_name, sets, sets_all}
use Rattle.proc_expand.specs.Names.{is_among}
use Rattle.proc_laws.proofs.Basics.{by_case, no_both, not_same}
use Rattle.proc_laws.proofs.Calls.{each_both}
use Rattle.proc_laws.proofs.Statements.{NoItem}

no_items : {A : Type 0} (xs ys : List A) → xs ++ ys ≡ [] → (xs ≡ []) × (ys ≡ [])
no_items [] ys e = (refl, e)
no_items (x ∷ xs) ys e = absurd (cc)

none_both : (xs ys : List Site) → faults_of (xs ++ ys) ≡ [] → (faults_of xs ≡ []) × (faults_of ys ≡ [])
none_both xs ys e = no_items (faults_of xs) (faults_of ys) (sym (filter_map-append fault_at xs ys) ∙ e)

none_first : (s : Site) (ss : List Site) → faults_of (s ∷ ss) ≡ [] → (fault_at s ≡ None) × (faults_of ss ≡ [])
none_first s ss h = by (fault_at s) (faults_of ss) h
  where
    by : (f : Option StaticFault) (fs : List StaticFault) → cons_option f fs ≡ [] → (f ≡ None) × (fs ≡ [])
    by None fs e = (refl, e)
    by (Some g) fs e = absurd (cc)

-- what an item's name stands for
abbrev OfItem : Option Meaning → Type 0
OfItem None = ⊥
OfItem (Some Input) = Unit {0}
OfItem (Some (Holds k)) = ⊥
OfItem (Some Turns) = ⊥
OfItem (Some Single) = Unit {0}
OfItem (Some Family) = Unit {0}

declared_item : (at : Pos) (o : Option Meaning) → OfItem o → faulty at (when (is_known o) fault.Twice) ≡ None → ⊥
declared_item at None h e = h
declared_item at (Some Input) h e = absurd (cc)
declared_item at (Some (Holds k)) h e = h
declared_item at (Some Turns) h e = h
declared_item at (Some Single) h e = absurd (cc)
declared_item at (Some Family) h e = absurd (cc)

target_item : (at : Pos) (o : Option Meaning) → OfItem o → faulty at (wrong_use AsTarget o) ≡ None → ⊥
target_item at None h e = h
target_item at (Some Input) h e = absurd (cc)
target_item at (Some (Holds k)) h e = h
target_item at (Some Turns) h e = h
target_item at (Some Single) h e = absurd (cc)
target_item at (Some Family) h e = absurd (cc)

handed_item : (at : Pos) (o : Option Meaning) → OfItem o → faulty at (wrong_use Handed o) ≡ None → ⊥
handed_item at None h e = h
handed_item at (Some Input) h e = absurd (cc)
handed_item at (Some (Holds k)) h e = h
handed_item at (Some Turns) h e = h
handed_item at (Some Single) h e = absurd (cc)
handed_item at (Some Family) h e = absurd (cc)

module _ (its : List Name) where
  -- each item's name stands for it
  abbrev Shows : Names → Type 0
  Shows names = (x : Name) → is_among its x ≡ true → OfItem (found x names)

  free : (x : Name) → (is_among its x ≡ true → ⊥) → not (is_among its x) ≡ true
  free x h = by_case (is_among its x) (λ e. absurd (h e)) (λ e. ap not e)

  shows_more : (x : Name) (m : Meaning) (names : Names) → (is_among its x ≡ true → ⊥) → Shows names → Shows (known x m ∷ names)
  shows_more x m names h s y i =
      subst OfItem (sym (ap (λ t. if t then Some m else found y names) (not_same y x (λ e. h (ap (is_among its) (sym e) ∙ i))))) (s y i)

  mentions : (names before : Names) → Shows names → (ms : List Mention) → faults_of (mention_sites names before ms) ≡ [] → NoItem its (map erased_mention ms)
  mentions names before s [] e = tt
  mentions names before s (m ∷ ms) e =
      let a = none_first (Uses Handed m.name m.at names) (Declares m.name m.at before ∷ mention_sites names (parameter names m ∷ before) ms) e in
      let b = none_first (Declares m.name m.at before) (mention_sites names (parameter names m ∷ before) ms) a.1 in
      (free m.name (λ i. handed_item m.at (found m.name names) (s m.name i) a.0), mentions names (parameter names m ∷ before) s ms b.1)

  not_free : (x : Name) → not (is_among its x) ≡ true → is_among its x ≡ true → ⊥
  not_free x h i = no_both (not (is_among its x)) h (ap not i)

  shows_params : (names items : Names) (ms : List Mention) → NoItem its (map erased_mention ms) → (before : Names) → Shows (before ++ items)
      → Shows (parameters names before ms ++ items)
  shows_params names items [] h before s = s
  shows_params names items (m ∷ ms) h before s =
      shows_params names items ms h.1 (parameter names m ∷ before)
      (shows_more m.name (Holds (kind_of_name (found m.name names))) (before ++ items) (not_free m.name h.0) s)

  module _ (items : Names) (shown : Shows items) where
    mutual
      clean : (p : Phrase) (names : Names) → Shows names → faults_of (sites items names p) ≡ [] → NoItem its (sets (erased_phrase p))
      clean (Local kind x at e) names s h =
          let a = none_first (Declares x at names) (needed kind names e) h in
          (free x (λ i. declared_item at (found x names) (s x i) a.0), tt)
      clean (Assign x at e) names s h =
          let a = none_first (Uses AsTarget x at names) (given (kind_of_name (found x names)) names e) h in
          (free x (λ i. target_item at (found x names) (s x i) a.0), tt)
      clean (Store o e v) names s h = tt
      clean (If e first) names s h =
          let a = none_both (needed value.Bool names e) (block_sites items names first) h in clean_all first names s a.1
      clean (IfElse e first other) names s h =
          let a = none_both (needed value.Bool names e ++ block_sites items names first) (block_sites items names other) h in
          let b = none_both (needed value.Bool names e) (block_sites items names first) a.0 in
          each_both (λ x. not (is_among its x)) (sets_all (erased_phrases first)) (sets_all (erased_phrases other)) (clean_all first names s b.1)
          (clean_all other names s a.1)
      clean (For x at low high body) names s h =
          let rest = needed value.Int names low ++ needed value.Int names high ++ block_sites items (known x Turns ∷ names) body in
          let a = none_first (Declares x at names) rest h in
          let b = none_both (needed value.Int names low ++ needed value.Int names high) (block_sites items (known x Turns ∷ names) body) a.1 in
          let n : is_among its x ≡ true → ⊥ = λ i. declared_item at (found x names) (s x i) a.0 in
          (free x n, clean_all body (known x Turns ∷ names) (shows_more x Turns names n s) b.1)
      clean (Withonly at section ms body) names s h =
          let a = none_both (block_sites items names section ++ mention_sites names [] ms) (block_sites items (parameters names [] ms ++ items) body) h in
          let b = none_both (block_sites items names section) (mention_sites names [] ms) a.0 in
          let m = mentions names [] s ms b.1 in
          each_both (λ x. not (is_among its x)) (sets_all (erased_phrases section)) (map erased_mention ms ++ sets_all (erased_phrases body))
          (clean_all section names s b.0)
          (each_both (λ x. not (is_among its x)) (map erased_mention ms) (sets_all (erased_phrases body)) m
          (clean_all body (parameters names [] ms ++ items) (shows_params names items ms m [] shown) a.1))
      clean (With at section) names s h = clean_all section names s h
      clean (Declare how at o) names s h = tt

      clean_all : (ps : Phrases) (names : Names) → Shows names → faults_of (block_sites items names ps) ≡ [] → NoItem its (sets_all (erased_phrases ps))
      clean_all Done names s h = tt
      clean_all (Then p more) names s h =
          let a = none_both (sites items names p) (block_sites items (names_after names p) more) h in
          each_both (λ x. not (is_among its x)) (sets (erased_phrase p)) (sets_all (erased_phrases more)) (clean p names s a.0)
          (clean_all more (names_after names p) (after p names s a.0) a.1)

      after : (p : Phrase) (names : Names) → Shows names → faults_of (sites items names p) ≡ [] → Shows (names_after names p)
      after (Local kind x at e) names s h =
          let a = none_first (Declares x at names) (needed kind names e) h in
          shows_more x (Holds (Some kind)) names (λ i. declared_item at (found x names) (s x i) a.0) s
      after (Assign x at e) names s h = s
      after (Store o e v) names s h = s
      after (If e first) names s h = s
      after (IfElse e first other) names s h = s
      after (For x at low high body) names s h = s
      after (Withonly at section ms body) names s h = s
      after (With at section) names s h = s
      after (Declare how at o) names s h = s

shows_items : (its : List Item) (x : Name) → is_among (map item_name its) x ≡ true → OfItem (found x (item_names its))
shows_items [] x h = absurd (cc)
shows_items (item.Input y at ∷ its) x h = by (same_name x y) (shows_items its x) h
  where
    by : (t : Bool) → (is_among (map item_name its) x ≡ true → OfItem (found x (item_names its))) → (if t then true else is_among (map item_name its) x) ≡ true
        → OfItem (if t then Some Input else found x (item_names its))
    by true k h = tt
    by false k h = k h
shows_items (item.Single y at size ∷ its) x h = by (same_name x y) (shows_items its x) h
  where
    by : (t : Bool) → (is_among (map item_name its) x ≡ true → OfItem (found x (item_names its))) → (if t then true else is_among (map item_name its) x) ≡ true
        → OfItem (if t then Some Single else found x (item_names its))
    by true k h = tt
    by false k h = k h
shows_items (item.Family y at count size ∷ its) x h = by (same_name x y) (shows_items its x) h
  where
    by : (t : Bool) → (is_among (map item_name its) x ≡ true → OfItem (found x (item_names its))) → (if t then true else is_among (map item_name its) x) ≡ true
        → OfItem (if t then Some Family else found x (item_names its))
    by true k h = tt
    by false k h = k h

pub faultless_clean : (p : PlacedProgram) → static_faults p ≡ [] → NoItem (map item_name p.items) (sets_all (erased_program p).main)
faultless_clean p h =
    let a = none_both (item_sites [] p.items) (block_sites (item_names p.items) (item_names p.items) p.main) h in
    clean_all (map item_name p.items) (item_names p.items) (shows_items p.items) p.main (item_names p.items) (shows_items p.items) a.1
