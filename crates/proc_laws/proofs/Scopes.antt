-- The variables of a body and those of its caller.
use Rattle.std.proofs.Common.{◌≡◌, ℕ, zero, suc, ◌-◌, ◌≤◌, Bool, true, false, List, [], ◌∷◌, ◌++◌, length, drop, map, refl, sym, ap, ◌∙◌, arith}
use Rattle.std.specs.Prelude.{not, if◌then◌else◌}
use Rattle.jade_syntax.specs.Abstract.{Name}
use Rattle.jade_syntax.specs.Numbering.{same_name}
use Rattle.jade_meaning.specs.declared.values.Value.{Value}
use Rattle.jade_meaning.specs.Course.{Environment, Setting, Mine, On, value_of, assigned, copied, leave, scoped, step}
use Rattle.jade_meaning.specs.Course.{Steps, Ends, limit_blame}
use Rattle.std.specs.Prelude.{nat_lt, Some}
use Rattle.proc_laws.specs.Expansion.{Each}
use Rattle.proc_expand.specs.Names.{is_among}
use Rattle.proc_laws.proofs.Basics.{by_case, no_both, Apart, bound, moved, absent, assigned_within, drop_front, length_moved, drop_moved}
use Rattle.proc_laws.proofs.Basics.{not_same}
use Rattle.proc_laws.proofs.Evaluations.{Renames, Sees, seeing, choose_same}

-- variables of a body: known names that are no item's
abbrev pub Held : (items : List Name) (known : Name → Bool) → Environment → Type 0
Held items known [] = Unit {0}
Held items known (b ∷ ls) = (known b.name ≡ true) × (is_among items b.name ≡ false) × Held items known ls

-- what stands behind the variables of a body: each item has its value there, no other replaced name stands there, nor any name still to be given
pub record Behind (s : Setting) (items : List Name) (fresh : ℕ → Name) (known : Name → Bool) (to : Name → Name) (n : ℕ) (c : Environment) : Type 0 where
  pub item_seen : (x : Name) → is_among items x ≡ true → value_of x s.given ≡ value_of x c
  pub apart : (x : Name) → known x ≡ true → is_among items x ≡ false → Apart (to x) (bound c)
  pub aged : (i : ℕ) → n ≤ i → Apart (fresh i) (bound c)

-- the inputs are items
abbrev pub AreItems : Setting → List Name → Type 0
AreItems s items = Each (λ x. is_among items x) (bound s.given)

module _ (s : Setting) (items : List Name) (given_items : AreItems s items) where
  apart_items : (x : Name) → is_among items x ≡ false → (ys : List Name) → Each (λ y. is_among items y) ys → Apart x ys
  apart_items x h [] each = tt
  apart_items x h (y ∷ ys) each =
      (ap not (not_same x y (λ e. no_both (is_among items x) (ap (is_among items) e ∙ each.0) h)), apart_items x h ys each.1)

  pub no_input : (x : Name) → is_among items x ≡ false → Apart x (bound s.given)
  no_input x h = apart_items x h (bound s.given) given_items

  module _ (fresh : ℕ → Name) (known : Name → Bool) (to : Name → Name) (n : ℕ) (r : Renames items fresh known to n) where
    -- an item that is no variable of the body
    pub held_apart : (x : Name) → is_among items x ≡ true → (ls : Environment) → Held items known ls → Apart x (bound ls)
    held_apart x h [] k = tt
    held_apart x h (b ∷ ls) k =
        (ap not (not_same x b.name (λ e. no_both (is_among items b.name) (ap (is_among items) (sym e) ∙ h) k.1)), held_apart x h ls k.2)

    -- a name that is still to be given is no variable of the body
    pub fresh_apart : (i : ℕ) → n ≤ i → (ls : Environment) → Held items known ls → Apart (fresh i) (bound (moved to ls))
    fresh_apart i le [] k = tt
    fresh_apart i le (b ∷ ls) k = (ap not (r.old b.name k.0 i le), fresh_apart i le ls k.2)

    -- after the end of an inner block
    pub held_drop : (i : ℕ) (ls : Environment) → Held items known ls → Held items known (drop i ls)
    held_drop zero ls k = k
    held_drop (suc i) [] k = k
    held_drop (suc i) (b ∷ ls) k = held_drop i ls k.2

    pub held_assigned : (x : Name) (v : Value) (ls : Environment) → Held items known ls → Held items known (assigned x v ls)
    held_assigned x v [] k = k
    held_assigned x v (b ∷ ls) k = by (same_name x b.name) (held_assigned x v ls k.2) k
      where
        by : (t : Bool) → Held items known (assigned x v ls) → Held items known (b ∷ ls)
            → Held items known (if t then record b { value = v } ∷ ls else b ∷ assigned x v ls)
        by true h k = k
        by false h k = (k.0, k.1, h)

    pub moved_assigned : (x : Name) → known x ≡ true → (v : Value) (ls : Environment) → Held items known ls
        → assigned (to x) v (moved to ls) ≡ moved to (assigned x v ls)
    moved_assigned x h v [] k = refl
    moved_assigned x h v (b ∷ ls) k =
        ap (λ t. if t then record { name = to b.name; value = v } ∷ moved to ls else record { name = to b.name; value = b.value } ∷ assigned (to x) v (moved to ls))
        (r.keeps x b.name h k.0) ∙ by (same_name x b.name) (moved_assigned x h v ls k.2)
      where
        by : (t : Bool) → assigned (to x) v (moved to ls) ≡ moved to (assigned x v ls)
            → (if t then record { name = to b.name; value = v } ∷ moved to ls else record { name = to b.name; value = b.value } ∷ assigned (to x) v (moved to ls))
            ≡ moved to (if t then record b { value = v } ∷ ls else b ∷ assigned x v ls)
        by true e = refl
        by false e = ap (λ u. record { name = to b.name; value = b.value } ∷ u) e

    module _ (c : Environment) (o : Behind s items fresh known to n c) where
      behind_sees : (x : Name) → known x ≡ true → value_of x s.given ≡ value_of (to x) c
      behind_sees x h = by_case (is_among items x) (λ i. o.item_seen x i ∙ ap (λ y. value_of y c) (sym (r.item x i)))
          (λ p. absent x s.given (no_input x p) ∙ sym (absent (to x) c (o.apart x h p)))

      pub sees_of : (ls : Environment) → Held items known ls → Sees known to (ls ++ s.given) (moved to ls ++ c)
      sees_of [] k x h = behind_sees x h
      sees_of (b ∷ ls) k x h =
          ap (λ u. if same_name x b.name then b.value else u) (sees_of ls k.2 x h)
          ∙ ap (λ t. if t then b.value else value_of (to x) (moved to ls ++ c)) (sym (r.keeps x b.name h k.0))

      pub moved_assignment : (x : Name) → known x ≡ true → is_among items x ≡ false → (v : Value) (ls : Environment) → Held items known ls
          → assigned (to x) v (moved to ls ++ c) ≡ moved to (assigned x v ls) ++ c
      moved_assignment x h i v ls k =
          assigned_within (to x) v (moved to ls) c (o.apart x h i) ∙ ap (λ u. u ++ c) (moved_assigned x h v ls k)

      pub source_assignment : (x : Name) → is_among items x ≡ false → (v : Value) (ls : Environment)
          → assigned x v (ls ++ s.given) ≡ assigned x v ls ++ s.given
      source_assignment x i v ls = assigned_within x v ls s.given (no_input x i)

      pub moved_copied : (names : List Name) → Each known names → (ls : Environment) → Held items known ls
          → copied (map to names) (moved to ls ++ c) ≡ moved to (copied names (ls ++ s.given))
      moved_copied [] h ls k = refl
      moved_copied (x ∷ xs) h ls k =
          ap (λ v. record { name = to x; value = v } ∷ copied (map to xs) (moved to ls ++ c)) (sym (sees_of ls k x h.0))
          ∙ ap (λ u. record { name = to x; value = value_of x (ls ++ s.given) } ∷ u) (moved_copied xs h.1 ls k)

    -- what stands behind the variables of a child
    pub behind_child : Behind s items fresh known to n s.given
    behind_child = record {
      item_seen = λ x i. refl;
      apart = λ x h i. no_input (to x) (r.other x h i);
      aged = λ i le. apart_fresh i le (bound s.given) given_items;
    }
      where
        apart_fresh : (i : ℕ) → n ≤ i → (ys : List Name) → Each (λ y. is_among items y) ys → Apart (fresh i) ys
        apart_fresh i le [] each = tt
        apart_fresh i le (y ∷ ys) each =
            (ap not (ap (same_name (fresh i)) (sym (r.item y each.0)) ∙ r.old y (r.item_known y each.0) i le), apart_fresh i le ys each.1)

-- what follows in the source, and what follows where names are replaced, are the same for all variables of the body
abbrev pub Follows : (s : Setting) (items : List Name) (known : Name → Bool) (to : Name → Name) (c : Environment) (on on' : On) → Type 0
Follows s items known to c on on' =
    (ls : Environment) → Held items known ls → (m : Mine) → on (seeing m (ls ++ s.given)) ≡ on' (seeing m (moved to ls ++ c))

module _ (s : Setting) (items : List Name) (known : Name → Bool) (to : Name → Name) (c : Environment)
    (held_drops : (i : ℕ) (ls : Environment) → Held items known ls → Held items known (drop i ls)) where
  pub step_same : (on on' : On) → Follows s items known to c on on' → Follows s items known to c (step s.limit on) (step s.limit on')
  step_same on on' f ls k m =
      choose_same (nat_lt m.taken s.limit) (λ n. Steps (on (record n { taken = suc n.taken }))) (λ n. Ends (Some limit_blame))
      (λ n. Steps (on' (record n { taken = suc n.taken }))) (λ n. Ends (Some limit_blame)) (seeing m (ls ++ s.given)) (seeing m (moved to ls ++ c))
      (ap Steps (f ls k (record m { taken = suc m.taken }))) refl

  -- at the end of a block both drop as many variables
  pub leave_same : (on on' : On) → Follows s items known to c on on' → (ls : Environment) (m : Mine)
      → Follows s items known to c (λ n. on (leave (seeing m (ls ++ s.given)) n)) (λ n. on' (leave (seeing m (moved to ls ++ c)) n))
  leave_same on on' f ls m ks k n =
      let i = length ks - length ls in
      let j : length (moved to ks) - length (moved to ls) ≡ i = omega (arith, length_moved to ks, length_moved to ls) in
      ap (λ e. on (seeing n e)) (drop_front ks ls s.given)
      ∙ f (drop i ks) (held_drops i ks k) n
      ∙ ap (λ e. on' (seeing n e)) (sym (drop_front (moved to ks) (moved to ls) c ∙ ap (λ t. drop t (moved to ks) ++ c) j
      ∙ ap (λ e. e ++ c) (drop_moved to i ks)))

  pub scoped_same : (body body' : On → On)
      → ((on on' : On) → Follows s items known to c on on' → Follows s items known to c (body on) (body' on'))
      → (on on' : On) → Follows s items known to c on on' → Follows s items known to c (scoped body on) (scoped body' on')
  scoped_same body body' b on on' f ls k m =
      b (λ n. on (leave (seeing m (ls ++ s.given)) n)) (λ n. on' (leave (seeing m (moved to ls ++ c)) n)) (leave_same on on' f ls m) ls k m
