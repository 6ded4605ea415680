-- The variables of a body in scope, kept with the newest last, and the names behind them.
use Rattle.std.proofs.Common.{◌≡◌, ℕ, suc, ◌+◌, List, [], ◌∷◌, ◌++◌, Some, None, ◌-◌, drop, refl, ap, sym, ◌∙◌, take, length, arith, cond, true, false}
use Rattle.std.specs.Prelude.{map, if◌then◌else◌, unwrap_or, Bool}
use Rattle.std.specs.List.{slice_get}
use Rattle.std.specs.Map.{lookup}
use Rattle.std.proofs.lemmas.List.{take_more, map-append, length-map, drop-map, length-take}
use Rattle.std.proofs.lemmas.Option.{slice_get_within, get_or_from_slice_get}
use Rattle.jade_syntax.specs.declared.stands.Stand.{Stand}
use Rattle.jade_syntax.specs.declared.stands.Stand.TheVariants.{Slot}
use Rattle.jade_syntax.specs.declared.tree.Named.{Named}
use Rattle.jade_syntax.specs.Abstract.{Name}
use Rattle.jade_syntax.specs.Numbering.{Scope, Meant, same_name, stand_of, slotted, parameters}
use Rattle.jade_types.specs.steps.Bodies.{InBody, as_scope, in_slots, with_variable}

abbrev slot_of : Name × ℕ → Meant
slot_of v = record { name = v.0; stand = Slot v.1 }

-- a variable of this name
pub stand_here : (x : Name) (vs : List (Name × ℕ)) (items : Scope) (n : ℕ) → lookup (same_name x) vs ≡ Some n → stand_of x (in_slots vs ++ items) ≡ Slot n
stand_here x [] items n h = absurd (cc)
stand_here x (v ∷ vs) items n h = by_cases (stand_here x vs items n) (same_name x v.0) h where
  by_cases : (lookup (same_name x) vs ≡ Some n → stand_of x (in_slots vs ++ items) ≡ Slot n) → (b : Bool) → cond b (Some v.1) (lookup (same_name x) vs)
      ≡ Some n
      → (if b then Slot v.1 else stand_of x (in_slots vs ++ items)) ≡ Slot n
  by_cases rest true g = let e : v.1 ≡ n = cc in ap Slot e
  by_cases rest false g = rest g

-- no variable is of this name
pub stand_behind : (x : Name) (vs : List (Name × ℕ)) (items : Scope) → lookup (same_name x) vs ≡ None → stand_of x (in_slots vs ++ items)
    ≡ stand_of x items
stand_behind x [] items h = refl
stand_behind x (v ∷ vs) items h = by_cases (stand_behind x vs items) (same_name x v.0) h where
  by_cases : (lookup (same_name x) vs ≡ None → stand_of x (in_slots vs ++ items) ≡ stand_of x items) → (b : Bool)
      → cond b (Some v.1) (lookup (same_name x) vs) ≡ None
      → (if b then Slot v.1 else stand_of x (in_slots vs ++ items)) ≡ stand_of x items
  by_cases rest true g = absurd (cc)
  by_cases rest false g = rest g

-- as many variables as pairs
pub slots_counted : (vs : List (Name × ℕ)) → length vs ≡ length (in_slots vs)
slots_counted vs = let e : length (in_slots vs) ≡ length vs = simp length-map in sym e

-- the oldest variables stay
pub slots_left : (vs : List (Name × ℕ)) (n : ℕ) → in_slots (drop (length vs - n) vs) ≡ drop (length (in_slots vs) - n) (in_slots vs)
slots_left vs n = sym (drop-map slot_of (length vs - n) vs) ∙ ap (λ k. drop (k - n) (in_slots vs)) (slots_counted vs)

-- an item, or none of this name
pub stand_item : (x : Name) (items : List (Name × Stand)) → unwrap_or (lookup (same_name x) items) (Slot 0) ≡ stand_of x (as_scope items)
stand_item x [] = refl
stand_item x (i ∷ items) = by_cases (same_name x i.0) (stand_item x items) where
  by_cases : (b : Bool) → unwrap_or (lookup (same_name x) items) (Slot 0) ≡ stand_of x (as_scope items)
      → unwrap_or (cond b (Some i.1) (lookup (same_name x) items)) (Slot 0) ≡ (if b then i.1 else stand_of x (as_scope items))
  by_cases true h = refl
  by_cases false h = h

parameters_more : (n : ℕ) (xs : List Name) (x : Name) (scope : Scope) → parameters n (xs ++ x ∷ []) scope
    ≡ slotted x (n + length xs) (parameters n xs scope)
parameters_more n [] x scope = let e : n ≡ n + 0 = omega arith in ap (λ k. slotted x k scope) e
parameters_more n (y ∷ xs) x scope =
    let e : suc n + length xs ≡ n + suc (length xs) = omega arith in
    parameters_more (suc n) xs x (slotted y n scope) ∙ ap (λ k. slotted x k (parameters (suc n) xs (slotted y n scope))) e

-- the names of a `do` list
abbrev pub names_of : List Named → List Name
names_of names = map (λ n. n.name) names

-- a created body with the first of its names
abbrev pub begun : InBody → List Named → ℕ → InBody
begun b names i = record { variables = parameters 0 (names_of (take i names)) []; items = b.items; slots = i }

pub one_more : (b old new : InBody) (names : List Named) (i : ℕ) (m : Named) → slice_get names i ≡ Some m → old ≡ begun b names i → new
    ≡ with_variable m.name 1 old → new ≡ begun b names (i + 1)
one_more b old new names i m e h g =
    let lt = slice_get_within names i m e in
    let l : length (names_of (take i names)) ≡ length (take i names) = simp length-map in
    let k : 0 + length (names_of (take i names)) ≡ i = omega (arith, l, length-take i names, lt) in
    let more : names_of (take (i + 1) names) ≡ names_of (take i names) ++ m.name ∷ [] =
    ap names_of (take_more names i m lt ∙ ap (λ y. take i names ++ y ∷ []) (get_or_from_slice_get names i m m e))
    ∙ map-append (λ n. n.name) (take i names) (m ∷ []) in
    let v : parameters 0 (names_of (take (i + 1) names)) [] ≡ slotted m.name i (parameters 0 (names_of (take i names)) []) =
    ap (λ xs. parameters 0 xs []) more ∙ parameters_more 0 (names_of (take i names)) m.name []
    ∙ ap (λ d. slotted m.name d (parameters 0 (names_of (take i names)) [])) k in
    g ∙ ap (with_variable m.name 1) h ∙ (λ j. record { variables = sym v j; items = b.items; slots = i + 1 })
