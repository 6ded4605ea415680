-- The variables in scope, by name with their slots.
use Rattle.std.proofs.Common.{◌≡◌, ℕ, ◌-◌, List, [], ◌∷◌, Some, drop, length, cond, true, false, refl, ap, sym, ◌∙◌}
use Rattle.std.specs.Prelude.{Bool, if◌then◌else◌}
use Rattle.std.specs.Map.{lookup}
use Rattle.std.proofs.lemmas.List.{length-map, drop-map}
use Rattle.jade_syntax.specs.Abstract.{Name}
use Rattle.jade_syntax.specs.Numbering.{same_name}
use Rattle.task_translation.specs.Compile.{slot_of}
use Rattle.task_codegen.specs.Variables.{entry_of, in_scope}

-- the slot of a name
pub slot_found : (x : Name) (vs : List (Name × ℕ)) → lookup (same_name x) vs ≡ slot_of x (in_scope vs)
slot_found x [] = refl
slot_found x (v ∷ vs) = by_cases (same_name x v.0) (slot_found x vs)
  where
    by_cases : (b : Bool) → lookup (same_name x) vs ≡ slot_of x (in_scope vs)
        → cond b (Some v.1) (lookup (same_name x) vs) ≡ (if b then Some v.1 else slot_of x (in_scope vs))
    by_cases true h = refl
    by_cases false h = h

-- as many variables as pairs
pub counted : (vs : List (Name × ℕ)) → length vs ≡ length (in_scope vs)
counted vs = let e : length (in_scope vs) ≡ length vs = simp length-map in sym e

-- the oldest variables stay
pub left_with : (vs : List (Name × ℕ)) (n : ℕ) → in_scope (drop (length vs - n) vs) ≡ drop (length (in_scope vs) - n) (in_scope vs)
left_with vs n = sym (drop-map entry_of (length vs - n) vs) ∙ ap (λ k. drop (k - n) (in_scope vs)) (counted vs)
