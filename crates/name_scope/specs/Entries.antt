-- Names in scope, as code keeps them: the newest last, each with the place of the one that it hides.
use Rattle.std.specs.Prelude.{◌≡◌, ℕ, Bool, List, [], ◌∷◌, length, Option, Some, None, if◌then◌else◌}
use Rattle.std.specs.Borrow.{Bor}
use Rattle.std.specs.Cmp.Lexicographic.{slice_cmp}
use Rattle.std.specs.Ordering.{is_eq, nat_cmp}
use Rattle.std.specs.Map.{lookup}
use Rattle.jade_syntax.specs.Abstract.{Name}
use Rattle.jade_syntax.specs.Numbering.{same_name}
use Rattle.name_scope.specs.declared.scope.Entry.{Entry}

-- what is seen of an entry: its name's bytes and its value
abbrev pub named : {V : Type 0} → Entry V → Name × V
named e = (e.name.now, e.value)

-- the place of the newest entry of a name, of entries with the newest first; the oldest has place 0
abbrev pub newest_place : {V : Type 0} → Name → List (Entry V) → Option ℕ
newest_place x [] = None
newest_place x (e ∷ es) = if same_name x e.name.now then Some (length es) else newest_place x es

-- each entry knows the place of the one that it hides
abbrev pub AllHide : {V : Type 0} → List (Entry V) → Type 0
AllHide [] = Unit {0}
AllHide (e ∷ es) = (e.hidden ≡ newest_place e.name.now es) × AllHide es

-- a place that was found, if there was one
abbrev pub joined : Option (Option ℕ) → Option ℕ
joined None = None
joined (Some place) = place

-- a key has the bytes of a name
abbrev pub is_named : Name → Bor (List ℕ) → Bool
is_named x k = is_eq (slice_cmp nat_cmp x k.now)

-- the newest entry of each name is found by the name
pub record IsKept {V : Type 0} (newest_first : List (Entry V)) (places : List (Bor (List ℕ) × Option ℕ)) : Type 0 where
  pub at : (x : Bor (List ℕ)) → joined (lookup (is_named x.now) places) ≡ newest_place x.now newest_first
  pub hide : AllHide newest_first
