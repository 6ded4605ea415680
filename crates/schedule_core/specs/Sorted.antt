-- Marks in the order of their keys.
use Rattle.std.specs.Prelude.{Bool, true, false, List, [], ◌∷◌, ◌++◌, nat_eq, nat_lt, if◌then◌else◌}
use Rattle.jade_meaning.specs.Serial.{Path, Mark}

-- by the first difference, a prefix before what it is a prefix of
abbrev pub key_le : Path → Path → Bool
key_le [] q = true
key_le (i ∷ p) [] = false
key_le (i ∷ p) (j ∷ q) = if nat_eq i j then key_le p q else nat_lt i j

abbrev pub key : Mark → Path
key m = m.path ++ m.children ∷ []

abbrev pub insert : Mark → List Mark → List Mark
insert x [] = x ∷ []
insert x (y ∷ ys) = if key_le (key x) (key y) then x ∷ (y ∷ ys) else y ∷ insert x ys

abbrev pub in_order : List Mark → List Mark
in_order [] = []
in_order (x ∷ xs) = insert x (in_order xs)
