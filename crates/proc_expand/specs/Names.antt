-- Lists of names.
use Rattle.std.specs.Prelude.{ℕ, suc, Bool, true, false, List, [], ◌∷◌, if◌then◌else◌}
use Rattle.jade_syntax.specs.Abstract.{Name}
use Rattle.jade_syntax.specs.Numbering.{same_name}

-- a name is among some
abbrev pub is_among : List Name → Name → Bool
is_among [] x = false
is_among (y ∷ ys) x = if same_name x y then true else is_among ys x

-- the names of a list at their first places, without items and without those seen before
abbrev pub first_places : (items seen : List Name) → List Name → List Name
first_places items seen [] = []
first_places items seen (x ∷ xs) =
    if is_among items x then first_places items seen xs
    else (if is_among seen x then first_places items seen xs else x ∷ first_places items (x ∷ seen) xs)

-- at which place of a list a name stands first
abbrev pub place_among : List Name → Name → ℕ
place_among [] x = 0
place_among (y ∷ ys) x = if same_name x y then 0 else suc (place_among ys x)
