-- The names that calls replace, as they are met one by one.
use Rattle.std.specs.Prelude.{◌≡◌, ℕ, zero, suc, ◌<◌, Bool, nat_eq, true, false, ◌||◌, List, [], ◌∷◌, ◌++◌, length, Option, Some, None}
use Rattle.std.specs.Prelude.{slice_index_or, if◌then◌else◌}
use Rattle.std.specs.Map.{lookup}
use Rattle.jade_base.specs.declared.place.Pos.{Pos}
use Rattle.jade_lexer.specs.Lexemes.{TokenAt}
use Rattle.jade_syntax.specs.Abstract.{Name}
use Rattle.jade_syntax.specs.Numbering.{same_name}
use Rattle.proc_expand.specs.Words.{bytes_at}
use Rattle.proc_expand.specs.Names.{is_among, place_among}
use Rattle.proc_expand.specs.declared.taken.Taken.{Taken}
use Rattle.proc_expand.specs.Written.{is_variable, free_number, numbered_name}

-- the names of some entries, the newest first, in the order in which they were declared
abbrev pub names_of : List (Name × ℕ) → List Name
names_of [] = []
names_of (e ∷ es) = names_of es ++ e.0 ∷ []

-- the names to be replaced after one more was met; those of items, own, are none
abbrev pub with_name : (own names : List Name) → Name → List Name
with_name own names x = if is_among own x || is_among names x then names else names ++ x ∷ []

-- after some more
abbrev pub with_names : (own names : List Name) → List Name → List Name
with_names own names [] = names
with_names own names (x ∷ xs) = with_names own (with_name own names x) xs

-- the number of a name among those that are replaced; that of an item is none
abbrev pub number_among : (own names : List Name) → Name → Option ℕ
number_among own names x = if is_among own x then None else Some (place_among names x)

-- the place of a name among some, if it is there
abbrev pub found_among : List Name → Name → Option ℕ
found_among names x = if is_among names x then Some (place_among names x) else None

-- each name is found with its place among them
pub record AreNumbered (entries : List (Name × ℕ)) : Type 0 where
  pub found : (x : Name) → lookup (same_name x) entries ≡ found_among (names_of entries) x

-- this is the number of a name that was met
pub record IsNumber (own names : List Name) (x : Name) (number : Option ℕ) : Type 0 where
  pub met : (is_among own x || is_among names x) ≡ true
  pub value : number ≡ number_among own names x

-- the number that stands for a place of a body
pub record IsMark (ts : List TokenAt) (end : Pos) (own names : List Name) (k : ℕ) (number : Option ℕ) : Type 0 where
  pub variable : is_variable ts end k ≡ true → IsNumber own names (bytes_at ts k) number
  pub other : is_variable ts end k ≡ false → number ≡ None

-- ---- the names of a text, which a new name is to be none of

-- a name begins as a numbered one does
abbrev pub begins_numbered : Name → Bool
begins_numbered [] = false
begins_numbered (b ∷ x) = nat_eq b 118

-- so many names of which no more is known, as empty ones
abbrev pub unknown_names : ℕ → List Name
unknown_names zero = []
unknown_names (suc n) = [] ∷ unknown_names n

-- the names that are known, and the others
abbrev pub taken_names : Taken → List Name
taken_names t = names_of t.names ++ unknown_names t.others

-- they are as many as some names, and tell which numbered names are among these
pub record IsTaken (names : List Name) (t : Taken) : Type 0 where
  pub many : length (taken_names t) ≡ length names
  pub tells : (n : ℕ) → is_among (taken_names t) (numbered_name n) ≡ is_among names (numbered_name n)

-- the free numbers from the first on
pub record AreFree (names : List Name) (numbers : List ℕ) : Type 0 where
  pub each : (i : ℕ) → i < length numbers → slice_index_or numbers i 0 ≡ free_number names i
