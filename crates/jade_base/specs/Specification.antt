-- What a task may do with which objects, and a draft of it.
use Rattle.std.specs.Prelude.{◌≡◌, ◌≢◌, ℕ, suc, ◌<◌, ◌≤◌, ◌==◌, nat_lt, Bool, false, List, [], ◌∷◌, length, map, IsTrue, if◌then◌else◌, slice_index_or, None}
use Rattle.std.specs.List.{position_from}
use Rattle.jade_base.specs.declared.place.ObjectId.{ObjectId}
use Rattle.jade_base.specs.declared.rights.Rights.{Rights}
use Rattle.jade_base.specs.declared.spec.Entry.{Entry}
use Rattle.jade_base.specs.Rights.{no_rights, has_rights, is_there, join}

-- the objects with their rights, by ascending number, and for each of them the rights in the draft
pub record Specification : Type 0 where
  pub entries : List (ObjectId × Rights)
  pub draft : List Rights

-- each object has a number above this one
abbrev pub AllAbove : ℕ → List (ObjectId × Rights) → Type 0
AllAbove n [] = Unit {0}
AllAbove n (e ∷ es) = (n < e.0.0) × AllAbove n es

-- the numbers of the objects ascend strictly, and each object has some right
abbrev pub IsAscending : List (ObjectId × Rights) → Type 0
IsAscending [] = Unit {0}
IsAscending (e ∷ es) = IsTrue (has_rights e.1) × AllAbove e.0.0 es × IsAscending es

-- the rights on an object, which are none where it has no entry
abbrev pub rights_in : List (ObjectId × Rights) → ObjectId → Rights
rights_in [] o = no_rights
rights_in (e ∷ es) o = if e.0.0 == o.0 then e.1 else rights_in es o

-- the entries with one more in front, if its rights are any
abbrev pub with_first : ObjectId → Rights → List (ObjectId × Rights) → List (ObjectId × Rights)
with_first o r es = if has_rights r then (o, r) ∷ es else es

-- the entries after one more declaration: rights on an object that is there are joined to those it has
abbrev pub joined_in : List (ObjectId × Rights) → ObjectId → Rights → List (ObjectId × Rights)
joined_in [] o r = with_first o r []
joined_in (e ∷ es) o r =
    if nat_lt e.0.0 o.0 then e ∷ joined_in es o r
    else (if e.0.0 == o.0 then (e.0, join e.1 r) ∷ es else with_first o r (e ∷ es))

-- the entries with the rights of the draft, without those of which the draft leaves nothing
abbrev pub kept : List (ObjectId × Rights) → List Rights → List (ObjectId × Rights)
kept [] ds = []
kept (e ∷ es) [] = []
kept (e ∷ es) (d ∷ ds) = if has_rights d then (e.0, d) ∷ kept es ds else kept es ds

-- these entries, with a draft that says the same
abbrev pub settled : List (ObjectId × Rights) → Specification
settled es = record { entries = es; draft = map (λ e. e.1) es }

-- whether these are the rights on the object
abbrev pub is_of : ObjectId → ObjectId × Rights → Bool
is_of o e = e.0.0 == o.0

-- an entry without its draft
abbrev pub shown : Entry → ObjectId × Rights
shown e = (e.object, e.rights)

-- the entries without their drafts
abbrev pub shown_all : List Entry → List (ObjectId × Rights)
shown_all xs = map shown xs

-- the specification that these entries are
abbrev pub specification : List Entry → Specification
specification xs = record { entries = shown_all xs; draft = map (λ e. e.draft) xs }

-- each draft is the rights
abbrev pub IsSettled : List Entry → Type 0
IsSettled xs = map (λ e. e.draft) xs ≡ map (λ e. e.rights) xs

-- how many entries stand before the place of the object
abbrev pub place_in : List Entry → ObjectId → ℕ
place_in [] o = 0
place_in (e ∷ es) o = if nat_lt e.object.0 o.0 then suc (place_in es o) else 0

-- the entry at this place is the object's
abbrev pub IsAt : List Entry → ObjectId → ℕ → Type 0
IsAt xs o place = (place < length xs) × ((d : Entry) → (slice_index_or xs place d).object.0 ≡ o.0)

-- the object has no entry
abbrev pub IsMissing : List Entry → ObjectId → Type 0
IsMissing xs o = position_from (is_of o) 0 (shown_all xs) ≡ None

-- the object has its entry at this place
abbrev pub IsThere : List Entry → ObjectId → ℕ → Type 0
IsThere xs o place = (place ≡ place_in xs o) × (place < length xs) × ((d : Entry) → (slice_index_or xs place d).object.0 ≡ o.0)

-- the object has no entry, and this is where one would stand
abbrev pub IsAbsent : List Entry → ObjectId → ℕ → Type 0
IsAbsent xs o place = (place ≡ place_in xs o) × (place ≤ length xs) × ((d : Entry) → place < length xs → (slice_index_or xs place d).object.0 ≢ o.0)

-- these rights let no task commute
abbrev pub NoneCommutes : List Rights → Type 0
NoneCommutes [] = Unit {0}
NoneCommutes (r ∷ rs) = (is_there r.commutes ≡ false) × NoneCommutes rs

-- no right to commute stands among the rights or in the draft
pub record IsUncommuting (s : Specification) : Type 0 where
  pub rights : NoneCommutes (map (λ e. e.1) s.entries)
  pub drafts : NoneCommutes s.draft
