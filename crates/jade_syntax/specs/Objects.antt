-- What the items of a program declare: its inputs, its objects with their sizes, and their labels.
use Rattle.std.specs.Prelude.{◌≡◌, ℕ, zero, suc, ◌<◌, List, [], ◌∷◌, ◌++◌, length, slice_get, replicate, Option, Some, None, ℤ, pos, negsuc}
use Rattle.jade_syntax.specs.declared.tree.Item.{Item}
use Rattle.jade_syntax.specs.declared.tree.Item.TheVariants.{Input, Single, Family}
use Rattle.jade_syntax.specs.Abstract.{Name}

-- a number of cells or members, which is never negative
abbrev pub amount : ℤ → ℕ
amount (pos n) = n
amount (negsuc n) = 0

-- the names of the inputs
abbrev pub input_names : List Item → List Name
input_names [] = []
input_names (Input x at ∷ items) = x ∷ input_names items
input_names (Single x at size ∷ items) = input_names items
input_names (Family x at count size ∷ items) = input_names items

-- the numbers of cells of all objects, by object number
abbrev pub sizes : List Item → List ℕ
sizes [] = []
sizes (Input x at ∷ items) = sizes items
sizes (Single x at size ∷ items) = amount size.value ∷ sizes items
sizes (Family x at count size ∷ items) = replicate (amount count.value) (amount size.value) ++ sizes items

-- what an object is called: a name, and for a family's member its index
pub record Label : Type 0 where
  pub name : Name
  pub member : Option ℕ

-- the members of a family from an index on
abbrev pub member_labels : Name → (index count : ℕ) → List Label
member_labels x i zero = []
member_labels x i (suc n) = record { name = x; member = Some i } ∷ member_labels x (suc i) n

-- the labels of all objects, by object number
abbrev pub labels : List Item → List Label
labels [] = []
labels (Input x at ∷ items) = labels items
labels (Single x at size ∷ items) = record { name = x; member = None } ∷ labels items
labels (Family x at count size ∷ items) = member_labels x 0 (amount count.value) ++ labels items

-- an object is the member of this number of the item at this place
pub record IsPlace (items : List Item) (object place member : ℕ) : Type 0 where
  pub within : place < length items
  pub member_within : (x : Item) → slice_get items place ≡ Some x → member < length (sizes (x ∷ []))
  pub size : (x : Item) → slice_get items place ≡ Some x → slice_get (sizes items) object ≡ slice_get (sizes (x ∷ [])) member
  pub label : (x : Item) → slice_get items place ≡ Some x → slice_get (labels items) object ≡ slice_get (labels (x ∷ [])) member
