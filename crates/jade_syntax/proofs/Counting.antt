-- What items declare, counted down from a bound.
use Rattle.std.proofs.Common.{◌≡◌, ℕ, ◌+◌, ◌-◌, ◌<◌, ◌≤◌, List, ◌∷◌, [], ap, ◌∙◌, drop, Some, length, length-append, arith}
use Rattle.std.specs.Prelude.{slice_get}
use Rattle.std.proofs.lemmas.List.{drop_all}
use Rattle.jade_syntax.specs.declared.tree.Item.{Item}
use Rattle.jade_syntax.specs.Objects.{input_names, sizes}
use Rattle.jade_syntax.proofs.Limits.{drop_item, inputs_first, sizes_first}

-- of a bound there is so much left once the items before a place are counted
pub record Left (f : List Item → ℕ) (items : List Item) (most left i : ℕ) : Type 0 where
  pub same : left + f items ≡ most + f (drop i items)

module _ (f : List Item → ℕ) (items : List Item) (most left i n : ℕ) (item : Item) (at_i : slice_get items i ≡ Some item)
    (counts : f (item ∷ drop (i + 1) items) ≡ n + f (drop (i + 1) items)) (h : Left f items most left i) where
  here : f (drop i items) ≡ n + f (drop (i + 1) items)
  here = ap f (drop_item items i item at_i) ∙ counts

  pub one_less : n ≤ left → Left f items most (left - n) (i + 1)
  one_less le = record { same = omega (arith, here, h.same, le) }

  pub too_many : left < n → most < f items
  too_many lt = omega (arith, here, h.same, lt)

pub all_counted : (f : List Item → ℕ) (items : List Item) (most left i : ℕ) → length items ≤ i → f [] ≡ 0 → Left f items most left i → left + f items ≡ most
all_counted f items most left i le none h = let e : f (drop i items) ≡ 0 = ap f (drop_all i items le) ∙ none in omega (arith, h.same, e)

-- what an item declares is counted before what the items after it declare
pub inputs_counted : (x : Item) (n : ℕ) → n ≡ length (input_names (x ∷ [])) → (more : List Item) → length (input_names (x ∷ more))
    ≡ n + length (input_names more)
inputs_counted x n h more = let e = ap length (inputs_first x more) ∙ length-append (input_names (x ∷ [])) (input_names more) in omega (arith, e, h)

pub objects_counted : (x : Item) (n : ℕ) → n ≡ length (sizes (x ∷ [])) → (more : List Item) → length (sizes (x ∷ more)) ≡ n + length (sizes more)
objects_counted x n h more = let e = ap length (sizes_first x more) ∙ length-append (sizes (x ∷ [])) (sizes more) in omega (arith, e, h)
