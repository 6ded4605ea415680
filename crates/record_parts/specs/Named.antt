-- Paths that begin at the root, and turn lists that a recording's turns name.
use Rattle.std.specs.Prelude.{◌≡◌, ℕ, ◌<◌, List, ◌∷◌, length, slice_index_or, []}
use Rattle.jade_syntax.specs.declared.tree.Item.{Item}
use Rattle.jade_syntax.specs.Objects.{sizes}
use Rattle.run_record.specs.declared.turns.LabelledTurn.{LabelledTurn}
use Rattle.record_parts.specs.Labels.{labelled_turns}

-- a path begins at the root
pub record IsRooted (path : List ℕ) : Type 0 where
  pub more : List ℕ
  pub root : path ≡ 0 ∷ more

-- the turns are those on the objects by these lists, one for each object, and by no others
pub record AreNamed (items : List Item) (turns : List LabelledTurn) (lists : List (List (List ℕ))) : Type 0 where
  pub counted : length lists ≡ length (sizes items)
  pub named : turns ≡ labelled_turns items (λ o. slice_index_or lists o [])
  pub only : (others : ℕ → List (List ℕ)) → turns ≡ labelled_turns items others → (o : ℕ) → o < length (sizes items) → others o ≡ slice_index_or lists o []

-- the turns are those on the objects by no lists
abbrev pub NoneNamed : List Item → List LabelledTurn → Type 0
NoneNamed items turns = (lists : ℕ → List (List ℕ)) → turns ≡ labelled_turns items lists → ⊥
