-- What objects are called in texts, and the turns on them as a recording tells them.
use Rattle.std.specs.Prelude.{ℕ, suc, List, [], ◌∷◌, ◌++◌, codes, Option, Some, None}
use Rattle.std.specs.Fmt.{decimal}
use Rattle.jade_syntax.specs.declared.tree.Item.{Item}
use Rattle.jade_syntax.specs.Objects.{Label, labels}
use Rattle.run_record.specs.declared.turns.LabelledTurn.{LabelledTurn}

-- the index of a family's member in brackets
abbrev pub member_text : Option ℕ → List ℕ
member_text None = []
member_text (Some i) = codes "[" ++ decimal i ++ codes "]"

-- NAME, or NAME[INDEX]
abbrev pub label_text : Label → List ℕ
label_text label = label.name ++ member_text label.member

-- the turns that tasks took on an object with this label; nothing is told of an object on which there were none
abbrev pub turns_on_one : (label : List ℕ) → (paths : List (List ℕ)) → List LabelledTurn
turns_on_one label [] = []
turns_on_one label (path ∷ more) = record { label = label; paths = path ∷ more } ∷ []

-- the turns on the objects with these labels, in declared order; the first of them is object o
abbrev pub turns_from : (o : ℕ) → List Label → (turns : ℕ → List (List ℕ)) → List LabelledTurn
turns_from o [] turns = []
turns_from o (label ∷ more) turns = turns_on_one (label_text label) (turns o) ++ turns_from (suc o) more turns

-- the turns on all objects that items declare
abbrev pub labelled_turns : List Item → (turns : ℕ → List (List ℕ)) → List LabelledTurn
labelled_turns items turns = turns_from 0 (labels items) turns
