-- How many inputs a program has.
use Rattle.std.proofs.Common.{◌≡◌, List, [], ◌∷◌, refl, ap, suc, length}
use Rattle.jade_syntax.specs.declared.tree.Item.{Item}
use Rattle.jade_syntax.specs.declared.tree.Item.TheVariants.{Input, Single, Family}
use Rattle.jade_syntax.specs.Objects.{input_names}
use Rattle.task_translation.specs.Compile.{inputs_in}

pub inputs_many : (items : List Item) → length (input_names items) ≡ inputs_in items
inputs_many [] = refl
inputs_many (Input x at ∷ items) = ap suc (inputs_many items)
inputs_many (Single x at size ∷ items) = inputs_many items
inputs_many (Family x at count size ∷ items) = inputs_many items
