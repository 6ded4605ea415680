-- The limits of what a program declares.
use Rattle.std.specs.Prelude.{ℕ, Bool, true, false, ◌&&◌, List, sum, length, nat_le, ℤ, pos, negsuc}
use Rattle.std.specs.List.{list_all}
use Rattle.jade_syntax.specs.declared.tree.Item.{Item}
use Rattle.jade_syntax.specs.declared.tree.Item.TheVariants as item
use Rattle.jade_syntax.specs.declared.objects.TheConstants.{INPUT_LIMIT, OBJECT_LIMIT, SIZE_LIMIT, CELL_LIMIT}
use Rattle.jade_syntax.specs.Objects.{input_names, sizes}

-- from 1 to the most that is allowed
abbrev pub is_amount : ℕ → ℤ → Bool
is_amount most (pos n) = nat_le 1 n && nat_le n most
is_amount most (negsuc n) = false

-- an object has 1 to 65,536 cells, and a family 1 to 4,096 members
abbrev pub is_within : Item → Bool
is_within (item.Input x at) = true
is_within (item.Single x at size) = is_amount SIZE_LIMIT size.value
is_within (item.Family x at count size) = is_amount OBJECT_LIMIT count.value && is_amount SIZE_LIMIT size.value

-- at most 64 inputs
abbrev pub few_inputs : List Item → Bool
few_inputs items = nat_le (length (input_names items)) INPUT_LIMIT

-- at most 4,096 objects and 1,048,576 cells in all
abbrev pub few_cells : List Item → Bool
few_cells items = nat_le (length (sizes items)) OBJECT_LIMIT && nat_le (sum (sizes items)) CELL_LIMIT

-- each number is within its limit, and so are the totals
abbrev pub within_limits : List Item → Bool
within_limits items = list_all is_within items && few_inputs items && few_cells items
