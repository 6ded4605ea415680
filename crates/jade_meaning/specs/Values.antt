-- Values, and what the operators give.
use Rattle.std.specs.Prelude.{ℕ, ◌^◌, Bool, true, false, not, Option, Some, None, Result, Ok, Err, ℤ, pos, negsuc, ◌+ℤ◌, ◌-ℤ◌, ◌*ℤ◌, neg_ℤ}
use Rattle.std.specs.Prelude.{int_lt, int_le, int_div, int_rem, nat_lt, if◌then◌else◌}
use Rattle.std.specs.Ordering.{int_eq}
use Rattle.jade_base.specs.declared.report.FaultKind.{FaultKind}
use Rattle.jade_base.specs.declared.report.FaultKind.TheVariants.{Overflow, Zero}
use Rattle.jade_syntax.specs.declared.tree.Relation.{Relation}
use Rattle.jade_syntax.specs.declared.tree.Relation.TheVariants.{Equal, Unequal, Less, LessEqual, Greater, GreaterEqual}
use Rattle.jade_syntax.specs.declared.tree.SumOp.{SumOp}
use Rattle.jade_syntax.specs.declared.tree.SumOp.TheVariants.{Plus, Minus}
use Rattle.jade_syntax.specs.declared.tree.ProductOp.{ProductOp}
use Rattle.jade_syntax.specs.declared.tree.ProductOp.TheVariants.{Times, Over, Remainder}
use Rattle.jade_syntax.specs.declared.tree.UnaryOp.{UnaryOp}
use Rattle.jade_syntax.specs.declared.tree.UnaryOp.TheVariants.{Negative, Not}
use Rattle.jade_syntax.specs.Abstract.{Operator, Or, And, Relates, Adds, Multiplies}
use Rattle.jade_meaning.specs.declared.values.Value.{Value}
use Rattle.jade_meaning.specs.declared.values.Value.TheVariants.{IntOf, BoolOf}

-- what an operator gives: a value, or a fault
pub data Given : Type 0 where
  Gives : Value → Given
  Fails : FaultKind → Given

-- a number or a fault, as what an operator gives
abbrev pub number_given : Result ℤ FaultKind → Given
number_given (Ok z) = Gives (IntOf z)
number_given (Err kind) = Fails kind

-- a number that is there, or the fault `overflow`
abbrev pub number_or_overflow : Option ℤ → Given
number_or_overflow (Some z) = Gives (IntOf z)
number_or_overflow None = Fails Overflow

-- the numbers of 64 bits with a sign
abbrev pub in_range : ℤ → Bool
in_range (pos n) = nat_lt n (2 ^ 63)
in_range (negsuc n) = nat_lt n (2 ^ 63)

-- a number that may be too large
abbrev pub fitting : ℤ → Given
fitting z = if in_range z then Gives (IntOf z) else Fails Overflow

-- a quotient or a remainder; the quotient decides whether it fits
abbrev pub divided : (ℤ → ℤ → ℤ) → ℤ → ℤ → Given
divided f x y =
    if int_eq y (pos 0) then Fails Zero else (if in_range (int_div x y) then Gives (IntOf (f x y)) else Fails Overflow)

-- how two numbers compare
abbrev pub related : Relation → ℤ → ℤ → Bool
related Equal x y = int_eq x y
related Unequal x y = not (int_eq x y)
related Less x y = int_lt x y
related LessEqual x y = int_le x y
related Greater x y = int_lt y x
related GreaterEqual x y = int_le y x

-- a sum or a difference
abbrev pub added : SumOp → ℤ → ℤ → Given
added Plus x y = fitting (x +ℤ y)
added Minus x y = fitting (x -ℤ y)

-- a product, a quotient or a remainder
abbrev pub multiplied : ProductOp → ℤ → ℤ → Given
multiplied Times x y = fitting (x *ℤ y)
multiplied Over x y = divided int_div x y
multiplied Remainder x y = divided int_rem x y

-- the number that a value is: a truth value is 1 or 0
abbrev pub whole : Value → ℤ
whole (IntOf x) = x
whole (BoolOf true) = pos 1
whole (BoolOf false) = pos 0

-- the truth of a value: a number is true where it is not 0
abbrev pub holds : Value → Bool
holds (IntOf x) = not (int_eq x (pos 0))
holds (BoolOf b) = b

-- what an operator makes of two values; where the first decides nothing, the second is the answer of `||` and `&&`
abbrev pub operated : Operator → Value → Value → Given
operated (Relates r) v w = Gives (BoolOf (related r (whole v) (whole w)))
operated (Adds s) v w = added s (whole v) (whole w)
operated (Multiplies p) v w = multiplied p (whole v) (whole w)
operated Or v w = Gives w
operated And v w = Gives w

-- the operand before a `||` or `&&` that makes what follows needless
abbrev pub decides : Operator → Value → Bool
decides Or v = holds v
decides And v = not (holds v)
decides (Relates r) v = false
decides (Adds s) v = false
decides (Multiplies p) v = false

-- what a sign makes of a value
abbrev pub signed : UnaryOp → Value → Given
signed Negative v = fitting (neg_ℤ (whole v))
signed Not v = Gives (BoolOf (not (holds v)))

-- a number from 0 on that is below n
abbrev pub is_index : ℤ → ℕ → Bool
is_index (pos i) n = nat_lt i n
is_index (negsuc i) n = false

-- a number from 0 on as an index
abbrev pub magnitude : ℤ → ℕ
magnitude (pos i) = i
magnitude (negsuc i) = 0

-- a number as an index, where it is one below n
abbrev pub index_in : ℤ → ℕ → Option ℕ
index_in z n = if is_index z n then Some (magnitude z) else None

-- how many turns a loop makes
abbrev pub turn_count : ℤ → ℤ → ℕ
turn_count low high = magnitude (high -ℤ low)
