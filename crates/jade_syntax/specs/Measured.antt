-- What is counted of a part of a program.
use Rattle.std.specs.Prelude.{◌≡◌, ◌-◌, ◌^◌, min}
use Rattle.jade_syntax.specs.declared.shapes.extent.Extent.{Extent}
use Rattle.jade_syntax.specs.Shapes.{◌⊕◌, in_brackets, limited}

-- no further than the greatest number of 64 bits
abbrev pub capped : Extent → Extent
capped e = record { sound = e.sound; tokens = min e.tokens (2 ^ 64 - 1); depth = min e.depth (2 ^ 64 - 1) }

-- a part of this extent was measured
pub record Measures (measured e : Extent) : Type 0 where
  pub by : measured ≡ capped e

-- measures of two parts come to this
pub record Joins (first second both : Extent) : Type 0 where
  pub of : {a b : Extent} → Measures first a → Measures second b → Measures both (a ⊕ b)

-- the measure of what is in brackets comes to this
pub record Encloses (inner outer : Extent) : Type 0 where
  pub of : {a : Extent} → Measures inner a → Measures outer (in_brackets a)

-- the measure of an expression comes to this where it lies in no other
pub record Limits (expression outermost : Extent) : Type 0 where
  pub of : {a : Extent} → Measures expression a → Measures outermost (limited a)
