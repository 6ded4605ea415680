-- A power of two less 1 has the bits below its own.
use Rattle.std.proofs.Common.{◌≡◌, ◌%◌, ◌-◌, bit_and, subst, sym}
use Rattle.std.proofs.lemmas.Nat.{and_mask}
use Rattle.jade_meaning.proofs.numbers.natural_remainder.Goals as goal

pub returns-in-Some : goal.returns-in-Some
returns-in-Some c =
    subst (λ r. bit_and c.args.left (r - 1) ≡ c.args.left % r) (sym c.in-Some.ensures.power) (and_mask c.args.left c.in-Some.field-0)
