-- Instructions whose objects are there, and which create bodies among some numbers.
use Rattle.std.proofs.Common.{◌≡◌, ℕ, zero, suc, ◌≤◌, ◌<◌, List, [], ◌∷◌, ◌++◌, true, Option, Some, None, refl, subst}
use Rattle.std.specs.Prelude.{slice_get}
use Rattle.std.proofs.lemmas.Option.{none-some, same_Some}
use Rattle.jade_base.specs.declared.place.Pos.{Pos}
use Rattle.jade_meaning.specs.declared.resolve.Range.{Range}
use Rattle.code_meaning.specs.declared.code.Operand.{Operand}
use Rattle.code_meaning.specs.declared.code.Instruction.{Instruction}
use Rattle.code_meaning.specs.declared.code.Instruction.TheVariants as i
use Rattle.task_translation.specs.Compile.{brought, stored, unless, member_read, member_reached}
use Rattle.task_code.specs.Rules.{objects_are_there}
use Rattle.code_keeps.proofs.Declared.{There}

-- a body that is created has one of the numbers from lo on below hi
abbrev pub Creates : (lo hi : ℕ) → Instruction → Type 0
Creates lo hi (i.Create b at) = (lo ≤ b) × (b < hi)
Creates lo hi x = Unit {0}

pub record Fits (sizes : List ℕ) (lo hi : ℕ) (x : Instruction) : Type 0 where
  pub objects : objects_are_there sizes x ≡ true
  pub creates : Creates lo hi x

pub record AllFit (sizes : List ℕ) (lo hi : ℕ) (code : List Instruction) : Type 0 where
  pub each : (place : ℕ) (x : Instruction) → slice_get code place ≡ Some x → Fits sizes lo hi x

module _ {sizes : List ℕ} {lo hi : ℕ} where
  pub none_fit : AllFit sizes lo hi []
  none_fit = record { each = λ place x h. absurd (none-some x h) }

  pub before_fit : (x : Instruction) (code : List Instruction) → Fits sizes lo hi x → AllFit sizes lo hi code → AllFit sizes lo hi (x ∷ code)
  before_fit x code f g = record { each = by_case }
    where
      by_case : (place : ℕ) (y : Instruction) → slice_get (x ∷ code) place ≡ Some y → Fits sizes lo hi y
      by_case zero y h = subst (Fits sizes lo hi) (same_Some x y h) f
      by_case (suc place) y h = g.each place y h

  pub both_fit : (a b : List Instruction) → AllFit sizes lo hi a → AllFit sizes lo hi b → AllFit sizes lo hi (a ++ b)
  both_fit [] b f g = g
  both_fit (x ∷ a) b f g = before_fit x (a ++ b) (f.each 0 x refl) (both_fit a b (record { each = λ place y h. f.each (suc place) y h }) g)

  -- one whose objects are there
  pub one_fits : (x : Instruction) → objects_are_there sizes x ≡ true → Creates lo hi x → AllFit sizes lo hi (x ∷ [])
  one_fits x o c = before_fit x [] (record { objects = o; creates = c }) none_fit

  pub brought_fits : (t : ℕ) (o : Option Operand) → AllFit sizes lo hi (brought t o)
  brought_fits t None = none_fit
  brought_fits t (Some o) = one_fits (i.Set t o) refl tt

  pub stored_fits : (o : Option ℕ) (n : ℕ) → AllFit sizes lo hi (stored o n)
  stored_fits None n = none_fit
  stored_fits (Some k) n = one_fits _ refl tt

  pub unless_fits : (o : Option Operand) (code : List Instruction) → AllFit sizes lo hi code → AllFit sizes lo hi (unless o code)
  unless_fits None code f = f
  unless_fits (Some o) code f = none_fit

  pub read_fits : (g : Range) (t : ℕ) (j : Operand) (o : Option Operand) (code : List Instruction) (at : Pos) → There sizes g → AllFit sizes lo hi code
      → AllFit sizes lo hi (member_read g t j o code at)
  read_fits g t j None code at h f =
      before_fit (i.Member g.first g.count t j at) _ (record {
        objects = h.family;
        creates =
            tt;
      }) (both_fit code _ f (one_fits (i.Read g.size t t _ at) h.size tt))
  read_fits g t j (Some c) code at h f = one_fits (i.ReadIn g.first g.count g.size t j c at) h.members tt

  pub reached_fits : (g : Range) (t : ℕ) (j : Operand) (o : Option Operand) (code : List Instruction) (at : Pos) → There sizes g → AllFit sizes lo hi code
      → AllFit sizes lo hi (member_reached g t j o code at)
  reached_fits g t j None code at h f =
      before_fit (i.Member g.first g.count t j at) _ (record {
        objects = h.family;
        creates =
            tt;
      }) (both_fit code _ f (one_fits (i.Within g.size _ at) h.size tt))
  reached_fits g t j (Some c) code at h f = one_fits (i.Reach g.first g.count g.size t j c at) h.members tt
