-- How what is held of an object is kept.
use Rattle.std.specs.Prelude.{◌≡◌, List, [], Option, Some, None, ℤ}
use Rattle.jade_base.specs.declared.rights.Mode.{Mode}
use Rattle.jade_base.specs.declared.rights.Mode.TheVariants.{Reading, Writing, Commuting}
use Rattle.jade_base.specs.Held.{Held}

-- what is held: in a mode to read this content, in another these cells
abbrev pub hold_of : Option Mode → List ℤ → Held → Option Held
hold_of None cs h = None
hold_of (Some Reading) cs h = Some h
hold_of (Some Writing) cs h = Some (record { mode = Writing; cells = cs })
hold_of (Some Commuting) cs h = Some (record { mode = Commuting; cells = cs })

-- where cells may be written, the content has none, where the content is held, there are no others, and where nothing is held, there are none
abbrev pub Parted : Option Mode → List ℤ → List ℤ → Type 0
Parted None cs xs = (cs ≡ []) × (xs ≡ [])
Parted (Some Reading) cs xs = cs ≡ []
Parted (Some Writing) cs xs = xs ≡ []
Parted (Some Commuting) cs xs = xs ≡ []

-- the content may only be read
pub record IsHold (m : Option Mode) (cs : List ℤ) (h : Held) : Type 0 where
  pub parted : Parted m cs h.cells
  pub reads : h.mode ≡ Reading
