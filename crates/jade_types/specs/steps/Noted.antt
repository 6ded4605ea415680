-- Faults that are noted as the places of a program are gone through.
use Rattle.std.specs.Prelude.{◌≡◌, List}
use Rattle.jade_syntax.specs.Placed.{Term, start}
use Rattle.jade_syntax.specs.StaticFaults.{Site, Names, kind_of, term_sites, kept, faults_of}
use Rattle.jade_types.specs.declared.faults.notes.Notes.{Notes}
use Rattle.jade_types.specs.declared.faults.notes.Seen.{Seen}

-- these places were gone through, and the earliest of all their faults and of the one that was kept is kept
pub record Noted (before after : Notes) (places : List Site) : Type 0 where
  pub by : after.first ≡ kept before.first (faults_of places)

-- the kind of an expression and its place were seen
pub record Sees (seen : Seen) (names : Names) (e : Term) : Type 0 where
  pub kind : seen.kind ≡ kind_of names e
  pub pos : seen.pos ≡ start e

-- an expression was gone through and seen
pub record Visited (before after : Notes) (seen : Seen) (names : Names) (e : Term) : Type 0 where
  pub noted : Noted before after (term_sites names e)
  pub sees : Sees seen names e
