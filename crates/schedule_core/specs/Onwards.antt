-- What a state has yet to do, by its roll in order, with the places that it gives its tasks itself.
use Rattle.std.specs.Prelude.{ℕ, suc, List, [], ◌∷◌}
use Rattle.jade_meaning.specs.Serial.{Path, Store, after}
use Rattle.jade_meaning.specs.Turns.{World, Ran, first, settle_all}
use Rattle.schedule_core.specs.Core.{Live, Bare, content_for}
use Rattle.schedule_core.specs.Sound.{left}

-- the contents that a task has or would be given, from object i on
abbrev pub sees : Live Bare → ℕ → Store → Store
sees u i [] = []
sees u i (xs ∷ store) = content_for u i xs ∷ sees u (suc i) store

abbrev pub sited : Live Bare → World → Live World
sited u w = record {
  path = u.path;
  part = u.part;
  place = record { store = sees u 0 w.store; waiting = w.waiting };
  rights = u.rights;
  held = u.held;
  versions = u.versions;
  doing = u.doing;
}

module _ (t : ℕ → List Path) where
  -- one task: what is left of it, and the world after that
  abbrev pub step : Live Bare → World → Ran
  step u w =
      let r = left t (sited u w) in
      record { marks = r.marks; world = record { store = after r.marks w.store; waiting = r.world.waiting } }

  abbrev pub onwards : List (Live Bare) → World → Ran
  onwards [] w = record { marks = []; world = w }
  onwards (u ∷ us) w = first (step u w).marks (onwards us (step u w).world)

  -- and the groups at the end
  abbrev pub onwards_all : List ℕ → List (Live Bare) → World → Ran
  onwards_all os us w =
      let r = onwards us w in
      first r.marks (settle_all t os r.world)
