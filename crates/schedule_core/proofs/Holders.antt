-- An entry with a hold is that of a live task.
use Rattle.std.proofs.Common.{ℕ, suc, List, [], ◌∷◌, refl, sym, ap, ◌∙◌}
use Rattle.std.specs.Prelude.{ℤ}
use Rattle.jade_syntax.specs.declared.tree.Program.{Program}
use Rattle.object_shelf.specs.declared.queue.Entry.{Entry}
use Rattle.object_shelf.specs.Views.{ObjectView}
use Rattle.object_shelf.specs.Shelves.{find}
use Rattle.schedule_core.specs.declared.steps.Seat.{Seat}
use Rattle.schedule_core.specs.Unplaced.{Live}
use Rattle.schedule_core.specs.Shown.{Seated}
use Rattle.schedule_core.specs.Mirror.{CoreShows}
use Rattle.schedule_core.specs.Holders.{IsLive, HoldersAreLive}
use Rattle.schedule_core.proofs.Queued.{Holds_as, here, later, line_holds}

seat_of : (o : ℕ) (q : List ℕ) (d : Entry) (seats : List Seat) (ts : List Live) → Seated seats ts → Holds_as o q d ts → IsLive seats q
seat_of o q d [] _ h (here t ts p is) = absurd h
seat_of o q d (s ∷ seats) _ h (here t ts p is) = record { place = 0; seat = s; live = refl; path = sym h.0.path ∙ p }
seat_of o q d [] _ h (later t ts x) = absurd h
seat_of o q d (s ∷ seats) _ h (later t ts x) =
    let r = seat_of o q d seats ts h.1 x in
    record { place = suc r.place; seat = r.seat; live = r.live; path = r.path }

pub holders_are_live : (p : Program) (ns : List ℤ) (limit : ℕ) → CoreShows p ns limit → HoldersAreLive p ns limit
holders_are_live p ns limit shows = record {
  holder = λ k roll ss notes r o q e found held.
      let m = shows.mirror k roll ss notes r in
      seat_of o q e roll m.state.roll m.shown.seated
      (line_holds q o m.state.roll e (ap (λ (x : ObjectView). find q x.queue) (sym (m.shown.shelves o)) ∙ found) held);
}
