-- What a live task finds where it does its next event.
use Rattle.std.proofs.Common.{◌≡◌, ℕ, suc, Bool, true, false, ◌||◌, List, [], ◌∷◌, ◌++◌, take, drop, refl, sym, ap, ◌∙◌, Option, Some, None}
use Rattle.std.specs.Prelude.{ℤ, slice_get, if◌then◌else◌}
use Rattle.jade_base.specs.declared.rights.Rights.{Rights}
use Rattle.jade_syntax.specs.declared.tree.Program.{Program}
use Rattle.jade_meaning.specs.Talk.{Event, Enter, Enroll, Take, TouchRead, TouchWrite, Wants, Give, Leave, Shift, Resign}
use Rattle.jade_meaning.specs.Walk.{upcoming, First}
use Rattle.object_shelf.specs.declared.queue.Entry.{Entry}
use Rattle.object_shelf.specs.Views.{ObjectView}
use Rattle.object_shelf.specs.Shelves.{same_path, find, takes_out, entered}
use Rattle.object_shelf.specs.Order.{fits, is_ordered}
use Rattle.object_shelf.specs.Whole.{is_out}
use Rattle.object_shelf.proofs.Order.{entered-fits}
use Rattle.schedule_core.specs.declared.steps.Seat.{Seat}
use Rattle.task_roll.specs.declared.note.PartNote.{PartNote}
use Rattle.schedule_core.specs.Plain.{Reached, goes_on, NotedIn, StepIn, on_shelf, seat_after}
use Rattle.schedule_core.specs.ByNumber.{shelf_at}
use Rattle.schedule_core.specs.Soundness.{InSerialOrder}
use Rattle.schedule_core.specs.Tells.{CoreTells, EntriesAreThere}
use Rattle.schedule_core.specs.steps.Finds.{Finds}
use Rattle.schedule_core.proofs.Showing.{shelf_here}

-- a content that an entry has out
out_by : (p : List ℕ) (es : List Entry) (e : Entry) → find p es ≡ Some e → takes_out e.hold ≡ true → is_out es ≡ true
out_by p [] e h o = absurd (cc)
out_by p (x ∷ es) e h o = go (same_path p x.path) h (λ k. out_by p es e k o)
  where
    this : (b c : Bool) → b ≡ true → b || c ≡ true
    this true c q = refl
    this false c q = absurd (cc)

    that : (b c : Bool) → c ≡ true → b || c ≡ true
    that true c q = refl
    that false c q = q

    own : ◌≡◌ {A = Option Entry} (Some x) (Some e) → x ≡ e
    own q = cc

    go : (b : Bool) → (if b then Some x else find p es) ≡ Some e → (find p es ≡ Some e → is_out es ≡ true) → takes_out x.hold || is_out es ≡ true
    go true k f = this (takes_out x.hold) (is_out es) (ap (λ (z : Entry). takes_out z.hold) (own k) ∙ o)
    go false k f = that (takes_out x.hold) (is_out es) (f k)

module _ (p : Program) (ns : List ℤ) (limit : ℕ) (tells : CoreTells p ns limit) (there : EntriesAreThere p ns limit) (order : InSerialOrder p ns limit)
    (k : ℕ) (roll : List Seat) (ss : List ObjectView) (notes : List PartNote) (r : Reached p ns limit k roll ss notes) (place : ℕ) (s : Seat)
    (at : slice_get roll place ≡ Some s) where
  abbrev kid : List ℕ
  kid = s.path ++ s.children ∷ []

  -- once the child's entry is there the queue stands in order, so it fits
  place_for : (o : ℕ) (a : Rights) → First (upcoming s.walker) (λ x. x ≡ Enter o a) → fits s.path kid (shelf_at ss o).queue ≡ true
  place_for o a next =
      let g = entered s.path kid a in
      let new = seat_after None s ∷ [] in
      let roll' = take place roll ++ (new ++ drop (suc place) roll) in
      let step : StepIn roll ss place roll' (on_shelf o g ss) =
      record { seat = s; event = Enter o a; new = new; here = at; next = next; does = (refl, refl); roll = refl } in
      let noted : NotedIn roll ss notes place roll' (on_shelf o g ss) notes = record { step = step; notes = refl } in
      let ordered = order.queues (suc k) roll' (on_shelf o g ss) notes (goes_on r place noted) o in
      let may = there.enters k roll ss notes r place s at o a next in
      entered-fits s.path kid a (shelf_at ss o).queue may.entry may.there
      (ap (λ (x : ObjectView). is_ordered x.queue) (sym (shelf_here o g ss refl)) ∙ ordered)

  pub finds : (e : Event) → First (upcoming s.walker) (λ x. x ≡ e) → Finds e s ss
  finds (Take o m) next = λ free. tells.takes k roll ss notes r place s at o m next free
  finds (TouchWrite o c v) next =
      let h = tells.writes k roll ss notes r place s at o c v next in
      out_by s.path (shelf_at ss o).queue h.entry h.there h.hold
  finds (Enter o a) next = place_for o a next
  finds (Enroll t n) next = tt
  finds (TouchRead o c v) next = tt
  finds (Wants o c) next = tt
  finds (Give o) next = tt
  finds (Leave o) next = tt
  finds (Shift o a) next = tt
  finds (Resign b n) next = tt
