-- A task makes its next child, which stands before it on the roll and has no pass yet.
use Rattle.std.proofs.Common.{◌≡◌, ◌≢◌, ℕ, suc, ◌<◌, ◌≤◌, true, false, List, [], ◌∷◌, ◌++◌, map, length, set, refl, sym, ap, ◌∙◌, subst, arith}
use Rattle.std.proofs.Common.{append_assoc, Option, Some, None}
use Rattle.std.specs.Prelude.{slice_get, slice_index, is_some}
use mathlib.Core.Logic.{dite}
use mathlib.Core.Option.{none, some}
use native.Mathlib.Decide.{ℕ_discrete}
use lib.ListN.{get_elem?}
use Rattle.atomic_table.specs.Table as table
use Rattle.atomic_table.specs.Table.{Me, step, keeps, stepped, Allows}
use Rattle.atomic_table.proofs.Lists.{set_here}
use Rattle.jade_base.specs.declared.rights.Mode.{Mode}
use Rattle.jade_base.specs.Places.{same_path}
use Rattle.jade_meaning.specs.Laws.{Every}
use Rattle.jade_meaning.specs.Talk.{Task, Event, Enroll}
use Rattle.jade_meaning.specs.Walks.{Walk}
use Rattle.jade_meaning.specs.Walk.{upcoming, First, Bears, IsChildOf, moved}
use Rattle.object_shelf.specs.declared.queue.Entry.{Entry}
use Rattle.object_shelf.specs.Shelves.{find}
use Rattle.task_roll.specs.declared.note.PartNote.{PartNote}
use Rattle.task_roll.specs.Rolls.{filed}
use Rattle.schedule_core.specs.declared.steps.Seat.{Seat}
use Rattle.schedule_core.specs.ByNumber.{shelf_at}
use Rattle.schedule_core.specs.Plain.{Reached, Born}
use Rattle.schedule_core.specs.Holders.{IsLive}
use Rattle.schedule_core.proofs.Lines.{every_append, every_front, every_back}
use Rattle.jade_meaning.specs.Plan.{RunPlan}
use Rattle.object_table.specs.Tallies.{most}
use Rattle.object_table.specs.Views.{count_of, View, core_notes, worth, gathered}
use Rattle.object_table.specs.Touches.{passed}
use Rattle.object_table.specs.Rule.{pass_of, kid_of, hold_of, nothing, Absent, Spot, OnRoll, Agrees, Owned, by_maker, Sits, Ruled}
use Rattle.object_table.specs.Plays.{note_after, bore, Ahead, OwnEvent, did_enroll}
use Rattle.object_table.specs.steps.Kept.{Laws}
use Rattle.object_table.specs.declared.slot.Slot.{Slot}
use Rattle.object_table.proofs.Bearing.{child_walk}
use Rattle.object_table.proofs.Lists.{put_seat, seat_here, seat_else, map_absent, roll_put, place_get, at_inside, every_with, path_same, not_kid}
use Rattle.object_table.proofs.Owners.{spot_more, some_seat, owned_more, no_kid_of}
use Rattle.object_table.proofs.Goes.{Goes, loaded}
use Rattle.object_table.proofs.Quiet.{on, f, b, stands, lives, reach_on}
use Rattle.object_table.proofs.Noting.{noted_on, noted_accounts, noted_room}
use Rattle.object_table.proofs.Touching.{set_set, passing, passed_same}
use Rattle.object_table.proofs.Finishing.{ahead_once}

first_with : (l : List Event) (P Q : Event → Type 0) → ((e : Event) → P e → Q e) → First l P → First l Q
first_with [] P Q f h = h
first_with (e ∷ l) P Q f h = f e h

module _ (key : RunPlan) (laws : Laws key) (s : table.State Slot View) (h : Ruled key s) (id : ℕ) (v : View) (at_v : get_elem? s.views id ≡ some v)
    (alive : v.live ≡ true) (rich : 2 < v.tickets) (born : v.unborn ≡ None) (t : Task) (steps : ℕ)
    (next : First (upcoming v.seat.walker) (λ x. x ≡ Enroll t steps)) where
  abbrev n : ℕ
  n = count_of key

  abbrev p : List ℕ
  p = v.seat.path

  abbrev young : List ℕ
  young = v.seat.path ++ v.seat.children ∷ []

  pub the_child : (child : Walk) × IsChildOf v.seat.walker t child
  the_child = child_walk v.seat.walker t steps next

  abbrev pub baby : Seat
  baby = record { path = v.seat.path ++ v.seat.children ∷ []; walker = the_child.0; children = 0 }

  abbrev u2 : Seat
  u2 = record v.seat { walker = moved None v.seat.walker; children = suc v.seat.children }

  pub born_of : Born v.seat baby u2
  born_of = record {
    child = the_child.0;
    bears = first_with (upcoming v.seat.walker) (λ x. x ≡ Enroll t steps) (Bears v.seat.walker (Some the_child.0))
        (λ e q. subst (Bears v.seat.walker (Some the_child.0)) (sym q) the_child.1) next;
    seat = refl;
    parent = refl;
  }

  -- which is one event of a core
  pub own_event : OwnEvent (Enroll t steps) v (baby ∷ (u2 ∷ []))
  own_event = record { core = lives n key s h id v at_v alive; next = next; does = (the_child.0, the_child.1, refl, refl) }

  abbrev me : ℕ
  me = pass_of id

  abbrev kid : ℕ
  kid = kid_of id

  abbrev there : OnRoll h.owners h.seats me v.seat
  there = on n key s h id v at_v alive

  abbrev front : List ℕ
  front = there.spot.front

  abbrev back : List ℕ
  back = there.spot.back

  abbrev before : List Seat
  before = f n key s h id v at_v alive

  abbrev behind : List Seat
  behind = b n key s h id v at_v alive

  abbrev w : View
  w = bore steps baby v

  abbrev note : PartNote
  note = note_after v steps None

  abbrev told : List PartNote
  told = gathered h.tally s.views

  spent : v.tickets ≡ suc w.tickets
  spent = omega (arith, rich)

  abbrev owners2 : List ℕ
  owners2 = front ++ (kid ∷ (me ∷ back))

  abbrev seats1 : ℕ → Seat
  seats1 = put_seat h.seats me u2

  abbrev seats2 : ℕ → Seat
  seats2 = put_seat seats1 kid baby

  fresh : Absent kid (front ++ (me ∷ back))
  fresh = subst (Absent kid) there.spot.is
      (every_with (Owned s.views) (λ (x : ℕ). x ≢ kid) (λ x q. no_kid_of s.views id x v v at_v born q) h.owners h.only)

  apart : kid ≢ me
  apart = λ e. absurd (omega arith)

  abbrev kid_spot : Spot owners2 kid
  kid_spot = record {
    front = front;
    back = me ∷ back;
    is = refl;
    before = every_front (λ (x : ℕ). x ≢ kid) front (me ∷ back) fresh;
    after = every_back (λ (x : ℕ). x ≢ kid) front (me ∷ back) fresh;
  }

  roll2 : map seats2 owners2 ≡ before ++ (baby ∷ (u2 ∷ behind))
  roll2 =
      roll_put seats1 kid baby owners2 kid_spot ∙ ap (λ l. l ++ (baby ∷ (seats1 me ∷ map seats1 back))) (map_absent h.seats me u2 front there.spot.before)
      ∙ ap (λ x. before ++ (baby ∷ (x ∷ map seats1 back))) (seat_here h.seats me u2)
      ∙ ap (λ l. before ++ (baby ∷ (u2 ∷ l))) (map_absent h.seats me u2 back there.spot.after)

  stands2 : Reached key.program key.numbers key.limit (suc h.count) (before ++ (baby ∷ (u2 ∷ behind))) h.shelves (filed note (core_notes told))
  stands2 =
      reach_on key h.count before v.seat behind h.shelves h.shelves (core_notes told) (Enroll t steps) (baby ∷ (u2 ∷ []))
      (stands n key s h id v at_v alive) next (the_child.0, the_child.1, refl, refl)

  on_else : (x : ℕ) (z : Seat) → x ≢ me → x ≢ kid → OnRoll h.owners h.seats x z → OnRoll owners2 seats2 x z
  on_else x z ne nk r = record {
    spot = spot_more front (me ∷ back) kid x (λ e. nk (sym e)) (subst (λ os. Spot os x) there.spot.is r.spot);
    is = seat_else seats1 kid baby x nk ∙ seat_else h.seats me u2 x ne ∙ r.is;
  }

  -- the child holds nothing
  none_held : (o : ℕ) → hold_of (find young (shelf_at h.shelves o).queue) ≡ None
  none_held o = by_entry (find young (shelf_at h.shelves o).queue) refl
    where
      not_live : IsLive (before ++ (v.seat ∷ behind)) young → ⊥
      not_live l = dite (ℕ_discrete l.place (length before))
          (λ same.
          let is : l.seat ≡ v.seat = some_seat l.seat v.seat (sym l.live ∙ ap (slice_get (before ++ (v.seat ∷ behind))) same
          ∙ place_get before v.seat behind) in
          absurd (let r : true ≡ false = sym (ap (same_path p) (sym l.path ∙ ap (λ (x : Seat). x.path) is) ∙ path_same p)
          ∙ not_kid p v.seat.children in cc))
          (λ ne. absurd (let r : true ≡ false = sym (ap (λ q. same_path q young) l.path ∙ path_same young)
          ∙ laws.tells.kids h.count (before ++ (v.seat ∷ behind)) h.shelves (core_notes told) (stands n key s h id v at_v alive) l.place (length before)
          l.seat v.seat l.live (place_get before v.seat behind) ne in cc))

      by_hold : (e : Entry) (m : Option Mode) → find young (shelf_at h.shelves o).queue ≡ Some e → e.hold ≡ m → m ≡ None
      by_hold e None q k = refl
      by_hold e (Some m) q k = absurd (not_live (laws.holders.holder h.count (before ++ (v.seat ∷ behind)) h.shelves (core_notes told)
          (stands n key s h id v at_v alive) o young e q (ap is_some k)))

      by_entry : (x : Option Entry) → find young (shelf_at h.shelves o).queue ≡ x → hold_of (find young (shelf_at h.shelves o).queue) ≡ None
      by_entry None q = ap hold_of q
      by_entry (Some e) q = ap hold_of q ∙ by_hold e e.hold q refl

  abbrev holds_nothing : Agrees young h.shelves []
  holds_nothing = record { each = λ o. nothing refl (none_held o) }

  mine : Sits owners2 seats2 h.shelves id w
  mine =
      let q = (h.passes id v at_v).sits in
      record {
        live = λ l. record {
          spot = record {
            front = front ++ kid ∷ [];
            back = back;
            is = sym (append_assoc front (kid ∷ []) (me ∷ back));
            before = every_append (λ (x : ℕ). x ≢ me) front (kid ∷ []) there.spot.before (apart, tt);
            after = there.spot.after;
          };
          is = seat_else seats1 kid baby me (λ e. apart (sym e)) ∙ seat_here h.seats me u2;
        };
        held = λ l. q.held alive;
        unborn = λ z e. subst (λ y. OnRoll owners2 seats2 kid y) (some_seat baby z e) (record { spot = kid_spot; is = seat_here seats1 kid baby });
        unheld = λ z e. subst (λ (y : Seat). Agrees y.path h.shelves []) (some_seat baby z e) holds_nothing;
        fed = λ l. omega (arith, rich);
        feeds = λ z e. omega (arith, rich);
      }

  others : (j : ℕ) (z : View) → j ≢ id → Sits h.owners h.seats h.shelves j z → Sits owners2 seats2 h.shelves j z
  others j z ne q = record {
    live = λ l. on_else (pass_of j) z.seat (λ r. ne (omega arith)) (λ r. absurd (omega arith)) (q.live l);
    held = q.held;
    unborn = λ k u. on_else (kid_of j) k (λ r. absurd (omega arith)) (λ r. ne (omega arith)) (q.unborn k u);
    unheld = q.unheld;
    fed = q.fed;
    feeds = q.feeds;
  }

  owned : Every (Owned (set s.views id w)) owners2
  owned =
      let Q = Owned (set s.views id w) in
      let all = subst (λ os. Every Q os) there.spot.is (every_with (Owned s.views) Q (λ x q. owned_more s.views id x v w at_v born refl q) h.owners h.only) in
      every_append Q front (kid ∷ (me ∷ back)) (every_front Q front (me ∷ back) all)
      (by_maker id w baby (set_here s.views id w (at_inside s.views id v at_v)) refl refl, every_back Q front (me ∷ back) all)

  abbrev grown : Goes n key s h id v at_v w
  grown = record {
    count = suc h.count;
    owners = owners2;
    seats = seats2;
    shelves = h.shelves;
    tally = h.tally;
    reached = noted_on key laws s h id v w at_v note refl spent (suc h.count) (map seats2 owners2) h.shelves
        (subst (λ r. Reached key.program key.numbers key.limit (suc h.count) r h.shelves (filed note (core_notes told))) (sym roll2) stands2);
    accounts = noted_accounts key laws s h id v w at_v note refl spent;
    settled = λ e. e;
    own_settled = λ e. h.settled id v at_v e;
    plan = λ l. (h.passes id v at_v).plan alive;
    own = mine;
    others = λ j z ne e. others j z ne (h.passes j z e).sits;
    only = owned;
  }

  pub enroll_on : (carried : List (ℕ × Slot)) → Ruled key (stepped s 0 (slice_index s.words 0) id carried w keeps)
  enroll_on carried =
      loaded n key s h id v at_v w grown (λ p. refl) (record { turn = refl; place = λ e. refl; note = λ e. refl }) (λ e. omega (arith, rich)) carried

  pub enroll_room : worth w ≤ most
  enroll_room = noted_room key laws s h id v w at_v note refl spent

same_creation : (t d : Task) (n m : ℕ) → Enroll t n ≡ Enroll d m → (t ≡ d) × (n ≡ m)
same_creation t d n m e = (cc, cc)

-- a creation done at a load of the first word
pub enrolling : (key : RunPlan) → Laws key → (slots id : ℕ) (me : Me Slot View) → me.0.live ≡ true → me.0.unborn ≡ None → 2 < me.0.tickets
    → (k : ℕ) (t : Task) (steps : ℕ) → Ahead k (Enroll t steps) me.0
    → Allows (Ruled key) slots id me 0 (λ x. x) (did_enroll (step slots 0 0 0 none) me)
enrolling key laws slots id me alive born rich k t steps ahead s h _ at _ =
    let v = passed k me.0 in
    let same = passed_same k me.0 in
    let rich' : 2 < v.tickets = subst (λ x. 2 < x) (sym same.tickets) rich in
    let s' : table.State Slot View = record { words = s.words; homes = s.homes; views = set s.views id v } in
    let h' : Ruled key s' = passing (count_of key) key s h id me.0 at alive laws.tells k ahead.touches in
    let at_v = set_here s.views id v (at_inside s.views id me.0 at) in
    let kid = baby key laws s' h' id v at_v (same.live ∙ alive) rich' (same.unborn ∙ born) t steps ahead.next in
    let is_born = born_of key laws s' h' id v at_v (same.live ∙ alive) rich' (same.unborn ∙ born) t steps ahead.next in
    let room = enroll_room key laws s' h' id v at_v (same.live ∙ alive) rich' (same.unborn ∙ born) t steps ahead.next in
    let event = own_event key laws s' h' id v at_v (same.live ∙ alive) rich' (same.unborn ∙ born) t steps ahead.next in
    let w = bore steps kid v in (
      w,
      keeps,
      tt,
      subst (λ l. Ruled key (record { words = set s.words 0 (slice_index s.words 0); homes = s.homes; views = l })) (set_set s.views id v w)
          (enroll_on key laws s' h' id v at_v (same.live ∙ alive) rich' (same.unborn ∙ born) t steps ahead.next me.1),
      (
        (λ j d m other.
            let q = ahead_once k j (Enroll t steps) (Enroll d m) me.0 ahead other in
            let r = same_creation t d steps m q.1 in
            subst (λ i. (z : Seat) × Born (passed i me.0).seat z w.seat × (w ≡ bore m z (passed i me.0)) × (worth w ≤ most)
            × OwnEvent (Enroll d m) (passed i me.0) (z ∷ (w.seat ∷ []))) q.0
            (subst (λ (c : Task × ℕ). (z : Seat) × Born v.seat z w.seat × (w ≡ bore c.1 z v) × (worth w ≤ most)
            × OwnEvent (Enroll c.0 c.1) v (z ∷ (w.seat ∷ []))) (λ i. (r.0 i, r.1 i)) (kid, is_born, refl, room, event))),
        refl,
      ),
    )
