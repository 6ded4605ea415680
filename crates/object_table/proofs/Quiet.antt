-- A live task does an event after which it alone stands in its place.
use Rattle.std.proofs.Common.{◌≡◌, ◌≢◌, ℕ, suc, ◌<◌, true, false, List, [], ◌∷◌, ◌++◌, map, take, length, set, refl, sym, ap, ◌∙◌, subst}
use Rattle.std.proofs.Common.{arith, ne_eqb, Option, Some}
use Rattle.std.specs.Prelude.{nat_eq, slice_get, if◌then◌else◌}
use mathlib.Core.Option.{some}
use lib.ListN.{get_elem?}
use Rattle.atomic_table.specs.Table as table
use Rattle.jade_base.specs.Held.{Held}
use Rattle.jade_meaning.specs.Talk.{Event}
use Rattle.jade_meaning.specs.Walk.{upcoming, First}
use Rattle.object_shelf.specs.Views.{ObjectView}
use Rattle.object_shelf.specs.Shelves.{same_path}
use Rattle.schedule_core.specs.declared.steps.Seat.{Seat}
use Rattle.task_roll.specs.declared.note.PartNote.{PartNote}
use Rattle.schedule_core.specs.Notes.{noted}
use Rattle.schedule_core.specs.ByNumber.{shelf_at}
use Rattle.schedule_core.specs.Plain.{Reached, goes_on, Does}
use Rattle.schedule_core.specs.Tells.{CoreTells}
use Rattle.jade_meaning.specs.Plan.{RunPlan}
use Rattle.object_table.specs.Views.{View, shelf_of, core_notes, gathered}
use Rattle.object_table.specs.Rule.{pass_of, kid_of, OnRoll, Agrees, Owned, Sits, Shown}
use Rattle.object_table.specs.Plays.{Lives}
use Rattle.object_table.specs.declared.slot.Slot.{Slot}
use Rattle.object_table.specs.declared.slot.Slot.TheVariants as slot
use Rattle.object_table.proofs.Lists.{put_seat, seat_here, seat_else, roll_split, roll_put, get_owner, apart_owners, place_get, place_take}
use Rattle.object_table.proofs.Lists.{place_drop, owned_set, every_with}
use Rattle.object_table.proofs.Goes.{SamePurse, Goes, parts0, parts1, same_gathered, same_accounts, same_settled}

-- the next event of a task between others
pub reach_on : (key : RunPlan) (k : ℕ) (f : List Seat) (s : Seat) (b : List Seat) (ss ss' : List ObjectView) (notes : List PartNote) (e : Event)
    (new : List Seat) → Reached key.program key.numbers key.limit k (f ++ (s ∷ b)) ss notes → First (upcoming s.walker) (λ x. x ≡ e) → Does e s ss new ss'
    → Reached key.program key.numbers key.limit (suc k) (f ++ (new ++ b)) ss' (noted e s notes)
reach_on key k f s b ss ss' notes e new r next does = goes_on r (length f) (record {
  step = record {
    seat = s;
    event = e;
    new = new;
    here = place_get f s b;
    next = next;
    does = does;
    roll = ap (λ x. x ++ (new ++ b)) (sym (place_take f s b)) ∙ ap (λ x. take (length f) (f ++ (s ∷ b)) ++ (new ++ x)) (sym (place_drop f s b));
  };
  notes = refl;
})

module _ (n : ℕ) (key : RunPlan) (s : table.State Slot View) (h : Shown n key s) (id : ℕ) (v : View) (at_v : get_elem? s.views id ≡ some v) (alive : v.live
    ≡ true) where
  abbrev pub p : List ℕ
  p = v.seat.path

  abbrev pub kid : List ℕ
  kid = v.seat.path ++ v.seat.children ∷ []

  abbrev pub on : OnRoll h.owners h.seats (pass_of id) v.seat
  on = (h.passes id v at_v).sits.live alive

  abbrev pub f : List Seat
  f = map h.seats on.spot.front

  abbrev pub b : List Seat
  b = map h.seats on.spot.back

  pub roll_is : map h.seats h.owners ≡ f ++ (v.seat ∷ b)
  roll_is = ap (map h.seats) on.spot.is ∙ roll_split h.seats (pass_of id) on.spot.front on.spot.back ∙ ap (λ x. f ++ (x ∷ b)) on.is

  pub stands : Reached key.program key.numbers key.limit h.count (f ++ (v.seat ∷ b)) h.shelves (core_notes (gathered h.tally s.views))
  stands = subst (λ r. Reached key.program key.numbers key.limit h.count r h.shelves (core_notes (gathered h.tally s.views))) roll_is h.reached

  -- the core that words, slots and passes show is one in which the task lives
  abbrev pub lives : Lives v
  lives = record {
    count = h.count;
    front = f;
    back = b;
    shelves = h.shelves;
    notes = core_notes (gathered h.tally s.views);
    reached = subst (λ (k : RunPlan). Reached k.program k.numbers k.limit h.count (f ++ (v.seat ∷ b)) h.shelves (core_notes (gathered h.tally s.views)))
        (sym ((h.passes id v at_v).plan alive)) stands;
    held = (h.passes id v at_v).sits.held alive;
  }

  pub seat_on : (x : ℕ) (t : Seat) (q : OnRoll h.owners h.seats x t) → slice_get (map h.seats h.owners) (length q.spot.front) ≡ Some t
  seat_on x t q = ap (λ l. slice_get (map h.seats l) (length q.spot.front)) q.spot.is ∙ get_owner h.seats q.spot.front x q.spot.back ∙ ap (λ a. Some a) q.is

  pub found : (o : ℕ) → o ≢ n → parts0 n key s h id v at_v o ≡ slot.Object (shelf_of (shelf_at h.shelves o))
  found o ne = ap (λ z. if z then slot.Roll h.tally else slot.Object (shelf_of (shelf_at h.shelves o))) (ne_eqb o n ne)

  module _ (tells : CoreTells key.program key.numbers key.limit) where
    pub far_off : (x : ℕ) (t : Seat) → x ≢ pass_of id → OnRoll h.owners h.seats x t → same_path t.path p ≡ false
    far_off x t ne q = tells.apart h.count (map h.seats h.owners) h.shelves (core_notes (gathered h.tally s.views)) h.reached (length q.spot.front) (length on.spot.front) t v.seat
        (seat_on x t q) (seat_on (pass_of id) v.seat on) (apart_owners h.owners x (pass_of id) q.spot on.spot ne)

    pub no_kid : (x : ℕ) (t : Seat) → x ≢ pass_of id → OnRoll h.owners h.seats x t → same_path t.path kid ≡ false
    no_kid x t ne q = tells.kids h.count (map h.seats h.owners) h.shelves (core_notes (gathered h.tally s.views)) h.reached (length q.spot.front) (length on.spot.front) t v.seat
        (seat_on x t q) (seat_on (pass_of id) v.seat on) (apart_owners h.owners x (pass_of id) q.spot on.spot ne)

    module _ (e : Event) (u2 : Seat) (ss2 : List ObjectView) (w : View) (next : First (upcoming v.seat.walker) (λ x. x
        ≡ e)) (does : Does e v.seat h.shelves (u2 ∷ []) ss2) (silent : (ns : List PartNote) → noted e v.seat ns ≡ ns) (path : u2.path ≡ p) (is : w.seat
        ≡ u2) (live : w.live ≡ v.live) (unborn : w.unborn ≡ v.unborn) (plan : w.key ≡ v.key) (purse : SamePurse v w) (far : (q : List ℕ) → same_path q p
        ≡ false → same_path q kid ≡ false → (hs : List (Option Held)) → Agrees q h.shelves hs → Agrees q ss2 hs) (own : Agrees p ss2 w.held) where
      abbrev pub seats2 : ℕ → Seat
      seats2 = put_seat h.seats (pass_of id) u2

      roll2 : map seats2 h.owners ≡ f ++ (u2 ∷ b)
      roll2 = roll_put h.seats (pass_of id) u2 h.owners on.spot

      pub reached2 : Reached key.program key.numbers key.limit (suc h.count) (map seats2 h.owners) ss2 (core_notes (gathered h.tally s.views))
      reached2 =
          subst (λ r. Reached key.program key.numbers key.limit (suc h.count) r ss2 (core_notes (gathered h.tally s.views))) (sym roll2)
          (subst (λ ns. Reached key.program key.numbers key.limit (suc h.count) (f ++ (u2 ∷ b)) ss2 ns) (silent (core_notes (gathered h.tally s.views)))
          (reach_on key h.count f v.seat b h.shelves ss2 (core_notes (gathered h.tally s.views)) e (u2 ∷ []) stands next does))

      on_else : (x : ℕ) (t : Seat) → x ≢ pass_of id → OnRoll h.owners h.seats x t → OnRoll h.owners seats2 x t
      on_else x t ne r = record { spot = r.spot; is = seat_else h.seats (pass_of id) u2 x ne ∙ r.is }

      agrees_else : (x : ℕ) (t : Seat) → x ≢ pass_of id → OnRoll h.owners h.seats x t → (hs : List (Option Held)) → Agrees t.path h.shelves hs
          → Agrees t.path ss2 hs
      agrees_else x t ne r hs a = far t.path (far_off x t ne r) (no_kid x t ne r) hs a

      pub others : (j : ℕ) (z : View) → j ≢ id → Sits h.owners h.seats h.shelves j z → Sits h.owners seats2 ss2 j z
      others j z ne q = record {
        live = λ l. on_else (pass_of j) z.seat (λ r. ne (omega arith)) (q.live l);
        held = λ l. agrees_else (pass_of j) z.seat (λ r. ne (omega arith)) (q.live l) z.held (q.held l);
        unborn = λ k u. on_else (kid_of j) k (λ r. absurd (omega arith)) (q.unborn k u);
        unheld = λ k u. agrees_else (kid_of j) k (λ r. absurd (omega arith)) (q.unborn k u) [] (q.unheld k u);
        fed = q.fed;
        feeds = q.feeds;
      }

      pub mine2 : Sits h.owners seats2 ss2 id w
      mine2 =
          let q = (h.passes id v at_v).sits in
          record {
            live = λ l. record { spot = on.spot; is = seat_here h.seats (pass_of id) u2 ∙ sym is };
            held = λ l. subst (λ x. Agrees x ss2 w.held) (sym path ∙ ap (λ (x : Seat). x.path) (sym is)) own;
            unborn = λ k u. on_else (kid_of id) k (λ r. absurd (omega arith)) (q.unborn k (sym unborn ∙ u));
            unheld = λ k u. agrees_else (kid_of id) k (λ r. absurd (omega arith)) (q.unborn k (sym unborn ∙ u)) [] (q.unheld k (sym unborn ∙ u));
            fed = λ l. subst (λ t. 0 < t) (sym purse.tickets) (q.fed alive);
            feeds = λ k u. subst (λ t. 1 < t) (sym purse.tickets) (q.feeds k (sym unborn ∙ u));
          }

      abbrev pub quiet : Goes n key s h id v at_v w
      quiet = record {
        count = suc h.count;
        owners = h.owners;
        seats = seats2;
        shelves = ss2;
        tally = h.tally;
        reached = subst (λ ns. Reached key.program key.numbers key.limit (suc h.count) (map seats2 h.owners) ss2 (core_notes ns))
            (sym (same_gathered n key s h id v at_v w purse)) reached2;
        accounts = same_accounts n key s h id v at_v w purse;
        settled = λ e. e;
        own_settled = same_settled n key s h id v at_v w purse;
        plan = λ l. plan ∙ (h.passes id v at_v).plan alive;
        own = mine2;
        others = λ j z ne e. others j z ne (h.passes j z e).sits;
        only = every_with (Owned s.views) (Owned (set s.views id w)) (λ x q. owned_set s.views id x v w at_v live unborn q) h.owners h.only;
      }

      -- where an object shows the same its part is the same
      pub part_else : (i : ℕ) → shelf_of (shelf_at h.shelves i) ≡ shelf_of (shelf_at ss2 i) → parts0 n key s h id v at_v i
          ≡ parts1 n key s h id v at_v w quiet i
      part_else i same = ap (λ x. if nat_eq i n then slot.Roll h.tally else slot.Object x) same

      pub part_here : (o : ℕ) → o ≢ n → (new : Slot) → new ≡ slot.Object (shelf_of (shelf_at ss2 o)) → new ≡ parts1 n key s h id v at_v w quiet o
      part_here o ne new e = e ∙ sym (ap (λ z. if z then slot.Roll h.tally else slot.Object (shelf_of (shelf_at ss2 o))) (ne_eqb o n ne))
