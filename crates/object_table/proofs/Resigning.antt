-- A task ends: it leaves the roll, and its last part leaves its note.
use Rattle.std.proofs.Common.{◌≡◌, ◌≢◌, ℕ, suc, ◌<◌, ◌≤◌, true, List, [], ◌∷◌, ◌++◌, map, set, length, refl, sym, ◌∙◌, subst, arith, Option, None}
use Rattle.std.specs.Prelude.{slice_index}
use mathlib.Core.Option.{none, some}
use lib.ListN.{get_elem?}
use Rattle.atomic_table.specs.Table as table
use Rattle.atomic_table.specs.Table.{Me, step, keeps, stepped, Allows}
use Rattle.atomic_table.proofs.Lists.{set_here}
use Rattle.jade_base.specs.declared.report.Blame.{Blame}
use Rattle.jade_meaning.specs.Laws.{Every}
use Rattle.jade_meaning.specs.Talk.{Resign}
use Rattle.jade_meaning.specs.Walk.{upcoming, First}
use Rattle.task_roll.specs.declared.note.PartNote.{PartNote}
use Rattle.task_roll.specs.Rolls.{filed}
use Rattle.schedule_core.specs.declared.steps.Seat.{Seat}
use Rattle.schedule_core.specs.Plain.{Reached}
use Rattle.schedule_core.proofs.Lines.{every_append, every_front, every_back, every_apply}
use Rattle.jade_meaning.specs.Plan.{RunPlan}
use Rattle.object_table.specs.Tallies.{most}
use Rattle.object_table.specs.Views.{count_of, View, core_notes, worth, gathered}
use Rattle.object_table.specs.Touches.{passed}
use Rattle.object_table.specs.Rule.{pass_of, kid_of, Spot, OnRoll, Owned, Sits, Ruled}
use Rattle.object_table.specs.Plays.{note_after, gone, Ahead, OwnEvent, did_resign}
use Rattle.object_table.specs.steps.Kept.{Laws}
use Rattle.object_table.specs.declared.slot.Slot.{Slot}
use Rattle.object_table.proofs.Lists.{at_inside, every_with}
use Rattle.object_table.proofs.Owners.{spot_less, map_both, none_some, owned_gone}
use Rattle.object_table.proofs.Goes.{Goes, loaded}
use Rattle.object_table.proofs.Quiet.{on, f, b, stands, lives, reach_on}
use Rattle.object_table.proofs.Noting.{noted_on, noted_accounts, noted_room}
use Rattle.object_table.proofs.Touching.{set_set, passing, passed_same}
use Rattle.object_table.proofs.Finishing.{ahead_once}

module _ (key : RunPlan) (laws : Laws key) (s : table.State Slot View) (h : Ruled key s) (id : ℕ) (v : View) (at_v : get_elem? s.views id ≡ some v)
    (alive : v.live ≡ true) (born : v.unborn ≡ None) (blame : Option Blame) (steps : ℕ)
    (next : First (upcoming v.seat.walker) (λ x. x ≡ Resign blame steps)) where
  abbrev n : ℕ
  n = count_of key

  -- it is one event of a core
  pub own_event : OwnEvent (Resign blame steps) v []
  own_event = record { core = lives n key s h id v at_v alive; next = next; does = (refl, refl) }

  abbrev me : ℕ
  me = pass_of id

  abbrev there : OnRoll h.owners h.seats me v.seat
  there = on n key s h id v at_v alive

  abbrev front : List ℕ
  front = there.spot.front

  abbrev back : List ℕ
  back = there.spot.back

  abbrev before : List Seat
  before = f n key s h id v at_v alive

  abbrev behind : List Seat
  behind = b n key s h id v at_v alive

  abbrev note : PartNote
  note = note_after v steps blame

  abbrev told : List PartNote
  told = gathered h.tally s.views

  abbrev w : View
  w = gone blame steps v

  fed : 0 < v.tickets
  fed = (h.passes id v at_v).sits.fed alive

  spent : v.tickets ≡ suc w.tickets
  spent = let some = fed in omega (arith, some)

  stands2 : Reached key.program key.numbers key.limit (suc h.count) (before ++ behind) h.shelves (filed note (core_notes told))
  stands2 = reach_on key h.count before v.seat behind h.shelves h.shelves (core_notes told) (Resign blame steps) [] (stands n key s h id v at_v alive) next
      (refl, refl)

  on_else : (x : ℕ) (z : Seat) → x ≢ me → OnRoll h.owners h.seats x z → OnRoll (front ++ back) h.seats x z
  on_else x z ne q = record { spot = spot_less front back me x (λ e. ne (sym e)) (subst (λ os. Spot os x) there.spot.is q.spot); is = q.is }

  mine : Sits (front ++ back) h.seats h.shelves id w
  mine = record {
    live = λ l. absurd (cc);
    held = λ l. absurd (cc);
    unborn = λ z e. absurd (none_some z (sym born ∙ e));
    unheld = λ z e. absurd (none_some z (sym born ∙ e));
    fed = λ l. absurd (cc);
    feeds = λ z e. absurd (none_some z (sym born ∙ e));
  }

  others : (j : ℕ) (z : View) → j ≢ id → Sits h.owners h.seats h.shelves j z → Sits (front ++ back) h.seats h.shelves j z
  others j z ne q = record {
    live = λ l. on_else (pass_of j) z.seat (λ r. ne (omega arith)) (q.live l);
    held = q.held;
    unborn = λ k u. on_else (kid_of j) k (λ r. absurd (omega arith)) (q.unborn k u);
    unheld = q.unheld;
    fed = q.fed;
    feeds = q.feeds;
  }

  owned : Every (Owned (set s.views id w)) (front ++ back)
  owned =
      let P = Owned s.views in
      let Q = Owned (set s.views id w) in
      let all = subst (λ os. Every P os) there.spot.is h.only in
      let each = λ (x : ℕ) (ne : x ≢ me) (q : P x). owned_gone s.views id x v w at_v born ne q in
      every_append Q front back
      (every_apply P Q front (every_with (λ (x : ℕ). x ≢ me) (λ x. P x → Q x) each front there.spot.before) (every_front P front (me ∷ back) all))
      (every_apply P Q back (every_with (λ (x : ℕ). x ≢ me) (λ x. P x → Q x) each back there.spot.after) (every_back P front (me ∷ back) all).1)

  abbrev shrunk : Goes n key s h id v at_v w
  shrunk = record {
    count = suc h.count;
    owners = front ++ back;
    seats = h.seats;
    shelves = h.shelves;
    tally = h.tally;
    reached = noted_on key laws s h id v w at_v note refl spent (suc h.count) (map h.seats (front ++ back)) h.shelves
        (subst (λ r. Reached key.program key.numbers key.limit (suc h.count) r h.shelves (filed note (core_notes told)))
        (sym (map_both h.seats front back)) stands2);
    accounts = noted_accounts key laws s h id v w at_v note refl spent;
    settled = λ e. e;
    own_settled = λ e. h.settled id v at_v e;
    plan = λ l. (h.passes id v at_v).plan alive;
    own = mine;
    others = λ j z ne e. others j z ne (h.passes j z e).sits;
    only = owned;
  }

  more : 0 < worth w
  more = let r = worth_noted v.notes in omega (arith, r)
    where
      worth_noted : (ns : List PartNote) → 0 < length (ns ++ note ∷ [])
      worth_noted [] = omega arith
      worth_noted (x ∷ ns) = omega arith

  pub resign_on : (carried : List (ℕ × Slot)) → Ruled key (stepped s 0 (slice_index s.words 0) id carried w keeps)
  resign_on carried =
      loaded n key s h id v at_v w shrunk (λ p. refl) (record { turn = refl; place = λ e. refl; note = λ e. refl }) (λ e. more) carried

  pub resign_room : worth w ≤ most
  resign_room = noted_room key laws s h id v w at_v note refl spent

same_blame : (b d : Option Blame) (n m : ℕ) → Resign b n ≡ Resign d m → (b ≡ d) × (n ≡ m)
same_blame b d n m e = (cc, cc)

-- the end done at a load of the first word
pub resigning : (key : RunPlan) → Laws key → (slots id : ℕ) (me : Me Slot View) → me.0.live ≡ true → me.0.unborn ≡ None
    → (k : ℕ) (blame : Option Blame) (steps : ℕ) → Ahead k (Resign blame steps) me.0
    → Allows (Ruled key) slots id me 0 (λ x. x) (did_resign (step slots 0 0 0 none) me)
resigning key laws slots id me alive born k blame steps ahead s h _ at _ =
    let v = passed k me.0 in
    let same = passed_same k me.0 in
    let s' : table.State Slot View = record { words = s.words; homes = s.homes; views = set s.views id v } in
    let h' : Ruled key s' = passing (count_of key) key s h id me.0 at alive laws.tells k ahead.touches in
    let at_v = set_here s.views id v (at_inside s.views id me.0 at) in
    let room = resign_room key laws s' h' id v at_v (same.live ∙ alive) (same.unborn ∙ born) blame steps ahead.next in
    let event = own_event key laws s' h' id v at_v (same.live ∙ alive) (same.unborn ∙ born) blame steps ahead.next in
    let w = gone blame steps v in (
      w,
      keeps,
      tt,
      subst (λ l. Ruled key (record { words = set s.words 0 (slice_index s.words 0); homes = s.homes; views = l })) (set_set s.views id v w)
          (resign_on key laws s' h' id v at_v (same.live ∙ alive) (same.unborn ∙ born) blame steps ahead.next me.1),
      (
        (λ j d m other.
            let q = ahead_once k j (Resign blame steps) (Resign d m) me.0 ahead other in
            let r = same_blame blame d steps m q.1 in
            subst (λ i. (w ≡ gone d m (passed i me.0)) × (worth w ≤ most) × OwnEvent (Resign d m) (passed i me.0) []) q.0 (
              (λ i. gone (r.0 i) (r.1 i) v),
              room,
              subst (λ (c : Option Blame × ℕ). OwnEvent (Resign c.0 c.1) v []) (λ i. (r.0 i, r.1 i)) event,
            )),
        refl,
      ),
    )
