-- What a pass shows once a creation or an end is done; its turns at the roll; its cut in two, and its taking in of another.
use Rattle.std.proofs.Common.{◌≡◌, ◌⊎◌, inl, inr, ℕ, zero, suc, ◌<◌, ◌≤◌, ◌+◌, ◌-◌, ◌%◌, ◌^◌, ◌/◌, Bool, true, false, ◌&&◌, ◌||◌, List, [], ◌∷◌, ◌++◌, length, refl, sym}
use Rattle.std.proofs.Common.{ap, ◌∙◌, subst, arith, Option, Some, None}
use Rattle.std.specs.Prelude.{Result, Ok, Err, IfOk}
use mathlib.Core.Option.{none}
use Rattle.atomic_table.specs.Table.{Me, step, Splits, Joins, rest}
use Rattle.atomic_table.specs.Lent.{seat_with}
use Rattle.atomic_table.specs.declared.shared.Seat.{Seat}
use Rattle.jade_base.specs.declared.report.Blame.{Blame}
use Rattle.jade_meaning.specs.Talk.{Task as TaskOf, Event, Enter, Enroll, Take, TouchRead, TouchWrite, Wants, Give, Leave, Shift, Resign}
use Rattle.jade_meaning.specs.Walk.{upcoming, First, Bears, IsChildOf}
use Rattle.object_shelf.specs.Views.{ShelfView}
use Rattle.task_roll.specs.declared.note.PartNote.{PartNote}
use Rattle.schedule_core.specs.declared.steps.Seat.{Seat as Place}
use Rattle.schedule_core.specs.Plain.{seat_after, Born}
use Rattle.jade_meaning.specs.Plan.{RunPlan}
use Rattle.object_table.specs.Tallies.{TallyView, stock, most, share, restocked, received, is_settled}
use Rattle.object_table.specs.Views.{count_of, View, worth}
use Rattle.object_table.specs.Touches.{is_touch, touched_first, touched, touch_next, passed, all_touches}
use Rattle.object_table.specs.Rule.{Ruled}
use Rattle.object_table.specs.Plays.{note_after, bore, did_enroll, gone, did_resign, supplied, left_restocked, is_all_in, all_in, relieved, left_relieved, looked, Ahead}
use Rattle.object_table.specs.Plays.{OwnEvent, in_turn, turned_off, left_as_it_was, without_kid, kid_view, joined, spent_view}
use Rattle.object_table.specs.Calls.{Next, AsBefore, saw_roll, Bore, Ended, HandedIn, HandedInAs, Restocked, IsGone, SpentOne}
use Rattle.object_table.specs.steps.Kept.{Rests, GotTurn, Leaves, Loads, Laws, Youngest, shown}
use Rattle.object_table.specs.steps.Leaving.{BegunRoll, Stocked}
use Rattle.object_table.specs.declared.task.Task.{Task}
use Rattle.object_table.specs.declared.answers.Tried.{Tried}
use Rattle.object_table.specs.declared.answers.Tried.TheVariants.{Done, Busy}
use Rattle.object_table.specs.declared.slot.Slot.{Slot}
use Rattle.object_table.specs.declared.slot.Slot.TheVariants as slot
use Rattle.object_table.proofs.Touching.{passed_same}
use Rattle.object_table.proofs.Owners.{some_seat, none_some}
use Rattle.object_table.proofs.Desisting.{desisting}
use Rattle.object_table.proofs.Enrolling.{enrolling}
use Rattle.object_table.proofs.Resigning.{resigning}
use Rattle.object_table.proofs.AtRoll.{restocking, relieving}
use Rattle.object_table.proofs.Splitting.{splits}
use Rattle.object_table.proofs.Joining.{joins}
use Rattle.object_table.proofs.Calls.{Purse, path_is, children_is, tickets_is, notes_is, over_is, idle_same, alive, alive_is, spare_is, left_rests}
use Rattle.object_table.proofs.Calls.{done_shown, on_try, tried_rests, tried_shown}

length_both : (xs ys : List PartNote) → length (xs ++ ys) ≡ length xs + length ys
length_both [] ys = omega arith
length_both (x ∷ xs) ys = let l = length_both xs ys in omega (arith, l)

first_both : (l : List Event) (P Q : Event → Type 0) → First l P → First l Q → (e : Event) × P e × Q e
first_both [] P Q f g = absurd f
first_both (e ∷ l) P Q f g = (e, f, g)

module _ (t : Task) (r : Rests t) where
  abbrev v0 : View
  v0 = t.seat.me.0

  abbrev v : View
  v = shown t

  -- the youngest child was made before the touches
  unborn_is : (next : v.unborn ≡ None) → v0.unborn ≡ None
  unborn_is next = sym (passed_same t.touched v0).unborn ∙ next

  ahead_here : (e : Event) → is_touch e ≡ false → Next e v → Ahead t.touched e v0
  ahead_here e public next = record { touches = r.touches; next = next.first; public = public }

  -- there is room for one note more
  pub one_fits : (x : PartNote) (w : View) → w.notes ≡ v.notes ++ x ∷ [] → worth w ≤ most → length t.notes + 1 < 2 ^ 63
  one_fits x w is le =
      let many : length w.notes ≡ length v.notes + 1 = ap length is ∙ length_both v.notes (x ∷ []) in
      let same : length t.notes ≡ length v.notes = ap length (notes_is t r) in
      omega (arith, le, many, same)

  -- a creation
  module _ (key : RunPlan) (laws : Laws key) (slots : ℕ) (task : TaskOf) (steps : ℕ) (next : Next (Enroll task steps) v) (rich : 2 < t.tickets) where
    pub may_enroll : (id : ℕ) → Loads did_enroll key slots id t.seat.me
    may_enroll id = enrolling key laws slots id t.seat.me (alive t r (Enroll task steps) next) (unborn_is next.born)
        (subst (λ x. 2 < x) r.tickets rich) t.touched task steps (ahead_here (Enroll task steps) refl next)

    -- it was done
    pub enrolled_is : (x : ℕ) (after : Me Slot View) → did_enroll (step slots 0 0 0 none) t.seat.me x after
        → (kid : Place) × Born v.seat kid after.0.seat × (after ≡ (bore steps kid v, [])) × (worth after.0 ≤ most)
        × OwnEvent (Enroll task steps) v (kid ∷ (after.0.seat ∷ []))
    enrolled_is x after d =
        let g = d.0 t.touched task steps (ahead_here (Enroll task steps) refl next) in
        (g.0, g.1, (λ i. (g.2 i, (d.1 ∙ r.holds) i)), g.3, g.4)

    module _ (t3 : Task) (kid : Place) (born : Born v.seat kid t3.seat.me.0.seat) (me : t3.seat.me ≡ (bore steps kid v, []))
        (counts : (t3.touched ≡ 0) × (t3.events ≡ (t.events + 1) % 2 ^ 64)) where
      pub enrolled_rests : t3.path ≡ t.path → t3.spare ≡ t.spare → t3.children ≡ t.children + 1 → t3.over ≡ t.over → t3.tickets + 1 ≡ t.tickets
          → t3.notes ≡ t.notes ++ record { path = t.path; children = t.children; steps = steps; blame = None } ∷ [] → Rests t3
      enrolled_rests path spare children over spent notes =
          left_rests t r t3 (bore steps kid v) me (path ∙ path_is t r) (λ l. spare_is t r t3 next.live path spare)
          (children ∙ ap (λ x. x + 1) (children_is t r) ∙ one v.seat.children)
          (over ∙ over_is t r)
          (record {
            tickets = less;
            notes = notes ∙ λ i. notes_is t r i ++ record { path = path_is t r i; children = children_is t r i; steps = steps; blame = None } ∷ [];
            fed = λ l. many 0 (omega arith);
            rich = λ k e. many 1 (omega arith);
          })
          counts next_turn refl
          (λ k e. subst (Youngest v.seat.path (suc v.seat.children)) (some_seat kid k e)
          (record {
            number = v.seat.children;
            count = refl;
            path = ap (λ (z : Place). z.path) born.seat;
            childless = ap (λ (z : Place). z.children) born.seat;
            begins = ap (λ (z : Place). z.walker.done) born.seat ∙ fresh;
          }))
        where
          one : (x : ℕ) → x + 1 ≡ suc x
          one x = omega arith

          next_turn : v.turn ≡ false
          next_turn = sym (idle_same t r)

          less : t3.tickets ≡ v.tickets - 1
          less = let same = tickets_is t r in omega (arith, same, spent)

          many : (x : ℕ) → x < 2 → x < v.tickets - 1
          many x lt = let same = tickets_is t r in let some = rich in omega (arith, same, some, lt)

          fresh : born.child.done ≡ 0
          fresh =
              let f = first_both (upcoming v.seat.walker) (λ x. x ≡ Enroll task steps) (Bears v.seat.walker (Some born.child)) next.first born.bears in
              let c : IsChildOf v.seat.walker task born.child = subst (Bears v.seat.walker (Some born.child)) f.1 f.2 in
              c.done

      pub enrolled_shown : OwnEvent (Enroll task steps) v (kid ∷ (t3.seat.me.0.seat ∷ [])) → Bore steps v (shown t3)
      enrolled_shown event =
          let e = done_shown t r t3 (bore steps kid v) me counts.0 in
          record {
            kid = kid;
            born = subst (λ (z : View). Born v.seat kid z.seat) (sym e) (subst (λ (m : Me Slot View). Born v.seat kid m.0.seat) me born);
            task = task;
            event = subst (λ (z : View). OwnEvent (Enroll task steps) v (kid ∷ (z.seat ∷ []))) (sym e)
                (subst (λ (m : Me Slot View). OwnEvent (Enroll task steps) v (kid ∷ (m.0.seat ∷ []))) me event);
            after = e ∙ ap (λ (z : View). record v {
              seat = z.seat;
              unborn = Some kid;
              notes = v.notes ++ note_after v steps None ∷ [];
              tickets = z.tickets;
              tries = z.tries;
              place = z.place;
              word = z.word;
              note = z.note;
            }) (sym e);
          }

      pub enrolled_spent : SpentOne v (shown t3)
      enrolled_spent =
          let e = done_shown t r t3 (bore steps kid v) me counts.0 in
          let same = tickets_is t r in
          let some = rich in
          let left : (shown t3).tickets ≡ v.tickets - 1 = ap (λ (z : View). z.tickets) e in
          record {
            tickets = omega (arith, some, same, left);
            tries = subst (λ (z : View). z ≡ record z { tries = v.tries; place = v.place; word = v.word; note = v.note }) (sym e) refl;
          }

  -- an end
  module _ (key : RunPlan) (laws : Laws key) (slots : ℕ) (blame : Option Blame) (steps : ℕ) (next : Next (Resign blame steps) v) where
    pub may_resign : (id : ℕ) → Loads did_resign key slots id t.seat.me
    may_resign id = resigning key laws slots id t.seat.me (alive t r (Resign blame steps) next) (unborn_is next.born) t.touched blame steps
        (ahead_here (Resign blame steps) refl next)

    pub resigned_is : (x : ℕ) (after : Me Slot View) → did_resign (step slots 0 0 0 none) t.seat.me x after
        → (after ≡ (gone blame steps v, [])) × (worth after.0 ≤ most) × OwnEvent (Resign blame steps) v []
    resigned_is x after d =
        let g = d.0 t.touched blame steps (ahead_here (Resign blame steps) refl next) in
        ((λ i. (g.0 i, (d.1 ∙ r.holds) i)), g.1, g.2)

    -- a live task has a ticket
    pub has_ticket : 0 < t.tickets
    has_ticket = subst (λ x. 0 < x) (sym r.tickets) (r.fed (alive t r (Resign blame steps) next))

    module _ (t3 : Task) (me : t3.seat.me ≡ (gone blame steps v, [])) (counts : (t3.touched ≡ 0) × (t3.events ≡ (t.events + 1) % 2 ^ 64)) where
      pub resigned_rests : t3.path ≡ t.path → t3.children ≡ t.children → t3.over ≡ t.over → t3.tickets + 1 ≡ t.tickets
          → t3.notes ≡ t.notes ++ record { path = t.path; children = t.children; steps = steps; blame = blame } ∷ [] → Rests t3
      resigned_rests path children over spent notes =
          left_rests t r t3 (gone blame steps v) me (path ∙ path_is t r) (λ l. absurd (cc)) (children ∙ children_is t r) (over ∙ over_is t r)
          (record {
            tickets = let same = tickets_is t r in omega (arith, same, spent);
            notes = notes ∙ λ i. notes_is t r i ++ record { path = path_is t r i; children = children_is t r i; steps = steps; blame = blame } ∷ [];
            fed = λ l. absurd (cc);
            rich = λ k e. absurd (none_some k (sym next.born ∙ e));
          })
          counts (sym (idle_same t r)) refl
          (λ k e. absurd (none_some k (sym next.born ∙ e)))

      pub resigned_shown : OwnEvent (Resign blame steps) v [] → Ended blame steps v (shown t3)
      resigned_shown event =
          let e = done_shown t r t3 (gone blame steps v) me counts.0 in
          let some = has_ticket in
          let same = tickets_is t r in
          let left : (shown t3).tickets ≡ v.tickets - 1 = ap (λ (z : View). z.tickets) e in
          record {
            event = event;
            spent = omega (arith, some, same, left);
            after = e ∙ ap (λ (z : View). record v {
              live = false;
              seat = seat_after None v.seat;
              notes = v.notes ++ note_after v steps blame ∷ [];
              tickets = z.tickets;
            }) (sym e);
          }

-- a pass that hands in is that of a task that has ended
pub still_gone : (o : ℕ) (v w : View) (r : Tried) → HandedInAs o v r w → IsGone v → IsGone w
still_gone o v w Done (inl same) g = subst IsGone (sym same.1) g
still_gone o v w Done (inr h) g = record { live = ap (λ (z : View). z.live) h.after ∙ g.live; born = ap (λ (z : View). z.unborn) h.after ∙ g.born }
still_gone o v w (Busy n) h g = record { live = ap (λ (z : View). z.live) h.after ∙ g.live; born = ap (λ (z : View). z.unborn) h.after ∙ g.born }

-- a pass that may have got tickets has its creation next as before, and does it as it would have done before
pub next_after : (o : ℕ) (e : Event) (v w : View) → (w ≡ v) ⊎ Restocked o v w → Next e v → Next e w
next_after o e v w (inl same) next = subst (Next e) (sym same) next
next_after o e v w (inr got) next = subst (Next e) (sym got.after) (record { live = next.live; born = next.born; first = next.first })

pub bore_after : (o steps : ℕ) (v w x : View) → (w ≡ v) ⊎ Restocked o v w → Bore steps w x → Bore steps v x
bore_after o steps v w x (inl same) b = subst (λ (y : View). Bore steps y x) same b
bore_after o steps v w x (inr got) b =
    let d = subst (λ (y : View). Bore steps y x) got.after b in
    let c = d.event.core in
    record {
      kid = d.kid;
      born = d.born;
      task = d.task;
      event = record {
        core = record { count = c.count; front = c.front; back = c.back; shelves = c.shelves; notes = c.notes; reached = c.reached; held = c.held };
        next = d.event.next;
        does = d.event.does;
      };
      after = d.after;
    }

pub seat_after_all : (o : ℕ) (v w : View) → (w ≡ v) ⊎ Restocked o v w → w.seat ≡ v.seat
seat_after_all o v w (inl same) = ap (λ (z : View). z.seat) same
seat_after_all o v w (inr got) = ap (λ (z : View). z.seat) got.after

-- a turn at the roll was had
pub roll_begun : (slots o n : ℕ) (t : Task) → Rests t → (seat : Seat Slot View) (result : Result (Unit {0}) ℕ) → slots ≡ suc n → o ≡ n
    → IfOk result (λ _. (y : Slot) × GotTurn slots o y t.seat.me seat.me)
    → IfOk result (λ _. (q : TallyView) × BegunRoll o q (slot.Roll q) t (record t { seat = seat }))
roll_begun slots o n t r seat (Ok x) deep place h =
    let told = h.1.roll (deep ∙ ap suc (sym place)) in (
      told.tally,
      record {
        rests = r;
        turn = record {
          me = h.1.me ∙ ap (λ y. (in_turn o y t.seat.me.0, (o, y) ∷ [])) told.shows;
          told = record { tally = told.tally; shows = refl; counts = told.counts; room = told.room };
        };
        same = refl;
      },
    )
roll_begun slots o n t r seat (Err e) deep place h = tt

same_tally : (q p : TallyView) → slot.Roll q ≡ slot.Roll p → q ≡ p
same_tally q p e = cc

abbrev first_of : Slot → List (ℕ × Slot) → Slot
first_of y [] = y
first_of y (x ∷ xs) = x.1

module _ {o : ℕ} {q : TallyView} {x : Slot} {t now : Task} (b : BegunRoll o q x t now) where
  abbrev before0 : View
  before0 = t.seat.me.0

  pub roll_fields : (now.path ≡ t.path) × (now.children ≡ t.children) × (now.over ≡ t.over) × (now.events ≡ t.events) × (now.spare ≡ t.spare)
      × (now.tickets ≡ t.tickets) × (now.notes ≡ t.notes) × (now.touched ≡ t.touched)
  roll_fields = (
    ap (λ (z : Task). z.path) b.same,
    ap (λ (z : Task). z.children) b.same,
    ap (λ (z : Task). z.over) b.same,
    ap (λ (z : Task). z.events) b.same,
    ap (λ (z : Task). z.spare) b.same,
    ap (λ (z : Task). z.tickets) b.same,
    ap (λ (z : Task). z.notes) b.same,
    ap (λ (z : Task). z.touched) b.same,
  )

  -- what the roll's slot showed counts what the pass has, and has room for it
  pub roll_counts : worth (shown t) ≤ q.due
  roll_counts =
      let s = passed_same t.touched before0 in
      let is = same_tally q b.turn.told.tally b.turn.told.shows in
      let le = b.turn.told.counts in
      let due : q.due ≡ b.turn.told.tally.due = ap (λ (z : TallyView). z.due) is in
      let mine : worth (shown t) ≡ worth before0 = λ i. s.tickets i + length (s.notes i) in
      omega (arith, le, due, mine)

  pub roll_room : q.due + length q.notes ≤ most
  roll_room = subst (λ (z : TallyView). z.due + length z.notes ≤ most) (sym (same_tally q b.turn.told.tally b.turn.told.shows)) b.turn.told.room

  -- what lies in the slot is lent, and is changed
  pub roll_may_lend : (w : Slot) × (now.seat.me.1 ≡ (o, w) ∷ rest now.seat.me.1)
  roll_may_lend = (x, ap (λ (m : Me Slot View). m.1) b.turn.me ∙ sym (ap (λ (m : Me Slot View). (o, x) ∷ rest m.1) b.turn.me))

  pub roll_lent : (w : Slot) → now.seat.me.1 ≡ (o, w) ∷ rest now.seat.me.1 → w ≡ x
  roll_lent w e = ap (first_of w) (sym e ∙ ap (λ (m : Me Slot View). m.1) b.turn.me)

  pub roll_placed : (w y : Slot) → w ≡ y → BegunRoll o q y t (record now { seat = seat_with now.seat o w })
  roll_placed w y e = record {
    rests = b.rests;
    turn = record { me = ap (λ (m : Me Slot View). (m.0, (o, w) ∷ rest m.1)) b.turn.me ∙ ap (λ z. (in_turn o (slot.Roll q) before0, (o, z) ∷ [])) e; told = b.turn.told };
    same = ap (λ (z : Task). record z { seat = seat_with now.seat o w }) b.same;
  }

-- touches change the seat and the contents held alone
touch_like : (l : List Event) (v w : View) → touched_first l (record w { seat = v.seat; held = v.held })
    ≡ record w { seat = (touched_first l v).seat; held = (touched_first l v).held }
touch_like [] v w = refl
touch_like (Wants q c ∷ es) v w = refl
touch_like (TouchWrite q c x ∷ es) v w = refl
touch_like (TouchRead q c x ∷ es) v w = refl
touch_like (Enter q a ∷ es) v w = refl
touch_like (Enroll s m ∷ es) v w = refl
touch_like (Take q m ∷ es) v w = refl
touch_like (Give q ∷ es) v w = refl
touch_like (Leave q ∷ es) v w = refl
touch_like (Shift q a ∷ es) v w = refl
touch_like (Resign f m ∷ es) v w = refl

passed_like : (k : ℕ) (v w : View) → passed k (record w { seat = v.seat; held = v.held }) ≡ record w { seat = (passed k v).seat; held = (passed k v).held }
passed_like zero v w = refl
passed_like (suc k) v w = ap touched (passed_like k v w) ∙ touch_like (upcoming (passed k v).seat.walker) (passed k v) w

all_like : (k : ℕ) (v w : View) → all_touches k (record w { seat = v.seat; held = v.held }) ≡ all_touches k v
all_like zero v w = refl
all_like (suc k) v w =
    ap (λ c. c && touch_next (passed k (record w { seat = v.seat; held = v.held }))) (all_like k v w)
    ∙ ap (λ z. all_touches k v && touch_next z) (passed_like k v w)

-- a turn at the roll is left with nothing done
module _ (key : RunPlan) (slots o : ℕ) (q : TallyView) (t now : Task) (b : BegunRoll o q (slot.Roll q) t now) where
  no_object : (x : ShelfView) → slot.Roll q ≡ slot.Object x → ⊥
  no_object x e = cc

  pub may_desist_roll : Leaves left_as_it_was key slots now.seat.id now.seat.me o
  may_desist_roll = subst (λ (m : Me Slot View). Leaves left_as_it_was key slots now.seat.id m o) (sym b.turn.me)
      (desisting key slots now.seat.id o (in_turn o (slot.Roll q) t.seat.me.0, (o, slot.Roll q) ∷ []) (slot.Roll q) (λ x e. absurd (no_object x e)) refl refl
      refl refl)

  module _ (seat : Seat Slot View) (left : left_as_it_was (step slots o 0 0 none) now.seat.me 0 seat.me) where
    desisted_is : seat.me ≡ (on_try false (suc t.seat.me.0.tries) o 0 (slot.Roll q) t.seat.me.0, [])
    desisted_is = left.0 ∙ ap (λ (m : Me Slot View). (turned_off m.0, rest m.1)) b.turn.me

    pub desisted_roll_rests : Rests (record now { seat = seat })
    desisted_roll_rests = subst (λ (z : Task). Rests (record z { seat = seat })) (sym b.same)
        (tried_rests t b.rests seat (suc t.seat.me.0.tries) o 0 (slot.Roll q) desisted_is)

    pub desisted_roll : AsBefore (shown t) (shown (record now { seat = seat }))
    desisted_roll = subst (λ (z : Task). AsBefore (shown t) (shown (record z { seat = seat }))) (sym b.same) (record {
      same =
          let e = tried_shown t b.rests seat (suc t.seat.me.0.tries) o 0 (slot.Roll q) desisted_is in
          subst (λ (w : View). w ≡ record (shown t) { tries = w.tries; place = w.place; word = w.word; note = w.note }) (sym e)
          (ap (λ c. on_try c (suc t.seat.me.0.tries) o 0 (slot.Roll q) (shown t)) (idle_same t b.rests));
    })

-- a view in which alone the table's side, what is in hand and what is known of the end differ from another
module _ (t : Task) (r : Rests t) (w : View) (seat : w.seat ≡ t.seat.me.0.seat) (held : w.held ≡ t.seat.me.0.held) where
  abbrev at0 : View
  at0 = t.seat.me.0

  w_is : w ≡ record w { seat = at0.seat; held = at0.held }
  w_is = λ i. record w { seat = seat i; held = held i }

  pub passed_other : passed t.touched w ≡ record w { seat = (shown t).seat; held = (shown t).held }
  passed_other = ap (passed t.touched) w_is ∙ passed_like t.touched at0 w

  pub all_other : all_touches t.touched w ≡ true
  all_other = ap (all_touches t.touched) w_is ∙ all_like t.touched at0 w ∙ r.touches

shown_is : (t : Task) → shown t ≡ record t.seat.me.0 { seat = (shown t).seat; held = (shown t).held }
shown_is t = passed_like t.touched t.seat.me.0 t.seat.me.0

-- the task rests again, with another hand
rests_with : (t : Task) → Rests t → (t3 : Task) (w : View) → t3.seat.me ≡ (w, []) → w.seat ≡ t.seat.me.0.seat → w.held ≡ t.seat.me.0.held
    → w.live ≡ t.seat.me.0.live → w.unborn ≡ t.seat.me.0.unborn → w.turn ≡ false → t3.path ≡ t.path → t3.children ≡ t.children → t3.spare ≡ t.spare
    → t3.touched ≡ t.touched → t3.events ≡ t.events → t3.over ≡ w.over → Purse t3 w → Rests t3
rests_with t r t3 w me seat held live unborn off path children spare touched events over purse =
    let to : (P : Me Slot View → Type 0) → P (w, []) → P t3.seat.me = λ P p. subst P (sym me) p in
    record {
      holds = ap (λ (m : Me Slot View). m.1) me;
      idle = ap (λ (m : Me Slot View). m.0.turn) me ∙ off;
      touches = to (λ m. all_touches t3.touched m.0 ≡ true) (ap (λ k. all_touches k w) touched ∙ all_other t r w seat held);
      path = to (λ m. t3.path ≡ m.0.seat.path) (path ∙ r.path ∙ sym (ap (λ (z : Place). z.path) seat));
      spare = to (λ m. m.0.live ≡ true → t3.spare ≡ Some t3.path) (λ l. spare ∙ r.spare (sym live ∙ l) ∙ ap (λ p. Some p) (sym path));
      children = to (λ m. t3.children ≡ m.0.seat.children) (children ∙ r.children ∙ sym (ap (λ (z : Place). z.children) seat));
      events = to (λ m. t3.events ≡ (passed t3.touched m.0).seat.walker.done % 2 ^ 64) (events ∙ r.events
          ∙ sym (ap (λ k. (passed k w).seat.walker.done % 2 ^ 64) touched
          ∙ ap (λ (z : View). z.seat.walker.done % 2 ^ 64) (passed_other t r w seat held)));
      over = to (λ m. t3.over ≡ m.0.over) over;
      tickets = to (λ m. t3.tickets ≡ m.0.tickets) purse.tickets;
      notes = to (λ m. t3.notes ≡ m.0.notes) purse.notes;
      fed = to (λ m. m.0.live ≡ true → 0 < m.0.tickets) purse.fed;
      rich = to (λ m. (k : Place) → m.0.unborn ≡ Some k → 1 < m.0.tickets) purse.rich;
      kid = to (λ m. (k : Place) → m.0.unborn ≡ Some k → Youngest m.0.seat.path m.0.seat.children k)
          (λ k e. subst (λ (z : Place). Youngest z.path z.children k) (sym seat) (r.kid k (sym unborn ∙ e)));
    }

-- it is left with more tickets
module _ (key : RunPlan) (slots o : ℕ) (place : o ≡ count_of key) (now : Task) (s : Stocked o now) where
  abbrev poor : Task
  poor = s.before

  abbrev poor_rests : Rests poor
  poor_rests = s.begun.rests

  abbrev in_it : View
  in_it = in_turn o (slot.Roll s.roll) poor.seat.me.0

  pub may_supply : Leaves left_restocked key slots now.seat.id now.seat.me o
  may_supply =
      let n = count_of key in
      let new = slot.Roll (restocked s.roll) in
      subst (λ (m : Me Slot View). Leaves left_restocked key slots now.seat.id m o) (sym s.begun.turn.me)
      (subst (λ i. Leaves left_restocked key slots now.seat.id (in_turn i (slot.Roll s.roll) poor.seat.me.0, (i, new) ∷ []) i) (sym place)
      (restocking key slots now.seat.id (in_turn n (slot.Roll s.roll) poor.seat.me.0, (n, new) ∷ []) new (alive_is poor poor_rests s.live) refl refl refl s.roll refl
      s.room refl))

  -- there is room for as many
  pub may_add : now.tickets + stock < 2 ^ 64
  may_add =
      let le = roll_counts s.begun in
      let room = roll_room s.begun in
      let same = tickets_is poor poor_rests in
      let is = (roll_fields s.begun).5 in
      omega (arith, le, room, same, is)

  module _ (t3 : Task) (seat : Seat Slot View) (is : t3 ≡ record now { seat = seat; tickets = now.tickets + stock })
      (left : left_restocked (step slots o 0 0 none) now.seat.me 0 seat.me) where
    abbrev after : View
    after = supplied in_it

    me_is : t3.seat.me ≡ (after, [])
    me_is = ap (λ (z : Task). z.seat.me) is ∙ left ∙ ap (λ (m : Me Slot View). (supplied m.0, rest m.1)) s.begun.turn.me

    is3 : t3 ≡ record poor { seat = seat; tickets = poor.tickets + stock }
    is3 = is ∙ ap (λ (z : Task). record z { seat = seat; tickets = z.tickets + stock }) s.begun.same

    pub supplied_rests : Rests t3
    supplied_rests =
        let f : (A : Type 0) (g : Task → A) → g t3 ≡ g (record poor { seat = seat; tickets = poor.tickets + stock }) = λ A g. ap g is3 in
        rests_with poor poor_rests t3 after me_is refl refl refl refl refl (f _ (λ z. z.path)) (f _ (λ z. z.children)) (f _ (λ z. z.spare))
        (f _ (λ z. z.touched)) (f _ (λ z. z.events)) (f _ (λ z. z.over) ∙ poor_rests.over)
        (record {
          tickets = f _ (λ z. z.tickets) ∙ ap (λ x. x + stock) poor_rests.tickets;
          notes = f _ (λ z. z.notes) ∙ poor_rests.notes;
          fed = λ l. omega arith;
          rich = λ k e. omega arith;
        })

    pub supplied_shown : Restocked o (shown poor) (shown t3)
    supplied_shown =
        let moved : (shown t3) ≡ passed poor.touched after = (λ i. passed ((ap (λ (z : Task). z.touched) is3) i) (me_is i).0) in
        record {
          roll = s.roll;
          after = moved ∙ passed_other poor poor_rests after refl refl
              ∙ (λ i. record (saw_roll o s.roll (sym (shown_is poor) i)) { tickets = (sym (shown_is poor) i).tickets + stock; turn = idle_same poor poor_rests i });
        }

-- it is left with all handed in
module _ (key : RunPlan) (laws : Laws key) (slots o : ℕ) (place : o ≡ count_of key) (q : TallyView) (t now : Task)
    (b : BegunRoll o q (slot.Roll q) t now) (gone_now : IsGone (shown t)) where
  abbrev last_rests : Rests t
  last_rests = b.rests

  gone0 : IsGone t.seat.me.0
  gone0 = record {
    live = sym (passed_same t.touched t.seat.me.0).live ∙ gone_now.live;
    born = sym (passed_same t.touched t.seat.me.0).unborn ∙ gone_now.born;
  }

  worth0 : now.tickets + length now.notes ≡ worth t.seat.me.0
  worth0 =
      let f = roll_fields b in λ i. (f.5 ∙ last_rests.tickets) i + length ((f.6 ∙ last_rests.notes) i)

  -- what is handed in is counted
  pub may_sum : now.tickets + length now.notes < 2 ^ 64
  may_sum =
      let le = roll_counts b in
      let room = roll_room b in
      let f = roll_fields b in
      let tickets : now.tickets ≡ (shown t).tickets = f.5 ∙ tickets_is t last_rests in
      let notes : length now.notes ≡ length (shown t).notes = ap length (f.6 ∙ notes_is t last_rests) in
      omega (arith, le, room, tickets, notes)

  pub may_receive : (now.tickets + length now.notes ≤ q.due) × (q.due + length q.notes ≤ most) × (length now.notes ≤ now.tickets + length now.notes)
  may_receive =
      let le = roll_counts b in
      let f = roll_fields b in
      let tickets : now.tickets ≡ (shown t).tickets = f.5 ∙ tickets_is t last_rests in
      let notes : length now.notes ≡ length (shown t).notes = ap length (f.6 ∙ notes_is t last_rests) in
      (omega (arith, le, tickets, notes), roll_room b, omega arith)

  module _ (new : Slot) (made : new ≡ slot.Roll (received (now.tickets + length now.notes) now.notes q)) where
    abbrev there : Seat Slot View
    there = seat_with now.seat o new

    made0 : new ≡ slot.Roll (received (worth t.seat.me.0) t.seat.me.0.notes q)
    made0 = made ∙ λ i. slot.Roll (received (worth0 i) (((roll_fields b).6 ∙ last_rests.notes) i) q)

    there_is : there.me ≡ (in_turn o (slot.Roll q) t.seat.me.0, (o, new) ∷ [])
    there_is = (roll_placed b new new refl).turn.me

    pub may_relieve : Leaves left_relieved key slots now.seat.id there.me o
    may_relieve =
        let n = count_of key in
        subst (λ (m : Me Slot View). Leaves left_relieved key slots now.seat.id m o) (sym there_is)
        (subst (λ i. Leaves left_relieved key slots now.seat.id (in_turn i (slot.Roll q) t.seat.me.0, (i, new) ∷ []) i) (sym place)
        (relieving key laws slots now.seat.id (in_turn n (slot.Roll q) t.seat.me.0, (n, new) ∷ []) new gone0.live gone0.born refl refl refl q refl made0))

    module _ (t3 : Task) (seat : Seat Slot View) (last over : Bool) (is_last : last ≡ is_all_in new) (is_over : over ≡ now.over || last)
        (is : t3 ≡ record now { seat = seat; tickets = 0; notes = []; over = over })
        (left : left_relieved (step slots o 0 0 none) there.me 0 seat.me) where
      abbrev after3 : View
      after3 = relieved (is_all_in new) (in_turn o (slot.Roll q) t.seat.me.0)

      me3_is : t3.seat.me ≡ (after3, [])
      me3_is = ap (λ (z : Task). z.seat.me) is ∙ left ∙ ap (λ (m : Me Slot View). (relieved (all_in m.1) m.0, rest m.1)) there_is

      same3 : t3 ≡ record t { seat = seat; tickets = 0; notes = []; over = over }
      same3 = is ∙ ap (λ (z : Task). record z { seat = seat; tickets = 0; notes = []; over = over }) b.same

      over_now : t3.over ≡ after3.over
      over_now = ap (λ (z : Task). z.over) same3 ∙ is_over ∙ λ i. ((roll_fields b).2 ∙ last_rests.over) i || is_last i

      pub relieved_rests : Rests t3
      relieved_rests =
          let f : (A : Type 0) (g : Task → A) → g t3 ≡ g (record t { seat = seat; tickets = 0; notes = []; over = over }) = λ A g. ap g same3 in
          rests_with t last_rests t3 after3 me3_is refl refl refl refl refl (f _ (λ z. z.path)) (f _ (λ z. z.children)) (f _ (λ z. z.spare))
          (f _ (λ z. z.touched)) (f _ (λ z. z.events)) over_now
          (record {
            tickets = f _ (λ z. z.tickets);
            notes = f _ (λ z. z.notes);
            fed = λ l. absurd (let no : false ≡ true = sym gone0.live ∙ l in cc);
            rich = λ k e. absurd (none_some k (sym gone0.born ∙ e));
          })

      pub relieved_shown : HandedIn o (shown t) (shown t3)
      relieved_shown =
          let moved : (shown t3) ≡ passed t.touched after3 = (λ i. passed ((ap (λ (z : Task). z.touched) same3) i) (me3_is i).0) in
          let s = passed_same t.touched t.seat.me.0 in
          let all : is_all_in new ≡ is_settled (received (worth (shown t)) (shown t).notes q) =
          ap is_all_in made0 ∙ λ i. is_settled (received (sym s.tickets i + length (sym s.notes i)) (sym s.notes i) q) in
          record {
            roll = q;
            counts = roll_counts b;
            after = moved ∙ passed_other t last_rests after3 refl refl
                ∙ ap (λ c. record after3 { seat = (shown t).seat; held = (shown t).held; over = t.seat.me.0.over || c }) all
                ∙ (λ i. record (saw_roll o q (sym (shown_is t) i)) {
                  tickets = 0;
                  notes = [];
                  over = (sym (shown_is t) i).over || is_settled (received (worth (shown t)) (shown t).notes q);
                  turn = idle_same t last_rests i;
                });
          }

module _ (t : Task) (r : Rests t) where
  -- the pass of a child is cut off
  module _ (baby : Place) (waits : (shown t).unborn ≡ Some baby) where
    had : t.seat.me.0.unborn ≡ Some baby
    had = sym (passed_same t.touched t.seat.me.0).unborn ∙ waits

    pub youngest : Youngest t.seat.me.0.seat.path t.seat.me.0.seat.children baby
    youngest = r.kid baby had

    pub has_child : t.children ≡ suc youngest.number
    has_child = r.children ∙ youngest.count

    pub may_split : (key : RunPlan) (id : ℕ) → (shown t).live ≡ true
        → Splits (Ruled key) id t.seat.me.0 (without_kid t.seat.me.0) (kid_view t.seat.me.0.unborn t.seat.me.0)
    may_split key id live = splits key id t.seat.me.0 baby had (sym (passed_same t.touched t.seat.me.0).live ∙ live)

    -- the child has its share of the tickets
    rich0 : 1 < t.seat.me.0.tickets
    rich0 = r.rich baby had

    pub may_share : 1 + t.tickets / 16 ≤ t.tickets
    may_share = let some = rich0 in let same = r.tickets in omega (arith, some, same)

    -- what is left
    module _ (seat : Seat Slot View) (is : seat.me ≡ (without_kid t.seat.me.0, t.seat.me.1)) where
      pub parent_rests : Rests (record t { seat = seat; tickets = t.tickets - (1 + t.tickets / 16) })
      parent_rests =
          let to : (P : Me Slot View → Type 0) → P (without_kid t.seat.me.0, t.seat.me.1) → P seat.me = λ P p. subst P (sym is) p in
          record {
            holds = ap (λ (m : Me Slot View). m.1) is ∙ r.holds;
            idle = ap (λ (m : Me Slot View). m.0.turn) is ∙ r.idle;
            touches = to (λ m. all_touches t.touched m.0 ≡ true) (all_like t.touched t.seat.me.0 (without_kid t.seat.me.0) ∙ r.touches);
            path = to (λ m. t.path ≡ m.0.seat.path) r.path;
            spare = to (λ m. m.0.live ≡ true → t.spare ≡ Some t.path) r.spare;
            children = to (λ m. t.children ≡ m.0.seat.children) r.children;
            events = to (λ m. t.events ≡ (passed t.touched m.0).seat.walker.done % 2 ^ 64) (r.events
                ∙ ap (λ (z : View). z.seat.walker.done % 2 ^ 64) (sym (passed_like t.touched t.seat.me.0 (without_kid t.seat.me.0))));
            over = to (λ m. t.over ≡ m.0.over) r.over;
            tickets = to (λ m. t.tickets - (1 + t.tickets / 16) ≡ m.0.tickets) (ap (λ x. x - share x) r.tickets);
            notes = to (λ m. t.notes ≡ m.0.notes) r.notes;
            fed = to (λ m. m.0.live ≡ true → 0 < m.0.tickets) (λ l. let some = rich0 in omega (arith, some));
            rich = to (λ m. (k : Place) → m.0.unborn ≡ Some k → 1 < m.0.tickets) (λ k e. absurd (none_some k e));
            kid = to (λ m. (k : Place) → m.0.unborn ≡ Some k → Youngest m.0.seat.path m.0.seat.children k) (λ k e. absurd (none_some k e));
          }

      pub parent_shown : shown (record t { seat = seat; tickets = t.tickets - (1 + t.tickets / 16) }) ≡ without_kid (shown t)
      parent_shown =
          ap (λ (m : Me Slot View). passed t.touched m.0) is ∙ passed_like t.touched t.seat.me.0 (without_kid t.seat.me.0)
          ∙ ap without_kid (sym (passed_like t.touched t.seat.me.0 t.seat.me.0))

    -- and the child's
    module _ (kid : Task) (is : kid.seat.me ≡ (kid_view t.seat.me.0.unborn t.seat.me.0, [])) (path : kid.path ≡ t.path ++ youngest.number ∷ [])
        (spare : kid.spare ≡ Some kid.path) (children : kid.children ≡ 0) (counts : (kid.events ≡ 0) × (kid.touched ≡ 0)) (over : kid.over ≡ false)
        (tickets : kid.tickets ≡ 1 + t.tickets / 16) (notes : kid.notes ≡ []) where
      first : kid.seat.me ≡ (kid_view (Some baby) t.seat.me.0, [])
      first = is ∙ ap (λ z. (kid_view z t.seat.me.0, [])) had

      pub child_rests : Rests kid
      child_rests =
          let to : (P : Me Slot View → Type 0) → P (kid_view (Some baby) t.seat.me.0, []) → P kid.seat.me = λ P p. subst P (sym first) p in
          record {
            holds = ap (λ (m : Me Slot View). m.1) first;
            idle = ap (λ (m : Me Slot View). m.0.turn) first;
            touches = ap (λ k. all_touches k kid.seat.me.0) counts.1;
            path = to (λ m. kid.path ≡ m.0.seat.path) (path ∙ ap (λ q. q ++ youngest.number ∷ []) r.path ∙ sym youngest.path);
            spare = λ l. spare;
            children = to (λ m. kid.children ≡ m.0.seat.children) (children ∙ sym youngest.childless);
            events = counts.0 ∙ ap (λ x. x % 2 ^ 64) (sym youngest.begins
                ∙ to (λ m. baby.walker.done ≡ m.0.seat.walker.done) refl
                ∙ sym (ap (λ k. (passed k kid.seat.me.0).seat.walker.done) counts.1));
            over = to (λ m. kid.over ≡ m.0.over) over;
            tickets = to (λ m. kid.tickets ≡ m.0.tickets) (tickets ∙ ap share r.tickets);
            notes = to (λ m. kid.notes ≡ m.0.notes) notes;
            fed = to (λ m. m.0.live ≡ true → 0 < m.0.tickets) (λ l. omega arith);
            rich = to (λ m. (k : Place) → m.0.unborn ≡ Some k → 1 < m.0.tickets) (λ k e. absurd (none_some k e));
            kid = to (λ m. (k : Place) → m.0.unborn ≡ Some k → Youngest m.0.seat.path m.0.seat.children k) (λ k e. absurd (none_some k e));
          }

      pub child_shown : shown kid ≡ kid_view (shown t).unborn (shown t)
      child_shown =
          ap (λ k. passed k kid.seat.me.0) counts.1 ∙ ap (λ (m : Me Slot View). m.0) first
          ∙ (λ i. kid_view (Some baby) (record t.seat.me.0 {
            key = sym (passed_same t.touched t.seat.me.0).key i;
            tickets = sym (passed_same t.touched t.seat.me.0).tickets i;
          }))
          ∙ ap (λ z. kid_view z (shown t)) (sym waits)

  -- another pass is taken in
  module _ (u : Task) (q : Rests u) (over : IsGone (shown t)) (other : IsGone (shown u)) where
    pub is_gone : (x : Task) → IsGone (shown x) → IsGone x.seat.me.0
    is_gone x g = record {
      live = sym (passed_same x.touched x.seat.me.0).live ∙ g.live;
      born = sym (passed_same x.touched x.seat.me.0).unborn ∙ g.born;
    }

    pub may_join : (key : RunPlan) → Laws key → (id other_id : ℕ)
        → Joins (Ruled key) id t.seat.me.0 other_id u.seat.me.0 (joined t.seat.me.0 u.seat.me.0) spent_view
    may_join key laws id other_id = joins key laws id other_id t.seat.me.0 u.seat.me.0 (is_gone t over) (is_gone u other) r.idle q.idle

    -- there is room for what both had
    module _ (slots : ℕ) (x : ℕ) (seat seat2 : Seat Slot View) (is : seat.me ≡ (joined t.seat.me.0 u.seat.me.0, t.seat.me.1))
        (told : looked (step slots 0 0 0 none) seat.me x seat2.me) where
      pub joined_is : seat2.me ≡ (joined t.seat.me.0 u.seat.me.0, t.seat.me.1)
      joined_is = told.0 ∙ is

      both_fit : worth (joined t.seat.me.0 u.seat.me.0) ≤ most
      both_fit = subst (λ (m : Me Slot View). worth m.0 ≤ most) is told.1

      pub tickets_fit : t.tickets + u.tickets < 2 ^ 64
      tickets_fit = let le = both_fit in let a = r.tickets in let b = q.tickets in omega (arith, le, a, b)

      pub notes_fit : length t.notes + length u.notes < 2 ^ 63
      notes_fit =
          let le = both_fit in
          let a : length t.notes ≡ length t.seat.me.0.notes = ap length r.notes in
          let b : length u.notes ≡ length u.seat.me.0.notes = ap length q.notes in
          let many = length_both t.seat.me.0.notes u.seat.me.0.notes in
          omega (arith, le, a, b, many)

    module _ (seat : Seat Slot View) (is : seat.me ≡ (joined t.seat.me.0 u.seat.me.0, t.seat.me.1)) (last : Bool) (is_last : last ≡ t.over || u.over)
        (tickets : ℕ) (sum : tickets ≡ t.tickets + u.tickets) (notes : List PartNote) (all : notes ≡ t.notes ++ u.notes) where
      abbrev both : View
      both = joined t.seat.me.0 u.seat.me.0

      pub joined_rests : Rests (record t { seat = seat; over = last; tickets = tickets; notes = notes })
      joined_rests =
          let to : (P : Me Slot View → Type 0) → P (both, t.seat.me.1) → P seat.me = λ P p. subst P (sym is) p in
          record {
            holds = ap (λ (m : Me Slot View). m.1) is ∙ r.holds;
            idle = ap (λ (m : Me Slot View). m.0.turn) is ∙ r.idle;
            touches = to (λ m. all_touches t.touched m.0 ≡ true) (all_like t.touched t.seat.me.0 both ∙ r.touches);
            path = to (λ m. t.path ≡ m.0.seat.path) r.path;
            spare = to (λ m. m.0.live ≡ true → t.spare ≡ Some t.path) r.spare;
            children = to (λ m. t.children ≡ m.0.seat.children) r.children;
            events = to (λ m. t.events ≡ (passed t.touched m.0).seat.walker.done % 2 ^ 64) (r.events
                ∙ ap (λ (z : View). z.seat.walker.done % 2 ^ 64) (sym (passed_like t.touched t.seat.me.0 both)));
            over = to (λ m. last ≡ m.0.over) (is_last ∙ λ i. r.over i || q.over i);
            tickets = to (λ m. tickets ≡ m.0.tickets) (sum ∙ λ i. r.tickets i + q.tickets i);
            notes = to (λ m. notes ≡ m.0.notes) (all ∙ λ i. r.notes i ++ q.notes i);
            fed = to (λ m. m.0.live ≡ true → 0 < m.0.tickets) (λ l. let some = r.fed l in omega (arith, some));
            rich = to (λ m. (k : Place) → m.0.unborn ≡ Some k → 1 < m.0.tickets) (λ k e. let some = r.rich k e in omega (arith, some));
            kid = to (λ m. (k : Place) → m.0.unborn ≡ Some k → Youngest m.0.seat.path m.0.seat.children k) r.kid;
          }

      pub joined_shown : shown (record t { seat = seat; over = last; tickets = tickets; notes = notes }) ≡ joined (shown t) (shown u)
      joined_shown =
          ap (λ (m : Me Slot View). passed t.touched m.0) is ∙ passed_like t.touched t.seat.me.0 both
          ∙ ap (λ z. joined z u.seat.me.0) (sym (passed_like t.touched t.seat.me.0 t.seat.me.0))
          ∙ (λ i. record (shown t) {
            over = (shown t).over || sym (passed_same u.touched u.seat.me.0).over i;
            tickets = (shown t).tickets + sym (passed_same u.touched u.seat.me.0).tickets i;
            notes = (shown t).notes ++ sym (passed_same u.touched u.seat.me.0).notes i;
          })
