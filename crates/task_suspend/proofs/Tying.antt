-- What each step of a task leaves of the tie between its pass and its machine.
use Rattle.std.proofs.Common.{◌≡◌, ℕ, suc, ◌+◌, ◌<◌, arith, List, [], ◌∷◌, ◌++◌, Bool, true, false, Option, None, Some, refl, sym, ap, ◌∙◌, subst}
use Rattle.std.specs.Prelude.{ℤ, if◌then◌else◌}
use Rattle.std.proofs.lemmas.Bool.{cases_eq, eq-eqb, ne_eqb}
use Rattle.std.proofs.Common.{◌⊎◌, inl, inr}
use Rattle.atomic_table.specs.Seated.{TableId}
use Rattle.jade_base.specs.declared.place.ObjectId.{ObjectId}
use Rattle.jade_base.specs.declared.rights.Mode.{Mode}
use Rattle.jade_base.specs.declared.rights.Rights.{Rights}
use Rattle.jade_base.specs.declared.report.Blame.{Blame}
use Rattle.jade_base.specs.Rights.{has_rights}
use Rattle.jade_base.specs.Held.{Held}
use Rattle.jade_meaning.specs.Plan.{RunPlan}
use Rattle.jade_meaning.specs.Talk.{Event, Enter, Enroll, Take, Give, Leave, Shift, Resign}
use Rattle.schedule_core.specs.declared.steps.Seat.{Seat}
use Rattle.schedule_core.specs.Plain.{seat_after}
use Rattle.object_table.specs.Views.{View, count_of}
use Rattle.object_table.specs.Touches.{held_at, put_held, all_touches, passed}
use Rattle.object_table.specs.Plays.{without_kid, kid_view}
use Rattle.object_table.specs.Calls.{Pass, Next, Took, KeptBy, IsBusy, Did, Bore, Ended, IsGone, Comes}
use Rattle.object_table.proofs.Lists.{held_here, held_else}
use Rattle.task_machine.specs.declared.machine.Ask.{Ask}
use Rattle.task_machine.specs.declared.machine.Ask.TheVariants as ask
use Rattle.task_machine.specs.Stages.{rights_at}
use Rattle.task_machine.specs.Executions.{held_by}
use Rattle.task_machine.specs.Machines.{Machine, left, made_at, amended_at, steps_at, child_task, supplied, surrendered}
use Rattle.task_machine.specs.Asks.{Asking, BeginsAs, Goes, stays, plays, GoesTo, Stands, HeldWith}
use Rattle.task_machine.specs.Asks.{left_from, enters_from, shifts_from, leaves_from}
use Rattle.task_machine.specs.Asks.{follows, number_of, created, changed}
use Rattle.task_suspend.specs.Ties.{Tied, to_go}
use Rattle.task_suspend.specs.Asked.{asks, ending, is_end, is_over}
use Rattle.task_suspend.specs.Tries.{place_of}
use Rattle.task_suspend.proofs.Walking.{next_is, moved_on, child_is, child_to_do}
use Rattle.object_table.proofs.Touching.{passed_same}
use Rattle.object_table.proofs.Passing.{passed_done}
use Rattle.task_suspend.proofs.Touching.{comes_on}

-- what is left while an ask stands is what is left
left_stands : (y : Ask) (b : Asking) → Stands y b → (vs : List ℤ) → left b.at vs ≡ left_from 0 (Some y) b.at vs
left_stands (ask.Take o m) b s vs = refl
left_stands (ask.GiveBack o) b s vs = refl
left_stands ask.Create b s vs = s vs
left_stands ask.Change b s vs = s vs
left_stands ask.End b s vs = s vs
left_stands (ask.Fault f) b s vs = s vs

-- what is left while a task ends
pub ends_so : (fault : Option Blame) (m : Machine) (n : ℕ) (vs : List ℤ)
    → left_from n (Some (ending fault)) m vs ≡ leaves_from n (rights_at m.execution.stage) ++ Resign fault (steps_at m) ∷ []
ends_so None m n vs = refl
ends_so (Some b) m n vs = refl

-- a task that is to end ends with this fault, if with one
pub ending_of : (y : Option Ask) → asks is_end y ≡ true → (fault : Option Blame) × (y ≡ Some (ending fault))
ending_of None e = absurd (cc)
ending_of (Some (ask.Take o m)) e = absurd (cc)
ending_of (Some (ask.GiveBack o)) e = absurd (cc)
ending_of (Some ask.Create) e = absurd (cc)
ending_of (Some ask.Change) e = absurd (cc)
ending_of (Some ask.End) e = (None, refl)
ending_of (Some (ask.Fault b)) e = (Some b, refl)

-- where it is told that no event is left
pub none_left : (es : List Event) → is_over es ≡ true → es ≡ []
none_left [] over = refl
none_left (e ∷ es) over = absurd (cc)

-- the event by which an entry follows new rights is one at its object
pub follows_at : (roll o : ℕ) (r : Rights) → o ≡ place_of roll (follows o r)
follows_at roll o r = at (has_rights r)
  where
    at : (b : Bool) → o ≡ place_of roll (if b then Shift o r else Leave o)
    at true = refl
    at false = refl

-- where a pass comes to by so many touches: to what is left then, with what is held then
record Reaches (p : Pass) (b : Asking) : Type 0 where
  pub touches : all_touches b.touched p.shows ≡ true
  pub tells : (vs : List ℤ) → to_go (passed b.touched p.shows).seat.walker vs ≡ left b.at vs
  pub held : (o : ℕ) → held_at o (passed b.touched p.shows).held ≡ held_by b.at.execution o

module _ (mark : TableId) (plan : RunPlan) (p : Pass) (a : Asking) (from events : ℕ) (t : Tied mark plan p a from events) where
  -- what is left while nothing is asked, or an ask stands
  left_is : (y : Option Ask) → a.ask ≡ y → (vs : List ℤ) → to_go p.shows.seat.walker vs ≡ left_from from y a.at vs
  left_is y e vs = t.left vs ∙ ap (λ z. left_from from z a.at vs) e

  next_of : (e : Event) (es : List Event) → to_go p.shows.seat.walker [] ≡ e ∷ es → Next e p.shows
  next_of e es h = record { live = t.live; born = t.born; first = next_is p.shows.seat.walker e es h }

  -- the roll's place
  pub roll_at : (own : RunPlan) → own ≡ plan → count_of own ≡ count_of p.shows.key
  roll_at own e = ap count_of (e ∙ sym t.run)

  -- an object that is there is one of the plan
  pub inside : (o : ℕ) → o < a.at.execution.stage.objects → o < count_of plan
  inside o h = let P : ℕ → Type 0 = λ n. o < n in subst P t.objects h

  -- a task that goes on to its next ask
  reaches : (b : Asking) → a.ask ≡ None → GoesTo a b → Reaches p b
  reaches b none g = by g.way
    where
      by : Goes a b → Reaches p b
      by (stays s) =
          let P : ℕ → Type 0 = λ n. all_touches n p.shows ≡ true in
          record {
            touches = subst P (sym s.touched) refl;
            tells = λ vs. ap (λ n. to_go (passed n p.shows).seat.walker vs) s.touched ∙ left_is None none vs ∙ sym (s.same vs);
            held = λ o. ap (λ n. held_at o (passed n p.shows).held) s.touched ∙ t.held o ∙ sym (s.held o);
          }
      by (plays x) =
          let c = comes_on x.course (held_by a.at.execution) x.steps x.events x.spec x.holds p.shows x.agrees
          (λ vs. left_is None none vs ∙ x.tells vs) t.held in
          record {
            touches = ap (λ n. all_touches n p.shows) x.touched ∙ c.touches;
            tells = λ vs. ap (λ n. to_go (passed n p.shows).seat.walker vs) x.touched ∙ c.tells vs ∙ sym (x.tells_on vs);
            held = λ o. ap (λ n. held_at o (passed n p.shows).held) x.touched ∙ c.held o ∙ sym (x.held o);
          }

  pub comes : (b : Asking) → a.ask ≡ None → GoesTo a b → Comes b.touched (events + b.touched) p.shows
  comes b none g = record { count = ap (λ n. n + b.touched) (sym t.done); touches = (reaches b none g).touches }

  pub advanced : (b : Asking) (y : Ask) (q : Pass) → a.ask ≡ None → GoesTo a b → b.ask ≡ Some y → Stands y b → q.mark ≡ p.mark
      → q.shows ≡ passed b.touched p.shows → Tied mark plan q b 0 (events + b.touched)
  advanced b y q none g asks stands same is =
      let r = reaches b none g in
      let k = passed_same b.touched p.shows in
      record {
        table = same ∙ t.table;
        run = ap (λ (v : View). v.key) is ∙ k.key ∙ t.run;
        objects = g.objects ∙ t.objects;
        live = ap (λ (v : View). v.live) is ∙ k.live ∙ t.live;
        born = ap (λ (v : View). v.unborn) is ∙ k.unborn ∙ t.born;
        left = λ vs. ap (λ (v : View). to_go v.seat.walker vs) is ∙ r.tells vs ∙ left_stands y b stands vs ∙ ap (λ z. left_from 0 z b.at vs) (sym asks);
        held = λ o. ap (λ (v : View). held_at o v.held) is ∙ r.held o;
        done = ap (λ (v : View). v.seat.walker.done) is ∙ passed_done b.touched p.shows r.touches ∙ ap (λ n. n + b.touched) t.done;
      }

  -- a try that did nothing
  pub unmoved : (q : Pass) → q.mark ≡ p.mark
      → q.shows ≡ record p.shows { tries = q.shows.tries; place = q.shows.place; word = q.shows.word; note = q.shows.note } → Tied mark plan q a from events
  unmoved q same is = record {
    table = same ∙ t.table;
    run = ap (λ (v : View). v.key) is ∙ t.run;
    objects = t.objects;
    live = ap (λ (v : View). v.live) is ∙ t.live;
    born = ap (λ (v : View). v.unborn) is ∙ t.born;
    left = λ vs. ap (λ (v : View). to_go v.seat.walker vs) is ∙ t.left vs;
    held = λ o. ap (λ (v : View). held_at o v.held) is ∙ t.held o;
    done = ap (λ (v : View). v.seat.walker.done) is ∙ t.done;
  }

  pub busy : (q : Pass) (n o : ℕ) → q.mark ≡ p.mark → IsBusy n o p.shows q.shows → Tied mark plan q a from events
  busy q n o same b = unmoved q same (look p.shows q.shows b)
    where
      look : (v w : View) → IsBusy n o v w → w ≡ record v { tries = w.tries; place = w.place; word = w.word; note = w.note }
      look v w b = b.after
          ∙ ap (λ (x : View). record v { tries = x.tries; place = x.place; word = x.word; note = x.note }) (sym b.after)

  pub kept_by : (q : Pass) (r : List ℕ) (o : ℕ) (m : Mode) → q.mark ≡ p.mark → KeptBy r o m p.shows q.shows → Tied mark plan q a from events
  kept_by q r o m same b = unmoved q same (look p.shows q.shows b)
    where
      look : (v w : View) → KeptBy r o m v w → w ≡ record v { tries = w.tries; place = w.place; word = w.word; note = w.note }
      look v w b = b.after
          ∙ ap (λ (x : View). record v { tries = x.tries; place = x.place; word = x.word; note = x.note }) (sym b.after)

  -- one event done that is no read, after which this is held; the machine has these asks, and has left what follows the event
  one_done : (q : Pass) (b : Asking) (from' : ℕ) (e : Event) (hs : List (Option Held)) → q.mark ≡ p.mark
      → q.shows ≡ record p.shows {
        tries = q.shows.tries;
        place = q.shows.place;
        word = q.shows.word;
        note = q.shows.note;
        seat = seat_after None p.shows.seat;
        held = hs;
      }
      → b.at.execution.stage.objects ≡ a.at.execution.stage.objects
      → ((vs : List ℤ) → to_go p.shows.seat.walker vs ≡ e ∷ left_from from' b.ask b.at vs)
      → ((o : ℕ) → held_at o hs ≡ held_by b.at.execution o) → Tied mark plan q b from' (events + 1)
  one_done q b from' e hs same is objects left held = record {
    table = same ∙ t.table;
    run = ap (λ (v : View). v.key) is ∙ t.run;
    objects = objects ∙ t.objects;
    live = ap (λ (v : View). v.live) is ∙ t.live;
    born = ap (λ (v : View). v.unborn) is ∙ t.born;
    left = λ vs. ap (λ (v : View). to_go v.seat.walker vs) is ∙ moved_on p.shows.seat.walker vs e (left_from from' b.ask b.at vs) (left vs);
    held = λ o. ap (λ (v : View). held_at o v.held) is ∙ held o;
    done = ap (λ (v : View). v.seat.walker.done) is ∙ ap suc t.done ∙ one_more events;
  }
    where
      one_more : (n : ℕ) → suc n ≡ n + 1
      one_more n = omega arith

  did_so : (q : Pass) (b : Asking) (from' : ℕ) (e : Event) (o : ℕ) (hs : List (Option Held)) → q.mark ≡ p.mark → Did o hs p.shows q.shows
      → b.at.execution.stage.objects ≡ a.at.execution.stage.objects
      → ((vs : List ℤ) → to_go p.shows.seat.walker vs ≡ e ∷ left_from from' b.ask b.at vs)
      → ((o : ℕ) → held_at o hs ≡ held_by b.at.execution o) → Tied mark plan q b from' (events + 1)
  did_so q b from' e o hs same d objects left held = one_done q b from' e hs same (look p.shows q.shows d) objects left held
    where
      look : (v w : View) → Did o hs v w
          → w ≡ record v { tries = w.tries; place = w.place; word = w.word; note = w.note; seat = seat_after None v.seat; held = hs }
      look v w b = b.after
          ∙ ap (λ (x : View). record v { tries = x.tries; place = x.place; word = x.word; note = x.note; seat = seat_after None v.seat; held = hs })
          (sym b.after)

  -- what is held of one object is put there, by the pass as by the machine
  put_same : (o : ℕ) (h : Option Held) (m : Machine) → HeldWith o h a.at m → (j : ℕ) → held_at j (put_held o h p.shows.held) ≡ held_by m.execution j
  put_same o h m w j = by (cases_eq j o)
    where
      by : (j ≡ o) ⊎ (j ≡ o → ⊥) → held_at j (put_held o h p.shows.held) ≡ held_by m.execution j
      by (inl e) =
          ap (λ i. held_at i (put_held o h p.shows.held)) e ∙ held_here o h p.shows.held
          ∙ sym (ap (λ b. if b then h else held_by a.at.execution j) (eq-eqb j o e)) ∙ sym (w j)
      by (inr ne) =
          held_else o j h p.shows.held ne ∙ t.held j ∙ sym (ap (λ b. if b then h else held_by a.at.execution j) (ne_eqb j o ne)) ∙ sym (w j)

  -- Take
  module _ (o : ObjectId) (m : Mode) (asks : a.ask ≡ Some (ask.Take o m)) (stands : Stands (ask.Take o m) a) where
    pub take_inside : o.0 < count_of plan
    take_inside = inside o.0 stands.0

    pub take_next : Next (Take o.0 m) p.shows
    take_next =
        let x : Held = record { mode = m; cells = [] } in
        next_of (Take o.0 m) (left (supplied o.0 x a.at) []) (left_is (Some (ask.Take o m)) asks [] ∙ stands.1 x refl [])

    pub supply_asks : (c : Held) (q : View) → Took o.0 m c p.shows q → a.ask ≡ Some (ask.Take o c.mode)
    supply_asks c q k = asks ∙ ap (λ n. Some (ask.Take o n)) (sym k.mode)

    pub took : (c : Held) (q : Pass) (b : Asking) → q.mark ≡ p.mark → Took o.0 m c p.shows q.shows
        → b ≡ record a { at = supplied o.0 c a.at; ask = None } → HeldWith o.0 (Some c) a.at b.at → Tied mark plan q b from (events + 1)
    took c q b same k is w = one_done q b from (Take o.0 m) (put_held o.0 (Some c) p.shows.held) same (look p.shows q.shows k)
        (ap (λ (x : Asking). x.at.execution.stage.objects) is)
        (λ vs. left_is (Some (ask.Take o m)) asks vs ∙ stands.1 c k.mode vs ∙ ap (λ (x : Asking). Take o.0 m ∷ left_from from x.ask x.at vs) (sym is))
        (put_same o.0 (Some c) b.at w)
      where
        look : (v w : View) → Took o.0 m c v w → w ≡ record v {
          tries = w.tries;
          place = w.place;
          word = w.word;
          note = w.note;
          seat = seat_after None v.seat;
          held = put_held o.0 (Some c) v.held;
        }
        look v w k = k.after ∙ ap (λ (x : View). record v {
          tries = x.tries;
          place = x.place;
          word = x.word;
          note = x.note;
          seat = seat_after None v.seat;
          held = put_held o.0 (Some c) v.held;
        }) (sym k.after)

  -- GiveBack
  module _ (o : ObjectId) (asks : a.ask ≡ Some (ask.GiveBack o)) (stands : Stands (ask.GiveBack o) a) where
    pub give_inside : o.0 < count_of plan
    give_inside = inside o.0 stands.0

    pub give_next : Next (Give o.0) p.shows
    give_next = next_of (Give o.0) (left (surrendered o.0 a.at) []) (left_is (Some (ask.GiveBack o)) asks [] ∙ stands.2 [])

    pub give_held : (c : Held) → held_by a.at.execution o.0 ≡ Some c → held_at o.0 p.shows.held ≡ Some c
    give_held c h = t.held o.0 ∙ h

    pub gave : (q : Pass) (b : Asking) → q.mark ≡ p.mark → Did o.0 (put_held o.0 None p.shows.held) p.shows q.shows
        → b ≡ record a { at = surrendered o.0 a.at; ask = None } → HeldWith o.0 None a.at b.at → Tied mark plan q b from (events + 1)
    gave q b same d is w = did_so q b from (Give o.0) o.0 (put_held o.0 None p.shows.held) same d (ap (λ (x : Asking). x.at.execution.stage.objects) is)
        (λ vs. left_is (Some (ask.GiveBack o)) asks vs ∙ stands.2 vs ∙ ap (λ (x : Asking). Give o.0 ∷ left_from from x.ask x.at vs) (sym is))
        (put_same o.0 None b.at w)

  -- Create
  module _ (asks : a.ask ≡ Some ask.Create) where
    abbrev made_is : List Event → List ℤ → List Event
    made_is es vs = es ++ Enroll (child_task (number_of a.at.phase) a.at.execution) (steps_at a.at) ∷ left (created a.at) vs

    module _ (o : ℕ) (r : Rights) (entry : enters_from from (made_at a.at.execution) ≡ Enter o r ∷ enters_from (o + 1) (made_at a.at.execution)) where
      enter_left : (vs : List ℤ) → to_go p.shows.seat.walker vs ≡ Enter o r ∷ left_from (o + 1) a.ask a.at vs
      enter_left vs = left_is (Some ask.Create) asks vs ∙ ap (λ es. made_is es vs) entry
          ∙ ap (λ z. Enter o r ∷ left_from (o + 1) z a.at vs) (sym asks)

      pub enter_next : Next (Enter o r) p.shows
      enter_next = next_of (Enter o r) (left_from (o + 1) a.ask a.at []) (enter_left [])

      pub entered : (q : Pass) → q.mark ≡ p.mark → Did o p.shows.held p.shows q.shows → Tied mark plan q a (o + 1) (events + 1)
      entered q same d = did_so q a (o + 1) (Enter o r) o p.shows.held same d refl enter_left t.held

    module _ (none : enters_from from (made_at a.at.execution) ≡ []) where
      enroll_left : (vs : List ℤ) → to_go p.shows.seat.walker vs ≡ made_is [] vs
      enroll_left vs = left_is (Some ask.Create) asks vs ∙ ap (λ es. made_is es vs) none

      pub enroll_next : (n : ℕ) → n ≡ steps_at a.at → Next (Enroll (child_task (number_of a.at.phase) a.at.execution) n) p.shows
      enroll_next n e = next_of (Enroll (child_task (number_of a.at.phase) a.at.execution) n) (left (created a.at) [])
          (enroll_left [] ∙ ap (λ k. Enroll (child_task (number_of a.at.phase) a.at.execution) k ∷ left (created a.at) []) (sym e))

      -- the parent after the creation
      pub parted : (steps n : ℕ) (w : View) (q : Pass) (b : Asking) → q.mark ≡ p.mark → Bore steps p.shows w → q.shows ≡ without_kid w
          → b ≡ record a { at = created a.at; ask = None; children = n } → Tied mark plan q b from (events + 1)
      parted steps n w q b same k cut is = record {
        table = same ∙ t.table;
        run = ap (λ (v : View). v.key) cut ∙ ap (λ (v : View). v.key) k.after ∙ t.run;
        objects = ap (λ (x : Asking). x.at.execution.stage.objects) is ∙ t.objects;
        live = ap (λ (v : View). v.live) cut ∙ ap (λ (v : View). v.live) k.after ∙ t.live;
        born = ap (λ (v : View). v.unborn) cut;
        left = λ vs. ap (λ (v : View). to_go v.seat.walker vs) cut ∙ ap (λ (s : Seat). to_go s.walker vs) k.born.parent
            ∙ moved_on p.shows.seat.walker vs (Enroll (child_task (number_of a.at.phase) a.at.execution) (steps_at a.at)) (left (created a.at) vs)
            (enroll_left vs)
            ∙ ap (λ (x : Asking). left_from from x.ask x.at vs) (sym is);
        held = λ o. ap (λ (v : View). held_at o v.held) cut ∙ ap (λ (v : View). held_at o v.held) k.after ∙ t.held o
            ∙ ap (λ (x : Asking). held_by x.at.execution o) (sym is);
        done = ap (λ (v : View). v.seat.walker.done) cut ∙ ap (λ (s : Seat). s.walker.done) k.born.parent ∙ ap suc t.done ∙ one_more events;
      }
        where
          one_more : (n : ℕ) → suc n ≡ n + 1
          one_more n = omega arith

      -- the child at its begin
      pub born_so : (steps : ℕ) (w : View) (q : Pass) (b : Asking) → q.mark ≡ p.mark → Bore steps p.shows w → q.shows ≡ kid_view w.unborn w
          → BeginsAs (child_task (number_of a.at.phase) a.at.execution) b → b.at.execution.stage.objects ≡ a.at.execution.stage.objects
          → Tied mark plan q b 0 0
      born_so steps w q b same k cut begins objects =
          let child = child_is p.shows.seat.walker k.born.child (child_task (number_of a.at.phase) a.at.execution) (steps_at a.at) (left (created a.at) [])
          (enroll_left []) k.born.bears in
          let is : q.shows ≡ kid_view (Some k.kid) w = cut ∙ ap (λ s. kid_view s w) (ap (λ (v : View). v.unborn) k.after) in
          record {
            table = same ∙ t.table;
            run = ap (λ (v : View). v.key) is ∙ ap (λ (v : View). v.key) k.after ∙ t.run;
            objects = objects ∙ t.objects;
            live = ap (λ (v : View). v.live) is;
            born = ap (λ (v : View). v.unborn) is;
            left = λ vs. ap (λ (v : View). to_go v.seat.walker vs) is ∙ ap (λ (s : Seat). to_go s.walker vs) k.born.seat
                ∙ child_to_do p.shows.seat.walker k.born.child (child_task (number_of a.at.phase) a.at.execution) child vs
                ∙ sym (begins.talk vs) ∙ ap (λ z. left_from 0 z b.at vs) (sym begins.ask);
            held = λ o. ap (λ (v : View). held_at o v.held) is ∙ sym (begins.holds o);
            done = ap (λ (v : View). v.seat.walker.done) is ∙ ap (λ (s : Seat). s.walker.done) k.born.seat ∙ child.done;
          }

  -- Change
  module _ (asks : a.ask ≡ Some ask.Change) where
    abbrev shifts_on : ℕ → List Event
    shifts_on n = shifts_from n (rights_at a.at.execution.stage) (amended_at a.at.execution)

    module _ (o : ℕ) (r : Rights) (next : shifts_on from ≡ follows o r ∷ shifts_on (o + 1)) where
      follow_left : (vs : List ℤ) → to_go p.shows.seat.walker vs ≡ follows o r ∷ left_from (o + 1) a.ask a.at vs
      follow_left vs = left_is (Some ask.Change) asks vs ∙ ap (λ es. es ++ left (changed a.at) vs) next
          ∙ ap (λ z. follows o r ∷ left_from (o + 1) z a.at vs) (sym asks)

      pub follow_next : Next (follows o r) p.shows
      follow_next = next_of (follows o r) (left_from (o + 1) a.ask a.at []) (follow_left [])

      pub shift_next : has_rights r ≡ true → Next (Shift o r) p.shows
      shift_next some = let P : Bool → Type 0 = λ b. Next (if b then Shift o r else Leave o) p.shows in subst P some follow_next

      pub leave_next : has_rights r ≡ false → Next (Leave o) p.shows
      leave_next absent = let P : Bool → Type 0 = λ b. Next (if b then Shift o r else Leave o) p.shows in subst P absent follow_next

      pub followed : (q : Pass) → q.mark ≡ p.mark → Did o p.shows.held p.shows q.shows → Tied mark plan q a (o + 1) (events + 1)
      followed q same d = did_so q a (o + 1) (follows o r) o p.shows.held same d refl follow_left t.held

    pub changed_so : (b : Asking) → shifts_on from ≡ [] → b ≡ record a { at = changed a.at; ask = None } → Tied mark plan p b from events
    changed_so b none is = record {
      table = t.table;
      run = t.run;
      objects = ap (λ (x : Asking). x.at.execution.stage.objects) is ∙ t.objects;
      live = t.live;
      born = t.born;
      left = λ vs. left_is (Some ask.Change) asks vs ∙ ap (λ es. es ++ left (changed a.at) vs) none
          ∙ ap (λ (x : Asking). left_from from x.ask x.at vs) (sym is);
      held = λ o. t.held o ∙ ap (λ (x : Asking). held_by x.at.execution o) (sym is);
      done = t.done;
    }

  -- End and Fault
  abbrev leaves_on : ℕ → List Event
  leaves_on n = leaves_from n (rights_at a.at.execution.stage)

  module _ (fault : Option Blame) (asks : Option Ask) (is : a.ask ≡ asks)
      (ends : (n : ℕ) (vs : List ℤ) → left_from n asks a.at vs ≡ leaves_on n ++ Resign fault (steps_at a.at) ∷ []) where
    end_left : (vs : List ℤ) → to_go p.shows.seat.walker vs ≡ leaves_on from ++ Resign fault (steps_at a.at) ∷ []
    end_left vs = left_is asks is vs ∙ ends from vs

    module _ (o : ℕ) (next : leaves_on from ≡ Leave o ∷ leaves_on (o + 1)) where
      last_left : (vs : List ℤ) → to_go p.shows.seat.walker vs ≡ Leave o ∷ left_from (o + 1) a.ask a.at vs
      last_left vs = end_left vs ∙ ap (λ es. es ++ Resign fault (steps_at a.at) ∷ []) next
          ∙ ap (λ es. Leave o ∷ es) (sym (ends (o + 1) vs)) ∙ ap (λ z. Leave o ∷ left_from (o + 1) z a.at vs) (sym is)

      pub last_next : Next (Leave o) p.shows
      last_next = next_of (Leave o) (left_from (o + 1) a.ask a.at []) (last_left [])

      pub left_last : (q : Pass) → q.mark ≡ p.mark → Did o p.shows.held p.shows q.shows → Tied mark plan q a (o + 1) (events + 1)
      left_last q same d = did_so q a (o + 1) (Leave o) o p.shows.held same d refl last_left t.held

    pub resign_next : (n : ℕ) → n ≡ steps_at a.at → leaves_on from ≡ [] → Next (Resign fault n) p.shows
    resign_next n e none = next_of (Resign fault n) []
        (end_left [] ∙ ap (λ es. es ++ Resign fault (steps_at a.at) ∷ []) none ∙ ap (λ k. Resign fault k ∷ []) (sym e))

  -- the end
  pub gone : (n : ℕ) (fault : Option Blame) (q : Pass) → q.mark ≡ p.mark → Ended fault n p.shows q.shows → (q.mark ≡ mark) × IsGone q.shows
  gone n fault q same e =
      (same ∙ t.table, record { live = ap (λ (v : View). v.live) e.after; born = ap (λ (v : View). v.unborn) e.after ∙ t.born })
