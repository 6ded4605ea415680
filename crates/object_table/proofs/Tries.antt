-- A step that is no event leaves the core as it was, and each event moves its task's seat.
use Rattle.std.proofs.Common.{◌≡◌, ◌≢◌, ℕ, zero, suc, ◌<◌, ◌≤◌, Bool, true, false, List, [], ◌∷◌, set, length, refl, sym, ap, ◌∙◌, subst, arith, eq-eqb, ne_eqb, Option}
use Rattle.std.specs.Prelude.{slice_index, nat_eq, if◌then◌else◌}
use mathlib.Core.Logic.{dite}
use mathlib.Core.Option.{Option as Maybe, some, some-injective}
use native.Mathlib.Decide.{ℕ_discrete}
use lib.ListN.{get_elem?}
use Rattle.atomic_table.specs.Table as table
use Rattle.atomic_table.specs.Table.{Me}
use Rattle.atomic_table.proofs.Lists.{set_again}
use Rattle.jade_base.specs.declared.report.Blame.{Blame}
use Rattle.jade_meaning.specs.Plan.{RunPlan}
use Rattle.jade_meaning.specs.Talk.{Task, Event, Enter, Enroll, Take, TouchRead, TouchWrite, Wants, Give, Leave, Shift, Resign}
use Rattle.jade_meaning.specs.Walk.{upcoming}
use Rattle.schedule_core.specs.declared.steps.Seat.{Seat}
use Rattle.object_table.specs.Tallies.{TallyView, restocked, received, is_settled}
use Rattle.object_table.specs.Tries.{SameCore, SameNotes, TriesChangeNothing, Move, Try, Desist, Finish, Enrolling, Resigning, Looking, Restocking, Relieving}
use Rattle.object_table.specs.Tries.{on_object, is_one, Steps, after_step, EventsMoveSeats}
use Rattle.object_table.specs.Views.{View, count_of, word_of, part_of, core_notes, worth}
use Rattle.object_table.specs.Touches.{touched_first, passed}
use Rattle.object_table.specs.Plays.{tried_at, in_turn, tried_there, turned_off, did, supplied, all_in, relieved}
use Rattle.object_table.specs.Rule.{PlaceOk, free, taken, Ruled}
use Rattle.object_table.specs.steps.Kept.{Laws}
use Rattle.object_table.specs.declared.slot.Slot.{Slot}
use Rattle.object_table.specs.declared.slot.Slot.TheVariants as slot
use Rattle.object_table.proofs.Lists.{at_word}
use Rattle.object_table.proofs.Goes.{SamePurse, Still, Goes, mine, parts0, stays, same_gathered, same_pays, renewed, leaving, taking}
use Rattle.object_table.proofs.AtRoll.{restock_keeps, relieve_keeps}
use Rattle.object_table.proofs.Splitting.{split_keeps}
use Rattle.object_table.proofs.Joining.{join_keeps}

module _ (key : RunPlan) (s : table.State Slot View) (h : Ruled key s) (id : ℕ) (v : View) (at_v : get_elem? s.views id ≡ some v) where
  abbrev n : ℕ
  n = count_of key

  untouched : (w : View) → w.tickets ≡ v.tickets → w.notes ≡ v.notes → w.over ≡ v.over → SamePurse v w
  untouched w t ns o = record { tickets = t; notes = ns; over = o }

  busy_keeps : v.turn ≡ false → (o : ℕ) → o < suc n → slice_index s.words (word_of o) ≡ 1 → (carried : List (ℕ × Slot))
      → SameNotes key s (table.stepped s (word_of o) 1 id carried (tried_at o 1 v) table.keeps) h
  busy_keeps idle o room is carried =
      let k = (mine n key s h id v at_v).sits in
      let wide = h.wide in
      let w = tried_at o 1 v in
      let purse = untouched w refl refl refl in
      let g : Goes n key s h id v at_v w = stays n key s h id v at_v w (mine n key s h id v at_v).plan refl refl purse (record {
        live = k.live;
        held = k.held;
        unborn = k.unborn;
        unheld = k.unheld;
        fed = k.fed;
        feeds = k.feeds;
      }) in
      let still : Still v w = record { turn = refl; place = λ e. absurd (let r : false ≡ true = sym idle ∙ e in cc); note = λ e. refl } in
      let same : s.words ≡ set s.words (word_of o) 1 = sym (set_again s.words (word_of o) 1 (at_word s.words (word_of o) (omega arith) ∙ ap some is)) in
      subst (λ ws. SameNotes key s (record { words = ws; homes = s.homes; views = set s.views id w }) h) same (record {
        core = record {
          after = renewed n key s h id v at_v w g (λ p. refl) still (same_pays n key s h id v at_v w purse);
          count = refl;
          roll = refl;
          shelves = refl;
          notes = ap core_notes (same_gathered n key s h id v at_v w purse);
        };
        notes = same_gathered n key s h id v at_v w purse;
      })

  got_keeps : v.turn ≡ false → 0 < worth v → (o : ℕ) → o < suc n → slice_index s.words (word_of o) ≡ 0 → (y : Slot)
      → y ≡ part_of n o h.tally h.shelves → (carried : List (ℕ × Slot))
      → SameNotes key s (table.stepped s (word_of o) 1 id carried (in_turn o y v) (table.takes o y)) h
  got_keeps idle worthy o room is y found carried =
      let same = same_gathered n key s h id v at_v (in_turn o y v) (untouched (in_turn o y v) refl refl refl) in
      record {
        core = record {
          after = taking n key s h id v at_v o room idle worthy y is found carried;
          count = refl;
          roll = refl;
          shelves = refl;
          notes = ap core_notes same;
        };
        notes = same;
      }

  left_keeps : v.turn ≡ true → (o : ℕ) → v.place ≡ o → (carried : List (ℕ × Slot)) → carried ≡ (o, v.note) ∷ table.rest carried
      → SameNotes key s (table.stepped s (word_of o) 0 id carried (turned_off v) table.gives) h
  left_keeps turn o place carried has =
      let m = mine n key s h id v at_v in
      let k = m.sits in
      let w = turned_off v in
      let purse = untouched w refl refl refl in
      let g : Goes n key s h id v at_v w = stays n key s h id v at_v w m.plan refl refl purse (record {
        live = k.live;
        held = k.held;
        unborn = k.unborn;
        unheld = k.unheld;
        fed = k.fed;
        feeds = k.feeds;
      }) in
      record {
        core = record {
          after = leaving n key s h id v at_v w g o turn place carried v.note has refl
              ((m.turn turn).found ∙ ap (parts0 n key s h id v at_v) place) (λ p ne. refl);
          count = refl;
          roll = refl;
          shelves = refl;
          notes = ap core_notes (same_gathered n key s h id v at_v w purse);
        };
        notes = same_gathered n key s h id v at_v w purse;
      }

pub tries_change_nothing : (key : RunPlan) → TriesChangeNothing key
tries_change_nothing key = record {
  busy = λ s h id v at_v idle o room is carried. busy_keeps key s h id v at_v idle o room is carried;
  got = λ s h id v at_v idle worthy o room is y found carried. got_keeps key s h id v at_v idle worthy o room is y found carried;
  left = λ s h id v at_v turn o place carried has. left_keeps key s h id v at_v turn o place carried has;
}

-- one act, by what slots the pass has then
longer : (x : ℕ × Slot) (c : List (ℕ × Slot)) → c ≡ x ∷ c → ⊥
longer x c e = absurd (let n = ap length e in omega (arith, n))

rest_short : (c : List (ℕ × Slot)) → length (table.rest c) ≤ length c
rest_short [] = omega arith
rest_short (x ∷ c) = omega arith

kept_homes : (a : table.Act Slot) → is_one a ≡ true → (c : List (ℕ × Slot)) → table.carried_after c a ≡ c → (hs : List (Maybe Slot))
    → table.homes_after hs c a ≡ hs
kept_homes table.keeps one c e hs = refl
kept_homes (table.takes k y) one c e hs = absurd (longer (k, y) c (sym e))
kept_homes table.gives one [] e hs = refl
kept_homes table.gives one (x ∷ c) e hs = absurd (longer x c e)
kept_homes (table.chain a b) one c e hs = absurd (cc)

given_homes : (a : table.Act Slot) → is_one a ≡ true → (c : List (ℕ × Slot)) (x : ℕ × Slot) → c ≡ x ∷ table.rest c → table.carried_after c a ≡ table.rest c
    → (hs : List (Maybe Slot)) → table.homes_after hs c a ≡ table.put_back hs c
given_homes table.keeps one [] x e f hs = refl
given_homes table.keeps one (z ∷ c) x e f hs = absurd (longer z c (sym f))
given_homes (table.takes k y) one [] x e f hs = absurd (cc)
given_homes (table.takes k y) one (z ∷ c) x e f hs = absurd (let n = ap length f in omega (arith, n))
given_homes table.gives one c x e f hs = refl
given_homes (table.chain a b) one c x e f hs = absurd (cc)

abbrev first_or : (ℕ × Slot) → List (ℕ × Slot) → ℕ × Slot
first_or x [] = x
first_or x (y ∷ ys) = y

took_it : (a : table.Act Slot) → is_one a ≡ true → (c : List (ℕ × Slot)) (o : ℕ) (y : Slot) → table.carried_after c a ≡ (o, y) ∷ c → a ≡ table.takes o y
took_it table.keeps one c o y e = absurd (longer (o, y) c e)
took_it (table.takes k z) one c o y e = ap (λ (p : ℕ × Slot). table.takes p.0 p.1) (ap (first_or (o, y)) e)
took_it table.gives one c o y e = absurd (let n = ap length e in let le = rest_short c in omega (arith, n, le))
took_it (table.chain a b) one c o y e = absurd (cc)

-- touches and events take nothing back
touch_done : (l : List Event) (v : View) → v.seat.walker.done ≤ (touched_first l v).seat.walker.done
touch_done [] v = omega arith
touch_done (Wants o c ∷ es) v = omega arith
touch_done (TouchWrite o c x ∷ es) v = omega arith
touch_done (TouchRead o c x ∷ es) v = omega arith
touch_done (Enter o a ∷ es) v = omega arith
touch_done (Enroll t m ∷ es) v = omega arith
touch_done (Take o m ∷ es) v = omega arith
touch_done (Give o ∷ es) v = omega arith
touch_done (Leave o ∷ es) v = omega arith
touch_done (Shift o a ∷ es) v = omega arith
touch_done (Resign b m ∷ es) v = omega arith

passed_done : (k : ℕ) (v : View) → v.seat.walker.done ≤ (passed k v).seat.walker.done
passed_done zero v = omega arith
passed_done (suc k) v =
    let a = passed_done k v in
    let b = touch_done (upcoming (passed k v).seat.walker) (passed k v) in
    omega (arith, a, b)

did_done : (e : Event) (v : View) → on_object e ≡ true → (did e v).seat.walker.done ≡ suc v.seat.walker.done
did_done (Enter o a) v on = refl
did_done (Take o m) v on = refl
did_done (Give o) v on = refl
did_done (Leave o) v on = refl
did_done (Shift o a) v on = refl
did_done (Enroll t n) v on = absurd (cc)
did_done (TouchRead o c x) v on = absurd (cc)
did_done (TouchWrite o c x) v on = absurd (cc)
did_done (Wants o c) v on = absurd (cc)
did_done (Resign b n) v on = absurd (cc)

module _ (key : RunPlan) (s : table.State Slot View) (id : ℕ) (m : Me Slot View) (w : View) (a : table.Act Slot) where
  abbrev now : Me Slot View
  now = (w, table.carried_after m.1 a)

  abbrev count : ℕ
  count = count_of key

  abbrev read : ℕ → ℕ
  read o = slice_index s.words (word_of o)

  seat_of : (u : View) (c : List (ℕ × Slot)) → now ≡ (u, c) → w.seat ≡ u.seat
  seat_of u c e = ap (λ (q : Me Slot View). q.0.seat) e

  same_done : (u : View) (c : List (ℕ × Slot)) → now ≡ (u, c) → u.seat ≡ m.0.seat → m.0.seat.walker.done ≤ w.seat.walker.done
  same_done u c e same = let d : w.seat.walker.done ≡ m.0.seat.walker.done = ap (λ (q : Seat). q.walker.done) (seat_of u c e ∙ same) in omega (arith, d)

  -- each event is one more
  finished : (k : ℕ) (e : Event) → Steps key (Finish k e) s id m w a → m.0.seat.walker.done < w.seat.walker.done
  finished k e d =
      let is = (d.told.0 k e d.ready.0).0 in
      let more : w.seat.walker.done ≡ suc (passed k m.0).seat.walker.done = ap (λ (q : View). q.seat.walker.done) is ∙ did_done e (passed k m.0) d.ready.1 in
      let le = passed_done k m.0 in
      omega (arith, more, le)

  enrolled : (k : ℕ) (t : Task) (n : ℕ) → Steps key (Enrolling k t n) s id m w a → m.0.seat.walker.done < w.seat.walker.done
  enrolled k t n d =
      let told = d.told.0 k t n d.ready in
      let more : w.seat.walker.done ≡ suc (passed k m.0).seat.walker.done = ap (λ (q : View). q.seat.walker.done) told.2 in
      let le = passed_done k m.0 in
      omega (arith, more, le)

  resigned : (k : ℕ) (b : Option Blame) (n : ℕ) → Steps key (Resigning k b n) s id m w a → m.0.seat.walker.done < w.seat.walker.done
  resigned k b n d =
      let told = d.told.0 k b n d.ready in
      let more : w.seat.walker.done ≡ suc (passed k m.0).seat.walker.done = ap (λ (q : View). q.seat.walker.done) told.0 in
      let le = passed_done k m.0 in
      omega (arith, more, le)

  try_grows : (o : ℕ) → Steps key (Try o) s id m w a → m.0.seat.walker.done ≤ w.seat.walker.done
  try_grows o d = dite (ℕ_discrete (read o) 0)
      (λ z. let t = told.0 z in same_done (in_turn o t.0 m.0) ((o, t.0) ∷ m.1) t.1 refl)
      (λ ne. let t = told.1 ne in same_done (tried_at o 1 m.0) m.1 t.1 refl)
    where
      told : tried_there (suc count) o m (read o) now
      told = d.told o refl

  grows : (move : Move) → Steps key move s id m w a → m.0.seat.walker.done ≤ w.seat.walker.done
  grows (Try o) d = try_grows o d
  grows Desist d = same_done (turned_off m.0) (table.rest m.1) d.told.0 refl
  grows (Finish k e) d = let lt = finished k e d in omega (arith, lt)
  grows (Enrolling k t n) d = let lt = enrolled k t n d in omega (arith, lt)
  grows (Resigning k b n) d = let lt = resigned k b n d in omega (arith, lt)
  grows Looking d = same_done m.0 m.1 d.told.0 refl
  grows (Restocking r) d = same_done (supplied m.0) (table.rest m.1) d.told refl
  grows (Relieving r) d = same_done (relieved (all_in m.1) m.0) (table.rest m.1) d.told refl

module _ (key : RunPlan) (laws : Laws key) (s : table.State Slot View) (h : Ruled key s) (id : ℕ) (m : Me Slot View) (w : View) (a : table.Act Slot) where
  abbrev then_shows : Me Slot View
  then_shows = (w, table.carried_after m.1 a)

  abbrev found : ℕ → ℕ
  found o = slice_index s.words (word_of o)

  abbrev parts : ℕ → Slot
  parts o = part_of (count_of key) o h.tally h.shelves

  worthy : (get_elem? s.views id ≡ some m.0) → (m.0.live ≡ false → 0 < worth m.0) → 0 < worth m.0
  worthy here ready = by_live m.0.live refl
    where
      by_live : (b : Bool) → m.0.live ≡ b → 0 < worth m.0
      by_live true e = let some = (h.passes id m.0 here).sits.fed e in omega (arith, some)
      by_live false e = ready e

  -- a try
  try_keeps : (o : ℕ) → Steps key (Try o) s id m w a → SameCore key s (after_step (Try o) s id m w a) h
  try_keeps o d = go (h.places o d.ready.0)
    where
      told : tried_there (suc (count_of key)) o m (found o) then_shows
      told = d.told o refl

      go : PlaceOk (count_of key) s h.holder parts o → SameCore key s (after_step (Try o) s id m w a) h
      go (free x zeroed home is) =
          let t = told.0 zeroed in
          let took : a ≡ table.takes o t.0 = took_it a d.one m.1 o t.0 (ap (λ (q : Me Slot View). q.1) t.1) in
          let there : get_elem? s.homes o ≡ some (some t.0) = subst (λ b. table.Valid s.homes m.1 b) took d.valid in
          let same : t.0 ≡ x = some-injective t.0 x (some-injective (some t.0) (some x) (sym there ∙ home)) in
          let one : (if nat_eq (found o) 0 then 1 else found o) ≡ 1 = ap (λ b. if b then 1 else found o) (eq-eqb (found o) 0 zeroed) in
          let to : table.stepped s (word_of o) 1 id m.1 (in_turn o t.0 m.0) (table.takes o t.0) ≡ after_step (Try o) s id m w a =
          λ i. table.stepped s (word_of o) (sym one i) id m.1 (ap (λ (q : Me Slot View). q.0) (sym t.1) i) (sym took i) in
          subst (λ (q : table.State Slot View). SameCore key s q h) to
          (got_keeps key s h id m.0 d.here d.ready.1 (worthy d.here d.ready.2) o d.ready.0 zeroed t.0 (same ∙ is) m.1).core
      go (taken z full at_z turn place) =
          let ne : found o ≢ 0 = λ e. absurd (omega (arith, e, full)) in
          let t = told.1 ne in
          let homes = kept_homes a d.one m.1 (ap (λ (q : Me Slot View). q.1) t.1) s.homes in
          let one : (if nat_eq (found o) 0 then 1 else found o) ≡ 1 = ap (λ b. if b then 1 else found o) (ne_eqb (found o) 0 ne) ∙ full in
          let to : table.stepped s (word_of o) 1 id m.1 (tried_at o 1 m.0) table.keeps ≡ after_step (Try o) s id m w a = λ i. record {
            words = set s.words (word_of o) (sym one i);
            homes = sym homes i;
            views = set s.views id (ap (λ (q : Me Slot View). q.0) (sym t.1) i);
          } in
          subst (λ (q : table.State Slot View). SameCore key s q h) to
          (busy_keeps key s h id m.0 d.here d.ready.1 o d.ready.0 full m.1).core

  -- a turn that is left, with a slot given back
  given : (o : ℕ) (u : View) (x : Slot) → m.1 ≡ (o, x) ∷ table.rest m.1 → is_one a ≡ true → then_shows ≡ (u, table.rest m.1)
      → SameCore key s (table.stepped s (word_of o) 0 id m.1 u table.gives) h → SameCore key s (table.stepped s (word_of o) 0 id m.1 w a) h
  given o u x has one told k =
      let homes = given_homes a one m.1 (o, x) has (ap (λ (q : Me Slot View). q.1) told) s.homes in
      let to : table.stepped s (word_of o) 0 id m.1 u table.gives ≡ table.stepped s (word_of o) 0 id m.1 w a = λ i. record {
        words = set s.words (word_of o) 0;
        homes = sym homes i;
        views = set s.views id (ap (λ (q : Me Slot View). q.0) (sym told) i);
      } in
      subst (λ (q : table.State Slot View). SameCore key s q h) to k

  desist_keeps : Steps key Desist s id m w a → SameCore key s (after_step Desist s id m w a) h
  desist_keeps d =
      given m.0.place (turned_off m.0) m.0.note d.ready.has d.one d.told.0
      (left_keeps key s h id m.0 d.here d.ready.turn m.0.place refl m.1 d.ready.has).core

  restock : (r : TallyView) → Steps key (Restocking r) s id m w a → SameCore key s (after_step (Restocking r) s id m w a) h
  restock r d =
      let at = d.ready.2 in
      subst (λ o. SameCore key s (table.stepped s (word_of o) 0 id m.1 w a) h) (sym at.place)
      (given (count_of key) (supplied m.0) (slot.Roll (restocked r)) at.has d.one d.told
      (restock_keeps key s h id m.0 d.here at.turn at.place d.ready.0 r d.ready.1 d.ready.3 m.1 (slot.Roll (restocked r)) at.has refl))

  relieve : (r : TallyView) → Steps key (Relieving r) s id m w a → SameCore key s (after_step (Relieving r) s id m w a) h
  relieve r d =
      let at = d.ready.2 in
      let new = slot.Roll (received (worth m.0) m.0.notes r) in
      let last : all_in m.1 ≡ is_settled (received (worth m.0) m.0.notes r) = ap all_in at.has in
      subst (λ o. SameCore key s (table.stepped s (word_of o) 0 id m.1 w a) h) (sym at.place)
      (given (count_of key) (relieved (all_in m.1) m.0) new at.has d.one d.told
      (relieve_keeps key s h id m.0 d.here at.turn at.place laws d.ready.0.live d.ready.0.born r d.ready.1 (all_in m.1) last m.1 new at.has refl))

  look_keeps : Steps key Looking s id m w a → SameCore key s (after_step Looking s id m w a) h
  look_keeps d =
      let wide = h.wide in
      let first = set_again s.words 0 (slice_index s.words 0) (at_word s.words 0 (omega (arith, wide))) in
      let homes = kept_homes a d.one m.1 (ap (λ (q : Me Slot View). q.1) d.told.0) s.homes in
      let views : set s.views id w ≡ s.views = ap (λ (q : Me Slot View). set s.views id q.0) d.told.0 ∙ set_again s.views id m.0 d.here in
      let to : s ≡ after_step Looking s id m w a = λ i. record { words = sym first i; homes = sym homes i; views = sym views i } in
      subst (λ (q : table.State Slot View). SameCore key s q h) to
      (record { after = h; count = refl; roll = refl; shelves = refl; notes = refl })

  still : (move : Move) → Steps key move s id m w a → w.seat.walker.done ≡ m.0.seat.walker.done → SameCore key s (after_step move s id m w a) h
  still (Try o) d e = try_keeps o d
  still Desist d e = desist_keeps d
  still (Finish k x) d e = absurd (let lt = finished key s id m w a k x d in omega (arith, lt, e))
  still (Enrolling k t n) d e = absurd (let lt = enrolled key s id m w a k t n d in omega (arith, lt, e))
  still (Resigning k b n) d e = absurd (let lt = resigned key s id m w a k b n d in omega (arith, lt, e))
  still Looking d e = look_keeps d
  still (Restocking r) d e = restock r d
  still (Relieving r) d e = relieve r d

pub events_move_seats : (key : RunPlan) → Laws key → EventsMoveSeats key
events_move_seats key laws = record {
  grows = λ s move id m w a d. grows key s id m w a move d;
  still = λ s h move id m w a d e. still key laws s h id m w a move d e;
  split = λ s h id v kid at alive waits. split_keeps key s h id v kid at alive waits;
  joins = λ s h id other v w at there apart gone other_gone idle other_idle.
      join_keeps key s h id other v w at there gone other_gone idle other_idle apart laws;
}
