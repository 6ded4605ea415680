-- The pass of a child that was enrolled is cut off its parent's.
use Rattle.std.proofs.Common.{◌≡◌, ◌≢◌, ◌⊎◌, inl, inr, ℕ, zero, suc, ◌<◌, true, false, List, [], ◌∷◌, ◌++◌, map, set, length, refl, sym, ap, ◌∙◌}
use Rattle.std.proofs.Common.{subst, arith, length-set, Some}
use mathlib.Core.Logic.{dite}
use mathlib.Core.Option.{some, some-injective, some-ne-none}
use native.Mathlib.Decide.{ℕ_discrete}
use lib.ListN.{get_elem?}
use Rattle.atomic_table.specs.Table as table
use Rattle.atomic_table.specs.Table.{Splits}
use Rattle.atomic_table.proofs.Lists.{at_set, set_here, set_else, at_longer, at_last}
use Rattle.jade_meaning.specs.Laws.{Every}
use Rattle.schedule_core.specs.declared.steps.Seat.{Seat}
use Rattle.schedule_core.specs.Plain.{Reached}
use Rattle.schedule_core.proofs.Lines.{every_append, every_front, every_back, every_apply}
use Rattle.task_roll.specs.declared.note.PartNote.{PartNote}
use Rattle.jade_meaning.specs.Plan.{RunPlan}
use Rattle.object_table.specs.Views.{count_of, View, part_of, core_notes, gathered, in_hand}
use Rattle.object_table.specs.Rule.{pass_of, kid_of, Absent, Spot, OnRoll, Owned, by_pass, by_maker, Accounts, PlaceOk, free, taken, SeatOk, Ruled}
use Rattle.object_table.specs.Plays.{without_kid, kid_view}
use Rattle.object_table.specs.Tries.{SameCore}
use Rattle.object_table.specs.declared.slot.Slot.{Slot}
use Rattle.object_table.proofs.Lists.{put_seat, seat_here, seat_else, roll_split, roll_put, at_inside, same_view, every_with}
use Rattle.object_table.proofs.Owners.{spot_more, spot_less, none_some}
use Rattle.object_table.proofs.Purses.{hand_kept, hand_more, worths_set, worths_more}

snoc_at : {A : Type 0} (l : List A) (a b : A) (j : ℕ) → get_elem? (l ++ a ∷ []) j ≡ some b → (get_elem? l j ≡ some b) ⊎ ((j ≡ length l) × (a ≡ b))
snoc_at [] a b zero e = inr (refl, some-injective a b e)
snoc_at [] a b (suc j) e = absurd (some-ne-none b (sym e))
snoc_at (x ∷ l) a b zero e = inl e
snoc_at (x ∷ l) a b (suc j) e = go (snoc_at l a b j e)
  where
    go : (get_elem? l j ≡ some b) ⊎ ((j ≡ length l) × (a ≡ b)) → (get_elem? l j ≡ some b) ⊎ ((suc j ≡ suc (length l)) × (a ≡ b))
    go (inl h) = inl h
    go (inr h) = inr (ap suc h.0, h.1)

append_nil : (ns : List PartNote) → ns ++ [] ≡ ns
append_nil [] = refl
append_nil (n ∷ ns) = ap (λ ms. n ∷ ms) (append_nil ns)

module _ (key : RunPlan) (s : table.State Slot View) (h : Ruled key s) (id : ℕ) (v : View) (at : get_elem? s.views id ≡ some v) (alive : v.live ≡ true)
    (baby : Seat) (waits : v.unborn ≡ Some baby) where
  abbrev n : ℕ
  n = count_of key

  abbrev left : View
  left = without_kid v

  abbrev right : View
  right = kid_view (Some baby) v

  abbrev new : table.State Slot View
  new = record { words = s.words; homes = s.homes; views = set s.views id left ++ right ∷ [] }

  abbrev fresh : ℕ
  fresh = pass_of (length s.views)

  abbrev kid : ℕ
  kid = kid_of id

  abbrev there : OnRoll h.owners h.seats kid baby
  there = (h.passes id v at).sits.unborn baby waits

  abbrev front : List ℕ
  front = there.spot.front

  abbrev back : List ℕ
  back = there.spot.back

  abbrev owners2 : List ℕ
  owners2 = front ++ (fresh ∷ back)

  abbrev seats2 : ℕ → Seat
  seats2 = put_seat h.seats fresh baby

  not_yet : Absent fresh (front ++ (kid ∷ back))
  not_yet = subst (Absent fresh) there.spot.is (every_with (Owned s.views) (λ (x : ℕ). x ≢ fresh) (λ x q. old x q) h.owners h.only)
    where
      old : (x : ℕ) → Owned s.views x → x ≢ fresh
      old x (by_pass j z e live is) = λ same. absurd (let lt = at_inside s.views j z e in omega (arith, lt, is, same))
      old x (by_maker j z k e unborn is) = λ same. absurd (omega (arith, is, same))

  abbrev fresh_spot : Spot owners2 fresh
  fresh_spot = record {
    front = front;
    back = back;
    is = refl;
    before = every_front (λ (x : ℕ). x ≢ fresh) front (kid ∷ back) not_yet;
    after = (every_back (λ (x : ℕ). x ≢ fresh) front (kid ∷ back) not_yet).1;
  }

  roll_is : map h.seats h.owners ≡ map seats2 owners2
  roll_is =
      ap (map h.seats) there.spot.is ∙ roll_split h.seats kid front back ∙ ap (λ x. map h.seats front ++ (x ∷ map h.seats back)) there.is
      ∙ sym (roll_put h.seats fresh baby owners2 fresh_spot)

  abbrev parts : ℕ → Slot
  parts o = part_of n o h.tally h.shelves

  rich : 1 < v.tickets
  rich = (h.passes id v at).sits.feeds baby waits

  -- the tickets are shared, and the notes stay where they are
  same_notes : gathered h.tally s.views ≡ gathered h.tally new.views
  same_notes = ap (λ ns. h.tally.notes ++ ns)
      (sym (hand_more (set s.views id left) right ∙ append_nil (in_hand (set s.views id left)) ∙ hand_kept s.views id v left at refl))

  same_accounts : Accounts h.tally new.views
  same_accounts =
      let r = rich in
      let due = h.accounts.due in
      let less = worths_set s.views id v left at in
      let more = worths_more (set s.views id left) right in
      record { due = omega (arith, r, due, less, more); room = h.accounts.room }

  on_else : (x : ℕ) (z : Seat) → x ≢ kid → x ≢ fresh → OnRoll h.owners h.seats x z → OnRoll owners2 seats2 x z
  on_else x z nk nf r = record {
    spot = spot_more front back fresh x (λ e. nf (sym e)) (spot_less front back kid x (λ e. nk (sym e)) (subst (λ os. Spot os x) there.spot.is r.spot));
    is = seat_else h.seats fresh baby x nf ∙ r.is;
  }

  abbrev Ok : ℕ → View → Type 0
  Ok j z = SeatOk n s.words owners2 seats2 h.holder h.shelves parts key j z

  old_seat : (j : ℕ) (z : View) → j < length s.views → SeatOk n s.words h.owners h.seats h.holder h.shelves parts key j z
      → ((k : Seat) → z.unborn ≡ Some k → j ≢ id) → Ok j z
  old_seat j z lt q kids = record {
    plan = q.plan;
    sits = record {
      live = λ l. on_else (pass_of j) z.seat (λ same. absurd (omega arith)) (λ same. absurd (omega (arith, lt, same))) (q.sits.live l);
      held = q.sits.held;
      unborn = λ k u. on_else (kid_of j) k (λ same. absurd (kids k u (omega (arith, same)))) (λ same. absurd (omega arith)) (q.sits.unborn k u);
      unheld = q.sits.unheld;
      fed = q.sits.fed;
      feeds = q.sits.feeds;
    };
    turn = q.turn;
    busy = q.busy;
  }

  seat : (j : ℕ) (z : View) → get_elem? new.views j ≡ some z → Ok j z
  seat j z e = by_end (snoc_at (set s.views id left) right z j e)
    where
      by_set : ((j ≡ id) × (left ≡ z)) ⊎ ((j ≢ id) × (get_elem? s.views j ≡ some z)) → Ok j z
      by_set (inl x) =
          let q = h.passes id v at in
          let q' : SeatOk n s.words h.owners h.seats h.holder h.shelves parts key id left = record {
            plan = q.plan;
            sits = record {
              live = q.sits.live;
              held = q.sits.held;
              unborn = λ k u. absurd (none_some k u);
              unheld = λ k u. absurd (none_some k u);
              fed = λ l. let r = rich in omega (arith, r);
              feeds = λ k u. absurd (none_some k u);
            };
            turn = λ e. let t = q.turn e in record { inside = t.inside; word = t.word; holds = t.holds; found = t.found };
            busy = λ e. let r = rich in omega (arith, r);
          } in
          subst (λ (p : ℕ × View). Ok p.0 p.1) (λ i. (sym x.0 i, x.1 i))
          (old_seat id left (at_inside s.views id v at) q' (λ k u. absurd (none_some k u)))
      by_set (inr x) = old_seat j z (at_inside s.views j z x.1) (h.passes j z x.1) (λ k u. x.0)

      by_end : (get_elem? (set s.views id left) j ≡ some z) ⊎ ((j ≡ length (set s.views id left)) × (right ≡ z)) → Ok j z
      by_end (inl x) = by_set (at_set s.views id j left z x)
      by_end (inr x) =
          subst (λ (p : ℕ × View). Ok p.0 p.1) (λ i. (sym (x.0 ∙ length-set s.views id left) i, x.1 i)) (record {
            plan = λ l. (h.passes id v at).plan alive;
            sits = record {
              live = λ l. record { spot = fresh_spot; is = seat_here h.seats fresh baby };
              held = λ l. (h.passes id v at).sits.unheld baby waits;
              unborn = λ k u. absurd (none_some k u);
              unheld = λ k u. absurd (none_some k u);
              fed = λ l. omega arith;
              feeds = λ k u. absurd (none_some k u);
            };
            turn = λ e. absurd (cc);
            busy = λ e. absurd (cc);
          })

  kept_owner : (x : ℕ) → x ≢ kid → Owned s.views x → Owned new.views x
  kept_owner x ne (by_pass j z e live is) = dite (ℕ_discrete j id)
      (λ same. by_pass id left (at_longer (set s.views id left) (right ∷ []) id left (set_here s.views id left (at_inside s.views id v at)))
      (ap (λ (k : View). k.live) (same_view s.views id j v z at e same) ∙ live) (is ∙ ap pass_of same))
      (λ other. by_pass j z (at_longer (set s.views id left) (right ∷ []) j z (set_else s.views id j left other ∙ e)) live is)
  kept_owner x ne (by_maker j z k e unborn is) =
      by_maker j z k (at_longer (set s.views id left) (right ∷ []) j z (set_else s.views id j left (λ same. ne (is ∙ ap kid_of same)) ∙ e)) unborn is

  place : (p : ℕ) → PlaceOk n s h.holder parts p → PlaceOk n new h.holder parts p
  place p (free y w0 home is) = free y w0 home is
  place p (taken z w1 e t l) = dite (ℕ_discrete (h.holder p) id)
      (λ same.
      let q : v ≡ z = same_view s.views id (h.holder p) v z at e same in
      taken left w1 (subst (λ i. get_elem? new.views i ≡ some left) (sym same)
      (at_longer (set s.views id left) (right ∷ []) id left (set_here s.views id left (at_inside s.views id v at))))
      (ap (λ (k : View). k.turn) q ∙ t) (ap (λ (k : View). k.place) q ∙ l))
      (λ other. taken z w1 (at_longer (set s.views id left) (right ∷ []) (h.holder p) z (set_else s.views id (h.holder p) left other ∙ e)) t l)

  settled : (j : ℕ) (z : View) → get_elem? new.views j ≡ some z → z.over ≡ true → h.tally.due ≡ 0
  settled j z e over = by_end (snoc_at (set s.views id left) right z j e)
    where
      by_set : ((j ≡ id) × (left ≡ z)) ⊎ ((j ≢ id) × (get_elem? s.views j ≡ some z)) → h.tally.due ≡ 0
      by_set (inl x) = h.settled id v at (ap (λ (y : View). y.over) x.1 ∙ over)
      by_set (inr x) = h.settled j z x.1 over

      by_end : (get_elem? (set s.views id left) j ≡ some z) ⊎ ((j ≡ length (set s.views id left)) × (right ≡ z)) → h.tally.due ≡ 0
      by_end (inl x) = by_set (at_set s.views id j left z x)
      by_end (inr x) = absurd (let no : false ≡ true = ap (λ (y : View). y.over) x.1 ∙ over in cc)

  abbrev split_rule : Ruled key new
  split_rule =
      let P = Owned s.views in
      let Q = Owned new.views in
      let all = subst (λ os. Every P os) there.spot.is h.only in
      let kept = λ (xs : List ℕ) (far : Absent kid xs). every_with (λ (x : ℕ). x ≢ kid) (λ x. P x → Q x) kept_owner xs far in
      let early = every_apply P Q front (kept front there.spot.before) (every_front P front (kid ∷ back) all) in
      let late = every_apply P Q back (kept back there.spot.after) (every_back P front (kid ∷ back) all).1 in
      let mine = by_pass (length s.views) right (at_last (set s.views id left) right (length s.views) (length-set s.views id left)) refl refl in
      record {
        count = h.count;
        owners = owners2;
        seats = seats2;
        shelves = h.shelves;
        tally = h.tally;
        holder = h.holder;
        reached = subst (λ ns. Reached key.program key.numbers key.limit h.count (map seats2 owners2) h.shelves (core_notes ns)) same_notes
            (subst (λ r. Reached key.program key.numbers key.limit h.count r h.shelves (core_notes (gathered h.tally s.views))) roll_is h.reached);
        accounts = same_accounts;
        settled = settled;
        wide = h.wide;
        deep = h.deep;
        passes = seat;
        only = every_append Q front (fresh ∷ back) early (mine, late);
        places = λ p lt. place p (h.places p lt);
      }

  -- the core is the same
  pub split_core : SameCore key s new h
  split_core = record { after = split_rule; count = refl; roll = sym roll_is; shelves = refl; notes = ap core_notes (sym same_notes) }

pub split_keeps : (key : RunPlan) (s : table.State Slot View) (h : Ruled key s) (id : ℕ) (v : View) (kid : Seat) → get_elem? s.views id ≡ some v
    → v.live ≡ true → v.unborn ≡ Some kid
    → SameCore key s (record { words = s.words; homes = s.homes; views = set s.views id (without_kid v) ++ kid_view v.unborn v ∷ [] }) h
split_keeps key s h id v kid at alive waits =
    subst (λ k. SameCore key s (record { words = s.words; homes = s.homes; views = set s.views id (without_kid v) ++ kid_view k v ∷ [] }) h) (sym waits)
    (split_core key s h id v at alive kid waits)

pub splits : (key : RunPlan) (id : ℕ) (v : View) (baby : Seat) → v.unborn ≡ Some baby → v.live ≡ true
    → Splits (Ruled key) id v (without_kid v) (kid_view v.unborn v)
splits key id v baby waits alive s h at =
    subst (λ k. Ruled key (record { words = s.words; homes = s.homes; views = set s.views id (without_kid v) ++ kid_view k v ∷ [] })) (sym waits)
    (split_rule key s h id v at alive baby waits)
