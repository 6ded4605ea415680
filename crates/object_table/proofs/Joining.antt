-- A pass whose task has ended is taken into another one.
use Rattle.std.proofs.Common.{◌≡◌, ◌≢◌, ◌⊎◌, inl, inr, ℕ, ◌+◌, Bool, true, false, ◌||◌, List, [], ◌∷◌, ◌++◌, map, set, length, refl, sym, ap, ◌∙◌}
use Rattle.std.proofs.Common.{subst, arith, Some}
use mathlib.Core.Option.{some, some-injective}
use lib.ListN.{get_elem?}
use Rattle.atomic_table.specs.Table as table
use Rattle.atomic_table.specs.Table.{Joins}
use Rattle.atomic_table.proofs.Lists.{at_set, set_else}
use Rattle.schedule_core.specs.declared.steps.Seat.{Seat}
use Rattle.schedule_core.specs.Plain.{Reached}
use Rattle.task_roll.specs.declared.note.PartNote.{PartNote}
use Rattle.jade_meaning.specs.Plan.{RunPlan}
use Rattle.object_table.specs.Views.{count_of, View, part_of, core_notes, worth, gathered}
use Rattle.object_table.specs.Rule.{Owned, by_pass, by_maker, Accounts, PlaceOk, free, taken, SeatOk, Ruled}
use Rattle.object_table.specs.Plays.{joined, spent_view}
use Rattle.object_table.specs.Calls.{IsGone}
use Rattle.object_table.specs.Tries.{SameCore}
use Rattle.object_table.specs.steps.Kept.{Laws}
use Rattle.object_table.specs.declared.slot.Slot.{Slot}
use Rattle.object_table.proofs.Bags.{mixed_same, mixed_front}
use Rattle.object_table.proofs.Purses.{hand_joined, worths_joined}
use Rattle.object_table.proofs.Lists.{every_with}
use Rattle.object_table.proofs.Owners.{none_some}

one_of : (a b : Bool) → a || b ≡ true → (a ≡ true) ⊎ (b ≡ true)
one_of true b e = inl refl
one_of false b e = inr e

module _ (key : RunPlan) (s : table.State Slot View) (h : Ruled key s) (id other : ℕ) (v w : View) (at : get_elem? s.views id ≡ some v)
    (there : get_elem? s.views other ≡ some w) (v_gone : IsGone v) (w_gone : IsGone w)
    (v_idle : v.turn ≡ false) (w_idle : w.turn ≡ false) (apart : other ≡ id → ⊥) (laws : Laws key) where
  abbrev n : ℕ
  n = count_of key

  abbrev both : View
  both = joined v w

  abbrev views2 : List View
  views2 = set (set s.views id both) other spent_view

  abbrev parts : ℕ → Slot
  parts o = part_of n o h.tally h.shelves

  -- the one has what both had
  same_notes : core_notes (gathered h.tally s.views) ≡ core_notes (gathered h.tally views2)
  same_notes = mixed_same (mixed_front h.tally.notes (hand_joined s.views id other v w both spent_view at apart there refl refl))
      (laws.few.each h.count (map h.seats h.owners) h.shelves (gathered h.tally s.views) h.reached)

  length_both : (xs ys : List PartNote) → length (xs ++ ys) ≡ length xs + length ys
  length_both [] ys = omega arith
  length_both (x ∷ xs) ys = let l = length_both xs ys in omega (arith, l)

  worth_both : worth both ≡ worth v + worth w
  worth_both = let l = length_both v.notes w.notes in omega (arith, l)

  same_accounts : Accounts h.tally views2
  same_accounts = record {
    due = h.accounts.due ∙ sym (worths_joined s.views id other v w both spent_view at apart there worth_both refl);
    room = h.accounts.room;
  }

  abbrev Ok : ℕ → View → Type 0
  Ok j z = SeatOk n s.words h.owners h.seats h.holder h.shelves parts key j z

  both_ok : Ok id both
  both_ok =
      let q = h.passes id v at in
      let r = h.passes other w there in
      record {
        plan = q.plan;
        sits = record {
          live = q.sits.live;
          held = q.sits.held;
          unborn = q.sits.unborn;
          unheld = q.sits.unheld;
          fed = λ l. absurd (let no : false ≡ true = sym v_gone.live ∙ l in cc);
          feeds = λ k u. absurd (none_some k (sym v_gone.born ∙ u));
        };
        turn = λ e. let t = q.turn e in record { inside = t.inside; word = t.word; holds = t.holds; found = t.found };
        busy = λ e. absurd (let no : false ≡ true = sym v_idle ∙ e in cc);
      }

  spent_ok : (j : ℕ) → Ok j spent_view
  spent_ok j = record {
    plan = λ e. absurd (cc);
    sits = record {
      live = λ e. absurd (cc);
      held = λ e. absurd (cc);
      unborn = λ k e. absurd (none_some k e);
      unheld = λ k e. absurd (none_some k e);
      fed = λ e. absurd (cc);
      feeds = λ k e. absurd (none_some k e);
    };
    turn = λ e. absurd (cc);
    busy = λ e. absurd (cc);
  }

  seat : (j : ℕ) (z : View) → get_elem? views2 j ≡ some z → Ok j z
  seat j z e = outer (at_set (set s.views id both) other j spent_view z e)
    where
      inner : ((j ≡ id) × (both ≡ z)) ⊎ ((j ≢ id) × (get_elem? s.views j ≡ some z)) → Ok j z
      inner (inl x) = subst (λ (p : ℕ × View). Ok p.0 p.1) (λ i. (sym x.0 i, x.1 i)) both_ok
      inner (inr x) = h.passes j z x.1

      outer : ((j ≡ other) × (spent_view ≡ z)) ⊎ ((j ≢ other) × (get_elem? (set s.views id both) j ≡ some z)) → Ok j z
      outer (inl x) = subst (λ (y : View). Ok j y) x.1 (spent_ok j)
      outer (inr x) = inner (at_set s.views id j both z x.1)

  -- a pass with a turn, with a live task, or with a child to come is neither of the two
  abbrev Busy : View → Type 0
  Busy z = (z.live ≡ true) ⊎ (((k : Seat) × (z.unborn ≡ Some k)) ⊎ (z.turn ≡ true))

  differs : (x : View) → IsGone x → x.turn ≡ false → (i : ℕ) → get_elem? s.views i ≡ some x → (j : ℕ) (z : View) → get_elem? s.views j ≡ some z
      → Busy z → j ≢ i
  differs x gone idle i at_i j z e k same = by k (some-injective x z (sym at_i ∙ subst (λ q. get_elem? s.views q ≡ some z) same e))
    where
      by : Busy z → x ≡ z → ⊥
      by (inl l) q = absurd (let a : false ≡ true = sym gone.live ∙ ap (λ (y : View). y.live) q ∙ l in cc)
      by (inr (inl u)) q = none_some u.0 (sym gone.born ∙ ap (λ (y : View). y.unborn) q ∙ u.1)
      by (inr (inr t)) q = absurd (let a : false ≡ true = sym idle ∙ ap (λ (y : View). y.turn) q ∙ t in cc)

  stays : (j : ℕ) (z : View) → get_elem? s.views j ≡ some z → Busy z → get_elem? views2 j ≡ some z
  stays j z e k =
      set_else (set s.views id both) other j spent_view (differs w w_gone w_idle other there j z e k)
      ∙ set_else s.views id j both (differs v v_gone v_idle id at j z e k) ∙ e

  owned : (x : ℕ) → Owned s.views x → Owned views2 x
  owned x (by_pass j z e live is) = by_pass j z (stays j z e (inl live)) live is
  owned x (by_maker j z kid e unborn is) = by_maker j z kid (stays j z e (inr (inl (kid, unborn)))) unborn is

  place : (p : ℕ) → PlaceOk n s h.holder parts p → PlaceOk n (record { words = s.words; homes = s.homes; views = views2 }) h.holder parts p
  place p (free y w0 home is) = free y w0 home is
  place p (taken z w1 e t l) = taken z w1 (stays (h.holder p) z e (inr (inr t))) t l

  settled : (j : ℕ) (z : View) → get_elem? views2 j ≡ some z → z.over ≡ true → h.tally.due ≡ 0
  settled j z e over = outer (at_set (set s.views id both) other j spent_view z e)
    where
      one : (v.over ≡ true) ⊎ (w.over ≡ true) → h.tally.due ≡ 0
      one (inl o) = h.settled id v at o
      one (inr o) = h.settled other w there o

      inner : ((j ≡ id) × (both ≡ z)) ⊎ ((j ≢ id) × (get_elem? s.views j ≡ some z)) → h.tally.due ≡ 0
      inner (inl x) = one (one_of v.over w.over (ap (λ (y : View). y.over) x.1 ∙ over))
      inner (inr x) = h.settled j z x.1 over

      outer : ((j ≡ other) × (spent_view ≡ z)) ⊎ ((j ≢ other) × (get_elem? (set s.views id both) j ≡ some z)) → h.tally.due ≡ 0
      outer (inl x) = absurd (let no : false ≡ true = ap (λ (y : View). y.over) x.1 ∙ over in cc)
      outer (inr x) = inner (at_set s.views id j both z x.1)

  abbrev join_rule : Ruled key (record { words = s.words; homes = s.homes; views = views2 })
  join_rule = record {
    count = h.count;
    owners = h.owners;
    seats = h.seats;
    shelves = h.shelves;
    tally = h.tally;
    holder = h.holder;
    reached = subst (λ ns. Reached key.program key.numbers key.limit h.count (map h.seats h.owners) h.shelves ns) same_notes h.reached;
    accounts = same_accounts;
    settled = settled;
    wide = h.wide;
    deep = h.deep;
    passes = seat;
    only = every_with (Owned s.views) (Owned views2) owned h.owners h.only;
    places = λ p lt. place p (h.places p lt);
  }

  -- the core is the same
  pub join_keeps : SameCore key s (record { words = s.words; homes = s.homes; views = views2 }) h
  join_keeps = record { after = join_rule; count = refl; roll = refl; shelves = refl; notes = sym same_notes }

pub joins : (key : RunPlan) → Laws key → (id other : ℕ) (v w : View) → IsGone v → IsGone w → v.turn ≡ false → w.turn ≡ false
    → Joins (Ruled key) id v other w (joined v w) spent_view
joins key laws id other v w v_gone w_gone v_idle w_idle s h at apart there =
    join_rule key s h id other v w at (sym (set_else s.views id other (joined v w) apart) ∙ there) v_gone w_gone v_idle w_idle apart laws
