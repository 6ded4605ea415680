-- A pass with the turn at the roll's place: it gets tickets, or hands in what it has.
use Rattle.std.proofs.Common.{◌≡◌, ◌≢◌, ℕ, ◌+◌, ◌≤◌, Bool, true, false, ◌||◌, List, [], ◌∷◌, ◌++◌, map, set, length, refl, sym, ap}
use Rattle.std.proofs.Math.Dec.{eqb→eq}
use Rattle.std.proofs.Common.{◌∙◌, T, subst, arith, eq-eqb, ne_eqb, None}
use Rattle.std.specs.Prelude.{slice_index, nat_eq, if◌then◌else◌}
use mathlib.Core.Option.{none, some}
use lib.ListN.{get_elem?}
use Rattle.atomic_table.specs.Table as table
use Rattle.atomic_table.specs.Table.{Me, step, keeps, gives, stepped, Allows, rest}
use Rattle.atomic_table.proofs.Lists.{set_again}
use Rattle.schedule_core.specs.ByNumber.{shelf_at}
use Rattle.schedule_core.specs.Plain.{Reached}
use Rattle.task_roll.specs.declared.note.PartNote.{PartNote}
use Rattle.jade_meaning.specs.Plan.{RunPlan}
use Rattle.object_table.specs.Tallies.{TallyView, most, restocked, received, is_settled}
use Rattle.object_table.specs.Bags.{Mixed}
use Rattle.object_table.specs.Views.{count_of, word_of, View, shelf_of, part_of, core_notes, worth, gathered}
use Rattle.object_table.specs.Rule.{Ruled}
use Rattle.object_table.specs.Plays.{supplied, left_restocked, is_all_in, all_in, relieved, left_relieved, looked}
use Rattle.object_table.specs.Tries.{SameCore}
use Rattle.object_table.specs.steps.Kept.{Laws}
use Rattle.object_table.specs.declared.slot.Slot.{Slot}
use Rattle.object_table.specs.declared.slot.Slot.TheVariants as slot
use Rattle.object_table.proofs.Bags.{mixed_same}
use Rattle.object_table.proofs.Purses.{hand_kept, hand_out, worths_set, worth_within}
use Rattle.object_table.proofs.Lists.{at_word, every_with, owned_set}
use Rattle.object_table.proofs.Owners.{none_some}
use Rattle.object_table.proofs.Goes.{Goes, parts0, leaving}

is_zero : (x : ℕ) → nat_eq x 0 ≡ true → x ≡ 0
is_zero x e = eqb→eq x 0 (subst T (sym e) tt)

pub same_tally : (r q : TallyView) → slot.Roll r ≡ slot.Roll q → r ≡ q
same_tally r q e = cc

module _ (key : RunPlan) (s : table.State Slot View) (h : Ruled key s) (id : ℕ) (v : View) (at_v : get_elem? s.views id ≡ some v)
    (turn : v.turn ≡ true) (place : v.place ≡ count_of key) where
  abbrev n : ℕ
  n = count_of key

  -- what it found there
  pub roll_found : v.note ≡ slot.Roll h.tally
  roll_found =
      ((h.passes id v at_v).turn turn).found ∙ ap (parts0 n key s h id v at_v) place
      ∙ ap (λ c. if c then slot.Roll h.tally else slot.Object (shelf_of (shelf_at h.shelves n))) (eq-eqb n n refl)

  part_here : (r : TallyView) → slot.Roll r ≡ part_of n n r h.shelves
  part_here r = sym (ap (λ c. if c then slot.Roll r else slot.Object (shelf_of (shelf_at h.shelves n))) (eq-eqb n n refl))

  part_else : (r : TallyView) (p : ℕ) → p ≢ n → part_of n p h.tally h.shelves ≡ part_of n p r h.shelves
  part_else r p ne =
      ap (λ c. if c then slot.Roll h.tally else slot.Object (shelf_of (shelf_at h.shelves p))) (ne_eqb p n ne)
      ∙ sym (ap (λ c. if c then slot.Roll r else slot.Object (shelf_of (shelf_at h.shelves p))) (ne_eqb p n ne))

  -- a live pass gets tickets
  module _ (alive : v.live ≡ true) (r : TallyView) (found : v.note ≡ slot.Roll r) (room : (restocked r).due + length r.notes ≤ most) where
    is : r ≡ h.tally
    is = same_tally r h.tally (sym found ∙ roll_found)

    abbrev w : View
    w = supplied v

    abbrev tally2 : TallyView
    tally2 = restocked h.tally

    not_settled : h.tally.due ≡ 0 → ⊥
    not_settled e =
        let le = worth_within s.views id v at_v in
        let due = h.accounts.due in
        let some = (h.passes id v at_v).sits.fed alive in
        absurd (omega (arith, le, due, some, e))

    abbrev stocked : Goes n key s h id v at_v w
    stocked =
        let q = (h.passes id v at_v).sits in
        let more = worths_set s.views id v w at_v in
        let due = h.accounts.due in
        let fits = subst (λ (x : TallyView). (restocked x).due + length x.notes ≤ most) is room in
        record {
          count = h.count;
          owners = h.owners;
          seats = h.seats;
          shelves = h.shelves;
          tally = tally2;
          reached = subst (λ ns. Reached key.program key.numbers key.limit h.count (map h.seats h.owners) h.shelves (core_notes ns))
              (ap (λ ns. h.tally.notes ++ ns) (sym (hand_kept s.views id v w at_v refl))) h.reached;
          accounts = record { due = omega (arith, more, due); room = fits };
          settled = λ e. absurd (not_settled e);
          own_settled = λ e. absurd (not_settled (h.settled id v at_v e));
          plan = λ l. (h.passes id v at_v).plan alive;
          own = record {
            live = q.live;
            held = q.held;
            unborn = q.unborn;
            unheld = q.unheld;
            fed = λ l. let some = q.fed alive in omega (arith, some);
            feeds = λ k u. let some = q.feeds k u in omega (arith, some);
          };
          others = λ j z ne e. (h.passes j z e).sits;
          only = every_with _ _ (λ x o. owned_set s.views id x v w at_v refl refl o) h.owners h.only;
        }

    abbrev restock_on : (carried : List (ℕ × Slot)) (new : Slot) → carried ≡ (n, new) ∷ rest carried → new ≡ slot.Roll (restocked r)
        → Ruled key (stepped s (word_of n) 0 id carried w gives)
    restock_on carried new has made =
        leaving n key s h id v at_v w stocked n turn place carried new has refl (made ∙ ap (λ x. slot.Roll (restocked x)) is ∙ part_here tally2)
        (part_else tally2)

    -- the core is the same
    pub restock_keeps : (carried : List (ℕ × Slot)) (new : Slot) → carried ≡ (n, new) ∷ rest carried → new ≡ slot.Roll (restocked r)
        → SameCore key s (stepped s (word_of n) 0 id carried w gives) h
    restock_keeps carried new has made = record {
      after = restock_on carried new has made;
      count = refl;
      roll = refl;
      shelves = refl;
      notes = ap (λ ns. core_notes (h.tally.notes ++ ns)) (hand_kept s.views id v w at_v refl);
    }

  -- a pass whose task has ended hands in all that it has
  module _ (laws : Laws key) (over : v.live ≡ false) (born : v.unborn ≡ None) (r : TallyView) (found : v.note ≡ slot.Roll r) (last : Bool)
      (is_last : last ≡ is_settled (received (worth v) v.notes r)) where
    same_roll : r ≡ h.tally
    same_roll = same_tally r h.tally (sym found ∙ roll_found)

    abbrev w3 : View
    w3 = relieved last v

    abbrev tally3 : TallyView
    tally3 = received (worth v) v.notes h.tally

    abbrev told3 : List PartNote
    told3 = gathered tally3 (set s.views id w3)

    mixed : Mixed (gathered h.tally s.views) told3
    mixed = hand_out h.tally.notes s.views id v w3 at_v refl

    length_both : (xs ys : List PartNote) → length (xs ++ ys) ≡ length xs + length ys
    length_both [] ys = omega arith
    length_both (x ∷ xs) ys = let l = length_both xs ys in omega (arith, l)

    counted : worth v ≤ h.tally.due
    counted = let le = worth_within s.views id v at_v in let due = h.accounts.due in omega (arith, le, due)

    none_due : (a b : Bool) → (a ≡ true → h.tally.due ≡ 0) → (b ≡ true → tally3.due ≡ 0) → a || b ≡ true → tally3.due ≡ 0
    none_due true b f g e = let z = f refl in omega (arith, z)
    none_due false b f g e = g e

    abbrev handed : Goes n key s h id v at_v w3
    handed =
        let q = (h.passes id v at_v).sits in
        let less = worths_set s.views id v w3 at_v in
        let due = h.accounts.due in
        let room = h.accounts.room in
        let many = length_both h.tally.notes v.notes in
        let le = counted in
        record {
          count = h.count;
          owners = h.owners;
          seats = h.seats;
          shelves = h.shelves;
          tally = tally3;
          reached = subst (λ ns. Reached key.program key.numbers key.limit h.count (map h.seats h.owners) h.shelves ns)
              (mixed_same mixed (laws.few.each h.count (map h.seats h.owners) h.shelves (gathered h.tally s.views) h.reached)) h.reached;
          accounts = record { due = omega (arith, less, due, le); room = omega (arith, room, many, le) };
          settled = λ e. omega (arith, e);
          own_settled = none_due v.over last (λ e. h.settled id v at_v e)
              (λ e. is_zero tally3.due (ap is_settled (sym (ap (received (worth v) v.notes) same_roll)) ∙ sym is_last ∙ e));
          plan = λ l. absurd (let z : false ≡ true = sym over ∙ l in cc);
          own = record {
            live = λ l. absurd (let z : false ≡ true = sym over ∙ l in cc);
            held = λ l. absurd (let z : false ≡ true = sym over ∙ l in cc);
            unborn = λ k u. absurd (none_some k (sym born ∙ u));
            unheld = λ k u. absurd (none_some k (sym born ∙ u));
            fed = λ l. absurd (let z : false ≡ true = sym over ∙ l in cc);
            feeds = λ k u. absurd (none_some k (sym born ∙ u));
          };
          others = λ j z ne e. (h.passes j z e).sits;
          only = every_with _ _ (λ x o. owned_set s.views id x v w3 at_v refl refl o) h.owners h.only;
        }

    abbrev relieve_on : (carried : List (ℕ × Slot)) (new : Slot) → carried ≡ (n, new) ∷ rest carried → new ≡ slot.Roll (received (worth v) v.notes r)
        → Ruled key (stepped s (word_of n) 0 id carried w3 gives)
    relieve_on carried new has made =
        leaving n key s h id v at_v w3 handed n turn place carried new has refl
        (made ∙ ap (λ x. slot.Roll (received (worth v) v.notes x)) same_roll ∙ part_here tally3) (part_else tally3)

    -- the core is the same
    pub relieve_keeps : (carried : List (ℕ × Slot)) (new : Slot) → carried ≡ (n, new) ∷ rest carried → new ≡ slot.Roll (received (worth v) v.notes r)
        → SameCore key s (stepped s (word_of n) 0 id carried w3 gives) h
    relieve_keeps carried new has made = record {
      after = relieve_on carried new has made;
      count = refl;
      roll = refl;
      shelves = refl;
      notes = sym (mixed_same mixed (laws.few.each h.count (map h.seats h.owners) h.shelves (gathered h.tally s.views) h.reached));
    }

-- a turn at the roll left with more tickets
pub restocking : (key : RunPlan) (slots id : ℕ) (me : Me Slot View) (new : Slot) → me.0.live ≡ true → me.0.turn ≡ true → me.0.place ≡ count_of key
    → me.1 ≡ (count_of key, new) ∷ rest me.1 → (r : TallyView) → me.0.note ≡ slot.Roll r → (restocked r).due + length r.notes ≤ most
    → new ≡ slot.Roll (restocked r)
    → Allows (Ruled key) slots id me (word_of (count_of key)) (λ x. 0) (λ x. left_restocked (step slots (word_of (count_of key)) 0 0 none) me 0)
restocking key slots id me new alive turn place has r found room made s h _ at _ =
    (supplied me.0, gives, tt, restock_on key s h id me.0 at turn place alive r found room me.1 new has made, refl)

-- a turn at the roll left with all handed in
pub relieving : (key : RunPlan) → Laws key → (slots id : ℕ) (me : Me Slot View) (new : Slot) → me.0.live ≡ false → me.0.unborn ≡ None → me.0.turn ≡ true
    → me.0.place ≡ count_of key → me.1 ≡ (count_of key, new) ∷ rest me.1 → (r : TallyView) → me.0.note ≡ slot.Roll r
    → new ≡ slot.Roll (received (worth me.0) me.0.notes r)
    → Allows (Ruled key) slots id me (word_of (count_of key)) (λ x. 0) (λ x. left_relieved (step slots (word_of (count_of key)) 0 0 none) me 0)
relieving key laws slots id me new over born turn place has r found made s h _ at _ =
    let last = all_in me.1 in
    let is_last : last ≡ is_settled (received (worth me.0) me.0.notes r) = ap all_in has ∙ ap is_all_in made in
    (relieved last me.0, gives, tt, relieve_on key s h id me.0 at turn place laws over born r found last is_last me.1 new has made, refl)

set_self : (views : List View) (id : ℕ) (v : View) → get_elem? views id ≡ some v → set views id v ≡ views
set_self views id v at = set_again views id v at

-- a load of the first word, at which a pass is told that there is room for what it has
pub looking : (key : RunPlan) (slots id : ℕ) (me : Me Slot View) → Allows (Ruled key) slots id me 0 (λ x. x) (looked (step slots 0 0 0 none) me)
looking key slots id me s h _ at _ =
    let wide = h.wide in
    let le = worth_within s.views id me.0 at in
    let due = h.accounts.due in
    let room = h.accounts.room in
    let first : s.words ≡ set s.words 0 (slice_index s.words 0) = sym (set_again s.words 0 (slice_index s.words 0) (at_word s.words 0 (omega arith))) in (
      me.0,
      keeps,
      tt,
      subst (λ ws. Ruled key (record { words = ws; homes = s.homes; views = set s.views id me.0 })) first
          (subst (λ l. Ruled key (record { words = s.words; homes = s.homes; views = l })) (sym (set_self s.views id me.0 at)) h),
      (refl, omega (arith, le, due, room)),
    )
