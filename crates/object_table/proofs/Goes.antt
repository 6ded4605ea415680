-- The core goes on under a pass's new view, and the rule is kept: where no word changes, where a turn is taken, and where it is left.
use Rattle.std.proofs.Common.{◌≡◌, ◌≢◌, ◌⊎◌, inl, inr, ℕ, suc, ◌+◌, ◌<◌, Bool, true, false, eqb, List, ◌∷◌, ◌++◌}
use Rattle.std.proofs.Common.{set, map, length, refl, sym, ap, ◌∙◌, subst, arith, eq-eqb, ne_eqb, length-set, get_or-set_same}
use Rattle.std.specs.Prelude.{slice_index, if◌then◌else◌}
use mathlib.Core.Logic.{dite}
use mathlib.Core.Option.{none, some}
use native.Mathlib.Decide.{ℕ_discrete}
use lib.ListN.{get_elem?}
use prog.Atomic.{either}
use Rattle.atomic_table.specs.Table as table
use Rattle.atomic_table.specs.Table.{Me, step, keeps, takes, gives, stepped, Allows, put_back, rest}
use Rattle.atomic_table.proofs.Lists.{at_set, set_here, set_else, set_again}
use Rattle.jade_meaning.specs.Laws.{Every}
use Rattle.object_shelf.specs.Views.{ObjectView}
use Rattle.schedule_core.specs.declared.steps.Seat.{Seat}
use Rattle.schedule_core.specs.ByNumber.{shelf_at}
use Rattle.schedule_core.specs.Plain.{Reached}
use Rattle.jade_meaning.specs.Plan.{RunPlan}
use Rattle.object_table.specs.Tallies.{TallyView}
use Rattle.object_table.specs.Views.{count_of, word_of, View, shelf_of, part_of, core_notes, worth, gathered}
use Rattle.object_table.specs.Rule.{pass_of, Owned, Sits, Accounts, TurnOk, PlaceOk, free, taken, SeatOk, Shown, Ruled}
use Rattle.object_table.specs.Plays.{Told, ToldRoll, tried_at, in_turn, tried_there, tried, turned_off}
use Rattle.object_table.specs.declared.slot.Slot.{Slot}
use Rattle.object_table.specs.declared.slot.Slot.TheVariants as slot
use Rattle.object_table.proofs.Purses.{hand_kept, worths_kept, worth_within}
use Rattle.object_table.proofs.Lists.{word_else, at_word, put, put_same, put_other, roll_split, at_inside, same_view, owned_set, every_with}

-- places that differ have words that differ
pub same_place : (o p : ℕ) → word_of o ≡ word_of p → o ≡ p
same_place o p e = omega (arith, e)

pub apart_words : (p o : ℕ) → p ≢ o → word_of p ≢ word_of o
apart_words p o ne e = ne (same_place p o e)

-- a pass has the same of what may still come, under another view
pub record SamePurse (v w : View) : Type 0 where
  pub tickets : w.tickets ≡ v.tickets
  pub notes : w.notes ≡ v.notes
  pub over : w.over ≡ v.over

pub same_worth : (v w : View) → SamePurse v w → worth w ≡ worth v
same_worth v w p = λ i. p.tickets i + length (p.notes i)

-- a pass's turn is the same under another view
pub record Still (v w : View) : Type 0 where
  pub turn : w.turn ≡ v.turn
  pub place : v.turn ≡ true → w.place ≡ v.place
  pub note : v.turn ≡ true → w.note ≡ v.note

module _ (n : ℕ) (key : RunPlan) (s : table.State Slot View) (h : Shown n key s) (id : ℕ) (v : View) (at_v : get_elem? s.views id ≡ some v) where
  abbrev pub parts0 : ℕ → Slot
  parts0 o = part_of n o h.tally h.shelves

  -- seats, objects and notes that events reach, under a new view of this pass
  pub record Goes (w : View) : Type 0 where
    pub count : ℕ
    pub owners : List ℕ
    pub seats : ℕ → Seat
    pub shelves : List ObjectView
    pub tally : TallyView
    pub reached : Reached key.program key.numbers key.limit count (map seats owners) shelves (core_notes (gathered tally (set s.views id w)))
    pub accounts : Accounts tally (set s.views id w)
    pub settled : h.tally.due ≡ 0 → tally.due ≡ 0
    pub own_settled : w.over ≡ true → tally.due ≡ 0
    pub plan : w.live ≡ true → w.key ≡ key
    pub own : Sits owners seats shelves id w
    pub others : (j : ℕ) (z : View) → j ≢ id → get_elem? s.views j ≡ some z → Sits owners seats shelves j z
    pub only : Every (Owned (set s.views id w)) owners

  abbrev pub mine : SeatOk n s.words h.owners h.seats h.holder h.shelves parts0 key id v
  mine = h.passes id v at_v

  -- where the pass has the same, all notes and all accounts are the same
  module _ (w : View) (purse : SamePurse v w) where
    pub same_gathered : gathered h.tally (set s.views id w) ≡ gathered h.tally s.views
    same_gathered = ap (λ ns. h.tally.notes ++ ns) (hand_kept s.views id v w at_v purse.notes)

    pub same_accounts : Accounts h.tally (set s.views id w)
    same_accounts = record { due = h.accounts.due ∙ sym (worths_kept s.views id v w at_v (same_worth v w purse)); room = h.accounts.room }

    pub same_settled : w.over ≡ true → h.tally.due ≡ 0
    same_settled e = h.settled id v at_v (sym purse.over ∙ e)

    pub same_pays : v.turn ≡ true → 0 < worth w
    same_pays t = subst (λ k. 0 < k) (sym (same_worth v w purse)) (mine.busy t)

  -- nothing is done
  abbrev pub stays : (w : View) → (w.live ≡ true → w.key ≡ key) → w.live ≡ v.live → w.unborn ≡ v.unborn → SamePurse v w
      → Sits h.owners h.seats h.shelves id w → Goes w
  stays w plan l u purse sits = record {
    count = h.count;
    owners = h.owners;
    seats = h.seats;
    shelves = h.shelves;
    tally = h.tally;
    reached = subst (λ ns. Reached key.program key.numbers key.limit h.count (map h.seats h.owners) h.shelves (core_notes ns))
        (sym (same_gathered w purse)) h.reached;
    accounts = same_accounts w purse;
    settled = λ e. e;
    own_settled = same_settled w purse;
    plan = plan;
    own = sits;
    others = λ j z ne e. (h.passes j z e).sits;
    only = every_with (Owned s.views) (Owned (set s.views id w)) (λ x q. owned_set s.views id x v w at_v l u q) h.owners h.only;
  }

  module _ (w : View) (g : Goes w) where
    abbrev pub parts1 : ℕ → Slot
    parts1 o = part_of n o g.tally g.shelves

    pub now_settled : (j : ℕ) (z : View) → get_elem? (set s.views id w) j ≡ some z → z.over ≡ true → g.tally.due ≡ 0
    now_settled j z e over = go (at_set s.views id j w z e)
      where
        go : ((j ≡ id) × (w ≡ z)) ⊎ ((j ≢ id) × (get_elem? s.views j ≡ some z)) → g.tally.due ≡ 0
        go (inl x) = g.own_settled (ap (λ (y : View). y.over) x.1 ∙ over)
        go (inr x) = g.settled (h.settled j z x.1 over)

    module _ (same : (p : ℕ) → parts0 p ≡ parts1 p) (still : Still v w) (pays : v.turn ≡ true → 0 < worth w) where
      abbrev after : table.State Slot View
      after = record { words = s.words; homes = s.homes; views = set s.views id w }

      turn_on : (j : ℕ) (z : View) → TurnOk n s.words h.holder parts0 j z → TurnOk n s.words h.holder parts1 j z
      turn_on j z t = record { inside = t.inside; word = t.word; holds = t.holds; found = t.found ∙ same z.place }

      own_turn : w.turn ≡ true → TurnOk n s.words h.holder parts1 id w
      own_turn e =
          let had : v.turn ≡ true = sym still.turn ∙ e in
          let t = mine.turn had in
          let place = still.place had in
          record {
            inside = subst (λ p. p < suc n) (sym place) t.inside;
            word = ap (λ p. slice_index s.words (word_of p)) place ∙ t.word;
            holds = ap h.holder place ∙ t.holds;
            found = still.note had ∙ t.found ∙ ap parts0 (sym place) ∙ same w.place;
          }

      pub renewed_seat : (j : ℕ) (z : View) → get_elem? after.views j ≡ some z → SeatOk n s.words g.owners g.seats h.holder g.shelves parts1 key j z
      renewed_seat j z e = go (at_set s.views id j w z e)
        where
          go : ((j ≡ id) × (w ≡ z)) ⊎ ((j ≢ id) × (get_elem? s.views j ≡ some z)) → SeatOk n s.words g.owners g.seats h.holder g.shelves parts1 key j z
          go (inl x) =
              subst (λ (q : ℕ × View). SeatOk n s.words g.owners g.seats h.holder g.shelves parts1 key q.0 q.1) (λ i. (sym x.0 i, x.1 i))
              (record { plan = g.plan; sits = g.own; turn = own_turn; busy = λ e. pays (sym still.turn ∙ e) })
          go (inr x) = let q = h.passes j z x.1 in record { plan = q.plan; sits = g.others j z x.0 x.1; turn = λ e. turn_on j z (q.turn e); busy = q.busy }

      pub renewed_place : (p : ℕ) → PlaceOk n s h.holder parts0 p → PlaceOk n after h.holder parts1 p
      renewed_place p (free y w0 e q) = free y w0 e (q ∙ same p)
      renewed_place p (taken z w1 e t l) = dite (ℕ_discrete (h.holder p) id)
          (λ eq.
          let q : v ≡ z = same_view s.views id (h.holder p) v z at_v e eq in
          let had : v.turn ≡ true = ap (λ (k : View). k.turn) q ∙ t in
          taken w w1 (subst (λ i. get_elem? after.views i ≡ some w) (sym eq) (set_here s.views id w (at_inside s.views id v at_v))) (still.turn
          ∙ had) (still.place had ∙ ap (λ (k : View). k.place) q ∙ l))
          (λ ne. taken z w1 (set_else s.views id (h.holder p) w ne ∙ e) t l)

      abbrev pub renewed : Shown n key after
      renewed = record {
        count = g.count;
        owners = g.owners;
        seats = g.seats;
        shelves = g.shelves;
        tally = g.tally;
        holder = h.holder;
        reached = g.reached;
        accounts = g.accounts;
        settled = now_settled;
        wide = h.wide;
        deep = h.deep;
        passes = renewed_seat;
        only = g.only;
        places = λ p lt. renewed_place p (h.places p lt);
      }

    module _ (o : ℕ) (turn : v.turn ≡ true) (place : v.place ≡ o) (carried : List (ℕ × Slot)) (new : Slot) (has : carried
        ≡ (o, new) ∷ rest carried) (off : w.turn ≡ false) (here : new ≡ parts1 o) (parts : (p : ℕ) → p ≢ o → parts0 p ≡ parts1 p) where
      abbrev back : table.State Slot View
      back = stepped s (word_of o) 0 id carried w gives

      my_turn : TurnOk n s.words h.holder parts0 id v
      my_turn = mine.turn turn

      inside : o < suc n
      inside = subst (λ p. p < suc n) place my_turn.inside

      my_word : h.holder o ≡ id
      my_word = ap h.holder (sym place) ∙ my_turn.holds

      pub homes_are : put_back s.homes carried ≡ set s.homes o (some new)
      homes_are = ap (put_back s.homes) has

      pub leaving_seat : (j : ℕ) (z : View) → get_elem? back.views j ≡ some z → SeatOk n back.words g.owners g.seats h.holder g.shelves parts1 key j z
      leaving_seat j z e = go (at_set s.views id j w z e)
        where
          old : j ≢ id → TurnOk n s.words h.holder parts0 j z → TurnOk n back.words h.holder parts1 j z
          old other t =
              let ne : z.place ≢ o = λ e. absurd (other (sym t.holds ∙ ap h.holder e ∙ my_word)) in
              record {
                inside = t.inside;
                word = word_else s.words (word_of o) (word_of z.place) 0 (apart_words z.place o ne) ∙ t.word;
                holds = t.holds;
                found = t.found ∙ parts z.place ne;
              }

          go : ((j ≡ id) × (w ≡ z)) ⊎ ((j ≢ id) × (get_elem? s.views j ≡ some z)) → SeatOk n back.words g.owners g.seats h.holder g.shelves parts1 key j z
          go (inl x) =
              subst (λ (q : ℕ × View). SeatOk n back.words g.owners g.seats h.holder g.shelves parts1 key q.0 q.1) (λ i. (sym x.0 i, x.1 i))
              (record {
                plan = g.plan;
                sits = g.own;
                turn = λ e. absurd (let r : false ≡ true = sym off ∙ e in cc);
                busy =
                    λ e. absurd (let r : false ≡ true = sym off ∙ e in cc);
              })
          go (inr x) = let q = h.passes j z x.1 in record { plan = q.plan; sits = g.others j z x.0 x.1; turn = λ e. old x.0 (q.turn e); busy = q.busy }

      pub leaving_place : (p : ℕ) → p < suc n → PlaceOk n back h.holder parts1 p
      leaving_place p lt = dite (ℕ_discrete p o) (λ e. subst (λ q. PlaceOk n back h.holder parts1 q) (sym e) mine_now) (λ ne. other ne (h.places p lt))
        where
          mine_now : PlaceOk n back h.holder parts1 o
          mine_now =
              let wide = h.wide in
              let deep = h.deep in
              let lt = inside in
              free new (get_or-set_same s.words (word_of o) 0 0 (omega arith)) (ap (λ (hs : List _). get_elem? hs o) homes_are
              ∙ set_here s.homes o (some new) (omega arith)) here

          other : p ≢ o → PlaceOk n s h.holder parts0 p → PlaceOk n back h.holder parts1 p
          other ne (free z w0 e q) = free z (word_else s.words (word_of o) (word_of p) 0 (apart_words p o ne) ∙ w0)
              (ap (λ (hs : List _). get_elem? hs p) homes_are
              ∙ set_else s.homes o p (some new) ne ∙ e) (q ∙ parts p ne)
          other ne (taken z w1 e t l) =
              let apart : h.holder p ≢ id = λ same. absurd (let q : v ≡ z = same_view s.views id (h.holder p) v z at_v e same in
              ne (sym l ∙ sym (ap (λ (k : View). k.place) q) ∙ place)) in
              taken z (word_else s.words (word_of o) (word_of p) 0 (apart_words p o ne) ∙ w1) (set_else s.views id (h.holder p) w apart ∙ e) t l

      abbrev pub leaving : Shown n key back
      leaving = record {
        count = g.count;
        owners = g.owners;
        seats = g.seats;
        shelves = g.shelves;
        tally = g.tally;
        holder = h.holder;
        reached = g.reached;
        accounts = g.accounts;
        settled = now_settled;
        wide = length-set s.words (word_of o) 0 ∙ h.wide;
        deep = ap length homes_are ∙ length-set s.homes o (some new) ∙ h.deep;
        passes = leaving_seat;
        only = g.only;
        places = leaving_place;
      }

  -- a turn is taken
  module _ (o : ℕ) (room : o < suc n) (idle : v.turn ≡ false) (worthy : 0 < worth v) (y : Slot) (w0 : slice_index s.words (word_of o) ≡ 0) (is : y
      ≡ parts0 o) (carried : List (ℕ × Slot)) where
    abbrev having : View
    having = in_turn o y v

    abbrev next : table.State Slot View
    next = stepped s (word_of o) 1 id carried having (takes o y)

    pub purse : SamePurse v having
    purse = record { tickets = refl; notes = refl; over = refl }

    pub taking_seat : (j : ℕ) (z : View) → get_elem? next.views j ≡ some z → SeatOk n next.words h.owners h.seats (put h.holder o id) h.shelves parts0 key j z
    taking_seat j z e = go (at_set s.views id j having z e)
      where
        old : TurnOk n s.words h.holder parts0 j z → TurnOk n next.words (put h.holder o id) parts0 j z
        old t =
            let ne : z.place ≢ o = λ e. absurd (let a = t.word in
            let b : slice_index s.words (word_of z.place) ≡ 0 = subst (λ i. slice_index s.words (word_of i) ≡ 0) (sym e) w0 in
            omega arith) in
            record {
              inside = t.inside;
              word = word_else s.words (word_of o) (word_of z.place) 1 (apart_words z.place o ne) ∙ t.word;
              holds = put_other h.holder o id z.place ne ∙ t.holds;
              found =
                  t.found;
            }

        go : ((j ≡ id) × (having ≡ z)) ⊎ ((j ≢ id) × (get_elem? s.views j ≡ some z))
            → SeatOk n next.words h.owners h.seats (put h.holder o id) h.shelves parts0 key j z
        go (inl x) =
            let k = mine.sits in
            let wide = h.wide in
            subst (λ (q : ℕ × View). SeatOk n next.words h.owners h.seats (put h.holder o id) h.shelves parts0 key q.0 q.1) (λ i. (sym x.0 i, x.1 i)) (record {
              plan = mine.plan;
              sits = record { live = k.live; held = k.held; unborn = k.unborn; unheld = k.unheld; fed = k.fed; feeds = k.feeds };
              turn = λ e. record { inside = room; word = get_or-set_same s.words (word_of o) 1 0 (omega arith); holds = put_same h.holder o id; found = is };
              busy = λ e. worthy;
            })
        go (inr x) = let q = h.passes j z x.1 in record { plan = q.plan; sits = q.sits; turn = λ e. old (q.turn e); busy = q.busy }

    pub taking_place : (p : ℕ) → p < suc n → PlaceOk n next (put h.holder o id) parts0 p
    taking_place p lt = dite (ℕ_discrete p o) (λ e. subst (λ q. PlaceOk n next (put h.holder o id) parts0 q) (sym e) here) (λ ne. other ne (h.places p lt))
      where
        here : PlaceOk n next (put h.holder o id) parts0 o
        here =
            let wide = h.wide in
            taken having (get_or-set_same s.words (word_of o) 1 0 (omega arith)) (subst (λ i. get_elem? next.views i
            ≡ some having) (sym (put_same h.holder o id)) (set_here s.views id having (at_inside s.views id v at_v))) refl refl

        other : p ≢ o → PlaceOk n s h.holder parts0 p → PlaceOk n next (put h.holder o id) parts0 p
        other ne (free z w1 e q) = free z (word_else s.words (word_of o) (word_of p) 1 (apart_words p o ne) ∙ w1) (set_else s.homes o p none ne ∙ e) q
        other ne (taken z w1 e t l) =
            let apart : h.holder p ≢ id = λ same. absurd (let q : v ≡ z = same_view s.views id (h.holder p) v z at_v e same in let r : false ≡ true = sym idle
            ∙ ap (λ (k : View). k.turn) q ∙ t in cc) in
            taken z (word_else s.words (word_of o) (word_of p) 1 (apart_words p o ne) ∙ w1) (subst (λ i. get_elem? next.views i
            ≡ some z) (sym (put_other h.holder o id p ne)) (set_else s.views id (h.holder p) having apart ∙ e)) t l

    pub settled_at : (j : ℕ) (z : View) → z.over ≡ true → ((j ≡ id) × (having ≡ z)) ⊎ ((j ≢ id) × (get_elem? s.views j ≡ some z)) → h.tally.due ≡ 0
    settled_at j z over (inl x) = h.settled id v at_v (ap (λ (y : View). y.over) x.1 ∙ over)
    settled_at j z over (inr x) = h.settled j z x.1 over

    abbrev pub taking : Shown n key next
    taking = record {
      count = h.count;
      owners = h.owners;
      seats = h.seats;
      shelves = h.shelves;
      tally = h.tally;
      holder = put h.holder o id;
      reached = subst (λ ns. Reached key.program key.numbers key.limit h.count (map h.seats h.owners) h.shelves (core_notes ns))
          (sym (same_gathered having purse)) h.reached;
      accounts = same_accounts having purse;
      settled = λ j z e over. settled_at j z over (at_set s.views id j having z e);
      wide = length-set s.words (word_of o) 1 ∙ h.wide;
      deep = length-set s.homes o none ∙ h.deep;
      passes = taking_seat;
      only = every_with (Owned s.views) (Owned next.views) (λ x q. owned_set s.views id x v having at_v refl refl q) h.owners h.only;
      places = taking_place;
    }

    -- what the pass is told of what it found
    pub tells : (alive : v.live ≡ true) (slots : ℕ) → slots ≡ suc n → Told slots v o y
    tells alive slots sized =
        let there = mine.sits.live alive in
        let roll : map h.seats h.owners ≡ map h.seats there.spot.front ++ (v.seat ∷ map h.seats there.spot.back) =
        ap (map h.seats) there.spot.is ∙ roll_split h.seats (pass_of id) there.spot.front there.spot.back
        ∙ ap (λ x. map h.seats there.spot.front ++ (x ∷ map h.seats there.spot.back)) there.is in
        let all = gathered h.tally s.views in
        record {
          objects = n;
          sized = sized;
          count = h.count;
          front = map h.seats there.spot.front;
          back = map h.seats there.spot.back;
          shelves = h.shelves;
          notes = all;
          tally = h.tally;
          reached = subst (λ (k : RunPlan). Reached k.program k.numbers k.limit h.count (map h.seats there.spot.front ++ (v.seat ∷ map h.seats there.spot.back))
              h.shelves (core_notes all)) (sym (mine.plan alive))
              (subst (λ r. Reached key.program key.numbers key.limit h.count r h.shelves (core_notes all)) roll h.reached);
          agrees = mine.sits.held alive;
          shows = is;
        }

    pub tells_roll : o ≡ n → ToldRoll v y
    tells_roll e = record {
      tally = h.tally;
      shows = is ∙ ap (λ c. if c then slot.Roll h.tally else slot.Object (shelf_of (shelf_at h.shelves o))) (eq-eqb o n e);
      counts = let le = worth_within s.views id v at_v in let due = h.accounts.due in omega (arith, le, due);
      room = h.accounts.room;
    }

  -- another has the turn
  module _ (o : ℕ) (idle : v.turn ≡ false) (room : o < suc n) (x : ℕ) (is : x ≡ slice_index s.words (word_of o)) (carried : List (ℕ × Slot)) where
    abbrev missing : View
    missing = tried_at o 1 v

    pub missed : Shown n key (stepped s (word_of o) x id carried missing keeps)
    missed =
        let k = mine.sits in
        let wide = h.wide in
        let purse : SamePurse v missing = record { tickets = refl; notes = refl; over = refl } in
        let g : Goes missing = stays missing mine.plan refl refl purse (record {
          live = k.live;
          held = k.held;
          unborn = k.unborn;
          unheld = k.unheld;
          fed = k.fed;
          feeds = k.feeds;
        }) in
        let still : Still v missing = record { turn = refl; place = λ e. absurd (let r : false ≡ true = sym idle ∙ e in cc); note = λ e. refl } in
        let same : s.words ≡ set s.words (word_of o) x = sym (set_again s.words (word_of o) x (at_word s.words (word_of o) (omega arith)
        ∙ ap some (sym is))) in
        subst (λ ws. Shown n key (record { words = ws; homes = s.homes; views = set s.views id missing })) same (renewed missing g (λ p. refl) still (same_pays missing purse))

  -- a turn is left with nothing changed
  module _ (o : ℕ) (turn : v.turn ≡ true) (place : v.place ≡ o) (carried : List (ℕ × Slot)) (new : Slot) (has : carried ≡ (o, new) ∷ rest carried) (same : new
      ≡ v.note) where
    pub desisted : Shown n key (stepped s (word_of o) 0 id carried (turned_off v) gives)
    desisted =
        let k = mine.sits in
        let w = turned_off v in
        let purse : SamePurse v w = record { tickets = refl; notes = refl; over = refl } in
        let g : Goes w = stays w mine.plan refl refl purse (record {
          live = k.live;
          held = k.held;
          unborn = k.unborn;
          unheld = k.unheld;
          fed = k.fed;
          feeds = k.feeds;
        }) in
        leaving w g o turn place carried new has refl (same ∙ (mine.turn turn).found ∙ ap parts0 place) (λ p ne. refl)

  -- at a load of the first word nothing changes but the pass's view
  module _ (w : View) (g : Goes w) (same : (p : ℕ) → parts0 p ≡ part_of n p g.tally g.shelves) (still : Still v w) (pays : v.turn ≡ true → 0 < worth w)
      (carried : List (ℕ × Slot)) where
    pub loaded : Shown n key (stepped s 0 (slice_index s.words 0) id carried w keeps)
    loaded =
        let wide = h.wide in
        let first : s.words ≡ set s.words 0 (slice_index s.words 0) = sym (set_again s.words 0 (slice_index s.words 0) (at_word s.words 0 (omega arith))) in
        subst (λ ws. Shown n key (record { words = ws; homes = s.homes; views = set s.views id w })) first (renewed w g same still pays)

-- a try at a turn, by a pass whose task is live, or which has something to hand in
pub trying : (key : RunPlan) (slots id o : ℕ) (me : Me Slot View) → o < slots → me.0.turn ≡ false → (me.0.live ≡ false → 0 < worth me.0)
    → Allows (Ruled key) slots id me (word_of o) (λ x. either (eqb x 0) 1 x) (tried (step slots (word_of o) 0 1 none) me)
trying key slots id o me fits idle ready s h long at _ = go (h.places o room)
  where
    room : o < suc (count_of key)
    room = let deep = h.deep in omega arith

    worthy : 0 < worth me.0
    worthy = by_live me.0.live refl
      where
        by_live : (b : Bool) → me.0.live ≡ b → 0 < worth me.0
        by_live true e = let some = (h.passes id me.0 at).sits.fed e in omega (arith, some)
        by_live false e = ready e

    x : ℕ
    x = slice_index s.words (word_of o)

    -- no other place has the word
    at_place : (m : Me Slot View) → tried_there slots o me x m → tried (step slots (word_of o) 0 1 none) me x m
    at_place m told p e = subst (λ q. tried_there slots q me x m) (same_place o p e) told

    go : PlaceOk (count_of key) s h.holder (λ p. part_of (count_of key) p h.tally h.shelves) o → (w : View) × (a : table.Act Slot)
        × table.Valid s.homes me.1 a × Ruled key (stepped s (word_of o) (either (eqb x 0) 1 x) id me.1 w a)
        × tried (step slots (word_of o) 0 1 none) me x (w, table.carried_after me.1 a)
    go (free z w0 home is) =
        let n = count_of key in
        let y = part_of n o h.tally h.shelves in
        let deep : slots ≡ suc n = sym long ∙ h.deep in (
          in_turn o y me.0,
          takes o y,
          subst (λ k. get_elem? s.homes o ≡ some (some k)) is home,
          subst (λ k. Ruled key (stepped s (word_of o) k id me.1 (in_turn o y me.0) (takes o y))) (sym (ap (λ b. either b 1 x) (eq-eqb x 0 w0)))
              (taking n key s h id me.0 at o room idle worthy y w0 refl me.1),
          at_place (in_turn o y me.0, (o, y) ∷ me.1) (
            (λ e. (
              y,
              refl,
              (λ l. tells n key s h id me.0 at o room idle worthy y w0 refl me.1 l slots deep),
              λ last. tells_roll n key s h id me.0 at o room idle worthy y w0 refl me.1 (omega (arith, last, deep)),
            )),
            λ ne. absurd (ne w0),
          ),
        )
    go (taken v w1 e t l) = (
      tried_at o 1 me.0,
      keeps,
      tt,
      subst (λ z. Ruled key (stepped s (word_of o) z id me.1 (tried_at o 1 me.0) keeps)) (sym (ap (λ b. either b 1 x) (ne_eqb x 0 (λ z. absurd (omega arith)))))
          (missed (count_of key) key s h id me.0 at o idle room x refl me.1),
      at_place (tried_at o 1 me.0, me.1) ((λ e0. absurd (omega arith)), λ ne. (w1, refl)),
    )
