-- The table at the start keeps the rule.
use Rattle.std.proofs.Common.{◌≡◌, ℕ, zero, suc, ◌<◌, true, false, List, [], ◌∷◌, ◌++◌, map, length, take, refl, sym, ap, ◌∙◌, subst, arith}
use Rattle.std.proofs.Common.{eq-eqb, ne_eqb, Option, Some, None}
use Rattle.std.specs.Prelude.{slice_get, slice_index, replicate, if◌then◌else◌}
use mathlib.Core.Logic.{dite}
use mathlib.Core.Option.{some, some-injective, some-ne-none}
use native.Mathlib.Decide.{ℕ_discrete}
use lib.ListN.{get_elem?}
use Rattle.atomic_table.specs.Table.{opening}
use Rattle.atomic_table.proofs.Lists.{at_map}
use Rattle.jade_base.specs.Rights.{both_rights}
use Rattle.jade_syntax.specs.Objects.{sizes}
use Rattle.object_shelf.specs.Homes.{started}
use Rattle.object_shelf.specs.Shelves.{find}
use Rattle.schedule_core.specs.declared.steps.Seat.{Seat}
use Rattle.schedule_core.specs.ByNumber.{shelf_at}
use Rattle.schedule_core.specs.Plain.{begins, root_seat, root_shelves}
use Rattle.jade_meaning.specs.Plan.{RunPlan}
use Rattle.object_table.specs.Tallies.{opened}
use Rattle.object_table.specs.Views.{count_of, word_of, View, shelf_of, part_of}
use Rattle.object_table.specs.Rule.{hold_of, nothing, pass_of, by_pass, free, SeatOk, Ruled, first_view}
use Rattle.object_table.specs.steps.Kept.{start_slots, FirstSlots}
use Rattle.object_table.specs.declared.slot.Slot.{Slot}
use Rattle.object_table.specs.declared.slot.Slot.TheVariants as slot

pub slots_more : (ns : List ℕ) (o n : ℕ) → slice_get ns o ≡ Some n → start_slots (take (suc o) ns)
    ≡ start_slots (take o ns) ++ slot.Object (started (0 ∷ []) both_rights n) ∷ []
slots_more [] o n e = absurd (cc)
slots_more (m ∷ ns) zero n e = ap (λ x. slot.Object (started (0 ∷ []) both_rights x) ∷ []) (some_is m n e)
  where
    some_is : (x y : ℕ) → ◌≡◌ {A = Option ℕ} (Some x) (Some y) → x ≡ y
    some_is x y e = cc
slots_more (m ∷ ns) (suc o) n e = ap (λ xs. slot.Object (started (0 ∷ []) both_rights m) ∷ xs) (slots_more ns o n e)

pub slots_length : (ns : List ℕ) (y : Slot) → length (start_slots ns ++ y ∷ []) ≡ suc (length ns)
slots_length [] y = refl
slots_length (n ∷ ns) y = ap suc (slots_length ns y)

object_at : (ns : List ℕ) (ys : List Slot) (o : ℕ) → o < length ns → get_elem? (start_slots ns ++ ys) o
    ≡ some (slot.Object (shelf_of (shelf_at (root_shelves ns) o)))
object_at [] ys o lt = absurd (omega arith)
object_at (n ∷ ns) ys zero lt = refl
object_at (n ∷ ns) ys (suc o) lt = object_at ns ys o (omega arith)

last_at : (ns : List ℕ) (y : Slot) → get_elem? (start_slots ns ++ y ∷ []) (length ns) ≡ some y
last_at [] y = refl
last_at (n ∷ ns) y = last_at ns y

no_hold : (ns : List ℕ) (o : ℕ) → hold_of (find (0 ∷ []) (shelf_at (root_shelves ns) o).queue) ≡ None
no_hold [] o = refl
no_hold (n ∷ ns) zero = refl
no_hold (n ∷ ns) (suc o) = no_hold ns o

mapped : (xs : List Slot) → length (map some xs) ≡ length xs
mapped [] = refl
mapped (x ∷ xs) = ap suc (mapped xs)

pub all_zeros : (n p : ℕ) → slice_index (replicate n 0) p ≡ 0
all_zeros zero p = refl
all_zeros (suc n) zero = refl
all_zeros (suc n) (suc p) = all_zeros n p

pub repeated : (n : ℕ) → length {A = ℕ} (replicate n 0) ≡ n
repeated zero = refl
repeated (suc n) = ap suc (repeated n)

module _ (key : RunPlan) where
  abbrev ns : List ℕ
  ns = sizes key.program.items

  abbrev n : ℕ
  n = count_of key

  abbrev root : Seat
  root = root_seat key.program key.numbers key.limit

  abbrev parts : ℕ → Slot
  parts o = part_of n o opened (root_shelves ns)

  part_at : (o : ℕ) → o < suc n → get_elem? (start_slots ns ++ slot.Roll opened ∷ []) o ≡ some (parts o)
  part_at o lt = dite (ℕ_discrete o n)
      (λ same. subst (λ i. get_elem? (start_slots ns ++ slot.Roll opened ∷ []) i ≡ some (parts i)) (sym same)
      (last_at ns (slot.Roll opened)
      ∙ ap some (sym (ap (λ b. if b then slot.Roll opened else slot.Object (shelf_of (shelf_at (root_shelves ns) n))) (eq-eqb n n refl)))))
      (λ ne. object_at ns (slot.Roll opened ∷ []) o (omega (arith, ne, lt))
      ∙ ap some (sym (ap (λ b. if b then slot.Roll opened else slot.Object (shelf_of (shelf_at (root_shelves ns) o))) (ne_eqb o n ne))))

  first : SeatOk n (replicate (word_of (suc n)) 0) (pass_of 0 ∷ []) (λ x. root) (λ o. 0) (root_shelves ns) parts key 0 (first_view key)
  first = record {
    plan = λ e. refl;
    sits = record {
      live = λ e. record { spot = record { front = []; back = []; is = refl; before = tt; after = tt }; is = refl };
      held = λ e. record { each = λ o. nothing refl (no_hold ns o) };
      unborn = λ kid e. absurd (cc);
      unheld = λ kid e. absurd (cc);
      fed = λ e. omega arith;
      feeds = λ kid e. absurd (cc);
    };
    turn = λ e. absurd (cc);
    busy = λ e. absurd (cc);
  }

  pub starts : (ws : List ℕ) (xs : List Slot) → FirstSlots ns xs → ws ≡ replicate (word_of (suc n)) 0 → Ruled key (opening ws xs (first_view key))
  starts ws xs f zeros = subst (λ l. Ruled key (opening l xs (first_view key))) (sym zeros) (record {
    count = 0;
    owners = pass_of 0 ∷ [];
    seats = λ x. root;
    shelves = root_shelves ns;
    tally = opened;
    holder = λ o. 0;
    reached = begins;
    accounts = record { due = omega arith; room = omega arith };
    settled = no_end;
    wide = repeated (word_of (suc n));
    deep = mapped xs ∙ ap length f.is ∙ slots_length ns (slot.Roll opened);
    passes = seat;
    only = (by_pass 0 (first_view key) refl refl refl, tt);
    places = λ o lt. free (parts o) (all_zeros (word_of (suc n)) (word_of o))
        (at_map some xs o (parts o) (ap (λ l. get_elem? l o) f.is ∙ part_at o lt)) refl;
  })
    where
      no_end : (id : ℕ) (v : View) → get_elem? (first_view key ∷ []) id ≡ some v → v.over ≡ true → opened.due ≡ 0
      no_end zero v e over = absurd (let no : false ≡ true = ap (λ (z : View). z.over) (some-injective (first_view key) v e) ∙ over in cc)
      no_end (suc id) v e over = absurd (some-ne-none v (sym e))

      seat : (id : ℕ) (v : View) → get_elem? (first_view key ∷ []) id ≡ some v
          → SeatOk n (replicate (word_of (suc n)) 0) (pass_of 0 ∷ []) (λ x. root) (λ o. 0) (root_shelves ns) parts key id v
      seat zero v e = subst (λ (z : View). SeatOk n (replicate (word_of (suc n)) 0) (pass_of 0 ∷ []) (λ x. root) (λ o. 0) (root_shelves ns) parts key 0 z)
          (some-injective (first_view key) v e) first
      seat (suc id) v e = absurd (some-ne-none v (sym e))
