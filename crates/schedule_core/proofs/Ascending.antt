-- Notes that are filed one by one stand by ascending key.
use Rattle.std.proofs.Common.{◌≡◌, ℕ, Bool, true, false, List, [], ◌∷◌, refl, sym, ap, ◌∙◌}
use Rattle.std.specs.Prelude.{if◌then◌else◌}
use Rattle.std.specs.declared.cmp.Ordering.{Ordering}
use Rattle.std.specs.declared.cmp.Ordering.TheVariants.{Less, Equal, Greater}
use Rattle.std.specs.Ordering.{nat_cmp, ordering_then, ordering_reverse, is_lt}
use Rattle.std.specs.Cmp.Lexicographic.{slice_cmp}
use Rattle.std.proofs.lemmas.Bool.{true≢false}
use Rattle.std.proofs.lemmas.Cmp.{nat_list_cmp_total}
use Rattle.jade_base.specs.Places.{is_before, path_order}
use Rattle.task_roll.specs.declared.note.PartNote.{PartNote}
use Rattle.task_roll.specs.Rolls.{note_key, filed, filed_into, by_key}
use Rattle.schedule_core.specs.steps.Ascending.{NoneBefore, Ascend}

order_is : (p q : List ℕ) → path_order p q ≡ slice_cmp nat_cmp p q
order_is [] [] = refl
order_is [] (y ∷ q) = refl
order_is (x ∷ p) [] = refl
order_is (x ∷ p) (y ∷ q) = ap (ordering_then (nat_cmp x y)) (order_is p q)

less_is : (o : Ordering) → is_lt o ≡ true → o ≡ Less
less_is Less e = refl
less_is Equal e = absurd (true≢false (sym e))
less_is Greater e = absurd (true≢false (sym e))

less : (p q : List ℕ) → is_before p q ≡ true → slice_cmp nat_cmp p q ≡ Less
less p q e = sym (order_is p q) ∙ less_is (path_order p q) e

is_less : (p q : List ℕ) → slice_cmp nat_cmp p q ≡ Less → is_before p q ≡ true
is_less p q e = ap is_lt (order_is p q ∙ e)

-- the order goes one way
pub asym : (p q : List ℕ) → is_before p q ≡ true → is_before q p ≡ false
asym p q e =
    ap is_lt (order_is q p ∙ nat_list_cmp_total.antisymm q p ∙ ap ordering_reverse (less p q e))

-- what stands before the second stands before all that does not stand before the second
pub through : (p q r : List ℕ) → is_before p q ≡ true → is_before r q ≡ false → is_before p r ≡ true
through p q r e f = go (slice_cmp nat_cmp q r) refl
  where
    go : (o : Ordering) → slice_cmp nat_cmp q r ≡ o → is_before p r ≡ true
    go Less h = is_less p r (nat_list_cmp_total.trans p q r (less p q e) h)
    go Equal h =
        is_less p r (nat_list_cmp_total.antisymm p r ∙ ap ordering_reverse
        (sym (nat_list_cmp_total.congr q r p h) ∙ nat_list_cmp_total.antisymm q p ∙ ap ordering_reverse (less p q e)))
    go Greater h =
        let g : is_before r q ≡ true = is_less r q (nat_list_cmp_total.antisymm r q ∙ ap ordering_reverse h) in
        absurd (true≢false (sym g ∙ f))

pub trans : (p q r : List ℕ) → is_before p q ≡ true → is_before q r ≡ true → is_before p r ≡ true
trans p q r e f = through p q r e (asym q r f)

-- a note that stands before another has nothing of what follows that before it
none_before : (n m : PartNote) (ms : List PartNote) → is_before (note_key n) (note_key m) ≡ true → NoneBefore m ms → NoneBefore n ms
none_before n m [] e h = tt
none_before n m (x ∷ ms) e h =
    (asym (note_key n) (note_key x) (through (note_key n) (note_key m) (note_key x) e h.0), none_before n m ms e h.1)

none_filed : (n m : PartNote) (ms : List PartNote) → is_before (note_key n) (note_key m) ≡ false → NoneBefore m ms → NoneBefore m (filed n ms)
none_filed n m [] e h = (e, tt)
none_filed n m (x ∷ ms) e h = go (is_before (note_key n) (note_key x)) (none_filed n m ms e h.1)
  where
    go : (b : Bool) → NoneBefore m (filed n ms) → NoneBefore m (if b then n ∷ (x ∷ ms) else x ∷ filed n ms)
    go true g = (e, h)
    go false g = (h.0, g)

pub ascend_filed : (n : PartNote) (ms : List PartNote) → Ascend ms → Ascend (filed n ms)
ascend_filed n [] h = (tt, tt)
ascend_filed n (m ∷ ms) h = go (is_before (note_key n) (note_key m)) refl (ascend_filed n ms h.1)
  where
    go : (b : Bool) → is_before (note_key n) (note_key m) ≡ b → Ascend (filed n ms) → Ascend (if b then n ∷ (m ∷ ms) else m ∷ filed n ms)
    go true e g = ((asym (note_key n) (note_key m) e, none_before n m ms e h.0), h)
    go false e g = (none_filed n m ms e h.0, g)

ascend_filed_into : (ns ms : List PartNote) → Ascend ms → Ascend (filed_into ns ms)
ascend_filed_into [] ms h = h
ascend_filed_into (n ∷ ns) ms h = ascend_filed_into ns (filed n ms) (ascend_filed n ms h)

pub by_key_ascends : (ns : List PartNote) → Ascend (by_key ns)
by_key_ascends ns = ascend_filed_into ns [] tt
