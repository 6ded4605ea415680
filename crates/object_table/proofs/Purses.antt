-- What passes have in hand, where one pass changes, where one comes to be, and where one takes over what another has.
use Rattle.std.proofs.Common.{◌≡◌, ℕ, zero, suc, ◌+◌, ◌≤◌, List, [], ◌∷◌, ◌++◌, length, set, refl, sym, ap, ◌∙◌, arith, append_assoc, append-nil}
use mathlib.Core.Option.{some, some-injective, some-ne-none}
use lib.ListN.{get_elem?}
use Rattle.atomic_table.proofs.Lists.{set_else}
use Rattle.task_roll.specs.declared.note.PartNote.{PartNote}
use Rattle.object_table.specs.Bags.{Mixed, swap, chain}
use Rattle.object_table.specs.Views.{View, worth, worths, in_hand}
use Rattle.object_table.proofs.Bags.{mixed_is, mixed_as, mixed_front, mixed_two}

-- no view stands in an empty list
nowhere : {A : Type 0} (id : ℕ) (v : View) → get_elem? [] id ≡ some v → A
nowhere id v e = absurd (some-ne-none v (sym e))

-- changes at two places may come in either order
set_apart : (views : List View) (i j : ℕ) (v w : View) → (j ≡ i → ⊥) → set (set views i v) j w ≡ set (set views j w) i v
set_apart [] i j v w ne = refl
set_apart (x ∷ xs) zero zero v w ne = absurd (ne refl)
set_apart (x ∷ xs) zero (suc j) v w ne = refl
set_apart (x ∷ xs) (suc i) zero v w ne = refl
set_apart (x ∷ xs) (suc i) (suc j) v w ne = ap (λ vs. x ∷ vs) (set_apart xs i j v w (λ e. ne (ap suc e)))

-- a pass that keeps its notes
pub hand_kept : (views : List View) (id : ℕ) (v w : View) → get_elem? views id ≡ some v → w.notes ≡ v.notes → in_hand (set views id w) ≡ in_hand views
hand_kept [] id v w at same = refl
hand_kept (x ∷ xs) zero v w at same =
    ap (λ ns. ns ++ in_hand xs) (same ∙ ap (λ (z : View). z.notes) (sym (some-injective x v at)))
hand_kept (x ∷ xs) (suc id) v w at same = ap (λ ns. x.notes ++ ns) (hand_kept xs id v w at same)

-- what all are worth, by what one pass is
first_worth : (x v w s : ℕ) → x ≡ v → (w + s) + v ≡ (x + s) + w
first_worth x v w s e = omega arith

later_worth : (x v w s t : ℕ) → t + v ≡ s + w → (x + t) + v ≡ (x + s) + w
later_worth x v w s t e = omega arith

pub worths_set : (views : List View) (id : ℕ) (v w : View) → get_elem? views id ≡ some v → worths (set views id w) + worth v ≡ worths views + worth w
worths_set [] id v w at = nowhere id v at
worths_set (x ∷ xs) zero v w at = first_worth (worth x) (worth v) (worth w) (worths xs) (ap worth (some-injective x v at))
worths_set (x ∷ xs) (suc id) v w at =
    later_worth (worth x) (worth v) (worth w) (worths xs) (worths (set xs id w)) (worths_set xs id v w at)

same_worth : (v w s t : ℕ) → t + v ≡ s + w → w ≡ v → t ≡ s
same_worth v w s t e same = omega arith

pub worths_kept : (views : List View) (id : ℕ) (v w : View) → get_elem? views id ≡ some v → worth w ≡ worth v → worths (set views id w) ≡ worths views
worths_kept views id v w at same =
    same_worth (worth v) (worth w) (worths views) (worths (set views id w)) (worths_set views id v w at) same

-- one pass is worth no more than all
first_within : (x v s : ℕ) → x ≡ v → v ≤ x + s
first_within x v s e = omega arith

later_within : (x v s : ℕ) → v ≤ s → v ≤ x + s
later_within x v s le = omega arith

pub worth_within : (views : List View) (id : ℕ) (v : View) → get_elem? views id ≡ some v → worth v ≤ worths views
worth_within [] id v at = nowhere id v at
worth_within (x ∷ xs) zero v at = first_within (worth x) (worth v) (worths xs) (ap worth (some-injective x v at))
worth_within (x ∷ xs) (suc id) v at = later_within (worth x) (worth v) (worths xs) (worth_within xs id v at)

-- a pass more
last_more : (w : ℕ) → w + 0 ≡ 0 + w
last_more w = omega arith

sum_more : (x s t w : ℕ) → t ≡ s + w → x + t ≡ (x + s) + w
sum_more x s t w e = omega arith

pub worths_more : (views : List View) (w : View) → worths (views ++ w ∷ []) ≡ worths views + worth w
worths_more [] w = last_more (worth w)
worths_more (x ∷ xs) w = sum_more (worth x) (worths xs) (worths (xs ++ w ∷ [])) (worth w) (worths_more xs w)

pub hand_more : (views : List View) (w : View) → in_hand (views ++ w ∷ []) ≡ in_hand views ++ w.notes
hand_more [] w = append-nil w.notes
hand_more (x ∷ xs) w = ap (λ ns. x.notes ++ ns) (hand_more xs w) ∙ sym (append_assoc x.notes (in_hand xs) w.notes)

-- where nobody is worth anything, nobody has notes
no_notes : (ns : List PartNote) → length ns ≡ 0 → ns ≡ []
no_notes [] e = refl
no_notes (n ∷ ns) e = absurd (omega arith)

left_none : (x s : ℕ) → x + s ≡ 0 → x ≡ 0
left_none x s e = omega arith

right_none : (x s : ℕ) → x + s ≡ 0 → s ≡ 0
right_none x s e = omega arith

pub none_in_hand : (views : List View) → worths views ≡ 0 → in_hand views ≡ []
none_in_hand [] e = refl
none_in_hand (x ∷ xs) e =
    ap (λ ns. ns ++ in_hand xs) (no_notes x.notes (right_none x.tickets (length x.notes) (left_none (worth x) (worths xs) e)))
    ∙ none_in_hand xs (right_none (worth x) (worths xs) e)

-- what one pass has comes first
pub hand_first : (views : List View) (id : ℕ) (v e : View) → get_elem? views id ≡ some v → e.notes ≡ []
    → Mixed (in_hand views) (v.notes ++ in_hand (set views id e))
hand_first [] id v e at none = nowhere id v at
hand_first (x ∷ xs) zero v e at none =
    mixed_is (ap (λ (z : View). z.notes ++ in_hand xs) (some-injective x v at) ∙ sym (ap (λ ns. v.notes ++ (ns ++ in_hand xs)) none))
hand_first (x ∷ xs) (suc id) v e at none =
    chain (mixed_front x.notes (hand_first xs id v e at none)) (swap [] x.notes v.notes (in_hand (set xs id e)))

-- notes more at one pass
pub hand_grown : (views : List View) (id : ℕ) (v w : View) (more : List PartNote) → get_elem? views id ≡ some v → w.notes ≡ v.notes ++ more
    → Mixed (in_hand views ++ more) (in_hand (set views id w))
hand_grown [] id v w more at is = nowhere id v at
hand_grown (x ∷ xs) zero v w more at is =
    mixed_as (ap (λ (z : View). (z.notes ++ in_hand xs) ++ more) (some-injective x v at) ∙ append_assoc v.notes (in_hand xs) more)
    (mixed_front v.notes (mixed_two (in_hand xs) more))
    (sym (append_assoc v.notes more (in_hand xs)) ∙ sym (ap (λ ns. ns ++ in_hand xs) is))
hand_grown (x ∷ xs) (suc id) v w more at is =
    mixed_as (append_assoc x.notes (in_hand xs) more) (mixed_front x.notes (hand_grown xs id v w more at is)) refl

-- a note more at one pass
pub hand_noted : (views : List View) (id : ℕ) (v w : View) (x : PartNote) → get_elem? views id ≡ some v → w.notes ≡ v.notes ++ x ∷ []
    → Mixed (in_hand views ++ x ∷ []) (in_hand (set views id w))
hand_noted views id v w x at is = hand_grown views id v w (x ∷ []) at is

-- one pass hands in all
pub hand_out : (a : List PartNote) (views : List View) (id : ℕ) (v w : View) → get_elem? views id ≡ some v → w.notes ≡ []
    → Mixed (a ++ in_hand views) ((a ++ v.notes) ++ in_hand (set views id w))
hand_out a views id v w at none =
    mixed_as refl (mixed_front a (hand_first views id v w at none)) (sym (append_assoc a v.notes (in_hand (set views id w))))

-- one pass takes over what another has
pub hand_joined : (views : List View) (id other : ℕ) (v w both spent : View) → get_elem? views id ≡ some v → (other ≡ id → ⊥)
    → get_elem? views other ≡ some w → both.notes ≡ v.notes ++ w.notes → spent.notes ≡ []
    → Mixed (in_hand views) (in_hand (set (set views id both) other spent))
hand_joined views id other v w both spent at ne there all none =
    let rest : List View = set views other spent in
    let still : get_elem? rest id ≡ some v = set_else views other id spent (λ e. ne (sym e)) ∙ at in
    chain (hand_first views other w spent there none) (chain (mixed_two w.notes (in_hand rest))
    (mixed_as refl (hand_grown rest id v both w.notes still all) (ap in_hand (sym (set_apart views id other both spent ne)))))

joined_worth : (v w both spent s t u : ℕ) → t + v ≡ s + both → u + w ≡ t + spent → both ≡ v + w → spent ≡ 0 → u ≡ s
joined_worth v w both spent s t u a b c d = omega arith

pub worths_joined : (views : List View) (id other : ℕ) (v w both spent : View) → get_elem? views id ≡ some v → (other ≡ id → ⊥)
    → get_elem? views other ≡ some w → worth both ≡ worth v + worth w → worth spent ≡ 0
    → worths (set (set views id both) other spent) ≡ worths views
worths_joined views id other v w both spent at ne there all none =
    let joined : List View = set views id both in
    let still : get_elem? joined other ≡ some w = set_else views id other both ne ∙ there in
    joined_worth (worth v) (worth w) (worth both) (worth spent) (worths views) (worths joined) (worths (set joined other spent))
    (worths_set views id v both at) (worths_set joined other w spent still) all none
