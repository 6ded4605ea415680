-- Turns under labels, and the lists that they name.
use Rattle.std.proofs.Common.{◌≡◌, ◌≢◌, ℕ, zero, suc, ◌+◌, ◌<◌, ◌≤◌, List, [], ◌∷◌, ◌++◌, length, map, take, drop, Some, refl, ap, sym, ◌∙◌, subst, arith, append-nil, length-append, All}
use Rattle.std.specs.List.{slice_get}
use Rattle.std.specs.Option.{option_map}
use Rattle.std.proofs.lemmas.List.{take_all, drop_all, length-take-le}
use Rattle.std.proofs.lemmas.Bool.{ltb-true, ltb-false}
use Rattle.std.specs.Prelude.{Bool, true, false, nat_lt}
use Rattle.std.proofs.lemmas.List.Elements.{All-head, All-tail}
use Rattle.std.proofs.lemmas.Option.{slice_get_within, slice_get-map}
use Rattle.jade_syntax.specs.declared.tree.Item.{Item}
use Rattle.jade_syntax.specs.Objects.{Label, labels, sizes}
use Rattle.jade_syntax.proofs.Limits.{drop_item, labels_counted}
use Rattle.run_record.specs.declared.turns.LabelledTurn.{LabelledTurn}
use Rattle.run_record.specs.Recording.{IsTurn}
use Rattle.record_parts.specs.Labels.{label_text, turns_on_one, turns_from, labelled_turns}
use Rattle.record_parts.specs.Named.{AreNamed, NoneNamed}
use Rattle.record_parts.specs.steps.Naming.{IsNext, IsNextList, none, taken}
use Rattle.record_parts.proofs.Apart.{AreApart}
use Rattle.record_parts.proofs.Cutting.{take_one}
use Rattle.record_parts.proofs.Naming.{at_place, by, label_at, on_one, some_same, turns_step}

-- those after one differ from it
apart_at : (xs : List (List ℕ)) (i : ℕ) (x : List ℕ) → AreApart xs → slice_get xs i ≡ Some x → All (λ y. y ≢ x) (drop (suc i) xs)
apart_at [] i x a s = absurd (cc)
apart_at (y ∷ xs) zero x a s = let F : List ℕ → Type 0 = λ z. All (λ w. w ≢ z) xs in subst F (some_same s) a.0
apart_at (y ∷ xs) (suc i) x a s = apart_at xs i x a.1 s

drop_map : (ls : List Label) (k : ℕ) → drop k (map label_text ls) ≡ map label_text (drop k ls)
drop_map ls zero = refl
drop_map [] (suc k) = refl
drop_map (l ∷ ls) (suc k) = drop_map ls k

-- turns on objects are under their labels
head_among : (o : ℕ) (ls : List Label) (T : ℕ → List (List ℕ)) (t : LabelledTurn) (ts : List LabelledTurn) (x : List ℕ) → All (λ y. y ≢ x) (map label_text ls) →
    turns_from o ls T ≡ t ∷ ts → t.label ≡ x → ⊥
head_among o [] T t ts x h e s = absurd (cc)
head_among o (l ∷ ls) T t ts x h e s =
    by_cases (T o) (turns_from (suc o) ls T) (λ f. head_among (suc o) ls T t ts x (All-tail (λ y. y ≢ x) (label_text l) (map label_text ls) h) f s)
    (All-head (λ y. y ≢ x) (label_text l) (map label_text ls) h) e
  where
    by_cases : (ps : List (List ℕ)) (rest : List LabelledTurn) → (rest ≡ t ∷ ts → ⊥) → label_text l ≢ x → turns_on_one (label_text l) ps ++ rest ≡ t ∷ ts → ⊥
    by_cases [] rest f d e = f e
    by_cases (p ∷ ps) rest f d e = d (label_of (heads e) ∙ s)
      where
        heads : {a b : LabelledTurn} {us vs : List LabelledTurn} → a ∷ us ≡ b ∷ vs → a ≡ b
        heads e = cc

        label_of : record { label = label_text l; paths = p ∷ ps } ≡ t → label_text l ≡ t.label
        label_of e = ap (λ (u : LabelledTurn). u.label) e

-- a first turn that is under the first label
pub first_is : (o : ℕ) (l : Label) (ls : List Label) (T : ℕ → List (List ℕ)) (t : LabelledTurn) (ts : List LabelledTurn) → All (λ y. y ≢ label_text l) (map label_text ls) →
    t.label ≡ label_text l → t ∷ ts ≡ turns_from o (l ∷ ls) T → (T o ≡ t.paths) × (ts ≡ turns_from (suc o) ls T)
first_is o l ls T t ts h s e = by_cases (T o) (turns_from (suc o) ls T) (λ f. head_among (suc o) ls T t ts (label_text l) h (sym f) s) e where
  by_cases : (ps : List (List ℕ)) (rest : List LabelledTurn) → (t ∷ ts ≡ rest → ⊥) → t ∷ ts ≡ turns_on_one (label_text l) ps ++ rest → (ps ≡ t.paths) × (ts ≡ rest)
  by_cases [] rest f e = absurd (f e)
  by_cases (p ∷ ps) rest f e = (ap (λ (u : LabelledTurn). u.paths) (sym (heads e)), tails e) where
    heads : {a b : LabelledTurn} {us vs : List LabelledTurn} → a ∷ us ≡ b ∷ vs → a ≡ b
    heads e = cc

    tails : {a b : LabelledTurn} {us vs : List LabelledTurn} → a ∷ us ≡ b ∷ vs → us ≡ vs
    tails e = cc

-- turns of which the first is not under the first label
pub first_is_not : (o : ℕ) (l : Label) (ls : List Label) (T : ℕ → List (List ℕ)) (ts : List LabelledTurn) →
    ((t : LabelledTurn) (more : List LabelledTurn) → ts ≡ t ∷ more → t.label ≡ label_text l → ⊥) → ts ≡ turns_from o (l ∷ ls) T → (T o ≡ []) × (ts ≡ turns_from (suc o) ls T)
first_is_not o l ls T ts h e = by_cases (T o) (turns_from (suc o) ls T) e where
  by_cases : (ps : List (List ℕ)) (rest : List LabelledTurn) → ts ≡ turns_on_one (label_text l) ps ++ rest → (ps ≡ []) × (ts ≡ rest)
  by_cases [] rest e = (refl, e)
  by_cases (p ∷ ps) rest e = absurd (h (record { label = label_text l; paths = p ∷ ps }) rest e refl)

-- the first turns are those on the first objects by lists, and by no others
pub record Matched (items : List Item) (turns : List LabelledTurn) (i place : ℕ) (lists : List (List (List ℕ))) : Type 0 where
  pub counted : length lists ≡ i
  pub within : place ≤ length turns
  pub begun : take place turns ≡ turns_from 0 (take i (labels items)) (by lists)
  pub left : (T : ℕ → List (List ℕ)) → turns ≡ labelled_turns items T → drop place turns ≡ turns_from i (drop i (labels items)) T
  pub only : (T : ℕ → List (List ℕ)) → turns ≡ labelled_turns items T → (o : ℕ) → o < i → T o ≡ by lists o

pub none_matched : (items : List Item) (turns : List LabelledTurn) (lists : List (List (List ℕ))) → lists ≡ [] → Matched items turns 0 0 lists
none_matched items turns lists e =
    record { counted = ap length e; within = omega arith; begun = refl; left = λ T h. h; only = λ T h o lt. absurd (omega (arith, lt)) }

-- lists with one more
by_front : (lists : List (List (List ℕ))) (x : List (List ℕ)) (o : ℕ) → o < length lists → by (lists ++ x ∷ []) o ≡ by lists o
by_front [] x o lt = absurd (omega arith)
by_front (y ∷ lists) x zero lt = refl
by_front (y ∷ lists) x (suc o) lt = by_front lists x o (omega arith)

by_last : (lists : List (List (List ℕ))) (x : List (List ℕ)) → by (lists ++ x ∷ []) (length lists) ≡ x
by_last [] x = refl
by_last (y ∷ lists) x = by_last lists x

-- turns on the first objects look at the first lists alone
same_turns : (o : ℕ) (ls : List Label) (T S : ℕ → List (List ℕ)) → ((k : ℕ) → k < o + length ls → T k ≡ S k) → turns_from o ls T ≡ turns_from o ls S
same_turns o [] T S h = refl
same_turns o (l ∷ ls) T S h =
    ap (λ ps. turns_on_one (label_text l) ps ++ turns_from (suc o) ls T) (h o (omega arith))
    ∙ ap (λ r. turns_on_one (label_text l) (S o) ++ r) (same_turns (suc o) ls T S (λ k lt. h k (omega (arith, lt))))

at_drop : (ts : List LabelledTurn) (k : ℕ) (t : LabelledTurn) (more : List LabelledTurn) → drop k ts ≡ t ∷ more → slice_get ts k ≡ Some t
at_drop [] zero t more e = absurd (cc)
at_drop [] (suc k) t more e = absurd (cc)
at_drop (u ∷ ts) zero t more e = ap Some (heads e) where
  heads : {a b : LabelledTurn} {us vs : List LabelledTurn} → a ∷ us ≡ b ∷ vs → a ≡ b
  heads e = cc
at_drop (u ∷ ts) (suc k) t more e = at_drop ts k t more e

-- a number below the next is below, or the number itself
below_next : {P : Type 0} (o i : ℕ) → o < i + 1 → (o < i → P) → (o ≡ i → P) → P
below_next {P = P} o i lt f g = go (nat_lt o i) refl where
  go : (b : Bool) → nat_lt o i ≡ b → P
  go true e = f (ltb-true o i e)
  go false e = let le = ltb-false o i e in g (omega (arith, le, lt))

module _ (items : List Item) (turns : List LabelledTurn) (i place : ℕ) (lists : List (List (List ℕ))) (m : Matched items turns i place lists)
    (apart : AreApart (map label_text (labels items))) (fit : All IsTurn turns) (lt : i < length (sizes items)) where
  abbrev here : (l : Label) × (slice_get (labels items) i ≡ Some l)
  here = label_at (labels items) i (let n = labels_counted items in omega (arith, lt, n))

  called : slice_get (map label_text (labels items)) i ≡ Some (label_text here.0)
  called = slice_get-map label_text (labels items) i ∙ ap (option_map label_text) here.1

  others : All (λ y. y ≢ label_text here.0) (map label_text (drop (i + 1) (labels items)))
  others =
      let n : suc i ≡ i + 1 = omega arith in
      let F : List (List ℕ) → Type 0 = All (λ y. y ≢ label_text here.0) in
      let G : ℕ → Type 0 = λ k. All (λ y. y ≢ label_text here.0) (map label_text (drop k (labels items))) in
      subst G n (subst F (drop_map (labels items) (suc i)) (apart_at (map label_text (labels items)) i (label_text here.0) apart called))

  length_begun : length (take i (labels items)) ≡ i
  length_begun = length-take-le i (labels items) (let n = labels_counted items in omega (arith, lt, n))

  -- the turns on the objects up to this one
  turns_up_to : (found : List (List ℕ)) →
      turns_from 0 (take (i + 1) (labels items)) (by (lists ++ found ∷ [])) ≡ take place turns ++ turns_on_one (label_text here.0) found
  turns_up_to found =
      let new : List (List (List ℕ)) = lists ++ found ∷ [] in
      let last : by new i ≡ found = subst (λ k. by new k ≡ found) m.counted (by_last lists found) in
      let front = same_turns 0 (take i (labels items)) (by new) (by lists) (λ k below. by_front lists found k (let n = length_begun in let c = m.counted in omega (arith, below, n, c))) in
      turns_step (labels items) i here.0 (by new) here.1 ∙ ap (λ x. x ++ turns_on_one (label_text here.0) (by new i)) (front ∙ sym m.begun)
      ∙ ap (λ ps. take place turns ++ turns_on_one (label_text here.0) ps) last

  rest_from : (T : ℕ → List (List ℕ)) → turns ≡ labelled_turns items T → drop place turns ≡ turns_from i (here.0 ∷ drop (i + 1) (labels items)) T
  rest_from T h = m.left T h ∙ ap (λ ls. turns_from i ls T) (drop_item (labels items) i here.0 here.1)

  next_number : (T : ℕ → List (List ℕ)) → turns_from (suc i) (drop (i + 1) (labels items)) T ≡ turns_from (i + 1) (drop (i + 1) (labels items)) T
  next_number T = let n : suc i ≡ i + 1 = omega arith in ap (λ k. turns_from k (drop (i + 1) (labels items)) T) n

  lists_only : (found : List (List ℕ)) (T : ℕ → List (List ℕ)) → turns ≡ labelled_turns items T → T i ≡ found → (o : ℕ) → o < i + 1 → T o ≡ by (lists ++ found ∷ []) o
  lists_only found T h e o below =
      let new : List (List (List ℕ)) = lists ++ found ∷ [] in
      let last : by new i ≡ found = subst (λ k. by new k ≡ found) m.counted (by_last lists found) in
      below_next o i below (λ lo. m.only T h o lo ∙ sym (by_front lists found o (let c = m.counted in omega (arith, lo, c))))
      (λ s. ap T s ∙ e ∙ sym last ∙ ap (by new) (sym s))

  matched : (found : List (List ℕ)) (next : ℕ) → IsNextList items i turns place found next → Matched items turns (i + 1) next (lists ++ found ∷ [])
  matched found next (taken t p n) =
      let spot = slice_get_within turns place t.turn t.there in
      let same : label_text here.0 ≡ t.turn.label = some_same (sym called ∙ t.called) in
      let some = (at_place IsTurn turns place t.turn t.there fit).some in
      let one = on_one (label_text here.0) found t.turn (λ x. some (sym p ∙ x)) same p in
      let cut = drop_item turns place t.turn t.there in
      let both : (T : ℕ → List (List ℕ)) → turns ≡ labelled_turns items T → (T i ≡ t.turn.paths) × (drop (place + 1) turns ≡ turns_from (suc i) (drop (i + 1) (labels items)) T) =
      λ T h. first_is i here.0 (drop (i + 1) (labels items)) T t.turn (drop (place + 1) turns) others (sym same) (sym cut ∙ rest_from T h) in
      let F : ℕ → Type 0 = λ k. Matched items turns (i + 1) k (lists ++ found ∷ []) in
      subst F (sym n)
      (record {
        counted = length-append lists (found ∷ []) ∙ ap (λ k. k + 1) m.counted;
        within = omega (arith, spot);
        begun = take_one turns place t.turn t.there ∙ ap (λ x. take place turns ++ x) (sym one) ∙ sym (turns_up_to found);
        left = λ T h. (both T h).1 ∙ next_number T;
        only = λ T h. lists_only found T h ((both T h).0 ∙ sym p);
      })
  matched found next (none absent p n) =
      let both : (T : ℕ → List (List ℕ)) → turns ≡ labelled_turns items T → (T i ≡ []) × (drop place turns ≡ turns_from (suc i) (drop (i + 1) (labels items)) T) =
      λ T h. first_is_not i here.0 (drop (i + 1) (labels items)) T (drop place turns)
      (λ t more e s. absent (record { turn = t; there = at_drop turns place t more e; called = called ∙ ap Some (sym s) })) (rest_from T h) in
      let F : ℕ → Type 0 = λ k. Matched items turns (i + 1) k (lists ++ found ∷ []) in
      subst F (sym n)
      (record {
        counted = length-append lists (found ∷ []) ∙ ap (λ k. k + 1) m.counted;
        within = m.within;
        begun = sym (turns_up_to found ∙ ap (λ ps. take place turns ++ turns_on_one (label_text here.0) ps) p ∙ append-nil (take place turns));
        left = λ T h. (both T h).1 ∙ next_number T;
        only = λ T h. lists_only found T h ((both T h).0 ∙ sym p);
      })

-- lists for one object more
pub one_matched : (items : List Item) (turns : List LabelledTurn) (i place next : ℕ) (lists new : List (List (List ℕ))) (found : List (List ℕ)) →
    AreApart (map label_text (labels items)) → All IsTurn turns → i < length (sizes items) → Matched items turns i place lists → IsNextList items i turns place found next →
    new ≡ lists ++ found ∷ [] → Matched items turns (i + 1) next new
one_matched items turns i place next lists new found a f lt m t e =
    let F : List (List (List ℕ)) → Type 0 = λ x. Matched items turns (i + 1) next x in
    subst F (sym e) (matched items turns i place lists m a f lt found next t)

pub all_matched : (items : List Item) (turns : List LabelledTurn) (i place : ℕ) (lists : List (List (List ℕ))) → Matched items turns i place lists → i ≡ length (sizes items) →
    length turns ≤ place → AreNamed items turns lists
all_matched items turns i place lists m e le =
    let n : length (labels items) ≤ i = let c = labels_counted items in omega (arith, c, e) in
    record {
      counted = m.counted ∙ e;
      named = sym (take_all place turns le) ∙ m.begun ∙ ap (λ ls. turns_from 0 ls (by lists)) (take_all i (labels items) n);
      only = λ T h o lt. m.only T h o (omega (arith, lt, e));
    }

pub none_named : (items : List Item) (turns : List LabelledTurn) (i place : ℕ) (lists : List (List (List ℕ))) → Matched items turns i place lists → i ≡ length (sizes items) →
    place < length turns → NoneNamed items turns
none_named items turns i place lists m e lt =
    λ T h.
    let n : length (labels items) ≤ i = let c = labels_counted items in omega (arith, c, e) in
    let t = label_at turns place lt in
    let nothing : drop place turns ≡ [] = m.left T h ∙ ap (λ ls. turns_from i ls T) (drop_all i (labels items) n) in
    not_both t.0 (drop (place + 1) turns) (sym (drop_item turns place t.0 t.1) ∙ nothing)
  where
    not_both : (t : LabelledTurn) (ts : List LabelledTurn) → t ∷ ts ≡ [] → ⊥
    not_both t ts e = cc

pub next_taken : (items : List Item) (object : ℕ) (turns : List LabelledTurn) (place : ℕ) (found : List (List ℕ)) (turn : LabelledTurn) → IsNext items object turns place →
    slice_get turns place ≡ Some turn → found ≡ turn.paths → IsNextList items object turns place found (place + 1)
next_taken items object turns place found turn here s e =
    let same : turn ≡ here.turn = some_same (sym s ∙ here.there) in
    taken here (e ∙ ap (λ (t : LabelledTurn). t.paths) same) refl

pub next_none : (items : List Item) (object : ℕ) (turns : List LabelledTurn) (place : ℕ) (found : List (List ℕ)) → length turns ≤ place → found ≡ [] →
    IsNextList items object turns place found place
next_none items object turns place found le e =
    none (λ here. let lt = slice_get_within turns place here.turn here.there in omega (arith, lt, le)) e refl
