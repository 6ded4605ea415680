-- Turns on objects by their labels.
use Rattle.std.proofs.Common.{◌≡◌, ◌≢◌, ℕ, zero, suc, ◌+◌, add-zero, append_assoc, append-nil, slice_index_or, ◌<◌, ◌≤◌, List, [], ◌∷◌, ◌++◌, length, map, take, Some, refl, ap, sym, ◌∙◌, subst, arith, All}
use Rattle.std.specs.List.{slice_get}
use Rattle.std.proofs.lemmas.List.Elements.{All-tail, All-nil, All-cons, All-append, All-get_or}
use Rattle.std.proofs.lemmas.Option.{slice_get_within, get_or_from_slice_get, slice_get-map}
use Rattle.std.specs.Option.{option_map}
use Rattle.run_record.specs.declared.turns.LabelledTurn.{LabelledTurn}
use Rattle.run_record.specs.Pieces.{IsLabel, IsPath}
use Rattle.run_record.specs.Recording.{IsTurn}
use Rattle.std.proofs.lemmas.List.{take_all, length-take-le}
use Rattle.jade_syntax.specs.declared.tree.Item.{Item}
use Rattle.jade_syntax.specs.Objects.{Label, labels, sizes}
use Rattle.jade_syntax.proofs.Limits.{labels_counted}
use Rattle.record_parts.specs.Labels.{label_text, turns_on_one, turns_from, labelled_turns}
use Rattle.record_parts.specs.Named.{IsRooted}
use Rattle.record_parts.specs.steps.Naming.{AddsTurns, IsTurnOn}
use Rattle.record_parts.proofs.Cutting.{take_one}

pub at_place : {A : Type 0} (P : A → Type 0) (xs : List A) (i : ℕ) (x : A) → slice_get xs i ≡ Some x → All P xs → P x
at_place P xs i x s h = subst P (get_or_from_slice_get xs i x x s) (All-get_or P xs i x (slice_get_within xs i x s) h)

path_fits : (path : List ℕ) → IsRooted path → All (λ k. k < 4294967296) path → IsPath path
path_fits path r h =
    let F : List ℕ → Type 0 = All (λ k. k < 4294967296) in
    record { more = r.more; root = r.root; fit = All-tail (λ k. k < 4294967296) 0 r.more (subst F r.root h) }

pub fit_more : (paths : List (List ℕ)) (i : ℕ) (path : List ℕ) → slice_get paths i ≡ Some path → All IsRooted paths → All (λ k. k < 4294967296) path →
    All IsPath (take i paths) → All IsPath (take (i + 1) paths)
fit_more paths i path s r f h =
    let p = path_fits path (at_place IsRooted paths i path s r) f in
    subst (All IsPath) (sym (take_one paths i path s)) (All-append IsPath (take i paths) (path ∷ []) h (All-cons IsPath path [] p (All-nil IsPath)))

pub turn_fits : (label text : List ℕ) (paths from : List (List ℕ)) → label ≡ text → IsLabel text → paths ≡ from → from ≢ [] → All IsPath from →
    IsTurn (record { label = label; paths = paths })
turn_fits label text paths from e spelled p some fit =
    record { label = subst IsLabel (sym e) spelled; some = λ n. some (sym p ∙ n); paths = subst (All IsPath) (sym p) fit }

-- what is mapped to an item of a mapped list
pub map_at : {A B : Type 0} (f : A → B) (xs : List A) (i : ℕ) (y : B) → slice_get (map f xs) i ≡ Some y → (x : A) × (slice_get xs i ≡ Some x) × (f x ≡ y)
map_at f [] i y e = absurd (cc)
map_at f (x ∷ xs) zero y e = (x, refl, cc)
map_at f (x ∷ xs) (suc i) y e = map_at f xs i y e

pub some_same : {A : Type 0} {x y : A} → Some x ≡ Some y → x ≡ y
some_same e = cc

-- turns by lists
abbrev pub by : List (List (List ℕ)) → ℕ → List (List ℕ)
by lists o = slice_index_or lists o []

pub turns_append : (o : ℕ) (xs ys : List Label) (T : ℕ → List (List ℕ)) → turns_from o (xs ++ ys) T ≡ turns_from o xs T ++ turns_from (o + length xs) ys T
turns_append o [] ys T = ap (λ n. turns_from n ys T) (sym (add-zero o))
turns_append o (x ∷ xs) ys T =
    let e : suc o + length xs ≡ o + suc (length xs) = omega arith in
    ap (λ l. turns_on_one (label_text x) (T o) ++ l) (turns_append (suc o) xs ys T ∙ ap (λ n. turns_from (suc o) xs T ++ turns_from n ys T) e)
    ∙ sym (append_assoc (turns_on_one (label_text x) (T o)) (turns_from (suc o) xs T) (turns_from (o + suc (length xs)) ys T))

pub turns_step : (ls : List Label) (i : ℕ) (l : Label) (T : ℕ → List (List ℕ)) → slice_get ls i ≡ Some l →
    turns_from 0 (take (i + 1) ls) T ≡ turns_from 0 (take i ls) T ++ turns_on_one (label_text l) (T i)
turns_step ls i l T s =
    let n : length (take i ls) ≡ i = length-take-le i ls (let lt = slice_get_within ls i l s in omega (arith, lt)) in
    let z : 0 + length (take i ls) ≡ i = omega (arith, n) in
    ap (λ x. turns_from 0 x T) (take_one ls i l s) ∙ turns_append 0 (take i ls) (l ∷ []) T
    ∙ ap (λ m. turns_from 0 (take i ls) T ++ turns_from m (l ∷ []) T) z
    ∙ ap (λ x. turns_from 0 (take i ls) T ++ x) (append-nil (turns_on_one (label_text l) (T i)))

pub on_one : (label : List ℕ) (paths : List (List ℕ)) (turn : LabelledTurn) → paths ≢ [] → label ≡ turn.label → paths ≡ turn.paths → turns_on_one label paths ≡ turn ∷ []
on_one label [] turn some e p = absurd (some refl)
on_one label (x ∷ xs) turn some e p =
    ap (λ l. record { label = l; paths = x ∷ xs } ∷ []) e ∙ ap (λ ps. record { label = turn.label; paths = ps } ∷ []) p

-- the turns on an object were put last
pub one_added : (items : List Item) (object : ℕ) (paths : List (List ℕ)) (turn : LabelledTurn) (turns new : List LabelledTurn) → paths ≢ [] → IsTurnOn items object paths turn →
    new ≡ turns ++ turn ∷ [] → AddsTurns items object paths turns new
one_added items object paths turn turns new some t n =
    let same : (label : List ℕ) → slice_get (map label_text (labels items)) object ≡ Some label → label ≡ turn.label = λ label s. some_same (sym s ∙ t.called) in
    record { added = λ label s. n ∙ ap (λ l. turns ++ l) (sym (on_one label paths turn some (same label s) (sym t.by))) }

pub none_added : (items : List Item) (object : ℕ) (paths : List (List ℕ)) (turns new : List LabelledTurn) → paths ≡ [] → new ≡ turns → AddsTurns items object paths turns new
none_added items object paths turns new none n =
    record { added = λ label s. n ∙ sym (ap (λ ps. turns ++ turns_on_one label ps) none ∙ append-nil turns) }

pub all_more : (turns : List LabelledTurn) (turn : LabelledTurn) (new : List LabelledTurn) → All IsTurn turns → IsTurn turn → new ≡ turns ++ turn ∷ [] → All IsTurn new
all_more turns turn new h t n =
    subst (All IsTurn) (sym n) (All-append IsTurn turns (turn ∷ []) h (All-cons IsTurn turn [] t (All-nil IsTurn)))

pub label_at : {A : Type 0} (ls : List A) (i : ℕ) → i < length ls → (l : A) × (slice_get ls i ≡ Some l)
label_at [] i lt = absurd (omega arith)
label_at (l ∷ ls) zero lt = (l, refl)
label_at (l ∷ ls) (suc i) lt = label_at ls i (omega arith)

-- turns on one object more
pub one_object : (items : List Item) (lists : List (List (List ℕ))) (i : ℕ) (paths : List (List ℕ)) (turns new : List LabelledTurn) → slice_get lists i ≡ Some paths →
    i < length (sizes items) → AddsTurns items i paths turns new → turns ≡ turns_from 0 (take i (labels items)) (by lists) →
    new ≡ turns_from 0 (take (i + 1) (labels items)) (by lists)
one_object items lists i paths turns new s lt a e =
    let l = label_at (labels items) i (let n = labels_counted items in omega (arith, lt, n)) in
    let here : by lists i ≡ paths = get_or_from_slice_get lists i paths [] s in
    let called : slice_get (map label_text (labels items)) i ≡ Some (label_text l.0) = slice_get-map label_text (labels items) i ∙ ap (option_map label_text) l.1 in
    a.added (label_text l.0) called ∙ ap (λ x. x ++ turns_on_one (label_text l.0) paths) e
    ∙ ap (λ x. turns_from 0 (take i (labels items)) (by lists) ++ turns_on_one (label_text l.0) x) (sym here)
    ∙ sym (turns_step (labels items) i l.0 (by lists) l.1)

pub all_turns : (items : List Item) (i : ℕ) (turns : List LabelledTurn) (T : ℕ → List (List ℕ)) → length (sizes items) ≤ i →
    turns ≡ turns_from 0 (take i (labels items)) T → turns ≡ labelled_turns items T
all_turns items i turns T le e =
    let whole : take i (labels items) ≡ labels items = take_all i (labels items) (let n = labels_counted items in omega (arith, le, n)) in
    e ∙ ap (λ ls. turns_from 0 ls T) whole
