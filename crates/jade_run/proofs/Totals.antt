-- How many cells the objects of a run have, and their sum, one object more at a time.
use Rattle.std.proofs.Common.{◌≡◌, ℕ, zero, suc, ◌+◌, ◌≤◌, true, List, [], ◌∷◌, length, map, take, Some, refl, ap, ◌∙◌, subst, sym, arith}
use Rattle.std.specs.Prelude.{ℤ, pos, fold, ◌+ℤ◌, sum}
use Rattle.std.specs.List.{slice_get, sum_by}
use Rattle.std.proofs.lemmas.Bool.{leb-true}
use Rattle.std.proofs.lemmas.List.{length-set, length-replicate}
use Rattle.std.proofs.lemmas.List.Folds.{fold-map}
use Rattle.std.proofs.lemmas.List.Sums.{fold_more, sum-map, sum_by_more, sum_by-take-le}
use Rattle.std.proofs.lemmas.Option.{slice_get_within, get_or_from_slice_get}
use Rattle.jade_syntax.specs.declared.tree.Item.{Item}
use Rattle.jade_syntax.specs.Limits.{within_limits, few_cells}
use Rattle.jade_syntax.specs.Objects.{sizes}
use Rattle.jade_meaning.specs.Serial.{Store, Deed, DidTurn, DidRead, DidWrite, DidCreate, DidEnd, Mark, with_cell, done_to, after, zeros}
use Rattle.jade_run.specs.Sums.{sum_of, sum_of_cells}
use Rattle.jade_run.proofs.Signed.{and_second}

-- a write keeps how many cells each object has
kept : (store : Store) (o c : ℕ) (v : ℤ) → map length (with_cell store o c v) ≡ map length store
kept [] o c v = refl
kept (x ∷ xs) zero c v = ap (λ n. n ∷ map length xs) (length-set x c v)
kept (x ∷ xs) (suc o) c v = ap (λ ns. length x ∷ ns) (kept xs o c v)

deed_keeps : (d : Deed) (store : Store) → map length (done_to d store) ≡ map length store
deed_keeps (DidTurn o) store = refl
deed_keeps (DidRead o c v) store = refl
deed_keeps (DidWrite o c v) store = kept store o c v
deed_keeps (DidCreate t n) store = refl
deed_keeps (DidEnd b n) store = refl

marks_keep : (ms : List Mark) (store : Store) → map length (after ms store) ≡ map length store
marks_keep [] store = refl
marks_keep (m ∷ ms) store = marks_keep ms (done_to m.deed store) ∙ deed_keeps m.deed store

zeros_have : (ns : List ℕ) → map length (zeros ns) ≡ ns
zeros_have [] = refl
zeros_have (n ∷ ns) = ap (λ k. k ∷ map length (zeros ns)) (length-replicate n (pos 0)) ∙ ap (λ ks. n ∷ ks) (zeros_have ns)

-- after any marks the objects of a program within its limits have no more cells than it may declare
pub few_after : (items : List Item) (ms : List Mark) → within_limits items ≡ true → sum_by length (after ms (zeros (sizes items))) ≤ 1048576
few_after items ms h =
    let few : few_cells items ≡ true = and_second _ _ h in
    let total : sum (sizes items) ≤ 1048576 = leb-true (sum (sizes items)) 1048576 (and_second _ _ few) in
    let P : ℕ → Type 0 = λ n. n ≤ 1048576 in
    subst P (ap sum (sym (marks_keep ms (zeros (sizes items)) ∙ zeros_have (sizes items))) ∙ sum-map length (after ms (zeros (sizes items)))) total

pub cells_more : (os : List (List ℤ)) (i : ℕ) (x : List ℤ) → slice_get os i ≡ Some x → sum_by length (take (i + 1) os) ≡ sum_by length (take i os) + length x
cells_more os i x h =
    sum_by_more length os i x (slice_get_within os i x h) ∙ ap (λ (y : List ℤ). sum_by length (take i os) + length y) (get_or_from_slice_get os i x x h)

pub cells_within : (os : List (List ℤ)) (i : ℕ) (x : List ℤ) (most : ℕ) → slice_get os i ≡ Some x → sum_by length os ≤ most →
    sum_by length (take i os) + length x ≤ most
cells_within os i x most h le = let more = cells_more os i x h in let part = sum_by-take-le length os (i + 1) in omega arith

pub sum_more : (os : List (List ℤ)) (i : ℕ) (x : List ℤ) → slice_get os i ≡ Some x → sum_of_cells (take (i + 1) os) ≡ sum_of_cells (take i os) +ℤ sum_of x
sum_more os i x h =
    let f : ℤ → List ℤ → ℤ = λ a y. a +ℤ sum_of y in
    fold-map ◌+ℤ◌ sum_of (pos 0) (take (i + 1) os) ∙ fold_more f (pos 0) os i x (slice_get_within os i x h)
    ∙ ap (f (fold f (pos 0) (take i os))) (get_or_from_slice_get os i x x h)
    ∙ ap (λ z. z +ℤ sum_of x) (sym (fold-map ◌+ℤ◌ sum_of (pos 0) (take i os)))
