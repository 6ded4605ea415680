use Rattle.std.proofs.Common.{◌≡◌, ◌≢◌, ◌<◌, ◌≤◌, ℕ, true, false, length, ◌+◌, List, nat_eq, nat_lt, ltb, sym, ap, subst, arith, rules}
use Rattle.std.specs.List.Sorted.{IsPartitionedBy, IsPartitionPoint}
use Rattle.std.proofs.lemmas.List.Sorted.{IsPartitionPoint-from_clause}
use Rattle.std.specs.Prelude.{slice_index_or}
use Rattle.proc_expand.specs.declared.sheet.Piece.{Piece}
use Rattle.proc_expand.specs.steps.Kept.{Ascend}
use Rattle.proc_expand.proofs.First.{by_case, eq_true, eq_false, lt_true, lt_is, lt_false}
use Rattle.proc_expand.proofs.Origins.{hit, miss}
use Rattle.proc_expand.proofs.expanding.origin_in.Goals as goal

abbrev no_piece : Piece
no_piece = record { start = 0; stop = 0; origin = record { line = 0; column = 0 } }

-- of the pieces those that begin before a byte stand first
parted : (ps : List Piece) (start : ℕ) → Ascend ps → IsPartitionedBy (λ (p : Piece). ltb p.start start) ps
parted ps start is i j d le l h =
    by_case (nat_eq i j) (λ q. subst (λ k. ltb (slice_index_or ps k d).start start ≡ true) (sym (eq_true i j q)) h)
    (λ q. let other = eq_false i j q in let up = is.up i j d (omega (arith, le, other)) l in
    let below = lt_true (slice_index_or ps j d).start start h in lt_is (slice_index_or ps i d).start start (omega (arith, up, below)))

-- where no piece begins before a byte from one on, and that one does not begin there, none does
none_here : (ps : List Piece) (k start : ℕ) (d : Piece) → Ascend ps → ((i : ℕ) → i < k → (slice_index_or ps i d).start < start)
    → start ≤ (slice_index_or ps k d).start → (slice_index_or ps k d).start ≢ start → (j : ℕ) → j < length ps → (slice_index_or ps j d).start ≢ start
none_here ps k start d is before from not j l =
    by_case (nat_lt j k) (λ q. let b = before j (lt_true j k q) in λ e. omega (arith, b, e))
    (λ q. let m = lt_false j k q in
    by_case (nat_eq k j) (λ s. subst (λ i. (slice_index_or ps i d).start ≢ start) (eq_true k j s) not)
    (λ s. let other = eq_false k j s in let b = is.up k j d (omega (arith, other, m)) l in λ e. omega (arith, b, from, e)))

-- up to one place they do, and from there on they do not
pub record IsSplit (ps : List Piece) (start place : ℕ) : Type 0 where
  pub before : (i : ℕ) → i < place → (slice_index_or ps i no_piece).start < start
  pub after : (i : ℕ) → place ≤ i → i < length ps → start ≤ (slice_index_or ps i no_piece).start

split : (ps : List Piece) (start place : ℕ)
    → IsPartitionPoint (λ (p : Piece). ltb p.start start ≡ true) (λ (p : Piece). ltb p.start start ≡ false) ps place → IsSplit ps start place
split ps start place h = record {
  before = λ i l. lt_true (slice_index_or ps i no_piece).start start (h.0 i no_piece (omega arith) l);
  after = λ i m l. lt_false (slice_index_or ps i no_piece).start start (h.1 i no_piece m l);
}

pub returns-then-place-pieces : goal.returns-then-place-pieces
returns-then-place-pieces c =
    let ps = c.args.pieces.now in let start = c.args.start in
    let point = IsPartitionPoint-from_clause (λ (p : Piece). ltb p.start start) ps _ c.partition_point-place.ensures.partitioned (parted ps start c.requires)
    (λ a r q k. search rules) in
    let is = split ps start c.partition_point-place.result point in
    miss c.args.end (start + 1) ps no_piece
    (λ j l. let b = is.before j (let t = c.if-place-pieces.true in omega (arith, t, l)) in λ e. omega (arith, b, e))

pub returns-then-pieces-place : goal.returns-then-pieces-place
returns-then-pieces-place c =
    let ps = c.args.pieces.now in let start = c.args.start in
    let point = IsPartitionPoint-from_clause (λ (p : Piece). ltb p.start start) ps _ c.partition_point-place.ensures.partitioned (parted ps start c.requires)
    (λ a r q k. search rules) in
    let is = split ps start c.partition_point-place.result point in
    hit c.args.end (start + 1) ps c.partition_point-place.result no_piece (let b = c.partition_point-place.ensures.bound in let t = c.if-place-pieces.false in omega (arith, b, t))
    (λ j l. let b = is.before j l in omega (arith, b)) (ap (λ i. i + 1) c.if-pieces-place.true)

pub returns-else-pieces-place : goal.returns-else-pieces-place
returns-else-pieces-place c =
    let ps = c.args.pieces.now in let start = c.args.start in
    let point = IsPartitionPoint-from_clause (λ (p : Piece). ltb p.start start) ps _ c.partition_point-place.ensures.partitioned (parted ps start c.requires)
    (λ a r q k. search rules) in
    let place = c.partition_point-place.result in let is = split ps start place point in
    let within : place < length ps = (let b = c.partition_point-place.ensures.bound in let t = c.if-place-pieces.false in omega (arith, b, t)) in
    let n = none_here ps place start no_piece c.requires is.before (is.after place (omega arith) within) c.if-pieces-place.false in
    miss c.args.end (start + 1) ps no_piece (λ j l. let m = n j l in λ e. m (omega (arith, e)))
