-- Owners where the roll grows and shrinks, and the paths of seats on it.
use Rattle.std.proofs.Common.{◌≡◌, ◌≢◌, ℕ, List, [], ◌∷◌, ◌++◌, map, set, refl, sym, ap, ◌∙◌}
use Rattle.std.proofs.Common.{subst, arith, Option, Some, None}
use mathlib.Core.Logic.{dite}
use mathlib.Core.Option.{some}
use native.Mathlib.Decide.{ℕ_discrete}
use lib.ListN.{get_elem?}
use Rattle.atomic_table.proofs.Lists.{set_here, set_else}
use Rattle.schedule_core.specs.declared.steps.Seat.{Seat}
use Rattle.object_table.specs.Views.{View}
use Rattle.object_table.specs.Rule.{pass_of, kid_of, Absent, Spot, Owned, by_pass, by_maker}
use Rattle.object_table.proofs.Lists.{at_inside, same_view}

cons_same : {x y : ℕ} {xs ys : List ℕ} → x ∷ xs ≡ y ∷ ys → (x ≡ y) × (xs ≡ ys)
cons_same {x} {y} {xs} {ys} e = (ap (first x) e, ap rest e)
  where
    first : ℕ → List ℕ → ℕ
    first d [] = d
    first d (z ∷ zs) = z

    rest : List ℕ → List ℕ
    rest [] = []
    rest (z ∷ zs) = zs

-- a new owner among the others leaves each where it was
absent_more : (a b : List ℕ) (k y : ℕ) → k ≢ y → Absent y (a ++ b) → Absent y (a ++ (k ∷ b))
absent_more [] b k y ne h = (ne, h)
absent_more (z ∷ a) b k y ne h = (h.0, absent_more a b k y ne h.1)

spot_at : (a b front back : List ℕ) (k y : ℕ) → k ≢ y → a ++ b ≡ front ++ (y ∷ back) → Absent y front → Absent y back → Spot (a ++ (k ∷ b)) y
spot_at [] b front back k y ne e f g = record { front = k ∷ front; back = back; is = ap (λ xs. k ∷ xs) e; before = (ne, f); after = g }
spot_at (z ∷ a) b [] back k y ne e f g =
    let c = cons_same e in
    record {
      front = [];
      back = a ++ (k ∷ b);
      is = ap (λ x. x ∷ (a ++ (k ∷ b))) c.0;
      before = tt;
      after = absent_more a b k y ne (subst (Absent y) (sym c.1) g);
    }
spot_at (z ∷ a) b (w ∷ front) back k y ne e f g =
    let c = cons_same e in
    let s = spot_at a b front back k y ne c.1 f.1 g in
    record { front = w ∷ s.front; back = s.back; is = λ i. c.0 i ∷ s.is i; before = (f.0, s.before); after = s.after }

pub spot_more : (a b : List ℕ) (k y : ℕ) → k ≢ y → Spot (a ++ b) y → Spot (a ++ (k ∷ b)) y
spot_more a b k y ne s = spot_at a b s.front s.back k y ne s.is s.before s.after

-- and so does an owner that goes
absent_less : (a b : List ℕ) (k y : ℕ) → Absent y (a ++ (k ∷ b)) → Absent y (a ++ b)
absent_less [] b k y h = h.1
absent_less (z ∷ a) b k y h = (h.0, absent_less a b k y h.1)

less_at : (a b front back : List ℕ) (k y : ℕ) → k ≢ y → a ++ (k ∷ b) ≡ front ++ (y ∷ back) → Absent y front → Absent y back → Spot (a ++ b) y
less_at [] b [] back k y ne e f g = absurd (ne (cons_same e).0)
less_at [] b (w ∷ front) back k y ne e f g = record { front = front; back = back; is = (cons_same e).1; before = f.1; after = g }
less_at (z ∷ a) b [] back k y ne e f g =
    let c = cons_same e in
    record { front = []; back = a ++ b; is = ap (λ x. x ∷ (a ++ b)) c.0; before = tt; after = absent_less a b k y (subst (Absent y) (sym c.1) g) }
less_at (z ∷ a) b (w ∷ front) back k y ne e f g =
    let c = cons_same e in
    let s = less_at a b front back k y ne c.1 f.1 g in
    record { front = w ∷ s.front; back = s.back; is = λ i. c.0 i ∷ s.is i; before = (f.0, s.before); after = s.after }

pub spot_less : (a b : List ℕ) (k y : ℕ) → k ≢ y → Spot (a ++ (k ∷ b)) y → Spot (a ++ b) y
spot_less a b k y ne s = less_at a b s.front s.back k y ne s.is s.before s.after

pub map_both : (f : ℕ → Seat) (a b : List ℕ) → map f (a ++ b) ≡ map f a ++ map f b
map_both f [] b = refl
map_both f (x ∷ a) b = ap (λ ts. f x ∷ ts) (map_both f a b)

pub none_some : (s : Seat) → ◌≡◌ {A = Option Seat} None (Some s) → ⊥
none_some s e = cc

pub some_seat : (s t : Seat) → ◌≡◌ {A = Option Seat} (Some s) (Some t) → s ≡ t
some_seat s t e = cc

-- a pass without a child that has no pass: it keeps what is its own, has no child on the roll, and none stays of it once it has gone
module _ (views : List View) (id x : ℕ) (v w : View) (at : get_elem? views id ≡ some v) (born : v.unborn ≡ None) where
  pub owned_more : w.live ≡ v.live → Owned views x → Owned (set views id w) x
  owned_more l (by_pass j z e live is) = dite (ℕ_discrete j id)
      (λ same. by_pass id w (set_here views id w (at_inside views id v at)) (l ∙ ap (λ (k : View). k.live) (same_view views id j v z at e same) ∙ live) (is
      ∙ ap pass_of same))
      (λ other. by_pass j z (set_else views id j w other ∙ e) live is)
  owned_more l (by_maker j z kid e unborn is) = dite (ℕ_discrete j id)
      (λ same. absurd (none_some kid (sym born ∙ ap (λ (k : View). k.unborn) (same_view views id j v z at e same) ∙ unborn)))
      (λ other. by_maker j z kid (set_else views id j w other ∙ e) unborn is)

  pub no_kid_of : Owned views x → x ≢ kid_of id
  no_kid_of (by_pass j z e live is) = λ same. absurd (omega (arith, is, same))
  no_kid_of (by_maker j z kid e unborn is) = λ same. absurd (let i : j ≡ id = omega (arith, is, same) in
      none_some kid (sym born ∙ ap (λ (k : View). k.unborn) (same_view views id j v z at e i) ∙ unborn))

  pub owned_gone : x ≢ pass_of id → Owned views x → Owned (set views id w) x
  owned_gone ne (by_pass j z e live is) = by_pass j z (set_else views id j w (λ same. ne (is ∙ ap pass_of same)) ∙ e) live is
  owned_gone ne (by_maker j z kid e unborn is) = dite (ℕ_discrete j id)
      (λ same. absurd (none_some kid (sym born ∙ ap (λ (k : View). k.unborn) (same_view views id j v z at e same) ∙ unborn)))
      (λ other. by_maker j z kid (set_else views id j w other ∙ e) unborn is)
