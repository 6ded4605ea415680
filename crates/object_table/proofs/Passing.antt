-- A pass that goes past touches.
use Rattle.std.proofs.Common.{◌≡◌, ℕ, zero, suc, ◌+◌, ◌%◌, ◌^◌, ◌<◌, Bool, true, ◌&&◌, List, [], ◌∷◌, refl, sym, ap, ◌∙◌, arith}
use Rattle.jade_meaning.specs.Talk.{Event, Enter, Enroll, Take, TouchRead, TouchWrite, Wants, Give, Leave, Shift, Resign}
use Rattle.jade_meaning.specs.Walk.{upcoming}
use Rattle.object_table.specs.Views.{View}
use Rattle.object_table.specs.Touches.{touches_first, touched_first, touched, touch_next, passed, all_touches}
use Rattle.object_table.specs.Calls.{Comes}
use Rattle.object_table.specs.steps.Kept.{Rests, shown}
use Rattle.object_table.specs.declared.task.Task.{Task}
use Rattle.object_table.proofs.Touching.{and_left, and_right}

passed_more : (j k : ℕ) (v : View) → passed j (passed k v) ≡ passed (k + j) v
passed_more zero k v = ap (λ i. passed i v) (plus_zero k)
  where
    plus_zero : (x : ℕ) → x ≡ x + 0
    plus_zero x = omega arith
passed_more (suc j) k v = ap touched (passed_more j k v) ∙ ap (λ i. passed i v) (plus_suc k j)
  where
    plus_suc : (x y : ℕ) → suc (x + y) ≡ x + suc y
    plus_suc x y = omega arith

pub both : (a b : Bool) → a ≡ true → b ≡ true → a && b ≡ true
both a b e f = ap (λ x. x && b) e ∙ f

all_more : (j k : ℕ) (v : View) → all_touches k v ≡ true → all_touches j (passed k v) ≡ true → all_touches (k + j) v ≡ true
all_more zero k v a b = ap (λ i. all_touches i v) (plus_zero k) ∙ a
  where
    plus_zero : (x : ℕ) → x + 0 ≡ x
    plus_zero x = omega arith
all_more (suc j) k v a b =
    ap (λ i. all_touches i v) (plus_suc k j)
    ∙ both (all_touches (k + j) v) (touch_next (passed (k + j) v))
    (all_more j k v a (and_left (all_touches j (passed k v)) (touch_next (passed j (passed k v))) b))
    (ap touch_next (sym (passed_more j k v)) ∙ and_right (all_touches j (passed k v)) (touch_next (passed j (passed k v))) b)
  where
    plus_suc : (x y : ℕ) → x + suc y ≡ suc (x + y)
    plus_suc x y = omega arith

touch_done : (l : List Event) (v : View) → touches_first l ≡ true → (touched_first l v).seat.walker.done ≡ suc v.seat.walker.done
touch_done [] v e = absurd (cc)
touch_done (Wants o c ∷ es) v e = refl
touch_done (TouchWrite o c x ∷ es) v e = refl
touch_done (TouchRead o c x ∷ es) v e = absurd (cc)
touch_done (Enter o a ∷ es) v e = absurd (cc)
touch_done (Enroll t m ∷ es) v e = absurd (cc)
touch_done (Take o m ∷ es) v e = absurd (cc)
touch_done (Give o ∷ es) v e = absurd (cc)
touch_done (Leave o ∷ es) v e = absurd (cc)
touch_done (Shift o a ∷ es) v e = absurd (cc)
touch_done (Resign b m ∷ es) v e = absurd (cc)

pub passed_done : (k : ℕ) (v : View) → all_touches k v ≡ true → (passed k v).seat.walker.done ≡ v.seat.walker.done + k
passed_done zero v a = plus_zero v.seat.walker.done
  where
    plus_zero : (x : ℕ) → x ≡ x + 0
    plus_zero x = omega arith
passed_done (suc k) v a =
    touch_done (upcoming (passed k v).seat.walker) (passed k v) (and_right (all_touches k v) (touch_next (passed k v)) a)
    ∙ ap suc (passed_done k v (and_left (all_touches k v) (touch_next (passed k v)) a)) ∙ plus_suc v.seat.walker.done k
  where
    plus_suc : (x y : ℕ) → suc (x + y) ≡ x + suc y
    plus_suc x y = omega arith

module _ (t : Task) (r : Rests t) (events k : ℕ) (fits : events < 18446744073709551616) (comes : Comes k events (shown t)) where
  -- the counts do not pass the bound
  exact : t.events ≡ (shown t).seat.walker.done
  exact = let a = r.events in let b = comes.count in omega (arith, a, b, fits)

  pub step_is : (d : ℕ) → events ≡ t.events + d → d ≡ k
  step_is d e = let a = exact in let b = comes.count in omega (arith, a, b, e)

  pub not_less : t.events < suc events
  not_less = let a = exact in let b = comes.count in omega (arith, a, b)

  pub no_overflow : t.touched + k < 18446744073709551616
  no_overflow = let a = passed_done t.touched t.seat.me.0 r.touches in let b = comes.count in omega (arith, a, b, fits)

  pub past_shown : passed (t.touched + k) t.seat.me.0 ≡ passed k (shown t)
  past_shown = sym (passed_more k t.touched t.seat.me.0)

  pub past_rests : Rests (record t { touched = t.touched + k; events = events })
  past_rests = record {
    holds = r.holds;
    idle = r.idle;
    touches = all_more k t.touched t.seat.me.0 r.touches comes.touches;
    path = r.path;
    spare = r.spare;
    children = r.children;
    events = small events fits ∙ ap (λ x. x % 2 ^ 64) (comes.count ∙ sym (passed_done k (shown t) comes.touches)
        ∙ ap (λ (z : View). z.seat.walker.done) (passed_more k t.touched t.seat.me.0));
    over = r.over;
    tickets = r.tickets;
    notes = r.notes;
    fed = r.fed;
    rich = r.rich;
    kid = r.kid;
  }
    where
      small : (x : ℕ) → x < 18446744073709551616 → x ≡ x % 2 ^ 64
      small x lt = omega (arith, lt)
