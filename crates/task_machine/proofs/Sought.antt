-- What is to be taken or given up, once one object's content and mark are others.
use Rattle.std.proofs.Common.{◌≡◌, ℕ, zero, suc, ◌<◌, ◌≤◌, ◌⊎◌, inl, inr, List, [], ◌∷◌, Bool, true, false, Option, refl, sym, ap, ◌∙◌, arith}
use Rattle.std.specs.Prelude.{◌&&◌, not, is_some, nat_eq, if◌then◌else◌}
use Rattle.std.proofs.lemmas.Bool.{cases_eq, eq-eqb, ne_eqb}
use Rattle.jade_base.specs.Held.{Held}
use Rattle.jade_base.specs.Rights.{mode_of}
use Rattle.jade_meaning.specs.Specification.{rights_on, same_hold, yields, commuting_on}
use Rattle.jade_meaning.specs.Talk.{held}
use Rattle.task_machine.specs.declared.holdings.Row.{Row}
use Rattle.task_machine.specs.declared.next.Phase.{Phase}
use Rattle.task_machine.specs.declared.next.Phase.TheVariants as phase
use Rattle.task_machine.specs.Playing.{contents_of}
use Rattle.task_machine.specs.Stages.{rights_at}
use Rattle.task_machine.specs.Telling.{mode_held}
use Rattle.task_machine.specs.Executions.{Execution, with_content}
use Rattle.task_machine.specs.Left.{IsNone, has_mode, is_own}
use Rattle.task_machine.specs.Machines.{amended_at, due_in, holds_of, is_to_move, made_at, marks_after, with_mark}
use Rattle.task_machine.proofs.Marks.{due_same, hold_at, hold_past}

-- the marks of other objects
mark_other : (o : ℕ) (b : Bool) (rs : List Row) (ds : List Bool) (j : ℕ) → (j ≡ o → ⊥) → due_in rs (with_mark o b rs ds) j ≡ due_in rs ds j
mark_other o b [] ds j no_o = refl
mark_other o b (r ∷ rs) [] j no_o = refl
mark_other o b (r ∷ rs) (d ∷ ds) j no_o = go (cases_eq r.object.0 o) (mark_other o b rs ds j no_o)
  where
    go : (r.object.0 ≡ o) ⊎ (r.object.0 ≡ o → ⊥) → due_in rs (with_mark o b rs ds) j ≡ due_in rs ds j
        → due_in (r ∷ rs) (if nat_eq r.object.0 o then b ∷ ds else d ∷ with_mark o b rs ds) j ≡ (if nat_eq r.object.0 j then d else due_in rs ds j)
    go (inl e) more = rw (eq-eqb r.object.0 o e, ne_eqb r.object.0 j (λ q. no_o (sym q ∙ e))) refl
    go (inr ne) more = rw (ne_eqb r.object.0 o ne) (ap (λ x. if nat_eq r.object.0 j then d else x) more)

pub marks_other : (p : Phase) (o : ℕ) (rs : List Row) (ds : List Bool) (j : ℕ) → (j ≡ o → ⊥) → due_in rs (marks_after p o rs ds) j ≡ due_in rs ds j
marks_other phase.Changing o rs ds j no_o = mark_other o true rs ds j no_o
marks_other phase.Starting o rs ds j no_o = refl
marks_other phase.Taking o rs ds j no_o = refl
marks_other phase.Going o rs ds j no_o = refl
marks_other (phase.Creating number) o rs ds j no_o = refl
marks_other (phase.Ending b) o rs ds j no_o = refl

-- the contents of other objects, and their holds
content_other : (o : ℕ) (h : Option Held) (rs : List Row) (j : ℕ) → (j ≡ o → ⊥) → contents_of (with_content o h rs) j ≡ contents_of rs j
content_other o h [] j no_o = refl
content_other o h (r ∷ rs) j no_o = go (cases_eq r.object.0 o) (content_other o h rs j no_o)
  where
    go : (r.object.0 ≡ o) ⊎ (r.object.0 ≡ o → ⊥) → contents_of (with_content o h rs) j ≡ contents_of rs j
        → contents_of (if nat_eq r.object.0 o then record r { content = h } ∷ rs else r ∷ with_content o h rs) j
        ≡ (if nat_eq r.object.0 j then r.content else contents_of rs j)
    go (inl e) more = rw (eq-eqb r.object.0 o e, ne_eqb r.object.0 j (λ q. no_o (sym q ∙ e))) refl
    go (inr ne) more = rw (ne_eqb r.object.0 o ne) (ap (λ x. if nat_eq r.object.0 j then r.content else x) more)

pub lt_or_le : (i k : ℕ) → (i < k) ⊎ (k < suc i)
lt_or_le i zero = inr (omega arith)
lt_or_le zero (suc k) = inl (omega arith)
lt_or_le (suc i) (suc k) = next (lt_or_le i k)
  where
    next : (i < k) ⊎ (k < suc i) → (suc i < suc k) ⊎ (suc k < suc (suc i))
    next (inl lt) = inl (omega (arith, lt))
    next (inr le) = inr (omega (arith, le))

hold_other : (n o : ℕ) (h : Option Held) (rs : List Row) (j : ℕ) → (j ≡ o → ⊥)
    → held (holds_of n (contents_of (with_content o h rs))) j ≡ held (holds_of n (contents_of rs)) j
hold_other n o h rs j no_o = at (lt_or_le j n)
  where
    at : (j < n) ⊎ (n < suc j) → held (holds_of n (contents_of (with_content o h rs))) j ≡ held (holds_of n (contents_of rs)) j
    at (inl lt) = hold_at n (contents_of (with_content o h rs)) j lt ∙ ap mode_held (content_other o h rs j no_o) ∙ sym (hold_at n (contents_of rs) j lt)
    at (inr le) =
        hold_past n (contents_of (with_content o h rs)) j (omega (arith, le)) ∙ sym (hold_past n (contents_of rs) j (omega (arith, le)))

module _ (e : Execution) (o : ℕ) (h : Option Held) (ds ds' : List Bool) where
  abbrev e' : Execution
  e' = record e { rows = with_content o h e.rows }

  -- of another object the same is to be done
  other_moves : (p : Phase) (j : ℕ) → (j ≡ o → ⊥) → due_in e.rows ds' j ≡ due_in e.rows ds j → is_to_move p e' ds' j ≡ is_to_move p e ds j
  other_moves phase.Starting j no_o q =
      ap (λ d. if (if is_own (commuting_on (rights_at e.stage)) j then false else d) then has_mode (rights_at e.stage) j else false)
      (due_same o h e.rows ds' j ∙ q)
  other_moves phase.Taking j no_o q = ap (λ d. if d then has_mode (rights_at e.stage) j else false) (due_same o h e.rows ds' j ∙ q)
  other_moves phase.Going j no_o q = refl
  other_moves (phase.Creating number) j no_o q = ap (λ x. yields x (rights_on (made_at e) j)) (hold_other e.stage.objects o h e.rows j no_o)
  other_moves phase.Changing j no_o q =
      ap (λ x. is_some x && not (same_hold x (mode_of (rights_on (amended_at e) j)))) (hold_other e.stage.objects o h e.rows j no_o)
  other_moves (phase.Ending b) j no_o q = ap is_some (hold_other e.stage.objects o h e.rows j no_o)

  -- what is done below an object stays done
  stays_done : (p : Phase) (f : Execution) (es : List Bool) (from to : ℕ) → f ≡ e' → es ≡ ds' → to ≤ from → to ≤ o
      → ((j : ℕ) → (j ≡ o → ⊥) → due_in e.rows ds' j ≡ due_in e.rows ds j) → IsNone (is_to_move p e ds) from → IsNone (is_to_move p f es) to
  stays_done p f es from to is marks le below same done j lt =
      ap (λ (x : Execution). is_to_move p x es j) is ∙ ap (λ xs. is_to_move p e' xs j) marks
      ∙ other_moves p j (λ q. omega (arith, lt, below, q)) (same j (λ q. omega (arith, lt, below, q))) ∙ done j (omega (arith, lt, le))

pub done_marked : (e : Execution) (o : ℕ) (h : Option Held) (b : Bool) (ds : List Bool) (p : Phase) (f : Execution) (es : List Bool) (from to : ℕ)
    → f ≡ record e { rows = with_content o h e.rows } → es ≡ with_mark o b e.rows ds → to ≤ from → to ≤ o
    → IsNone (is_to_move p e ds) from → IsNone (is_to_move p f es) to
done_marked e o h b ds p f es from to is marks le below done =
    stays_done e o h ds (with_mark o b e.rows ds) p f es from to is marks le below (mark_other o b e.rows ds) done

pub done_given : (e : Execution) (o : ℕ) (h : Option Held) (ds : List Bool) (p : Phase) (f : Execution) (es : List Bool) (from to : ℕ)
    → f ≡ record e { rows = with_content o h e.rows } → es ≡ marks_after p o e.rows ds → to ≤ from → to ≤ o
    → IsNone (is_to_move p e ds) from → IsNone (is_to_move p f es) to
done_given e o h ds p f es from to is marks le below done =
    stays_done e o h ds (marks_after p o e.rows ds) p f es from to is marks le below (marks_other p o e.rows ds) done

-- nothing is below the first object
pub none_below : (test : ℕ → Bool) (n : ℕ) → n ≡ 0 → IsNone test n
none_below test n q j lt = absurd (omega (arith, q, lt))
