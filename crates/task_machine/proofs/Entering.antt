-- What the first entry, and the first change, tell of the entries from an object on.
use Rattle.std.proofs.Common.{◌≡◌, ℕ, ◌+◌, ◌-◌, ◌<◌, ◌≤◌, List, [], ◌∷◌, ◌++◌, map, length, Bool, true, false, Option, Some, None}
use Rattle.std.proofs.Common.{refl, sym, ap, ap₂, ◌∙◌, arith}
use Rattle.std.specs.Prelude.{if◌then◌else◌, IfSome, IfNone}
use Rattle.std.specs.List.{flat_map}
use Rattle.jade_base.specs.declared.place.ObjectId.{ObjectId}
use Rattle.jade_base.specs.declared.rights.Rights.{Rights}
use Rattle.jade_base.specs.Rights.{no_rights, has_rights}
use Rattle.jade_base.specs.Specification.{Specification as Sparse, rights_in}
use Rattle.access_spec.specs.Copies.{IsSameBetween, copied}
use Rattle.jade_meaning.specs.Specification.{numbers, rights_on}
use Rattle.jade_meaning.specs.Spread.{spread}
use Rattle.jade_meaning.specs.Talk.{Event, Enter, Leave, Shift, when, shift}
use Rattle.task_machine.specs.Stages.{id, copy_spread, rights_at}
use Rattle.task_machine.specs.Executions.{Execution}
use Rattle.task_machine.specs.Machines.{amended_at, made_at}
use Rattle.task_machine.specs.Asks.{enters_from, follows, leaves_from, shifts_from}
use Rattle.task_machine.specs.steps.Finding.{IsFreeBetween, IsNextChange, IsNextEntry}
use Rattle.task_machine.proofs.Tables.{table_at, table_long}
use Rattle.task_machine.proofs.Finding.{rights_itself, tells_first, tells_none}

-- a table of n objects
module _ (g : ℕ → Rights) (n : ℕ) where
  long : length (map g (numbers 0 n)) ≡ n
  long = table_long g 0 n

  at : (o : ℕ) → o < n → rights_on (map g (numbers 0 n)) o ≡ g o
  at o lt = let z : 0 + o ≡ o = omega arith in table_at g 0 n o no_rights lt ∙ ap g z

-- what is told of each object from a number on
abbrev told_from : (ℕ → List Event) → ℕ → ℕ → List Event
told_from f from n = flat_map f (numbers from (n - from))

first_told : (f : ℕ → List Event) (from n o : ℕ) (e : Event) → from ≤ o → o < n → f o ≡ e ∷ [] → ((j : ℕ) → from ≤ j → j < o → f j ≡ [])
    → told_from f from n ≡ e ∷ told_from f (o + 1) n
first_told f from n o e reached within is none =
    let z : from + (n - from) ≡ n = omega (arith, reached, within) in
    tells_first f from (n - from) o reached (omega (arith, z, within)) none
    ∙ ap (λ l. l ++ flat_map f (numbers (o + 1) ((from + (n - from)) - (o + 1)))) is
    ∙ ap (λ m. e ∷ flat_map f (numbers (o + 1) (m - (o + 1)))) z

none_told : (f : ℕ → List Event) (from n : ℕ) → ((j : ℕ) → from ≤ j → j < n → f j ≡ []) → told_from f from n ≡ []
none_told f from n none = tells_none f from (n - from) (λ j le lt. none j le (omega (arith, le, lt)))

-- the entries of a specification, each with what is told of it
module _ (tell : ℕ → Rights → Event) (n : ℕ) (es : List (ObjectId × Rights)) where
  abbrev tells : ℕ → List Event
  tells o = when (has_rights (rights_on (spread n es) o)) (tell o (rights_on (spread n es) o))

  abbrev rest : ℕ → List Event
  rest from = flat_map tells (numbers from (length (spread n es) - from))

  spread_long : length (spread n es) ≡ n
  spread_long = long (λ o. rights_in es (id o)) n

  spread_at : (o : ℕ) → o < n → rights_on (spread n es) o ≡ rights_in es (id o)
  spread_at o lt = at (λ o. rights_in es (id o)) n o lt

  free_tells : (from to : ℕ) → to ≤ n → IsFreeBetween es from to → (j : ℕ) → from ≤ j → j < to → tells j ≡ []
  free_tells from to within h j le lt =
      let a : rights_on (spread n es) j ≡ no_rights = spread_at j (omega (arith, lt, within)) ∙ h (id j) le lt in
      ap (λ x. when (has_rights x) (tell j x)) a

  pub entry_first : (from : ℕ) (o : ObjectId) (r : Rights) → IsNextEntry es from n o r → rest from ≡ tell o.0 r ∷ rest (o.0 + 1)
  entry_first from o r h =
      let a : rights_on (spread n es) o.0 ≡ r = spread_at o.0 h.within ∙ h.rights in
      let is : tells o.0 ≡ tell o.0 r ∷ [] = ap (λ x. when (has_rights x) (tell o.0 x)) a ∙ ap (λ b. when b (tell o.0 r)) h.some in
      let l = h.within in
      ap (λ m. flat_map tells (numbers from (m - from))) spread_long
      ∙ first_told tells from n o.0 (tell o.0 r) h.reached h.within is (free_tells from o.0 (omega (arith, l)) h.free)
      ∙ sym (ap (λ m. tell o.0 r ∷ flat_map tells (numbers (o.0 + 1) (m - (o.0 + 1)))) spread_long)

  pub entry_none : (from : ℕ) → IsFreeBetween es from n → rest from ≡ []
  entry_none from h = ap (λ m. flat_map tells (numbers from (m - from))) spread_long ∙ none_told tells from n (free_tells from n (omega arith) h)

either_shift : (o : ℕ) (r : Rights) (b : Bool) → (if b then Shift o r ∷ [] else Leave o ∷ []) ≡ (if b then Shift o r else Leave o) ∷ []
either_shift o r true = refl
either_shift o r false = refl

-- the changes of a specification
module _ (n : ℕ) (s : Sparse) where
  abbrev shifts_at : ℕ → List Event
  shifts_at o = shift (rights_on (spread n s.entries) o) (rights_on (copy_spread n s) o) o

  copy_long : length (copy_spread n s) ≡ n
  copy_long = long (λ o. copied s (id o)) n

  pair_at : (o : ℕ) (x y : Rights) → o < n → rights_in s.entries (id o) ≡ x → copied s (id o) ≡ y → shifts_at o ≡ shift x y o
  pair_at o x y lt p q =
      let a : rights_on (spread n s.entries) o ≡ x = at (λ o. rights_in s.entries (id o)) n o lt ∙ p in
      let b : rights_on (copy_spread n s) o ≡ y = at (λ o. copied s (id o)) n o lt ∙ q in
      ap (λ z. shift z (rights_on (copy_spread n s) o) o) a ∙ ap (λ z. shift x z o) b

  same_shifts : (from to : ℕ) → to ≤ n → IsSameBetween s from to → (j : ℕ) → from ≤ j → j < to → shifts_at j ≡ []
  same_shifts from to within h j le lt =
      let x = rights_in s.entries (id j) in
      pair_at j x x (omega (arith, lt, within)) refl (h (id j) le lt)
      ∙ ap (λ b. if b then [] else (if has_rights x then Shift j x ∷ [] else Leave j ∷ [])) (rights_itself x)

  pub change_first : (from : ℕ) (o : ObjectId) (r : Rights) → IsNextChange s from n o r
      → shifts_from from (spread n s.entries) (copy_spread n s) ≡ follows o.0 r ∷ shifts_from (o.0 + 1) (spread n s.entries) (copy_spread n s)
  change_first from o r h =
      let is : shifts_at o.0 ≡ follows o.0 r ∷ [] =
      pair_at o.0 (rights_in s.entries o) r h.within refl h.copy
      ∙ ap (λ b. if b then [] else (if has_rights r then Shift o.0 r ∷ [] else Leave o.0 ∷ [])) h.differs
      ∙ either_shift o.0 r (has_rights r) in
      let l = h.within in
      ap (λ m. flat_map shifts_at (numbers from (m - from))) copy_long
      ∙ first_told shifts_at from n o.0 (follows o.0 r) h.reached h.within is (same_shifts from o.0 (omega (arith, l)) h.same)
      ∙ sym (ap (λ m. follows o.0 r ∷ flat_map shifts_at (numbers (o.0 + 1) (m - (o.0 + 1)))) copy_long)

  pub change_none : (from : ℕ) → IsSameBetween s from n → shifts_from from (spread n s.entries) (copy_spread n s) ≡ []
  change_none from h =
      ap (λ m. flat_map shifts_at (numbers from (m - from))) copy_long ∙ none_told shifts_at from n (same_shifts from n (omega arith) h)

pub if_none : (r : Option ObjectId) (P : Type 0) → P → IfNone r P
if_none None P p = p
if_none (Some x) P p = tt

-- an execution that is `now`, the specification of its child, or its own, and the number of its objects
module _ (now e : Execution) (s : Sparse) (n from : ℕ) (here : e ≡ now) (count : n ≡ e.stage.objects) where
  made_is : s ≡ e.stage.child → spread n s.entries ≡ made_at now
  made_is q = ap₂ (λ a b. spread a b.entries) count q ∙ ap made_at here

  rights_is : s ≡ e.stage.spec → spread n s.entries ≡ rights_at now.stage
  rights_is q = ap₂ (λ a b. spread a b.entries) count q ∙ ap (λ (x : Execution). rights_at x.stage) here

  amended_is : s ≡ e.stage.spec → copy_spread n s ≡ amended_at now
  amended_is q = ap₂ (λ a b. copy_spread a b) count q ∙ ap amended_at here

  pub enters_first : (r : Option (ObjectId × Rights)) → s ≡ e.stage.child → IfSome r (λ next. IsNextEntry s.entries from n next.0 next.1)
      → IfSome r (λ next. enters_from from (made_at now) ≡ Enter next.0.0 next.1 ∷ enters_from (next.0.0 + 1) (made_at now))
  enters_first None q h = tt
  enters_first (Some x) q h =
      let m : spread n s.entries ≡ made_at now = made_is q in
      ap (λ l. enters_from from l) (sym m) ∙ entry_first Enter n s.entries from x.0 x.1 h ∙ ap (λ l. Enter x.0.0 x.1 ∷ enters_from (x.0.0 + 1) l) m

  pub enters_none : (r : Option (ObjectId × Rights)) → s ≡ e.stage.child → IfNone r (IsFreeBetween s.entries from n)
      → IfNone r (enters_from from (made_at now) ≡ [])
  enters_none None q h = ap (λ l. enters_from from l) (sym (made_is q)) ∙ entry_none Enter n s.entries from h
  enters_none (Some x) q h = tt

  pub shifts_first : (r : Option (ObjectId × Rights)) → s ≡ e.stage.spec → IfSome r (λ next. IsNextChange s from n next.0 next.1)
      → IfSome r (λ next. shifts_from from (rights_at now.stage) (amended_at now)
      ≡ follows next.0.0 next.1 ∷ shifts_from (next.0.0 + 1) (rights_at now.stage) (amended_at now))
  shifts_first None q h = tt
  shifts_first (Some x) q h =
      let a : spread n s.entries ≡ rights_at now.stage = rights_is q in
      let b : copy_spread n s ≡ amended_at now = amended_is q in
      ap₂ (λ k l. shifts_from from k l) (sym a) (sym b) ∙ change_first n s from x.0 x.1 h
      ∙ ap₂ (λ k l. follows x.0.0 x.1 ∷ shifts_from (x.0.0 + 1) k l) a b

  pub shifts_none : (r : Option (ObjectId × Rights)) → s ≡ e.stage.spec → IfNone r (IsSameBetween s from n)
      → IfNone r (shifts_from from (rights_at now.stage) (amended_at now) ≡ [])
  shifts_none None q h = ap₂ (λ k l. shifts_from from k l) (sym (rights_is q)) (sym (amended_is q)) ∙ change_none n s from h
  shifts_none (Some x) q h = tt

  pub leaves_first : (o : ObjectId) (r : Rights) → s ≡ e.stage.spec → IsNextEntry s.entries from n o r
      → leaves_from from (rights_at now.stage) ≡ Leave o.0 ∷ leaves_from (o.0 + 1) (rights_at now.stage)
  leaves_first o r q h =
      let a : spread n s.entries ≡ rights_at now.stage = rights_is q in
      ap (λ l. leaves_from from l) (sym a) ∙ entry_first (λ i x. Leave i) n s.entries from o r h ∙ ap (λ l. Leave o.0 ∷ leaves_from (o.0 + 1) l) a

  pub leaves_none : s ≡ e.stage.spec → IsFreeBetween s.entries from n → leaves_from from (rights_at now.stage) ≡ []
  leaves_none q h = ap (λ l. leaves_from from l) (sym (rights_is q)) ∙ entry_none (λ i x. Leave i) n s.entries from h
