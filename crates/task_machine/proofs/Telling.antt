-- What a task tells, from what is played of it.
use Rattle.std.proofs.Common.{
  ◌≡◌,
  ℕ,
  zero,
  suc,
  ◌+◌,
  ◌^◌,
  ◌%◌,
  length,
  arith,
  List,
  [],
  ◌∷◌,
  ◌++◌,
  Bool,
  true,
  false,
  Option,
  Some,
  None,
  refl,
  sym,
  ap,
  ap₂,
  ◌∙◌,
}
use Rattle.std.specs.Prelude.{ℤ, nat_eq, slice_index_or, slice_set, is_none, if◌then◌else◌}
use Rattle.std.proofs.Math.Nat.{mod-add-mod}
use Rattle.std.proofs.lemmas.Option.{none-some, same_Some}
use Rattle.jade_base.specs.declared.rights.Mode.{Mode}
use Rattle.jade_base.specs.declared.rights.Mode.TheVariants.{Reading, Writing, Commuting}
use Rattle.jade_base.specs.Rights.{mode_of}
use Rattle.jade_base.specs.Held.{Held}
use Rattle.jade_meaning.specs.Specification.{Specification, rights_on}
use Rattle.jade_meaning.specs.Talk.{TouchRead, TouchWrite, Holds, held, take_in, first_take, touched, events}
use Rattle.jade_meaning.specs.Course.{Course, Reads, Writes, Steps, Creates, Changes, Ends}
use Rattle.task_machine.specs.Playing.{Contents, with_cell, put_in, where_held, writable, for_writing, cell_of, counted, played, answers, touches}
use Rattle.task_machine.specs.Telling.{mode_held, Agrees, TellsAsPlayed}

set_same : (h : Holds) (o : ℕ) → slice_set h o (slice_index_or h o None) ≡ h
set_same [] o = refl
set_same (x ∷ h) zero = refl
set_same (x ∷ h) (suc o) = ap (λ l. x ∷ l) (set_same h o)

module _ (spec : Specification) (h : Holds) (k : Contents) (fit : Agrees spec h k) (o : ℕ) (x : Held) (e : k o ≡ Some x) where
  pub no_take : first_take spec h o ≡ []
  no_take = ap (λ m. if is_none m then take_in (mode_of (rights_on spec o)) o else []) (fit.holds o x e)

  pub same_holds : touched spec h o ≡ h
  same_holds = ap (slice_set h o) (fit.rights o x e ∙ sym (fit.holds o x e)) ∙ set_same h o

module _ (spec : Specification) (h : Holds) (k : Contents) (o c : ℕ) (v : ℤ) (fit : Agrees spec h k) where
  abbrev Fits : ℕ → Option Held → Type 0
  Fits j w = (x : Held) → w ≡ Some x → (held h j ≡ Some x.mode) × (mode_of (rights_on spec j) ≡ Some x.mode)

  put_fits : (j : ℕ) (w : Option Held) → Fits j w → Fits j (put_in c v w)
  put_fits j None f x e = absurd (none-some x e)
  put_fits j (Some old) f x e =
      let m = ap (λ (y : Held). Some y.mode) (same_Some _ x e) in let g = f old refl in (g.0 ∙ m, g.1 ∙ m)

  either_fits : (t : Bool) (j : ℕ) → Fits j (if t then put_in c v (k j) else k j)
  either_fits true j = put_fits j (k j) (λ x e. (fit.holds j x e, fit.rights j x e))
  either_fits false j = λ x e. (fit.holds j x e, fit.rights j x e)

  pub kept_fit : Agrees spec h (with_cell o c v k)
  kept_fit = record {
    holds = λ j x e. (either_fits (nat_eq j o) j x e).0;
    rights = λ j x e. (either_fits (nat_eq j o) j x e).1;
  }

put_mode : (c : ℕ) (v : ℤ) (w : Option Held) → mode_held (put_in c v w) ≡ mode_held w
put_mode c v None = refl
put_mode c v (Some x) = refl

cell_mode : (o c : ℕ) (v : ℤ) (k : Contents) (j : ℕ) → mode_held (with_cell o c v k j) ≡ mode_held (k j)
cell_mode o c v k j = at (nat_eq j o)
  where
    at : (t : Bool) → mode_held (if t then put_in c v (k j) else k j) ≡ mode_held (k j)
    at true = put_mode c v (k j)
    at false = refl

for_writing_is : (m : Mode) (h x : Held) → for_writing m h ≡ Some x → h ≡ x
for_writing_is Reading h x e = absurd (none-some x e)
for_writing_is Writing h x e = same_Some h x e
for_writing_is Commuting h x e = same_Some h x e

pub held_to_write : (w : Option Held) (x : Held) → writable w ≡ Some x → w ≡ Some x
held_to_write None x e = e
held_to_write (Some h) x e = ap Some (for_writing_is h.mode h x e)

-- each touch is counted
one_more : (e p : ℕ) (n : ℕ) → p % 2 ^ 64 ≡ (counted e + n) % 2 ^ 64 → p % 2 ^ 64 ≡ (e + suc n) % 2 ^ 64
one_more e p n h =
    let z : e + 1 + n ≡ e + suc n = omega arith in
    h ∙ mod-add-mod (e + 1) (2 ^ 64) n ∙ ap (λ k. k % 2 ^ 64) z

touches_counted : (c : Course) (k : Contents) (n e : ℕ) → (played c k n e).events % 2 ^ 64 ≡ (e + length (touches c k)) % 2 ^ 64
touches_counted (Reads p c on) k n e = at (k p) (λ v. touches_counted (on v) k n (counted e))
  where
    at : (w : Option Held) → ((v : ℤ) → (played (on v) k n (counted e)).events % 2 ^ 64 ≡ (counted e + length (touches (on v) k)) % 2 ^ 64)
        → (where_held w (λ x. played (on (cell_of x c)) k n (counted e)) (record { course = Reads p c on; contents = k; steps = n; events = e })).events % 2 ^
        64
        ≡ (e + length (where_held w (λ x. TouchRead p c (cell_of x c) ∷ touches (on (cell_of x c)) k) [])) % 2 ^ 64
    at None ih = let z : e ≡ e + 0 = omega arith in ap (λ k. k % 2 ^ 64) z
    at (Some x) ih = one_more e (played (on (cell_of x c)) k n (counted e)).events (length (touches (on (cell_of x c)) k)) (ih (cell_of x c))
touches_counted (Writes p c v on) k n e = at (writable (k p)) (touches_counted on (with_cell p c v k) n (counted e))
  where
    at : (w : Option Held) → (played on (with_cell p c v k) n (counted e)).events % 2 ^ 64 ≡ (counted e + length (touches on (with_cell p c v k))) % 2 ^ 64
        → (where_held w (λ x. played on (with_cell p c v k) n (counted e)) (record { course = Writes p c v on; contents = k; steps = n; events = e })).events %
        2 ^ 64
        ≡ (e + length (where_held w (λ x. TouchWrite p c v ∷ touches on (with_cell p c v k)) [])) % 2 ^ 64
    at None ih = let z : e ≡ e + 0 = omega arith in ap (λ k. k % 2 ^ 64) z
    at (Some x) ih = one_more e (played on (with_cell p c v k) n (counted e)).events (length (touches on (with_cell p c v k))) ih
touches_counted (Steps on) k n e = touches_counted on k (suc n) e
touches_counted (Creates child body on) k n e = let z : e ≡ e + 0 = omega arith in ap (λ k. k % 2 ^ 64) z
touches_counted (Changes new on) k n e = let z : e ≡ e + 0 = omega arith in ap (λ k. k % 2 ^ 64) z
touches_counted (Ends b) k n e = let z : e ≡ e + 0 = omega arith in ap (λ k. k % 2 ^ 64) z

-- what is held stays held in its mode
pub modes_kept : (c : Course) (k : Contents) (n e o : ℕ) → mode_held ((played c k n e).contents o) ≡ mode_held (k o)
modes_kept (Reads p c on) k n e o = at (k p) (λ v. modes_kept (on v) k n (counted e) o)
  where
    at : (w : Option Held) → ((v : ℤ) → mode_held ((played (on v) k n (counted e)).contents o) ≡ mode_held (k o))
        → mode_held
        ((where_held w (λ x. played (on (cell_of x c)) k n (counted e)) (record { course = Reads p c on; contents = k; steps = n; events = e })).contents o)
        ≡ mode_held (k o)
    at None ih = refl
    at (Some x) ih = ih (cell_of x c)
modes_kept (Writes p c v on) k n e o = at (writable (k p)) (modes_kept on (with_cell p c v k) n (counted e) o)
  where
    at : (w : Option Held) → mode_held ((played on (with_cell p c v k) n (counted e)).contents o) ≡ mode_held (with_cell p c v k o)
        → mode_held
        ((where_held w (λ x. played on (with_cell p c v k) n (counted e)) (record { course = Writes p c v on; contents = k; steps = n; events = e })).contents
        o)
        ≡ mode_held (k o)
    at None ih = refl
    at (Some x) ih = ih ∙ cell_mode p c v k o
modes_kept (Steps on) k n e o = modes_kept on k (suc n) e o
modes_kept (Creates child body on) k n e o = refl
modes_kept (Changes new on) k n e o = refl
modes_kept (Ends b) k n e o = refl

abbrev TellsAs : Course → Contents → Type 0
TellsAs c k = (spec : Specification) (h : Holds) (n e : ℕ) → Agrees spec h k → TellsAsPlayed c spec h k n e

module _ (spec : Specification) (h : Holds) (k : Contents) (n e : ℕ) (fit : Agrees spec h k) where
  reads_tell : (o c : ℕ) (on : ℤ → Course) (w : Option Held) → k o ≡ w → ((v : ℤ) → TellsAs (on v) k) → (vs : List ℤ)
      → events (Reads o c on) spec h n (where_held w (λ x. cell_of x c ∷ answers (on (cell_of x c)) k) [] ++ vs)
      ≡ where_held w (λ x. TouchRead o c (cell_of x c) ∷ touches (on (cell_of x c)) k) []
      ++ events (where_held w (λ x. played (on (cell_of x c)) k n (counted e)) (record { course = Reads o c on; contents = k; steps = n; events = e })).course
      spec h (where_held w (λ x. played (on (cell_of x c)) k n (counted e)) (record { course = Reads o c on; contents = k; steps = n; events = e })).steps vs
  reads_tell o c on None q ih vs = refl
  reads_tell o c on (Some x) q ih vs =
      let v = cell_of x c in
      ap₂ (λ es g. es ++ TouchRead o c v ∷ events (on v) spec g n (answers (on v) k ++ vs)) (no_take spec h k fit o x q) (same_holds spec h k fit o x q)
      ∙ ap (λ es. TouchRead o c v ∷ es) ((ih v spec h n (counted e) fit).tells vs)

  reads_agree : (o c : ℕ) (on : ℤ → Course) (w : Option Held) → ((v : ℤ) → TellsAs (on v) k)
      → Agrees spec h
      (where_held w (λ x. played (on (cell_of x c)) k n (counted e)) (record { course = Reads o c on; contents = k; steps = n; events = e })).contents
  reads_agree o c on None ih = fit
  reads_agree o c on (Some x) ih = (ih (cell_of x c) spec h n (counted e) fit).agrees

  writes_tell : (o c : ℕ) (v : ℤ) (on : Course) (w : Option Held) → writable (k o) ≡ w → TellsAs on (with_cell o c v k) → (vs : List ℤ)
      → events (Writes o c v on) spec h n (where_held w (λ x. answers on (with_cell o c v k)) [] ++ vs)
      ≡ where_held w (λ x. TouchWrite o c v ∷ touches on (with_cell o c v k)) []
      ++ events
      (where_held w (λ x. played on (with_cell o c v k) n (counted e)) (record { course = Writes o c v on; contents = k; steps = n; events = e })).course
      spec h (where_held w (λ x. played on (with_cell o c v k) n (counted e)) (record { course = Writes o c v on; contents = k; steps = n; events = e })).steps
      vs
  writes_tell o c v on None q ih vs = refl
  writes_tell o c v on (Some x) q ih vs =
      let l = with_cell o c v k in
      let there = held_to_write (k o) x q in
      ap₂ (λ es g. es ++ TouchWrite o c v ∷ events on spec g n (answers on l ++ vs)) (no_take spec h k fit o x there) (same_holds spec h k fit o x there)
      ∙ ap (λ es. TouchWrite o c v ∷ es) ((ih spec h n (counted e) (kept_fit spec h k o c v fit)).tells vs)

  writes_agree : (o c : ℕ) (v : ℤ) (on : Course) (w : Option Held) → TellsAs on (with_cell o c v k)
      → Agrees spec h
      (where_held w (λ x. played on (with_cell o c v k) n (counted e)) (record { course = Writes o c v on; contents = k; steps = n; events = e })).contents
  writes_agree o c v on None ih = fit
  writes_agree o c v on (Some x) ih = (ih spec h n (counted e) (kept_fit spec h k o c v fit)).agrees

pub tells_as_played : (c : Course) (k : Contents) → TellsAs c k
tells_as_played (Reads o c on) k spec h n e fit = record {
  tells = reads_tell spec h k n e fit o c on (k o) refl (λ v. tells_as_played (on v) k);
  counts = touches_counted (Reads o c on) k n e;
  modes = modes_kept (Reads o c on) k n e;
  agrees = reads_agree spec h k n e fit o c on (k o) (λ v. tells_as_played (on v) k);
}
tells_as_played (Writes o c v on) k spec h n e fit = record {
  tells = writes_tell spec h k n e fit o c v on (writable (k o)) refl (tells_as_played on (with_cell o c v k));
  counts = touches_counted (Writes o c v on) k n e;
  modes = modes_kept (Writes o c v on) k n e;
  agrees = writes_agree spec h k n e fit o c v on (writable (k o)) (tells_as_played on (with_cell o c v k));
}
tells_as_played (Steps on) k spec h n e fit = let t = tells_as_played on k spec h (suc n) e fit in
    record { tells = t.tells; counts = t.counts; modes = t.modes; agrees = t.agrees }
tells_as_played (Creates child body on) k spec h n e fit = record
    { tells = λ vs. refl; counts = touches_counted (Creates child body on) k n e; modes = λ o. refl; agrees = fit }
tells_as_played (Changes new on) k spec h n e fit = record
    { tells = λ vs. refl; counts = touches_counted (Changes new on) k n e; modes = λ o. refl; agrees = fit }
tells_as_played (Ends b) k spec h n e fit = record { tells = λ vs. refl; counts = touches_counted (Ends b) k n e; modes = λ o. refl; agrees = fit }
