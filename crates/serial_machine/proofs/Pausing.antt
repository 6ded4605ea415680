-- A task that goes on to the next stop.
use Rattle.std.proofs.Common.{◌≡◌, ℕ, suc, ◌+◌, ◌-◌, ◌<◌, List, length, Bool, true, false, Option, Some, None, refl, sym, ap, ◌∙◌, subst, arith}
use Rattle.std.specs.Prelude.{ℤ, nat_eq, slice_set, if◌then◌else◌}
use Rattle.std.proofs.lemmas.Option.{none-some, same_Some}
use Rattle.jade_base.specs.declared.place.ObjectId.{ObjectId}
use Rattle.jade_base.specs.declared.rights.Mode.{Mode}
use Rattle.jade_base.specs.declared.rights.Mode.TheVariants.{Reading, Writing, Commuting}
use Rattle.jade_base.specs.declared.rights.Rights.{Rights}
use Rattle.jade_base.specs.Rights.{join}
use Rattle.jade_base.specs.Held.{Held}
use Rattle.jade_meaning.specs.Specification.{rights_on}
use Rattle.jade_meaning.specs.Spread.{spread}
use Rattle.jade_meaning.specs.Course.{Course, Reads, Writes, Steps, Creates, Changes, Ends, Building}
use Rattle.code_meaning.specs.declared.code.Instruction.{Instruction}
use Rattle.code_meaning.specs.Meaning.{Children, from_place}
use Rattle.task_machine.specs.declared.frame.Frame.{Frame}
use Rattle.task_machine.specs.declared.frame.Pause.{Pause}
use Rattle.task_machine.specs.declared.frame.Pause.TheVariants as pause
use Rattle.task_machine.specs.declared.section.Own.{Own}
use Rattle.task_machine.specs.declared.section.Section.TheVariants as section
use Rattle.jade_base.specs.Specification.{Specification as Sparse}
use Rattle.task_machine.specs.Playing.{Contents, Played, cell_of, where_held, writable, for_writing, put_in, with_cell, counted, played}
use Rattle.task_machine.specs.Stages.{Wants, slots_of}
use Rattle.task_machine.specs.steps.Owning.{rights_of, draft_of, drafted_as}
use Rattle.task_machine.specs.steps.Running.{going, TellsAt, Advances, work_left}
use Rattle.serial_machine.specs.steps.Pausing.{mode_in, AllHeld, GoesOn, Stops, Outside}
use Rattle.serial_machine.specs.declared.going.Stop.{Stop}
use Rattle.serial_machine.specs.steps.Stack.{once_more, comes_to}
use Rattle.serial_machine.proofs.Settling.{plays_same}

-- ---- what is held stays held, in its mode

put_mode : (c : ℕ) (v : ℤ) (w : Option Held) → mode_in (put_in c v w) ≡ mode_in w
put_mode c v None = refl
put_mode c v (Some h) = refl

cell_mode : (o c : ℕ) (v : ℤ) (k : Contents) (j : ℕ) → mode_in (with_cell o c v k j) ≡ mode_in (k j)
cell_mode o c v k j = by (nat_eq j o)
  where
    by : (b : Bool) → mode_in (if b then put_in c v (k j) else k j) ≡ mode_in (k j)
    by true = put_mode c v (k j)
    by false = refl

held_mode : (w : Option Held) (f : Held → Played) (t : Played) (j : ℕ) (m : Option Mode) → mode_in (t.contents j) ≡ m
    → ((h : Held) → mode_in ((f h).contents j) ≡ m) → mode_in ((where_held w f t).contents j) ≡ m
held_mode None f t j m h g = h
held_mode (Some held) f t j m h g = g held

played_modes : (c : Course) (k : Contents) (n e j : ℕ) → mode_in ((played c k n e).contents j) ≡ mode_in (k j)
played_modes (Reads o c on) k n e j =
    held_mode (k o) (λ h. played (on (cell_of h c)) k n (counted e)) (record { course = Reads o c on; contents = k; steps = n; events = e }) j
    (mode_in (k j)) refl (λ h. played_modes (on (cell_of h c)) k n (counted e) j)
played_modes (Writes o c v on) k n e j =
    held_mode (writable (k o)) (λ h. played on (with_cell o c v k) n (counted e))
    (record { course = Writes o c v on; contents = k; steps = n; events = e }) j
    (mode_in (k j)) refl (λ h. played_modes on (with_cell o c v k) n (counted e) j ∙ cell_mode o c v k j)
played_modes (Steps on) k n e j = played_modes on k (suc n) e j
played_modes (Creates spec body on) k n e j = refl
played_modes (Changes spec on) k n e j = refl
played_modes (Ends b) k n e j = refl

-- ---- going on

pub goes_nowhere : (code : List Instruction) (w : Own) (f : Frame) (k : Contents) → GoesOn code w f k w f k
goes_nowhere code w f k = record { same = λ child count x. refl; fewer = omega arith; slots = refl; objects = refl; modes = λ o. refl }

module _ {code : List Instruction} {w : Own} {f : Frame} {k : Contents} {u : Own} {g : Frame} {l : Contents} where
  pub goes_advanced : {v : Own} {h : Frame} {m : Contents} (p : Pause) → GoesOn code w f k u g l → Advances code u g l p v h m → GoesOn code w f k v h m
  goes_advanced {v} {h} {m} p a b = record {
    same = λ child count x.
        let less = b.fewer in
        let z : 0 + (g.left - h.left) ≡ g.left - h.left = omega arith in
        let y : g.left - (g.left - h.left) ≡ h.left = omega (arith, less) in
        a.same child count x
        ∙ plays_same once_more (going child code u g) l g.events (going child code v h) m (g.left - h.left) h.events count g.left x.bad x.ok
        (b.plays child 0 ∙ ap (λ n. played (going child code v h) m n h.events) z) (omega arith)
        ∙ ap (λ n. comes_to (going child code v h) count n m x) y;
    fewer = let one = a.fewer in let two = b.fewer in omega (arith, one, two);
    slots = b.sized.slots ∙ a.slots;
    objects = b.sized.kept.objects ∙ a.objects;
    modes = λ o.
        sym (played_modes (going (λ n ss spec. Ends None) code v h) m (0 + (g.left - h.left)) h.events o)
        ∙ ap (λ q. mode_in (q.contents o)) (sym (b.plays (λ n ss spec. Ends None) 0))
        ∙ played_modes (going (λ n ss spec. Ends None) code u g) l 0 g.events o
        ∙ a.modes o;
  }

  pub goes_declared : (b : ObjectId) (a : Rights) (v : Own) (h : Frame) (x : Sparse) → GoesOn code w f k u g l
      → ((child : Children) → TellsAt (pause.Declare b a) child code u g.left g.place g.slots.items l)
      → v ≡ record u { child = x }
      → spread v.objects v.child.entries ≡ slice_set (spread u.objects u.child.entries) b.0 (join (rights_on (spread u.objects u.child.entries) b.0) a)
      → h ≡ record g { place = g.place + 1 } → GoesOn code w f k v h l
  goes_declared b a v h x on tells ev made e =
      let nothing : Children = λ n ss spec. Ends None in
      let new = slice_set (spread u.objects u.child.entries) b.0 (join (rights_on (spread u.objects u.child.entries) b.0) a) in
      let building : u.section ≡ section.Building = (tells nothing).0 in
      let rights : rights_of v ≡ rights_of u = ap rights_of ev in
      let draft : draft_of v ≡ Building new =
      ap (λ q. drafted_as q v.objects v.child v.spec) (ap (λ (q : Own). q.section) ev ∙ building) ∙ ap Building made in
      record {
        same = λ child count x.
            let next = from_place child code in
            on.same child count x
            ∙ ap (λ c. comes_to c count g.left l x) ((tells child).2
            ∙ ap (λ d. next g.left (g.place + 1) (slots_of g.slots.items) (rights_of u) d) (sym draft)
            ∙ ap (λ s. next g.left (g.place + 1) (slots_of g.slots.items) s (draft_of v)) (sym rights))
            ∙ ap (λ r. comes_to (going child code v r) count r.left l x) (sym e);
        fewer = let le = on.fewer in let s = ap (λ (r : Frame). r.left) e in omega (arith, le, s);
        slots = ap (λ (r : Frame). length r.slots.items) e ∙ on.slots;
        objects = ap (λ (q : Own). q.objects) ev ∙ on.objects;
        modes = on.modes;
      }

  pub all_held : AllHeld w.objects k → GoesOn code w f k u g l → AllHeld u.objects l
  all_held h on = record { held = λ o lt. let e = on.objects in on.modes o ∙ h.held o (omega (arith, lt, e)) }

abbrev pub is_reading : Mode → Type 0
is_reading Reading = Unit {0}
is_reading Writing = ⊥
is_reading Commuting = ⊥

none_by : (m : Mode) (h : Held) → for_writing m h ≡ None → m ≡ Writing → ⊥
none_by Reading h e q = subst is_reading q tt
none_by Writing h e q = none-some h (sym e)
none_by Commuting h e q = none-some h (sym e)

none_writable : (w : Option Held) → writable w ≡ None → mode_in w ≡ Some Writing → ⊥
none_writable None e q = none-some Writing q
none_writable (Some h) e q = none_by h.mode h e (same_Some h.mode Writing q)

wants_nothing : (o n : ℕ) (c : Course) (k : Contents) → o < n → AllHeld n k → Wants o c k → ⊥
wants_nothing o n (Reads p c on) k lt held w = none-some Writing (sym (ap mode_in w.1) ∙ held.held p (subst (λ q. q < n) w.0 lt))
wants_nothing o n (Writes p c v on) k lt held w = none_writable (k p) w.1 (held.held p (subst (λ q. q < n) w.0 lt))
wants_nothing o n (Steps on) k lt held w = w
wants_nothing o n (Creates spec body on) k lt held w = w
wants_nothing o n (Changes spec on) k lt held w = w
wants_nothing o n (Ends b) k lt held w = w

-- nothing is wanted where all is held
pub takes_nothing : (o : ℕ) (child : Children) (code : List Instruction) (u : Own) (g : Frame) (k : Contents) → AllHeld u.objects k
    → TellsAt (pause.Take o) child code u g.left g.place g.slots.items k → ⊥
takes_nothing o child code u g k held h = wants_nothing o u.objects (going child code u g) k h.0 held h.1

-- there is less to do at the next instruction
pub less_declared : (code : List Instruction) (g h : Frame) → h ≡ record g { place = g.place + 1 } → g.place < length code
    → work_left code h < work_left code g
less_declared code g h e lt = subst (λ r. work_left code r < work_left code g) (sym e) (omega (arith, lt))

-- children that do nothing
abbrev pub nothing : Children
nothing n ss spec = Ends None

abbrev is_end : Pause → Type 0
is_end pause.End = Unit {0}
is_end (pause.Fault b) = ⊥
is_end (pause.Take o) = ⊥
is_end (pause.Declare b a) = ⊥
is_end (pause.Create n) = ⊥
is_end pause.Change = ⊥
is_end pause.Other = ⊥

pub change_is_no_end : (p : Pause) → p ≡ pause.Change → p ≡ pause.End → ⊥
change_is_no_end p e q = subst is_end (sym q ∙ e) tt

module _ {code : List Instruction} {w : Own} {f : Frame} {k : Contents} {u : Own} {g : Frame} {l : Contents} where
  -- what goes on to do the same is at the same stop
  pub stops_outside : (p : Stop) (v : Own) → GoesOn code w f k u g l → Outside code u g p v → Stops code w f k p v g l
  stops_outside p v on o = record {
    on = record {
      same = λ child count x. on.same child count x ∙ ap (λ c. comes_to c count g.left l x) (o.same child);
      fewer = on.fewer;
      slots = on.slots;
      objects = o.objects ∙ on.objects;
      modes = on.modes;
    };
    tells = o.tells;
  }
