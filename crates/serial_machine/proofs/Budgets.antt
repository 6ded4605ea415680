-- A task that may begin more steps than are left of the whole run comes to the same as one that may begin just as many.
use Rattle.std.proofs.Common.{◌≡◌, ℕ, zero, suc, ◌+◌, ◌-◌, ◌≤◌, List, [], ◌∷◌, Option, Some, None, Bool, true, false, refl, ap, arith}
use Rattle.std.specs.Prelude.{ℤ, pos, int_lt, replicate}
use Rattle.jade_base.specs.declared.place.Pos.{Pos}
use Rattle.jade_base.specs.declared.report.Blame.{Blame}
use Rattle.jade_base.specs.declared.report.FaultKind.TheVariants.{Index, Object, Right as RightFault, Cover, Change, Commute}
use Rattle.jade_base.specs.Rights.{may_read, may_write, no_rights}
use Rattle.jade_meaning.specs.declared.values.Value.{Value}
use Rattle.jade_meaning.specs.declared.values.Value.TheVariants.{IntOf}
use Rattle.jade_meaning.specs.Values.{Given, Gives, Fails, operated, decides, signed, whole, holds, is_index, magnitude}
use Rattle.jade_meaning.specs.Specification.{Specification, rights_on, covers, fitted, is_commuting, may_commute}
use Rattle.jade_meaning.specs.Changes.{amended}
use Rattle.jade_syntax.specs.declared.tree.DeclareWord.{DeclareWord}
use Rattle.jade_base.specs.declared.rights.Rights.{Rights}
use Rattle.jade_meaning.specs.Serial.{Path}
use Rattle.jade_meaning.specs.Course.{
  Course,
  Reads,
  Writes,
  Steps,
  Creates,
  Changes,
  Ends,
  Draft,
  NoDraft,
  Building,
  Amending,
  drafted,
  working,
  Mine,
  On,
  choose,
  given,
}
use Rattle.jade_meaning.specs.Course.{fault, limit_blame, read_cell, write_cell, declare, amend}
use Rattle.code_meaning.specs.declared.code.Instruction.{Instruction}
use Rattle.code_meaning.specs.declared.code.Instruction.TheVariants as i
use Rattle.code_meaning.specs.declared.code.Operand.{Operand}
use Rattle.code_meaning.specs.Meaning.{Slots, Go, Children, worth, with_slot, own, either, operator, logical, turned, bumped, onward, member_at, cell_at, act}
use Rattle.code_meaning.specs.Meaning.{goings, from_place}
use Rattle.task_machine.specs.Playing.{Contents}
use Rattle.serial_machine.specs.steps.Settles.{settles, Alike}
use Rattle.serial_machine.specs.steps.Budget.{AlikeGo, AlikeLower}

-- a value goes to a slot
abbrev then_slot : Go → ℕ → Slots → Specification → Draft → Value → Course
then_slot next t ss spec d v = next (with_slot t (whole v) ss) spec d

module _ {A : Type 0} (pause : A → A) where
  -- what follows a task is asked with no more steps than it had
  pub ok_alike : (c : Course) (k left : ℕ) (s : Contents) (bad : Path → Blame → A) (ok go : ℕ → Contents → A)
      → ((less : ℕ) (t : Contents) → less ≤ left → ok less t ≡ go less t) → settles pause c k left s bad ok ≡ settles pause c k left s bad go
  ok_alike (Reads o c on) k left s bad ok go h = ok_alike (on _) k left s bad ok go h
  ok_alike (Writes o c v on) k left s bad ok go h = ok_alike on k left _ bad ok go h
  ok_alike (Steps on) k zero s bad ok go h = refl
  ok_alike (Steps on) k (suc left) s bad ok go h = ok_alike on k left s bad ok go (λ less t le. h less t (omega (arith, le)))
  ok_alike (Creates child body on) k left s bad ok go h =
      ap pause (ok_alike body 0 left s (λ p b. bad (k ∷ p) b) (λ less t. settles pause on (suc k) less t bad ok)
      (λ less t. settles pause on (suc k) less t bad go)
      (λ less t le. ok_alike on (suc k) less t bad ok go (λ l u lt. h l u (omega (arith, le, lt)))))
  ok_alike (Changes new on) k left s bad ok go h = ap pause (ok_alike on k left s bad ok go h)
  ok_alike (Ends None) k left s bad ok go h = ap pause (h left s (omega arith))
  ok_alike (Ends (Some b)) k left s bad ok go h = refl

  module _ (most : ℕ) where
    abbrev Same : Course → Course → Type 0
    Same c d = Alike pause most c d

    same : (c : Course) → Same c c
    same c = record { same = λ k left s bad ok le. refl }

    reads_alike : (o c : ℕ) (f g : ℤ → Course) → ((v : ℤ) → Same (f v) (g v)) → Same (Reads o c f) (Reads o c g)
    reads_alike o c f g h = record { same = λ k left s bad ok le. (h _).same k left s bad ok le }

    writes_alike : (o c : ℕ) (v : ℤ) (f g : Course) → Same f g → Same (Writes o c v f) (Writes o c v g)
    writes_alike o c v f g h = record { same = λ k left s bad ok le. h.same k left _ bad ok le }

    creates_alike : (spec : Specification) (body f g : Course) → Same f g → Same (Creates spec body f) (Creates spec body g)
    creates_alike spec body f g h =
        record {
          same = λ k left s bad ok le.
              ap pause (ok_alike body 0 left s (λ p b. bad (k ∷ p) b) (λ less t. settles pause f (suc k) less t bad ok)
              (λ less t. settles pause g (suc k) less t bad ok)
              (λ less t lt. h.same (suc k) less t bad ok (omega (arith, le, lt))));
        }

    changes_alike : (spec : Specification) (f g : Course) → Same f g → Same (Changes spec f) (Changes spec g)
    changes_alike spec f g h = record { same = λ k left s bad ok le. ap pause (h.same k left s bad ok le) }

    choose_alike : (b : Bool) (f g : On) (bad : On) (m : Mine) → Same (f m) (g m) → Same (choose b f bad m) (choose b g bad m)
    choose_alike true f g bad m h = h
    choose_alike false f g bad m h = same (bad m)

    given_alike : (v : Given) (at : Pos) (m : Mine) (f g : Value → Course) → ((u : Value) → Same (f u) (g u)) → Same (given v at m f) (given v at m g)
    given_alike (Gives u) at m f g h = h u
    given_alike (Fails kind) at m f g h = same (fault kind at m)

    either_alike : (b : Bool) (f g x y : Go) → AlikeGo pause most f g → AlikeGo pause most x y → AlikeGo pause most (either b f x) (either b g y)
    either_alike true f g x y h e = h
    either_alike false f g x y h e = e

    unless_alike : (b : Bool) (x f g : On) (m : Mine) → Same (f m) (g m) → Same (choose b x f m) (choose b x g m)
    unless_alike true x f g m h = same (x m)
    unless_alike false x f g m h = h

    amend_alike : (a : Option Rights) (spec : Specification) (o : ℕ) (at : Pos) (f g : On) (m : Mine) → ((n : Mine) → Same (f n) (g n)) →
        Same (amend a spec o at f m) (amend a spec o at g m)
    amend_alike None spec o at f g m h = same (fault Change at m)
    amend_alike (Some a) spec o at f g m h = h _

    declare_alike : (d : Draft) (how : DeclareWord) (o : ℕ) (at : Pos) (f g : On) (m : Mine) → ((n : Mine) → Same (f n) (g n)) →
        Same (declare d how o at f m) (declare d how o at g m)
    declare_alike NoDraft how o at f g m h = h m
    declare_alike (Building spec) how o at f g m h = h _
    declare_alike (Amending spec) how o at f g m h = amend_alike (amended how (rights_on spec o)) spec o at f g m h

    read_alike : (o c : ℕ) (at : Pos) (m : Mine) (f g : Value → Course) → ((u : Value) → Same (f u) (g u)) → Same (read_cell o c at m f) (read_cell o c at m g)
    read_alike o c at m f g h =
        choose_alike (may_read (rights_on m.spec o)) (λ n. Reads o c (λ z. f (IntOf z))) (λ n. Reads o c (λ z. g (IntOf z))) (fault RightFault at) m
        (reads_alike o c (λ z. f (IntOf z)) (λ z. g (IntOf z)) (λ v. h (IntOf v)))

    write_alike : (o c : ℕ) (z : ℤ) (at : Pos) (f g : On) (m : Mine) → Same (f m) (g m) → Same (write_cell o c z at f m) (write_cell o c z at g m)
    write_alike o c z at f g m h =
        choose_alike (may_write (rights_on m.spec o)) (λ n. Writes o c z (f n)) (λ n. Writes o c z (g n)) (fault RightFault at) m
        (writes_alike o c z (f m) (g m) h)

    member_alike : (first count : ℕ) (k : Operand) (at : Pos) (f g : ℕ → Course) (ss : Slots) (m : Mine) → ((o : ℕ) → Same (f o) (g o))
        → Same (member_at first count k at f ss m) (member_at first count k at g ss m)
    member_alike first count k at f g ss m h =
        choose_alike (is_index (worth k ss) count) (λ n. f (first + magnitude (worth k ss))) (λ n. g (first + magnitude (worth k ss))) (fault Object at) m (h _)

    cell_alike : (size : ℕ) (c : Operand) (at : Pos) (f g : ℕ → Mine → Course) (ss : Slots) (m : Mine) → ((o : ℕ) → Same (f o m) (g o m))
        → Same (cell_at size c at f ss m) (cell_at size c at g ss m)
    cell_alike size c at f g ss m h =
        choose_alike (is_index (worth c ss) size) (f (magnitude (worth c ss))) (g (magnitude (worth c ss))) (fault Index at) m (h _)

    module _ (child : Children) (l r : Option (ℕ → Go)) (below : AlikeLower pause most l r) where
      act_alike : (x : Instruction) (pc : ℕ) (n m : Go) (a b : ℕ → Go) → AlikeGo pause most n m → ((j : ℕ) → AlikeGo pause most (a j) (b j))
          → AlikeGo pause most (act child x l pc n a) (act child x r pc m b)
      act_alike i.Step pc n m a b hn ha ss spec d = below (pc + 1) ss spec d
      act_alike (i.Set t o) pc n m a b hn ha ss spec d = hn (with_slot t (worth o ss) ss) spec d
      act_alike (i.Sign sign t k at) pc n m a b hn ha ss spec d =
          given_alike (signed sign (IntOf (worth k ss))) at (own spec d) _ _ (λ u. hn (with_slot t (whole u) ss) spec d)
      act_alike (i.Operate o t j k at) pc n m a b hn ha ss spec d =
          given_alike (operated (operator o) (IntOf (worth j ss)) (IntOf (worth k ss))) at (own spec d) _ _ (λ u. hn (with_slot t (whole u) ss) spec d)
      act_alike (i.Decide g k j) pc n m a b hn ha ss spec d =
          either_alike (decides (logical g) (IntOf (ss k))) (a j) (b j) n m (ha j) hn ss spec d
      act_alike (i.Jump j) pc n m a b hn ha ss spec d = ha j ss spec d
      act_alike (i.JumpFalse k j) pc n m a b hn ha ss spec d = either_alike (holds (IntOf (worth k ss))) n m (a j) (b j) hn (ha j) ss spec d
      act_alike (i.Turn base j) pc n m a b hn ha ss spec d =
          either_alike (int_lt (ss base) (ss (base + 1))) _ _ (a j) (b j) (below (pc + 1)) (ha j) (turned base (ss base) ss) spec d
      act_alike (i.Next base back) pc n m a b hn ha ss spec d =
          let z = bumped (ss base) (ss (base + 1)) in
          either_alike (int_lt z (ss (base + 1))) _ _ n m (below (pc - back)) hn (turned base z ss) spec d
      act_alike (i.Member first count t k at) pc n m a b hn ha ss spec d =
          member_alike first count k at _ _ ss (own spec d) (λ o. hn (with_slot t (pos o) ss) spec d)
      act_alike (i.Within size k at) pc n m a b hn ha ss spec d = cell_alike size k at (λ c q. n ss spec d) (λ c q. m ss spec d) ss (own spec d)
          (λ c. hn ss spec d)
      act_alike (i.Reach first count size t k c at) pc n m a b hn ha ss spec d =
          member_alike first count k at _ _ ss (own spec d)
          (λ o. cell_alike size c at (λ j q. n (with_slot t (pos o) ss) spec d) (λ j q. m (with_slot t (pos o) ss) spec d) ss (own spec d)
          (λ j. hn (with_slot t (pos o) ss) spec d))
      act_alike (i.ReadOf o size t c at) pc n m a b hn ha ss spec d =
          cell_alike size c at (λ j q. read_cell o j at q (then_slot n t ss spec d)) (λ j q. read_cell o j at q (then_slot m t ss spec d)) ss (own spec d)
          (λ j. read_alike o j at (own spec d) (then_slot n t ss spec d) (then_slot m t ss spec d) (λ v. hn (with_slot t (whole v) ss) spec d))
      act_alike (i.ReadIn first count size t k c at) pc n m a b hn ha ss spec d =
          member_alike first count k at _ _ ss (own spec d)
          (λ o. cell_alike size c at (λ j q. read_cell o j at q (then_slot n t ss spec d)) (λ j q. read_cell o j at q (then_slot m t ss spec d)) ss (own spec d)
          (λ j. read_alike o j at (own spec d) (then_slot n t ss spec d) (then_slot m t ss spec d) (λ v. hn (with_slot t (whole v) ss) spec d)))
      act_alike (i.Read size t o c at) pc n m a b hn ha ss spec d =
          let p = magnitude (ss o) in
          cell_alike size c at (λ j q. read_cell p j at q (then_slot n t ss spec d)) (λ j q. read_cell p j at q (then_slot m t ss spec d)) ss (own spec d)
          (λ j. read_alike p j at (own spec d) (then_slot n t ss spec d) (then_slot m t ss spec d) (λ v. hn (with_slot t (whole v) ss) spec d))
      act_alike (i.WriteOf o c v at) pc n m a b hn ha ss spec d =
          write_alike o (magnitude (worth c ss)) (worth v ss) at _ _ (own spec d) (hn ss spec d)
      act_alike (i.Write o c v at) pc n m a b hn ha ss spec d =
          write_alike (magnitude (ss o)) (magnitude (worth c ss)) (worth v ss) at _ _ (own spec d) (hn ss spec d)
      act_alike (i.Fresh count at) pc n m a b hn ha ss spec d =
          unless_alike (is_commuting spec) (fault Commute at) (λ q. n ss spec (Building (replicate count no_rights)))
          (λ q. m ss spec (Building (replicate count no_rights))) (own spec d) (hn ss spec (Building (replicate count no_rights)))
      act_alike (i.Draft at) pc n m a b hn ha ss spec d =
          unless_alike (is_commuting spec) (fault Commute at) (λ q. n ss spec (Amending spec)) (λ q. m ss spec (Amending spec)) (own spec d)
          (hn ss spec (Amending spec))
      act_alike (i.Declare how o at) pc n m a b hn ha ss spec d =
          declare_alike d how (magnitude (worth o ss)) at (λ q. n ss spec q.draft) (λ q. m ss spec q.draft) (own spec d) (λ q. hn ss spec q.draft)
      act_alike (i.Create number at) pc n m a b hn ha ss spec d =
          let made = fitted spec (drafted d) in
          choose_alike (may_commute made) _ _ (fault Commute at) (own spec d)
          (choose_alike (covers spec made) _ _ (fault Cover at) (own spec d)
          (creates_alike made (child number ss made) (n ss spec NoDraft) (m ss spec NoDraft) (hn ss spec NoDraft)))
      act_alike i.Commit pc n m a b hn ha ss spec d =
          let new = fitted spec (working d spec) in changes_alike new (n ss new NoDraft) (m ss new NoDraft) (hn ss new NoDraft)
      act_alike i.Finish pc n m a b hn ha ss spec d = same (Ends None)

      goings_alike : (code : List Instruction) (pc n : ℕ) → AlikeGo pause most (onward (goings child l pc code) n) (onward (goings child r pc code) n)
      goings_alike [] pc n ss spec d = same (Ends None)
      goings_alike (x ∷ code) pc zero ss spec d =
          let more = goings_alike code (pc + 1) in
          act_alike x pc (onward (goings child l (pc + 1) code) 0) (onward (goings child r (pc + 1) code) 0) (onward (goings child l (pc + 1) code))
          (onward (goings child r (pc + 1) code)) (more 0) more ss spec d
      goings_alike (x ∷ code) pc (suc n) ss spec d = goings_alike code (pc + 1) n ss spec d

  no_step : (l : ℕ) (f : Course) → Alike pause 0 (Ends (Some limit_blame)) (Steps f)
  no_step l f = record { same = λ k left s bad ok le. none k left s bad ok le }
    where
      none : (k left : ℕ) (s : Contents) (bad : Path → Blame → A) (ok : ℕ → Contents → A) → left ≤ 0
          → settles pause (Ends (Some limit_blame)) k left s bad ok ≡ settles pause (Steps f) k left s bad ok
      none k zero s bad ok le = refl
      none k (suc left) s bad ok le = absurd (omega (arith, le))

  one_step : (most : ℕ) (f g : Course) → Alike pause most f g → Alike pause (suc most) (Steps f) (Steps g)
  one_step most f g h = record { same = λ k left s bad ok le. one k left s bad ok le }
    where
      one : (k left : ℕ) (s : Contents) (bad : Path → Blame → A) (ok : ℕ → Contents → A) → left ≤ suc most
          → settles pause (Steps f) k left s bad ok ≡ settles pause (Steps g) k left s bad ok
      one k zero s bad ok le = refl
      one k (suc left) s bad ok le = h.same k left s bad ok (omega (arith, le))

  pub from_alike : (child : Children) (code : List Instruction) (most more : ℕ) → most ≤ more → (pc : ℕ)
      → AlikeGo pause most (from_place child code most pc) (from_place child code more pc)
  from_alike child code zero zero le pc ss spec d = same 0 (from_place child code zero pc ss spec d)
  from_alike child code zero (suc more) le pc ss spec d =
      goings_alike 0 child None (Some (from_place child code more)) (λ p ss spec d. no_step more (from_place child code more p ss spec d)) code 0 pc
      ss spec d
  from_alike child code (suc most) zero le pc ss spec d = absurd (omega (arith, le))
  from_alike child code (suc most) (suc more) le pc ss spec d =
      let below = from_alike child code most more (omega (arith, le)) in
      goings_alike (suc most) child (Some (from_place child code most)) (Some (from_place child code more))
      (λ p ss spec d. one_step most (from_place child code most p ss spec d) (from_place child code more p ss spec d) (below p ss spec d)) code 0 pc
      ss spec d
