-- What is put in line and taken out of it asks for the object still.
use Rattle.std.proofs.Common.{◌≡◌, ℕ, zero, suc, ◌<◌, ◌+◌, ◌++◌, Bool, true, false, ◌&&◌, Ok, Err, List, [], ◌∷◌, refl, sym, ap, ◌∙◌, subst, arith}
use Rattle.std.specs.Prelude.{Option, Some, Result, MatchResult, is_ok, is_err, nat_eq, slice_index_or, length, if◌then◌else◌}
use Rattle.std.proofs.lemmas.Bool.Decides.{nat_tests}
use Rattle.jade_base.specs.declared.place.ObjectId.{ObjectId}
use Rattle.jade_base.specs.declared.rights.Mode.{Mode}
use Rattle.task_machine.specs.declared.machine.Ask.{Ask}
use Rattle.task_machine.specs.declared.machine.Ask.TheVariants as ask
use Rattle.task_roll.specs.Order.{stands_before}
use Rattle.waiting_line.specs.Lines.{placed}
use Rattle.task_suspend.specs.declared.name.RunName.{Ghosts}
use Rattle.task_suspend.specs.declared.capsule.Capsule.{Capsule}
use Rattle.task_suspend.specs.declared.room.Room.{Room}
use Rattle.task_suspend.specs.Asked.{asks, is_take_of}
use Rattle.task_suspend.specs.Waits.{waits_for, all_wait, path_of}
use Rattle.task_suspend.specs.Numbers.{numbers, are_numbered}

pub and_left : (a b : Bool) → a && b ≡ true → a ≡ true
and_left true b h = refl
and_left false b h = absurd (cc)

pub and_right : (a b : Bool) → a && b ≡ true → b ≡ true
and_right true b h = h
and_right false b h = absurd (cc)

and-both : (a b : Bool) → a ≡ true → b ≡ true → a && b ≡ true
and-both true b h g = g
and-both false b h g = absurd (cc)

module _ {N : Type 0} {g : Ghosts N} (o : ℕ) where
  pub placed_waits : (c : Capsule N g) (cs : List (Capsule N g)) → waits_for o c ≡ true → all_wait o cs ≡ true → all_wait o (placed path_of c cs) ≡ true
  placed_waits c [] h k = and-both (waits_for o c) true h refl
  placed_waits c (d ∷ cs) h k =
      let r : all_wait o (placed path_of c cs) ≡ true = placed_waits c cs h (and_right (waits_for o d) (all_wait o cs) k) in
      elim (stands_before (path_of d) (path_of c)) as (λ b. all_wait o (if b then d ∷ placed path_of c cs else c ∷ (d ∷ cs)) ≡ true) [
        | true ↦ and-both (waits_for o d) (all_wait o (placed path_of c cs)) (and_left (waits_for o d) (all_wait o cs) k) r
        | false ↦ and-both (waits_for o c) (all_wait o (d ∷ cs)) h k
      ]

  -- whether a capsule was put or came back
  pub kept_waiting : (c : Capsule N g) (cs ds : List (Capsule N g)) (r : Result (Unit {0}) (Capsule N g)) → waits_for o c ≡ true → all_wait o cs ≡ true →
      MatchResult r (λ _. ds ≡ placed path_of c cs) (λ back. (back ≡ c) × (ds ≡ cs)) → all_wait o ds ≡ true
  kept_waiting c cs ds (Ok _) h k m = subst (λ z. all_wait o z ≡ true) (sym m) (placed_waits c cs h k)
  kept_waiting c cs ds (Err _) h k m = subst (λ z. all_wait o z ≡ true) (sym m.1) k

module _ {N : Type 0} {g : Ghosts N} where
  -- the room at a place has the number of the place
  pub numbered_at : (rs : List (Room N g)) (n i : ℕ) (r : Room N g) → are_numbered n (numbers rs) ≡ true → i < length rs →
      r ≡ slice_index_or rs i r → r.object.0 ≡ n + i
  numbered_at [] n i r h lt q = absurd (omega arith)
  numbered_at (x ∷ rs) n zero r h lt q =
      ap (λ (z : Room N g). z.object.0) q ∙ same x.object.0 n (and_left (nat_eq x.object.0 n) (are_numbered (suc n) (numbers rs)) h)
    where
      same : (a b : ℕ) → nat_eq a b ≡ true → a ≡ b + 0
      same a b e = grind (arith, nat_tests)
  numbered_at (x ∷ rs) n (suc i) r h lt q =
      let e : r.object.0 ≡ suc n + i = numbered_at rs (suc n) i r (and_right (nat_eq x.object.0 n) (are_numbered (suc n) (numbers rs)) h) (omega arith) q in
      omega (arith, e)

  -- one room more
  pub numbered_more : (rs : List (Room N g)) (n : ℕ) (r : Room N g) → are_numbered n (numbers rs) ≡ true → r.object.0 ≡ n + length rs →
      are_numbered n (numbers (rs ++ r ∷ [])) ≡ true
  numbered_more [] n r h q = and-both (nat_eq r.object.0 n) true (same r.object.0 n q) refl
    where
      same : (a b : ℕ) → a ≡ b + 0 → nat_eq a b ≡ true
      same a b e = grind (arith, nat_tests)
  numbered_more (x ∷ rs) n r h q =
      and-both (nat_eq x.object.0 n) (are_numbered (suc n) (numbers (rs ++ r ∷ [])))
      (and_left (nat_eq x.object.0 n) (are_numbered (suc n) (numbers rs)) h)
      (numbered_more rs (suc n) r (and_right (nat_eq x.object.0 n) (are_numbered (suc n) (numbers rs)) h) (omega (arith, q)))

-- what an answer without an error leaves
pub pushed : {X E : Type 0} (r : Result (Unit {0}) E) (z x y : X) → is_err r ≡ false → z ≡ (if is_ok r then x else y) → z ≡ x
pushed (Ok _) z x y h q = q
pushed (Err _) z x y h q = absurd (cc)

-- an ask for the content of an object is one for that of its number
pub asks_for : (n : ℕ) (o : ObjectId) (m : Mode) (a : Option Ask) → a ≡ Some (ask.Take o m) → o.0 ≡ n → asks (is_take_of n) a ≡ true
asks_for n o m a h q = subst (λ (b : Option Ask). asks (is_take_of n) b ≡ true) (sym h) (same o.0 n q)
  where
    same : (a b : ℕ) → a ≡ b → nat_eq a b ≡ true
    same a b e = grind (arith, nat_tests)
