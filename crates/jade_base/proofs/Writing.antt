-- A text that was written up to a place, and one more write.
use Rattle.std.specs.Prelude.{◌≡◌, ℕ, ◌+◌, ◌-◌, ◌≤◌, List, ◌++◌, length, take, drop, Option, Some, None}
use Rattle.std.proofs.Common.{refl, ap, sym, ◌∙◌, arith, append_assoc, length-drop}
use Rattle.std.proofs.Math.Seq.{take-add}
use Rattle.jade_base.specs.Bytes.{taken_with, room_after}

-- the first n bytes of the text were written: what was taken, the room and the count before, and those now
pub record Written (text : List ℕ) (n : ℕ) (taken taken' : Option (List ℕ)) (room room' : Option ℕ) (faults faults' : ℕ) : Type 0 where
  pub within : n ≤ length text
  pub takes : taken' ≡ taken_with taken (take n text)
  pub less : room' ≡ room_after room n
  pub quiet : (r : ℕ) → room ≡ Some r → length text ≤ r → faults' ≡ faults
  pub count : faults ≤ faults'

pub taken_with-append : (o : Option (List ℕ)) (a b : List ℕ) → taken_with (taken_with o a) b ≡ taken_with o (a ++ b)
taken_with-append None a b = refl
taken_with-append (Some t) a b = ap Some (append_assoc t a b)

pub room_after-add : (o : Option ℕ) (n m : ℕ) → room_after (room_after o n) m ≡ room_after o (n + m)
room_after-add None n m = refl
room_after-add (Some r) n m = let e : (r - n) - m ≡ r - (n + m) = omega arith in ap Some e

pub room_after-told : (o : Option ℕ) (r n : ℕ) → o ≡ Some r → room_after o n ≡ Some (r - n)
room_after-told o r n e = ap (λ (p : Option ℕ). room_after p n) e

pub Written-more : {text : List ℕ} {n : ℕ} {taken taken' : Option (List ℕ)} {room room' : Option ℕ} {faults faults' : ℕ}
    (rest : List ℕ) (taken'' : Option (List ℕ)) (room'' : Option ℕ) (faults'' m : ℕ) →
    Written text n taken taken' room room' faults faults' →
    rest ≡ drop n text →
    m ≤ length rest →
    taken'' ≡ taken_with taken' (take m rest) →
    room'' ≡ room_after room' m →
    ((r : ℕ) → room' ≡ Some r → length rest ≤ r → faults'' ≡ faults') →
    faults' ≤ faults'' →
    Written text (n + m) taken taken'' room room'' faults faults''
Written-more {text} {n} {taken} {taken'} {room} {room'} {faults} {faults'} rest taken'' room'' faults'' m w d k t r q f =
    let long : length rest ≡ length text - n = ap length d ∙ length-drop n text in
    record {
      within = omega (arith, w.within, k, long);
      takes = t ∙ ap (λ (o : Option (List ℕ)). taken_with o (take m rest)) w.takes ∙ taken_with-append taken (take n text) (take m rest)
          ∙ ap (taken_with taken) (ap (λ (xs : List ℕ). take n text ++ take m xs) d ∙ sym (take-add n m text));
      less = r ∙ ap (λ (o : Option ℕ). room_after o m) w.less ∙ room_after-add room n m;
      quiet = λ s e h.
          let fits : length rest ≤ s - n = omega (arith, w.within, h, long) in
          q (s - n) (w.less ∙ room_after-told room s n e) fits ∙ w.quiet s e h;
      count = omega (arith, w.count, f);
    }
