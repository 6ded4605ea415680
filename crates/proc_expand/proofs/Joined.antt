-- The first refusal, of those by each reason.
use Rattle.std.proofs.Common.{◌≡◌, ℕ, zero, suc, ◌<◌, Bool, true, false, ◌&&◌, ◌||◌, List, length, Option, Some, None, refl, sym, ap, ◌∙◌, arith}
use Rattle.std.specs.Prelude.{if◌then◌else◌}
use Rattle.std.proofs.lemmas.List.{length-map}
use Rattle.jade_lexer.specs.Lexemes.{TokenAt}
use Rattle.proc_expand.specs.declared.refusal.Reason.{Reason}
use Rattle.proc_expand.specs.declared.refusal.Reason.TheVariants.{Shape, Unknown, Count, Twice}
use Rattle.proc_expand.specs.declared.refusal.Refusal.{Refusal}
use Rattle.proc_expand.specs.declared.sign.Sign.{Sign}
use Rattle.proc_expand.specs.Words.{signs, sign_of, first, some, or_here}
use Rattle.proc_expand.specs.steps.Looking.{earliest}
use Rattle.proc_expand.specs.Refusals.{begins, proc_fails, misplaced, within, is_call, call_fails, is_shape, is_unknown, is_count, is_twice, reason, or_reason, first_reason, refusal}
use Rattle.proc_expand.specs.steps.Looking.{refused, earlier}
use Rattle.proc_expand.proofs.First.{lt_is, lt_not, first_either}

-- the first of two reasons at a place
abbrev or_else : Option Reason → Option Reason → Option Reason
or_else None b = b
or_else (Some a) b = Some a

abbrev at_place : Reason → ℕ → Refusal
at_place why k = record { why = why; place = k }

abbrev choice : Refusal → Refusal → Bool → Option Refusal
choice a b t = Some (if t then a else b)

-- one reason
abbrev if_so : Reason → Bool → Option Reason
if_so why b = if b then Some why else None

first_reason_same : (n : ℕ) (f g : ℕ → Option Reason) → ((k : ℕ) → f k ≡ g k) → first_reason n f ≡ first_reason n g
first_reason_same zero f g h = refl
first_reason_same (suc n) f g h = ap (λ r. or_reason r (f n) n) (first_reason_same n f g h) ∙ ap (λ w. or_reason (first_reason n g) w n) (h n)

-- by one reason alone
one_reason : (n : ℕ) (why : Reason) (p : ℕ → Bool) → refused why (first n p) ≡ first_reason n (λ k. if_so why (p k))
one_reason zero why p = refl
one_reason (suc n) why p = by (first n p) (p n) ∙ ap (λ r. or_reason r (if_so why (p n)) n) (one_reason n why p)
  where
    by : (a : Option ℕ) (b : Bool) → refused why (or_here a b n) ≡ or_reason (refused why a) (if_so why b) n
    by (Some j) b = refl
    by None true = refl
    by None false = refl

reason_below : (n : ℕ) (f : ℕ → Option Reason) (r : Refusal) → first_reason n f ≡ Some r → r.place < n
reason_below zero f r e = absurd (cc)
reason_below (suc n) f r e = by (first_reason n f) (f n) refl e (reason_below n f r)
  where
    by : (a : Option Refusal) (w : Option Reason) → first_reason n f ≡ a → or_reason a w n ≡ Some r → (first_reason n f ≡ Some r → r.place < n) → r.place < suc n
    by (Some s) w g h go = let l = go (g ∙ h) in omega (arith, l)
    by None (Some why) g h go = let is : at_place why n ≡ r = cc in let l : n ≡ r.place = ap (λ (u : Refusal). u.place) is in omega (arith, l)
    by None None g h go = absurd (cc)

-- by one of two reasons
join : (n : ℕ) (a b : Option Refusal) (x y : Option Reason) → ((r : Refusal) → a ≡ Some r → r.place < n) → ((r : Refusal) → b ≡ Some r → r.place < n)
    → or_reason (earlier a b) (or_else x y) n ≡ earlier (or_reason a x n) (or_reason b y n)
join n (Some r) (Some s) x y f g = refl
join n (Some r) None x (Some v) f g =
    ap (choice (at_place v n) r) (sym (lt_not n r.place (let l = f r refl in omega (arith, l))))
join n (Some r) None x None f g = refl
join n None (Some s) (Some w) y f g =
    ap (choice s (at_place w n)) (sym (lt_is s.place n (g s refl)))
join n None (Some s) None y f g = refl
join n None None (Some w) (Some v) f g =
    ap (choice (at_place v n) (at_place w n)) (sym (lt_not n n (omega arith)))
join n None None (Some w) None f g = refl
join n None None None y f g = refl

either_reason : (n : ℕ) (f g : ℕ → Option Reason) → first_reason n (λ k. or_else (f k) (g k)) ≡ earlier (first_reason n f) (first_reason n g)
either_reason zero f g = refl
either_reason (suc n) f g =
    ap (λ r. or_reason r (or_else (f n) (g n)) n) (either_reason n f g)
    ∙ join n (first_reason n f) (first_reason n g) (f n) (g n) (reason_below n f) (reason_below n g)

-- the first place of any kind of broken forms
pub shape_first : (ts : List TokenAt) (ss : List Sign) → ss ≡ signs ts → (a b c d : Option ℕ)
    → a ≡ first (suc (length ss)) (λ k. some (length ss) (λ p. begins ss p && proc_fails ss p k))
    → b ≡ first (suc (length ss)) (misplaced ss) → c ≡ first (suc (length ss)) (within ss)
    → d ≡ first (suc (length ss)) (λ k. some (length ss) (λ c. is_call ss c && call_fails ss c k))
    → earliest a (earliest b (earliest c d)) ≡ first (suc (length ts)) (is_shape (signs ts))
shape_first ts ss is a b c d e f g h =
    let n = suc (length ss) in
    let p : ℕ → Bool = λ k. some (length ss) (λ p. begins ss p && proc_fails ss p k) in
    let q : ℕ → Bool = λ k. some (length ss) (λ c. is_call ss c && call_fails ss c k) in
    ap (λ t. earliest t (earliest b (earliest c d))) e ∙ ap (λ t. earliest (first n p) (earliest t (earliest c d))) f
    ∙ ap (λ t. earliest (first n p) (earliest (first n (misplaced ss)) (earliest t d))) g
    ∙ ap (λ t. earliest (first n p) (earliest (first n (misplaced ss)) (earliest (first n (within ss)) t))) h
    ∙ ap (λ t. earliest (first n p) (earliest (first n (misplaced ss)) t)) (sym (first_either n (within ss) q))
    ∙ ap (earliest (first n p)) (sym (first_either n (misplaced ss) (λ k. within ss k || q k)))
    ∙ sym (first_either n p (λ k. misplaced ss k || (within ss k || q k)))
    ∙ ap (λ u. first (suc (length u)) (is_shape u)) is
    ∙ ap (λ m. first (suc m) (is_shape (signs ts))) (length-map ts (λ (t : TokenAt). sign_of t.bytes))

module _ (ts : List TokenAt) where
  chosen : (s u c t : Bool)
      → (if s then Some Shape else (if u then Some Unknown else (if c then Some Count else (if t then Some Twice else None))))
      ≡ or_else (if_so Shape s) (or_else (if_so Unknown u) (or_else (if_so Count c) (if_so Twice t)))
  chosen true u c t = refl
  chosen false true c t = refl
  chosen false false true t = refl
  chosen false false false t = refl

  pub joined : earlier (refused Shape (first (suc (length ts)) (is_shape (signs ts))))
      (earlier (refused Unknown (first (suc (length ts)) (is_unknown ts)))
      (earlier (refused Count (first (suc (length ts)) (is_count ts))) (refused Twice (first (suc (length ts)) (is_twice ts)))))
      ≡ refusal ts
  joined =
      let n = suc (length ts) in
      let s : ℕ → Option Reason = λ k. if_so Shape (is_shape (signs ts) k) in
      let u : ℕ → Option Reason = λ k. if_so Unknown (is_unknown ts k) in
      let c : ℕ → Option Reason = λ k. if_so Count (is_count ts k) in
      let t : ℕ → Option Reason = λ k. if_so Twice (is_twice ts k) in
      ap (λ r. earlier r (earlier (refused Unknown (first n (is_unknown ts))) (earlier (refused Count (first n (is_count ts))) (refused Twice (first n (is_twice ts))))))
      (one_reason n Shape (is_shape (signs ts)))
      ∙ ap (λ r. earlier (first_reason n s) (earlier r (earlier (refused Count (first n (is_count ts))) (refused Twice (first n (is_twice ts))))))
      (one_reason n Unknown (is_unknown ts))
      ∙ ap (λ r. earlier (first_reason n s) (earlier (first_reason n u) (earlier r (refused Twice (first n (is_twice ts))))))
      (one_reason n Count (is_count ts))
      ∙ ap (λ r. earlier (first_reason n s) (earlier (first_reason n u) (earlier (first_reason n c) r))) (one_reason n Twice (is_twice ts))
      ∙ ap (λ r. earlier (first_reason n s) (earlier (first_reason n u) r)) (sym (either_reason n c t))
      ∙ ap (earlier (first_reason n s)) (sym (either_reason n u (λ k. or_else (c k) (t k))))
      ∙ sym (either_reason n s (λ k. or_else (u k) (or_else (c k) (t k))))
      ∙ first_reason_same n (λ k. or_else (s k) (or_else (u k) (or_else (c k) (t k)))) (reason ts)
      (λ k. sym (chosen (is_shape (signs ts) k) (is_unknown ts k) (is_count ts k) (is_twice ts k)))
