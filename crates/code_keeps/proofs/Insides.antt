-- Instructions that go only to places among them, or directly behind them.
use Rattle.std.proofs.Common.{◌≡◌, ℕ, zero, suc, ◌+◌, ◌-◌, ◌<◌, ◌≤◌, ◌⊎◌, inl, inr, List, [], ◌∷◌, ◌++◌, length, true, ◌&&◌, Some, refl}
use Rattle.std.proofs.Common.{sym, ap, ap₂, ◌∙◌, subst, arith, length-append, append_assoc}
use Rattle.std.specs.Prelude.{slice_get, nat_lt}
use Rattle.std.proofs.lemmas.Bool.{lt-ltb, eq-eqb, cases_lt}
use Rattle.std.proofs.lemmas.Option.{none-some, same_Some, slice_get_within}
use Rattle.code_meaning.specs.declared.code.Instruction.{Instruction}
use Rattle.code_meaning.specs.declared.code.Instruction.TheVariants as i
use Rattle.task_translation.specs.Compile.{loop_code, peeled_code}
use Rattle.task_code.specs.Rules.{is_turn, places_are_there}

-- an instruction at a place goes to a place among these, or directly behind them; none of them ends the task
abbrev pub Stays : List Instruction → ℕ → Instruction → Type 0
Stays code p (i.Jump m) = p + 1 + m ≤ length code
Stays code p (i.Decide l k m) = p + 1 + m ≤ length code
Stays code p (i.JumpFalse k m) = p + 1 + m ≤ length code
Stays code p (i.Turn base m) = p + 1 + m ≤ length code
Stays code p (i.Next base back) = (back < p) × (is_turn base (back + 1) (slice_get code (p - back - 1)) ≡ true)
Stays code p i.Finish = ⊥
Stays code p i.Step = Unit {0}
Stays code p (i.Set t o) = Unit {0}
Stays code p (i.Sign s t k at) = Unit {0}
Stays code p (i.Operate o t j k at) = Unit {0}
Stays code p (i.Member f c t k at) = Unit {0}
Stays code p (i.Within s k at) = Unit {0}
Stays code p (i.Reach f c s t k o at) = Unit {0}
Stays code p (i.ReadOf o s t c at) = Unit {0}
Stays code p (i.ReadIn f c s t k o at) = Unit {0}
Stays code p (i.Read s t o c at) = Unit {0}
Stays code p (i.WriteOf o c v at) = Unit {0}
Stays code p (i.Write o c v at) = Unit {0}
Stays code p (i.Fresh c at) = Unit {0}
Stays code p (i.Draft at) = Unit {0}
Stays code p (i.Declare how o at) = Unit {0}
Stays code p (i.Create b at) = Unit {0}
Stays code p i.Commit = Unit {0}

pub record Inside (code : List Instruction) : Type 0 where
  pub each : (p : ℕ) (x : Instruction) → slice_get code p ≡ Some x → Stays code p x

at_left : (a b : List Instruction) (p : ℕ) → p < length a → slice_get (a ++ b) p ≡ slice_get a p
at_left [] b p lt = absurd (omega (arith, lt))
at_left (x ∷ a) b zero lt = refl
at_left (x ∷ a) b (suc p) lt = at_left a b p (omega (arith, lt))

at_right : (a b : List Instruction) (k : ℕ) → slice_get (a ++ b) (length a + k) ≡ slice_get b k
at_right [] b k = let e : 0 + k ≡ k = omega arith in ap (slice_get b) e
at_right (x ∷ a) b k = let e : suc (length a) + k ≡ suc (length a + k) = omega arith in ap (slice_get (x ∷ (a ++ b))) e ∙ at_right a b k

stays_left : (a b : List Instruction) (p : ℕ) (x : Instruction) → p < length a → Stays a p x → Stays (a ++ b) p x
stays_left a b p (i.Jump m) lt h = omega (arith, h, length-append a b)
stays_left a b p (i.Decide l k m) lt h = omega (arith, h, length-append a b)
stays_left a b p (i.JumpFalse k m) lt h = omega (arith, h, length-append a b)
stays_left a b p (i.Turn base m) lt h = omega (arith, h, length-append a b)
stays_left a b p (i.Next base back) lt h = (h.0, ap (is_turn base (back + 1)) (at_left a b (p - back - 1) (omega (arith, lt))) ∙ h.1)
stays_left a b p i.Finish lt h = absurd h
stays_left a b p i.Step lt h = tt
stays_left a b p (i.Set t o) lt h = tt
stays_left a b p (i.Sign s t k at) lt h = tt
stays_left a b p (i.Operate o t j k at) lt h = tt
stays_left a b p (i.Member f c t k at) lt h = tt
stays_left a b p (i.Within s k at) lt h = tt
stays_left a b p (i.Reach f c s t k o at) lt h = tt
stays_left a b p (i.ReadOf o s t c at) lt h = tt
stays_left a b p (i.ReadIn f c s t k o at) lt h = tt
stays_left a b p (i.Read s t o c at) lt h = tt
stays_left a b p (i.WriteOf o c v at) lt h = tt
stays_left a b p (i.Write o c v at) lt h = tt
stays_left a b p (i.Fresh c at) lt h = tt
stays_left a b p (i.Draft at) lt h = tt
stays_left a b p (i.Declare how o at) lt h = tt
stays_left a b p (i.Create n at) lt h = tt
stays_left a b p i.Commit lt h = tt

stays_right : (a b : List Instruction) (k : ℕ) (x : Instruction) → Stays b k x → Stays (a ++ b) (length a + k) x
stays_right a b k (i.Jump m) h = omega (arith, h, length-append a b)
stays_right a b k (i.Decide l s m) h = omega (arith, h, length-append a b)
stays_right a b k (i.JumpFalse s m) h = omega (arith, h, length-append a b)
stays_right a b k (i.Turn base m) h = omega (arith, h, length-append a b)
stays_right a b k (i.Next base back) h =
    let lt = h.0 in
    let e : length a + k - back - 1 ≡ length a + (k - back - 1) = omega (arith, lt) in
    (omega (arith, lt), ap (λ n. is_turn base (back + 1) (slice_get (a ++ b) n)) e ∙ ap (is_turn base (back + 1)) (at_right a b (k - back - 1)) ∙ h.1)
stays_right a b k i.Finish h = absurd h
stays_right a b k i.Step h = tt
stays_right a b k (i.Set t o) h = tt
stays_right a b k (i.Sign s t n at) h = tt
stays_right a b k (i.Operate o t j n at) h = tt
stays_right a b k (i.Member f c t n at) h = tt
stays_right a b k (i.Within s n at) h = tt
stays_right a b k (i.Reach f c s t n o at) h = tt
stays_right a b k (i.ReadOf o s t c at) h = tt
stays_right a b k (i.ReadIn f c s t n o at) h = tt
stays_right a b k (i.Read s t o c at) h = tt
stays_right a b k (i.WriteOf o c v at) h = tt
stays_right a b k (i.Write o c v at) h = tt
stays_right a b k (i.Fresh c at) h = tt
stays_right a b k (i.Draft at) h = tt
stays_right a b k (i.Declare how o at) h = tt
stays_right a b k (i.Create n at) h = tt
stays_right a b k i.Commit h = tt

-- one instruction before others
stays_behind : (x : Instruction) (b : List Instruction) (k : ℕ) (y : Instruction) → Stays b k y → Stays (x ∷ b) (suc k) y
stays_behind x b k y h = let e : 1 + k ≡ suc k = omega arith in subst (λ n. Stays (x ∷ b) n y) e (stays_right (x ∷ []) b k y h)

pub none_inside : Inside []
none_inside = record { each = λ p x h. absurd (none-some x h) }

pub both_inside : (a b : List Instruction) → Inside a → Inside b → Inside (a ++ b)
both_inside a b f g = record { each = λ p x h. by_case p x h (cases_lt p (length a)) }
  where
    by_case : (p : ℕ) (x : Instruction) → slice_get (a ++ b) p ≡ Some x → (p < length a) ⊎ (length a ≤ p) → Stays (a ++ b) p x
    by_case p x h (inl lt) = stays_left a b p x lt (f.each p x (sym (at_left a b p lt) ∙ h))
    by_case p x h (inr le) =
        let k = p - length a in
        let e : length a + k ≡ p = omega (arith, le) in
        subst (λ n. Stays (a ++ b) n x) e (stays_right a b k x (g.each k x (sym (at_right a b k) ∙ ap (slice_get (a ++ b)) e ∙ h)))

-- an instruction before others
pub before_inside : (x : Instruction) (a : List Instruction) → Stays (x ∷ a) 0 x → Inside a → Inside (x ∷ a)
before_inside x a s f = record { each = λ p y h. by_case p y h }
  where
    by_case : (p : ℕ) (y : Instruction) → slice_get (x ∷ a) p ≡ Some y → Stays (x ∷ a) p y
    by_case zero y h = subst (Stays (x ∷ a) 0) (same_Some x y h) s
    by_case (suc k) y h = stays_behind x a k y (f.each k y h)

pub alone_inside : (x : Instruction) → Stays (x ∷ []) 0 x → Inside (x ∷ [])
alone_inside x s = before_inside x [] s none_inside

-- a loop before others, to which an instruction of its body may go
pub loop_before : (n : ℕ) (body more : List Instruction)
    → ((k : ℕ) (x : Instruction) → slice_get body k ≡ Some x → Stays (body ++ (i.Next n (length body) ∷ more)) k x) → Inside more
    → Inside (i.Turn n (length body + 1) ∷ (body ++ (i.Next n (length body) ∷ more)))
loop_before n body more f g = record { each = λ p x h. by_case p x h }
  where
    behind : (j : ℕ) (x : Instruction) → slice_get (i.Next n (length body) ∷ more) j ≡ Some x
        → Stays (i.Turn n (length body + 1) ∷ (body ++ (i.Next n (length body) ∷ more))) (suc (length body + j)) x
    behind zero x h =
        let z : suc (length body + 0) - length body - 1 ≡ 0 = omega arith in
        let turn : is_turn n (length body + 1) (slice_get (i.Turn n (length body + 1) ∷ (body ++ (i.Next n (length body) ∷ more)))
        (suc (length body + 0) - length body - 1)) ≡ true =
        ap (λ j. is_turn n (length body + 1) (slice_get (i.Turn n (length body + 1) ∷ (body ++ (i.Next n (length body) ∷ more))) j)) z
        ∙ ap₂ (λ a b. a && b) (eq-eqb n n refl) (eq-eqb (length body + 1) (length body + 1) refl) in
        let P : Instruction → Type 0 = Stays (i.Turn n (length body + 1) ∷ (body ++ (i.Next n (length body) ∷ more))) (suc (length body + 0)) in
        subst P (same_Some (i.Next n (length body)) x h) (omega arith, turn)
    behind (suc j) x h =
        stays_behind (i.Turn n (length body + 1)) (body ++ (i.Next n (length body) ∷ more)) (length body + suc j) x
        (stays_right body (i.Next n (length body) ∷ more) (suc j) x (stays_behind (i.Next n (length body)) more j x (g.each j x h)))

    later : (k : ℕ) (x : Instruction) → slice_get (body ++ (i.Next n (length body) ∷ more)) k ≡ Some x → (k < length body) ⊎ (length body ≤ k)
        → Stays (i.Turn n (length body + 1) ∷ (body ++ (i.Next n (length body) ∷ more))) (suc k) x
    later k x h (inl lt) =
        stays_behind (i.Turn n (length body + 1)) (body ++ (i.Next n (length body) ∷ more)) k x
        (f k x (sym (at_left body (i.Next n (length body) ∷ more) k lt) ∙ h))
    later k x h (inr le) =
        let j = k - length body in
        let e : length body + j ≡ k = omega (arith, le) in
        subst (λ p. Stays (i.Turn n (length body + 1) ∷ (body ++ (i.Next n (length body) ∷ more))) (suc p) x) e
        (behind j x (sym (at_right body (i.Next n (length body) ∷ more) j) ∙ ap (slice_get (body ++ (i.Next n (length body) ∷ more))) e ∙ h))

    by_case : (p : ℕ) (x : Instruction) → slice_get (i.Turn n (length body + 1) ∷ (body ++ (i.Next n (length body) ∷ more))) p ≡ Some x
        → Stays (i.Turn n (length body + 1) ∷ (body ++ (i.Next n (length body) ∷ more))) p x
    by_case zero x h =
        let long = length-append body (i.Next n (length body) ∷ more) in
        let P : Instruction → Type 0 = Stays (i.Turn n (length body + 1) ∷ (body ++ (i.Next n (length body) ∷ more))) 0 in
        subst P (same_Some (i.Turn n (length body + 1)) x h) (omega (arith, long))
    by_case (suc k) x h = later k x h (cases_lt k (length body))

-- a loop
pub loop_inside : (n : ℕ) (body : List Instruction) → Inside body → Inside (loop_code n body)
loop_inside n body f = loop_before n body [] (λ k x h. stays_left body _ k x (slice_get_within body k x h) (f.each k x h)) none_inside

-- a loop with a first turn of its own
pub peeled_inside : (n : ℕ) (first fast : List Instruction) → Inside first → Inside fast → Inside (peeled_code n first fast)
peeled_inside n first fast f g =
    let led = i.Jump (length first + 2) ∷ first in
    let later = loop_code n fast in
    let end = i.Next n (length led) in
    let e : loop_code n led ++ later ≡ i.Turn n (length led + 1) ∷ (led ++ (end ∷ later)) =
    ap (λ l. i.Turn n (length led + 1) ∷ l) (append_assoc led (end ∷ []) later) in
    let long = length-append led (end ∷ later) in
    let all : Inside (loop_code n led ++ later) = subst Inside (sym e) (loop_before n led later (λ k x h. in_led k x h) (loop_inside n fast g)) in
    let many : length (loop_code n led ++ later) ≡ suc (length led + suc (length later)) = ap length e ∙ ap suc long in
    before_inside _ (i.Jump 2 ∷ (loop_code n led ++ later)) (omega arith) (before_inside (i.Jump 2) (loop_code n led ++ later) (omega (arith, many)) all)
  where
    in_led : (k : ℕ) (x : Instruction) → slice_get (i.Jump (length first + 2) ∷ first) k ≡ Some x
        → Stays ((i.Jump (length first + 2) ∷ first) ++ (i.Next n (length (i.Jump (length first + 2) ∷ first)) ∷ loop_code n fast)) k x
    in_led zero x h =
        let all = (i.Jump (length first + 2) ∷ first) ++ (i.Next n (length (i.Jump (length first + 2) ∷ first)) ∷ loop_code n fast) in
        let long = length-append first (i.Next n (length (i.Jump (length first + 2) ∷ first)) ∷ loop_code n fast) in
        subst (Stays all 0) (same_Some (i.Jump (length first + 2)) x h) (omega (arith, long))
    in_led (suc k) x h = stays_behind _ _ k x (stays_left first _ k x (slice_get_within first k x h) (f.each k x h))

-- ---- a body ends with `Finish`

next_there : (a : List Instruction) (p : ℕ) → p < length a → nat_lt (p + 1) (length (a ++ (i.Finish ∷ []))) ≡ true
next_there a p lt = lt-ltb (p + 1) (length (a ++ (i.Finish ∷ []))) (omega (arith, lt, length-append a (i.Finish ∷ [])))

far_there : (a : List Instruction) (p m : ℕ) → p + 1 + m ≤ length a → nat_lt (p + 1 + m) (length (a ++ (i.Finish ∷ []))) ≡ true
far_there a p m le = lt-ltb (p + 1 + m) (length (a ++ (i.Finish ∷ []))) (omega (arith, le, length-append a (i.Finish ∷ [])))

finished : (a : List Instruction) (p : ℕ) (x : Instruction) → p < length a → Stays a p x → places_are_there (a ++ (i.Finish ∷ [])) p x ≡ true
finished a p (i.Jump m) lt h = far_there a p m h
finished a p (i.Decide l k m) lt h = far_there a p m h
finished a p (i.JumpFalse k m) lt h = far_there a p m h
finished a p (i.Turn base m) lt h = far_there a p m h
finished a p (i.Next base back) lt h =
    ap₂ (λ x y. x && y)
    (ap₂ (λ x y. x && y) (next_there a p lt) (lt-ltb back p h.0))
    (ap (is_turn base (back + 1)) (at_left a (i.Finish ∷ []) (p - back - 1) (omega (arith, lt))) ∙ h.1)
finished a p i.Finish lt h = absurd h
finished a p i.Step lt h = next_there a p lt
finished a p (i.Set t o) lt h = next_there a p lt
finished a p (i.Sign s t k at) lt h = next_there a p lt
finished a p (i.Operate o t j k at) lt h = next_there a p lt
finished a p (i.Member f c t k at) lt h = next_there a p lt
finished a p (i.Within s k at) lt h = next_there a p lt
finished a p (i.Reach f c s t k o at) lt h = next_there a p lt
finished a p (i.ReadOf o s t c at) lt h = next_there a p lt
finished a p (i.ReadIn f c s t k o at) lt h = next_there a p lt
finished a p (i.Read s t o c at) lt h = next_there a p lt
finished a p (i.WriteOf o c v at) lt h = next_there a p lt
finished a p (i.Write o c v at) lt h = next_there a p lt
finished a p (i.Fresh c at) lt h = next_there a p lt
finished a p (i.Draft at) lt h = next_there a p lt
finished a p (i.Declare how o at) lt h = next_there a p lt
finished a p (i.Create b at) lt h = next_there a p lt
finished a p i.Commit lt h = next_there a p lt

pub ends_well : (a : List Instruction) → Inside a → (p : ℕ) (x : Instruction) → slice_get (a ++ (i.Finish ∷ [])) p ≡ Some x
    → places_are_there (a ++ (i.Finish ∷ [])) p x ≡ true
ends_well a f p x h = by_case (cases_lt p (length a))
  where
    by_case : (p < length a) ⊎ (length a ≤ p) → places_are_there (a ++ (i.Finish ∷ [])) p x ≡ true
    by_case (inl lt) = finished a p x lt (f.each p x (sym (at_left a (i.Finish ∷ []) p lt) ∙ h))
    by_case (inr le) =
        let within = slice_get_within (a ++ (i.Finish ∷ [])) p x h in
        let e : length a + 0 ≡ p = omega (arith, le, within, length-append a (i.Finish ∷ [])) in
        let is : i.Finish ≡ x = same_Some i.Finish x (sym (at_right a (i.Finish ∷ []) 0) ∙ ap (slice_get (a ++ (i.Finish ∷ []))) e ∙ h) in
        subst (λ y. places_are_there (a ++ (i.Finish ∷ [])) p y ≡ true) is refl
