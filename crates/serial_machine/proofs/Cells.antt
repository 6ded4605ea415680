-- The cells of objects that are held.
use Rattle.std.proofs.Common.{◌≡◌, ℕ, zero, suc, ◌+◌, ◌<◌, ◌≤◌, List, [], ◌∷◌, ◌++◌, map, length, Some, None, refl, sym, ap, ◌∙◌, subst, arith}
use Rattle.std.proofs.Common.{cond, length-set}
use Rattle.std.specs.Prelude.{ℤ, slice_get}
use Rattle.std.proofs.lemmas.Option.{none-some, same_Some}
use Rattle.jade_base.specs.declared.rights.Mode.TheVariants.{Reading, Writing}
use Rattle.jade_base.specs.Held.{Held}
use Rattle.jade_meaning.specs.Specification.{numbers}
use Rattle.jade_meaning.specs.Serial.{Store, Mark, Deed, DidTurn, DidRead, DidWrite, DidCreate, DidEnd, done_to, after, zeros}
use Rattle.task_machine.specs.Playing.{Contents}
use Rattle.task_machine.specs.Whole.{held_of, all_held, without}
use Rattle.std.proofs.lemmas.Bool.{ne_eqb}
use Rattle.serial_machine.specs.steps.Pausing.{mode_in, AllHeld}
use Rattle.serial_machine.proofs.Pausing.{is_reading}
use Rattle.serial_machine.specs.steps.Cells.{cells_in, cells_held}

tab_next : (f : ℕ → List ℤ) (i n : ℕ) → map f (numbers i (suc n)) ≡ map f (numbers i n) ++ f (i + n) ∷ []
tab_next f i zero = let z : i ≡ i + 0 = omega arith in ap (λ j. f j ∷ []) z
tab_next f i (suc n) =
    let z : suc i + n ≡ i + suc n = omega arith in
    ap (λ l. f i ∷ l) (tab_next f (suc i) n ∙ ap (λ j. map f (numbers (suc i) n) ++ f j ∷ []) z)

cells_next : (n : ℕ) (k : Contents) → cells_held n k ++ cells_in (k n) ∷ [] ≡ cells_held (n + 1) k
cells_next n k =
    let z : 0 + n ≡ n = omega arith in
    let y : suc n ≡ n + 1 = omega arith in
    ap (λ j. cells_held n k ++ cells_in (k j) ∷ []) (sym z) ∙ sym (tab_next (λ o. cells_in (k o)) 0 n) ∙ ap (λ m. cells_held m k) y

pub cells_pushed : (i : ℕ) (k : Contents) (old new : List (List ℤ)) (x : Held) → old ≡ cells_held i k → k i ≡ Some x → new ≡ old ++ x.cells ∷ []
    → new ≡ cells_held (i + 1) k
cells_pushed i k old new x e at q =
    q ∙ ap (λ l. l ++ x.cells ∷ []) e ∙ ap (λ w. cells_held i k ++ cells_in w ∷ []) (sym at) ∙ cells_next i k

-- the contents after the first i are there still
pub one_taken : (i : ℕ) (k old new : Contents) → new ≡ without i old → ((o : ℕ) → i ≤ o → old o ≡ k o) → (o : ℕ) → i + 1 ≤ o → new o ≡ k o
one_taken i k old new e h o le =
    ap (λ (f : Contents). f o) e ∙ ap (λ b. cond b None (old o)) (ne_eqb o i (λ q. omega (arith, le, q))) ∙ h o (omega (arith, le))

-- an object that is held for writing
pub no_content : (n o : ℕ) (k : Contents) → AllHeld n k → o < n → k o ≡ None → ⊥
no_content n o k h lt e = none-some Writing (sym (ap mode_in e) ∙ h.held o lt)

pub for_writing : (n o : ℕ) (k : Contents) (x : Held) → AllHeld n k → o < n → k o ≡ Some x → x.mode ≡ Reading → ⊥
for_writing n o k x h lt e r = reading (sym r ∙ same_Some x.mode Writing (sym (ap mode_in e) ∙ h.held o lt))
  where
    reading : Reading ≡ Writing → ⊥
    reading q = subst is_reading q tt

-- ---- stores

long_done : (d : Deed) (store : Store) → length (done_to d store) ≡ length store
long_done (DidWrite o c v) store = length-set store o _
long_done (DidRead o c v) store = refl
long_done (DidTurn o) store = refl
long_done (DidCreate t n) store = refl
long_done (DidEnd b n) store = refl

pub long_after : (ms : List Mark) (store : Store) → length (after ms store) ≡ length store
long_after [] store = refl
long_after (m ∷ ms) store = long_after ms (done_to m.deed store) ∙ long_done m.deed store

pub long_zeros : (sizes : List ℕ) → length (zeros sizes) ≡ length sizes
long_zeros [] = refl
long_zeros (n ∷ ns) = ap suc (long_zeros ns)

held_at : (store : Store) (o : ℕ) → o < length store → mode_in (held_of (slice_get store o)) ≡ Some Writing
held_at [] o lt = absurd (omega (arith, lt))
held_at (x ∷ store) zero lt = refl
held_at (x ∷ store) (suc o) lt = held_at store o (omega (arith, lt))

pub store_held : (n : ℕ) (store : Store) (k : Contents) → length store ≡ n → k ≡ all_held store → AllHeld n k
store_held n store k long e = record { held = λ o lt. ap (λ (j : Contents). mode_in (j o)) e ∙ held_at store o (omega (arith, lt, long)) }

tab_same : (f g : ℕ → List ℤ) (i n : ℕ) → ((k : ℕ) → f k ≡ g k) → map f (numbers i n) ≡ map g (numbers i n)
tab_same f g i zero h = refl
tab_same f g i (suc n) h = ap (λ x. x ∷ map f (numbers (suc i) n)) (h i) ∙ ap (λ l. g i ∷ l) (tab_same f g (suc i) n h)

-- one number on
tab_on : (f : ℕ → List ℤ) (i n : ℕ) → map f (numbers (suc i) n) ≡ map (λ o. f (suc o)) (numbers i n)
tab_on f i zero = refl
tab_on f i (suc n) = ap (λ l. f (suc i) ∷ l) (tab_on f (suc i) n)

store_is : (store : Store) → map (λ o. cells_in (held_of (slice_get store o))) (numbers 0 (length store)) ≡ store
store_is [] = refl
store_is (x ∷ store) = ap (λ l. x ∷ l) (tab_on (λ o. cells_in (held_of (slice_get (x ∷ store) o))) 0 (length store) ∙ store_is store)

-- the cells of what is held of a store
pub all_cells : (n : ℕ) (k : Contents) (store : Store) → k ≡ all_held store → length store ≡ n → cells_held n k ≡ store
all_cells n k store e long = ap (λ (j : Contents). cells_held n j) e ∙ ap (λ m. cells_held m (all_held store)) (sym long) ∙ store_is store
