-- The procedures of a text, the newest first, and what writes their calls.
use Rattle.std.proofs.Common.{◌≡◌, ℕ, zero, suc, ◌+◌, ◌<◌, ◌≤◌, Bool, true, false, nat_eq, List, [], ◌∷◌, ◌++◌, length, map, refl, sym, ap, ◌∙◌, subst, arith}
use Rattle.std.proofs.lemmas.List.{map-append}
use Rattle.std.proofs.lemmas.Bool.{eq-eqb, eqb-true}
use Rattle.jade_base.specs.declared.place.Pos.{Pos}
use Rattle.jade_lexer.specs.Lexemes.{TokenAt}
use Rattle.proc_expand.specs.declared.procedures.Procedure.{Procedure}
use Rattle.proc_expand.specs.declared.sign.Sign.{Sign}
use Rattle.proc_expand.specs.Words.{signs, those, one_if}
use Rattle.proc_expand.specs.Refusals.{begins, procedure}
use Rattle.proc_expand.specs.Written.{CallWriter, and_writer, all_writers, no_writer, procedures}
use Rattle.proc_laws.proofs.CallsRead.{writers, Sure, Chain}

-- one place more, or not
abbrev pub newest : Bool → ℕ → List ℕ → List ℕ
newest true k ks = k ∷ ks
newest false k ks = ks

-- the places before n where procedures begin, the newest first
abbrev pub begun : List Sign → ℕ → List ℕ
begun ss zero = []
begun ss (suc n) = newest (begins ss n) n (begun ss n)

-- where none begins, there are no more
pub begun_on : (ss : List Sign) (k m : ℕ) → ((j : ℕ) → k ≤ j → j < k + m → begins ss j ≡ false) → begun ss (k + m) ≡ begun ss k
begun_on ss k zero h = let e : k + 0 ≡ k = omega arith in ap (begun ss) e
begun_on ss k (suc m) h =
    let e : k + suc m ≡ suc (k + m) = omega arith in
    ap (begun ss) e ∙ ap (λ t. newest t (k + m) (begun ss (k + m))) (h (k + m) (omega arith) (omega arith))
    ∙ begun_on ss k m (λ j l u. h j l (omega (arith, u)))

module _ (ts : List TokenAt) (end : Pos) where
  writers_both : (calls : CallWriter ts end) (a b : List Procedure)
      → all_writers ts end calls (a ++ b) ≡ all_writers ts end (all_writers ts end calls a) b
  writers_both calls [] b = refl
  writers_both calls (p ∷ a) b = writers_both (and_writer ts end calls p) a b

  writers_before : (n : ℕ) → all_writers ts end (no_writer ts end) (map (procedure (signs ts)) (those n (begins (signs ts)))) ≡ writers ts end (begun (signs ts) n)
  writers_before zero = refl
  writers_before (suc n) =
      ap (all_writers ts end (no_writer ts end)) (map-append (procedure (signs ts)) (those n (begins (signs ts))) (one_if (begins (signs ts) n) n))
      ∙ writers_both (no_writer ts end) (map (procedure (signs ts)) (those n (begins (signs ts)))) (map (procedure (signs ts)) (one_if (begins (signs ts) n) n))
      ∙ ap (λ (c : CallWriter ts end). all_writers ts end c (map (procedure (signs ts)) (one_if (begins (signs ts) n) n))) (writers_before n)
      ∙ last n (begins (signs ts) n)
    where
      last : (n : ℕ) (t : Bool) → all_writers ts end (writers ts end (begun (signs ts) n)) (map (procedure (signs ts)) (one_if t n))
          ≡ writers ts end (newest t n (begun (signs ts) n))
      last n true = refl
      last n false = refl

  -- all procedures of the text
  pub writers_are : all_writers ts end (no_writer ts end) (procedures ts end) ≡ writers ts end (begun (signs ts) (length ts))
  writers_are = writers_before (length ts)

  -- what is known of each procedure
  pub sure_at : (n k : ℕ) → Chain ts end (begun (signs ts) n) → k < n → begins (signs ts) k ≡ true → Sure ts end (begun (signs ts) k) k
  sure_at zero k c l b = absurd (omega (arith, l))
  sure_at (suc n) k c l b = by (begins (signs ts) n) refl c (λ g m. sure_at n k g m b)
    where
      by : (t : Bool) → begins (signs ts) n ≡ t → Chain ts end (newest t n (begun (signs ts) n))
          → (Chain ts end (begun (signs ts) n) → k < n → Sure ts end (begun (signs ts) k) k) → Sure ts end (begun (signs ts) k) k
      by true e g go = here (nat_eq k n) refl g go
        where
          here : (t : Bool) → nat_eq k n ≡ t → Chain ts end (n ∷ begun (signs ts) n)
              → (Chain ts end (begun (signs ts) n) → k < n → Sure ts end (begun (signs ts) k) k) → Sure ts end (begun (signs ts) k) k
          here true q g go = let s : n ≡ k = sym (eqb-true k n q) in subst (λ (i : ℕ). Sure ts end (begun (signs ts) i) i) s g.0
          here false q g go =
              let f : k ≡ n → ⊥ = λ u. absurd (let y = eq-eqb k n u in cc) in go g.1 (omega (arith, l, f))
      by false e g go =
          let f : k ≡ n → ⊥ = λ u. absurd (let y : begins (signs ts) n ≡ true = sym (ap (begins (signs ts)) u) ∙ b in cc) in go g (omega (arith, l, f))
