-- The names of one procedure after the other are numbered.
use Rattle.std.proofs.Common.{◌≡◌, ℕ, ◌+◌, ◌-◌, ◌*◌, ◌<◌, ◌≤◌, true, false, List, [], ◌∷◌, ◌++◌, length, nat_eq, Option, None, sym, ap, ◌∙◌, subst, arith}
use Rattle.std.specs.Prelude.{slice_index_or}
use Rattle.std.proofs.lemmas.List.{length-append}
use Rattle.std.proofs.Math.Seq.{get_or-append_seam}
use Rattle.std.proofs.Math.ListN.{get_or-append}
use Rattle.jade_base.specs.declared.place.Pos.{Pos}
use Rattle.jade_lexer.specs.Lexemes.{TokenAt}
use Rattle.jade_syntax.specs.Abstract.{Name}
use Rattle.proc_expand.specs.Words.{signs, bytes_at}
use Rattle.proc_expand.specs.Refusals.{begins, head, body_end, procedure, param_place, refusal}
use Rattle.proc_expand.specs.Written.{items, closed_at, replaced_at, names_at, from}
use Rattle.proc_expand.specs.steps.Replaced.{with_names, IsNumber, IsMark}
use Rattle.proc_expand.specs.steps.Marks.{AreMarked, AreMarks}
use Rattle.proc_expand.proofs.First.{by_case, eq_true, eq_false}
use Rattle.proc_expand.proofs.NameLists.{numbers_stay}
use Rattle.proc_expand.proofs.BodyNames.{heads_names, all_replaced}
use Rattle.proc_expand.proofs.Wholes.{apart, params_long, body_in}

module _ (ts : List TokenAt) (end : Pos) where
  module _ (p start stop n : ℕ) (own mid all : List Name) (is_own : own ≡ items ts end) (is_n : n ≡ (head (signs ts) p).params)
      (is_start : start ≡ (head (signs ts) p).stop + 1) (is_stop : stop ≡ closed_at ts end (body_end (signs ts) p))
      (is_mid : mid ≡ with_names own [] (heads_names ts end p n))
      (is_all : all ≡ with_names own mid (names_at ts end (from ts end start (stop - start)))) where
    are_all : all ≡ replaced_at ts end (procedure (signs ts) p)
    are_all = all_replaced ts end p own mid all start stop n is_own is_n is_start is_stop is_mid is_all

    pub how_many : (m : ℕ) → m ≡ length all → m ≡ length (replaced_at ts end (procedure (signs ts) p))
    how_many m e = e ∙ ap length are_all

    pub are_marked : (now later : List (Option ℕ)) → p + 1 + 3 * n ≤ (head (signs ts) p).stop
        → ((i : ℕ) → i < n → IsNumber own mid (bytes_at ts (param_place p i)) (slice_index_or now (param_place p i) None))
        → ((k : ℕ) → start ≤ k → k < stop → IsMark ts end own all k (slice_index_or later k None))
        → ((k : ℕ) → k < start → slice_index_or later k None ≡ slice_index_or now k None) → AreMarked ts end p later
    are_marked now later long params body same = record {
      params = λ i l.
          let less : i < n = omega (arith, l, is_n) in
          let k = param_place p i in
          let below : k < start = omega (arith, less, long, is_start) in
          let a = numbers_stay own mid (names_at ts end (from ts end start (stop - start))) (bytes_at ts k) (slice_index_or now k None) (params i less) in
          let b = subst (λ m. IsNumber own (with_names own mid (names_at ts end (from ts end start (stop - start)))) (bytes_at ts k) m) (sym (same k below)) a in
          let c = subst (λ ns. IsNumber own ns (bytes_at ts k) (slice_index_or later k None)) (sym is_all ∙ are_all) b in
          subst (λ ns. IsNumber ns (replaced_at ts end (procedure (signs ts) p)) (bytes_at ts k) (slice_index_or later k None)) is_own c;
      body = λ k a b.
          let m = body k (omega (arith, a, is_start)) (omega (arith, b, is_stop)) in
          let c = subst (λ ns. IsMark ts end own ns k (slice_index_or later k None)) are_all m in
          subst (λ ns. IsMark ts end ns (replaced_at ts end (procedure (signs ts) p)) k (slice_index_or later k None)) is_own c;
    }

  module _ (n m : ℕ) (numbers : List (Option ℕ)) (counts : List ℕ) (h : AreMarks ts end n numbers counts) where
    longer : length (counts ++ m ∷ []) ≡ n + 1
    longer = length-append counts (m ∷ []) ∙ (let a = h.counted in omega (arith, a))

    counts_more : (p : ℕ) → p < n + 1 → begins (signs ts) p ≡ true
        → (p ≡ n → m ≡ length (replaced_at ts end (procedure (signs ts) n)))
        → slice_index_or (counts ++ m ∷ []) p 0 ≡ length (replaced_at ts end (procedure (signs ts) p))
    counts_more p l t last =
        by_case (nat_eq p n)
        (λ e. let is = eq_true p n e in let c = h.counted in
        ap (λ i. slice_index_or (counts ++ m ∷ []) i 0) (let z : p ≡ length counts = omega (arith, is, c) in z)
        ∙ get_or-append_seam counts m [] 0 ∙ last is
        ∙ ap (λ i. length (replaced_at ts end (procedure (signs ts) i))) (sym is))
        (λ e. let d = eq_false p n e in let c = h.counted in let less : p < n = omega (arith, l, d) in
        get_or-append counts (m ∷ []) 0 p (omega (arith, less, c)) ∙ h.count p less t)

    -- no procedure begins at the next place
    pub marks_pass : begins (signs ts) n ≡ false → AreMarks ts end (n + 1) numbers (counts ++ m ∷ [])
    marks_pass f = record {
      as_many = h.as_many;
      counted = longer;
      marked = λ p l t. by_case (nat_eq p n) (λ e. absurd (stuck p t (eq_true p n e)))
          (λ e. let d = eq_false p n e in h.marked p (omega (arith, l, d)) t);
      count = λ p l t. counts_more p l t (λ e. absurd (stuck p t e));
    }
      where
        stuck : (p : ℕ) → begins (signs ts) p ≡ true → p ≡ n → ⊥
        stuck p t e = let z = sym t ∙ ap (begins (signs ts)) e ∙ f in cc

    -- one begins there
    pub marks_more : (ok : refusal ts ≡ None) → n < length ts → begins (signs ts) n ≡ true → (later : List (Option ℕ)) → AreMarked ts end n later
        → ((k : ℕ) → k < n → slice_index_or later k None ≡ slice_index_or numbers k None) → length later ≡ length numbers
        → m ≡ length (replaced_at ts end (procedure (signs ts) n)) → AreMarks ts end (n + 1) later (counts ++ m ∷ [])
    marks_more ok l b later marked same long e = record {
      as_many = long ∙ h.as_many;
      counted = longer;
      marked = λ p k t. by_case (nat_eq p n) (λ q. subst (λ i. AreMarked ts end i later) (sym (eq_true p n q)) marked)
          (λ q. let d = eq_false p n q in let less : p < n = omega (arith, k, d) in kept p less t (h.marked p less t));
      count = λ p k t. counts_more p k t (λ q. e);
    }
      where
        -- it ends before
        ends : (p : ℕ) → p < n → begins (signs ts) p ≡ true → closed_at ts end (body_end (signs ts) p) < n
        ends p k t = by (λ z. absurd (let w = sym b ∙ apart ts end ok p (omega (arith, k, l)) t n k z in cc))
          where
            by : ((n ≤ closed_at ts end (body_end (signs ts) p)) → ⊥) → closed_at ts end (body_end (signs ts) p) < n
            by f = omega (arith, f)

        kept : (p : ℕ) → p < n → begins (signs ts) p ≡ true → AreMarked ts end p numbers → AreMarked ts end p later
        kept p k t g =
            let f = ends p k t in let r = params_long ts end ok p (omega (arith, k, l)) t in let u = body_in ts end ok p (omega (arith, k, l)) t in
            record {
              params = λ i z. subst (λ v. IsNumber (items ts end) (replaced_at ts end (procedure (signs ts) p)) (bytes_at ts (param_place p i)) v)
                  (sym (same (param_place p i) (omega (arith, f, r, u, z)))) (g.params i z);
              body = λ j x y. subst (λ v. IsMark ts end (items ts end) (replaced_at ts end (procedure (signs ts) p)) j v)
                  (sym (same j (omega (arith, f, y)))) (g.body j x y);
            }
