-- What is known of procedures by their names, place by place.
use Rattle.std.proofs.Common.{◌≡◌, ℕ, ◌+◌, ◌<◌, Bool, true, false, cond, ◌&&◌, List, ◌∷◌, length, Option, Some, None, refl, sym, ap, ◌∙◌, arith}
use Rattle.std.specs.Prelude.{slice_index_or, if◌then◌else◌}
use Rattle.std.specs.Map.{lookup}
use Rattle.std.proofs.lemmas.List.{length-map}
use Rattle.jade_lexer.specs.Lexemes.{TokenAt}
use Rattle.jade_syntax.specs.Abstract.{Name}
use Rattle.jade_syntax.specs.Numbering.{same_name}
use Rattle.name_scope.proofs.Kept.{same_from}
use Rattle.proc_expand.specs.declared.procedures.Procedure.{Procedure}
use Rattle.proc_expand.specs.declared.scan.Scan.{Scan}
use Rattle.proc_expand.specs.Words.{signs, sign_of, at, bytes_at, is_called, first, or_here, closes_before, is_closed}
use Rattle.proc_expand.specs.Refusals.{begins, is_named, procedure, body_end, if_before, is_none, is_unknown, is_count, call_end, counts_other, count, meant}
use Rattle.proc_expand.specs.steps.Looking.{procedure_of, is_other, IsScan, Knows}
use Rattle.proc_expand.proofs.First.{plus_one, by_case}
use Rattle.proc_expand.proofs.Heads.{length_tests, test_at}
use Rattle.proc_expand.proofs.CallFacts.{no_call}

-- ---- a first look

module _ (ts : List TokenAt) (s : Scan) (is : IsScan ts s) where
  pub as_long : length s.signs.items ≡ length ts
  as_long = ap length is.read ∙ length-map ts (λ (t : TokenAt). sign_of t.bytes)

  pub begun_long : length s.begins.items ≡ length ts
  begun_long = ap length is.begun ∙ length_tests (length s.signs.items) (begins s.signs.items) ∙ as_long

  pub begun_within : (k : ℕ) → k < length s.signs.items → k < length s.begins.items
  begun_within k l = let a = as_long in let b = begun_long in omega (arith, a, b, l)

  pub lies_in : (k : ℕ) → k < length s.signs.items → k < length ts
  lies_in k l = let a = as_long in omega (arith, a, l)

  pub begun_at : (k : ℕ) (d : Bool) → k < length ts → slice_index_or s.begins.items k d ≡ begins (signs ts) k
  begun_at k d l =
      ap (λ u. slice_index_or u k d) is.begun ∙ test_at (length s.signs.items) k (begins s.signs.items) d (let e = as_long in omega (arith, l, e))
      ∙ ap (λ u. begins u k) is.read

  -- the procedure that is read at a place
  pub same_place : (k : ℕ) → procedure s.signs.items k ≡ procedure (signs ts) k
  same_place k = ap (λ u. procedure u k) is.read

-- ---- places in order

one_more : (n : ℕ) (p : ℕ → Bool) → first (n + 1) p ≡ or_here (first n p) (p n) n
one_more n p = ap (λ i. first i p) (plus_one n)

not_here : (a : Option ℕ) (n : ℕ) → or_here a false n ≡ a
not_here None n = refl
not_here (Some j) n = refl

module _ (ts : List TokenAt) where
  abbrev pub Pairs : Type 0
  Pairs = List (Name × Procedure)

  -- no procedure of that name begins at this place
  skipped : (n : ℕ) (x : Name) → is_named ts x n ≡ false → first (n + 1) (is_named ts x) ≡ first n (is_named ts x)
  skipped n x h =
      one_more n (is_named ts x) ∙ ap (λ t. or_here (first n (is_named ts x)) t n) h ∙ not_here (first n (is_named ts x)) n

  same_procedure : (a b : Option ℕ) → a ≡ b → procedure_of (signs ts) b ≡ procedure_of (signs ts) a
  same_procedure a b e = ap (procedure_of (signs ts)) (sym e)

  pub passed : (n : ℕ) (named : Pairs) → (begins (signs ts) n && is_called (at (signs ts) (n + 1))) ≡ false → Knows ts n named
      → Knows ts (n + 1) named
  passed n named h k = record {
    first_of = λ x.
        k.first_of x
        ∙ same_procedure (first (n + 1) (is_named ts x)) (first n (is_named ts x))
        (skipped n x (ap (λ t. t && same_name x (bytes_at ts (n + 1))) h));
  }

  other_name : (n : ℕ) (x : Name) → same_name x (bytes_at ts (n + 1)) ≡ false → is_named ts x n ≡ false
  other_name n x h = by (begins (signs ts) n && is_called (at (signs ts) (n + 1)))
    where
      by : (t : Bool) → (t && same_name x (bytes_at ts (n + 1))) ≡ false
      by true = h
      by false = refl

  -- a place of which a procedure is known stays the first
  stays : (a : Option ℕ) (t : Bool) (n : ℕ) (q : Procedure) → Some q ≡ procedure_of (signs ts) a → or_here a t n ≡ a
  stays None t n q h = absurd (cc)
  stays (Some j) t n q h = refl

  pub known_before : (n : ℕ) (named : Pairs) (y : Name) (q : Procedure) → y ≡ bytes_at ts (n + 1) → Some q ≡ lookup (same_name y) named
      → Knows ts n named → Knows ts (n + 1) named
  known_before n named y q e h k = record { first_of = λ x. by_case (same_name x (bytes_at ts (n + 1))) (here x) (there x) }
    where
      there : (x : Name) → same_name x (bytes_at ts (n + 1)) ≡ false
          → lookup (same_name x) named ≡ procedure_of (signs ts) (first (n + 1) (is_named ts x))
      there x f =
          k.first_of x ∙ same_procedure (first (n + 1) (is_named ts x)) (first n (is_named ts x)) (skipped n x (other_name n x f))

      here : (x : Name) → same_name x (bytes_at ts (n + 1)) ≡ true
          → lookup (same_name x) named ≡ procedure_of (signs ts) (first (n + 1) (is_named ts x))
      here x t =
          let same : x ≡ y = same_from x (bytes_at ts (n + 1)) t ∙ sym e in
          k.first_of x
          ∙ same_procedure (first (n + 1) (is_named ts x)) (first n (is_named ts x))
          (one_more n (is_named ts x)
          ∙ stays (first n (is_named ts x)) (is_named ts x n) n q (h ∙ ap (λ z. lookup (same_name z) named) (sym same) ∙ k.first_of x))

  none_of : (a : Option ℕ) → None ≡ procedure_of (signs ts) a → a ≡ None
  none_of None h = refl
  none_of (Some j) h = absurd (cc)

  pub known_now : (n : ℕ) (named : Pairs) (y : Name) (q : Procedure) → (begins (signs ts) n && is_called (at (signs ts) (n + 1))) ≡ true
      → y ≡ bytes_at ts (n + 1) → None ≡ lookup (same_name y) named → q ≡ procedure (signs ts) n → Knows ts n named
      → Knows ts (n + 1) ((y, q) ∷ named)
  known_now n named y q b e h is k = record { first_of = λ x. by_case (same_name x y) (here x) (there x) }
    where
      there : (x : Name) → same_name x y ≡ false
          → cond (same_name x y) (Some q) (lookup (same_name x) named) ≡ procedure_of (signs ts) (first (n + 1) (is_named ts x))
      there x f =
          ap (λ t. cond t (Some q) (lookup (same_name x) named)) f ∙ k.first_of x
          ∙ same_procedure (first (n + 1) (is_named ts x)) (first n (is_named ts x))
          (skipped n x (other_name n x (ap (same_name x) (sym e) ∙ f)))

      here : (x : Name) → same_name x y ≡ true
          → cond (same_name x y) (Some q) (lookup (same_name x) named) ≡ procedure_of (signs ts) (first (n + 1) (is_named ts x))
      here x t =
          let same : x ≡ y = same_from x y t in
          let nowhere : first n (is_named ts x) ≡ None =
          none_of (first n (is_named ts x)) (h ∙ ap (λ z. lookup (same_name z) named) (sym same) ∙ k.first_of x) in
          let is_here : is_named ts x n ≡ true = ap (λ u. u && same_name x (bytes_at ts (n + 1))) b ∙ ap (same_name x) (sym e) ∙ t in
          ap (λ u. cond u (Some q) (lookup (same_name x) named)) t ∙ ap Some is
          ∙ sym (ap (procedure_of (signs ts)) (one_more n (is_named ts x) ∙ ap (λ a. or_here a (is_named ts x n) n) nowhere ∙ ap (λ u. or_here None u n) is_here))

  -- ---- the procedure that a call means

  pub not_meant : (a : Option ℕ) (k : ℕ) → None ≡ procedure_of (signs ts) a → None ≡ procedure_of (signs ts) (if_before (signs ts) k a)
  not_meant None k h = refl
  not_meant (Some j) k h = absurd (cc)

  pub meant_so : (a : Option ℕ) (k : ℕ) (q : Procedure) → Some q ≡ procedure_of (signs ts) a
      → (if closes_before q.end k then Some q else None) ≡ procedure_of (signs ts) (if_before (signs ts) k a)
  meant_so None k q h = absurd (cc)
  meant_so (Some j) k q h =
      let is : q ≡ procedure (signs ts) j = cc in
      ap (λ (r : Procedure). if closes_before r.end k then Some r else None) is ∙ by (closes_before (body_end (signs ts) j) k)
    where
      by : (t : Bool) → (if t then Some (procedure (signs ts) j) else None) ≡ procedure_of (signs ts) (if t then Some j else None)
      by true = refl
      by false = refl

  -- ---- what a call is refused for

  pub unknown_so : (a : Option ℕ) → None ≡ procedure_of (signs ts) a → true ≡ is_none a
  unknown_so None h = refl
  unknown_so (Some j) h = absurd (cc)

  pub known_so : (a : Option ℕ) (q : Procedure) → Some q ≡ procedure_of (signs ts) a → false ≡ is_none a
  known_so None q h = absurd (cc)
  known_so (Some j) q h = refl

  pub other_so : (a : Option ℕ) (k : ℕ) → is_other (count (signs ts) k) (procedure_of (signs ts) a) ≡ counts_other (signs ts) k a
  other_so None k = refl
  other_so (Some j) k = refl

-- ---- past the end no call stands

pub no_unknown : (ts : List TokenAt) → is_unknown ts (length ts) ≡ false
no_unknown ts =
    ap (λ b. b && is_none (meant ts (length ts)))
    (no_call (signs ts) (length ts) (let e = length-map ts (λ (t : TokenAt). sign_of t.bytes) in omega (arith, e)))

pub no_count : (ts : List TokenAt) → is_count ts (length ts) ≡ false
no_count ts =
    ap (λ b. b && is_closed (call_end (signs ts) (length ts)) && counts_other (signs ts) (length ts) (meant ts (length ts)))
    (no_call (signs ts) (length ts) (let e = length-map ts (λ (t : TokenAt). sign_of t.bytes) in omega (arith, e)))
