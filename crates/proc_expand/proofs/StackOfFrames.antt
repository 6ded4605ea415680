-- Writing with open bodies on a stack writes what the definition says.
use Rattle.std.proofs.Common.{◌≡◌, ℕ, zero, suc, ◌+◌, ◌-◌, Bool, true, false, ◌&&◌, List, [], ◌∷◌, ◌++◌, length, drop, Option, Some, None, refl, sym, ap, ◌∙◌}
use Rattle.std.specs.Prelude.{map, codes, not, if◌then◌else◌}
use Rattle.std.proofs.lemmas.List.{map-append, append_assoc, append-nil}
use Rattle.jade_base.specs.declared.place.Pos.{Pos}
use Rattle.jade_lexer.specs.Lexemes.{TokenAt}
use Rattle.jade_syntax.specs.Abstract.{Name}
use Rattle.jade_syntax.specs.Numbering.{same_name}
use Rattle.proc_expand.specs.declared.frame.Frame.{Frame}
use Rattle.proc_expand.specs.declared.procedures.Procedure.{Procedure}
use Rattle.proc_expand.specs.Words.{signs, bytes_at, those, one_if}
use Rattle.proc_expand.specs.Refusals.{begins, procedure, is_call, call_end}
use Rattle.proc_expand.specs.Written.{MadeToken, Written, CallWriter, all_writers, and_writer, no_writer, write_one, write_places, write_call, replaced_at, replaced_by, made_at, given_at, param_places, body_places, token_at, arguments, closed_at, in_procedure, expansion, from}
use Rattle.proc_expand.specs.steps.Frames.{newest_named, writer_before, names_in, writer_in, places_left, end_of, left, call_start}

some_same : (a b : ℕ) → Some a ≡ Some b → a ≡ b
some_same a b h = ap (get a) h
  where
    get : ℕ → Option ℕ → ℕ
    get d None = d
    get d (Some n) = n

module _ (ts : List TokenAt) (end : Pos) where
  -- places that are passed write nothing
  pub passing : (calls : CallWriter ts end) (to : Name → Name) (passed : ℕ) (ks : List ℕ) (n : ℕ)
      → write_places ts end calls to passed ks n ≡ write_places ts end calls to 0 (drop passed ks) n
  passing calls to zero [] n = refl
  passing calls to (suc passed) [] n = refl
  passing calls to zero (k ∷ ks) n = refl
  passing calls to (suc passed) (k ∷ ks) n = passing calls to passed ks n

  -- ---- which procedure writes a call

  -- one procedure more
  writers_more : (calls : CallWriter ts end) (ps : List Procedure) (p : Procedure)
      → all_writers ts end calls (ps ++ p ∷ []) ≡ and_writer ts end (all_writers ts end calls ps) p
  writers_more calls [] p = refl
  writers_more calls (q ∷ ps) p = writers_more (and_writer ts end calls q) ps p

  abbrev with_one : Bool → ℕ → CallWriter ts end
  with_one b k = if b then and_writer ts end (writer_before ts end k) (procedure (signs ts) k) else writer_before ts end k

  is_with_one : (b : Bool) (k : ℕ)
      → all_writers ts end (no_writer ts end) (map (procedure (signs ts)) (those k (begins (signs ts)) ++ one_if b k)) ≡ with_one b k
  is_with_one true k =
      ap (all_writers ts end (no_writer ts end)) (map-append (procedure (signs ts)) (those k (begins (signs ts))) (k ∷ []))
      ∙ writers_more (no_writer ts end) (map (procedure (signs ts)) (those k (begins (signs ts)))) (procedure (signs ts) k)
  is_with_one false k = ap (λ u. all_writers ts end (no_writer ts end) (map (procedure (signs ts)) u)) (append-nil (those k (begins (signs ts))))

  -- the newest procedure of its name writes a call, with what those before it write
  pub written_by : (q k : ℕ) (args : List (List MadeToken)) (n d : ℕ) → newest_named ts end q (bytes_at ts k) ≡ Some d
      → writer_before ts end q k args n ≡ write_call ts end (writer_before ts end d) (procedure (signs ts) d) k args n
  written_by zero k args n d h = absurd (cc)
  written_by (suc q) k args n d h =
      ap (λ (w : CallWriter ts end). w k args n) (is_with_one (begins (signs ts) q) q)
      ∙ by (begins (signs ts) q) (same_name (bytes_at ts k) (bytes_at ts (q + 1))) refl (written_by q k args n d) h
    where
      by : (b c : Bool) → same_name (bytes_at ts k) (bytes_at ts (q + 1)) ≡ c
          → (newest_named ts end q (bytes_at ts k) ≡ Some d
          → writer_before ts end q k args n ≡ write_call ts end (writer_before ts end d) (procedure (signs ts) d) k args n)
          → (if b && c then Some q else newest_named ts end q (bytes_at ts k)) ≡ Some d
          → with_one b q k args n ≡ write_call ts end (writer_before ts end d) (procedure (signs ts) d) k args n
      by false c g ih e = ih e
      by true true g ih e =
          ap (λ (t : Bool). if t then write_call ts end (writer_before ts end q) (procedure (signs ts) q) k args n else writer_before ts end q k args n) g
          ∙ ap (λ i. write_call ts end (writer_before ts end i) (procedure (signs ts) i) k args n) (some_same q d e)
      by true false g ih e =
          ap (λ (t : Bool). if t then write_call ts end (writer_before ts end q) (procedure (signs ts) q) k args n else writer_before ts end q k args n) g
          ∙ ih e

  -- ---- one open body, and what comes after it

  abbrev go : CallWriter ts end → (Name → Name) → List ℕ → ℕ → List MadeToken → (ℕ → List MadeToken) → List MadeToken
  go calls to ks n last more =
      let w = write_places ts end calls to 0 ks n in w.tokens ++ (last ++ more w.next)

  abbrev both : Written → List MadeToken → (ℕ → List MadeToken) → List MadeToken
  both w last more = w.tokens ++ (last ++ more w.next)

  go_token : (calls : CallWriter ts end) (to : Name → Name) (k : ℕ) (ks : List ℕ) (n : ℕ) (last : List MadeToken) (more : ℕ → List MadeToken)
      → is_call (signs ts) k ≡ false → go calls to (k ∷ ks) n last more ≡ token_at ts end to k ∷ go calls to ks n last more
  go_token calls to k ks n last more h =
      ap (λ b. both (write_one ts end b calls to k n
      (λ m. write_places ts end calls to (suc (closed_at ts end (call_end (signs ts) k) - k)) ks m) (write_places ts end calls to zero ks)) last more) h

  go_call : (calls : CallWriter ts end) (to : Name → Name) (k : ℕ) (ks : List ℕ) (n : ℕ) (last : List MadeToken) (more : ℕ → List MadeToken) (w : Written)
      → is_call (signs ts) k ≡ true → calls k (map (λ ps. map (token_at ts end to) ps) (arguments ts end k)) n ≡ w
      → go calls to (k ∷ ks) n last more
      ≡ w.tokens ++ go calls to (drop (suc (closed_at ts end (call_end (signs ts) k) - k)) ks) w.next last more
  go_call calls to k ks n last more w h e =
      ap (λ b. both (write_one ts end b calls to k n
      (λ m. write_places ts end calls to (suc (closed_at ts end (call_end (signs ts) k) - k)) ks m) (write_places ts end calls to zero ks)) last more) h
      ∙ ap (λ (v : Written). after v (write_places ts end calls to (suc (closed_at ts end (call_end (signs ts) k) - k)) ks v.next)) e
      ∙ ap (after w) (passing calls to (suc (closed_at ts end (call_end (signs ts) k) - k)) ks w.next)
      ∙ append_assoc w.tokens
      (write_places ts end calls to 0 (drop (suc (closed_at ts end (call_end (signs ts) k) - k)) ks) w.next).tokens
      (last ++ more (write_places ts end calls to 0 (drop (suc (closed_at ts end (call_end (signs ts) k) - k)) ks) w.next).next)
    where
      after : Written → Written → List MadeToken
      after v a = (v.tokens ++ a.tokens) ++ (last ++ more a.next)

  -- ---- the stack

  module _ (outer : List ℕ) where
    -- nothing is left of the innermost body
    pub left_done : (f : Frame) (fs : List Frame) (n : ℕ) → places_left ts end outer f.call f.next f.stop ≡ []
        → left ts end outer (f ∷ fs) n ≡ end_of ts end f.call ++ left ts end outer fs n
    left_done f fs n h = ap (λ ks. go (writer_in ts end f.call) (names_in ts end f.call) ks n (end_of ts end f.call) (left ts end outer fs)) h

    -- a token of it comes next
    pub left_token : (f g : Frame) (fs : List Frame) (k : ℕ) (ks : List ℕ) (n : ℕ) → places_left ts end outer f.call f.next f.stop ≡ k ∷ ks
        → is_call (signs ts) k ≡ false → g.call ≡ f.call → places_left ts end outer f.call g.next g.stop ≡ ks
        → left ts end outer (f ∷ fs) n ≡ token_at ts end (names_in ts end f.call) k ∷ left ts end outer (g ∷ fs) n
    left_token f g fs k ks n h t same e =
        ap (λ us. go (writer_in ts end f.call) (names_in ts end f.call) us n (end_of ts end f.call) (left ts end outer fs)) h
        ∙ go_token (writer_in ts end f.call) (names_in ts end f.call) k ks n (end_of ts end f.call) (left ts end outer fs) t
        ∙ ap (λ us. token_at ts end (names_in ts end f.call) k
        ∷ go (writer_in ts end f.call) (names_in ts end f.call) us n (end_of ts end f.call) (left ts end outer fs)) (sym e)
        ∙ ap (λ c. token_at ts end (names_in ts end f.call) k
        ∷ go (writer_in ts end c) (names_in ts end c) (places_left ts end outer c g.next g.stop) n (end_of ts end c) (left ts end outer fs)) (sym same)

    -- a call comes next
    pub left_call : (f g : Frame) (fs : List Frame) (k : ℕ) (ks : List ℕ) (n q d : ℕ) → places_left ts end outer f.call f.next f.stop ≡ k ∷ ks
        → is_call (signs ts) k ≡ true → writer_in ts end f.call ≡ writer_before ts end q → newest_named ts end q (bytes_at ts k) ≡ Some d
        → g.call ≡ f.call → places_left ts end outer f.call g.next g.stop ≡ drop (suc (closed_at ts end (call_end (signs ts) k) - k)) ks
        → (b : Frame) → b.call ≡ Some (record { procedure = d; place = k; base = n })
        → from ts end b.next (b.stop - b.next) ≡ body_places ts end (procedure (signs ts) d)
        → left ts end outer (f ∷ fs) n
        ≡ call_start ts end f.call d k n ++ left ts end outer (b ∷ g ∷ fs) (n + length (replaced_at ts end (procedure (signs ts) d)))
    left_call f g fs k ks n q d h t level found same e b is_d body =
        ap (λ us. go (writer_in ts end f.call) (names_in ts end f.call) us n (end_of ts end f.call) (left ts end outer fs)) h
        ∙ go_call (writer_in ts end f.call) (names_in ts end f.call) k ks n (end_of ts end f.call) (left ts end outer fs) w t
        (ap (λ (c : CallWriter ts end). c k args n) level ∙ written_by q k args n d found)
        ∙ ap (λ us. w.tokens ++ go (writer_in ts end f.call) (names_in ts end f.call) us w.next (end_of ts end f.call) (left ts end outer fs)) (sym e)
        ∙ ap (λ c. w.tokens ++ go (writer_in ts end c) (names_in ts end c) (places_left ts end outer c g.next g.stop) w.next (end_of ts end c) (left ts end outer fs)) (sym same)
        ∙ ap (λ u. made_at ts end k (codes "if") ∷ made_at ts end k (codes "true") ∷ made_at ts end k (codes "{") ∷ u)
        (append_assoc (given ++ inside.tokens) (made_at ts end k (codes "}") ∷ []) (left ts end outer (g ∷ fs) inside.next)
        ∙ append_assoc given inside.tokens (made_at ts end k (codes "}") ∷ [] ++ left ts end outer (g ∷ fs) inside.next))
        ∙ ap (λ us. call_start ts end f.call d k n ++ go (writer_before ts end d) to us (n + length names) (made_at ts end k (codes "}") ∷ []) (left ts end outer (g ∷ fs)))
        (sym body)
        ∙ ap (λ c. call_start ts end f.call d k n
        ++ go (writer_in ts end c) (names_in ts end c) (places_left ts end outer c b.next b.stop) (n + length names) (end_of ts end c) (left ts end outer (g ∷ fs)))
        (sym is_d)
      where
        args : List (List MadeToken)
        args = map (λ ps. map (token_at ts end (names_in ts end f.call)) ps) (arguments ts end k)

        names : List Name
        names = replaced_at ts end (procedure (signs ts) d)

        to : Name → Name
        to = replaced_by ts end names n

        w : Written
        w = write_call ts end (writer_before ts end d) (procedure (signs ts) d) k args n

        given : List MadeToken
        given = given_at ts end k to (param_places ts end (procedure (signs ts) d)) args

        inside : Written
        inside = write_places ts end (writer_before ts end d) to 0 (body_places ts end (procedure (signs ts) d)) (n + length names)

    -- the whole text
    pub left_all : (f : Frame) → outer ≡ those (length ts) (λ k. not (in_procedure ts end k)) → f.next ≡ 0 → f.call ≡ None
        → left ts end outer (f ∷ []) 0 ≡ expansion ts end
    left_all f h start none =
        ap (λ c. go (writer_in ts end c) (names_in ts end c) (places_left ts end outer c f.next f.stop) 0 (end_of ts end c) (left ts end outer [])) none
        ∙ ap (λ i. go (writer_before ts end (length ts)) (λ x. x) (drop i outer) 0 [] (left ts end outer [])) start
        ∙ ap (λ us. go (writer_before ts end (length ts)) (λ x. x) us 0 [] (left ts end outer [])) h
        ∙ append-nil (expansion ts end)
