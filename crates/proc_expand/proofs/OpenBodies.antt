-- Names in open bodies, and where bodies lie.
use Rattle.std.proofs.Common.{◌≡◌, ℕ, zero, suc, ◌+◌, ◌<◌, ◌≤◌, Bool, true, false, List, [], ◌∷◌, ◌++◌, length, Option, Some, None, refl, sym, ap, ◌∙◌, subst, arith}
use Rattle.std.specs.Prelude.{slice_index_or, slice_get, if◌then◌else◌}
use Rattle.std.proofs.lemmas.List.{length-map, length-append}
use Rattle.jade_base.specs.declared.place.Pos.{Pos}
use Rattle.jade_lexer.specs.Lexemes.{TokenAt}
use Rattle.jade_syntax.specs.Abstract.{Name}
use Rattle.jade_syntax.specs.Numbering.{same_name}
use Rattle.proc_expand.specs.declared.frame.Call.{Call}
use Rattle.proc_expand.specs.declared.pen.Pen.{Pen}
use Rattle.proc_expand.specs.declared.source.Source.{Source}
use Rattle.proc_expand.specs.Words.{signs, bytes_at, those, one_if, is_called, at}
use Rattle.proc_expand.specs.Names.{is_among, place_among}
use Rattle.proc_expand.specs.Refusals.{head, procedure, param_place}
use Rattle.proc_expand.specs.Written.{MadeToken, items, text_names, replaced_at, replaced_by, fresh_name, free_number, is_variable, token_at, pos_at}
use Rattle.proc_expand.specs.steps.Replaced.{taken_names, IsNumber, IsMark}
use Rattle.proc_expand.specs.steps.Frames.{names_in}
use Rattle.proc_expand.specs.steps.Pens.{written, name_by, number_in, IsSmall, IsPen, Wrote, IsTooLong}
use Rattle.proc_expand.specs.steps.Sources.{IsSource, IsOpen, IsInside, StandsIn, param_token}
use Rattle.proc_expand.proofs.TakenNames.{same_free, same_by}
use Rattle.proc_expand.proofs.Wholes.{params_long, stop_within}

-- ---- tokens by their places

module _ (all : List TokenAt) (end : Pos) where
  pub pos_got : (ts : List TokenAt) (k : ℕ) (t : TokenAt) → slice_get ts k ≡ Some t → t.pos ≡ pos_at all end ts k
  pos_got [] k t h = absurd (cc)
  pos_got (u ∷ ts) zero t h = let e : u ≡ t = cc in ap (λ (v : TokenAt). v.pos) (sym e)
  pos_got (u ∷ ts) (suc k) t h = pos_got ts k t h

  pub no_pos : (ts : List TokenAt) (k : ℕ) → length ts ≤ k → end ≡ pos_at all end ts k
  no_pos [] k h = refl
  no_pos (u ∷ ts) zero h = absurd (omega (arith, h))
  no_pos (u ∷ ts) (suc k) h = no_pos ts k (omega (arith, h))

-- ---- how many names there are

pub those_few : (n : ℕ) (is : ℕ → Bool) → length (those n is) ≤ n
those_few zero is = omega arith
those_few (suc n) is = by (is n) (those_few n is)
  where
    by : (b : Bool) → length (those n is) ≤ n → length (those n is ++ one_if b n) ≤ suc n
    by true h = let l = length-append (those n is) (n ∷ []) in omega (arith, l, h)
    by false h = let l = length-append (those n is) [] in omega (arith, l, h)

pub few_names : (ts : List TokenAt) (end : Pos) → length (text_names ts end) ≤ length ts
few_names ts end =
    let t = those_few (length ts) (λ k. is_called (at (signs ts) k)) in
    let m = length-map (those (length ts) (λ k. is_called (at (signs ts) k))) (bytes_at ts) in omega (arith, t, m)

place_most : (names : List Name) (x : Name) → place_among names x ≤ length names
place_most [] x = omega arith
place_most (y ∷ ys) x = by (same_name x y) (place_most ys x)
  where
    by : (b : Bool) → place_among ys x ≤ length ys → (if b then 0 else suc (place_among ys x)) ≤ suc (length ys)
    by true h = omega arith
    by false h = omega (arith, h)

-- ---- names in an open body

module _ (ts : List TokenAt) (end : Pos) where
  abbrev pub replaced_in : Call → List Name
  replaced_in c = replaced_at ts end (procedure (signs ts) c.procedure)

  -- the number that is known of a name tells what it is replaced by
  pub name_numbered : (c : Call) (x : Name) (m : Option ℕ) → IsNumber (items ts end) (replaced_in c) x m
      → name_by (text_names ts end) (number_in (Some c) m) x ≡ replaced_by ts end (replaced_in c) c.base x
  name_numbered c x m h =
      ap (λ n. name_by (text_names ts end) (number_in (Some c) n) x) h.value ∙ by (is_among (items ts end) x)
    where
      by : (b : Bool) → name_by (text_names ts end) (number_in (Some c) (if b then None else Some (place_among (replaced_in c) x))) x
          ≡ (if b then x else fresh_name (text_names ts end) (c.base + place_among (replaced_in c) x))
      by true = refl
      by false = refl

  pub number_most : (own names : List Name) (x : Name) (m : Option ℕ) (i : ℕ) → IsNumber own names x m → m ≡ Some i → i ≤ length names
  number_most own names x m i h e = by (is_among own x) (sym h.value ∙ e)
    where
      by : (b : Bool) → (if b then None else Some (place_among names x)) ≡ Some i → i ≤ length names
      by true g = absurd (cc)
      by false g = let s : place_among names x ≡ i = cc in let l = place_most names x in omega (arith, s, l)

  small_in : (c : Call) (m : Option ℕ) → IsOpen ts end c → ((i : ℕ) → m ≡ Some i → i ≤ length (replaced_in c)) → IsSmall (number_in (Some c) m)
  small_in c None o h n e = absurd (cc)
  small_in c (Some i) o h n e = let s : c.base + i ≡ n = cc in let l = h i refl in let f = o.few in omega (arith, s, l, f)

  -- ---- marks

  module _ (s : Source) (is : IsSource ts end s) where
    abbrev mark : ℕ → Option ℕ
    mark k = slice_index_or s.marks.numbers.items k None

    pub mark_in : (c : Call) (k : ℕ) → IsInside ts end c k → IsMark ts end (items ts end) (replaced_in c) k (mark k)
    mark_in c k h =
        let o = h.opened in let a = is.marks in let m = a.all in (m.marked c.procedure o.within o.begun).body k h.start h.stop

    pub marks_long : length s.marks.numbers.items ≡ length ts
    marks_long = let a = is.marks in let m = a.all in m.as_many

    mark_most : (c : Call) (k : ℕ) → IsInside ts end c k → (i : ℕ) → mark k ≡ Some i → i ≤ length (replaced_in c)
    mark_most c k h i e = by (is_variable ts end k) refl
      where
        by : (b : Bool) → is_variable ts end k ≡ b → i ≤ length (replaced_in c)
        by true v = number_most (items ts end) (replaced_in c) (bytes_at ts k) (mark k) i ((mark_in c k h).variable v) e
        by false v = absurd (let g = sym ((mark_in c k h).other v) ∙ e in cc)

    pub number_up : (call : Option Call) (k i : ℕ) (c : Call) → StandsIn ts end call k → call ≡ Some c → mark k ≡ Some i → c.base + i ≤ 1099511627776
    number_up call k i c h e g =
        let q = h.inside c e in let m = mark_most c k q i g in let o = q.opened in let f = o.few in omega (arith, m, f)

    pub small_number : (call : Option Call) (k : ℕ) → StandsIn ts end call k → IsSmall (number_in call (mark k))
    small_number None k h = λ n e. absurd (cc)
    small_number (Some c) k h = let q = h.inside c refl in small_in c (mark k) q.opened (mark_most c k q)

    pub name_inside : (call : Option Call) (k : ℕ) → StandsIn ts end call k
        → name_by (text_names ts end) (number_in call (mark k)) (bytes_at ts k)
        ≡ (if is_variable ts end k then names_in ts end call (bytes_at ts k) else bytes_at ts k)
    name_inside None k h = by (is_variable ts end k)
      where
        by : (b : Bool) → bytes_at ts k ≡ (if b then bytes_at ts k else bytes_at ts k)
        by true = refl
        by false = refl
    name_inside (Some c) k h = by (is_variable ts end k) refl
      where
        by : (b : Bool) → is_variable ts end k ≡ b
            → name_by (text_names ts end) (number_in (Some c) (mark k)) (bytes_at ts k)
            ≡ (if b then replaced_by ts end (replaced_in c) c.base (bytes_at ts k) else bytes_at ts k)
        by true v = name_numbered c (bytes_at ts k) (mark k) ((mark_in c k (h.inside c refl)).variable v)
        by false v = ap (λ m. name_by (text_names ts end) (number_in (Some c) m) (bytes_at ts k)) ((mark_in c k (h.inside c refl)).other v)

    -- ---- parameters

    pub param_number : (c : Call) (i : ℕ) → IsOpen ts end c → i < (head (signs ts) c.procedure).params
        → IsNumber (items ts end) (replaced_in c) (bytes_at ts (param_place c.procedure i)) (mark (param_place c.procedure i))
    param_number c i o l = let a = is.marks in let m = a.all in (m.marked c.procedure o.within o.begun).params i l

    pub param_up : (c : Call) (i j : ℕ) → IsOpen ts end c → i < (head (signs ts) c.procedure).params → mark (param_place c.procedure i) ≡ Some j
        → c.base + j ≤ 1099511627776
    param_up c i j o l e =
        let m = number_most (items ts end) (replaced_in c) (bytes_at ts (param_place c.procedure i)) (mark (param_place c.procedure i)) j (param_number c i o l) e in
        let f = o.few in omega (arith, m, f)

    pub param_small : (c : Call) (i : ℕ) → IsOpen ts end c → i < (head (signs ts) c.procedure).params
        → IsSmall (number_in (Some c) (mark (param_place c.procedure i)))
    param_small c i o l =
        small_in c (mark (param_place c.procedure i)) o
        (λ j e. number_most (items ts end) (replaced_in c) (bytes_at ts (param_place c.procedure i)) (mark (param_place c.procedure i)) j (param_number c i o l) e)

    pub param_within : (c : Call) (i : ℕ) → IsOpen ts end c → i < (head (signs ts) c.procedure).params → param_place c.procedure i < length ts
    param_within c i o l =
        let a = params_long ts end is.accepted c.procedure o.within o.begun in let b = stop_within ts end is.accepted c.procedure o.within o.begun in
        omega (arith, a, b, l)

    -- ---- what is written of names

    abbrev made : List Name → Option ℕ → Name → Pos → MadeToken
    made names number x o = record { bytes = name_by names number x; origin = o }

    abbrev taken : List Name
    taken = taken_names s.taken

    pub few_source : length taken ≤ 1048576
    few_source = let a = few_names ts end in let b = is.few in let t = is.taken in let c = t.many in omega (arith, a, b, c)

    same_number : (i : ℕ) → free_number taken i ≡ free_number (text_names ts end) i
    same_number i = let t = is.taken in same_free taken (text_names ts end) t.many t.tells i

    same_made : (number : Option ℕ) (x : Name) (o : Pos) → made taken number x o ≡ made (text_names ts end) number x o
    same_made number x o = let t = is.taken in ap (λ y. record { bytes = y; origin = o }) (same_by taken (text_names ts end) t.many t.tells number x)

    pub name_token : (call : Option Call) (k : ℕ) (number : Option ℕ) (x : Name) (o : Pos) → StandsIn ts end call k → number ≡ number_in call (mark k)
        → x ≡ bytes_at ts k → o ≡ pos_at ts end ts k → made taken number x o ≡ token_at ts end (names_in ts end call) k
    name_token call k number x o h a b c =
        same_made number x o ∙ ap (λ m. made (text_names ts end) m x o) a
        ∙ ap (λ y. made (text_names ts end) (number_in call (mark k)) y o) b
        ∙ ap (λ y. record { bytes = y; origin = o }) (name_inside call k h)
        ∙ ap (λ p. record { bytes = if is_variable ts end k then names_in ts end call (bytes_at ts k) else bytes_at ts k; origin = p }) c

    pub param_made : (c : Call) (i : ℕ) (number : Option ℕ) (x : Name) (o : Pos) → IsOpen ts end c → i < (head (signs ts) c.procedure).params
        → number ≡ number_in (Some c) (mark (param_place c.procedure i)) → x ≡ bytes_at ts (param_place c.procedure i) → o ≡ pos_at ts end ts c.place
        → made taken number x o ≡ param_token ts end c i
    param_made c i number x o h l a b d =
        same_made number x o ∙ ap (λ m. made (text_names ts end) m x o) a
        ∙ ap (λ y. made (text_names ts end) (number_in (Some c) (mark (param_place c.procedure i))) y o) b
        ∙ ap (λ y. record { bytes = y; origin = o }) (name_numbered c (bytes_at ts (param_place c.procedure i)) (mark (param_place c.procedure i)) (param_number c i h l))
        ∙ ap (λ p. made_at_pos p) d
      where
        made_at_pos : Pos → MadeToken
        made_at_pos p = record { bytes = replaced_by ts end (replaced_in c) c.base (bytes_at ts (param_place c.procedure i)); origin = p }

    pub same_pen : (p : Pen) → IsPen (text_names ts end) p → IsPen taken p
    same_pen p h = record { sheet = h.sheet; free = record { each = λ i l. (let f = h.free in f.each i l) ∙ sym (same_number i) } }

    pub wrote_made : (number : Option ℕ) (x : Name) (o : Pos) (t : MadeToken) (p q : Pen) → made taken number x o ≡ t
        → Wrote taken (made taken number x o ∷ []) p q → Wrote (text_names ts end) (t ∷ []) p q
    wrote_made number x o t p q e h = record {
      pen = let g = h.pen in record { sheet = g.sheet; free = record { each = λ i l. (let f = g.free in f.each i l) ∙ same_number i } };
      tokens = h.tokens ∙ ap (λ u. written p ++ u ∷ []) e;
    }

    pub long_made : (number : Option ℕ) (x : Name) (o : Pos) (t : MadeToken) (p : Pen) → made taken number x o ≡ t
        → IsTooLong p (made taken number x o ∷ []) → IsTooLong p (t ∷ [])
    long_made number x o t p e h = subst (λ u. IsTooLong p (u ∷ [])) e h
