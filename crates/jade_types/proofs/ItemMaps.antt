-- Places of names, found by the names.
use Rattle.std.proofs.Common.{◌≡◌, ℕ, List, [], ◌∷◌, ◌++◌, Bool, true, false, cond, Bor, length, map, get_or, Option, Some, None, is_some, refl, ap}
use Rattle.std.proofs.Common.{sym, ◌∙◌, subst, arith, length-append}
use Rattle.std.specs.Option.{option_or}
use Rattle.std.specs.Prelude.{MatchOption}
use Rattle.std.specs.Map.{lookup}
use Rattle.std.proofs.Math.Seq.{get_or-append_seam}
use Rattle.std.proofs.lemmas.List.{get_or_append_left}
use Rattle.std.proofs.lemmas.Option.{slice_get-get_or, get_or_from_slice_get}
use Rattle.jade_syntax.specs.Numbering.{same_name}
use Rattle.name_scope.proofs.Kept.{same_from, named_turned}
use Rattle.name_scope.specs.Entries.{is_named}
use Rattle.jade_types.specs.steps.ItemMap.{named, StandsAt, IsIndexed}

abbrev Key : Type 0
Key = Bor (List ℕ)

abbrev place_of : Key → List (Key × ℕ) → Option ℕ
place_of x places = lookup (is_named x.now) places

module _ {V : Type 0} where
  abbrev first_of : Key → List (Key × V) → Option V
  first_of x pairs = lookup (same_name x.now) (map named pairs)

  -- the place that was found of a name
  pub at_place : {pairs : List (Key × V)} {places : List (Key × ℕ)} (x : Key) (j : ℕ) → IsIndexed pairs places → Some j ≡ place_of x places
      → StandsAt pairs (first_of x pairs) j
  at_place {pairs} {places} x j h e =
      let P : Option ℕ → Type 0 = λ o. MatchOption o (first_of x pairs ≡ None) (StandsAt pairs (first_of x pairs)) in
      subst P (sym e) (h.at x)

  pub value_there : {pairs : List (Key × V)} {places : List (Key × ℕ)} (x : Key) (j : ℕ) (p : Key × V) → IsIndexed pairs places → Some j
      ≡ place_of x places → p ≡ get_or pairs j p → Some p.1 ≡ first_of x pairs
  value_there {pairs} x j p h e g =
      let there = at_place x j h e in
      sym (there.is p (slice_get-get_or pairs j p there.within ∙ ap Some (sym g)))

  or_first : (b : Bool) (v : V) (r c : Option V) → option_or (cond b (Some v) r) c ≡ cond b (Some v) (option_or r c)
  or_first true v r c = refl
  or_first false v r c = refl

  first_both : (x : Key) (pairs : List (Key × V)) (p : Key × V) → first_of x (pairs ++ p ∷ []) ≡ option_or (first_of x pairs) (first_of x (p ∷ []))
  first_both x [] p = refl
  first_both x (q ∷ pairs) p = ap (λ r. cond (same_name x.now q.0.now) (Some q.1) r) (first_both x pairs p)
      ∙ sym (or_first (same_name x.now q.0.now) q.1 (first_of x pairs) (first_of x (p ∷ [])))

  -- one more pair, after the others
  module _ (pairs : List (Key × V)) (p : Key × V) where
    abbrev grown : List (Key × V)
    grown = pairs ++ p ∷ []

    abbrev Found : Key → Option ℕ → List (Key × V) → Type 0
    Found x o ps = MatchOption o (first_of x ps ≡ None) (StandsAt ps (first_of x ps))

    still_there : (x : Key) (j : ℕ) → StandsAt pairs (first_of x pairs) j → StandsAt grown (first_of x grown) j
    still_there x j h =
        let q = get_or pairs j p in
        let same : first_of x pairs ≡ Some q.1 = h.is q (slice_get-get_or pairs j p h.within) in
        record {
          within = omega (arith, length-append pairs (p ∷ []), h.within);
          is = λ r e. first_both x pairs p ∙ ap (λ o. option_or o (first_of x (p ∷ []))) same
              ∙ ap (λ y. Some y.1) (sym (get_or_append_left pairs (p ∷ []) p j h.within) ∙ get_or_from_slice_get grown j r p e);
        }

    -- another name
    beside : (x : Key) (o : Option ℕ) → same_name x.now p.0.now ≡ false → Found x o pairs → Found x o grown
    beside x None e h = first_both x pairs p ∙ ap (λ r. option_or r (first_of x (p ∷ []))) h ∙ ap (λ b. cond b (Some p.1) None) e
    beside x (Some j) e h = still_there x j h

    -- a name that has its place already
    pub indexed_still : {places : List (Key × ℕ)} → is_some (place_of p.0 places) ≡ true → IsIndexed pairs places → IsIndexed grown places
    indexed_still {places} known h = record { at = λ x. by_test x (same_name x.now p.0.now) refl } where
      there : (x : Key) (o : Option ℕ) → is_some o ≡ true → Found x o pairs → Found x o grown
      there x None e g = absurd (cc)
      there x (Some j) e g = still_there x j g

      by_test : (x : Key) (b : Bool) → same_name x.now p.0.now ≡ b → Found x (place_of x places) grown
      by_test x true e = there x (place_of x places)
          (ap (λ y. is_some (lookup (is_named y) places)) (same_from x.now p.0.now e) ∙ known) (h.at x)
      by_test x false e = beside x (place_of x places) e (h.at x)

    -- a new name, whose place is the last
    pub indexed_more : {places more : List (Key × ℕ)} (n : ℕ) → n ≡ length pairs → is_some (place_of p.0 places) ≡ false
        → ((x : Key) → place_of x more ≡ cond (is_named p.0.now x) (Some n) (place_of x places))
        → IsIndexed pairs places → IsIndexed grown more
    indexed_more {places} {more} n last new u h =
        record {
          at = λ x. let P : Option ℕ → Type 0 = λ o. Found x o grown in
              subst P (sym (u x)) (by_test x (is_named p.0.now x) (turned x));
        } where
          turned : (x : Key) → same_name x.now p.0.now ≡ is_named p.0.now x
          turned x = named_turned x p.0

          nowhere : (x : Key) (o : Option ℕ) → is_some o ≡ false → Found x o pairs → first_of x pairs ≡ None
          nowhere x None e g = g
          nowhere x (Some j) e g = absurd (cc)

          by_test : (x : Key) (b : Bool) → same_name x.now p.0.now ≡ b → Found x (cond b (Some n) (place_of x places)) grown
          by_test x true e =
              let absent : first_of x pairs ≡ None =
              nowhere x (place_of x places) (ap (λ y. is_some (lookup (is_named y) places)) (same_from x.now p.0.now e) ∙ new)
              (h.at x) in
              let at_last : get_or grown n p ≡ p = ap (λ k. get_or grown k p) last ∙ get_or-append_seam pairs p [] p in
              record {
                within = omega (arith, length-append pairs (p ∷ []), last);
                is = λ r f. first_both x pairs p ∙ ap (λ o. option_or o (first_of x (p ∷ []))) absent ∙ ap (λ b. cond b (Some p.1) None) e
                    ∙ ap (λ y. Some y.1) (sym at_last ∙ get_or_from_slice_get grown n r p f);
              }
          by_test x false e = beside x (place_of x places) e (h.at x)
