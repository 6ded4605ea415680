-- The names of items and of `main` are names of the text.
use Rattle.std.proofs.Common.{◌≡◌, ℕ, zero, suc, ◌+◌, ◌<◌, ◌≤◌, Bool, true, false, ◌&&◌, nat_eq, List, [], ◌∷◌, length, map, cond, refl, sym, ap, ◌∙◌, arith}
use Rattle.std.specs.Prelude.{not, nat_le, None, if◌then◌else◌}
use Rattle.std.specs.List.{filter, flat_map}
use Rattle.std.proofs.lemmas.Bool.{eqb-true, eq-eqb, leb-true, le-leb}
use Rattle.std.proofs.lemmas.List.{length-map}
use Rattle.jade_base.specs.declared.place.Pos.{Pos}
use Rattle.jade_lexer.specs.Lexemes.{TokenAt, TokenList}
use Rattle.jade_syntax.specs.Abstract.{Name}
use Rattle.jade_syntax.specs.Numbering.{same_name}
use Rattle.proc_expand.specs.declared.sign.Sign.TheVariants.{Other}
use Rattle.proc_expand.specs.Names.{is_among}
use Rattle.proc_expand.specs.Words.{sign_of, signs, at, bytes_at, is_called, is_item_word}
use Rattle.proc_expand.specs.Refusals.{is_call, refusal}
use Rattle.proc_expand.specs.Written.{from, text_names, before_item, is_variable, in_procedure}
use Rattle.proc_laws.specs.Expansion.{item_name, block_names}
use Rattle.proc_laws.specs.SourceTree.{SourceText, items_of, spoken_actions}
use Rattle.proc_laws.specs.SourceReading.{piece_parts, main_parts, IsSourceReading}
use Rattle.proc_laws.proofs.Basics.{among_here, among_more, same_self, same_from}
use Rattle.proc_laws.proofs.PlacesInText.{after, places}
use Rattle.proc_laws.proofs.PiecesInText.{those_are}
use Rattle.proc_laws.proofs.WrittenTree.{past_end, same_items, main_names}

first_holds : (a b : Bool) → (a && b) ≡ true → a ≡ true
first_holds true b h = refl
first_holds false b h = absurd (cc)

middle_holds : (a b c : Bool) → (a && b && c) ≡ true → b ≡ true
middle_holds true true c h = refl
middle_holds true false c h = absurd (cc)
middle_holds false b c h = absurd (cc)

module _ (ts : List TokenAt) (end : Pos) where
  -- a place among those from a number on that have a property
  member : (is : ℕ → Bool) (j n k : ℕ) → j ≤ k → k < j + n → is k ≡ true → is_among (map (bytes_at ts) (filter is (from ts end j n))) (bytes_at ts k) ≡ true
  member is j zero k l m h = absurd (omega (arith, l, m))
  member is j (suc n) k l m h = by (nat_eq j k) refl (member is (suc j) n k)
    where
      later : (t : Bool) → is_among (map (bytes_at ts) (filter is (from ts end (suc j) n))) (bytes_at ts k) ≡ true
          → is_among (map (bytes_at ts) (cond t (j ∷ filter is (from ts end (suc j) n)) (filter is (from ts end (suc j) n)))) (bytes_at ts k) ≡ true
      later true g = among_more (same_name (bytes_at ts k) (bytes_at ts j)) (is_among (map (bytes_at ts) (filter is (from ts end (suc j) n))) (bytes_at ts k)) g
      later false g = g

      by : (t : Bool) → nat_eq j k ≡ t → (suc j ≤ k → k < suc j + n → is k ≡ true → is_among (map (bytes_at ts) (filter is (from ts end (suc j) n))) (bytes_at ts k) ≡ true)
          → is_among (map (bytes_at ts) (filter is (from ts end j (suc n)))) (bytes_at ts k) ≡ true
      by true q go =
          let e : j ≡ k = eqb-true j k q in
          ap (λ t. is_among (map (bytes_at ts) (cond t (j ∷ filter is (from ts end (suc j) n)) (filter is (from ts end (suc j) n)))) (bytes_at ts k)) (ap is e ∙ h)
          ∙ among_here (same_name (bytes_at ts k) (bytes_at ts j)) (is_among (map (bytes_at ts) (filter is (from ts end (suc j) n))) (bytes_at ts k))
          (ap (λ (i : ℕ). same_name (bytes_at ts k) (bytes_at ts i)) e ∙ same_self (bytes_at ts k))
      by false q go =
          let f : j ≡ k → ⊥ = λ e. absurd (let y = eq-eqb j k e in cc) in
          later (is j) (go (omega (arith, l, f)) (omega (arith, m)) h)

  -- a name of the text
  of_text : (k : ℕ) → is_called (at (signs ts) k) ≡ true → is_among (text_names ts end) (bytes_at ts k) ≡ true
  of_text k h =
      ap (λ (u : List ℕ). is_among (map (bytes_at ts) u) (bytes_at ts k)) (those_are ts end (length ts) (λ i. is_called (at (signs ts) i)))
      ∙ member (λ i. is_called (at (signs ts) i)) 0 (length ts) k (omega arith) (below (nat_le (length ts) k) refl) h
    where
      below : (t : Bool) → nat_le (length ts) k ≡ t → k < 0 + length ts
      below true q =
          let m = leb-true (length ts) k q in
          let l = length-map ts (λ (t : TokenAt). sign_of t.bytes) in
          let o : at (signs ts) k ≡ Other = past_end (signs ts) k (omega (arith, m, l)) in
          absurd (let f : is_called (at (signs ts) k) ≡ false = ap is_called o in cc)
      below false q = let m : length ts ≤ k → ⊥ = λ u. absurd (let v = le-leb (length ts) k u in cc) in omega (arith, m)

  -- names at places with a property are the text's
  listed : (f : ℕ → ℕ) (is : ℕ → Bool) → ((k : ℕ) → is k ≡ true → is_called (at (signs ts) (f k)) ≡ true) → (ks : List ℕ) (x : Name)
      → is_among (map (λ k. bytes_at ts (f k)) (filter is ks)) x ≡ true → is_among (text_names ts end) x ≡ true
  listed f is g [] x h = absurd (cc)
  listed f is g (k ∷ ks) x h = by (is k) refl h (listed f is g ks x)
    where
      here : (t : Bool) → same_name x (bytes_at ts (f k)) ≡ t → is k ≡ true
          → (is_among (map (λ k. bytes_at ts (f k)) (filter is ks)) x ≡ true → is_among (text_names ts end) x ≡ true)
          → (if t then true else is_among (map (λ k. bytes_at ts (f k)) (filter is ks)) x) ≡ true → is_among (text_names ts end) x ≡ true
      here true s e go h = ap (is_among (text_names ts end)) (same_from x (bytes_at ts (f k)) s) ∙ of_text (f k) (g k e)
      here false s e go h = go h

      by : (t : Bool) → is k ≡ t → is_among (map (λ k. bytes_at ts (f k)) (cond t (k ∷ filter is ks) (filter is ks))) x ≡ true
          → (is_among (map (λ k. bytes_at ts (f k)) (filter is ks)) x ≡ true → is_among (text_names ts end) x ≡ true)
          → is_among (text_names ts end) x ≡ true
      by true e h go = here (same_name x (bytes_at ts (f k))) refl e go h
      by false e h go = go h

module _ (l : TokenList) (q : SourceText) (r : IsSourceReading l q) (none_refused : refusal l.lexemes ≡ None) where
  pub items_listed : (x : Name) → is_among (map item_name (items_of q.pieces)) x ≡ true → is_among (text_names l.lexemes l.end) x ≡ true
  items_listed x h =
      listed l.lexemes l.end suc (before_item l.lexemes l.end)
      (λ k e. middle_holds (is_item_word (at (signs l.lexemes) k)) (is_called (at (signs l.lexemes) (suc k))) (not (in_procedure l.lexemes l.end k)) e)
      (from l.lexemes l.end 0 (length l.lexemes)) x
      (ap (λ (u : List ℕ). is_among (map (λ k. bytes_at l.lexemes (suc k)) u) x) (sym (those_are l.lexemes l.end (length l.lexemes) (before_item l.lexemes l.end)))
      ∙ ap (λ (ns : List Name). is_among ns x) (same_items l q r none_refused) ∙ h)

  pub main_listed : (x : Name) → is_among (block_names (spoken_actions q.main)) x ≡ true → is_among (text_names l.lexemes l.end) x ≡ true
  main_listed x h =
      listed l.lexemes l.end (λ k. k) (is_variable l.lexemes l.end)
      (λ k e. first_holds (is_called (at (signs l.lexemes) k)) (not (is_call (signs l.lexemes) k)) e)
      (places (after 0 (flat_map piece_parts q.pieces)) (main_parts q.main)) x
      (ap (λ (ns : List Name). is_among ns x) (main_names l q r none_refused) ∙ h)
