-- An expanded text that is handed out, and where its tokens come from.
use Rattle.std.proofs.Common.{◌≡◌, ℕ, zero, suc, ◌+◌, ◌-◌, ◌<◌, ◌≤◌, ◌≢◌, ◌&&◌, List, [], ◌∷◌, ◌++◌, length, take, drop, nat_eq, None, refl, sym, ap, ◌∙◌, subst, arith}
use Rattle.std.specs.Prelude.{map, slice_index_or, Ok, Err, if◌then◌else◌}
use Rattle.std.proofs.lemmas.List.{append_assoc, length-append, length-take, length-drop}
use Rattle.std.proofs.Math.Seq.{take-append_seam}
use Rattle.jade_base.specs.declared.place.Pos.{Pos}
use Rattle.jade_lexer.specs.Lexemes.{TokenList}
use Rattle.proc_expand.specs.declared.error.ExpandError.TheVariants.{Grown}
use Rattle.proc_expand.specs.declared.sheet.Piece.{Piece}
use Rattle.proc_expand.specs.declared.sheet.Sheet.{Sheet}
use Rattle.proc_expand.specs.Refusals.{refusal}
use Rattle.proc_expand.specs.Written.{MadeToken, spaced, expansion, expanded_text}
use Rattle.proc_expand.specs.steps.Sheets.{spaced_out, piece_token, tokens_of, AreLaid, IsSheet}
use Rattle.proc_expand.specs.Expanded.{origin_from, outcome, unless_refused, unless_grown}
use Rattle.proc_expand.specs.steps.Kept.{origin_among, tokens_in, laid_to, IsExpanded, Ascend}
use Rattle.proc_expand.proofs.First.{eq_not, eq_same, lt_is, lt_not}
use Rattle.proc_expand.proofs.SheetFacts.{laid_up, same_pieces}

-- ---- the text, with a line feed in place of the last space

pub spaced_last : (u : MadeToken) (us : List MadeToken) → spaced_out (u ∷ us) ≡ spaced (u ∷ us) ++ 32 ∷ []
spaced_last u [] = refl
spaced_last u (v ∷ us) = ap (λ x. u.bytes ++ 32 ∷ x) (spaced_last v us) ∙ sym (append_assoc u.bytes (32 ∷ spaced (v ∷ us)) (32 ∷ []))

-- a text with tokens is as long as with a space after each
pub as_long : (us : List MadeToken) → 0 < length (spaced_out us) → length (spaced us ++ 10 ∷ []) ≡ length (spaced_out us)
as_long [] h = absurd (omega (arith, h))
as_long (u ∷ us) h =
    let a = length-append (spaced (u ∷ us)) (10 ∷ []) in let b = length-append (spaced (u ∷ us)) (32 ∷ []) in
    let c = ap length (spaced_last u us) in omega (arith, a, b, c)

pub not_longer : (us : List MadeToken) → length (spaced_out us) ≤ 1048576 → length (spaced us ++ 10 ∷ []) ≤ 1048576
not_longer [] h = omega arith
not_longer (u ∷ us) h =
    let a = length-append (spaced (u ∷ us)) (10 ∷ []) in let b = length-append (spaced (u ∷ us)) (32 ∷ []) in
    let c = ap length (spaced_last u us) in omega (arith, a, b, c, h)

cut : (xs ys : List ℕ) (a b : ℕ) → xs ++ a ∷ [] ≡ ys ++ b ∷ [] → xs ≡ ys
cut [] [] a b h = refl
cut [] (y ∷ []) a b h = absurd (cc)
cut [] (y ∷ z ∷ ys) a b h = absurd (cc)
cut (x ∷ []) [] a b h = absurd (cc)
cut (x ∷ z ∷ xs) [] a b h = absurd (cc)
cut (x ∷ xs) (y ∷ ys) a b h =
    let s : x ≡ y = cc in let t : xs ++ a ∷ [] ≡ ys ++ b ∷ [] = cc in ap (λ u. u ∷ xs) s ∙ ap (λ u. y ∷ u) (cut xs ys a b t)

-- the sheet's bytes without the last
pub is_expanded : (s : Sheet) (xs : List ℕ) → IsSheet s → s.text.items ≡ xs ++ 32 ∷ [] → (IsExpanded (xs ++ 10 ∷ []) s.pieces.items) × (tokens_in (xs ++ 10 ∷ []) s.pieces.items ≡ tokens_of s)
is_expanded s xs is e = by s.pieces.items refl
  where
    same : (more : List ℕ) → map (piece_token (xs ++ more)) s.pieces.items ≡ map (piece_token xs) s.pieces.items
    same more = same_pieces xs more 0 s.pieces.items (length s.text.items) is.laid
        (let l = ap length e in let m = length-append xs (32 ∷ []) in omega (arith, l, m))

    tokens : tokens_in (xs ++ 10 ∷ []) s.pieces.items ≡ tokens_of s
    tokens = same (10 ∷ []) ∙ sym (same (32 ∷ [])) ∙ ap (λ u. map (piece_token u) s.pieces.items) (sym e)

    as_many : length s.text.items ≡ length (xs ++ 10 ∷ [])
    as_many = ap length e ∙ length-append xs (32 ∷ []) ∙ sym (length-append xs (10 ∷ []))

    by : (ps : List Piece) → s.pieces.items ≡ ps → (IsExpanded (xs ++ 10 ∷ []) s.pieces.items) × (tokens_in (xs ++ 10 ∷ []) s.pieces.items ≡ tokens_of s)
    by [] h = absurd (let l = is.laid in let z = subst (λ u. AreLaid 0 u (length s.text.items)) h l in let a = ap length e in let m = length-append xs (32 ∷ []) in omega (arith, z, a, m))
    by (p ∷ ps) h = (
      record {
        laid = subst (λ u. AreLaid 0 u (laid_to (xs ++ 10 ∷ []) u)) (sym h)
            (subst (AreLaid 0 (p ∷ ps)) as_many (subst (λ u. AreLaid 0 u (length s.text.items)) h is.laid));
        bytes = ap (λ u. u ++ 10 ∷ []) (cut xs (spaced (tokens_of s)) 32 32 (sym e ∙ is.text ∙ whole (tokens_of s) (ap (map (piece_token s.text.items)) h)))
            ∙ ap (λ us. spaced us ++ 10 ∷ []) (sym tokens);
      },
      tokens,
    )
      where
        whole : (us : List MadeToken) → us ≡ piece_token s.text.items p ∷ map (piece_token s.text.items) ps → spaced_out us ≡ spaced us ++ 32 ∷ []
        whole us g = ap spaced_out g ∙ spaced_last (piece_token s.text.items p) (map (piece_token s.text.items) ps) ∙ ap (λ v. spaced v ++ 32 ∷ []) (sym g)

-- nothing is written
pub none_expanded : (s : Sheet) → IsSheet s → s.text.items ≡ [] → (IsExpanded (10 ∷ []) s.pieces.items) × (tokens_in (10 ∷ []) s.pieces.items ≡ tokens_of s)
none_expanded s is e = by s.pieces.items refl
  where
    by : (ps : List Piece) → s.pieces.items ≡ ps → (IsExpanded (10 ∷ []) s.pieces.items) × (tokens_in (10 ∷ []) s.pieces.items ≡ tokens_of s)
    by [] h = (
      record {
        laid = subst (λ u. AreLaid 0 u (laid_to (10 ∷ []) u)) (sym h) refl;
        bytes = ap (λ u. spaced (tokens_in (10 ∷ []) u) ++ 10 ∷ []) (sym h);
      },
      ap (tokens_in (10 ∷ [])) h ∙ sym (ap (map (piece_token s.text.items)) h),
    )
    by (p ∷ ps) h = absurd (let l = is.laid in let z = subst (λ u. AreLaid 0 u (length s.text.items)) h l in let u = z.0.at in let w = z.0.up in
        let v = laid_up (p.stop + 1) ps (length s.text.items) z.1 in let a = ap length e in omega (arith, u, w, v, a))

-- the sheet's bytes with a line feed in place of the last
abbrev pub finished_text : Sheet → List ℕ
finished_text s = take (length s.text.items - 1) s.text.items ++ 10 ∷ []

pub finished_is : (s : Sheet) → IsSheet s → (IsExpanded (finished_text s) s.pieces.items) × (tokens_in (finished_text s) s.pieces.items ≡ tokens_of s)
finished_is s is = by s.pieces.items refl
  where
    Both : List ℕ → Type 0
    Both u = (IsExpanded u s.pieces.items) × (tokens_in u s.pieces.items ≡ tokens_of s)

    by : (ps : List Piece) → s.pieces.items ≡ ps → Both (finished_text s)
    by [] h =
        let e : s.text.items ≡ [] = is.text ∙ ap (λ u. spaced_out (map (piece_token s.text.items) u)) h in
        subst Both (sym (ap (λ u. take (length u - 1) u ++ 10 ∷ []) e)) (none_expanded s is e)
    by (p ∷ ps) h =
        let us = piece_token s.text.items p ∷ map (piece_token s.text.items) ps in
        let e : s.text.items ≡ spaced us ++ 32 ∷ [] =
        is.text ∙ ap (λ u. spaced_out (map (piece_token s.text.items) u)) h ∙ spaced_last (piece_token s.text.items p) (map (piece_token s.text.items) ps) in
        let n : length s.text.items - 1 ≡ length (spaced us) =
        (let a = ap length e in let b = length-append (spaced us) (32 ∷ []) in omega (arith, a, b)) in
        subst Both (sym (ap (λ i. take i s.text.items ++ 10 ∷ []) n ∙ ap (λ u. take (length (spaced us)) u ++ 10 ∷ []) e
        ∙ ap (λ u. u ++ 10 ∷ []) (take-append_seam (spaced us) (32 ∷ []))))
        (is_expanded s (spaced us) is e)

-- ---- origins by pieces

pub in_pieces : (text : List ℕ) (end pos : Pos) (n : ℕ) (ps : List Piece) (m : ℕ) → AreLaid n ps m → m ≤ length text → pos.line ≡ 1
    → origin_from end (n + 1) (map (piece_token text) ps) pos ≡ origin_among end pos.column ps
in_pieces text end pos n [] m h l e = refl
in_pieces text end pos n (p ∷ ps) m h l e =
    ap (λ b. if b && nat_eq (n + 1) pos.column then p.origin else origin_from end (n + 1 + length (take (p.stop - p.start) (drop p.start text)) + 1) (map (piece_token text) ps) pos)
    (ap (λ i. nat_eq i 1) e)
    ∙ ap (λ i. if nat_eq i pos.column then p.origin else origin_from end (n + 1 + length (take (p.stop - p.start) (drop p.start text)) + 1) (map (piece_token text) ps) pos)
    (let a = h.0.at in omega (arith, a))
    ∙ ap (λ u. if nat_eq (p.start + 1) pos.column then p.origin else u)
    (ap (λ i. origin_from end i (map (piece_token text) ps) pos) next ∙ in_pieces text end pos (p.stop + 1) ps m h.1 l e)
  where
    next : n + 1 + length (take (p.stop - p.start) (drop p.start text)) + 1 ≡ p.stop + 1 + 1
    next = let a = h.0.at in let b = h.0.up in let c = laid_up (p.stop + 1) ps m h.1 in let d = length-drop p.start text in
        let t = length-take (p.stop - p.start) (drop p.start text) in omega (arith, a, b, c, d, t, l)

pub no_line : (end pos : Pos) (n : ℕ) (us : List MadeToken) → pos.line ≢ 1 → origin_from end n us pos ≡ end
no_line end pos n [] h = refl
no_line end pos n (u ∷ us) h =
    ap (λ b. if b && nat_eq n pos.column then u.origin else origin_from end (n + length u.bytes + 1) us pos) (eq_not pos.line 1 h)
    ∙ no_line end pos (n + length u.bytes + 1) us h

pub starts_up : (n : ℕ) (ps : List Piece) (m i : ℕ) (d : Piece) → AreLaid n ps m → i < length ps → n ≤ (slice_index_or ps i d).start
starts_up n [] m i d h l = absurd (omega (arith, l))
starts_up n (p ∷ ps) m zero d h l = let a = h.0.at in omega (arith, a)
starts_up n (p ∷ ps) m (suc i) d h l =
    let g = starts_up (p.stop + 1) ps m i d h.1 (omega (arith, l)) in let a = h.0.at in let b = h.0.up in omega (arith, g, a, b)

pub sorted : (n : ℕ) (ps : List Piece) (m i j : ℕ) (d : Piece) → AreLaid n ps m → i < j → j < length ps
    → (slice_index_or ps i d).start < (slice_index_or ps j d).start
sorted n [] m i j d h k l = absurd (omega (arith, l))
sorted n (p ∷ ps) m i zero d h k l = absurd (omega (arith, k))
sorted n (p ∷ ps) m zero (suc j) d h k l =
    let g = starts_up (p.stop + 1) ps m j d h.1 (omega (arith, l)) in let a = h.0.at in let b = h.0.up in omega (arith, g, a, b)
sorted n (p ∷ ps) m (suc i) (suc j) d h k l = sorted (p.stop + 1) ps m i j d h.1 (omega (arith, k)) (omega (arith, l))

pub hit : (end : Pos) (column : ℕ) (ps : List Piece) (i : ℕ) (d : Piece) → i < length ps
    → ((j : ℕ) → j < i → (slice_index_or ps j d).start + 1 < column) → (slice_index_or ps i d).start + 1 ≡ column
    → (slice_index_or ps i d).origin ≡ origin_among end column ps
hit end column [] i d l h e = absurd (omega (arith, l))
hit end column (p ∷ ps) zero d l h e =
    ap (λ b. if b then p.origin else origin_among end column ps) (sym (ap (λ j. nat_eq j column) e ∙ eq_same column))
hit end column (p ∷ ps) (suc i) d l h e =
    hit end column ps i d (omega (arith, l)) (λ j k. h (suc j) (omega (arith, k))) e
    ∙ ap (λ b. if b then p.origin else origin_among end column ps)
    (sym (eq_not (p.start + 1) column (let f = h 0 (omega arith) in λ g. omega (arith, f, g))))

pub miss : (end : Pos) (column : ℕ) (ps : List Piece) (d : Piece) → ((j : ℕ) → j < length ps → (slice_index_or ps j d).start + 1 ≢ column)
    → end ≡ origin_among end column ps
miss end column [] d h = refl
miss end column (p ∷ ps) d h =
    miss end column ps d (λ j k. h (suc j) (omega (arith, k)))
    ∙ ap (λ b. if b then p.origin else origin_among end column ps) (sym (eq_not (p.start + 1) column (h 0 (omega arith))))

-- pieces of an expanded text

laid_within : (text : List ℕ) (ps : List Piece) → laid_to text ps ≤ length text
laid_within text [] = omega arith
laid_within text (p ∷ ps) = omega arith

pub ascends : (text : List ℕ) (ps : List Piece) → IsExpanded text ps → Ascend ps
ascends text ps is = record { up = λ i j d k l. sorted 0 ps (laid_to text ps) i j d is.laid k l }

pub by_pieces : (text : List ℕ) (end pos : Pos) (ps : List Piece) → IsExpanded text ps → pos.line ≡ 1
    → origin_from end 1 (tokens_in text ps) pos ≡ origin_among end pos.column ps
by_pieces text end pos ps is e = in_pieces text end pos 0 ps (laid_to text ps) is.laid (laid_within text ps) e

-- what is finished

pub finished_whole : (s : Sheet) (text : List ℕ) → IsSheet s → text ≡ finished_text s → IsExpanded text s.pieces.items
finished_whole s text is e = subst (λ u. IsExpanded u s.pieces.items) (sym e) ((finished_is s is).0)

pub finished_tokens : (s : Sheet) (text : List ℕ) → IsSheet s → text ≡ finished_text s → tokens_in text s.pieces.items ≡ tokens_of s
finished_tokens s text is e = ap (λ u. tokens_in u s.pieces.items) e ∙ (finished_is s is).1

-- ---- what is answered

module _ (l : TokenList) (ok : refusal l.lexemes ≡ None) where
  pub is_grown : 1048576 < length (spaced_out (expansion l.lexemes l.end)) → outcome l ≡ Err Grown
  is_grown h =
      ap (unless_refused l) ok
      ∙ ap (unless_grown l) (lt_is 1048576 (length (expanded_text l))
      (let a = as_long (expansion l.lexemes l.end) (omega (arith, h)) in omega (arith, a, h)))

  pub is_whole : (us : List MadeToken) → us ≡ expansion l.lexemes l.end → length (spaced_out us) ≤ 1048576
      → outcome l ≡ Ok (record { tokens = us; end = l.end })
  is_whole us e h =
      ap (unless_refused l) ok
      ∙ ap (unless_grown l) (lt_not 1048576 (length (expanded_text l))
      (let a = not_longer us h in let b = ap (λ v. length (spaced v ++ 10 ∷ [])) e in omega (arith, a, b)))
      ∙ ap (λ v. Ok (record { tokens = v; end = l.end })) (sym e)
