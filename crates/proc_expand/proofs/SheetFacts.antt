-- A text that grows by a token.
use Rattle.std.proofs.Common.{◌≡◌, ℕ, ◌+◌, ◌-◌, ◌<◌, ◌≤◌, List, [], ◌∷◌, ◌++◌, length, take, drop, refl, sym, ap, ◌∙◌, subst, arith}
use Rattle.std.specs.Prelude.{map}
use Rattle.std.proofs.lemmas.List.{map-append, append_assoc, length-append, take-append-le, drop-append-le, length-drop}
use Rattle.std.proofs.Math.Seq.{drop-append_seam, take-append_seam}
use Rattle.proc_expand.specs.declared.sheet.Piece.{Piece}
use Rattle.proc_expand.specs.declared.sheet.Sheet.{Sheet}
use Rattle.proc_expand.specs.Written.{MadeToken}
use Rattle.proc_expand.specs.steps.Sheets.{spaced_out, piece_token, tokens_of, AreLaid, IsSheet}

pub laid_up : (n : ℕ) (ps : List Piece) (m : ℕ) → AreLaid n ps m → n ≤ m
laid_up n [] m h = omega (arith, h)
laid_up n (p ∷ ps) m h = let b = h.0.up in let l = laid_up (p.stop + 1) ps m h.1 in omega (arith, b, l)

laid_more : (n : ℕ) (ps : List Piece) (m : ℕ) (p : Piece) → AreLaid n ps m → p.start ≡ m → m ≤ p.stop → AreLaid n (ps ++ p ∷ []) (p.stop + 1)
laid_more n [] m p h e l = (record { at = e ∙ sym h; up = omega (arith, h, l) }, refl)
laid_more n (q ∷ ps) m p h e l = (h.0, laid_more (q.stop + 1) ps m p h.1 e l)

pub same_piece : (text more : List ℕ) (p : Piece) → p.start ≤ p.stop → p.stop ≤ length text → piece_token (text ++ more) p ≡ piece_token text p
same_piece text more p h l =
    ap (λ u. record { bytes = u; origin = p.origin })
    (ap (take (p.stop - p.start)) (drop-append-le p.start text more (omega (arith, h, l)))
    ∙ take-append-le (p.stop - p.start) (drop p.start text) more (let d = length-drop p.start text in omega (arith, d, l)))

-- pieces that end before a last byte do not see it
pub same_pieces : (text more : List ℕ) (n : ℕ) (ps : List Piece) (m : ℕ) → AreLaid n ps m → m ≤ length text + 1
    → map (piece_token (text ++ more)) ps ≡ map (piece_token text) ps
same_pieces text more n [] m h l = refl
same_pieces text more n (p ∷ ps) m h l =
    let at = h.0.at in let up = h.0.up in let end = laid_up (p.stop + 1) ps m h.1 in
    ap (λ t. t ∷ map (piece_token (text ++ more)) ps) (same_piece text more p (omega (arith, at, up)) (omega (arith, end, l)))
    ∙ ap (λ ts. piece_token text p ∷ ts) (same_pieces text more (p.stop + 1) ps m h.1 l)

last_piece : (text bytes : List ℕ) (p : Piece) → p.start ≡ length text → p.stop ≡ length text + length bytes
    → piece_token (text ++ (bytes ++ 32 ∷ [])) p ≡ record { bytes = bytes; origin = p.origin }
last_piece text bytes p h e =
    ap (λ u. record { bytes = u; origin = p.origin })
    (ap (λ i. take (p.stop - p.start) (drop i (text ++ (bytes ++ 32 ∷ [])))) h
    ∙ ap (take (p.stop - p.start)) (drop-append_seam text (bytes ++ 32 ∷ []))
    ∙ ap (λ i. take i (bytes ++ 32 ∷ [])) (omega (arith, h, e))
    ∙ take-append_seam bytes (32 ∷ []))

pub spaced_more : (ts : List MadeToken) (t : MadeToken) → spaced_out (ts ++ t ∷ []) ≡ spaced_out ts ++ (t.bytes ++ 32 ∷ [])
spaced_more [] t = refl
spaced_more (u ∷ ts) t =
    ap (λ v. u.bytes ++ 32 ∷ v) (spaced_more ts t) ∙ sym (append_assoc u.bytes (32 ∷ spaced_out ts) (t.bytes ++ 32 ∷ []))

module _ (s t : Sheet) (bytes : List ℕ) (p : Piece) (is : IsSheet s) (grown : t.text.items ≡ (s.text.items ++ bytes) ++ 32 ∷ [])
    (listed : t.pieces.items ≡ s.pieces.items ++ p ∷ []) (start : p.start ≡ length s.text.items) (stop : p.stop ≡ length s.text.items + length bytes) where
  abbrev made : MadeToken
  made = record { bytes = bytes; origin = p.origin }

  whole : t.text.items ≡ s.text.items ++ (bytes ++ 32 ∷ [])
  whole = grown ∙ append_assoc s.text.items bytes (32 ∷ [])

  pub put_tokens : tokens_of t ≡ tokens_of s ++ made ∷ []
  put_tokens =
      ap (λ u. map (piece_token u) t.pieces.items) whole ∙ ap (map (piece_token (s.text.items ++ (bytes ++ 32 ∷ [])))) listed
      ∙ map-append (piece_token (s.text.items ++ (bytes ++ 32 ∷ []))) s.pieces.items (p ∷ [])
      ∙ ap (λ u. u ++ piece_token (s.text.items ++ (bytes ++ 32 ∷ [])) p ∷ [])
      (same_pieces s.text.items (bytes ++ 32 ∷ []) 0 s.pieces.items (length s.text.items) is.laid (omega arith))
      ∙ ap (λ u. tokens_of s ++ u ∷ []) (last_piece s.text.items bytes p start stop)

  longer : length t.text.items ≡ p.stop + 1
  longer = ap length grown ∙ length-append (s.text.items ++ bytes) (32 ∷ [])
      ∙ (let l = length-append s.text.items bytes in omega (arith, l, stop))

  pub put_sheet : length s.text.items + length bytes < 1048576 → IsSheet t
  put_sheet fits = record {
    laid = subst (λ u. AreLaid 0 u (length t.text.items)) (sym listed)
        (subst (AreLaid 0 (s.pieces.items ++ p ∷ [])) (sym longer)
        (laid_more 0 s.pieces.items (length s.text.items) p is.laid start (omega (arith, stop))));
    text = whole ∙ ap (λ u. u ++ (bytes ++ 32 ∷ [])) is.text ∙ sym (spaced_more (tokens_of s) made) ∙ ap spaced_out (sym put_tokens);
    few = let l = longer in omega (arith, l, stop, fits);
  }

pub too_long : (s : Sheet) (t : MadeToken) → IsSheet s → 1048576 - length s.text.items ≤ length t.bytes
    → 1048576 < length (spaced_out (tokens_of s ++ t ∷ []))
too_long s t is h =
    let e = ap length (spaced_more (tokens_of s) t) in
    let a = length-append (spaced_out (tokens_of s)) (t.bytes ++ 32 ∷ []) in
    let b = length-append t.bytes (32 ∷ []) in
    let f = is.few in let g = ap length is.text in
    omega (arith, e, a, b, f, g, h)
