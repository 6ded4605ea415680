-- Notes that are written into the last chunk stand behind those of all chunks.
use Rattle.std.proofs.Common.{◌≡◌, ℕ, zero, suc, ◌+◌, List, [], ◌∷◌, ◌++◌, length, sym, ap, ◌∙◌, arith, append_assoc, flat_map, slice_index_or, slice_set}

pub set_last : {X A : Type 0} (f : X → List A) (cs : List X) (i : ℕ) (v w : X) (rest more : List A) → i + 1 ≡ length cs → v ≡ slice_index_or cs i v
    → f w ++ rest ≡ f v ++ more → flat_map f (slice_set cs i w) ++ rest ≡ flat_map f cs ++ more
set_last f [] i v w rest more last is moved = absurd (omega (arith, last))
set_last f (c ∷ []) zero v w rest more last is moved = append_assoc (f w) [] rest ∙ moved ∙ ap (λ z. f z ++ more) is ∙ sym (append_assoc (f c) [] more)
set_last f (c ∷ d ∷ cs) zero v w rest more last is moved = absurd (omega (arith, last))
set_last f (c ∷ []) (suc i) v w rest more last is moved = absurd (omega (arith, last))
set_last f (c ∷ d ∷ cs) (suc i) v w rest more last is moved =
    append_assoc (f c) (flat_map f (slice_set (d ∷ cs) i w)) rest
    ∙ ap (λ ns. f c ++ ns) (set_last f (d ∷ cs) i v w rest more (omega (arith, last)) is moved)
    ∙ sym (append_assoc (f c) (flat_map f (d ∷ cs)) more)
