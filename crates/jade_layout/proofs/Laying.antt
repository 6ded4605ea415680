-- The fields of a printer after one more token.
use Rattle.std.proofs.Common.{◌≡◌, ℕ, ◌+◌, ◌-◌, ◌≤◌, Bool, true, false, List, [], ◌∷◌, ◌++◌, if◌then◌else◌}
use Rattle.std.proofs.Common.{refl, sym, drop, take, length, arith, length-append, length-drop}
use Rattle.std.proofs.lemmas.List.{take_all}
use Rattle.std.proofs.Math.Seq.{drop-append_seam}
use Rattle.jade_layout.specs.Layout.{opens_block, closes_block, depth_after, gap, is_sign}
use Rattle.jade_layout.specs.Printed.{Printed, with_token}

one_deeper : (p q : Bool) (d : ℕ) → (if p then d + 1 else (if q then d - 1 else d)) ≤ d + 1
one_deeper true q d = omega arith
one_deeper false true d = omega arith
one_deeper false false d = omega arith

deeper : (d : ℕ) (t : List ℕ) → depth_after d t ≤ d + length t
deeper d [] = omega arith
deeper d (b ∷ bytes) = omega (arith, one_deeper (opens_block (b ∷ bytes)) (closes_block (b ∷ bytes)) d)

-- the new place and depth are within the new text
pub within : (start depth next : ℕ) (text gap t now : List ℕ) → now ≡ text ++ gap ++ t → start ≡ length (text ++ gap) → depth ≤ length text → next
    ≡ depth_after depth t → (start ≤ length now) × (next ≤ length now)
within start depth next text gap t now e s d n =
    let long : length now ≡ length text + length gap + length t = rw (e, length-append (text ++ gap) t, length-append text gap) refl in
    let begun : start ≡ length text + length gap = rw (s, length-append text gap) refl in
    (omega (arith, long, begun), omega (arith, long, n, deeper depth t, d))

-- what begins at the end of a text is what was put there
pub last_put : (start : ℕ) (a t now : List ℕ) → now ≡ a ++ t → start ≡ length a → drop start now ≡ t
last_put start a t now e s = rw (e, s) (drop-append_seam a t)

-- from a place to the end
to_end : (n : ℕ) (xs : List ℕ) → take (length xs - n) (drop n xs) ≡ drop n xs
to_end n xs = take_all (length xs - n) (drop n xs) (omega (arith, length-drop n xs))

-- the fields show one more token than they did
pub laid : (p : Printed) (text now whole : List ℕ) (from start depth next : ℕ) (before after : Bool) (t g : List ℕ)
    → record { text = text; last = drop from text; sign = before; depth = depth } ≡ p → whole ≡ text → g
    ≡ gap (take (length whole - from) (drop from whole)) before depth t → now ≡ text ++ g ++ t → start ≡ length (text ++ g) → after
    ≡ is_sign (take (length whole - from) (drop from whole)) t → next ≡ depth_after depth t
    → record { text = now; last = drop start now; sign = after; depth = next } ≡ with_token p t
laid p text now whole from start depth next before after t g v w g-is n s a d =
    rw (sym v) (rw (last_put start (text ++ g) t now n s) (rw (n, g-is, a, d) (rw w (rw (to_end from text) refl))))
