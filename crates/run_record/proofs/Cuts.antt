-- A text has one cut before a byte.
use Rattle.std.proofs.Common.{◌≡◌, ◌≢◌, ℕ, List, [], ◌∷◌, ◌++◌, refl, ap, sym, ◌∙◌}
use Rattle.std.proofs.lemmas.List.Elements.{All-head, All-tail}
use Rattle.run_record.specs.Pieces.{Lacks}
use Rattle.run_record.specs.steps.Cutting.{BeginsOrEnds}

heads : {a b : ℕ} {xs ys : List ℕ} → a ∷ xs ≡ b ∷ ys → a ≡ b
heads e = cc

tails : {a b : ℕ} {xs ys : List ℕ} → a ∷ xs ≡ b ∷ ys → xs ≡ ys
tails e = cc

-- what begins with a byte or ends, begins with it where it begins
begins : (c b : ℕ) (x xs : List ℕ) → BeginsOrEnds c x → x ≡ b ∷ xs → b ≡ c
begins c b [] xs h e = absurd (cc)
begins c b (a ∷ x) xs h e = sym (heads e) ∙ h

pub front_same : (c : ℕ) (v w x y : List ℕ) → Lacks c v → Lacks c w → BeginsOrEnds c x → BeginsOrEnds c y → v ++ x ≡ w ++ y → v ≡ w
front_same c [] [] x y lv lw bx by e = refl
front_same c [] (b ∷ w) x y lv lw bx by e = absurd (All-head (λ a. a ≢ c) b w lw (begins c b x (w ++ y) bx e))
front_same c (a ∷ v) [] x y lv lw bx by e = absurd (All-head (λ b. b ≢ c) a v lv (begins c a y (v ++ x) by (sym e)))
front_same c (a ∷ v) (b ∷ w) x y lv lw bx by e =
    let first : a ≡ b = heads e in
    let rest = front_same c v w x y (All-tail (λ d. d ≢ c) a v lv) (All-tail (λ d. d ≢ c) b w lw) bx by (tails e) in
    ap (λ d. d ∷ v) first ∙ ap (λ l. b ∷ l) rest

pub back_same : (c : ℕ) (v w x y : List ℕ) → Lacks c v → Lacks c w → BeginsOrEnds c x → BeginsOrEnds c y → v ++ x ≡ w ++ y → x ≡ y
back_same c [] [] x y lv lw bx by e = e
back_same c [] (b ∷ w) x y lv lw bx by e = absurd (All-head (λ a. a ≢ c) b w lw (begins c b x (w ++ y) bx e))
back_same c (a ∷ v) [] x y lv lw bx by e = absurd (All-head (λ b. b ≢ c) a v lv (begins c a y (v ++ x) by (sym e)))
back_same c (a ∷ v) (b ∷ w) x y lv lw bx by e = back_same c v w x y (All-tail (λ d. d ≢ c) a v lv) (All-tail (λ d. d ≢ c) b w lw) bx by (tails e)
