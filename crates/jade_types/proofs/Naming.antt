-- What a name stands for, as an item and among locals.
use Rattle.std.proofs.Common.{◌≡◌, ℕ, ◌-◌, drop, length, Bool, true, false, cond, List, [], ◌∷◌, ◌++◌, Option, Some, refl, ap, sym, ◌∙◌}
use Rattle.std.specs.Prelude.{if◌then◌else◌}
use Rattle.std.specs.Option.{option_map, option_or}
use Rattle.std.specs.Map.{lookup}
use Rattle.std.proofs.lemmas.List.{length-map, drop-map}
use Rattle.jade_syntax.specs.Abstract.{Name}
use Rattle.jade_syntax.specs.Numbering.{same_name}
use Rattle.jade_syntax.specs.StaticFaults.{Meaning, Names, found, known}
use Rattle.jade_types.specs.declared.faults.names.Meaning.{Meaning as MeaningOf}
use Rattle.jade_types.specs.steps.Meanings.{meant}
use Rattle.jade_types.specs.steps.Scoped.{as_names}

or_first : (b : Bool) (m : Meaning) (a c : Option Meaning) → option_or (if b then Some m else a) c ≡ (if b then Some m else option_or a c)
or_first true m a c = refl
or_first false m a c = refl

found_both : (x : Name) (ks ls : Names) → found x (ks ++ ls) ≡ option_or (found x ks) (found x ls)
found_both x [] ls = refl
found_both x (k ∷ ks) ls = ap (λ r. if same_name x k.name then Some k.meaning else r) (found_both x ks ls)
    ∙ sym (or_first (same_name x k.name) k.meaning (found x ks) (found x ls))

map_first : (b : Bool) (m : MeaningOf) (r : Option MeaningOf) → option_map meant (cond b (Some m) r) ≡ (if b then Some (meant m) else option_map meant r)
map_first true m r = refl
map_first false m r = refl

-- what an item's name stands for
pub found_item : (x : Name) (items : List (Name × MeaningOf)) → option_map meant (lookup (same_name x) items) ≡ found x (as_names items)
found_item x [] = refl
found_item x (i ∷ items) = map_first (same_name x i.0) i.1 (lookup (same_name x) items)
    ∙ ap (λ r. if same_name x i.0 then Some (meant i.1) else r) (found_item x items)

-- what a name stands for is that of a local, or else of an item
pub found_among : (x : Name) (locals items : Names) (r : Option Meaning) → r ≡ found x locals → found x (locals ++ items) ≡ option_or r (found x items)
found_among x locals items r e = found_both x locals items ∙ ap (λ s. option_or s (found x items)) (sym e)

-- as many names as pairs
pub names_counted : (pairs : List (Name × MeaningOf)) → length pairs ≡ length (as_names pairs)
names_counted pairs = let e : length (as_names pairs) ≡ length pairs = simp length-map in sym e

-- the oldest names stay
pub names_left : (pairs : List (Name × MeaningOf)) (n : ℕ) → as_names (drop (length pairs - n) pairs) ≡ drop (length (as_names pairs) - n) (as_names pairs)
names_left pairs n = sym (drop-map (λ (i : Name × MeaningOf). known i.0 (meant i.1)) (length pairs - n) pairs)
    ∙ ap (λ k. drop (k - n) (as_names pairs)) (names_counted pairs)
