-- A task without rights has no entry.
use Rattle.std.proofs.Common.{◌≡◌, ℕ, false, List, [], ◌∷◌, ◌++◌, sym, ap, ◌∙◌, subst, None}
use Rattle.std.specs.Prelude.{if◌then◌else◌}
use Rattle.object_shelf.specs.Shelves.{find}
use Rattle.schedule_core.specs.Core.{touches}
use Rattle.schedule_core.specs.Unplaced.{Live}
use Rattle.schedule_core.specs.Sound.{Apart, Pairs}
use Rattle.schedule_core.specs.Shown.{line, slot, slots, born_slots}
use Rattle.schedule_core.proofs.Lines.{every_append, every_with, pairs_front, pairs_back}
use Rattle.schedule_core.proofs.Showing.{Away, Elsewhere, before_away, after_away, line_away, line_both, born_away}
use Rattle.schedule_core.proofs.Tells.{find_none, longer}

-- a task without rights has no entry
pub no_entry : (o : ℕ) (b l : List Live) (t : Live) → Pairs Apart (b ++ (t ∷ l)) → touches (t.rights o) ≡ false → find t.path (line o (b ++ (t ∷ l))) ≡ None
no_entry o b l t far e =
    ap (find t.path) (line_both o b (t ∷ l)) ∙ find_none t.path (line o b ++ (slots o t ++ line o l))
    (every_append (Elsewhere t.path) (line o b) (slots o t ++ line o l) (line_away t.path o b (every_with (λ s. Apart s t) (λ s. Away t.path (slots o s)) (λ s f. before_away o t s f) b (pairs_front Apart b t l far)))
    (every_append (Elsewhere t.path) (slots o t) (line o l) (every_append (Elsewhere t.path) (born_slots t.doing.course o t) (slot t.path (t.rights o) (t.held o) (t.versions o)) (born_away t.path t.doing.course o t (longer t.path t.part)) none)
    (line_away t.path o l (every_with (Apart t) (λ u. Away t.path (slots o u)) (λ u f. after_away o t u f) l (pairs_back Apart b t l far)))))
  where
    none : Away t.path (slot t.path (t.rights o) (t.held o) (t.versions o))
    none = subst (λ x. Away t.path (if x then record { path = t.path; rights = t.rights o; hold = t.held o; version = t.versions o } ∷ [] else [])) (sym e) tt
