-- The children that a live task has yet to make have done nothing.
use Rattle.std.proofs.Common.{◌≡◌, ℕ, suc, List, [], ◌∷◌, ◌++◌, refl, sym, ap, ◌∙◌, subst, arith, append-nil, append_assoc}
use Rattle.std.specs.Prelude.{ℤ}
use Rattle.jade_syntax.specs.Abstract.{AbstractProgram}
use Rattle.jade_meaning.specs.Course.{Course, Reads, Writes, Steps, Creates, Changes, Ends, root_spec, root_course}
use Rattle.jade_meaning.specs.Talk.{Event, Enter, Enroll, Take, TouchRead, TouchWrite, Wants, Give, Leave, Shift, Resign}
use Rattle.jade_meaning.specs.Serial.{Path, Mark, deeds_at}
use Rattle.jade_meaning.specs.Laws.{Every}
use Rattle.jade_meaning.specs.Proper.{Proper}
use Rattle.schedule_core.specs.Core.{Cells}
use Rattle.schedule_core.specs.Unplaced.{Live, State, event_done, deed_done}
use Rattle.schedule_core.specs.Sound.{Within, From, Apart, Pairs}
use Rattle.schedule_core.specs.Reached as reaches
use Rattle.schedule_core.proofs.Schedules.{reached_sound}
use Rattle.schedule_core.proofs.Lines.{every_change, every_with, every_back, pairs_front, pairs_back}
use Rattle.schedule_core.proofs.Follows.{marks_off, deeds_both}

abbrev pub Unborn : List Mark → Live → Type 0
Unborn log t = (p : Path) → Within t.path t.part p → (p ≡ t.path → ⊥) → deeds_at p log ≡ []

pub own_within : (t : Live) → Within t.path t.part t.path
own_within t = record { rest = []; is = sym (append-nil t.path); from = tt }

add_none : (p : Path) (log ms : List Mark) → deeds_at p log ≡ [] → deeds_at p ms ≡ [] → deeds_at p (log ++ ms) ≡ []
add_none p log ms a b = deeds_both p log ms ∙ ap (λ ds. ds ++ deeds_at p ms) a ∙ b

longer : (p : Path) (k : ℕ) (q : Path) → p ++ k ∷ q ≡ p → ⊥
longer [] k q e = absurd (cc)
longer (i ∷ p) k q e = longer p k q (cc)

event_unborn : (b l : List Live) (t : Live) (f : ℕ → Cells) (log : List Mark) → Pairs Apart (b ++ (t ∷ l)) → Every (Unborn log) (b ++ (t ∷ l)) → (es : List Event)
    → Every (Unborn (log ++ (event_done es f t).marks)) (b ++ ((event_done es f t).tasks ++ l))
event_unborn b l t f log far h es =
    every_change (Unborn log) (Unborn (log ++ (event_done es f t).marks)) b t (event_done es f t).tasks l h
    (every_with (λ s. Apart s t) (λ s. Unborn log s → Unborn (log ++ (event_done es f t).marks) s) (λ s k u p w n. add_none p log _ (u p w n) (marks_off f t es p (λ e. k p w (subst (Within t.path t.part) (sym e) (own_within t))))) b (pairs_front Apart b t l far))
    (every_with (Apart t) (λ s. Unborn log s → Unborn (log ++ (event_done es f t).marks) s) (λ s k u p w n. add_none p log _ (u p w n) (marks_off f t es p (λ e. k p (subst (Within t.path t.part) (sym e) (own_within t)) w))) l (pairs_back Apart b t l far))
    (own es)
  where
    mine : Unborn log t
    mine = (every_back (Unborn log) b (t ∷ l) h).0

    still : (ms : List Mark) → ((p : Path) → (p ≡ t.path → ⊥) → deeds_at p ms ≡ []) → Unborn (log ++ ms) t
    still ms off p w n = add_none p log ms (mine p w n) (off p n)

    deed : (c : Course) → ((p : Path) → (p ≡ t.path → ⊥) → deeds_at p (deed_done c f t).marks ≡ []) → Every (Unborn (log ++ (deed_done c f t).marks)) (deed_done c f t).tasks
    deed (Reads o c on) off = (still _ off, tt)
    deed (Writes o c v on) off = (still _ off, tt)
    deed (Creates child body on) off = (
      λ p w n. add_none p log _ (mine p (record { rest = t.part ∷ w.rest; is = w.is ∙ append_assoc t.path (t.part ∷ []) w.rest; from = omega arith }) (λ e. longer t.path t.part w.rest (sym (append_assoc t.path (t.part ∷ []) w.rest) ∙ sym w.is ∙ e))) (off p (λ e. longer t.path t.part w.rest (sym (append_assoc t.path (t.part ∷ []) w.rest) ∙ sym w.is ∙ e))),
      (λ p w n. add_none p log _ (mine p (record { rest = w.rest; is = w.is; from = lower w.rest w.from }) n) (off p n), tt),
    )
      where
        lower : (r : Path) → From (suc t.part) r → From t.part r
        lower [] k = tt
        lower (j ∷ r) k = omega arith
    deed (Ends x) off = tt
    deed (Steps on) off = (still _ off, tt)
    deed (Changes new on) off = (still _ off, tt)

    own : (es : List Event) → Every (Unborn (log ++ (event_done es f t).marks)) (event_done es f t).tasks
    own [] = deed t.doing.course (λ p n. marks_off f t [] p n)
    own (Take o m ∷ es) = (still _ (λ p n. marks_off f t (Take o m ∷ es) p n), tt)
    own (Give o ∷ es) = (still _ (λ p n. refl), tt)
    own (Shift o a ∷ es) = (still _ (λ p n. refl), tt)
    own (Leave o ∷ es) = (still _ (λ p n. refl), tt)
    own (Enter o a ∷ es) = (still _ (λ p n. refl), tt)
    own (Enroll x k ∷ es) = (still _ (λ p n. refl), tt)
    own (TouchRead o c v ∷ es) = (still _ (λ p n. refl), tt)
    own (TouchWrite o c v ∷ es) = (still _ (λ p n. refl), tt)
    own (Wants o c ∷ es) = (still _ (λ p n. refl), tt)
    own (Resign x k ∷ es) = (still _ (λ p n. refl), tt)

pub state_unborn : (p : AbstractProgram) (ns : List ℤ) (limit : ℕ) → Proper (root_spec p) (root_course p ns limit) → (st : State) → reaches.Reached p ns limit st
    → Every (Unborn st.log) st.roll
state_unborn p ns limit proper _ reaches.starts = (λ p w n. refl, tt)
state_unborn p ns limit proper _ (reaches.steps {st = st} b l c r roll allowed) =
    event_unborn b l c st.contents st.log (subst (Pairs Apart) roll ((reached_sound p ns limit proper st r).by (λ o. [])).apart)
    (subst (Every (Unborn st.log)) roll (state_unborn p ns limit proper st r)) c.doing.pending
