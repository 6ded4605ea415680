-- Which recordings are right.
use Rattle.std.proofs.Common.{◌≡◌, ℕ, ◌≤◌, List, length, refl, ap, sym, ◌∙◌, subst}
use Rattle.std.specs.Prelude.{ℤ}
use Rattle.jade_base.specs.declared.place.Pos.{Pos}
use Rattle.jade_meaning.specs.Turns.{Full, turns_in}
use Rattle.jade_syntax.specs.declared.tree.Program.{Program}
use Rattle.jade_syntax.specs.Image.{program}
use Rattle.jade_syntax.specs.Objects.{sizes}
use Rattle.run_record.specs.Recording.{Recorded, recording}
use Rattle.jade_run.specs.declared.status.Status.{Status}
use Rattle.jade_run.specs.declared.status.Status.TheVariants.{Good, Refused, Numbers, Replay}
use Rattle.jade_run.specs.Answered.{IsGood, input_count}
use Rattle.jade_run.specs.Outcome.{SameOutcome}
use Rattle.jade_run.specs.Recordings.{AreAnswer, IsRecordingOf, IsReplayed, IsRight, IsRightRecording, ListsByObject, formless, unfit, uncounted, turnless, differs, same}
use Rattle.jade_run.specs.Texts.{same_text}
use Rattle.jade_run.proofs.Alike.{Parses}
use Rattle.jade_run.proofs.Retold.{same_replayed}

replay_not : Good ≡ Replay → ⊥
replay_not e = absurd (cc)

refused_not : Good ≡ Refused → ⊥
refused_not e = absurd (cc)

numbers_not : Good ≡ Numbers → ⊥
numbers_not e = absurd (cc)

pub right_only : (bytes text : List ℕ) → IsReplayed bytes text Good → IsRightRecording bytes × (text ≡ same_text)
right_only bytes text (formless line b t s) = absurd (replay_not s)
right_only bytes text (unfit r h place why f t s) = absurd (refused_not s)
right_only bytes text (uncounted r h tree home g n t s) = absurd (numbers_not s)
right_only bytes text (turnless r tree home p never t s) = absurd (replay_not s)
right_only bytes text (differs r tree home p lists h never t s) = absurd (replay_not s)
right_only bytes text (same r tree home lists h t s) = (record { recorded = r; tree = tree; home = home; lists = lists; right = h }, t)

pub right_always : Parses → (bytes text : List ℕ) (status : Status) → length bytes ≤ 1048576 → IsRightRecording bytes → IsReplayed bytes text status
    → SameOutcome text status same_text Good
right_always law bytes text status le h k =
    same_replayed law bytes text same_text status Good le k (same h.recorded h.tree h.home h.lists h.right refl refl)

-- so it is of the numbers and the limit that a recording has
full_recorded : (tree : Program) (ns ms : List ℤ) (k l : ℕ) (lists : ListsByObject) → ms ≡ ns → l ≡ k → Full (program tree) ns k (turns_in lists)
    → Full (program tree) ms l (turns_in lists)
full_recorded tree ns ms k l lists e f h =
    subst (λ x. Full (program tree) x l (turns_in lists)) (sym e) (subst (λ x. Full (program tree) ns x (turns_in lists)) (sym f) h)

told_recorded : (lines : List (List ℕ)) (tree : Program) (home : Pos → Pos) (ns ms : List ℤ) (k l : ℕ) (lists : ListsByObject) → ms ≡ ns → l ≡ k
    → AreAnswer lines (program tree) home ns k (turns_in lists) → AreAnswer lines (program tree) home ms l (turns_in lists)
told_recorded lines tree home ns ms k l lists e f h =
    subst (λ x. AreAnswer lines (program tree) home x l (turns_in lists)) (sym e)
    (subst (λ x. AreAnswer lines (program tree) home ns x (turns_in lists)) (sym f) h)

pub recording_right : (bytes : List ℕ) (tree : Program) (home : Pos → Pos) (ns : List ℤ) (limit : ℕ) (lists : ListsByObject) (r : Recorded)
    → IsGood bytes tree home → length ns ≡ input_count tree → length lists ≡ length (sizes (program tree).items)
    → IsRecordingOf bytes tree home ns limit (turns_in lists) r → IsRight (recording r) r tree home lists
recording_right bytes tree home ns limit lists r g n m h = record {
  plays = record {
    recorded = record { whole = refl; fit = h.fit };
    good = subst (λ b. IsGood b tree home) (sym h.of_text) g;
    counted = ap length h.given ∙ n;
  };
  turned = record { counted = m; named = h.taken; full = full_recorded tree ns r.numbers limit r.limit lists h.given h.limited h.full };
  told = told_recorded r.answer tree home ns r.numbers limit r.limit lists h.given h.limited h.told;
}
