-- A recording that is replayed comes to one text and one status, and so does a run that is recorded.
use Rattle.std.proofs.Common.{◌≡◌, ◌≢◌, ℕ, zero, suc, ◌+◌, ◌<◌, ◌≤◌, ◌⊎◌, inl, inr, List, [], ◌∷◌, ◌++◌, length, take, map, refl, ap, sym, ◌∙◌, subst, arith, append_assoc, length-append, All}
use Rattle.std.specs.Prelude.{ℤ}
use Rattle.std.proofs.lemmas.List.{take_all}
use Rattle.jade_base.specs.declared.place.Pos.{Pos}
use Rattle.jade_syntax.specs.Abstract.{AbstractProgram}
use Rattle.jade_syntax.specs.declared.tree.Program.{Program}
use Rattle.jade_syntax.specs.Image.{program}
use Rattle.jade_syntax.specs.Objects.{Label, labels}
use Rattle.jade_syntax.proofs.Limits.{labels_counted}
use Rattle.jade_meaning.specs.Answer.{Answer, Faulted, Cells, answer}
use Rattle.jade_meaning.specs.Serial.{Path}
use Rattle.jade_meaning.specs.Turns.{in_order, turns_in}
use Rattle.run_record.specs.declared.turns.LabelledTurn.{LabelledTurn}
use Rattle.run_record.specs.Form.{at_head, BreaksAt}
use Rattle.run_record.specs.Recording.{Recorded, lines, ended, recording}
use Rattle.run_record.proofs.Same.{none_breaks, only_one}
use Rattle.run_record.proofs.Least.{is_least}
use Rattle.record_parts.specs.Labels.{label_text, labelled_turns, turns_on_one, turns_from}
use Rattle.record_parts.proofs.Apart.{AreApart, program_apart}
use Rattle.record_parts.proofs.Cutting.{lines_once}
use Rattle.record_parts.proofs.Matching.{first_is, first_is_not}
use Rattle.jade_run.specs.declared.status.Status.{Status}
use Rattle.jade_run.specs.declared.status.Status.TheVariants.{Good, Fault, Refused, Numbers, Replay}
use Rattle.jade_run.specs.Answered.{TurnLists, IsAnswered, IsGood, IsRead, answered, miscounted, refused, answer_text, answer_status, input_count}
use Rattle.jade_run.specs.Outcome.{SameOutcome}
use Rattle.jade_run.specs.Recordings.{
  AreAnswer,
  HasTurns,
  IsKept,
  IsRecording,
  IsRecordingOf,
  IsReplayed,
  ListsByObject,
  kept,
  long,
  not_run,
  formless,
  unfit,
  uncounted,
  turnless,
  differs,
  same,
}
use Rattle.jade_meaning.specs.Moved.{moved_answer}
use Rattle.jade_run.specs.Texts.{differs_text, form_text, no_turns_text, same_text}
use Rattle.jade_run.proofs.Alike.{Parses, good_or_refused, same_answers, same_count, same_home, same_program}
use Rattle.jade_run.proofs.Standings.{stands_within}

-- ---- the first line that breaks the form

-- bytes that begin with some of the lines begin with fewer of them
fewer : (ls : List (List ℕ)) (n k : ℕ) (after : List ℕ) → n ≤ k → (more : List ℕ) × (ended (take k ls) ++ after ≡ ended (take n ls) ++ more)
fewer [] zero k after le = (ended (take k []) ++ after, refl)
fewer (l ∷ ls) zero k after le = (ended (take k (l ∷ ls)) ++ after, refl)
fewer ls (suc n) zero after le = absurd (omega arith)
fewer [] (suc n) (suc k) after le = (after, refl)
fewer (l ∷ ls) (suc n) (suc k) after le =
    let rest = fewer ls n k after (omega arith) in (
      rest.0,
      append_assoc l (10 ∷ ended (take k ls)) after ∙ ap (λ z. l ++ 10 ∷ z) rest.1 ∙ sym (append_assoc l (10 ∷ ended (take n ls)) rest.0),
    )

-- and so do bytes that begin with all
some_of : (ls : List (List ℕ)) (n : ℕ) (after : List ℕ) → (more : List ℕ) × (ended ls ++ after ≡ ended (take n ls) ++ more)
some_of ls n after =
    let cut = fewer ls n (n + length ls) after (omega arith) in
    (cut.0, ap (λ x. ended x ++ after) (sym (take_all (n + length ls) ls (omega arith))) ∙ cut.1)

not_before : (bytes : List ℕ) (n m : ℕ) → BreaksAt n at_head 1 bytes → BreaksAt m at_head 1 bytes → n < m → ⊥
not_before bytes n m h k lt =
    let b = (is_least bytes m).some k in
    let counted = b.counted in
    let cut = fewer (lines b.record_of) n b.before b.after (omega (arith, counted, lt)) in
    let F : List ℕ → Type 0 = BreaksAt n at_head 1 in
    (none_breaks b.record_of n cut.0).none b.fit (subst F (b.begins ∙ cut.1) h)

below_or_not : (n m : ℕ) → (n < m) ⊎ (m ≤ n)
below_or_not n zero = inr (omega arith)
below_or_not zero (suc m) = inl (omega arith)
below_or_not (suc n) (suc m) = elim (below_or_not n m) [ inl p ↦ inl (omega (arith, p)) | inr q ↦ inr (omega (arith, q)) ]

-- one line of bytes is the first that breaks the form
one_break : (bytes : List ℕ) (n m : ℕ) → BreaksAt n at_head 1 bytes → BreaksAt m at_head 1 bytes → n ≡ m
one_break bytes n m h k = by_cases (below_or_not n m) (below_or_not m n) where
  by_cases : (n < m) ⊎ (m ≤ n) → (m < n) ⊎ (n ≤ m) → n ≡ m
  by_cases (inl p) b = absurd (not_before bytes n m h k p)
  by_cases (inr p) (inl q) = absurd (not_before bytes m n k h q)
  by_cases (inr p) (inr q) = omega (arith, p, q)

-- no line of a recording breaks the form
unbroken : (bytes : List ℕ) (r : Recorded) (n : ℕ) → IsRecording bytes r → BreaksAt n at_head 1 bytes → ⊥
unbroken bytes r n h b =
    let cut = some_of (lines r) n r.text in
    let F : List ℕ → Type 0 = BreaksAt n at_head 1 in
    (none_breaks r n cut.0).none h.fit (subst F (sym h.whole ∙ cut.1) b)

one_recording : (bytes : List ℕ) (r q : Recorded) → IsRecording bytes r → IsRecording bytes q → r ≡ q
one_recording bytes r q h k = only_one r q h.fit k.fit (h.whole ∙ sym k.whole)

-- ---- turns name one list for each object

-- turns on n objects, from object o on, are the same
abbrev Agree : (T S : ℕ → List Path) → (o n : ℕ) → Type 0
Agree T S o zero = Unit {0}
Agree T S o (suc n) = (T o ≡ S o) × Agree T S (suc o) n

-- the first turns are under the first label, or there are none on the first object
under : (o : ℕ) (l : Label) (ls : List Label) (T : ℕ → List Path) (t : LabelledTurn) (ts : List LabelledTurn) → t ∷ ts ≡ turns_from o (l ∷ ls) T →
    (t.label ≡ label_text l) ⊎ (T o ≡ [])
under o l ls T t ts e = by_cases (T o) e where
  heads : {a b : LabelledTurn} {us vs : List LabelledTurn} → a ∷ us ≡ b ∷ vs → a ≡ b
  heads e = cc

  by_cases : (ps : List Path) → t ∷ ts ≡ turns_on_one (label_text l) ps ++ turns_from (suc o) ls T → (t.label ≡ label_text l) ⊎ (ps ≡ [])
  by_cases [] f = inr refl
  by_cases (p ∷ ps) f = inl (ap (λ (u : LabelledTurn). u.label) (heads f))

no_first : (l : Label) (t : LabelledTurn) (more : List LabelledTurn) → [] ≡ t ∷ more → t.label ≡ label_text l → ⊥
no_first l t more g s = absurd (cc)

-- turns on the other objects, where there are none on the first
passed : (o : ℕ) (l : Label) (ls : List Label) (T : ℕ → List Path) → T o ≡ [] → turns_from o (l ∷ ls) T ≡ turns_from (suc o) ls T
passed o l ls T e = ap (λ ps. turns_on_one (label_text l) ps ++ turns_from (suc o) ls T) e

step : (o : ℕ) (l : Label) (ls : List Label) (T S : ℕ → List Path) (t : LabelledTurn) (ts : List LabelledTurn) → All (λ y. y ≢ label_text l) (map label_text ls) →
    t ∷ ts ≡ turns_from o (l ∷ ls) T → t ∷ ts ≡ turns_from o (l ∷ ls) S →
    ((us : List LabelledTurn) → us ≡ turns_from (suc o) ls T → us ≡ turns_from (suc o) ls S → Agree T S (suc o) (length ls)) →
    (t.label ≡ label_text l) ⊎ (T o ≡ []) → (t.label ≡ label_text l) ⊎ (S o ≡ []) → (T o ≡ S o) × Agree T S (suc o) (length ls)
step o l ls T S t ts a e f rest (inl s) b =
    let d = first_is o l ls T t ts a s e in let g = first_is o l ls S t ts a s f in (d.0 ∙ sym g.0, rest ts d.1 g.1)
step o l ls T S t ts a e f rest (inr x) (inl s) =
    let d = first_is o l ls T t ts a s e in let g = first_is o l ls S t ts a s f in (d.0 ∙ sym g.0, rest ts d.1 g.1)
step o l ls T S t ts a e f rest (inr x) (inr y) = (x ∙ sym y, rest (t ∷ ts) (e ∙ passed o l ls T x) (f ∙ passed o l ls S y))

agree : (o : ℕ) (ls : List Label) (T S : ℕ → List Path) (ts : List LabelledTurn) → AreApart (map label_text ls) → ts ≡ turns_from o ls T →
    ts ≡ turns_from o ls S → Agree T S o (length ls)
agree o [] T S ts a e f = tt
agree o (l ∷ ls) T S [] a e f =
    let d = first_is_not o l ls T [] (no_first l) e in
    let g = first_is_not o l ls S [] (no_first l) f in
    (d.0 ∙ sym g.0, agree (suc o) ls T S [] a.1 d.1 g.1)
agree o (l ∷ ls) T S (t ∷ ts) a e f =
    step o l ls T S t ts a.0 e f (λ us p q. agree (suc o) ls T S us a.1 p q) (under o l ls T t ts e) (under o l ls S t ts f)

shift : (x y : List Path) (a b : ListsByObject) (o n : ℕ) → Agree (turns_in (x ∷ a)) (turns_in (y ∷ b)) (suc o) n → Agree (turns_in a) (turns_in b) o n
shift x y a b o zero h = tt
shift x y a b o (suc n) h = (h.0, shift x y a b (suc o) n h.1)

lists_agree : (a b : ListsByObject) → length a ≡ length b → Agree (turns_in a) (turns_in b) 0 (length a) → a ≡ b
lists_agree [] [] l h = refl
lists_agree [] (y ∷ b) l h = absurd (omega (arith, l))
lists_agree (x ∷ a) [] l h = absurd (omega (arith, l))
lists_agree (x ∷ a) (y ∷ b) l h =
    ap (λ z. z ∷ a) h.0 ∙ ap (λ c. y ∷ c) (lists_agree a b (omega (arith, l)) (shift x y a b 0 (length a) h.1))

one_lists : (tree : Program) (r : Recorded) (a b : ListsByObject) → AreApart (map label_text (labels tree.items)) → HasTurns r (program tree) a →
    HasTurns r (program tree) b → a ≡ b
one_lists tree r a b apart h k =
    let count : length (labels tree.items) ≡ length a = labels_counted tree.items ∙ sym h.counted in
    let F : ℕ → Type 0 = Agree (turns_in a) (turns_in b) 0 in
    lists_agree a b (h.counted ∙ sym k.counted) (subst F count (agree 0 (labels tree.items) (turns_in a) (turns_in b) r.turns apart h.named k.named))

-- ---- a recording is replayed

-- what the turns and the answer of a recording come to
data Turned (r : Recorded) (p : AbstractProgram) (home : Pos → Pos) (text : List ℕ) (status : Status) : Type 0 where
  without : ((lists : ListsByObject) → HasTurns r p lists → ⊥) → text ≡ no_turns_text → status ≡ Replay → Turned r p home text status
  unlike : (lists : ListsByObject) → HasTurns r p lists → (AreAnswer r.answer p home r.numbers r.limit (turns_in lists) → ⊥) → text ≡ differs_text → status ≡ Replay →
      Turned r p home text status
  alike : (lists : ListsByObject) → HasTurns r p lists → AreAnswer r.answer p home r.numbers r.limit (turns_in lists) → text ≡ same_text → status ≡ Good →
      Turned r p home text status

-- what the text of a recording comes to: it is not run, or its turns are looked at
data Judged (r : Recorded) (text : List ℕ) (status : Status) : Type 0 where
  settled : IsAnswered r.text r.numbers r.limit in_order text status → (status ≡ Good → ⊥) → (status ≡ Fault → ⊥) → Judged r text status
  played : (tree : Program) (home : Pos → Pos) → IsGood r.text tree home → length r.numbers ≡ input_count tree → Turned r (program tree) home text status → Judged r text status

-- what bytes come to that are replayed: they are no recording, or its text is looked at
data Retold (bytes text : List ℕ) (status : Status) : Type 0 where
  broken : (line : ℕ) → BreaksAt line at_head 1 bytes → text ≡ form_text line → status ≡ Replay → Retold bytes text status
  recorded : (r : Recorded) → IsRecording bytes r → Judged r text status → Retold bytes text status

refused_good : (s : Status) → s ≡ Refused → s ≡ Good → ⊥
refused_good s e f = absurd (cc)

refused_fault : (s : Status) → s ≡ Refused → s ≡ Fault → ⊥
refused_fault s e f = absurd (cc)

numbers_good : (s : Status) → s ≡ Numbers → s ≡ Good → ⊥
numbers_good s e f = absurd (cc)

numbers_fault : (s : Status) → s ≡ Numbers → s ≡ Fault → ⊥
numbers_fault s e f = absurd (cc)

retold : (bytes text : List ℕ) (status : Status) → IsReplayed bytes text status → Retold bytes text status
retold bytes text status (formless line b t s) = broken line b t s
retold bytes text status (unfit r h place why for t s) = recorded r h (settled (refused place why for t s) (refused_good status s) (refused_fault status s))
retold bytes text status (uncounted r h tree home g n t s) = recorded r h (settled (miscounted tree home g n t s) (numbers_good status s) (numbers_fault status s))
retold bytes text status (turnless r tree home p never t s) = recorded r p.recorded (played tree home p.good p.counted (without never t s))
retold bytes text status (differs r tree home p lists h never t s) = recorded r p.recorded (played tree home p.good p.counted (unlike lists h never t s))
retold bytes text status (same r tree home lists h t s) = recorded r h.plays.recorded (played tree home h.plays.good h.plays.counted (alike lists h.turned h.told t s))

same_turned : (r : Recorded) (tree : Program) (home : Pos → Pos) (t u : List ℕ) (s q : Status) → AreApart (map label_text (labels tree.items)) → Turned r (program tree) home t s →
    Turned r (program tree) home u q → SameOutcome t s u q
same_turned r tree home t u s q apart (without never a b) (without never' c d) = record { text = a ∙ sym c; status = b ∙ sym d }
same_turned r tree home t u s q apart (without never a b) (unlike lists h denied c d) = absurd (never lists h)
same_turned r tree home t u s q apart (without never a b) (alike lists h told c d) = absurd (never lists h)
same_turned r tree home t u s q apart (unlike lists h denied a b) (without never c d) = absurd (never lists h)
same_turned r tree home t u s q apart (unlike lists h denied a b) (unlike lists' h' denied' c d) = record { text = a ∙ sym c; status = b ∙ sym d }
same_turned r tree home t u s q apart (unlike lists h denied a b) (alike lists' h' told c d) =
    let F : ListsByObject → Type 0 = λ z. AreAnswer r.answer (program tree) home r.numbers r.limit (turns_in z) in
    absurd (denied (subst F (one_lists tree r lists' lists apart h' h) told))
same_turned r tree home t u s q apart (alike lists h told a b) (without never c d) = absurd (never lists h)
same_turned r tree home t u s q apart (alike lists h told a b) (unlike lists' h' denied c d) =
    let F : ListsByObject → Type 0 = λ z. AreAnswer r.answer (program tree) home r.numbers r.limit (turns_in z) in
    absurd (denied (subst F (one_lists tree r lists lists' apart h h') told))
same_turned r tree home t u s q apart (alike lists h told a b) (alike lists' h' told' c d) = record { text = a ∙ sym c; status = b ∙ sym d }

answers_well : (a : Answer) (s : Status) → s ≡ answer_status a → (s ≡ Good → ⊥) → (s ≡ Fault → ⊥) → ⊥
answers_well (Faulted path blame) s e good fault = fault e
answers_well (Cells store) s e good fault = good e

-- a program that is run comes to an answer
is_run : Parses → (bytes : List ℕ) (numbers : List ℤ) (limit : ℕ) (turns : TurnLists) (x : Program) {f : Pos → Pos} (t : List ℕ) (s : Status) → IsGood bytes x f →
    length numbers ≡ input_count x → IsAnswered bytes numbers limit turns t s → (s ≡ Good → ⊥) → (s ≡ Fault → ⊥) → ⊥
is_run law bytes numbers limit turns x t s g n (answered y k h m a) good fault = answers_well (moved_answer k (answer (program y) numbers limit turns)) s a.ended good fault
is_run law bytes numbers limit turns x t s g n (miscounted y k h m a b) good fault = m (n ∙ same_count law bytes x y g.read h.read)
is_run law bytes numbers limit turns x t s g n (refused place why k a b) good fault = good_or_refused law bytes x place why g k

objects_apart : Parses → (bytes : List ℕ) (tree : Program) (home : Pos → Pos) → length bytes ≤ 1048576 → IsGood bytes tree home → AreApart (map label_text (labels tree.items))
objects_apart law bytes tree home le g =
    let r = g.read in
    program_apart tree (law.shaped r.text r.reads.tokens tree (stands_within bytes r.text home le r.stands) r.reads.whole r.reads.read) g.faultless

same_judged : Parses → (r : Recorded) (t u : List ℕ) (s q : Status) → length r.text ≤ 1048576 → Judged r t s → Judged r u q → SameOutcome t s u q
same_judged law r t u s q le (settled h good fault) (settled k good' fault') = same_answers law r.text r.numbers r.limit in_order t u s q h k
same_judged law r t u s q le (settled h good fault) (played y f k n v) = absurd (is_run law r.text r.numbers r.limit in_order y t s k n h good fault)
same_judged law r t u s q le (played x f h n v) (settled k good fault) = absurd (is_run law r.text r.numbers r.limit in_order x u q h n k good fault)
same_judged law r t u s q le (played x f h n v) (played y e k m w) =
    let F : AbstractProgram → Type 0 = λ p. Turned r p f t s in
    let G : (Pos → Pos) → Type 0 = λ z. Turned r (program y) z t s in
    let here : Turned r (program y) f t s = subst F (same_program law r.text x y h.read k.read) v in
    same_turned r y e t u s q (objects_apart law r.text y e le k) (subst G (same_home r.text x y f e h.read k.read) here) w

text_within : (bytes : List ℕ) (r : Recorded) → IsRecording bytes r → length bytes ≤ 1048576 → length r.text ≤ 1048576
text_within bytes r h le =
    let both : length (recording r) ≡ length (ended (lines r)) + length r.text = length-append (ended (lines r)) r.text in
    let all : length (recording r) ≡ length bytes = ap length h.whole in
    within (length (recording r)) (length bytes) (length (ended (lines r))) (length r.text) both all le
  where
    within : (whole all front text : ℕ) → whole ≡ front + text → whole ≡ all → all ≤ 1048576 → text ≤ 1048576
    within whole all front text e f le = omega (arith, e, f, le)

same_retold : Parses → (bytes t u : List ℕ) (s q : Status) → length bytes ≤ 1048576 → Retold bytes t s → Retold bytes u q → SameOutcome t s u q
same_retold law bytes t u s q le (broken n h a b) (broken m k c d) = record { text = a ∙ ap form_text (one_break bytes n m h k) ∙ sym c; status = b ∙ sym d }
same_retold law bytes t u s q le (broken n h a b) (recorded r k v) = absurd (unbroken bytes r n k h)
same_retold law bytes t u s q le (recorded r h v) (broken n k c d) = absurd (unbroken bytes r n h k)
same_retold law bytes t u s q le (recorded r h v) (recorded p k w) =
    let F : Recorded → Type 0 = λ z. Judged z t s in
    same_judged law p t u s q (text_within bytes p k le) (subst F (one_recording bytes r p h k) v) w

pub same_replayed : Parses → (bytes t u : List ℕ) (s q : Status) → length bytes ≤ 1048576 → IsReplayed bytes t s → IsReplayed bytes u q → SameOutcome t s u q
same_replayed law bytes t u s q le h k = same_retold law bytes t u s q le (retold bytes t s h) (retold bytes u q k)

-- ---- a run is recorded

same_recorded : Parses → (bytes : List ℕ) (numbers : List ℤ) (limit : ℕ) (turns : TurnLists) (x y : Program) (f e : Pos → Pos) (r q : Recorded) → IsRead bytes x f →
    IsRead bytes y e → IsRecordingOf bytes x f numbers limit turns r → IsRecordingOf bytes y e numbers limit turns q → r ≡ q
same_recorded law bytes numbers limit turns x y f e r q g h a b =
    let p : program x ≡ program y = same_program law bytes x y g h in
    let F : AbstractProgram → Type 0 = λ z. AreAnswer r.answer z f numbers limit turns in
    let G : (Pos → Pos) → Type 0 = λ z. AreAnswer r.answer (program y) z numbers limit turns in
    let there : AreAnswer r.answer (program y) e numbers limit turns = subst G (same_home bytes x y f e g h) (subst F p a.told) in
    let limits : r.limit ≡ q.limit = a.limited ∙ sym b.limited in
    let given : r.numbers ≡ q.numbers = a.given ∙ sym b.given in
    let taken : r.turns ≡ q.turns = a.taken ∙ ap (λ (z : AbstractProgram). labelled_turns z.items turns) p ∙ sym b.taken in
    let told : r.answer ≡ q.answer = lines_once r.answer q.answer (answer_text (program y) (moved_answer e (answer (program y) numbers limit turns))) there b.told in
    let texts : r.text ≡ q.text = a.of_text ∙ sym b.of_text in
    let A : ℕ → Recorded = λ z. record { limit = z; numbers = r.numbers; turns = r.turns; answer = r.answer; text = r.text } in
    let B : List ℤ → Recorded = λ z. record { limit = q.limit; numbers = z; turns = r.turns; answer = r.answer; text = r.text } in
    let C : List LabelledTurn → Recorded = λ z. record { limit = q.limit; numbers = q.numbers; turns = z; answer = r.answer; text = r.text } in
    let D : List (List ℕ) → Recorded = λ z. record { limit = q.limit; numbers = q.numbers; turns = q.turns; answer = z; text = r.text } in
    let E : List ℕ → Recorded = λ z. record { limit = q.limit; numbers = q.numbers; turns = q.turns; answer = q.answer; text = z } in
    ap A limits ∙ ap B given ∙ ap C taken ∙ ap D told ∙ ap E texts

too_long : (r q : Recorded) → r ≡ q → length (recording r) ≤ 1048576 → 1048576 < length (recording q) → ⊥
too_long r q e le lt = apart (length (recording r)) (length (recording q)) (ap (λ z. length (recording z)) e) le lt where
  apart : (n m : ℕ) → n ≡ m → n ≤ 1048576 → 1048576 < m → ⊥
  apart n m e le lt = omega (arith, e, le, lt)

pub same_kept : Parses → (bytes : List ℕ) (numbers : List ℤ) (limit : ℕ) (turns : TurnLists) (t u : List ℕ) (s q : Status) → IsKept bytes numbers limit turns t s →
    IsKept bytes numbers limit turns u q → SameOutcome t s u q
same_kept law bytes numbers limit turns t u s q (kept x f g n r h le a b) (kept y e k m p j le' c d) =
    let one = same_recorded law bytes numbers limit turns x y f e r p g.read k.read h j in
    record { text = a ∙ ap recording one ∙ sym c; status = b ∙ sym d }
same_kept law bytes numbers limit turns t u s q (kept x f g n r h le a b) (long y e k m p j lt c d) =
    absurd (too_long r p (same_recorded law bytes numbers limit turns x y f e r p g.read k.read h j) le lt)
same_kept law bytes numbers limit turns t u s q (kept x f g n r h le a b) (not_run k good fault) =
    absurd (is_run law bytes numbers limit turns x u q g n k good fault)
same_kept law bytes numbers limit turns t u s q (long x f g n r h lt a b) (kept y e k m p j le c d) =
    absurd (too_long p r (same_recorded law bytes numbers limit turns y x e f p r k.read g.read j h) le lt)
same_kept law bytes numbers limit turns t u s q (long x f g n r h lt a b) (long y e k m p j lt' c d) = record { text = a ∙ sym c; status = b ∙ sym d }
same_kept law bytes numbers limit turns t u s q (long x f g n r h lt a b) (not_run k good fault) =
    absurd (is_run law bytes numbers limit turns x u q g n k good fault)
same_kept law bytes numbers limit turns t u s q (not_run h good fault) (kept y e k m p j le c d) =
    absurd (is_run law bytes numbers limit turns y t s k m h good fault)
same_kept law bytes numbers limit turns t u s q (not_run h good fault) (long y e k m p j lt c d) =
    absurd (is_run law bytes numbers limit turns y t s k m h good fault)
same_kept law bytes numbers limit turns t u s q (not_run h good fault) (not_run k good' fault') = same_answers law bytes numbers limit turns t u s q h k
