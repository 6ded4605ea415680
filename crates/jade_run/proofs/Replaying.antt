-- What a recording comes to that is replayed.
use Rattle.std.proofs.Common.{◌≡◌, ℕ, suc, ◌+◌, ◌<◌, ◌≤◌, ◌⊎◌, inl, inr, Bool, true, false, List, [], ◌∷◌, ◌++◌, length, take, Some, refl, ap, sym, ◌∙◌, subst, arith, length-append}
use Rattle.std.specs.Prelude.{ℤ, ◌↔◌, IsTrue, Result, Ok, Err, IfOk}
use Rattle.std.specs.List.{slice_get}
use Rattle.jade_base.specs.Places.{same_path}
use Rattle.jade_base.specs.declared.failure.Memory.{Memory as NoMemory}
use Rattle.jade_base.specs.declared.place.Pos.{Pos}
use Rattle.jade_base.specs.declared.report.Report.{Report}
use Rattle.jade_syntax.specs.Abstract.{AbstractProgram}
use Rattle.jade_syntax.specs.CheckedProgram.{CheckedProgram}
use Rattle.jade_syntax.specs.Image.{program}
use Rattle.jade_syntax.specs.Shapes.{is_shaped}
use Rattle.jade_syntax.specs.declared.tree.Program.{Program}
use Rattle.jade_lexer.specs.Lexemes.{TokenList}
use Rattle.jade_lexer.specs.Reading.{reading, Whole}
use Rattle.jade_parser.specs.Grammar.{IsReading}
use Rattle.jade_meaning.specs.Answer.{Answer, Faulted, Cells, answer}
use Rattle.jade_meaning.specs.Plan.{RunPlan}
use Rattle.jade_meaning.specs.Report.{report}
use Rattle.jade_meaning.specs.ReportAnswer.{ReportTells, report_answer}
use Rattle.jade_meaning.specs.Serial.{Path}
use Rattle.jade_meaning.specs.Turns.{Full, in_order, turns_in}
use Rattle.jade_meaning.proofs.Filling.{same_self}
use Rattle.run_record.specs.Form.{BreaksAt, at_head}
use Rattle.run_record.specs.Recording.{IsRecorded, Recorded, ended, lines, recording}
use Rattle.record_parts.specs.Lines.{AreLines}
use Rattle.record_parts.specs.Named.{AreNamed, NoneNamed}
use Rattle.record_parts.proofs.Cutting.{take_one}
use Rattle.record_parts.proofs.Naming.{some_same}
use Rattle.jade_run.specs.declared.answer.Answer.{Answer as AnswerOf}
use Rattle.jade_run.specs.declared.status.Status.{Status}
use Rattle.jade_run.specs.declared.status.Status.TheVariants.{Good, Refused, Numbers, Replay}
use Rattle.jade_run.specs.Answered.{IsAnswered, Shows, answer_status, answer_text, answered, miscounted, refused}
use Rattle.jade_run.specs.Recordings.{HasTurns, IsRecording, IsReplayed, ListsByObject, Plays, differs, formless, same, turnless, uncounted, unfit}
use Rattle.jade_meaning.specs.Moved.{moved_answer}
use Rattle.jade_run.specs.steps.Preparing.{IsSettled}
use Rattle.jade_run.specs.steps.Recording.{IsCompared, alike, unlike}
use Rattle.jade_run.specs.Texts.{differs_text, form_text, no_turns_text, same_text}
use Rattle.jade_run.proofs.Running.{reported}
use Rattle.jade_run.proofs.Standings.{stands_within}

-- one item more is the same
pub same_more : {A : Type 0} (xs ys : List A) (i : ℕ) (x y : A) → slice_get xs i ≡ Some x → slice_get ys i ≡ Some y → x ≡ y → take i xs ≡ take i ys →
    take (i + 1) xs ≡ take (i + 1) ys
same_more xs ys i x y a b e h = take_one xs i x a ∙ ap (λ l. l ++ x ∷ []) h ∙ ap (λ z. take i ys ++ z ∷ []) e ∙ sym (take_one ys i y b)

-- lists with another item are others
pub item_differs : {A : Type 0} (xs ys : List A) (i : ℕ) (x y : A) → slice_get xs i ≡ Some x → slice_get ys i ≡ Some y → (x ≡ y → ⊥) → xs ≡ ys → ⊥
item_differs xs ys i x y a b differ e = differ (some_same (sym a ∙ ap (λ l. slice_get l i) e ∙ b))

-- paths of which it is said that they are not the same are others
pub other_path : (p q : Path) (b : Bool) → b ≡ same_path p q → b ≡ false → p ≡ q → ⊥
other_path p q b e f s = let t : same_path p q ≡ true = subst (λ z. same_path p z ≡ true) s (same_self p) in absurd (cc)

-- so are lists of paths
pub other_lists : (xs ys : List Path) (b : Bool) → IsTrue b ↔ (xs ≡ ys) → b ≡ false → xs ≡ ys → ⊥
other_lists xs ys b h f s = let t : b ≡ true = h.1 s in absurd (cc)

-- what is written of the answer that the report of a run tells
pub told_text : (r : Report) (p : AbstractProgram) (home : Pos → Pos) (ns : List ℤ) (limit own : ℕ) (lists : ListsByObject) (text : List ℕ) (status : Status) → own ≡ limit
    → r ≡ report p ns limit (turns_in lists) → ReportTells p ns limit (turns_in lists)
    → Shows p (moved_answer home (report_answer own r)) text status → text ≡ answer_text p (moved_answer home (answer p ns limit (turns_in lists)))
told_text r p home ns limit own lists text status l e t s =
    s.shown ∙ ap (λ k. answer_text p (moved_answer home (report_answer k r))) l ∙ ap (λ a. answer_text p (moved_answer home a)) (ap (report_answer limit) e ∙ t.same)

-- lines that were found to be those of a text
pub lines_are : (b : Bool) (own lines : List (List ℕ)) (told text : List ℕ) → IsTrue b ↔ AreLines own told → b ≡ true → own ≡ lines → told ≡ text
    → AreLines lines text
lines_are b own lines told text h t e f = subst (λ x. AreLines x text) e (subst (AreLines own) f (h.0 t))

-- lines that were found not to be
pub lines_are_not : (b : Bool) (own lines : List (List ℕ)) (told text : List ℕ) → IsTrue b ↔ AreLines own told → b ≡ false → own ≡ lines → told ≡ text
    → AreLines lines text → ⊥
lines_are_not b own lines told text h n e f a =
    let back : AreLines own told = subst (AreLines own) (sym f) (subst (λ x. AreLines x text) (sym e) a) in
    let t : b ≡ true = h.1 back in
    absurd (cc)

-- a recording whose lines are those of its run's answer
pub is_alike : (r : Recorded) (tree : Program) (home : Pos → Pos) (lists : ListsByObject) (told text : List ℕ) (status : Status)
    → told ≡ answer_text (program tree) (moved_answer home (answer (program tree) r.numbers r.limit (turns_in lists))) → AreLines r.answer told → text ≡ same_text → status ≡ Good
    → IsCompared r tree home lists text status
is_alike r tree home lists told text status e a t s = alike (subst (AreLines r.answer) e a) t s

-- a recording whose lines are not
pub is_unlike : (r : Recorded) (tree : Program) (home : Pos → Pos) (lists : ListsByObject) (told text : List ℕ) (status : Status)
    → told ≡ answer_text (program tree) (moved_answer home (answer (program tree) r.numbers r.limit (turns_in lists))) → (AreLines r.answer told → ⊥) → text ≡ differs_text
    → status ≡ Replay → IsCompared r tree home lists text status
is_unlike r tree home lists told text status e n t s = unlike (λ a. n (subst (AreLines r.answer) (sym e) a)) t s

-- what a recording comes to whose turns are those of the run that it was compared with
compared_is : (bytes : List ℕ) (r : Recorded) (tree : Program) (home : Pos → Pos) (lists : ListsByObject) (text : List ℕ) (status : Status)
    → Plays bytes r tree home
    → HasTurns r (program tree) lists → IsCompared r tree home lists text status → IsReplayed bytes text status
compared_is bytes r tree home lists text status p h (alike a t s) = same r tree home lists (record { plays = p; turned = h; told = a }) t s
compared_is bytes r tree home lists text status p h (unlike n t s) = differs r tree home p lists h n t s

pub compared_with : (bytes : List ℕ) (r : Recorded) (home : Pos → Pos) (p q : CheckedProgram) (lists named : ListsByObject) (o : Result AnswerOf NoMemory)
    → Plays bytes r p.program home → q ≡ p → lists ≡ named → AreNamed p.program.items r.turns named → Full (program p.program) r.numbers r.limit (turns_in named)
    → IfOk o (λ a. IsCompared r q.program home lists a.text.items a.status) → IfOk o (λ a. IsReplayed bytes a.text.items a.status)
compared_with bytes r home p q lists named (Err m) plays e l n full h = tt
compared_with bytes r home p q lists named (Ok a) plays e l n full h =
    let F : CheckedProgram → Type 0 = λ x. IsCompared r x.program home lists a.text.items a.status in
    let G : ListsByObject → Type 0 = λ x. IsCompared r p.program home x a.text.items a.status in
    compared_is bytes r p.program home named a.text.items a.status plays (record { counted = n.counted; named = n.named; full = full }) (subst G l (subst F e h))

-- lists of one length with the same items are the same
by_places : (xs ys : ListsByObject) → length xs ≡ length ys → ((o : ℕ) → o < length xs → turns_in xs o ≡ turns_in ys o) → xs ≡ ys
by_places [] [] n h = refl
by_places [] (y ∷ ys) n h = absurd (omega (arith, n))
by_places (x ∷ xs) [] n h = absurd (omega (arith, n))
by_places (x ∷ xs) (y ∷ ys) n h =
    ap (λ z. z ∷ xs) (h 0 (omega arith)) ∙ ap (λ l. y ∷ l) (by_places xs ys (omega (arith, n)) (λ o lt. h (suc o) (omega (arith, lt))))

-- the lists that the turns of a recording name are the only ones
only_these : (r : Recorded) (tree : Program) (lists others : ListsByObject) → AreNamed tree.items r.turns lists → HasTurns r (program tree) others → others ≡ lists
only_these r tree lists others n h =
    by_places others lists (h.counted ∙ sym n.counted)
    (λ o lt. n.only (turns_in others) h.named o (let c = h.counted in omega (arith, lt, c)))

-- where the lists that they name are not full, the turns are those of no run
none_turned : (r : Recorded) (tree : Program) (lists : ListsByObject) → AreNamed tree.items r.turns lists
    → (Full (program tree) r.numbers r.limit (turns_in lists) → ⊥) → (others : ListsByObject) → HasTurns r (program tree) others → ⊥
none_turned r tree lists n off others h =
    off (subst (λ ls. Full (program tree) r.numbers r.limit (turns_in ls)) (only_these r tree lists others n h) h.full)

turnless_is : (bytes : List ℕ) (r : Recorded) (tree : Program) (home : Pos → Pos) (o : Result AnswerOf NoMemory) → Plays bytes r tree home
    → ((lists : ListsByObject) → HasTurns r (program tree) lists → ⊥) → IfOk o (λ a. (a.text.items ≡ no_turns_text) × (a.status ≡ Replay))
    → IfOk o (λ a. IsReplayed bytes a.text.items a.status)
turnless_is bytes r tree home (Ok a) p none h = turnless r tree home p none h.0 h.1
turnless_is bytes r tree home (Err m) p none h = tt

pub off_is : (bytes : List ℕ) (r : Recorded) (home : Pos → Pos) (p q : CheckedProgram) (lists : ListsByObject) (o : Result AnswerOf NoMemory)
    → Plays bytes r p.program home → q ≡ p
    → AreNamed p.program.items r.turns lists → (Full (program q.program) r.numbers r.limit (turns_in lists) → ⊥)
    → IfOk o (λ a. (a.text.items ≡ no_turns_text) × (a.status ≡ Replay)) → IfOk o (λ a. IsReplayed bytes a.text.items a.status)
off_is bytes r home p q lists o plays e n off h =
    let F : CheckedProgram → Type 0 = λ x. Full (program x.program) r.numbers r.limit (turns_in lists) → ⊥ in
    turnless_is bytes r p.program home o plays (none_turned r p.program lists n (subst F e off)) h

pub unnamed_is : (bytes : List ℕ) (r : Recorded) (tree : Program) (home : Pos → Pos) (o : Result AnswerOf NoMemory) → Plays bytes r tree home → NoneNamed tree.items r.turns
    → IfOk o (λ a. (a.text.items ≡ no_turns_text) × (a.status ≡ Replay)) → IfOk o (λ a. IsReplayed bytes a.text.items a.status)
unnamed_is bytes r tree home o plays none h = turnless_is bytes r tree home o plays (λ lists t. none (turns_in lists) t.named) h

-- the report of a run of the program that was compiled is that of the program, by its own turns
pub run_report : (r told : Report) (plan : RunPlan) (q s : CheckedProgram) (ns : List ℤ) (limit : ℕ) → r ≡ told
    → r ≡ report (program plan.program) plan.numbers plan.limit (turns_in told.turns) → plan ≡ record { program = q.program; numbers = ns; limit = limit } → s ≡ q
    → r ≡ report (program s.program) ns limit (turns_in r.turns)
run_report r told plan q s ns limit i m e f =
    let own : r ≡ report (program plan.program) plan.numbers plan.limit (turns_in r.turns) =
    m ∙ ap (λ (t : Report). report (program plan.program) plan.numbers plan.limit (turns_in t.turns)) (sym i) in
    reported r plan s q ns limit (turns_in r.turns) own e (sym f)

-- the turns of the run are full
pub run_full : (r told : Report) (plan : RunPlan) (q p : CheckedProgram) (ns : List ℤ) (limit : ℕ) (lists : ListsByObject) → r ≡ told → r.turns ≡ lists
    → Full (program plan.program) plan.numbers plan.limit (turns_in told.turns) → plan ≡ record { program = q.program; numbers = ns; limit = limit } → q ≡ p
    → Full (program p.program) ns limit (turns_in lists)
run_full r told plan q p ns limit lists i l h e f =
    let A : ListsByObject → Type 0 = λ x. Full (program plan.program) plan.numbers plan.limit (turns_in x) in
    let B : RunPlan → Type 0 = λ x. Full (program x.program) x.numbers x.limit (turns_in lists) in
    let C : CheckedProgram → Type 0 = λ x. Full (program x.program) ns limit (turns_in lists) in
    let own : told.turns ≡ lists = sym (ap (λ (t : Report). t.turns) i) ∙ l in
    subst C f (subst B e (subst A own h))

-- the report of a run that was followed is that by its own turns
pub followed_report : (r : Report) (q : CheckedProgram) (ns : List ℤ) (limit : ℕ) (lists : ListsByObject)
    → r ≡ report (program q.program) ns limit (turns_in lists) → r.turns ≡ lists → r ≡ report (program q.program) ns limit (turns_in r.turns)
followed_report r q ns limit lists e l = e ∙ ap (λ x. report (program q.program) ns limit (turns_in x)) (sym l)

pub followed_full : (p q : CheckedProgram) (ns : List ℤ) (limit : ℕ) (lists : ListsByObject) → q ≡ p
    → Full (program q.program) ns limit (turns_in lists) → Full (program p.program) ns limit (turns_in lists)
followed_full p q ns limit lists e h = let C : CheckedProgram → Type 0 = λ x. Full (program x.program) ns limit (turns_in lists) in subst C e h

-- so it is for other numbers and another limit that are the same
pub full_given : (p : AbstractProgram) (ns ms : List ℤ) (k l : ℕ) (lists : ListsByObject) → ns ≡ ms → k ≡ l → Full p ns k (turns_in lists)
    → Full p ms l (turns_in lists)
full_given p ns ms k l lists e f h = subst (λ x. Full p ms x (turns_in lists)) f (subst (λ x. Full p x k (turns_in lists)) e h)

pub settled_given : (bytes other : List ℕ) (ns ms : List ℤ) (text : List ℕ) (status : Status) → bytes ≡ other → ns ≡ ms → IsSettled bytes ns text status
    → IsSettled other ms text status
settled_given bytes other ns ms text status e f h =
    subst (λ x. IsSettled other x text status) f (subst (λ x. IsSettled x ns text status) e h)

-- the program of a recording is no longer than the recording
text_within : (r : Recorded) (bytes : List ℕ) → recording r ≡ bytes → length r.text ≤ length bytes
text_within r bytes e =
    let n = length-append (ended (lines r)) r.text in
    let m : length (recording r) ≡ length bytes = ap length e in
    omega (arith, n, m)

pub text_few : (r : Recorded) (bytes : List ℕ) → recording r ≡ bytes → length bytes ≤ 1048576 → length r.text ≤ 1048576
text_few r bytes e h = let m = text_within r bytes e in omega (arith, m, h)

-- a program that plays keeps the rules of shape
pub plays_shaped : (bytes : List ℕ) (r : Recorded) (tree : Program) (home : Pos → Pos) → length bytes ≤ 1048576 → Plays bytes r tree home
    → ((text : List ℕ) (tokens : TokenList) (p : Program) → length text ≤ 1048576 → reading text ≡ Whole tokens → IsReading tokens p → is_shaped p ≡ true)
    → is_shaped tree ≡ true
plays_shaped bytes r tree home within p shaped =
    let g = p.good.read in
    shaped g.text g.reads.tokens tree (stands_within r.text g.text home (text_few r bytes p.recorded.whole within) g.stands) g.reads.whole g.reads.read

-- a text is refused, or its count of numbers is, where it is not run
not_run : (a : Answer) (status : Status) → status ≡ answer_status a → (status ≡ Refused) ⊎ (status ≡ Numbers) → ⊥
not_run (Faulted path blame) status e (inl f) = absurd (cc)
not_run (Faulted path blame) status e (inr f) = absurd (cc)
not_run (Cells store) status e (inl f) = absurd (cc)
not_run (Cells store) status e (inr f) = absurd (cc)

settled_as : (bytes : List ℕ) (r : Recorded) (text : List ℕ) (status : Status) → IsRecording bytes r → (status ≡ Refused) ⊎ (status ≡ Numbers)
    → IsAnswered r.text r.numbers r.limit in_order text status → IsReplayed bytes text status
settled_as bytes r text status rec u (answered tree home g n s) = absurd (not_run (moved_answer home (answer (program tree) r.numbers r.limit in_order)) status s.ended u)
settled_as bytes r text status rec u (miscounted tree home g n t s) = uncounted r rec tree home g n t s
settled_as bytes r text status rec u (refused place why f t s) = unfit r rec place why f t s

-- a recording whose text is answered without a run
pub settled_replayed : (bytes : List ℕ) (r : Recorded) (text : List ℕ) (status : Status) → recording r ≡ bytes → IsRecorded r
    → IsSettled r.text r.numbers text status → IsReplayed bytes text status
settled_replayed bytes r text status w f s = settled_as bytes r text status (record { whole = w; fit = f }) s.unrun (s.answered r.limit in_order)

pub formless_is : (bytes : List ℕ) (line : ℕ) (o : Result AnswerOf NoMemory) → BreaksAt line at_head 1 bytes
    → IfOk o (λ a. (a.text.items ≡ form_text line) × (a.status ≡ Replay)) → IfOk o (λ a. IsReplayed bytes a.text.items a.status)
formless_is bytes line (Ok a) b h = formless line b h.0 h.1
formless_is bytes line (Err m) b h = tt
