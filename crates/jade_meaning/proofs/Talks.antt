-- What a task says of itself, by its deeds, and with more answers.
use Rattle.std.proofs.Common.{◌≡◌, ℕ, suc, Bool, true, false, List, [], ◌∷◌, ◌++◌, refl, ap, ◌∙◌, Option, Some, None}
use Rattle.std.specs.Prelude.{slice_get, zero, ℤ, is_none, if◌then◌else◌}
use Rattle.std.specs.List.{filter_map, cons_option, flat_map}
use Rattle.std.proofs.lemmas.List.Elements.{filter_map-append}
use Rattle.jade_base.specs.declared.report.Blame.{Blame}
use Rattle.jade_base.specs.declared.rights.Rights.{Rights}
use Rattle.jade_base.specs.declared.rights.Mode.{Mode}
use Rattle.jade_base.specs.Rights.{mode_of, has_rights, same_rights}
use Rattle.jade_meaning.specs.Specification.{Specification, rights_on, objects, commuting_on}
use Rattle.jade_meaning.specs.Course.{Course, Reads, Writes, Steps, Creates, Changes, Ends}
use Rattle.jade_meaning.specs.Talk.{Task, Event, Enter, Enroll, TouchRead, TouchWrite, Wants, Give, Leave, talk, events, Holds, held, when, take_in}
use Rattle.jade_meaning.specs.Talk.{first_take, touched, start_holds, own_last, start_takes, creation_gives, enters, kept, change_gives, shift, shifts}
use Rattle.jade_meaning.specs.Talk.{taken_anew, change_takes, changed, end_gives, end_leaves}
use Rattle.jade_meaning.specs.Serial.{Deed, DidRead, DidWrite, DidCreate, DidEnd, read_of}
use Rattle.jade_meaning.specs.Laws.{deed_of, deeds, ends_with_resign, IsOver, but_turn, DoesIts, Extends, same_events, answered, one_more}

-- events of which no deed tells
abbrev IsQuiet : List Event → Type 0
IsQuiet es = deeds es ≡ []

quiet_front : (es fs : List Event) → IsQuiet es → deeds (es ++ fs) ≡ deeds fs
quiet_front es fs q = filter_map-append deed_of es fs ∙ ap (λ ds. ds ++ deeds fs) q

quiet_both : (es fs : List Event) → IsQuiet es → IsQuiet fs → IsQuiet (es ++ fs)
quiet_both es fs p q = quiet_front es fs p ∙ q

quiet_all : (f : ℕ → List Event) → ((o : ℕ) → IsQuiet (f o)) → (os : List ℕ) → IsQuiet (flat_map f os)
quiet_all f q [] = refl
quiet_all f q (o ∷ os) = quiet_both (f o) (flat_map f os) (q o) (quiet_all f q os)

quiet_when : (b : Bool) (e : Event) → deed_of e ≡ None → IsQuiet (when b e)
quiet_when true e q = ap (λ d. cons_option d []) q
quiet_when false e q = refl

quiet_take : (m : Option Mode) (o : ℕ) → IsQuiet (take_in m o)
quiet_take None o = refl
quiet_take (Some m) o = refl

quiet_if : (b : Bool) (es fs : List Event) → IsQuiet es → IsQuiet fs → IsQuiet (if b then es else fs)
quiet_if true es fs p q = p
quiet_if false es fs p q = q

quiet_first : (spec : Specification) (h : Holds) (o : ℕ) → IsQuiet (first_take spec h o)
quiet_first spec h o = quiet_if (is_none (held h o)) _ _ (quiet_take (mode_of (rights_on spec o)) o) refl

quiet_starts : (spec : Specification) → IsQuiet (start_takes spec)
quiet_starts spec = quiet_all _ (λ o. quiet_take (mode_of (rights_on spec o)) o) (own_last (commuting_on spec) (objects spec))

quiet_creation : (child : Specification) (h : Holds) → IsQuiet (creation_gives child h ++ enters child)
quiet_creation child h =
    quiet_both (creation_gives child h) (enters child) (quiet_all _ (λ o. quiet_when _ (Give o) refl) (objects child))
    (quiet_all _ (λ o. quiet_when _ (Enter o (rights_on child o)) refl) (objects child))

quiet_shift : (old new : Rights) (o : ℕ) → IsQuiet (shift old new o)
quiet_shift old new o = quiet_if (same_rights old new) _ _ refl (quiet_if (has_rights new) _ _ refl refl)

quiet_change : (old new : Specification) (h : Holds) → IsQuiet (change_gives new h ++ shifts old new ++ change_takes old new h)
quiet_change old new h =
    quiet_both (change_gives new h ++ shifts old new) (change_takes old new h) (quiet_both (change_gives new h) (shifts old new)
    (quiet_all _ (λ o. quiet_when _ (Give o) refl) (objects new)) (quiet_all _ (λ o. quiet_shift (rights_on old o) (rights_on new o) o) (objects new)))
    (quiet_all _ (λ o. quiet_if (taken_anew old new h o) _ _ (quiet_take (mode_of (rights_on new o)) o) refl) (objects new))

quiet_end : (spec : Specification) (h : Holds) → IsQuiet (end_gives spec h ++ end_leaves spec)
quiet_end spec h =
    quiet_both (end_gives spec h) (end_leaves spec) (quiet_all _ (λ o. quiet_when _ (Give o) refl) (objects spec))
    (quiet_all _ (λ o. quiet_when _ (Leave o) refl) (objects spec))

-- events that go on to a list that ends with Resign
ends_on' : (es fs : List Event) → ends_with_resign fs ≡ true → ends_with_resign (es ++ fs) ≡ true
ends_on' [] fs h = h
ends_on' (e ∷ []) (f ∷ fs) h = h
ends_on' (e ∷ g ∷ es) fs h = ends_on' (g ∷ es) fs h
ends_on' (e ∷ []) [] h = absurd (cc)

ends_on : (es : List Event) {fs : List Event} → IsOver fs → IsOver (es ++ fs)
ends_on es {fs} h = record { over = ends_on' es fs h.over }

-- a course, with n steps of its part begun, does these deeds where its reads are answered by theirs
pub record Says (c : Course) (n : ℕ) (ds : List Deed) : Type 0 where
  pub same : (spec : Specification) (h : Holds) → deeds (events c spec h n (filter_map read_of ds)) ≡ filter_map but_turn ds
  pub over : (spec : Specification) (h : Holds) → IsOver (events c spec h n (filter_map read_of ds))

pub read_says : (o c : ℕ) (v : ℤ) (on : ℤ → Course) (n : ℕ) (ds : List Deed) → Says (on v) n ds → Says (Reads o c on) n (DidRead o c v ∷ ds)
read_says o c v on n ds h = record {
  same = λ spec l. quiet_front (first_take spec l o) _ (quiet_first spec l o) ∙ ap (λ x. DidRead o c v ∷ x) (h.same spec (touched spec l o));
  over = λ spec l. ends_on (first_take spec l o) (ends_on (TouchRead o c v ∷ []) (h.over spec (touched spec l o)));
}

pub write_says : (o c : ℕ) (v : ℤ) (on : Course) (n : ℕ) (ds : List Deed) → Says on n ds → Says (Writes o c v on) n (DidWrite o c v ∷ ds)
write_says o c v on n ds h = record {
  same = λ spec l. quiet_front (first_take spec l o) _ (quiet_first spec l o) ∙ ap (λ x. DidWrite o c v ∷ x) (h.same spec (touched spec l o));
  over = λ spec l. ends_on (first_take spec l o) (ends_on (TouchWrite o c v ∷ []) (h.over spec (touched spec l o)));
}

pub step_says : (on : Course) (n : ℕ) (ds : List Deed) → Says on (suc n) ds → Says (Steps on) n ds
step_says on n ds h = record { same = h.same; over = h.over }

pub create_says : (child : Specification) (body on : Course) (n : ℕ) (ds : List Deed) → Says on 0 ds
    → Says (Creates child body on) n (DidCreate (record { spec = child; course = body }) n ∷ ds)
create_says child body on n ds h =
    let t : Task = record { spec = child; course = body } in
    record {
      same = λ spec l. quiet_front (creation_gives child l ++ enters child) _ (quiet_creation child l)
          ∙ ap (λ x. DidCreate t n ∷ x) (h.same spec (kept child l));
      over = λ spec l. ends_on (creation_gives child l ++ enters child) (ends_on (Enroll t n ∷ []) (h.over spec (kept child l)));
    }

pub change_says : (new : Specification) (on : Course) (n : ℕ) (ds : List Deed) → Says on n ds → Says (Changes new on) n ds
change_says new on n ds h = record {
  same = λ spec l. quiet_front (change_gives new l ++ shifts spec new ++ change_takes spec new l) _ (quiet_change spec new l)
      ∙ h.same new (changed spec new l);
  over = λ spec l. ends_on (change_gives new l ++ shifts spec new ++ change_takes spec new l) (h.over new (changed spec new l));
}

pub end_says : (b : Option Blame) (n : ℕ) → Says (Ends b) n (DidEnd b n ∷ [])
end_says b n = record {
  same = λ spec l. quiet_front (end_gives spec l ++ end_leaves spec) _ (quiet_end spec l);
  over = λ spec l. ends_on (end_gives spec l ++ end_leaves spec) (record { over = refl });
}

-- then the task says so from its start on
pub does_its : (t : Task) (ds : List Deed) → Says t.course 0 ds → DoesIts ds t
does_its t ds h = record {
  same = quiet_front (start_takes t.spec) _ (quiet_starts t.spec) ∙ h.same t.spec (start_holds t.spec);
  over = ends_on (start_takes t.spec) (h.over t.spec (start_holds t.spec));
}

-- more answers
extends_front : (es : List Event) {fs gs : List Event} → Extends fs gs → Extends (es ++ fs) (es ++ gs)
extends_front [] x = x
extends_front (e ∷ es) x = one_more (extends_front es x)

more : (c : Course) (spec : Specification) (h : Holds) (n : ℕ) (vs ws : List ℤ) → Extends (events c spec h n vs) (events c spec h n (vs ++ ws))
more (Reads o c on) spec h n [] [] = same_events
more (Reads o c on) spec h n [] (w ∷ ws) = extends_front (first_take spec h o) (answered w)
more (Reads o c on) spec h n (v ∷ vs) ws =
    extends_front (first_take spec h o) (one_more (more (on v) spec (touched spec h o) n vs ws))
more (Writes o c v on) spec h n vs ws = extends_front (first_take spec h o) (one_more (more on spec (touched spec h o) n vs ws))
more (Steps on) spec h n vs ws = more on spec h (suc n) vs ws
more (Creates child body on) spec h n vs ws =
    extends_front (creation_gives child h ++ enters child) (one_more (more on spec (kept child h) 0 vs ws))
more (Changes new on) spec h n vs ws =
    extends_front (change_gives new h ++ shifts spec new ++ change_takes spec new h) (more on new (changed spec new h) n vs ws)
more (Ends blame) spec h n vs ws = same_events

pub more_answers : (t : Task) (vs ws : List ℤ) → Extends (talk t vs) (talk t (vs ++ ws))
more_answers t vs ws = extends_front (start_takes t.spec) (more t.course t.spec (start_holds t.spec) 0 vs ws)

-- an event that is there stays where it is, unless it is a read with no answer
abbrev is_wanting : Event → Bool
is_wanting (Wants o c) = true
is_wanting _ = false

stays : (es fs : List Event) → Extends es fs → (n : ℕ) (e : Event) → is_wanting e ≡ false → slice_get es n ≡ Some e → slice_get fs n ≡ Some e
stays es fs same_events n e w h = h
stays (e ∷ es) (e' ∷ fs) (one_more x) zero f w h = h
stays (e ∷ es) (e' ∷ fs) (one_more x) (suc n) f w h = stays es fs x n f w h
stays (g ∷ es) (e' ∷ fs) (answered {o = o} {c = c} v) zero e w h =
    let q : Wants o c ≡ e = cc in let f : true ≡ false = ap is_wanting q ∙ w in absurd (cc)
stays (g ∷ es) (e' ∷ fs) (answered v) (suc n) e w h = absurd (cc)
