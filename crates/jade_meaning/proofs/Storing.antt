-- Where the cells are those of a store, an expression comes to what it is worth there.
use Rattle.std.proofs.Common.{◌≡◌, ℕ, Bool, true, false, List, refl, ap, ◌∙◌, Result, Ok, Err}
use Rattle.std.specs.Prelude.{if◌then◌else◌}
use Rattle.jade_base.specs.declared.place.Pos.{Pos}
use Rattle.jade_base.specs.declared.report.FaultKind.TheVariants.{Index, Right as RightFault}
use Rattle.jade_base.specs.declared.report.Blame.{Blame}
use Rattle.jade_base.specs.Rights.{may_read}
use Rattle.jade_syntax.specs.declared.tree.Item.{Item}
use Rattle.jade_syntax.specs.Abstract.{Expression, Whole, Truth, Variable, Group, Signed, Chain, Cell, Links, Last, Link, Place, Alone, Member}
use Rattle.jade_meaning.specs.declared.values.Value.{Value}
use Rattle.jade_meaning.specs.declared.values.Value.TheVariants.{IntOf}
use Rattle.jade_meaning.specs.declared.resolve.ResolvedObject.{ResolvedObject}
use Rattle.jade_meaning.specs.Values.{operated, decides, signed, whole, index_in}
use Rattle.jade_meaning.specs.Specification.{Specification, rights_on}
use Rattle.jade_meaning.specs.Course.{Environment, range_from, place_of}
use Rattle.jade_meaning.specs.Serial.{Store, cell}
use Rattle.jade_meaning.specs.steps.Direct.{◌>>=◌, blamed, blame_at, indexed, member_of, read_of, worth, linked, located}
use Rattle.jade_meaning.specs.steps.Evaluation.{Evaluation, Got, Awaits, Faults, Stored, kept, ◌>>>◌, evaluate, evaluate_links, evaluate_object, evaluate_read}

bind_kept : {A B : Type 0} (r : Result A Blame) (f : A → ℕ → Evaluation B) (g : A → Result B Blame) (n : ℕ) → ((x : A) → f x n ≡ kept (g x) n)
    → (kept r n >>> f) ≡ kept (r >>= g) n
bind_kept (Ok x) f g n h = h x
bind_kept (Err b) f g n h = refl

bind_evaluated : {A B : Type 0} (h : Evaluation A) (r : Result A Blame) (f : A → ℕ → Evaluation B) (g : A → Result B Blame) (n : ℕ) → h ≡ kept r n
    → ((x : A) → f x n ≡ kept (g x) n) → (h >>> f) ≡ kept (r >>= g) n
bind_evaluated h r f g n e k = ap (λ x. x >>> f) e ∙ bind_kept r f g n k

cell_at : (b : Bool) (l : Store) (o c : ℕ) (at : Pos) (n : ℕ) → (if b then (Got (cell l o c) n >>> λ z k. Got (IntOf z) k) else Faults (blame_at RightFault at))
    ≡ kept (if b then Ok (IntOf (cell l o c)) else Err (blame_at RightFault at)) n
cell_at true l o c at n = refl
cell_at false l o c at n = refl

picked_at : (b : Bool) (h k : Evaluation Value) (r q : Result Value Blame) (n : ℕ) → h ≡ kept r n → k ≡ kept q n
    → (if b then h else k) ≡ kept (if b then r else q) n
picked_at true h k r q n e f = e
picked_at false h k r q n e f = f

module _ (items : List Item) (env : Environment) (spec : Specification) (l : Store) where
  mutual
    pub evaluate_is : (e : Expression) (n : ℕ) → evaluate items env spec (Stored l) e n ≡ kept (worth items env spec l e) n
    evaluate_is (Whole z) n = refl
    evaluate_is (Truth b) n = refl
    evaluate_is (Variable x) n = refl
    evaluate_is (Group e) n = evaluate_is e n
    evaluate_is (Signed sign at e) n =
        bind_evaluated (evaluate items env spec (Stored l) e n) (worth items env spec l e) (λ v k. kept (blamed (signed sign v) at) k)
        (λ v. blamed (signed sign v) at) n (evaluate_is e n) (λ v. refl)
    evaluate_is (Chain e links) n =
        bind_evaluated (evaluate items env spec (Stored l) e n) (worth items env spec l e) (λ v k. evaluate_links items env spec (Stored l) links v k)
        (λ v. linked items env spec l links v) n (evaluate_is e n) (λ v. links_is links v n)
    evaluate_is (Cell o e) n =
        let T : ℕ → Evaluation Value = λ k. evaluate items env spec (Stored l) e k in
        let C : ResolvedObject → ℕ → ℕ → Evaluation Value = λ f c h. evaluate_read spec (Stored l) f.number c (place_of o) h in
        let I : ResolvedObject → Value → Result ℕ Blame = λ f i. indexed (index_in (whole i) f.size) Index (place_of o) in
        let R : ResolvedObject → ℕ → Result Value Blame = λ f c. read_of spec l f.number c (place_of o) in
        let g : ResolvedObject → Value → ℕ → Evaluation Value = λ f i j. kept (I f i) j >>> C f in
        let q : ResolvedObject → Value → Result Value Blame = λ f i. I f i >>= R f in
        let cells : (f : ResolvedObject) (c : ℕ) → C f c n ≡ kept (R f c) n = λ f c. cell_at (may_read (rights_on spec f.number)) l f.number c
        (place_of o) n in
        let inner : (f : ResolvedObject) → (T n >>> g f) ≡ kept (worth items env spec l e >>= q f) n = λ f. bind_evaluated (T n) (worth items env spec l e)
        (g f) (q f) n (evaluate_is e n) (λ i. bind_kept (I f i) (C f) (R f) n (cells f)) in
        bind_evaluated (evaluate_object items env spec (Stored l) o n) (located items env spec l o) (λ f k. T k >>> g f) (λ f. worth items env spec l e
        >>= q f) n (place_is o n) inner

    links_is : (links : Links) (v : Value) (n : ℕ) → evaluate_links items env spec (Stored l) links v n ≡ kept (linked items env spec l links v) n
    links_is Last v n = refl
    links_is (Link op at e links) v n =
        let F : Value → ℕ → Evaluation Value = λ w k. kept (blamed (operated op v w) at) k >>> λ u j. evaluate_links items env spec (Stored l) links u j in
        let G : Value → Result Value Blame = λ w. blamed (operated op v w) at >>= λ u. linked items env spec l links u in
        picked_at (decides op v) (Got v n) (evaluate items env spec (Stored l) e n >>> F) (Ok v) (worth items env spec l e >>= G) n refl
        (bind_evaluated (evaluate items env spec (Stored l) e n) (worth items env spec l e) F G n (evaluate_is e n)
        (λ w. bind_kept (blamed (operated op v w) at) (λ u j. evaluate_links items env spec (Stored l) links u j) (λ u. linked items env spec l links u) n
        (λ u. links_is links u n)))

    pub place_is : (o : Place) (n : ℕ) → evaluate_object items env spec (Stored l) o n ≡ kept (located items env spec l o) n
    place_is (Alone x at) n = refl
    place_is (Member x at e) n =
        bind_evaluated (evaluate items env spec (Stored l) e n) (worth items env spec l e) (λ i k. kept (member_of (range_from 0 x items) (whole i) at) k)
        (λ i. member_of (range_from 0 x items) (whole i) at) n (evaluate_is e n) (λ i. refl)

-- what code has evaluated is what it is worth
pub got_is : {A : Type 0} (w : Result A Blame) (v : A) (k n : ℕ) → Got v k ≡ kept w n → Ok v ≡ w
got_is (Ok x) v k n h = cc
got_is (Err b) v k n h = absurd (cc)

pub fault_is : {A : Type 0} (w : Result A Blame) (b : Blame) (n : ℕ) → Faults b ≡ kept w n → Err b ≡ w
fault_is (Ok x) b n h = absurd (cc)
fault_is (Err c) b n h = cc

pub never_awaits : {A : Type 0} (w : Result A Blame) (o c n : ℕ) → Awaits o c ≡ kept w n → ⊥
never_awaits (Ok x) o c n h = cc
never_awaits (Err b) o c n h = cc
