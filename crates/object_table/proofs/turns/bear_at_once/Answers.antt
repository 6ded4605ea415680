use Rattle.std.proofs.Common.{rules, ◌≡◌, ◌-◌, ◌++◌, ◌∷◌, [], None, sym, ap, ◌∙◌, subst, arith}
use Rattle.atomic_table.specs.declared.shared.Seat.{Seat as SeatOf}
use Rattle.jade_meaning.specs.Talk.{Enroll}
use Rattle.schedule_core.specs.Plain.{Born}
use Rattle.object_table.specs.Views.{View}
use Rattle.object_table.specs.Plays.{OwnEvent}
use Rattle.object_table.specs.steps.Kept.{shown}
use Rattle.object_table.specs.declared.slot.Slot.{Slot}
use Rattle.object_table.proofs.RollCalls.{may_enroll, enrolled_is, enrolled_rests, enrolled_shown, enrolled_spent}
use Rattle.object_table.proofs.turns.bear_at_once.Goals as goal

pub load-requires : goal.load-requires
load-requires c =
    let words = c.args.words.now in
    let wide = c.requires.laid.wide in
    let deep = c.requires.laid.deep in
    let next = c.requires.next in (
      c.requires.mark,
      omega (arith, wide, deep),
      may_enroll c.args.task.now c.requires.rests words.key (c.core_laws.ensures words.key) words.table_id.slots next.0 c.args.steps next.1 c.requires.rich
          c.args.task.now.seat.id,
    )

pub returns-clause-rests : goal.returns-clause-rests
returns-clause-rests c =
    let words = c.args.words.now in
    let t = c.args.task.now in
    let r = c.requires.rests in
    let next = c.requires.next in
    let s = c.settle.ensures in
    let e = enrolled_is t r words.key (c.core_laws.ensures words.key) words.table_id.slots next.0 c.args.steps next.1 c.requires.rich c.load.result
    c.load.new.seat.me c.load.ensures.2 in
    let rich = c.requires.rich in
    let same = s.purse.0 in
    enrolled_rests t r words.key (c.core_laws.ensures words.key) words.table_id.slots next.0 c.args.steps next.1 rich _ e.0
    (subst (λ (q : SeatOf Slot View). Born (shown t).seat e.0 q.me.0.seat) (sym s.seat) e.1) (ap (λ (q : SeatOf Slot View). q.me) s.seat ∙ e.2) s.events
    s.path.0 s.spare c.requires.count s.path.2 (omega (arith, rich, same)) (s.purse.1 ∙ added)
  where
    added : c.add.new.self ≡ c.args.task.now.notes
        ++ record { path = c.args.task.now.path; children = c.args.task.now.children; steps = c.args.steps; blame = None } ∷ []
    added = search rules

pub returns-clause-done : goal.returns-clause-done
returns-clause-done c =
    let words = c.args.words.now in
    let t = c.args.task.now in
    let r = c.requires.rests in
    let next = c.requires.next in
    let s = c.settle.ensures in
    let e = enrolled_is t r words.key (c.core_laws.ensures words.key) words.table_id.slots next.0 c.args.steps next.1 c.requires.rich c.load.result
    c.load.new.seat.me c.load.ensures.2 in
    enrolled_shown t r words.key (c.core_laws.ensures words.key) words.table_id.slots next.0 c.args.steps next.1 c.requires.rich
    (record c.settle.new.task { tickets = c.settle.new.task.tickets - 1; children = c.args.children }) e.0
    (subst (λ (q : SeatOf Slot View). Born (shown t).seat e.0 q.me.0.seat) (sym s.seat) e.1) (ap (λ (q : SeatOf Slot View). q.me) s.seat ∙ e.2) s.events
    (subst (λ (q : SeatOf Slot View). OwnEvent (Enroll next.0 c.args.steps) (shown t) (e.0 ∷ (q.me.0.seat ∷ []))) (sym s.seat) e.4)

pub returns-clause-spent : goal.returns-clause-spent
returns-clause-spent c =
    let words = c.args.words.now in
    let t = c.args.task.now in
    let r = c.requires.rests in
    let next = c.requires.next in
    let s = c.settle.ensures in
    let e = enrolled_is t r words.key (c.core_laws.ensures words.key) words.table_id.slots next.0 c.args.steps next.1 c.requires.rich c.load.result
    c.load.new.seat.me c.load.ensures.2 in
    enrolled_spent t r words.key (c.core_laws.ensures words.key) words.table_id.slots next.0 c.args.steps next.1 c.requires.rich
    (record c.settle.new.task { tickets = c.settle.new.task.tickets - 1; children = c.args.children }) e.0
    (subst (λ (q : SeatOf Slot View). Born (shown t).seat e.0 q.me.0.seat) (sym s.seat) e.1) (ap (λ (q : SeatOf Slot View). q.me) s.seat ∙ e.2) s.events
