-- When groups are settled, on small courses, each by two turn lists.
use Rattle.std.specs.Prelude.{◌≡◌, ℕ, true, false, List, [], ◌∷◌, None, Some, Option, pos, ◌+ℤ◌, is_some, nat_eq, if◌then◌else◌, refl}
use Rattle.jade_base.specs.declared.rights.Right.TheVariants.{Absent, Deferred, Immediate}
use Rattle.jade_base.specs.declared.rights.Rights.{Rights}
use Rattle.jade_base.specs.Rights.{no_rights, both_rights}
use Rattle.jade_meaning.specs.Specification.{Specification}
use Rattle.jade_meaning.specs.Course.{Course, Reads, Writes, Creates, Changes, Ends}
use Rattle.jade_meaning.specs.Serial.{Path, Store}
use Rattle.jade_meaning.specs.Turns.{World, run, settle_all, in_order}
use Rattle.turn_laws.specs.Spending.{Lists, Spent, and_then, run_spending, spend_all}

-- two objects of one cell, s with 1 in it and t with 0
abbrev opening : World
opening = record { store = (pos 1 ∷ []) ∷ (pos 0 ∷ []) ∷ []; waiting = [] }

abbrev all_rights : Specification
all_rights = both_rights ∷ both_rights ∷ []

-- the contents after the root has done this, all groups settled
abbrev contents : Lists → Course → Store
contents turns c =
    let r = run turns (0 ∷ []) all_rights c 0 0 opening in
    (settle_all turns (0 ∷ 1 ∷ []) r.world).world.store

-- rights on one object
abbrev reading : Rights
reading = record { reads = Immediate; writes = Absent; commutes = Absent }

abbrev reading_later : Rights
reading_later = record { reads = Deferred; writes = Absent; commutes = Absent }

abbrev commuting : Rights
commuting = record { reads = Absent; writes = Absent; commutes = Immediate }

-- tasks that commute on s: one doubles its cell, the other adds 3
abbrev doubles : Course
doubles = Reads 0 0 (λ v. Writes 0 0 (v +ℤ v) (Ends None))

abbrev adds : Course
adds = Reads 0 0 (λ v. Writes 0 0 (v +ℤ pos 3) (Ends None))

abbrev doubling : Course → Course
doubling on = Creates (commuting ∷ no_rights ∷ []) doubles on

abbrev adding : Course → Course
adding on = Creates (commuting ∷ no_rights ∷ []) adds on

-- the child of this number has its turn on s first
abbrev first_is : ℕ → Lists
first_is k o = if nat_eq o 0 then (0 ∷ k ∷ []) ∷ [] else []

-- what s and t have
abbrev cells : (s t : ℕ) → Store
cells s t = (pos s ∷ []) ∷ (pos t ∷ []) ∷ []

-- a group is settled at the end
at_the_end : contents in_order (doubling (adding (Ends None))) ≡ cells 5 0
at_the_end = refl

at_the_end_other_way : contents (first_is 1) (doubling (adding (Ends None))) ≡ cells 8 0
at_the_end_other_way = refl

-- a group is settled at an access
abbrev then_copies : Course
then_copies = doubling (adding (Reads 0 0 (λ v. Writes 1 0 v (Ends None))))

at_an_access : contents in_order then_copies ≡ cells 5 5
at_an_access = refl

at_an_access_other_way : contents (first_is 1) then_copies ≡ cells 8 8
at_an_access_other_way = refl

-- a group is settled where a task begins that may read s at once, though it does not: what comes later is another group
abbrev reader_between : Rights → Course
reader_between a = doubling (Creates (a ∷ no_rights ∷ []) (Ends None) (adding (Ends None)))

at_a_begin : contents in_order (reader_between reading) ≡ cells 5 0
at_a_begin = refl

at_a_begin_other_way : contents (first_is 2) (reader_between reading) ≡ cells 5 0
at_a_begin_other_way = refl

-- a task that may only read it later settles nothing
not_at_a_begin : contents in_order (reader_between reading_later) ≡ cells 5 0
not_at_a_begin = refl

not_at_a_begin_other_way : contents (first_is 2) (reader_between reading_later) ≡ cells 8 0
not_at_a_begin_other_way = refl

-- it does once a change makes its right immediate
abbrev change_between : Course
change_between =
    doubling (Creates (reading_later ∷ no_rights ∷ []) (Changes (reading ∷ no_rights ∷ []) (Ends None)) (adding (Ends None)))

at_a_change : contents in_order change_between ≡ cells 5 0
at_a_change = refl

at_a_change_other_way : contents (first_is 2) change_between ≡ cells 5 0
at_a_change_other_way = refl

-- a group is settled where a task that commutes on t is created which reads s: it keeps what s has then
abbrev commutes_between : Course
commutes_between =
    doubling (Creates (reading ∷ commuting ∷ []) (Reads 0 0 (λ v. Writes 1 0 v (Ends None))) (adding (Ends None)))

where_a_member_reads : contents in_order commutes_between ≡ cells 5 2
where_a_member_reads = refl

where_a_member_reads_other_way : contents (first_is 2) commutes_between ≡ cells 5 2
where_a_member_reads_other_way = refl

-- and sees that at its turn, though s is written before
abbrev written_before : Course
written_before =
    Creates (reading ∷ commuting ∷ []) (Reads 0 0 (λ v. Reads 1 0 (λ z. Writes 1 0 (v +ℤ z) (Ends None))))
    (Creates (no_rights ∷ commuting ∷ []) (Reads 1 0 (λ z. Writes 1 0 (z +ℤ z) (Ends None))) (Writes 0 0 (pos 7) (Ends None)))

abbrev second_on_t : Lists
second_on_t o = if nat_eq o 1 then (0 ∷ 1 ∷ []) ∷ [] else []

kept_contents : contents in_order written_before ≡ cells 7 2
kept_contents = refl

kept_contents_other_way : contents second_on_t written_before ≡ cells 7 1
kept_contents_other_way = refl

-- lists that are used up
abbrev spends : Lists → Course → Option Spent
spends turns c = and_then (run_spending (0 ∷ []) all_rights c 0 0 opening turns) (spend_all (0 ∷ 1 ∷ []))

abbrev whole_list : Lists
whole_list o = if nat_eq o 0 then (0 ∷ 1 ∷ []) ∷ (0 ∷ 0 ∷ []) ∷ [] else []

abbrev left_on_s : Option Spent → List Path
left_on_s None = []
left_on_s (Some r) = r.left 0

abbrev store_of : Option Spent → Store
store_of None = []
store_of (Some r) = r.ran.world.store

a_whole_list : is_some (spends whole_list (doubling (adding (Ends None)))) ≡ true
a_whole_list = refl

nothing_is_left : left_on_s (spends whole_list (doubling (adding (Ends None)))) ≡ []
nothing_is_left = refl

by_a_whole_list : store_of (spends whole_list (doubling (adding (Ends None)))) ≡ cells 8 0
by_a_whole_list = refl

-- a list that is short, and one whose next entries are no arrangement of the group
a_short_list : is_some (spends (first_is 1) (doubling (adding (Ends None)))) ≡ false
a_short_list = refl

too_early : is_some (spends whole_list (doubling (Reads 0 0 (λ v. adding (Ends None))))) ≡ false
too_early = refl
