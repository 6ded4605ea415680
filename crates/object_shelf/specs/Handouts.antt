-- What a task is answered that asks for the content of an object.
use Rattle.std.specs.Prelude.{◌≡◌, ℕ, List, Some, None}
use Rattle.jade_base.specs.declared.rights.Mode.{Mode}
use Rattle.object_shelf.specs.declared.queue.Entry.{Entry}
use Rattle.object_shelf.specs.declared.handout.Handout.{Handout}
use Rattle.object_shelf.specs.declared.handout.Handout.TheVariants.{Content, Kept, Nothing}
use Rattle.object_shelf.specs.Views.{ShelfView}
use Rattle.object_shelf.specs.Shelves.{keeper_in}
use Rattle.object_shelf.specs.Homes.{hand_in, handed}

-- the content is handed out where no entry keeps the task from it; else an entry does, or there is nothing to hand out, and the object stays
abbrev pub HandsOut : ShelfView → List ℕ → Mode → Handout → ShelfView → Type 0
HandsOut s p m (Content c) t = (keeper_in p m s.queue ≡ None) × (hand_in p m s ≡ Some c.cells) × (c.mode ≡ m) × (t ≡ handed p m s)
HandsOut s p m (Kept q) t = (t ≡ s) × (e : Entry) × (keeper_in p m s.queue ≡ Some e) × (q ≡ e.path)
HandsOut s p m Nothing t = (t ≡ s) × (keeper_in p m s.queue ≡ None) × (hand_in p m s ≡ None)
