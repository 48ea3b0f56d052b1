-- The end of a phase, as the root of a run settles it.
use Rattle.std.specs.Prelude.{ℕ, ◌≡◌, List, [], ◌∷◌, length}
use Rattle.atomic_table.specs.Seated.{TableId}
use Rattle.pfs_admin.specs.declared.changes.Change.{Change}
use Rattle.pfs_board.specs.declared.view.Label.{Label}
use Rattle.pfs_board_store.specs.ActorCalls.{opening_of}
use Rattle.pfs_board_store.specs.RootActors.{AreGathered, Worked}
use Rattle.pfs_classes.specs.declared.setting.Setting.{Setting}
use Rattle.pfs_containers.specs.ContainerState.{lost_in}
use Rattle.pfs_containers.specs.declared.containers.Lost.{Lost}
use Rattle.pfs_law_board.specs.PhaseEnds.{BeganBehind, PhaseEnd}
use Rattle.pfs_levels.specs.Calls.{Meets, Opening}
use Rattle.pfs_switches.specs.Knowledge.{met}
use Rattle.pfs_switches.specs.declared.view.View.{View as WordView}
use Rattle.pfs_board_root.specs.Roots.{HasKept, RootView, opening_at}

-- where the root itself begins, as an actor of its own seats, of number 0
abbrev pub own_opening : List ℕ → RootView → Opening
own_opening flags r = opening_of r.board r.switches r.tickets flags r.seat r.words r.draws

-- it met the writer of the words, who knew them so, and made no other call
abbrev pub own_meet : List ℕ → RootView → WordView → Worked
own_meet flags r pen = record { start = own_opening flags r; calls = Meets pen.seen ∷ [] }

-- The root, which had taken in these actors, was told all that the phase's end tells, and what found no place so far.
-- It is as it was, has met the writer, which makes one actor more of it, and has seen each word where the writer left
-- it
pub record HasSettled (setting : Setting) (change : Label → Change) (flags : List ℕ) (run : TableId)
    (actors : List Worked) (lost : Lost) (old new : RootView) : Type 0 where
  pub ended : PhaseEnd setting change run old.seat.start actors
  pub seat_was : ended.seat ≡ old.seat
  pub words_were : ended.known ≡ old.words
  pub draws_were : ended.draws ≡ old.draws
  pub lost_are : lost ≡ lost_in ended.admin.kept.now
  pub board : new.board ≡ old.board
  pub switches : new.switches ≡ old.switches
  pub tickets : new.tickets ≡ old.tickets
  pub seat : new.seat ≡ old.seat
  pub words : new.words ≡ met old.words ended.pen.view
  pub draws : new.draws ≡ old.draws
  pub gathered : AreGathered (own_meet flags old ended.pen.view ∷ actors) new.seat new.words new.draws

-- an actor that was split off a root that has settled, and has kept to its words, began behind that end
abbrev pub BeganLaw : Type 0
BeganLaw = (setting : Setting) (change : Label → Change) (flags : List ℕ) (run : TableId) (actors : List Worked)
    (lost : Lost) (old new : RootView) (s : HasSettled setting change flags run actors lost old new)
    (publications draws n : ℕ) (seen : List ℕ) (w : Worked) → w.start ≡ opening_at flags new publications draws n
    → HasKept setting change seen w → BeganBehind (length s.ended.seat.made) s.ended.pen.view.seen w
