-- Which rows a seat has in hand after a call. No call but split and join changes its stake.
use Rattle.std.specs.Prelude.{◌≡◌, ℕ, ◌+◌, ◌/◌, []}
use Rattle.pfs_board.specs.declared.answers.Taken.{Taken}
use Rattle.pfs_board.specs.declared.answers.Taken.TheVariants.{Mine, Busy}
use Rattle.pfs_board.specs.declared.view.Stage.TheVariants.{Idle, Holding}
use Rattle.pfs_board.specs.declared.view.View.{View}
use Rattle.pfs_board.specs.Knowledge.{corner, held, stake}

-- the row is in no hand of this seat's, and as many others are as before
abbrev pub IsAside : View → ℕ → View → Type 0
IsAside v r w = ((corner w r).stage ≡ Idle) × (held w.rows ≡ held v.rows) × (stake w ≡ stake v)

-- a take that worked has one row more in hand, at the version found and with the content found
abbrev pub IsHandTaken : View → ℕ → Taken → View → Type 0
IsHandTaken v r (Mine word content) w = ((corner w r).stage ≡ Holding (word / 4) content [])
    × (held w.rows ≡ held v.rows + 1) × (stake w ≡ stake v)
IsHandTaken v r (Busy first second) w = IsAside v r w

-- the row left the hand
abbrev pub IsLetGo : View → ℕ → View → Type 0
IsLetGo v r w = ((corner w r).stage ≡ Idle) × (held w.rows + 1 ≡ held v.rows) × (stake w ≡ stake v)
