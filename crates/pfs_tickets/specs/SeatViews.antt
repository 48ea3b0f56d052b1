-- What contracts see of a seat, and what holds of it between calls.
use Rattle.std.specs.Prelude.{◌≡◌, true, List, [], ◌∷◌}
use Rattle.atomic_table.specs.Seated.{TableId}
use Rattle.pfs_tickets.specs.declared.view.View.{View}
use Rattle.pfs_tickets.specs.Knowledge.{spent}

-- which tickets a seat is of, and what it knows
pub record Known : Type 0 where
  pub tickets : TableId
  pub view : View

abbrev pub known : TableId → View → Known
known z v = record { tickets = z; view = v }

abbrev pub first_view : List View → View
first_view [] = spent
first_view (v ∷ vs) = v

pub record IsSized (z : TableId) : Type 0 where
  pub words : z.words ≡ 4
  pub slots : z.slots ≡ 0

pub record IsReady (views : List View) : Type 0 where
  pub one : views ≡ first_view views ∷ []
  pub live : (first_view views).live ≡ true
