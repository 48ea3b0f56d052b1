-- A seat that was just split off is fresh, and has each row of the root's.
use Rattle.std.proofs.Common.{ℕ, ◌≡◌, length, refl, ap}
use Rattle.std.proofs.lemmas.List.{length-map}
use Rattle.std.proofs.Math.ListN as math
use Rattle.pfs_board.specs.declared.view.Corner.{Corner}
use Rattle.pfs_board.specs.declared.view.Stage.TheVariants.{Idle}
use Rattle.pfs_board.specs.declared.view.View.{View}
use Rattle.pfs_board.specs.SeatViews.{given, split_off}
use Rattle.pfs_board.specs.Knowledge.{corner, newcomer}
use Rattle.pfs_board_store.specs.ActorCalls.{IsFresh}
use Rattle.pfs_board_store.proofs.ActionCalls.{stale_one}

abbrev idle_one : Corner → Corner
idle_one c = record newcomer { seen = c.seen }

idle_given : (v : View) (a r : ℕ) → (corner (given v a) r).stage ≡ Idle
idle_given v a r = ap (λ (c : Corner). c.stage) (math.get_or-map idle_one v.rows r newcomer)

pub fresh_given : (v : View) (a : ℕ) → IsFresh (given v a)
fresh_given v a = record { action = refl; after = refl; label = refl; lent = refl; idle = idle_given v a; made = refl; reads = refl; sights = refl }

pub length_given : (v : View) (a : ℕ) → length (given v a).rows ≡ length v.rows
length_given v a = length-map v.rows idle_one

pub length_off : (v : View) (a : ℕ) → length (split_off v a).rows ≡ length v.rows
length_off v a = length-map v.rows stale_one
