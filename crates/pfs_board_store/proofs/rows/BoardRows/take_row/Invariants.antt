use Rattle.std.proofs.Common.{◌≡◌, ◌-◌, ◌++◌, ℕ, List}
use Rattle.pfs_board.specs.declared.view.Sight.{Sight}
use Rattle.pfs_board.specs.History.{Each}
use Rattle.pfs_board.specs.Knowledge.{corner, held}
use Rattle.pfs_levels.specs.Calls.{Call, Start, action_in, after_in}
use Rattle.pfs_board_store.specs.ActorCalls.{OnBoard, in_hand}
use Rattle.pfs_board_store.specs.Ties.{IsSighted}
use Rattle.pfs_board_store.proofs.rows.BoardRows.take_row.Given as goal

abbrev pub invariant-loop : goal.invariant-loop
invariant-loop g l = record {
  can : (goal.iterator-loop g).can_next l.iterator' × (goal.iterator-loop g).is_finite l.iterator';
  board : l.self.board.now.id ≡ l.fn.self.board.now.id;
  switches : l.self.switches.now.id ≡ l.fn.self.switches.now.id;
  tickets : l.self.tickets.now ≡ l.fn.self.tickets.now;
  words : l.self.words ≡ l.fn.self.words;
  draws : l.self.draws ≡ l.fn.self.draws;
  hand : (r : ℕ) → in_hand (corner l.self.seat.view r).stage ≡ in_hand (corner l.fn.self.seat.view r).stage;
  left : l.self.seat.view.allowance - held l.self.seat.view.rows ≡ l.fn.self.seat.view.allowance - held l.fn.self.seat.view.rows;
  reads : l.self.seat.view.reads ≡ l.fn.self.seat.view.reads;
  tries : (start : Start) (calls : List Call) → OnBoard start calls l.fn.self.seat.view → (seen : List Sight) × (l.self.seat.view.sights ≡ seen ++ l.fn.self.seat.view.sights)
      × Each (λ (x : Sight). IsSighted start l.row x.first x.second (action_in calls) (after_in calls) x) seen;
  reached : (start : Start) (calls : List Call) → OnBoard start calls l.fn.self.seat.view → OnBoard start calls l.self.seat.view;
}
