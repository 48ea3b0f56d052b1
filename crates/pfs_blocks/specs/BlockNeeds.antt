-- What a block needs of its session and of its actor, and what it uses up of these at most.
use Rattle.std.specs.Prelude.{ℕ, ◌≡◌, ◌≤◌, ◌+◌, ◌*◌, List, length}
use Rattle.pfs_levels.specs.Views.{Store, Used}
use Rattle.pfs_play.specs.Errands.{actions_on, cost_on}
use Rattle.pfs_play.specs.Needs.{Need}
use Rattle.pfs_script.specs.declared.blocks.Block.{Block}
use Rattle.pfs_script.specs.declared.blocks.BlockLine.{BlockLine}
use Rattle.pfs_script.specs.Marks.{written_out}
use Rattle.pfs_session.specs.SessionStates.{Book}

-- of lines with each repeat written out, and a quit behind them
abbrev pub need_to_end : List BlockLine → Need
need_to_end lines = record {
  numbers = length (written_out lines);
  actions = actions_on (written_out lines) + 1;
  spare = 11 * length (written_out lines) + 20192 * actions_on (written_out lines) + 446;
  tickets = 2 * length (written_out lines);
  entries = cost_on (written_out lines) + 448;
}

-- of a whole block, with its connect, its lines, its quit, and what is settled at its end
abbrev pub need_of_block : Block → Need
need_of_block block = record {
  numbers = length (written_out block.lines);
  actions = actions_on (written_out block.lines) + 2;
  spare = 11 * length (written_out block.lines) + 20192 * actions_on (written_out block.lines) + 644;
  tickets = 2 * length (written_out block.lines);
  entries = cost_on (written_out block.lines) + 648;
}

-- a session went on by no more than that: it keeps its number and the depth that it was opened with
pub record Within (need : Need) (old new : Book) (was now : Store) : Type 0 where
  pub drawn : new.state.drawn ≤ old.state.drawn + need.numbers
  pub actions : new.state.actions ≤ old.state.actions + need.actions
  pub number : new.state.number ≡ old.state.number
  pub depth : new.state.opened.depth ≡ old.state.opened.depth
  pub used : Used need.spare need.tickets need.entries was now old.journal new.journal
