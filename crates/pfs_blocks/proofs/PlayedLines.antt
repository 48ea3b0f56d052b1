-- Lines that were played as what is asked of their session.
use Rattle.std.proofs.Common.{false, List, map, Result, Ok, Err, OnOk}
use Rattle.pfs_admin.specs.declared.changes.Change.{Change}
use Rattle.pfs_board.specs.declared.view.Label.{Label}
use Rattle.pfs_classes.specs.declared.setting.Setting.{Setting}
use Rattle.pfs_levels.specs.Calls.{Call, Opening}
use Rattle.pfs_play.specs.Errands.{HavePlayed, asks_on}
use Rattle.pfs_runs.specs.SelectAnswers.{Answer, selection_on}
use Rattle.pfs_script.specs.declared.blocks.BlockLine.{BlockLine}
use Rattle.pfs_session.specs.SessionStates.{Book}
use Rattle.pfs_blocks.specs.PlayedBlocks.{HasMet}

pub met_lines : (setting fixed : Setting) (change : Label → Change) (lines : List BlockLine) (old new : Book) (answers behind : List Answer) (was now : Opening → List Call → Type 0) → HavePlayed setting fixed change lines old new answers behind was now
    → HasMet setting fixed change (map selection_on lines) (asks_on lines) false old new answers behind was now
met_lines setting fixed change lines old new answers behind was now p = record {
  parts = p.parts;
  asked = p.asked;
  may = p.may;
  over_is = p.goes_on;
  given = p.given;
  given_are = p.given_are;
  answered = p.answered;
  done = p.done;
}
