-- What a session does at a block of a script.
use Rattle.std.specs.Prelude.{ℕ, ◌≡◌, Bool, true, false, List, [], ◌++◌, map, Option, None}
use Rattle.pfs_actor.specs.ActorDeeds.{HasDone}
use Rattle.pfs_admin.specs.AdministrationStates.{State as Administration}
use Rattle.pfs_admin.specs.declared.changes.Change.{Change}
use Rattle.pfs_board.specs.declared.view.Label.{Label}
use Rattle.pfs_classes.specs.declared.setting.Setting.{Setting}
use Rattle.pfs_law_script.specs.Course.{asks_of}
use Rattle.pfs_event.specs.declared.kind.EventKind.{EventKind}
use Rattle.pfs_law_plain.specs.ToldAnswers.{Answers}
use Rattle.pfs_levels.specs.Calls.{Call, Opening}
use Rattle.pfs_law_session.specs.Deeds.{Deed, Part}
use Rattle.pfs_law_session.specs.JournalLaws.{MayDoAll, over_behind}
use Rattle.pfs_play.specs.Errands.{AreFor, asks_on, kinds_after}
use Rattle.pfs_play.specs.Repeats.{AllMayPlay}
use Rattle.pfs_law_script.specs.PlayableBlocks.{end_of}
use Rattle.pfs_runs.specs.SelectAnswers.{Answer, Selection, AreAnswers, selection_on, selections_in}
use Rattle.pfs_script.specs.declared.blocks.Block.{Block}
use Rattle.pfs_script.specs.declared.blocks.BlockLine.{BlockLine}
use Rattle.pfs_script.specs.Marks.{written_out}
use Rattle.pfs_session.specs.SessionStates.{Book}

-- a session did parts that do what is asked, which it might do, and nothing else, in a run that fixes this and changes
-- that; `over` says whether it is over then. The answers of its SELECTs, in this setting, stand behind those before
pub record HasMet (setting fixed : Setting) (change : Label → Change) (selections : List (Option Selection))
    (asks : List (Administration → Deed)) (over : Bool) (old new : Book) (before after : List Answer) (was now : Opening
    → List Call → Type 0) : Type 0 where
  pub parts : List Part
  pub asked : AreFor asks parts
  pub may : MayDoAll false old.state parts
  pub over_is : over_behind false parts ≡ over
  pub given : List Answer
  pub given_are : after ≡ before ++ given
  pub answered : AreAnswers (Answers setting) selections parts given
  pub done : HasDone fixed change parts old new was now

-- it did its lines with each repeat written out, and is over or isn't
pub record HasEnded (setting fixed : Setting) (change : Label → Change) (lines : List BlockLine) (old new : Book)
    (answers behind : List Answer) (was now : Opening → List Call → Type 0) : Type 0 where
  pub over : Bool
  pub did : HasMet setting fixed change (map selection_on (written_out lines)) (asks_on (written_out lines)) over old
      new answers behind was now

-- and it did a whole block
pub record HasPlayed (setting fixed : Setting) (change : Label → Change) (block : Block) (old new : Book)
    (answers behind : List Answer) (was now : Opening → List Call → Type 0) : Type 0 where
  pub over : Bool
  pub did : HasMet setting fixed change (selections_in block) (asks_of block.connect (written_out block.lines)) over
      old new answers behind was now

-- the lines of a block may be played and then end the session: all but a quit may be played as they stand, and at a quit
-- nothing is open
pub record MayEnd (depth : ℕ) (kinds : List EventKind) (lines : List BlockLine) : Type 0 where
  pub body : List BlockLine
  pub quits : Bool
  pub are : lines ≡ body ++ end_of quits
  pub may : AllMayPlay 62 depth kinds None body
  pub closed : quits ≡ true → kinds_after kinds (written_out body) ≡ []
