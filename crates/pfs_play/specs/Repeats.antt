-- The lines of a block with their repeats, as they may be played.
use Rattle.std.specs.Prelude.{ℕ, ◌≡◌, List, [], ◌∷◌, ◌++◌, Option, Some, None}
use Rattle.pfs_admin.specs.declared.changes.Change.{Change}
use Rattle.pfs_board.specs.declared.view.Label.{Label}
use Rattle.pfs_classes.specs.declared.setting.Setting.{Setting}
use Rattle.pfs_event.specs.declared.kind.EventKind.{EventKind}
use Rattle.pfs_script.specs.declared.blocks.BlockLine.{BlockLine}
use Rattle.pfs_script.specs.declared.blocks.BlockLine.TheVariants as said
use Rattle.pfs_script.specs.Brackets.{kinds_behind}
use Rattle.pfs_script.specs.Marks.{mark_of}
use Rattle.pfs_levels.specs.Views.{Store}
use Rattle.pfs_script.specs.Marks.{written_from}
use Rattle.pfs_runs.specs.SelectAnswers.{Answer}
use Rattle.pfs_session.specs.SessionStates.{Book}
use Rattle.pfs_play.specs.Errands.{HavePlayed, MayPlay}
use Rattle.pfs_play.specs.Needs.{Advanced, need_on}

-- Where events of these kinds are open, each line may be played where it stands; the lines of a repeat, that began where
-- events of those kinds were open, stand once, and at its end events of the same kinds are open again.
unfoldable pub AllMayPlay : ℕ → ℕ → List EventKind → Option (List EventKind) → List BlockLine → Type 0
AllMayPlay classes depth kinds start [] = Unit {0}
AllMayPlay classes depth kinds None (said.Repeat times ∷ rest) = AllMayPlay classes depth kinds (Some kinds) rest
AllMayPlay classes depth kinds (Some start) (said.Done ∷ rest) =
    (kinds ≡ start) × AllMayPlay classes depth kinds None rest
AllMayPlay classes depth kinds start (line ∷ rest) =
    MayPlay classes depth kinds line × AllMayPlay classes depth (kinds_behind (mark_of line) kinds) start rest

-- of lines that are written out, those before the others were played, by what they need
pub record HaveGone (setting fixed : Setting) (change : Label → Change) (whole rest : List BlockLine) (old new : Book)
    (answers behind : List Answer) (was now : Store) : Type 0 where
  pub first : List BlockLine
  pub are : whole ≡ first ++ rest
  pub played : HavePlayed setting fixed change first old new answers behind was.reached now.reached
  pub advanced : Advanced (need_on first) old new was now

-- the lines of a repeat, from here on, written out
abbrev pub repeated : ℕ → List BlockLine → List BlockLine
repeated times lines = written_from (Some (record { times = times; body = [] })) lines
