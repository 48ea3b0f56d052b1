-- What is known where a block begins.
use Rattle.std.proofs.Common.{◌≡◌, ◌<◌, ◌+◌, ◌^◌, List, length, ap, sym, ◌∙◌, subst, arith}
use Rattle.pfs_classes.specs.declared.setting.Setting.{Setting}
use Rattle.pfs_law_plain.specs.Spells.{Spell}
use Rattle.pfs_law_script.specs.Course.{IsCourse, PhasedBlock, own_changes}
use Rattle.pfs_play.specs.Errands.{LabelsName, actions_on}
use Rattle.pfs_runs.specs.ScriptLines.{change_in, changes_in}
use Rattle.pfs_script.specs.Marks.{written_out}
use Rattle.pfs_script.specs.declared.blocks.Block.{Block}
use Rattle.pfs_script.specs.declared.blocks.Phase.{Phase}
use Rattle.pfs_session.specs.SessionStates.{Book, State}
use Rattle.pfs_seats.specs.Seats.{depth_of}
use Rattle.pfs_seats.proofs.BlockPlaces.{IsHere}
use Rattle.pfs_seats.proofs.ReadySessions.{IsReady}

module _ (setting : Setting) (phases before : List Phase) (first : List Block) (block : Block) (others : List Block) (after : List Phase) (done : List PhasedBlock) (spells : List Spell) (book : Book)
    (here : IsHere setting phases before first block others after done) (is : IsReady setting phases done spells block book) where
  -- its actions have the labels of the changes that the block asks for
  pub named_at : IsCourse setting (change_in phases) (depth_of phases) done spells → LabelsName (change_in phases) book.state.number book.state.actions (changes_in block)
  named_at course =
      let number : book.state.number ≡ block.session = ap (λ (s : State). s.number) is.state ∙ course.numbers block.session in
      let made : book.state.actions ≡ length (own_changes block.session done) = ap (λ (s : State). s.actions) is.state ∙ course.counted block.session in
      subst (λ n. LabelsName (change_in phases) n book.state.actions (changes_in block)) (sym number) (subst (λ n. LabelsName (change_in phases) block.session n (changes_in block)) (sym made) here.asked)

  -- it has numbers of events and of actions left for the block
  pub early_at : book.state.drawn + length (written_out block.lines) < 2 ^ 64
  early_at = omega (arith, is.drawn, here.few, here.playable.short)

  pub rare_at : book.state.actions + (actions_on (written_out block.lines) + 2) < 2 ^ 64
  rare_at = omega (arith, is.actions, here.few, here.rare)
