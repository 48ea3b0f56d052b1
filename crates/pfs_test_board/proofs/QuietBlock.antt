-- The block that a test plays may be played, and what it needs.
use Rattle.std.proofs.Common.{◌≡◌, ◌≤◌, true, [], ◌∷◌, IfSome, length, refl, ap, sym, subst, arith}
use Rattle.std.specs.Prelude.{◌==◌, if◌then◌else◌}
use Rattle.pfs_actor.specs.ActionAsks.{MayConnect}
use Rattle.pfs_admin.specs.declared.changes.Change.{Change}
use Rattle.pfs_admin.specs.declared.changes.Change.TheVariants.{Connect, Quit}
use Rattle.pfs_blocks.specs.BlockNeeds.{need_of_block}
use Rattle.pfs_blocks.specs.PlayedBlocks.{MayEnd}
use Rattle.pfs_board.specs.declared.view.Label.{Label}
use Rattle.pfs_classes.specs.declared.setting.Setting.{Setting}
use Rattle.pfs_law_plain.specs.LineSteps.{kinds_at}
use Rattle.pfs_levels.specs.Views.{Store}
use Rattle.pfs_play.specs.Errands.{LabelsName, MayPlay}
use Rattle.pfs_play.specs.Needs.{Need, Ready}
use Rattle.pfs_play.specs.Repeats.{AllMayPlay}
use Rattle.pfs_runs.specs.ScriptLines.{changes_in}
use Rattle.pfs_script.specs.Marks.{copies, written_from}
use Rattle.pfs_script.specs.declared.blocks.Block.{Block}
use Rattle.pfs_script.specs.declared.blocks.BlockLine.TheVariants as said
use Rattle.pfs_session.specs.SessionStates.{Book, State, fresh}
use Rattle.pfs_test_board.specs.TestActors.{IsBegun}
use Rattle.pfs_test_board.specs.TestBlocks.{quiet_block}

first_named : (change : Label → Change) → change ≡ (λ label. if label.line == 1 then Connect 0 1 else Quit) → LabelsName change 7 0 (changes_in quiet_block)
unfolding written_from copies
first_named change is =
    (ap (λ (f : Label → Change). f (record { session = 7; line = 1 })) is, (ap (λ (f : Label → Change). f (record { session = 7; line = 2 })) is, tt))

may_spend : MayPlay 62 1 [] (said.Spend 1)
may_spend = record { quits = refl; known = tt; table = tt; digest = tt; stands = refl; shallow = omega arith }

may_end : MayEnd 1 [] quiet_block.lines
unfolding written_from copies AllMayPlay
may_end = record {
  body = said.Repeat 3 ∷ said.Spend 1 ∷ said.Done ∷ [];
  quits = true;
  are = refl;
  may = (may_spend, (refl, tt));
  closed = λ is. refl;
}

need : Need
need = record { numbers = 4; actions = 2; spare = 688; tickets = 8; entries = 648 }

need_is : need_of_block quiet_block ≡ need
unfolding need written_from copies
need_is = refl

module _ (session : Book) (first : session.state ≡ fresh 7 10 1) (block : Block) (is : block ≡ quiet_block) where
  pub named : (change : Label → Change) → change ≡ (λ label. if label.line == 1 then Connect 0 1 else Quit) → LabelsName change session.state.number session.state.actions (changes_in block)
  named change by =
      subst (λ (b : Block). LabelsName change session.state.number session.state.actions (changes_in b)) (sym is)
      (subst (λ (s : State). LabelsName change s.number s.actions (changes_in quiet_block)) (sym first) (first_named change by))

  pub connects : (setting : Setting) → 2 ≤ length setting.names → IfSome block.connect (λ names. MayConnect session.state setting names.user names.host)
  connects setting two =
      subst (λ (b : Block). IfSome b.connect (λ names. MayConnect session.state setting names.user names.host)) (sym is)
      (record {
        first = ap (λ (s : State). s.actions) first;
        unplaced = ap (λ (s : State). s.place) first;
        closed = ap (λ (s : State). s.opened.events) first;
        user_named = omega (arith, two);
        host_named = omega (arith, two);
      })

  pub ends : MayEnd session.state.opened.depth (kinds_at session.state) block.lines
  ends =
      subst (λ (b : Block). MayEnd session.state.opened.depth (kinds_at session.state) b.lines) (sym is)
      (subst (λ (s : State). MayEnd s.opened.depth (kinds_at s) quiet_block.lines) (sym first) may_end)

  pub ready : (store : Store) → IsBegun store.reached → 1000 ≤ store.left → 50 ≤ store.draws → 1000 ≤ session.journal.room → Ready (need_of_block block) session store
  unfolding need
  ready store begun left draws room =
      let there : Ready need session store = record {
        early = omega (arith, ap (λ (s : State). s.drawn) first);
        rare = omega (arith, ap (λ (s : State). s.actions) first);
        begun = begun;
        affords = record { left = omega (arith, left); draws = omega (arith, draws); room = omega (arith, room) };
      } in
      subst (λ (b : Block). Ready (need_of_block b) session store) (sym is) (subst (λ (n : Need). Ready n session store) (sym need_is) there)
