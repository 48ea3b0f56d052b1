use Rattle.std.proofs.Common.{◌∙◌, ◌+◌, ◌++◌, true, List, [], ◌∷◌, ap, refl, subst, length}
use Rattle.pfs_law_plain.specs.LineSteps.{kinds_at}
use Rattle.pfs_law_session.specs.Deeds.{Quitting}
use Rattle.pfs_play.proofs.HeldBounds.{none_wide}
use Rattle.pfs_play.proofs.LineLabels.{names_front, names_on}
use Rattle.pfs_play.proofs.NeedSteps.{led_on}
use Rattle.pfs_play.proofs.PassedLines.{acted_passed, may_act_passed, used_passed}
use Rattle.pfs_play.specs.Errands.{NamesLines}
use Rattle.pfs_script.specs.Marks.{written_out}
use Rattle.pfs_script.specs.declared.blocks.BlockLine.{BlockLine}
use Rattle.pfs_script.specs.declared.blocks.BlockLine.TheVariants as said
use Rattle.pfs_session.specs.SessionStates.{State}
use Rattle.pfs_session.specs.Settlements.{owed_by_state, settle_cost}
use Rattle.pfs_blocks.proofs.BlockEnds.{met_quit, no_events}
use Rattle.pfs_blocks.proofs.BlockNeeds.{quit_acts, quit_early, quit_within, ready_lines}
use Rattle.pfs_blocks.proofs.BlockQuits.{ends_so, written_quit}
use Rattle.pfs_blocks.proofs.blocks.play_and_quit.Goals as goal

pub play_written-requires-clause-may : goal.play_written-requires-clause-may
play_written-requires-clause-may g c = (ends_so c.args.session.now.state.opened.depth (kinds_at c.args.session.now.state) (c.args.body.now ++ said.Quit ∷ []) c.args.body.now c.requires.may refl).0

pub play_written-requires-clause-named : goal.play_written-requires-clause-named
play_written-requires-clause-named g c =
    names_front g.A.Actor.change c.args.session.now.state.number c.args.session.now.state.actions (written_out c.args.body.now) (said.Quit ∷ [])
    (subst (λ (l : List BlockLine). NamesLines g.A.Actor.change c.args.session.now.state.number c.args.session.now.state.actions l) (written_quit c.args.body.now) c.requires.named)

pub play_written-requires-clause-ready : goal.play_written-requires-clause-ready
play_written-requires-clause-ready g c = ready_lines c.args.body.now c.args.session.now (g.A.Readable.seen c.args.actor.now) c.requires.ready

pub quit-requires-clause-named : goal.quit-requires-clause-named
quit-requires-clause-named g c =
    (names_on g.A.Actor.change (written_out c.args.body.now) (said.Quit ∷ []) c.args.session.now c.play_written.new.session (g.A.Readable.seen c.args.actor.now) (g.A.Readable.seen c.play_written.new.actor)
    (subst (λ (l : List BlockLine). NamesLines g.A.Actor.change c.args.session.now.state.number c.args.session.now.state.actions l) (written_quit c.args.body.now) c.requires.named) c.in-Ok.ensures.advanced).0.0

pub quit-requires-clause-closed : goal.quit-requires-clause-closed
quit-requires-clause-closed g c =
    no_events c.play_written.new.session.state.opened.events
    (c.in-Ok.ensures.kinds ∙ (ends_so c.args.session.now.state.opened.depth (kinds_at c.args.session.now.state) (c.args.body.now ++ said.Quit ∷ []) c.args.body.now c.requires.may refl).1)

pub quit-requires-clause-early : goal.quit-requires-clause-early
quit-requires-clause-early g c =
    quit_early c.args.body.now c.args.session.now c.play_written.new.session (g.A.Readable.seen c.args.actor.now) (g.A.Readable.seen c.play_written.new.actor) c.requires.ready c.in-Ok.ensures.advanced

pub quit-requires-clause-acts : goal.quit-requires-clause-acts
quit-requires-clause-acts g c =
    let played = c.in-Ok.ensures.played in
    let was = g.A.Readable.seen c.args.actor.now in
    let now = g.A.Readable.seen c.play_written.new.actor in
    let at = c.play_written.new.session in
    may_act_passed (length (owed_by_state at.state) + 253) (settle_cost (owed_by_state at.state) + 254) at.journal now (g.A.Readable.seen c.pass.new.self) c.pass.ensures.goes c.pass.ensures.kept
    (quit_acts c.args.body.now c.args.session.now at was now c.requires.ready c.in-Ok.ensures.advanced
    (led_on g.A.Actor.setting g.A.Actor.change played.parts c.args.session.now at was.reached now.reached played.done c.requires.ready.begun))

pub returns-in-Ok-clause-did : goal.returns-in-Ok-clause-did
returns-in-Ok-clause-did g c =
    let closed = no_events c.play_written.new.session.state.opened.events
    (c.in-Ok.ensures.kinds ∙ (ends_so c.args.session.now.state.opened.depth (kinds_at c.args.session.now.state) (c.args.body.now ++ said.Quit ∷ []) c.args.body.now c.requires.may refl).1) in
    record {
      over = true;
      did = met_quit c.args.setting.now g.A.Actor.setting g.A.Actor.change c.args.body.now c.args.session.now c.play_written.new.session c.quit.new.session c.args.answers.now.items c.play_written.new.answers.items
          (g.A.Readable.seen c.args.actor.now).reached (g.A.Readable.seen c.play_written.new.actor).reached (g.A.Readable.seen c.quit.new.self).reached c.in-Ok.ensures.played
          (acted_passed g.A.Actor.setting g.A.Actor.change Quitting c.play_written.new.session c.quit.new.session (g.A.Readable.seen c.play_written.new.actor).reached (g.A.Readable.seen c.pass.new.self).reached (g.A.Readable.seen c.quit.new.self).reached
          c.pass.ensures.goes c.quit.ensures.acted) closed;
    }

pub returns-in-Ok-clause-kinds : goal.returns-in-Ok-clause-kinds
returns-in-Ok-clause-kinds g c =
    ap (λ (s : State). kinds_at s) c.quit.ensures.rest
    ∙ (c.in-Ok.ensures.kinds ∙ (ends_so c.args.session.now.state.opened.depth (kinds_at c.args.session.now.state) (c.args.body.now ++ said.Quit ∷ []) c.args.body.now c.requires.may refl).1)

pub returns-in-Ok-clause-wide : goal.returns-in-Ok-clause-wide
returns-in-Ok-clause-wide g c = ap (λ (s : State). length s.held) c.quit.ensures.rest ∙ none_wide

pub returns-in-Ok-clause-within : goal.returns-in-Ok-clause-within
returns-in-Ok-clause-within g c =
    quit_within c.args.body.now c.args.session.now c.play_written.new.session c.quit.new.session (g.A.Readable.seen c.args.actor.now) (g.A.Readable.seen c.play_written.new.actor) (g.A.Readable.seen c.quit.new.self) c.in-Ok.ensures.advanced
    c.quit.ensures.rest
    (used_passed (length (owed_by_state c.play_written.new.session.state) + 253) 0 (settle_cost (owed_by_state c.play_written.new.session.state) + 254) c.play_written.new.session.journal c.quit.new.session.journal
    (g.A.Readable.seen c.play_written.new.actor) (g.A.Readable.seen c.pass.new.self) (g.A.Readable.seen c.quit.new.self) c.pass.ensures.kept c.quit.ensures.used)
