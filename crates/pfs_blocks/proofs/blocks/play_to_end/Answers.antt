use Rattle.std.proofs.Common.{◌∙◌, false, List, ap, sym, subst}
use Rattle.std.proofs.lemmas.Result.{on_ok_weaker}
use Rattle.pfs_law_plain.specs.LineSteps.{kinds_at}
use Rattle.pfs_play.specs.Errands.{NamesLines, kinds_after}
use Rattle.pfs_play.specs.Needs.{Ready}
use Rattle.pfs_script.specs.declared.blocks.BlockLine.{BlockLine}
use Rattle.pfs_script.specs.Marks.{written_out}
use Rattle.pfs_blocks.specs.PlayedBlocks.{HasEnded, MayEnd}
use Rattle.pfs_blocks.specs.BlockNeeds.{Within, need_to_end}
use Rattle.pfs_blocks.proofs.BlockEnds.{none_lie, quit_kinds}
use Rattle.pfs_blocks.proofs.BlockNeeds.{lines_within, ready_before, ready_lines, within_behind}
use Rattle.pfs_blocks.proofs.BlockQuits.{ends_so, goes_on}
use Rattle.pfs_blocks.proofs.PlayedLines.{met_lines}
use Rattle.pfs_blocks.proofs.blocks.play_to_end.Goals as goal

pub play_and_quit-requires-clause-may : goal.play_and_quit-requires-clause-may
play_and_quit-requires-clause-may g c = subst (λ (l : List BlockLine). MayEnd c.args.session.now.state.opened.depth (kinds_at c.args.session.now.state) l) c.in-Some.ensures c.requires.may

pub play_and_quit-requires-clause-named : goal.play_and_quit-requires-clause-named
play_and_quit-requires-clause-named g c =
    subst (λ (l : List BlockLine). NamesLines g.A.Actor.change c.args.session.now.state.number c.args.session.now.state.actions (written_out l)) c.in-Some.ensures c.requires.named

pub play_and_quit-requires-clause-ready : goal.play_and_quit-requires-clause-ready
play_and_quit-requires-clause-ready g c =
    ready_before c.in-Some.body.now c.args.session.now (g.A.Readable.seen c.args.actor.now)
    (subst (λ (l : List BlockLine). Ready (need_to_end l) c.args.session.now (g.A.Readable.seen c.args.actor.now)) c.in-Some.ensures c.requires.ready)

pub play_written-requires-clause-ready : goal.play_written-requires-clause-ready
play_written-requires-clause-ready g c = ready_lines c.args.lines.now c.args.session.now (g.A.Readable.seen c.args.actor.now) c.requires.ready

pub play_written-requires-clause-may : goal.play_written-requires-clause-may
play_written-requires-clause-may g c = goes_on c.args.session.now.state.opened.depth (kinds_at c.args.session.now.state) c.args.lines.now c.requires.may c.in-None.ensures

pub returns-in-Some-clause-did : goal.returns-in-Some-clause-did
returns-in-Some-clause-did g c =
    on_ok_weaker c.play_and_quit.result
    (subst (λ (l : List BlockLine). HasEnded c.args.setting.now g.A.Actor.setting g.A.Actor.change l c.args.session.now c.play_and_quit.new.session c.args.answers.now.items c.play_and_quit.new.answers.items
    (g.A.Readable.seen c.args.actor.now).reached (g.A.Readable.seen c.play_and_quit.new.actor).reached) (sym c.in-Some.ensures))
    c.play_and_quit.ensures.did

pub returns-in-Some-clause-kinds : goal.returns-in-Some-clause-kinds
returns-in-Some-clause-kinds g c =
    let kinds = kinds_at c.args.session.now.state in
    let closed = (ends_so c.args.session.now.state.opened.depth kinds c.args.lines.now c.in-Some.body.now c.requires.may c.in-Some.ensures).1 in
    on_ok_weaker c.play_and_quit.result
    (λ none. none ∙ sym (ap (λ (l : List BlockLine). kinds_after (kinds_at c.args.session.now.state) (written_out l)) c.in-Some.ensures ∙ quit_kinds (kinds_at c.args.session.now.state) c.in-Some.body.now closed))
    c.play_and_quit.ensures.kinds

pub returns-in-Some-clause-lie : goal.returns-in-Some-clause-lie
returns-in-Some-clause-lie g c = on_ok_weaker c.play_and_quit.result (none_lie (kinds_at c.play_and_quit.new.session.state)) c.play_and_quit.ensures.kinds

pub returns-in-None-clause-did : goal.returns-in-None-clause-did
returns-in-None-clause-did g c =
    on_ok_weaker c.play_written.result
    (λ played. record {
      over = false;
      did = met_lines c.args.setting.now g.A.Actor.setting g.A.Actor.change (written_out c.args.lines.now) c.args.session.now c.play_written.new.session c.args.answers.now.items c.play_written.new.answers.items
          (g.A.Readable.seen c.args.actor.now).reached (g.A.Readable.seen c.play_written.new.actor).reached played;
    })
    c.play_written.ensures.played

pub returns-in-Some-clause-within : goal.returns-in-Some-clause-within
returns-in-Some-clause-within g c =
    on_ok_weaker c.play_and_quit.result
    (λ within. subst (λ (l : List BlockLine). Within (need_to_end l) c.args.session.now c.play_and_quit.new.session (g.A.Readable.seen c.args.actor.now) (g.A.Readable.seen c.play_and_quit.new.actor)) (sym c.in-Some.ensures)
    (within_behind c.in-Some.body.now c.args.session.now c.play_and_quit.new.session (g.A.Readable.seen c.args.actor.now) (g.A.Readable.seen c.play_and_quit.new.actor) within))
    c.play_and_quit.ensures.within

pub returns-in-None-clause-within : goal.returns-in-None-clause-within
returns-in-None-clause-within g c =
    on_ok_weaker c.play_written.result
    (λ advanced. lines_within c.args.lines.now c.args.session.now c.play_written.new.session (g.A.Readable.seen c.args.actor.now) (g.A.Readable.seen c.play_written.new.actor) advanced)
    c.play_written.ensures.advanced

pub returns-in-None-clause-wide : goal.returns-in-None-clause-wide
returns-in-None-clause-wide g c = on_ok_weaker c.play_written.result (λ advanced. advanced.wide) c.play_written.ensures.advanced
