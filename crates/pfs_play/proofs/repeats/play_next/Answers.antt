use Rattle.std.proofs.Common.{◌++◌, ◌∙◌, List, None, ap, sym, subst, take, drop}
use Rattle.pfs_event.specs.declared.kind.EventKind.{EventKind}
use Rattle.pfs_law_plain.specs.LineSteps.{kinds_at}
use Rattle.pfs_script.specs.declared.blocks.BlockLine.{BlockLine}
use Rattle.pfs_script.specs.Marks.{written_out}
use Rattle.pfs_play.specs.Errands.{NamesLines, kinds_after}
use Rattle.pfs_play.specs.Needs.{Ready, need_on}
use Rattle.pfs_play.specs.Repeats.{AllMayPlay}
use Rattle.pfs_play.proofs.LineLabels.{names_front}
use Rattle.pfs_play.proofs.NeedSteps.{ready_front}
use Rattle.pfs_play.proofs.WrittenRepeats.{begun, played, kinds_then}
use Rattle.pfs_play.proofs.repeats.play_next.Goals as goal

pub play_repeat-requires-clause-may : goal.play_repeat-requires-clause-may
play_repeat-requires-clause-may g c = (begun 62 c.args.session.now.state.opened.depth (kinds_at c.args.session.now.state) c.in-Some-times_of.times c.args.lines.now c.in-Some.first.now c.in-Some.others.now c.in-Some.ensures.cases.0 (sym c.times_of.ensures ∙ c.in-Some-times_of.is) c.requires.may).may

pub play_repeat-requires-clause-ready : goal.play_repeat-requires-clause-ready
play_repeat-requires-clause-ready g c =
    let b = begun 62 c.args.session.now.state.opened.depth (kinds_at c.args.session.now.state) c.in-Some-times_of.times c.args.lines.now c.in-Some.first.now c.in-Some.others.now c.in-Some.ensures.cases.0 (sym c.times_of.ensures ∙ c.in-Some-times_of.is) c.requires.may in
    subst (λ (z : List BlockLine). Ready (need_on z) c.args.session.now (g.A.Readable.seen c.args.actor.now)) b.written c.requires.ready

pub play_repeat-requires-clause-named : goal.play_repeat-requires-clause-named
play_repeat-requires-clause-named g c =
    let b = begun 62 c.args.session.now.state.opened.depth (kinds_at c.args.session.now.state) c.in-Some-times_of.times c.args.lines.now c.in-Some.first.now c.in-Some.others.now c.in-Some.ensures.cases.0 (sym c.times_of.ensures ∙ c.in-Some-times_of.is) c.requires.may in
    subst (λ (z : List BlockLine). NamesLines g.A.Actor.change c.args.session.now.state.number c.args.session.now.state.actions z) b.written c.requires.named

pub play_lines-requires-clause-named : goal.play_lines-requires-clause-named
play_lines-requires-clause-named g c =
    let p = played 62 c.args.session.now.state.opened.depth (kinds_at c.args.session.now.state) c.args.lines.now c.in-Some.first.now c.in-Some.others.now c.in-Some.ensures.cases.0 (sym c.times_of.ensures ∙ c.in-None.is) c.requires.may in
    names_front g.A.Actor.change c.args.session.now.state.number c.args.session.now.state.actions (take 1 c.args.lines.now) (written_out (drop 1 c.args.lines.now)) (subst (λ (z : List BlockLine). NamesLines g.A.Actor.change c.args.session.now.state.number c.args.session.now.state.actions z) p.written c.requires.named)

pub play_lines-requires-clause-can : goal.play_lines-requires-clause-can
play_lines-requires-clause-can g c = (played 62 c.args.session.now.state.opened.depth (kinds_at c.args.session.now.state) c.args.lines.now c.in-Some.first.now c.in-Some.others.now c.in-Some.ensures.cases.0 (sym c.times_of.ensures ∙ c.in-None.is) c.requires.may).can

pub play_lines-requires-clause-ready : goal.play_lines-requires-clause-ready
play_lines-requires-clause-ready g c =
    let p = played 62 c.args.session.now.state.opened.depth (kinds_at c.args.session.now.state) c.args.lines.now c.in-Some.first.now c.in-Some.others.now c.in-Some.ensures.cases.0 (sym c.times_of.ensures ∙ c.in-None.is) c.requires.may in
    let all = subst (λ (z : List BlockLine). Ready (need_on z) c.args.session.now (g.A.Readable.seen c.args.actor.now)) p.written c.requires.ready in
    ready_front (take 1 c.args.lines.now) (written_out (drop 1 c.args.lines.now)) c.args.session.now (g.A.Readable.seen c.args.actor.now) all

pub returns-in-Ok-clause-gone : goal.returns-in-Ok-clause-gone
returns-in-Ok-clause-gone g c =
    let b = begun 62 c.args.session.now.state.opened.depth (kinds_at c.args.session.now.state) c.in-Some-times_of.times c.args.lines.now c.in-Some.first.now c.in-Some.others.now c.in-Some.ensures.cases.0 (sym c.times_of.ensures ∙ c.in-Some-times_of.is) c.requires.may in
    let gone = c.in-Ok.ensures.gone in
    record {
      first = gone.first;
      are = b.written ∙ (gone.are ∙ ap (λ (l : List BlockLine). gone.first ++ written_out l) (sym (b.behind c.in-Ok.taken)));
      played = gone.played;
      advanced = gone.advanced;
    }

pub returns-in-Ok-clause-kinds : goal.returns-in-Ok-clause-kinds
returns-in-Ok-clause-kinds g c =
    let b = begun 62 c.args.session.now.state.opened.depth (kinds_at c.args.session.now.state) c.in-Some-times_of.times c.args.lines.now c.in-Some.first.now c.in-Some.others.now c.in-Some.ensures.cases.0 (sym c.times_of.ensures ∙ c.in-Some-times_of.is) c.requires.may in
    ap (λ (l : List BlockLine). kinds_after (kinds_at c.play_repeat.new.session.state) (written_out l)) (b.behind c.in-Ok.taken)
    ∙ (c.in-Ok.ensures.kinds ∙ ap (kinds_after (kinds_at c.args.session.now.state)) (sym b.written))

pub returns-in-Ok-play_lines-clause-gone : goal.returns-in-Ok-play_lines-clause-gone
returns-in-Ok-play_lines-clause-gone g c =
    let p = played 62 c.args.session.now.state.opened.depth (kinds_at c.args.session.now.state) c.args.lines.now c.in-Some.first.now c.in-Some.others.now c.in-Some.ensures.cases.0 (sym c.times_of.ensures ∙ c.in-None.is) c.requires.may in
    record { first = take 1 c.args.lines.now; are = p.written; played = c.in-Ok-play_lines.ensures.played; advanced = c.in-Ok-play_lines.ensures.advanced }

pub returns-in-Ok-play_lines-clause-may : goal.returns-in-Ok-play_lines-clause-may
returns-in-Ok-play_lines-clause-may g c =
    let p = played 62 c.args.session.now.state.opened.depth (kinds_at c.args.session.now.state) c.args.lines.now c.in-Some.first.now c.in-Some.others.now c.in-Some.ensures.cases.0 (sym c.times_of.ensures ∙ c.in-None.is) c.requires.may in
    subst (λ (k : List EventKind). AllMayPlay 62 c.args.session.now.state.opened.depth k None (drop 1 c.args.lines.now)) (sym c.in-Ok-play_lines.ensures.kinds) p.others

pub returns-in-Ok-play_lines-clause-kinds : goal.returns-in-Ok-play_lines-clause-kinds
returns-in-Ok-play_lines-clause-kinds g c =
    let p = played 62 c.args.session.now.state.opened.depth (kinds_at c.args.session.now.state) c.args.lines.now c.in-Some.first.now c.in-Some.others.now c.in-Some.ensures.cases.0 (sym c.times_of.ensures ∙ c.in-None.is) c.requires.may in
    ap (λ (k : List EventKind). kinds_after k (written_out (drop 1 c.args.lines.now))) c.in-Ok-play_lines.ensures.kinds
    ∙ sym (ap (kinds_after (kinds_at c.args.session.now.state)) p.written ∙ kinds_then (kinds_at c.args.session.now.state) (take 1 c.args.lines.now) (written_out (drop 1 c.args.lines.now)))
