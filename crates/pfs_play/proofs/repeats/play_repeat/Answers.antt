use Rattle.std.proofs.Common.{◌≡◌, ◌+◌, ◌++◌, ◌∙◌, List, None, ap, sym, subst, take, drop}
use Rattle.std.proofs.lemmas.List.{append-nil}
use Rattle.pfs_event.specs.declared.kind.EventKind.{EventKind}
use Rattle.pfs_law_plain.specs.LineSteps.{kinds_at}
use Rattle.pfs_script.specs.declared.blocks.BlockLine.{BlockLine}
use Rattle.pfs_script.specs.Marks.{copies, written_out}
use Rattle.pfs_play.specs.Errands.{NamesLines, kinds_after}
use Rattle.pfs_play.specs.Needs.{Ready, need_on}
use Rattle.pfs_play.specs.Repeats.{AllMayPlay, repeated}
use Rattle.pfs_play.proofs.LineLabels.{names_front}
use Rattle.pfs_play.proofs.NeedSteps.{ready_front}
use Rattle.pfs_play.proofs.WrittenRepeats.{rounds_at, not_found, written_open, can_open, nothing_behind, may_behind}
use Rattle.pfs_play.proofs.repeats.play_repeat.Goals as goal

pub play_times-requires-clause-can : goal.play_times-requires-clause-can
play_times-requires-clause-can g c = (rounds_at 62 c.args.session.now.state.opened.depth (kinds_at c.args.session.now.state) c.args.times c.in-Some.end c.args.lines.now (sym c.done_in.ensures ∙ c.in-Some.is) c.requires.may).can

pub play_times-requires-clause-same : goal.play_times-requires-clause-same
play_times-requires-clause-same g c = (rounds_at 62 c.args.session.now.state.opened.depth (kinds_at c.args.session.now.state) c.args.times c.in-Some.end c.args.lines.now (sym c.done_in.ensures ∙ c.in-Some.is) c.requires.may).back

pub play_times-requires-clause-ready : goal.play_times-requires-clause-ready
play_times-requires-clause-ready g c =
    let r = rounds_at 62 c.args.session.now.state.opened.depth (kinds_at c.args.session.now.state) c.args.times c.in-Some.end c.args.lines.now (sym c.done_in.ensures ∙ c.in-Some.is) c.requires.may in
    let all = subst (λ (z : List BlockLine). Ready (need_on z) c.args.session.now (g.A.Readable.seen c.args.actor.now)) r.written c.requires.ready in
    ready_front (copies c.args.times (take c.in-Some.end c.args.lines.now)) (written_out (drop (c.in-Some.end + 1) c.args.lines.now)) c.args.session.now (g.A.Readable.seen c.args.actor.now) all

pub play_times-requires-clause-named : goal.play_times-requires-clause-named
play_times-requires-clause-named g c =
    let r = rounds_at 62 c.args.session.now.state.opened.depth (kinds_at c.args.session.now.state) c.args.times c.in-Some.end c.args.lines.now (sym c.done_in.ensures ∙ c.in-Some.is) c.requires.may in
    names_front g.A.Actor.change c.args.session.now.state.number c.args.session.now.state.actions (copies c.args.times (take c.in-Some.end c.args.lines.now)) (written_out (drop (c.in-Some.end + 1) c.args.lines.now))
    (subst (λ (z : List BlockLine). NamesLines g.A.Actor.change c.args.session.now.state.number c.args.session.now.state.actions z) r.written c.requires.named)

pub play_lines-requires-clause-named : goal.play_lines-requires-clause-named
play_lines-requires-clause-named g c =
    let written : repeated c.args.times c.args.lines.now ≡ c.args.lines.now = written_open c.args.times c.args.lines.now (not_found c.args.lines.now (sym c.done_in.ensures ∙ c.in-None.is)) in
    subst (λ (z : List BlockLine). NamesLines g.A.Actor.change c.args.session.now.state.number c.args.session.now.state.actions z) written c.requires.named

pub play_lines-requires-clause-can : goal.play_lines-requires-clause-can
play_lines-requires-clause-can g c = can_open 62 c.args.session.now.state.opened.depth (kinds_at c.args.session.now.state) c.args.lines.now (kinds_at c.args.session.now.state) (not_found c.args.lines.now (sym c.done_in.ensures ∙ c.in-None.is)) c.requires.may

pub play_lines-requires-clause-ready : goal.play_lines-requires-clause-ready
play_lines-requires-clause-ready g c =
    let written : repeated c.args.times c.args.lines.now ≡ c.args.lines.now = written_open c.args.times c.args.lines.now (not_found c.args.lines.now (sym c.done_in.ensures ∙ c.in-None.is)) in
    subst (λ (z : List BlockLine). Ready (need_on z) c.args.session.now (g.A.Readable.seen c.args.actor.now)) written c.requires.ready

pub returns-in-Ok-clause-count : goal.returns-in-Ok-clause-count
returns-in-Ok-clause-count g c = (rounds_at 62 c.args.session.now.state.opened.depth (kinds_at c.args.session.now.state) c.args.times c.in-Some.end c.args.lines.now (sym c.done_in.ensures ∙ c.in-Some.is) c.requires.may).count

pub returns-in-Ok-clause-gone : goal.returns-in-Ok-clause-gone
returns-in-Ok-clause-gone g c =
    let r = rounds_at 62 c.args.session.now.state.opened.depth (kinds_at c.args.session.now.state) c.args.times c.in-Some.end c.args.lines.now (sym c.done_in.ensures ∙ c.in-Some.is) c.requires.may in
    record { first = copies c.args.times (take c.in-Some.end c.args.lines.now); are = r.written; played = c.in-Ok.ensures.played; advanced = c.in-Ok.ensures.advanced }

pub returns-in-Ok-clause-may : goal.returns-in-Ok-clause-may
returns-in-Ok-clause-may g c =
    let r = rounds_at 62 c.args.session.now.state.opened.depth (kinds_at c.args.session.now.state) c.args.times c.in-Some.end c.args.lines.now (sym c.done_in.ensures ∙ c.in-Some.is) c.requires.may in
    subst (λ (k : List EventKind). AllMayPlay 62 c.args.session.now.state.opened.depth k None (drop (c.in-Some.end + 1) c.args.lines.now)) (sym c.in-Ok.ensures.kinds) r.others

pub returns-in-Ok-clause-kinds : goal.returns-in-Ok-clause-kinds
returns-in-Ok-clause-kinds g c =
    let r = rounds_at 62 c.args.session.now.state.opened.depth (kinds_at c.args.session.now.state) c.args.times c.in-Some.end c.args.lines.now (sym c.done_in.ensures ∙ c.in-Some.is) c.requires.may in
    ap (λ (k : List EventKind). kinds_after k (written_out (drop (c.in-Some.end + 1) c.args.lines.now))) c.in-Ok.ensures.kinds ∙ sym r.kinds_behind_it

pub returns-in-Ok-play_lines-clause-gone : goal.returns-in-Ok-play_lines-clause-gone
returns-in-Ok-play_lines-clause-gone g c =
    let lines : List BlockLine = c.args.lines.now in
    let written : repeated c.args.times lines ≡ lines = written_open c.args.times lines (not_found lines (sym c.done_in.ensures ∙ c.in-None.is)) in
    record { first = lines; are = written ∙ (sym (append-nil lines) ∙ ap (λ (r : List BlockLine). lines ++ r) (sym (nothing_behind lines))); played = c.in-Ok-play_lines.ensures.played; advanced = c.in-Ok-play_lines.ensures.advanced }

pub returns-in-Ok-play_lines-clause-may : goal.returns-in-Ok-play_lines-clause-may
returns-in-Ok-play_lines-clause-may g c = may_behind 62 c.args.session.now.state.opened.depth (kinds_at c.play_lines.new.session.state) c.args.lines.now

pub returns-in-Ok-play_lines-clause-kinds : goal.returns-in-Ok-play_lines-clause-kinds
returns-in-Ok-play_lines-clause-kinds g c =
    let lines : List BlockLine = c.args.lines.now in
    let written : repeated c.args.times lines ≡ lines = written_open c.args.times lines (not_found lines (sym c.done_in.ensures ∙ c.in-None.is)) in
    ap (kinds_after (kinds_at c.play_lines.new.session.state)) (nothing_behind lines) ∙ (c.in-Ok-play_lines.ensures.kinds ∙ ap (kinds_after (kinds_at c.args.session.now.state)) (sym written))
