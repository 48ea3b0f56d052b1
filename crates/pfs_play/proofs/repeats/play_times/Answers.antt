use Rattle.std.proofs.Common.{◌≡◌, ◌∙◌, List, [], refl, ap, sym, subst, length, arith}
use Rattle.std.proofs.lemmas.Bool.{eqb-true}
use Rattle.std.proofs.lemmas.List.{nil_from_length}
use Rattle.pfs_event.specs.declared.kind.EventKind.{EventKind}
use Rattle.pfs_law_plain.specs.LineSteps.{kinds_at}
use Rattle.pfs_script.specs.declared.blocks.BlockLine.{BlockLine}
use Rattle.pfs_script.specs.Marks.{copies}
use Rattle.pfs_play.specs.Errands.{CanPlay, HavePlayed, kinds_after}
use Rattle.pfs_play.specs.Needs.{Advanced, need_on}
use Rattle.pfs_play.proofs.LineLabels.{names_round}
use Rattle.pfs_play.proofs.NeedSteps.{advanced_both, advanced_none, led_on, ready_round}
use Rattle.pfs_play.proofs.NextLines.{played_nothing}
use Rattle.pfs_play.proofs.RepeatedLines.{copies_of_none, copies_more, no_copies, played_both}
use Rattle.pfs_play.proofs.repeats.play_times.Goals as goal

pub returns-then-is_empty-clause-played : goal.returns-then-is_empty-clause-played
returns-then-is_empty-clause-played g c =
    let none : c.args.body.now ≡ [] = nil_from_length c.args.body.now (eqb-true (length c.args.body.now) 0 (sym c.is_empty.ensures ∙ c.if-is_empty.true)) in
    subst (λ (lines : List BlockLine). HavePlayed c.args.setting.now g.A.Actor.setting g.A.Actor.change lines c.args.session.now c.args.session.now c.args.answers.now.items c.args.answers.now.items (g.A.Readable.seen c.args.actor.now).reached (g.A.Readable.seen c.args.actor.now).reached)
    (sym (copies_of_none c.args.times c.args.body.now none)) (played_nothing c.args.setting.now g.A.Actor.setting g.A.Actor.change c.args.session.now c.args.answers.now.items (g.A.Readable.seen c.args.actor.now).reached)

pub returns-then-is_empty-clause-advanced : goal.returns-then-is_empty-clause-advanced
returns-then-is_empty-clause-advanced g c =
    let none : c.args.body.now ≡ [] = nil_from_length c.args.body.now (eqb-true (length c.args.body.now) 0 (sym c.is_empty.ensures ∙ c.if-is_empty.true)) in
    subst (λ (lines : List BlockLine). Advanced (need_on lines) c.args.session.now c.args.session.now (g.A.Readable.seen c.args.actor.now) (g.A.Readable.seen c.args.actor.now))
    (sym (copies_of_none c.args.times c.args.body.now none)) (advanced_none c.args.session.now (g.A.Readable.seen c.args.actor.now) c.requires.wide)

pub loop-round-init : goal.loop-round-init
loop-round-init g c = record {
  played = subst (λ (lines : List BlockLine). HavePlayed c.args.setting.now g.A.Actor.setting g.A.Actor.change lines c.args.session.now c.args.session.now c.args.answers.now.items c.args.answers.now.items (g.A.Readable.seen c.args.actor.now).reached (g.A.Readable.seen c.args.actor.now).reached) (sym (no_copies c.args.body.now))
      (played_nothing c.args.setting.now g.A.Actor.setting g.A.Actor.change c.args.session.now c.args.answers.now.items (g.A.Readable.seen c.args.actor.now).reached);
  kinds = refl;
  lie = c.requires.lie;
  advanced = subst (λ (lines : List BlockLine). Advanced (need_on lines) c.args.session.now c.args.session.now (g.A.Readable.seen c.args.actor.now) (g.A.Readable.seen c.args.actor.now)) (sym (no_copies c.args.body.now))
      (advanced_none c.args.session.now (g.A.Readable.seen c.args.actor.now) c.requires.wide);
}

pub play_lines-requires-clause-can : goal.play_lines-requires-clause-can
play_lines-requires-clause-can g c =
    let before = c.loop-round.invariant in
    subst (λ (k : List EventKind). CanPlay 62 c.loop-round.session.state.opened.depth k c.args.body.now) (sym before.kinds)
    (subst (λ d. CanPlay 62 d (kinds_at c.args.session.now.state) c.args.body.now) (sym before.advanced.depth) c.requires.can)

pub play_lines-requires-clause-wide : goal.play_lines-requires-clause-wide
play_lines-requires-clause-wide g c = c.loop-round.invariant.advanced.wide

pub play_lines-requires-clause-named : goal.play_lines-requires-clause-named
play_lines-requires-clause-named g c =
    names_round g.A.Actor.change c.loop-round.round c.args.times c.args.body.now c.args.session.now c.loop-round.session (g.A.Readable.seen c.args.actor.now) (g.A.Readable.seen c.loop-round.actor) c.loop-round-test.true c.requires.named c.loop-round.invariant.advanced

pub play_lines-requires-clause-ready : goal.play_lines-requires-clause-ready
play_lines-requires-clause-ready g c =
    let before = c.loop-round.invariant in
    let led = led_on g.A.Actor.setting g.A.Actor.change before.played.parts c.args.session.now c.loop-round.session (g.A.Readable.seen c.args.actor.now).reached (g.A.Readable.seen c.loop-round.actor).reached before.played.done c.requires.ready.begun in
    ready_round c.loop-round.round c.args.times c.args.body.now c.args.session.now c.loop-round.session (g.A.Readable.seen c.args.actor.now) (g.A.Readable.seen c.loop-round.actor) c.loop-round-test.true c.requires.ready before.advanced led

pub loop-round-preserved : goal.loop-round-preserved
loop-round-preserved g c =
    let body = c.args.body.now in
    let round = c.loop-round.round in
    let new = c.play_lines.new.session in
    let before = c.loop-round.invariant in
    record {
      played = subst (λ (lines : List BlockLine). HavePlayed c.args.setting.now g.A.Actor.setting g.A.Actor.change lines c.args.session.now new c.args.answers.now.items c.play_lines.new.answers.items (g.A.Readable.seen c.args.actor.now).reached (g.A.Readable.seen c.play_lines.new.actor).reached) (sym (copies_more round body))
          (played_both c.args.setting.now g.A.Actor.setting g.A.Actor.change (copies round body) body c.args.session.now c.loop-round.session new c.args.answers.now.items c.loop-round.answers.items c.play_lines.new.answers.items (g.A.Readable.seen c.args.actor.now).reached (g.A.Readable.seen c.loop-round.actor).reached (g.A.Readable.seen c.play_lines.new.actor).reached before.played c.in-Ok.ensures.played);
      kinds = c.in-Ok.ensures.kinds ∙ (ap (λ k. kinds_after k body) before.kinds ∙ c.requires.same);
      lie = c.in-Ok.ensures.lie;
      advanced = subst (λ (lines : List BlockLine). Advanced (need_on lines) c.args.session.now new (g.A.Readable.seen c.args.actor.now) (g.A.Readable.seen c.play_lines.new.actor)) (sym (copies_more round body))
          (advanced_both (copies round body) body c.args.session.now c.loop-round.session new (g.A.Readable.seen c.args.actor.now) (g.A.Readable.seen c.loop-round.actor) (g.A.Readable.seen c.play_lines.new.actor)
          before.advanced c.in-Ok.ensures.advanced);
    }

pub returns-clause-advanced : goal.returns-clause-advanced
returns-clause-advanced g c =
    let all : c.loop-round.round ≡ c.args.times = omega arith in
    subst (λ n. Advanced (need_on (copies n c.args.body.now)) c.args.session.now c.loop-round.session (g.A.Readable.seen c.args.actor.now) (g.A.Readable.seen c.loop-round.actor)) all c.loop-round.invariant.advanced
