use Rattle.std.proofs.Common.{◌≡◌, ◌+◌, ◌-◌, ◌∙◌, ℕ, List, None, refl, ap, sym, subst, length, take, drop, arith}
use Rattle.std.proofs.lemmas.List.{length-drop}
use Rattle.pfs_script.specs.declared.blocks.BlockLine.{BlockLine}
use Rattle.pfs_script.specs.Marks.{written_out}
use Rattle.pfs_law_plain.specs.LineSteps.{kinds_at}
use Rattle.pfs_play.specs.Errands.{NamesLines, kinds_after}
use Rattle.pfs_play.specs.Needs.{Ready, need_on}
use Rattle.pfs_play.specs.Repeats.{AllMayPlay, HaveGone}
use Rattle.pfs_play.proofs.LineLabels.{gone_names}
use Rattle.pfs_play.proofs.NeedSteps.{gone_advanced, gone_both, gone_nowhere, gone_ready, gone_whole}
use Rattle.pfs_play.proofs.WrittenRepeats.{to_the_end, drop_both, at_the_end}
use Rattle.pfs_play.proofs.repeats.play_written.Goals as goal

pub loop-at-init : goal.loop-at-init
loop-at-init g c = record {
  count = omega arith;
  may = c.requires.may;
  gone = gone_nowhere c.args.setting.now g.A.Actor.setting g.A.Actor.change (written_out c.args.lines.now) c.args.session.now c.args.answers.now.items (g.A.Readable.seen c.args.actor.now) c.requires.wide;
  kinds = refl;
  lie = c.requires.lie;
}

pub play_next-requires-clause-may : goal.play_next-requires-clause-may
play_next-requires-clause-may g c = subst (λ (l : List BlockLine). AllMayPlay 62 c.loop-at.session.state.opened.depth (kinds_at c.loop-at.session.state) None l) (sym (to_the_end c.loop-at.at c.args.lines.now)) c.loop-at.invariant.may

pub play_next-requires-clause-wide : goal.play_next-requires-clause-wide
play_next-requires-clause-wide g c = c.loop-at.invariant.gone.advanced.wide

pub play_next-requires-clause-ready : goal.play_next-requires-clause-ready
play_next-requires-clause-ready g c =
    let left = gone_ready c.args.setting.now g.A.Actor.setting g.A.Actor.change (written_out c.args.lines.now) (written_out (drop c.loop-at.at c.args.lines.now)) c.args.session.now c.loop-at.session c.args.answers.now.items c.loop-at.answers.items (g.A.Readable.seen c.args.actor.now) (g.A.Readable.seen c.loop-at.actor)
    c.loop-at.invariant.gone c.requires.ready in
    subst (λ (l : List BlockLine). Ready (need_on (written_out l)) c.loop-at.session (g.A.Readable.seen c.loop-at.actor)) (sym (to_the_end c.loop-at.at c.args.lines.now)) left

pub play_next-requires-clause-named : goal.play_next-requires-clause-named
play_next-requires-clause-named g c =
    let left = gone_names c.args.setting.now g.A.Actor.setting g.A.Actor.change (written_out c.args.lines.now) (written_out (drop c.loop-at.at c.args.lines.now)) c.args.session.now c.loop-at.session c.args.answers.now.items c.loop-at.answers.items (g.A.Readable.seen c.args.actor.now) (g.A.Readable.seen c.loop-at.actor)
    c.loop-at.invariant.gone c.requires.named in
    subst (λ (l : List BlockLine). NamesLines g.A.Actor.change c.loop-at.session.state.number c.loop-at.session.state.actions (written_out l)) (sym (to_the_end c.loop-at.at c.args.lines.now)) left

pub loop-at-preserved : goal.loop-at-preserved
loop-at-preserved g c =
    let lines : List BlockLine = c.args.lines.now in
    let at : ℕ = c.loop-at.at in
    let n : ℕ = c.in-Ok.taken in
    let new = c.play_next.new.session in
    let before = c.loop-at.invariant in
    let now = c.in-Ok.ensures in
    let whole : List BlockLine = written_out lines in
    let mid : List BlockLine = written_out (drop at lines) in
    let rest : List BlockLine = written_out (drop (at + n) lines) in
    let here : take (length lines - at) (drop at lines) ≡ drop at lines = to_the_end at lines in
    let there : drop n (take (length lines - at) (drop at lines)) ≡ drop (at + n) lines = ap (λ (l : List BlockLine). drop n l) here ∙ drop_both at n lines in
    let one : HaveGone c.args.setting.now g.A.Actor.setting g.A.Actor.change mid rest c.loop-at.session new c.loop-at.answers.items c.play_next.new.answers.items (g.A.Readable.seen c.loop-at.actor) (g.A.Readable.seen c.play_next.new.actor) =
    subst (λ (l : List BlockLine). HaveGone c.args.setting.now g.A.Actor.setting g.A.Actor.change mid (written_out l) c.loop-at.session new c.loop-at.answers.items c.play_next.new.answers.items (g.A.Readable.seen c.loop-at.actor) (g.A.Readable.seen c.play_next.new.actor)) there
    (subst (λ (l : List BlockLine). HaveGone c.args.setting.now g.A.Actor.setting g.A.Actor.change (written_out l) (written_out (drop n (take (length lines - at) (drop at lines)))) c.loop-at.session new c.loop-at.answers.items c.play_next.new.answers.items (g.A.Readable.seen c.loop-at.actor) (g.A.Readable.seen c.play_next.new.actor)) here now.gone) in
    let shorter = ap (λ (l : List BlockLine). length l) here in
    let left_over : length (drop at lines) ≡ length lines - at = length-drop at lines in
    let few = now.count.1 in
    record {
      count = omega (arith, before.count, shorter, left_over, few);
      may = subst (λ (l : List BlockLine). AllMayPlay 62 new.state.opened.depth (kinds_at new.state) None l) there (subst (λ d. AllMayPlay 62 d (kinds_at new.state) None (drop n (take (length lines - at) (drop at lines)))) (sym now.gone.advanced.depth) now.may);
      gone = gone_both c.args.setting.now g.A.Actor.setting g.A.Actor.change whole mid rest c.args.session.now c.loop-at.session new c.args.answers.now.items c.loop-at.answers.items c.play_next.new.answers.items (g.A.Readable.seen c.args.actor.now) (g.A.Readable.seen c.loop-at.actor) (g.A.Readable.seen c.play_next.new.actor) before.gone one;
      kinds = ap (λ (l : List BlockLine). kinds_after (kinds_at new.state) (written_out l)) (sym there) ∙ (now.kinds ∙ (ap (λ (l : List BlockLine). kinds_after (kinds_at c.loop-at.session.state) (written_out l)) here ∙ before.kinds));
      lie = now.lie;
    }

pub returns-clause-played : goal.returns-clause-played
returns-clause-played g c =
    gone_whole c.args.setting.now g.A.Actor.setting g.A.Actor.change (written_out c.args.lines.now) (written_out (drop c.loop-at.at c.args.lines.now)) c.args.session.now c.loop-at.session c.args.answers.now.items c.loop-at.answers.items (g.A.Readable.seen c.args.actor.now) (g.A.Readable.seen c.loop-at.actor)
    (at_the_end c.loop-at.at c.args.lines.now (omega (arith, c.loop-at-test.false))) c.loop-at.invariant.gone

pub returns-clause-kinds : goal.returns-clause-kinds
returns-clause-kinds g c = sym (ap (kinds_after (kinds_at c.loop-at.session.state)) (at_the_end c.loop-at.at c.args.lines.now (omega (arith, c.loop-at-test.false)))) ∙ c.loop-at.invariant.kinds

pub returns-clause-advanced : goal.returns-clause-advanced
returns-clause-advanced g c =
    gone_advanced c.args.setting.now g.A.Actor.setting g.A.Actor.change (written_out c.args.lines.now) (written_out (drop c.loop-at.at c.args.lines.now)) c.args.session.now c.loop-at.session c.args.answers.now.items c.loop-at.answers.items (g.A.Readable.seen c.args.actor.now) (g.A.Readable.seen c.loop-at.actor)
    (at_the_end c.loop-at.at c.args.lines.now (omega (arith, c.loop-at-test.false))) c.loop-at.invariant.gone
