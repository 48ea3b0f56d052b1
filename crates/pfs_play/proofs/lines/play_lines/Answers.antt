use Rattle.std.proofs.Common.{◌≡◌, ◌<◌, ◌+◌, ◌++◌, ◌∷◌, [], List, ℕ, refl, ap, sym, ◌∙◌, subst, take, drop, suc, length, get_or, arith}
use Rattle.std.proofs.Math.Seq.{drop-cons}
use Rattle.std.proofs.lemmas.List.{take-append-drop, take_all, take_more}
use Rattle.pfs_event.specs.declared.kind.EventKind.{EventKind}
use Rattle.pfs_law_plain.specs.LineSteps.{kinds_at}
use Rattle.pfs_script.specs.declared.blocks.BlockLine.{BlockLine}
use Rattle.pfs_script.specs.Brackets.{kinds_behind}
use Rattle.pfs_script.specs.Marks.{mark_of}
use Rattle.pfs_play.specs.Errands.{CanPlay, HasRun, HavePlayed, StagesLie, errand_on, kinds_after}
use Rattle.pfs_play.specs.Needs.{Advanced, need_of, need_on}
use Rattle.pfs_play.proofs.ErrandParts.{may_run}
use Rattle.pfs_play.proofs.NextLines.{played_nothing, played_more, run_kinds, still_lies}
use Rattle.pfs_play.proofs.LineLabels.{names_at}
use Rattle.pfs_play.proofs.NeedSteps.{advanced_both, advanced_none, advanced_one, led_on, ready_at}
use Rattle.pfs_play.proofs.PassedLines.{advanced_passed, ready_passed, run_passed}
use Rattle.pfs_play.proofs.lines.play_lines.Goals as goal

-- the line at a place, and those behind it
splits : (lines : List BlockLine) (i : ℕ) (line : BlockLine) → i < length lines → line ≡ get_or lines i line → drop i lines ≡ line ∷ drop (i + 1) lines
splits lines i line lt is =
    let next : suc i ≡ i + 1 = omega arith in
    drop-cons lines i line lt ∙ (ap (λ (l : BlockLine). l ∷ drop (suc i) lines) (sym is) ∙ ap (λ n. line ∷ drop n lines) next)

fronts : (lines : List BlockLine) (i : ℕ) (line : BlockLine) → i < length lines → line ≡ get_or lines i line → take (i + 1) lines ≡ take i lines ++ line ∷ []
fronts lines i line lt is = take_more lines i line lt ∙ ap (λ (l : BlockLine). take i lines ++ l ∷ []) (sym is)

pub loop-line-init : goal.loop-line-init
loop-line-init g c = record {
  played = played_nothing c.args.setting.now g.A.Actor.setting g.A.Actor.change c.args.session.now c.args.answers.now.items (g.A.Readable.seen c.args.actor.now).reached;
  can = c.requires.can;
  kinds = refl;
  lie = c.requires.lie;
  advanced = advanced_none c.args.session.now (g.A.Readable.seen c.args.actor.now) c.requires.wide;
}

pub play_line-requires-clause-may : goal.play_line-requires-clause-may
play_line-requires-clause-may g c =
    let line = c.line-item.result in
    let i = c.loop-line.line-index in
    let split = splits c.args.lines.now i line c.loop-line-test.true c.line-item.is in
    let can : CanPlay 62 c.loop-line.session.state.opened.depth (kinds_at c.loop-line.session.state) (line ∷ drop (i + 1) c.args.lines.now) =
    subst (CanPlay 62 c.loop-line.session.state.opened.depth (kinds_at c.loop-line.session.state)) split c.loop-line.invariant.can in
    may_run c.loop-line.session.state.opened line c.loop-line.invariant.lie can.0

pub play_line-requires-clause-stays : goal.play_line-requires-clause-stays
play_line-requires-clause-stays g c =
    let line = c.line-item.result in
    let i = c.loop-line.line-index in
    let split = splits c.args.lines.now i line c.loop-line-test.true c.line-item.is in
    let can : CanPlay 62 c.loop-line.session.state.opened.depth (kinds_at c.loop-line.session.state) (line ∷ drop (i + 1) c.args.lines.now) =
    subst (CanPlay 62 c.loop-line.session.state.opened.depth (kinds_at c.loop-line.session.state)) split c.loop-line.invariant.can in
    can.0.quits

pub play_line-requires-clause-wide : goal.play_line-requires-clause-wide
play_line-requires-clause-wide g c = c.loop-line.invariant.advanced.wide

pub play_line-requires-clause-named : goal.play_line-requires-clause-named
play_line-requires-clause-named g c =
    let line = c.line-item.result in
    let i = c.loop-line.line-index in
    let lines = c.args.lines.now in
    let split = splits lines i line c.loop-line-test.true c.line-item.is in
    let are : lines ≡ take i lines ++ line ∷ drop (i + 1) lines = sym (take-append-drop i lines) ∙ ap (λ (z : List BlockLine). take i lines ++ z) split in
    names_at g.A.Actor.change lines (take i lines) (drop (i + 1) lines) line c.args.session.now c.loop-line.session (g.A.Readable.seen c.args.actor.now) (g.A.Readable.seen c.loop-line.actor) are c.requires.named c.loop-line.invariant.advanced

pub play_line-requires-clause-ready : goal.play_line-requires-clause-ready
play_line-requires-clause-ready g c =
    let line = c.line-item.result in
    let i = c.loop-line.line-index in
    let lines = c.args.lines.now in
    let before = c.loop-line.invariant in
    let split = splits lines i line c.loop-line-test.true c.line-item.is in
    let are : lines ≡ take i lines ++ line ∷ drop (i + 1) lines = sym (take-append-drop i lines) ∙ ap (λ (z : List BlockLine). take i lines ++ z) split in
    let led = led_on g.A.Actor.setting g.A.Actor.change before.played.parts c.args.session.now c.loop-line.session (g.A.Readable.seen c.args.actor.now).reached (g.A.Readable.seen c.loop-line.actor).reached before.played.done c.requires.ready.begun in
    ready_passed (need_of (errand_on line)) c.loop-line.session (g.A.Readable.seen c.loop-line.actor) (g.A.Readable.seen c.pass.new.self) c.pass.ensures.goes c.pass.ensures.kept
    (ready_at lines (take i lines) (drop (i + 1) lines) line c.args.session.now c.loop-line.session (g.A.Readable.seen c.args.actor.now) (g.A.Readable.seen c.loop-line.actor) are c.requires.ready before.advanced led)

pub loop-line-preserved : goal.loop-line-preserved
loop-line-preserved g c =
    let line = c.line-item.result in
    let i = c.loop-line.line-index in
    let lines = c.args.lines.now in
    let at = c.loop-line.session in
    let new = c.play_line.new.session in
    let before = c.loop-line.invariant in
    let mid = g.A.Readable.seen c.pass.new.self in
    let run : HasRun c.args.setting.now g.A.Actor.setting g.A.Actor.change (errand_on line) at new c.loop-line.answers.items c.play_line.new.answers.items (g.A.Readable.seen c.loop-line.actor).reached (g.A.Readable.seen c.play_line.new.actor).reached =
    run_passed c.args.setting.now g.A.Actor.setting g.A.Actor.change (errand_on line) at new c.loop-line.answers.items c.play_line.new.answers.items (g.A.Readable.seen c.loop-line.actor).reached mid.reached (g.A.Readable.seen c.play_line.new.actor).reached
    c.pass.ensures.goes c.in-Ok.ensures.run in
    let advanced : Advanced (need_of (errand_on line)) at new (g.A.Readable.seen c.loop-line.actor) (g.A.Readable.seen c.play_line.new.actor) =
    advanced_passed (need_of (errand_on line)) at new (g.A.Readable.seen c.loop-line.actor) mid (g.A.Readable.seen c.play_line.new.actor) c.pass.ensures.kept c.in-Ok.ensures.advanced in
    let split = splits lines i line c.loop-line-test.true c.line-item.is in
    let front = fronts lines i line c.loop-line-test.true c.line-item.is in
    let can : CanPlay 62 at.state.opened.depth (kinds_at at.state) (line ∷ drop (i + 1) lines) = subst (CanPlay 62 at.state.opened.depth (kinds_at at.state)) split before.can in
    let kinds : kinds_at new.state ≡ kinds_behind (mark_of line) (kinds_at at.state) = run_kinds c.args.setting.now g.A.Actor.setting g.A.Actor.change line at new c.loop-line.answers.items c.play_line.new.answers.items (g.A.Readable.seen c.loop-line.actor).reached (g.A.Readable.seen c.play_line.new.actor).reached run in
    record {
      played = subst (λ (z : List BlockLine). HavePlayed c.args.setting.now g.A.Actor.setting g.A.Actor.change z c.args.session.now new c.args.answers.now.items c.play_line.new.answers.items (g.A.Readable.seen c.args.actor.now).reached (g.A.Readable.seen c.play_line.new.actor).reached) (sym front)
          (played_more c.args.setting.now g.A.Actor.setting g.A.Actor.change (take i lines) line c.args.session.now at new c.args.answers.now.items c.loop-line.answers.items c.play_line.new.answers.items (g.A.Readable.seen c.args.actor.now).reached (g.A.Readable.seen c.loop-line.actor).reached (g.A.Readable.seen c.play_line.new.actor).reached can.0.quits before.played run);
      can = subst (λ (k : List EventKind). CanPlay 62 new.state.opened.depth k (drop (i + 1) lines)) (sym kinds)
          (subst (λ d. CanPlay 62 d (kinds_behind (mark_of line) (kinds_at at.state)) (drop (i + 1) lines)) (sym advanced.depth) can.1);
      kinds = ap (λ (k : List EventKind). kinds_after k (drop (i + 1) lines)) kinds ∙ (sym (ap (kinds_after (kinds_at at.state)) split) ∙ before.kinds);
      lie = subst StagesLie (sym kinds) (still_lies (mark_of line) (kinds_at at.state) before.lie can.0.stands);
      advanced = subst (λ (z : List BlockLine). Advanced (need_on z) c.args.session.now new (g.A.Readable.seen c.args.actor.now) (g.A.Readable.seen c.play_line.new.actor)) (sym front)
          (advanced_both (take i lines) (line ∷ []) c.args.session.now at new (g.A.Readable.seen c.args.actor.now) (g.A.Readable.seen c.loop-line.actor) (g.A.Readable.seen c.play_line.new.actor) before.advanced
          (advanced_one line at new (g.A.Readable.seen c.loop-line.actor) (g.A.Readable.seen c.play_line.new.actor) advanced));
    }

pub returns-clause-advanced : goal.returns-clause-advanced
returns-clause-advanced g c =
    let all : take c.loop-line.line-index c.args.lines.now ≡ c.args.lines.now = take_all c.loop-line.line-index c.args.lines.now (omega arith) in
    subst (λ (z : List BlockLine). Advanced (need_on z) c.args.session.now c.loop-line.session (g.A.Readable.seen c.args.actor.now) (g.A.Readable.seen c.loop-line.actor)) all c.loop-line.invariant.advanced
