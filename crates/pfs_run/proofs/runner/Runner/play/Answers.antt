use Rattle.std.proofs.Common.{◌≡◌, ◌≤◌, ◌+◌, ◌-◌, ◌++◌, List, Option, Some, IfSome, slice_set, length, ap, refl, sym, ◌∙◌, subst, arith}
use Rattle.pfs_actor.specs.ActionAsks.{MayConnect}
use Rattle.pfs_admin.specs.declared.changes.Change.{Change}
use Rattle.pfs_blocks.specs.PlayedBlocks.{MayEnd}
use Rattle.pfs_board.specs.declared.view.Label.{Label}
use Rattle.pfs_classes.specs.declared.setting.Setting.{Setting}
use Rattle.pfs_event.specs.declared.entry.Entry.{Entry}
use Rattle.pfs_law_report.specs.LostCounts.{lost_digests, lost_statements, lost_waits}
use Rattle.pfs_law_plain.specs.LineSteps.{kinds_at}
use Rattle.pfs_journal.specs.declared.blocks.BlockReport.{BlockReport}
use Rattle.pfs_event.specs.Logs.{Journal}
use Rattle.pfs_play.specs.Errands.{LabelsName, StagesLie, actions_on, cost_on}
use Rattle.pfs_runs.specs.ScriptLines.{change_in, changes_in}
use Rattle.pfs_script.specs.Marks.{written_out}
use Rattle.pfs_script.specs.declared.blocks.BlockLine.{BlockLine}
use Rattle.pfs_seats.proofs.BlockPlaces.{is_here}
use Rattle.pfs_seats.proofs.BlockStarts.{named_at}
use Rattle.pfs_seats.proofs.ReadySessions.{ready_same}
use Rattle.pfs_session.specs.SessionStates.{State, Book}
use Rattle.pfs_run.proofs.BlockStarts.{ready_at, needs_at, digests_at, statements_at, waits_at}
use Rattle.pfs_run.proofs.RunKnowledge.{next_along}
use Rattle.pfs_run.proofs.RunSteps.{from_none, in_run, is_done}
use Rattle.pfs_run.proofs.RunnerState.{standing_of, store_of}
use Rattle.pfs_run.proofs.runner.Runner.play.Goals as goal

pub take_seat-requires-clause-low : goal.take_seat-requires-clause-low
take_seat-requires-clause-low g c =
    let h = c.requires.here in
    let here = is_here c.playable.ensures c.few.ensures c.named.ensures c.actions.ensures c.requires.script.0 c.args.setting.now c.args.phases.now h.0 h.1 c.args.block.now h.2 h.3 c.requires.script.1 h.4 in
    here.playable.low

pub take_seat-requires-clause-high : goal.take_seat-requires-clause-high
take_seat-requires-clause-high g c =
    let h = c.requires.here in
    let here = is_here c.playable.ensures c.few.ensures c.named.ensures c.actions.ensures c.requires.script.0 c.args.setting.now c.args.phases.now h.0 h.1 c.args.block.now h.2 h.3 c.requires.script.1 h.4 in
    here.playable.high

pub take_seat-requires-clause-few : goal.take_seat-requires-clause-few
take_seat-requires-clause-few g c =
    let few = c.lines.ensures c.requires.script.0 c.args.setting.now c.args.phases.now c.args.block.now.session c.requires.script.1 in omega (arith, few)

pub written_cost-requires : goal.written_cost-requires
written_cost-requires g c =
    let h = c.requires.here in
    let here = is_here c.playable.ensures c.few.ensures c.named.ensures c.actions.ensures c.requires.script.0 c.args.setting.now c.args.phases.now h.0 h.1 c.args.block.now h.2 h.3 c.requires.script.1 h.4 in
    record { short = subst (λ (l : List BlockLine). length (written_out l) ≤ 200000) (sym c.as_slice.ensures) here.playable.short }

pub overflow_add-cost : goal.overflow_add-cost
overflow_add-cost g c =
    let h = c.requires.here in
    let here = is_here c.playable.ensures c.few.ensures c.named.ensures c.actions.ensures c.requires.script.0 c.args.setting.now c.args.phases.now h.0 h.1 c.args.block.now h.2 h.3 c.requires.script.1 h.4 in
    let short = subst (λ (l : List BlockLine). length (written_out l) ≤ 200000) (sym c.as_slice.ensures) here.playable.short in
    let rare = subst (λ (l : List BlockLine). actions_on (written_out l) ≤ 16666) (sym c.as_slice.ensures) here.rare in
    omega (arith, c.in_ok-cost.ensures.small, short, rare)

pub play_block-requires-clause-connects : goal.play_block-requires-clause-connects
play_block-requires-clause-connects g c =
    let h = c.requires.here in
    let here = is_here c.playable.ensures c.few.ensures c.named.ensures c.actions.ensures c.requires.script.0 c.args.setting.now c.args.phases.now h.0 h.1 c.args.block.now h.2 h.3 c.requires.script.1 h.4 in
    let is = ready_at c.args.setting.now c.args.phases.now h.0 h.1 c.args.block.now h.2 h.3 (standing_of g.N.Named.setting g.N.Named.change c.args.self.now.actor.rows c.args.self.now.actor.admin c.args.self.now.progress) h.5 here c.in_ok-session.session c.in_ok-session.ensures.session in
    subst (λ (fixed : Setting). IfSome c.args.block.now.connect (λ names. MayConnect c.reserve.new.self.state fixed names.user names.host)) (sym c.requires.setting)
    (subst (λ (s : State). IfSome c.args.block.now.connect (λ names. MayConnect s c.args.setting.now names.user names.host)) (sym c.reserve.ensures.state) is.connects)

pub play_block-requires-clause-named : goal.play_block-requires-clause-named
play_block-requires-clause-named g c =
    let h = c.requires.here in
    let here = is_here c.playable.ensures c.few.ensures c.named.ensures c.actions.ensures c.requires.script.0 c.args.setting.now c.args.phases.now h.0 h.1 c.args.block.now h.2 h.3 c.requires.script.1 h.4 in
    let is = ready_at c.args.setting.now c.args.phases.now h.0 h.1 c.args.block.now h.2 h.3 (standing_of g.N.Named.setting g.N.Named.change c.args.self.now.actor.rows c.args.self.now.actor.admin c.args.self.now.progress) h.5 here c.in_ok-session.session c.in_ok-session.ensures.session in
    subst (λ (change : Label → Change). LabelsName change c.reserve.new.self.state.number c.reserve.new.self.state.actions (changes_in c.args.block.now)) (sym c.requires.change)
    (subst (λ (s : State). LabelsName (change_in c.args.phases.now) s.number s.actions (changes_in c.args.block.now)) (sym c.reserve.ensures.state)
    (named_at c.args.setting.now c.args.phases.now h.0 h.1 c.args.block.now h.2 h.3 _ (h.5.earlier ++ h.5.current) c.in_ok-session.session here is h.5.course))

pub play_block-requires-clause-may : goal.play_block-requires-clause-may
play_block-requires-clause-may g c =
    let h = c.requires.here in
    let here = is_here c.playable.ensures c.few.ensures c.named.ensures c.actions.ensures c.requires.script.0 c.args.setting.now c.args.phases.now h.0 h.1 c.args.block.now h.2 h.3 c.requires.script.1 h.4 in
    let is = ready_at c.args.setting.now c.args.phases.now h.0 h.1 c.args.block.now h.2 h.3 (standing_of g.N.Named.setting g.N.Named.change c.args.self.now.actor.rows c.args.self.now.actor.admin c.args.self.now.progress) h.5 here c.in_ok-session.session c.in_ok-session.ensures.session in
    subst (λ (s : State). MayEnd s.opened.depth (kinds_at s) c.args.block.now.lines) (sym c.reserve.ensures.state) is.may

pub play_block-requires-clause-lie : goal.play_block-requires-clause-lie
play_block-requires-clause-lie g c =
    let h = c.requires.here in
    let here = is_here c.playable.ensures c.few.ensures c.named.ensures c.actions.ensures c.requires.script.0 c.args.setting.now c.args.phases.now h.0 h.1 c.args.block.now h.2 h.3 c.requires.script.1 h.4 in
    let is = ready_at c.args.setting.now c.args.phases.now h.0 h.1 c.args.block.now h.2 h.3 (standing_of g.N.Named.setting g.N.Named.change c.args.self.now.actor.rows c.args.self.now.actor.admin c.args.self.now.progress) h.5 here c.in_ok-session.session c.in_ok-session.ensures.session in
    subst (λ (s : State). StagesLie (kinds_at s)) (sym c.reserve.ensures.state) is.lie

pub play_block-requires-clause-free : goal.play_block-requires-clause-free
play_block-requires-clause-free g c =
    let h = c.requires.here in
    let here = is_here c.playable.ensures c.few.ensures c.named.ensures c.actions.ensures c.requires.script.0 c.args.setting.now c.args.phases.now h.0 h.1 c.args.block.now h.2 h.3 c.requires.script.1 h.4 in
    let is = ready_at c.args.setting.now c.args.phases.now h.0 h.1 c.args.block.now h.2 h.3 (standing_of g.N.Named.setting g.N.Named.change c.args.self.now.actor.rows c.args.self.now.actor.admin c.args.self.now.progress) h.5 here c.in_ok-session.session c.in_ok-session.ensures.session in
    ap (λ (s : State). s.held) c.reserve.ensures.state ∙ is.free

pub play_block-requires-clause-ready : goal.play_block-requires-clause-ready
play_block-requires-clause-ready g c =
    let h = c.requires.here in
    let here = is_here c.playable.ensures c.few.ensures c.named.ensures c.actions.ensures c.requires.script.0 c.args.setting.now c.args.phases.now h.0 h.1 c.args.block.now h.2 h.3 c.requires.script.1 h.4 in
    let is = ready_at c.args.setting.now c.args.phases.now h.0 h.1 c.args.block.now h.2 h.3 (standing_of g.N.Named.setting g.N.Named.change c.args.self.now.actor.rows c.args.self.now.actor.admin c.args.self.now.progress) h.5 here c.in_ok-session.session c.in_ok-session.ensures.session in
    let empty : c.reserve.new.self.journal.entries ≡ c.in_ok-session.session.journal.entries = ap (λ (j : Journal). j.entries) c.in_ok-reserve.ensures.ok in
    let begun = ready_same c.args.setting.now c.args.phases.now _ (h.5.earlier ++ h.5.current) c.args.block.now c.in_ok-session.session c.reserve.new.self c.reserve.ensures.state empty is in
    let cost = c.in_ok-cost.ensures.cost in
    let said = ap (λ (l : List BlockLine). cost_on (written_out l)) c.as_slice.ensures in
    let grown = ap (λ (j : Journal). j.room) c.in_ok-reserve.ensures.ok in
    let room : cost_on (written_out c.args.block.now.lines) + 648 ≤ c.reserve.new.self.journal.room = omega (arith, cost, said, grown) in
    needs_at c.args.setting.now c.args.phases.now h.0 h.1 c.args.block.now h.2 h.3 (standing_of g.N.Named.setting g.N.Named.change c.args.self.now.actor.rows c.args.self.now.actor.admin c.args.self.now.progress) h.5 here c.reserve.new.self begun room

pub keep_seat-requires-clause-low : goal.keep_seat-requires-clause-low
keep_seat-requires-clause-low g c =
    let h = c.requires.here in
    let here = is_here c.playable.ensures c.few.ensures c.named.ensures c.actions.ensures c.requires.script.0 c.args.setting.now c.args.phases.now h.0 h.1 c.args.block.now h.2 h.3 c.requires.script.1 h.4 in
    here.playable.low

pub keep_seat-requires-clause-high : goal.keep_seat-requires-clause-high
keep_seat-requires-clause-high g c =
    let h = c.requires.here in
    let here = is_here c.playable.ensures c.few.ensures c.named.ensures c.actions.ensures c.requires.script.0 c.args.setting.now c.args.phases.now h.0 h.1 c.args.block.now h.2 h.3 c.requires.script.1 h.4 in
    here.playable.high

pub count_lost-self-requires-clause-digests : goal.count_lost-self-requires-clause-digests
count_lost-self-requires-clause-digests g c =
    let h = c.requires.here in
    let here = is_here c.playable.ensures c.few.ensures c.named.ensures c.actions.ensures c.requires.script.0 c.args.setting.now c.args.phases.now h.0 h.1 c.args.block.now h.2 h.3 c.requires.script.1 h.4 in
    digests_at c.args.setting.now c.args.phases.now h.0 h.1 c.args.block.now h.2 h.3 (standing_of g.N.Named.setting g.N.Named.change c.args.self.now.actor.rows c.args.self.now.actor.admin c.args.self.now.progress) h.5 here

pub count_lost-self-requires-clause-statements : goal.count_lost-self-requires-clause-statements
count_lost-self-requires-clause-statements g c =
    let h = c.requires.here in
    let here = is_here c.playable.ensures c.few.ensures c.named.ensures c.actions.ensures c.requires.script.0 c.args.setting.now c.args.phases.now h.0 h.1 c.args.block.now h.2 h.3 c.requires.script.1 h.4 in
    statements_at c.args.setting.now c.args.phases.now h.0 h.1 c.args.block.now h.2 h.3 (standing_of g.N.Named.setting g.N.Named.change c.args.self.now.actor.rows c.args.self.now.actor.admin c.args.self.now.progress) h.5 here

pub count_lost-self-requires-clause-waits : goal.count_lost-self-requires-clause-waits
count_lost-self-requires-clause-waits g c =
    let h = c.requires.here in
    let here = is_here c.playable.ensures c.few.ensures c.named.ensures c.actions.ensures c.requires.script.0 c.args.setting.now c.args.phases.now h.0 h.1 c.args.block.now h.2 h.3 c.requires.script.1 h.4 in
    waits_at c.args.setting.now c.args.phases.now h.0 h.1 c.args.block.now h.2 h.3 (standing_of g.N.Named.setting g.N.Named.change c.args.self.now.actor.rows c.args.self.now.actor.admin c.args.self.now.progress) h.5 here

pub returns : goal.returns
returns g c before first others after is along =
    let setting = c.args.setting.now in
    let phases = c.args.phases.now in
    let block = c.args.block.now in
    let run = standing_of g.N.Named.setting g.N.Named.change c.args.self.now.actor.rows c.args.self.now.actor.admin c.args.self.now.progress in
    let now = store_of g.N.Named.setting g.N.Named.change c.play_block.new.actor.rows c.play_block.new.actor.admin in
    let here = is_here c.playable.ensures c.few.ensures c.named.ensures c.actions.ensures c.requires.script.0 setting phases before first block others after c.requires.script.1 is in
    let taken = ready_at setting phases before first block others after run along here c.in_ok-session.session c.in_ok-session.ensures.session in
    let empty : c.reserve.new.self.journal.entries ≡ c.in_ok-session.session.journal.entries = ap (λ (j : Journal). j.entries) c.in_ok-reserve.ensures.ok in
    let begun = ready_same setting phases _ (along.earlier ++ along.current) block c.in_ok-session.session c.reserve.new.self c.reserve.ensures.state empty taken in
    let text : c.take_log-log.result.entries ≡ c.in_ok-paused.paused.journal.entries = ap (λ (j : Journal). j.entries) c.take_log-log.ensures.journal in
    let report : BlockReport = record { session = block.session; entries = c.new.result; answers = c.new-2.result } in
    let did = in_run setting g.N.Named.setting g.N.Named.change (change_in phases) block c.reserve.new.self c.in_ok-paused.paused c.new-answers.result.items c.play_block.new.answers.items run.store.reached now.reached c.requires.setting c.requires.change c.in_ok-paused.ensures.did in
    let played = from_none setting setting (change_in phases) block c.reserve.new.self c.in_ok-paused.paused c.new-answers.result.items c.play_block.new.answers.items report.answers run.store.reached now.reached did c.new-answers.ensures.items c.new-2.ensures in
    let done = is_done setting phases before first block others after (along.earlier ++ along.current) c.reserve.new.self c.in_ok-paused.paused report.answers along.start along.calls run.store.reached now.reached
    here along.course along.answer along.none_over begun.state begun.entries played along.opens along.led along.alike (λ more r. r.0.answers) here.playable.short in
    next_along setting phases before first block others after run now c.keep_seat.new.seats.items c.count_lost-self.result
    c.push.new.self.items report c.reserve.new.self c.in_ok-paused.paused c.take_log-log.new.self here along begun done
    (ap (λ (b : Book). b.state) c.take_log-log.ensures.rest) (ap (λ (b : Book). b.journal.entries) c.take_log-log.ensures.rest) c.in_ok-paused.ensures.free c.in_ok-paused.ensures.kinds c.in_ok-paused.ensures.lie c.in_ok-paused.ensures.within
    (c.keep_seat.ensures ∙ ap (λ (z : List (Option Book)). slice_set z (block.session - 1) (Some c.take_log-log.new.self)) c.in_ok-session.ensures.seats)
    (c.count_lost-self.ensures.digests ∙ ap (λ (es : List Entry). c.args.self.now.progress.lost.digests + lost_digests es) text)
    (c.count_lost-self.ensures.statements ∙ ap (λ (es : List Entry). c.args.self.now.progress.lost.statements + lost_statements es) text) (c.count_lost-self.ensures.waits ∙ ap (λ (es : List Entry). c.args.self.now.progress.lost.waits + lost_waits es) text)
    refl (c.new.ensures ∙ text) c.in_ok-push.ensures.items
