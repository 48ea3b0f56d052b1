use Rattle.std.proofs.Common.{◌≡◌, ◌∙◌, ◌+◌, ℕ, List, map, ap, sym, subst, length, arith}
use Rattle.pfs_event.specs.declared.kind.EventKind.{EventKind}
use Rattle.pfs_event.specs.Nests.{OpenEvents}
use Rattle.pfs_law_plain.specs.LineSteps.{kinds_at, kinds_in}
use Rattle.pfs_play.proofs.HeldBounds.{none_wide}
use Rattle.pfs_play.proofs.NeedSteps.{SomeLed, led_on}
use Rattle.pfs_play.specs.Errands.{NamesLines, StagesLie, asks_on, kinds_after}
use Rattle.pfs_play.specs.Needs.{Ready}
use Rattle.pfs_runs.specs.ScriptLines.{connect_changes}
use Rattle.pfs_runs.specs.SelectAnswers.{selection_on}
use Rattle.pfs_script.specs.declared.blocks.BlockLine.{BlockLine}
use Rattle.pfs_script.specs.Marks.{written_out}
use Rattle.pfs_session.specs.SessionStates.{State}
use Rattle.pfs_blocks.specs.PlayedBlocks.{HasMet, MayEnd}
use Rattle.pfs_blocks.specs.BlockNeeds.{Within, need_to_end}
use Rattle.pfs_blocks.proofs.BlockEnds.{met_block}
use Rattle.pfs_blocks.proofs.BlockNeeds.{IsConnected, block_within, may_pause, ready_connect, ready_connected}
use Rattle.pfs_blocks.proofs.LineNames.{block_named, connect_least, connect_named}
use Rattle.pfs_blocks.proofs.blocks.play_block.Goals as goal

pub connect_by-requires-clause-named : goal.connect_by-requires-clause-named
connect_by-requires-clause-named g c = connect_named g.A.Actor.change c.args.session.state.number c.args.session.state.actions c.args.block.now c.requires.named

pub connect_by-requires-clause-acts : goal.connect_by-requires-clause-acts
connect_by-requires-clause-acts g c = ready_connect c.args.block.now c.args.session (g.A.Readable.seen c.args.actor.now) c.requires.ready

pub play_to_end-requires-clause-may : goal.play_to_end-requires-clause-may
play_to_end-requires-clause-may g c =
    subst (λ (l : List BlockLine). MayEnd c.connect_by.new.session.state.opened.depth (kinds_in c.connect_by.new.session.state.opened.events) l) (sym c.as_slice.ensures)
    (subst (λ (o : OpenEvents). MayEnd o.depth (kinds_in o.events) c.args.block.now.lines) (sym (ap (λ (s : State). s.opened) c.connect_by.ensures.rest)) c.requires.may)

pub play_to_end-requires-clause-named : goal.play_to_end-requires-clause-named
play_to_end-requires-clause-named g c =
    let old = c.args.session.state in
    let new = c.connect_by.new.session.state in
    let lines : NamesLines g.A.Actor.change old.number (old.actions + length (connect_changes c.args.block.now.connect)) (written_out c.args.block.now.lines) =
    block_named g.A.Actor.change old.number old.actions old.opened.depth (kinds_at old) c.args.block.now c.requires.may c.requires.named in
    let made : NamesLines g.A.Actor.change old.number new.actions (written_out c.args.block.now.lines) =
    subst (λ k. NamesLines g.A.Actor.change old.number k (written_out c.args.block.now.lines)) (sym c.connect_by.ensures.actions) lines in
    let own : NamesLines g.A.Actor.change new.number new.actions (written_out c.args.block.now.lines) =
    subst (λ k. NamesLines g.A.Actor.change k new.actions (written_out c.args.block.now.lines)) (sym (ap (λ (s : State). s.number) c.connect_by.ensures.rest)) made in
    subst (λ (l : List BlockLine). NamesLines g.A.Actor.change new.number new.actions (written_out l)) (sym c.as_slice.ensures) own

pub play_to_end-requires-clause-lie : goal.play_to_end-requires-clause-lie
play_to_end-requires-clause-lie g c = subst (λ (o : OpenEvents). StagesLie (kinds_in o.events)) (sym (ap (λ (s : State). s.opened) c.connect_by.ensures.rest)) c.requires.lie

pub play_to_end-requires-clause-wide : goal.play_to_end-requires-clause-wide
play_to_end-requires-clause-wide g c = ap (λ (s : State). length s.held) c.connect_by.ensures.rest ∙ (ap length c.requires.free ∙ none_wide)

pub play_to_end-requires-clause-ready : goal.play_to_end-requires-clause-ready
play_to_end-requires-clause-ready g c =
    let was = g.A.Readable.seen c.args.actor.now in
    let now = g.A.Readable.seen c.connect_by.new.actor in
    let connected : IsConnected c.args.session c.connect_by.new.session was now =
    record { rest = c.connect_by.ensures.rest; actions = connect_least c.args.block.now.connect c.args.session.state.actions c.connect_by.new.session.state.actions c.connect_by.ensures.actions; used = c.connect_by.ensures.used } in
    let did = c.connect_by.ensures.did c.args.setting.now c.args.answers.now.items in
    let led : SomeLed now.reached = led_on g.A.Actor.setting g.A.Actor.change did.parts c.args.session c.connect_by.new.session was.reached now.reached did.done c.requires.ready.begun in
    subst (λ (l : List BlockLine). Ready (need_to_end l) c.connect_by.new.session now) (sym c.as_slice.ensures) (ready_connected c.args.block.now c.args.session c.connect_by.new.session was now c.requires.ready connected led)

pub pause-requires : goal.pause-requires
pause-requires g c =
    let was = g.A.Readable.seen c.args.actor.now in
    let mid = g.A.Readable.seen c.connect_by.new.actor in
    let now = g.A.Readable.seen c.play_to_end.new.actor in
    let connected : IsConnected c.args.session c.connect_by.new.session was mid =
    record { rest = c.connect_by.ensures.rest; actions = connect_least c.args.block.now.connect c.args.session.state.actions c.connect_by.new.session.state.actions c.connect_by.ensures.actions; used = c.connect_by.ensures.used } in
    let within : Within (need_to_end c.args.block.now.lines) c.connect_by.new.session c.play_to_end.new.session mid now =
    subst (λ (l : List BlockLine). Within (need_to_end l) c.connect_by.new.session c.play_to_end.new.session mid now) c.as_slice.ensures c.in-Ok.ensures.within in
    record { affords = may_pause c.args.block.now c.args.session c.connect_by.new.session c.play_to_end.new.session was mid now c.requires.ready connected within c.in-Ok.ensures.wide }

pub returns-in-Ok-clause-did : goal.returns-in-Ok-clause-did
returns-in-Ok-clause-did g c =
    let old = c.args.session in
    let one = c.connect_by.new.session in
    let two = c.play_to_end.new.session in
    let p = c.in-Ok.ensures.did in
    let setting = c.args.setting.now in
    let answers = c.args.answers.now.items in
    let behind = c.play_to_end.new.answers.items in
    let from = (g.A.Readable.seen c.connect_by.new.actor).reached in
    let to = (g.A.Readable.seen c.play_to_end.new.actor).reached in
    let said : List BlockLine = c.args.block.now.lines in
    let lines : HasMet setting g.A.Actor.setting g.A.Actor.change (map selection_on (written_out said)) (asks_on (written_out said)) p.over one two answers behind from to =
    subst (λ (l : List BlockLine). HasMet setting g.A.Actor.setting g.A.Actor.change (map selection_on (written_out l)) (asks_on (written_out l)) p.over one two answers behind from to) c.as_slice.ensures p.did in
    record {
      over = p.over;
      did = met_block setting g.A.Actor.setting g.A.Actor.change c.args.block.now.connect said p.over old one two c.pause.result answers behind (g.A.Readable.seen c.args.actor.now).reached from to (g.A.Readable.seen c.pause.new.self).reached
          (c.connect_by.ensures.did setting answers) lines c.pause.ensures.played;
    }

pub returns-in-Ok-clause-kinds : goal.returns-in-Ok-clause-kinds
returns-in-Ok-clause-kinds g c =
    ap (λ (s : State). kinds_at s) c.pause.ensures.state
    ∙ (c.in-Ok.ensures.kinds ∙ (ap (λ (l : List BlockLine). kinds_after (kinds_at c.connect_by.new.session.state) (written_out l)) c.as_slice.ensures ∙ ap (λ (k : List EventKind). kinds_after k (written_out c.args.block.now.lines)) (ap (λ (s : State). kinds_at s) c.connect_by.ensures.rest)))

pub returns-in-Ok-clause-lie : goal.returns-in-Ok-clause-lie
returns-in-Ok-clause-lie g c = subst StagesLie (sym (ap (λ (s : State). kinds_at s) c.pause.ensures.state)) c.in-Ok.ensures.lie

pub returns-in-Ok-clause-free : goal.returns-in-Ok-clause-free
returns-in-Ok-clause-free g c = ap (λ (s : State). s.held) c.pause.ensures.state

pub returns-in-Ok-clause-within : goal.returns-in-Ok-clause-within
returns-in-Ok-clause-within g c =
    let was = g.A.Readable.seen c.args.actor.now in
    let mid = g.A.Readable.seen c.connect_by.new.actor in
    let now = g.A.Readable.seen c.play_to_end.new.actor in
    let connected : IsConnected c.args.session c.connect_by.new.session was mid =
    record { rest = c.connect_by.ensures.rest; actions = connect_least c.args.block.now.connect c.args.session.state.actions c.connect_by.new.session.state.actions c.connect_by.ensures.actions; used = c.connect_by.ensures.used } in
    let within : Within (need_to_end c.args.block.now.lines) c.connect_by.new.session c.play_to_end.new.session mid now =
    subst (λ (l : List BlockLine). Within (need_to_end l) c.connect_by.new.session c.play_to_end.new.session mid now) c.as_slice.ensures c.in-Ok.ensures.within in
    block_within c.args.block.now c.args.session c.connect_by.new.session c.play_to_end.new.session c.pause.result was mid now (g.A.Readable.seen c.pause.new.self) connected within c.in-Ok.ensures.wide c.pause.ensures.state c.pause.ensures.used
