use Rattle.std.proofs.Common.{◌≡◌, ◌∙◌, ◌+◌, ℕ, false, [], length, Option, IfSome, ap, refl, sym, subst, arith}
use Rattle.pfs_law_script.specs.Course.{connecting}
use Rattle.pfs_actor.specs.ActionAsks.{MayConnect}
use Rattle.pfs_law_session.specs.Deeds.{Connecting}
use Rattle.pfs_play.proofs.ActionParts.{may_connect}
use Rattle.pfs_play.proofs.PassedLines.{acted_passed, may_act_passed, used_none, used_passed}
use Rattle.pfs_play.specs.Errands.{LabelsName}
use Rattle.pfs_runs.specs.ScriptLines.{connect_changes}
use Rattle.pfs_runs.specs.SelectAnswers.{connect_selections}
use Rattle.pfs_script.specs.declared.blocks.Connect.{Connect}
use Rattle.pfs_session.specs.SessionStates.{State}
use Rattle.pfs_blocks.specs.PlayedBlocks.{HasMet}
use Rattle.pfs_blocks.proofs.FoundSlots.{slots_found}
use Rattle.pfs_blocks.proofs.MetAsks.{met_action, met_nothing, met_passed}
use Rattle.pfs_blocks.proofs.blocks.connect_by.Goals as goal

pub connect-requires-clause-named : goal.connect-requires-clause-named
connect-requires-clause-named g c =
    (subst (λ (names : Option Connect). LabelsName g.A.Actor.change c.args.session.now.state.number c.args.session.now.state.actions (connect_changes names)) c.in-Some.is c.requires.named).0

pub connect-requires-clause-may : goal.connect-requires-clause-may
connect-requires-clause-may g c =
    subst (λ (names : Option Connect). IfSome names (λ connect. MayConnect c.args.session.now.state g.A.Actor.setting connect.user connect.host)) c.in-Some.is c.requires.may

pub connect-requires-clause-acts : goal.connect-requires-clause-acts
connect-requires-clause-acts g c = may_act_passed 5 6 c.args.session.now.journal (g.A.Readable.seen c.args.actor.now) (g.A.Readable.seen c.pass.new.self) c.pass.ensures.goes c.pass.ensures.kept c.requires.acts

pub returns-in-Some-clause-did : goal.returns-in-Some-clause-did
returns-in-Some-clause-did g c setting answers =
    let may = subst (λ (names : Option Connect). IfSome names (λ connect. MayConnect c.args.session.now.state g.A.Actor.setting connect.user connect.host)) c.in-Some.is c.requires.may in
    let user = c.in-Some.names.user in
    let host = c.in-Some.names.host in
    let old = c.args.session.now in
    let new = c.connect.new.session in
    let was = (g.A.Readable.seen c.args.actor.now).reached in
    let now = (g.A.Readable.seen c.connect.new.self).reached in
    let mid = (g.A.Readable.seen c.pass.new.self).reached in
    let acted = acted_passed g.A.Actor.setting g.A.Actor.change (λ admin. Connecting admin user host) old new was mid now c.pass.ensures.goes c.connect.ensures.acted in
    let few = slots_found g.A.Actor.setting g.A.Actor.change user host old new was now acted c.requires.acts.begun in
    subst (λ (names : Option Connect). HasMet setting g.A.Actor.setting g.A.Actor.change (connect_selections names) (connecting names) false old new answers answers was now) (sym c.in-Some.is)
    (met_action setting g.A.Actor.setting g.A.Actor.change (λ admin. Connecting admin user host) false old new answers was now acted refl (may_connect old.state acted.admin user host may.closed c.requires.free few) refl)

pub returns-in-Some-clause-actions : goal.returns-in-Some-clause-actions
returns-in-Some-clause-actions g c =
    let may = subst (λ (names : Option Connect). IfSome names (λ connect. MayConnect c.args.session.now.state g.A.Actor.setting connect.user connect.host)) c.in-Some.is c.requires.may in
    let made = ap (λ (s : State). s.actions) c.connect.ensures.rest in
    let one = ap (λ (names : Option Connect). length (connect_changes names)) c.in-Some.is in
    omega (arith, made, may.first, one)

pub returns-in-Some-clause-used : goal.returns-in-Some-clause-used
returns-in-Some-clause-used g c =
    used_passed 5 0 6 c.args.session.now.journal c.connect.new.session.journal (g.A.Readable.seen c.args.actor.now) (g.A.Readable.seen c.pass.new.self) (g.A.Readable.seen c.connect.new.self) c.pass.ensures.kept c.connect.ensures.used

pub returns-in-None-clause-did : goal.returns-in-None-clause-did
returns-in-None-clause-did g c setting answers =
    let was = (g.A.Readable.seen c.args.actor.now).reached in
    let mid = (g.A.Readable.seen c.pass.new.self).reached in
    subst (λ (names : Option Connect). HasMet setting g.A.Actor.setting g.A.Actor.change (connect_selections names) (connecting names) false c.args.session.now c.args.session.now answers answers was mid) (sym c.in-None.is)
    (met_passed setting g.A.Actor.setting g.A.Actor.change [] [] false c.args.session.now c.args.session.now answers answers was mid mid c.pass.ensures.goes
    (met_nothing setting g.A.Actor.setting g.A.Actor.change c.args.session.now answers mid))

pub returns-in-None-clause-used : goal.returns-in-None-clause-used
returns-in-None-clause-used g c = used_none 5 0 6 c.args.session.now.journal (g.A.Readable.seen c.args.actor.now) (g.A.Readable.seen c.pass.new.self) c.pass.ensures.kept

pub returns-in-None-clause-actions : goal.returns-in-None-clause-actions
returns-in-None-clause-actions g c =
    let none = ap (λ (names : Option Connect). length (connect_changes names)) c.in-None.is in
    omega (arith, none)
