-- What stands before a line leaves a store as it is: what is done behind it is done from before it on.
use Rattle.std.proofs.Common.{ℕ, [], List, ◌∙◌, arith}
use Rattle.pfs_actor.specs.ActionAsks.{MayAct}
use Rattle.pfs_actor.specs.ActorDeeds.{HasActed, HasDone}
use Rattle.pfs_admin.specs.AdministrationStates.{State as Administration}
use Rattle.pfs_admin.specs.declared.changes.Change.{Change}
use Rattle.pfs_board.specs.declared.view.Label.{Label}
use Rattle.pfs_classes.specs.declared.setting.Setting.{Setting}
use Rattle.pfs_event.specs.Logs.{Journal}
use Rattle.pfs_law_session.specs.Deeds.{Deed, Part}
use Rattle.pfs_levels.specs.Calls.{Call, Goes, Opening}
use Rattle.pfs_levels.specs.Views.{Affords, Same, Store, Used}
use Rattle.pfs_runs.specs.SelectAnswers.{Answer}
use Rattle.pfs_session.specs.SessionStates.{Book}
use Rattle.pfs_play.specs.Errand.{Errand}
use Rattle.pfs_play.specs.Errands.{HasRun}
use Rattle.pfs_play.specs.Needs.{Advanced, Need, Ready}

affords_passed : (spent drawn entries : ℕ) (log : Journal) (was mid : Store) → Same was mid → Affords spent drawn entries was log → Affords spent drawn entries mid log
affords_passed spent drawn entries log was mid same a = record {
  left = omega (arith, same.left, a.left);
  draws = omega (arith, same.draws, a.draws);
  room = a.room;
}

pub ready_passed : (need : Need) (session : Book) (was mid : Store) → Goes was.reached mid.reached [] → Same was mid → Ready need session was → Ready need session mid
ready_passed need session was mid goes same r = record {
  early = r.early;
  rare = r.rare;
  begun = (r.begun.0, r.begun.1, goes r.begun.0 r.begun.1 r.begun.2);
  affords = affords_passed need.spare need.tickets need.entries session.journal was mid same r.affords;
}

pub may_act_passed : (spent entries : ℕ) (log : Journal) (was mid : Store) → Goes was.reached mid.reached [] → Same was mid → MayAct spent entries was log → MayAct spent entries mid log
may_act_passed spent entries log was mid goes same m = record {
  begun = (m.begun.0, m.begun.1, goes m.begun.0 m.begun.1 m.begun.2);
  affords = affords_passed spent 0 entries log was mid same m.affords;
}

pub used_passed : (spent drawn entries : ℕ) (old new : Journal) (was mid now : Store) → Same was mid → Used spent drawn entries mid now old new → Used spent drawn entries was now old new
used_passed spent drawn entries old new was mid now same u = record {
  left = omega (arith, same.left, u.left);
  draws = omega (arith, same.draws, u.draws);
  no_more = omega (arith, same.draws, u.no_more);
  hand = λ row. u.hand row ∙ same.hand row;
  words = u.words ∙ same.words;
  name = u.name ∙ same.name;
  room = u.room;
}

pub used_none : (spent drawn entries : ℕ) (log : Journal) (was mid : Store) → Same was mid → Used spent drawn entries was mid log log
used_none spent drawn entries log was mid same = record {
  left = omega (arith, same.left);
  draws = omega (arith, same.draws);
  no_more = omega (arith, same.draws);
  hand = same.hand;
  words = same.words;
  name = same.name;
  room = omega arith;
}

pub advanced_passed : (need : Need) (old new : Book) (was mid now : Store) → Same was mid → Advanced need old new mid now → Advanced need old new was now
advanced_passed need old new was mid now same p = record {
  drawn = p.drawn;
  actions = p.actions;
  rest = p.rest;
  last = p.last;
  depth = p.depth;
  wide = p.wide;
  used = used_passed need.spare need.tickets need.entries old.journal new.journal was mid now same p.used;
}

pub done_passed : (fixed : Setting) (change : Label → Change) (parts : List Part) (old new : Book) (was mid now : Opening → List Call → Type 0) → Goes was mid [] → HasDone fixed change parts old new mid now → HasDone fixed change parts old new was now
done_passed fixed change parts old new was mid now goes d = record {
  are_parts = d.are_parts;
  state = d.state;
  entries_are = d.entries_are;
  leads = λ start calls led. d.leads start calls (goes start calls led);
}

pub acted_passed : (fixed : Setting) (change : Label → Change) (deed : Administration → Deed) (old new : Book) (was mid now : Opening → List Call → Type 0) → Goes was mid [] → HasActed fixed change deed old new mid now → HasActed fixed change deed old new was now
acted_passed fixed change deed old new was mid now goes a = record {
  admin = a.admin;
  part = a.part;
  deed_is = a.deed_is;
  done = done_passed fixed change _ old new was mid now goes a.done;
}

pub run_passed : (setting fixed : Setting) (change : Label → Change) (errand : Errand) (old new : Book) (before after : List Answer) (was mid now : Opening → List Call → Type 0) → Goes was mid [] → HasRun setting fixed change errand old new before after mid now
    → HasRun setting fixed change errand old new before after was now
run_passed setting fixed change errand old new before after was mid now goes r = record {
  part = r.part;
  asked = r.asked;
  given = r.given;
  given_are = r.given_are;
  answered = r.answered;
  done = done_passed fixed change _ old new was mid now goes r.done;
}
