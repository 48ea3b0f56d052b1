-- A session that connected found an administration of at most 32 thread slots, as each has that labels make.
use Rattle.std.proofs.Common.{ℕ, ◌≡◌, ◌≤◌, List, [], ◌∷◌, length, ap, sym, ◌∙◌, subst}
use Rattle.pfs_actor.specs.ActorDeeds.{HasActed, HaveLed}
use Rattle.pfs_admin.specs.AdministrationStates.{State as Administration}
use Rattle.pfs_admin.specs.declared.changes.Change.{Change}
use Rattle.pfs_board.specs.declared.view.Label.{Label}
use Rattle.pfs_classes.specs.declared.setting.Setting.{Setting}
use Rattle.pfs_law_plain.proofs.SessionPlaces.{fold_well}
use Rattle.pfs_law_plain.specs.ActionFolds.{DoingsFolded, FoldsTo}
use Rattle.pfs_law_plain.specs.Spells.{Doing, parts_in}
use Rattle.pfs_law_session.specs.Deeds.{Connecting, Part}
use Rattle.pfs_levels.specs.Calls.{Call, Opening}
use Rattle.pfs_play.proofs.NeedSteps.{SomeLed}
use Rattle.pfs_session.specs.SessionStates.{Book}

slots_of : (fixed : Setting) (change : Label → Change) (ds : List Doing) (p : Part) (admin : Administration) (user host : ℕ) → parts_in ds ≡ p ∷ [] → DoingsFolded fixed change ds → p.deed ≡ Connecting admin user host
    → length admin.kept.now.places.threads ≤ 32
slots_of fixed change [] p admin user host are folded is = absurd (cc)
slots_of fixed change (d ∷ ds) p admin user host are folded is =
    let same : d.part ≡ p = cc in
    let found : FoldsTo fixed change d.label d.labels (Connecting admin user host) = subst (FoldsTo fixed change d.label d.labels) (ap (λ (q : Part). q.deed) same ∙ is) folded.0 in
    subst (λ (a : Administration). length a.kept.now.places.threads ≤ 32) (sym found.0) (fold_well fixed change d.labels).threads_few

pub slots_found : (fixed : Setting) (change : Label → Change) (user host : ℕ) (old new : Book) (was now : Opening → List Call → Type 0) (p : HasActed fixed change (λ admin. Connecting admin user host) old new was now) → SomeLed was
    → length p.admin.kept.now.places.threads ≤ 32
slots_found fixed change user host old new was now p led =
    let way : HaveLed fixed change old.state (p.part ∷ []) led.0 led.1 now = p.done.leads led.0 led.1 led.2 in
    slots_of fixed change way.doings p.part p.admin user host way.parts_are way.folded p.deed_is
