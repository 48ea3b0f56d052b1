-- Behind any actions sessions and accounts stand with their places.
use Rattle.std.proofs.Common.{◌≡◌, refl, ℕ, zero, suc, List, [], ◌∷◌, replicate, Option, Some, None, sym, subst, ◌∙◌}
use Rattle.pfs_admin.specs.declared.changes.Change.{Change}
use Rattle.pfs_admin.specs.declared.changes.Change.TheVariants.{Connect, Quit, Truncate, Setup}
use Rattle.pfs_admin.specs.Fold.{stepped, state_from, state_of}
use Rattle.pfs_admin.specs.OpeningState.{opened}
use Rattle.pfs_admin.specs.AdministrationStates.{State}
use Rattle.pfs_admin.specs.Truncations.{has_truncated, action_of}
use Rattle.pfs_board.specs.declared.view.Label.{Label}
use Rattle.pfs_conservation.proofs.Connects.{Sound, sound_step}
use Rattle.pfs_containers.specs.Administration.{Containers, lowest_free, connect_at, connect_line}
use Rattle.pfs_containers.specs.Administration as fold
use Rattle.pfs_containers.specs.Connections.{entry_at}
use Rattle.pfs_containers.specs.Connections.{State as Places}
use Rattle.pfs_containers.specs.Connections as places
use Rattle.pfs_containers.specs.ContainerState.{opening_places}
use Rattle.pfs_rows.specs.declared.limits.Limits.{Limits}
use Rattle.pfs_rows.specs.declared.truncations.Truncation.{Truncation}
use Rattle.pfs_rows.specs.declared.truncations.Truncation.TheVariants.{Events, Summary, DigestSummary, Accounts, Users, Hosts, SetupActors, SetupObjects}
use Rattle.pfs_law_conservation.specs.TruncationLaws.{AreStanding, StandingLaw}

-- nobody stands anywhere at first
nothing_at : (X : Type 0) (n at : ℕ) → ◌≡◌ {A = Option X} (entry_at (replicate n None) at) None
nothing_at X zero at = refl
nothing_at X (suc n) zero = refl
nothing_at X (suc n) (suc at) = nothing_at X n at

is_none : {X : Type 0} (x : X) → ◌≡◌ {A = Option X} None (Some x) → ⊥
is_none x e = cc

opens_sound : (limits : Limits) → Sound (opening_places limits)
opens_sound limits = record {
  lives = λ slot x e. absurd (is_none x (sym (nothing_at _ limits.thread_instances slot) ∙ e));
  user = λ at x place e h. absurd (is_none x (sym (nothing_at _ limits.accounts at) ∙ e));
  host = λ at x place e h. absurd (is_none x (sym (nothing_at _ limits.accounts at) ∙ e));
}

-- each step is one of the containers' fold
connect_places : (c : Containers) (number user host : ℕ) (slot : Option ℕ) → places.stepped c.places (connect_line c.places number user host slot) ≡ (connect_at c number user host slot).places
connect_places c number user host None = refl
connect_places c number user host (Some slot) = refl

truncated_sound : (s : State) (what : Truncation) → Sound s.kept.now.places → Sound (has_truncated s what).kept.now.places
truncated_sound s (Summary kind table) sound = sound
truncated_sound s (Events kind table) sound = sound
truncated_sound s Accounts sound = sound_step 0 s.kept.now.places sound (action_of Accounts)
truncated_sound s Users sound = sound_step 0 s.kept.now.places sound (action_of Users)
truncated_sound s Hosts sound = sound_step 0 s.kept.now.places sound (action_of Hosts)
truncated_sound s DigestSummary sound = sound
truncated_sound s SetupActors sound = sound
truncated_sound s SetupObjects sound = sound

step_sound : (s : State) (session : ℕ) (what : Change) → Sound s.kept.now.places → Sound (stepped s session what).kept.now.places
step_sound s session (Connect user host) sound =
    subst Sound (connect_places s.kept.now session user host (lowest_free s.kept.now.places.threads))
    (sound_step 0 s.kept.now.places sound (fold.Connect session user host))
step_sound s session Quit sound = sound_step 0 s.kept.now.places sound (fold.Quit session)
step_sound s session (Truncate what) sound = truncated_sound s what sound
step_sound s session (Setup what) sound = sound

from_sound : (change : Label → Change) (s : State) (labels : List Label) → Sound s.kept.now.places → Sound (state_from change s labels).kept.now.places
unfolding state_from
from_sound change s [] sound = sound
from_sound change s (label ∷ labels) sound = from_sound change (stepped s label.session (change label)) labels (step_sound s label.session (change label) sound)

sound_stands : (s : Places) → Sound s → AreStanding s
sound_stands s sound = record {
  session_account = λ slot x place e h. (sound.lives slot x e).account place h;
  session_user = λ slot x place e h. (sound.lives slot x e).user place h;
  session_host = λ slot x place e h. (sound.lives slot x e).host place h;
  account_user = sound.user;
  account_host = sound.host;
}

pub standing_law : StandingLaw
standing_law setting change labels =
    sound_stands (state_of setting change labels).kept.now.places (from_sound change (opened setting) labels (opens_sound setting.limits))
