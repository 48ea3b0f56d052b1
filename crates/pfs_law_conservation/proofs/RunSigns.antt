-- What the actions of a run sign: no row twice, and what is to be said of each row behind an action goes by its signs.
use Rattle.std.proofs.Common.{◌≡◌, refl, ℕ, zero, suc, ◌+◌, ◌-◌, ◌<◌, ◌≤◌, ◌==◌, Bool, true, false, cond, List, [], ◌∷◌, length, map, take, replicate, Option, Some, None, slice_index_or, sym, ap, subst, ◌∙◌, arith}
use Rattle.std.specs.Prelude.{slice_get, IfSome}
use Rattle.pfs_admin.proofs.ActionRows.{connect_rows, quit_rows}
use Rattle.pfs_admin.specs.ConnectionAsks.{connect_work, quit_work}
use Rattle.pfs_admin.specs.Fold.{stepped, state_from, state_of}
use Rattle.pfs_admin.specs.FoldLaws.{row_of}
use Rattle.pfs_admin.specs.OpeningState.{opened}
use Rattle.pfs_admin.specs.AdministrationStates.{State, seat_at, seat_in, thread_flags, connected, has_quit}
use Rattle.pfs_admin.specs.Truncations.{is_there, has_truncated}
use Rattle.pfs_admin.specs.Works.{Sign}
use Rattle.pfs_admin.specs.declared.changes.Change.{Change}
use Rattle.pfs_admin.specs.declared.changes.Change.TheVariants as changes
use Rattle.pfs_board.specs.declared.view.Label.{Label}
use Rattle.pfs_classes.specs.declared.setting.Setting.{Setting}
use Rattle.pfs_containers.specs.Administration.{Containers}
use Rattle.pfs_containers.specs.ContainerState.{AreWell, IsInRange}
use Rattle.pfs_containers.specs.declared.containers.Seated.{Seated}
use Rattle.pfs_levels.specs.Flushes.{Ascends}
use Rattle.pfs_model.specs.Chains.{times}
use Rattle.pfs_runs.specs.Labels.{work_for, work_of_label, work_at, label_at}
use Rattle.pfs_law_plain.proofs.SessionPlaces.{fold_well, seat_at_in, seat_in_in}
use Rattle.pfs_law_conservation.specs.InfoRowWords.{thread_said, account_said, user_said, host_said}
use Rattle.pfs_law_conservation.proofs.InfoActions.{signs_at}
use Rattle.pfs_law_conservation.proofs.LevelSigns.{truncation_once}
use Rattle.pfs_law_conservation.proofs.ActionSigns.{AreSaid, unsigned, thread_none, account_none, user_none, host_none, connect_said, quit_said}
use Rattle.pfs_law_conservation.proofs.TruncationSigns.{truncation_said}

-- rows that ascend are each signed once
past_none : (row low limit : ℕ) (signs : List Sign) → row < low → Ascends low limit (map row_of signs) → times (signs_at row) signs ≡ 0
past_none row low limit [] l a = refl
past_none row low limit (sign ∷ signs) l a =
    let e : times (signs_at row) signs ≡ 0 = past_none row (row_of sign + 1) limit signs (let k : low ≤ row_of sign = a.0 in omega (arith, k, l)) a.1.1 in
    ap (λ b. cond {A = ℕ} b 1 0 + times (signs_at row) signs) (apart (row_of sign) row (let k : low ≤ row_of sign = a.0 in omega (arith, k, l))) ∙ (omega (arith, e)) where
      apart : (a b : ℕ) → b < a → (a == b) ≡ false
      apart a b l = grind arith

once_at : (row low limit : ℕ) (signs : List Sign) → Ascends low limit (map row_of signs) → times (signs_at row) signs ≤ 1
once_at row low limit [] a = omega arith
once_at row low limit (sign ∷ signs) a = on (row_of sign == row) refl (once_at row (row_of sign + 1) limit signs a.1.1) where
  is : (a b : ℕ) → (a == b) ≡ true → a ≡ b
  is a b q = grind arith

  on : (b : Bool) → (row_of sign == row) ≡ b → times (signs_at row) signs ≤ 1 → cond {A = ℕ} b 1 0 + times (signs_at row) signs ≤ 1
  on true q l = (let e : row_of sign ≡ row = is (row_of sign) row q in
      let z : times (signs_at row) signs ≡ 0 = past_none row (row_of sign + 1) limit signs (omega (arith, e)) a.1.1 in omega (arith, z))
  on false q l = (omega (arith, l))

once_for : (row : ℕ) (s : State) (session : ℕ) (what : Change) → AreWell s.kept.now.places → times (signs_at row) (work_for s session what).signs ≤ 1
once_for row s session (changes.Connect user host) well = on (seat_at s session user host) (seat_at_in s.kept.now session user host well) where
  on : (o : Option Seated) → IfSome o IsInRange → times (signs_at row) (connect_work s.words (thread_flags s user host) (connected s session user host).kept.now o).signs ≤ 1
  on None r = omega arith
  on (Some seat) r = once_at row 1 129 (connect_work s.words (thread_flags s user host) (connected s session user host).kept.now (Some seat)).signs (connect_rows s.words (thread_flags s user host) (connected s session user host).kept.now seat r)
once_for row s session changes.Quit well = on (seat_in s session) (seat_in_in s.kept.now session well) where
  on : (o : Option Seated) → IfSome o IsInRange → times (signs_at row) (quit_work s.words s.cells (has_quit s session).kept.now o).signs ≤ 1
  on None r = omega arith
  on (Some seat) r = once_at row 1 10242 (quit_work s.words s.cells (has_quit s session).kept.now (Some seat)).signs (quit_rows s.words [] (has_quit s session).kept.now seat r tt).1
once_for row s session (changes.Truncate what) well = truncation_once row (is_there s.kept.now.places) (has_truncated s what).kept.now what
once_for row s session (changes.Setup what) well = omega arith

pub signed_once : (setting : Setting) (change : Label → Change) (labels : List Label) (row number : ℕ) → times (signs_at row) (work_at setting change labels number).signs ≤ 1
signed_once setting change labels row number = on (label_at labels number) where
  on : (o : Option Label) → times (signs_at row) (work_of_label change (state_of setting change (take (number - 1) labels)) o).signs ≤ 1
  on None = omega arith
  on (Some label) = once_for row (state_of setting change (take (number - 1) labels)) label.session (change label) (fold_well setting change (take (number - 1) labels))

-- one action more
said_for : (s : State) (session : ℕ) (what : Change) → AreWell s.kept.now.places → AreSaid s.kept.now (work_for s session what).signs (stepped s session what).kept.now
said_for s session (changes.Connect user host) well = connect_said s session user host (seat_at_in s.kept.now session user host well)
said_for s session changes.Quit well = quit_said s session (seat_in_in s.kept.now session well)
said_for s session (changes.Truncate what) well = truncation_said s what
said_for s session (changes.Setup what) well = unsigned s.kept.now

from_next : (change : Label → Change) (s : State) (labels : List Label) (k : ℕ) (label : Label) → slice_get labels k ≡ Some label
    → state_from change s (take (suc k) labels) ≡ stepped (state_from change s (take k labels)) label.session (change label)
unfolding state_from
from_next change s [] k label q = absurd (cc)
from_next change s (first ∷ labels) zero label q = ap (λ (l : Label). stepped s l.session (change l)) (same q) where
  same : Some first ≡ Some label → first ≡ label
  same q = cc
from_next change s (first ∷ labels) (suc k) label q = from_next change (stepped s first.session (change first)) labels k label q

labelled : (labels : List Label) (k : ℕ) → k < length labels → (label : Label) × (slice_get labels k ≡ Some label)
labelled [] k l = absurd (omega (arith, l))
labelled (label ∷ labels) zero l = (label, refl)
labelled (label ∷ labels) (suc k) l = labelled labels k (omega (arith, l))

-- who is connected where behind the first actions
abbrev pub behind : Setting → (Label → Change) → List Label → ℕ → Containers
behind setting change labels n = (state_of setting change (take n labels)).kept.now

pub said_next : (setting : Setting) (change : Label → Change) (labels : List Label) (k : ℕ) → k < length labels
    → AreSaid (behind setting change labels k) (work_at setting change labels (suc k)).signs (behind setting change labels (suc k))
said_next setting change labels k l = on (labelled labels k l) where
  minus : (k : ℕ) → suc k - 1 ≡ k
  minus k = omega arith

  on : (label : Label) × (slice_get labels k ≡ Some label) → AreSaid (behind setting change labels k) (work_at setting change labels (suc k)).signs (behind setting change labels (suc k))
  on (label, q) =
      let w : work_at setting change labels (suc k) ≡ work_for (state_of setting change (take k labels)) label.session (change label)
      = ap (λ n. work_of_label change (state_of setting change (take n labels)) (slice_get labels k)) (minus k)
      ∙ ap (work_of_label change (state_of setting change (take k labels))) q in
      subst (λ z. AreSaid (behind setting change labels k) z.signs (behind setting change labels (suc k))) (sym w)
      (subst (λ (z : State). AreSaid (behind setting change labels k) (work_for (state_of setting change (take k labels)) label.session (change label)).signs z.kept.now) (sym (from_next change (opened setting) labels k label q))
      (said_for (state_of setting change (take k labels)) label.session (change label) (fold_well setting change (take k labels))))

-- at first each place is free
free_at : {X : Type 0} (n place : ℕ) → slice_index_or {A = Option X} (replicate n None) place None ≡ None
free_at zero place = refl
free_at (suc n) zero = refl
free_at (suc n) (suc place) = free_at n place

pub record AreUnsaid (c : Containers) : Type 0 where
  pub threads : (q : ℕ) → thread_said c q ≡ None
  pub accounts : (q : ℕ) → account_said c q ≡ None
  pub users : (q : ℕ) → user_said c q ≡ None
  pub hosts : (q : ℕ) → host_said c q ≡ None

pub opening_unsaid : (setting : Setting) (change : Label → Change) (labels : List Label) → AreUnsaid (behind setting change labels 0)
unfolding state_from
opening_unsaid setting change labels = record {
  threads = λ q. thread_none (opened setting).kept.now q (free_at setting.limits.thread_instances q);
  accounts = λ q. account_none (opened setting).kept.now q (free_at setting.limits.accounts q);
  users = λ q. user_none (opened setting).kept.now q (free_at setting.limits.users q);
  hosts = λ q. host_none (opened setting).kept.now q (free_at setting.limits.hosts q);
}
