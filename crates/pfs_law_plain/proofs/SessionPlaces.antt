-- In each state of the fold the places of a session are in range, and the cells of the classes ascend.
use Rattle.std.proofs.Common.{ℕ, zero, suc, ◌≡◌, ◌+◌, ◌<◌, ◌≤◌, ◌==◌, List, [], ◌∷◌, ◌++◌, map, length, Option, Some, None, refl, sym, subst, arith}
use Rattle.std.specs.List.{range_with_len}
use Rattle.std.specs.Prelude.{IfSome}
use Rattle.pfs_admin.proofs.FoldSteps.{fixed_law}
use Rattle.pfs_admin.specs.Fold.{stepped, state_from, state_of}
use Rattle.pfs_admin.specs.OpeningState.{cells_of, opened}
use Rattle.pfs_admin.specs.AdministrationStates.{State, seat_at, seat_in}
use Rattle.pfs_admin.specs.declared.changes.Change.{Change}
use Rattle.pfs_admin.specs.declared.changes.Change.TheVariants.{Connect, Quit, Truncate, Setup}
use Rattle.pfs_law_plain.specs.Spells.{Doing, Spell, parts_in, stints_of}
use Rattle.pfs_law_session.specs.Takes.{IsSeated, AreOnce, AreSeated, IsSeatedStint}
use Rattle.pfs_board.specs.declared.view.Label.{Label}
use Rattle.pfs_classes.specs.declared.setting.Setting.{Setting}
use Rattle.pfs_containers.proofs.PlaceBounds.{free_inside, session_has, seat_keeps, quit_keeps, opens_well, seat_in_range, quit_in_range}
use Rattle.pfs_containers.specs.Administration.{Containers, Found, advanced, found_where, lowest_free, session_of, quit_line, connect_at}
use Rattle.pfs_containers.proofs.TruncationBounds.{accounts_freed, users_freed, hosts_freed}
use Rattle.pfs_containers.specs.Connections.{in_use, FreesAccounts, stepped as places_after}
use Rattle.pfs_containers.specs.ContainerState.{AreWell, IsInRange, seat_by, seated}
use Rattle.pfs_containers.specs.declared.containers.Connection.{Connection}
use Rattle.pfs_levels.specs.Flushes.{Ascends, from_of}
use Rattle.pfs_model.specs.Chains.{Each}
use Rattle.pfs_law_session.specs.Deeds.{Deed, Connecting, Starting, Staging, StageEnding, Ending, Spending, Quitting, Truncating, Changing, Showing, Querying, Refusing, Closing}
use Rattle.pfs_law_session.specs.Stints.{AreDone}
use Rattle.pfs_law_plain.specs.ActionFolds.{FoldsTo, DoingsFolded, AreFolded}
use Rattle.pfs_admin.specs.FoldLaws.{row_of}
use Rattle.pfs_admin.specs.Truncations.{action_of, work_of_truncation}
use Rattle.pfs_rows.specs.declared.truncations.Truncation.{Truncation}
use Rattle.pfs_rows.specs.declared.truncations.Truncation.TheVariants.{Events, Summary, DigestSummary, Accounts, Users, Hosts, SetupActors, SetupObjects}
use Rattle.pfs_law_plain.proofs.CellKinds.{fold_kinds}
use Rattle.pfs_law_plain.proofs.ClassCount.{few_classes}
use Rattle.pfs_law_plain.proofs.TruncationRows.{rows_of_truncation}

-- no place that isn't there
connect_well : (c : Containers) (number user host : ℕ) → AreWell c.places → AreWell (connect_at c number user host (lowest_free c.places.threads)).places
connect_well c number user host well = by_slot (lowest_free c.places.threads) where
  by_slot : (slot : Option ℕ) → AreWell (connect_at c number user host slot).places
  by_slot None = well
  by_slot (Some slot) = seat_keeps c.places slot (session_of c.places number user host) well (session_has c.places well number user host)

quit_well : (c : Containers) (number : ℕ) → AreWell c.places → AreWell (places_after c.places (quit_line (found_where (λ x. x.number == number) c.places.threads)))
quit_well c number well = by_found (found_where (λ x. x.number == number) c.places.threads) where
  by_found : (found : Option (Found Connection)) → AreWell (places_after c.places (quit_line found))
  by_found None = well
  by_found (Some found) = quit_keeps c.places found.place well

truncation_well : (c : Containers) (what : Truncation) → AreWell c.places → AreWell (advanced c (action_of what)).places
truncation_well c (Summary kind table) well = well
truncation_well c (Events kind table) well = well
truncation_well c Accounts well = accounts_freed c.places (in_use (λ x. x.account) c.places.threads) _ refl well
truncation_well c Users well =
    users_freed (places_after c.places FreesAccounts) (in_use (λ x. x.user) c.places.threads) _ refl
    (accounts_freed c.places (in_use (λ x. x.account) c.places.threads) _ refl well)
truncation_well c Hosts well =
    hosts_freed (places_after c.places FreesAccounts) (in_use (λ x. x.host) c.places.threads) _ refl
    (accounts_freed c.places (in_use (λ x. x.account) c.places.threads) _ refl well)
truncation_well c DigestSummary well = well
truncation_well c SetupActors well = well
truncation_well c SetupObjects well = well

step_well : (s : State) (session : ℕ) (what : Change) → AreWell s.kept.now.places → AreWell (stepped s session what).kept.now.places
step_well s session (Connect user host) well = connect_well s.kept.now session user host well
step_well s session Quit well = quit_well s.kept.now session well
step_well s session (Truncate what) well = truncation_well s.kept.now what well
step_well s session (Setup what) well = well

from_well : (change : Label → Change) (s : State) (labels : List Label) → AreWell s.kept.now.places → AreWell (state_from change s labels).kept.now.places
unfolding state_from
from_well change s [] well = well
from_well change s (label ∷ labels) well = from_well change (stepped s label.session (change label)) labels (step_well s label.session (change label) well)

pub fold_well : (setting : Setting) (change : Label → Change) (labels : List Label) → AreWell (state_of setting change labels).kept.now.places
fold_well setting change labels =
    from_well change (opened setting) labels (opens_well setting.limits setting.in_range.thread_instances setting.in_range.accounts setting.in_range.users setting.in_range.hosts)

-- so a session's places are in range
pub seat_at_in : (c : Containers) (number user host : ℕ) → AreWell c.places → IfSome (seat_by c number user host (lowest_free c.places.threads)) IsInRange
seat_at_in c number user host well = by_slot (lowest_free c.places.threads) (free_inside c.places.threads) where
  by_slot : (slot : Option ℕ) → IfSome slot (λ p. p < length c.places.threads) → IfSome (seat_by c number user host slot) IsInRange
  by_slot None low = tt
  by_slot (Some slot) low = record {
    slot = omega (arith, low, well.threads_few);
    places = seat_in_range c.places (session_of c.places number user host) well (session_has c.places well number user host);
  }

pub seat_in_in : (c : Containers) (number : ℕ) → AreWell c.places → IfSome (seated (found_where (λ x. x.number == number) c.places.threads)) IsInRange
seat_in_in c number well = by_found (found_where (λ x. x.number == number) c.places.threads) refl where
  by_found : (found : Option (Found Connection)) → found ≡ found_where (λ x. x.number == number) c.places.threads → IfSome (seated found) IsInRange
  by_found None e = tt
  by_found (Some found) e = quit_in_range c.places number found.place found.entry well e

-- the cells
count_up : (a n : ℕ) → a + n ≤ 62 → Ascends a 64 (range_with_len a n ++ 62 ∷ 63 ∷ [])
count_up a zero h = (omega (arith, h), (omega arith, (omega arith, (omega arith, tt))))
count_up a (suc n) h = (omega arith, (omega (arith, h), count_up (a + 1) n (omega (arith, h))))

cells_ascend : (setting : Setting) → Ascends 0 64 (cells_of setting.classes)
cells_ascend setting = count_up 0 (length setting.classes.classes) (omega (arith, few_classes setting))

fold_cells : (setting : Setting) (change : Label → Change) (labels : List Label) → Ascends 0 64 (state_of setting change labels).cells
fold_cells setting change labels = subst (Ascends 0 64) (sym (fixed_law setting change labels (state_of setting change labels) refl).1) (cells_ascend setting)

-- of each line
deed_seated : (setting : Setting) (change : Label → Change) (session : ℕ) (label : Label) (labels : List Label) (deed : Deed) → FoldsTo setting change label labels deed → IsSeated session deed
deed_seated setting change session label labels (Connecting admin user host) f =
    subst (λ (s : State). IfSome (seat_at s session user host) IsInRange) (sym f.0) (seat_at_in (state_of setting change labels).kept.now session user host (fold_well setting change labels))
deed_seated setting change session label labels (Quitting admin) f =
    subst (λ (s : State). Ascends 0 64 s.cells × IfSome (seat_in s session) IsInRange) (sym f.0) (fold_cells setting change labels, seat_in_in (state_of setting change labels).kept.now session (fold_well setting change labels))
deed_seated setting change session label labels (Truncating admin what) f =
    subst (λ (s : State). AreOnce (map from_of (work_of_truncation s what).moves) × Ascends 1 14242 (map row_of (work_of_truncation s what).signs)) (sym f.0)
    (rows_of_truncation (state_of setting change labels) what (fold_kinds setting change labels))
deed_seated setting change session label labels (Changing admin what) f = tt
deed_seated setting change session label labels (Showing admin count) f = tt
deed_seated setting change session label labels (Querying readings count) f = tt
deed_seated setting change session label labels (Refusing error) f = tt
deed_seated setting change session label labels (Starting subject) f = tt
deed_seated setting change session label labels (Staging subject) f = tt
deed_seated setting change session label labels StageEnding f = tt
deed_seated setting change session label labels (Ending numbers) f = tt
deed_seated setting change session label labels (Spending time) f = tt
deed_seated setting change session label labels Closing f = tt

doings_seated : (setting : Setting) (change : Label → Change) (session : ℕ) (ds : List Doing) → DoingsFolded setting change ds → AreSeated session (parts_in ds)
doings_seated setting change session [] f = tt
doings_seated setting change session (d ∷ ds) f = (deed_seated setting change session d.label d.labels d.part.deed f.0, doings_seated setting change session ds f.1)

pub spells_seated : (setting : Setting) (change : Label → Change) (spells : List Spell) → AreFolded setting change spells → AreDone (stints_of spells) → Each IsSeatedStint (stints_of spells)
spells_seated setting change [] f done = tt
spells_seated setting change (spell ∷ spells) f done = (
  record { done = done.0; seated = doings_seated setting change spell.session spell.doings f.0 },
  spells_seated setting change spells f.1 done.1,
)
