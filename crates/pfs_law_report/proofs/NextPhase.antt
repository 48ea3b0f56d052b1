-- A phase's end by what whoever runs sessions has at hand there, one report more, and one spell more.
use Rattle.std.proofs.Common.{ℕ, ◌≡◌, ◌≤◌, ◌<◌, List, [], ◌∷◌, ◌++◌, ap, sym, ◌∙◌}
use Rattle.std.specs.List.{flat_map}
use Rattle.std.proofs.lemmas.List.{append_assoc, append-nil}
use Rattle.pfs_admin.specs.Fold.{StandsFor}
use Rattle.pfs_admin.specs.OpeningState.{opening_flags}
use Rattle.pfs_admin.specs.AdministrationStates.{State}
use Rattle.pfs_admin.specs.declared.changes.Change.{Change}
use Rattle.pfs_law_plain.specs.Spells.{Spell, calls_of}
use Rattle.pfs_board.specs.declared.view.Label.{Label}
use Rattle.pfs_classes.specs.declared.setting.Setting.{Setting}
use Rattle.pfs_containers.specs.Administration.{Containers}
use Rattle.pfs_finals.specs.Counters.{counters, lost_row}
use Rattle.pfs_finals.specs.Finals.{all_readings}
use Rattle.pfs_finals.specs.Finals.{AreFinal as AreTables}
use Rattle.pfs_finals.specs.declared.counters.LostCounters.{LostCounters}
use Rattle.pfs_journal.specs.declared.report.PhaseParts.{PhaseParts}
use Rattle.pfs_levels.specs.Calls.{Call, Opening}
use Rattle.pfs_levels.specs.PlainStore.{AllAnswer}
use Rattle.pfs_matching.specs.ObjectRules.{opening_objects}
use Rattle.pfs_model.specs.Chains.{Each, times, each_of}
use Rattle.pfs_reader.specs.Readings.{calls_of as calls_of_readings}
use Rattle.pfs_law_plain.proofs.ReadCalls.{LeadAlike}
use Rattle.pfs_law_plain.specs.RunRules.{entries_of, labels_of}
use Rattle.pfs_runs.specs.PhaseFinals.{is_digest_lost, is_lost_nested, is_lost_locker, verdict_at, lost_behind}
use Rattle.pfs_runs.specs.Runs.{AreFinal}
use Rattle.pfs_law_report.specs.PhaseEnds.{IsEnd, HasEnded}

-- the counters, one by one
pub record AreCounted (containers : Containers) (spells : List Spell) (lost : LostCounters) : Type 0 where
  pub threads : lost.threads ≡ containers.lost_threads
  pub accounts : lost.accounts ≡ containers.lost_accounts
  pub users : lost.users ≡ containers.lost_users
  pub hosts : lost.hosts ≡ containers.lost_hosts
  pub digests : lost.digests ≡ times is_digest_lost (entries_of spells)
  pub statements : lost.statements ≡ times is_lost_nested (each_of verdict_at (entries_of spells))
  pub waits : lost.waits ≡ times is_lost_locker (each_of verdict_at (entries_of spells))

-- seven numbers that are those of counters
abbrev lost_of : ℕ → ℕ → ℕ → ℕ → ℕ → ℕ → ℕ → LostCounters
lost_of threads accounts users hosts digests statements waits = record {
  threads = threads;
  accounts = accounts;
  users = users;
  hosts = hosts;
  digests = digests;
  statements = statements;
  waits = waits;
}

pub counted_is : (containers : Containers) (spells : List Spell) (lost : LostCounters) → AreCounted containers spells lost → lost ≡ lost_behind containers (entries_of spells)
counted_is containers spells lost c =
    let d : ℕ = times is_digest_lost (entries_of spells) in
    let n : ℕ = times is_lost_nested (each_of verdict_at (entries_of spells)) in
    ap (λ z. lost_of z lost.accounts lost.users lost.hosts lost.digests lost.statements lost.waits) c.threads
    ∙ (ap (λ z. lost_of containers.lost_threads z lost.users lost.hosts lost.digests lost.statements lost.waits) c.accounts
    ∙ (ap (λ z. lost_of containers.lost_threads containers.lost_accounts z lost.hosts lost.digests lost.statements lost.waits) c.users
    ∙ (ap (λ z. lost_of containers.lost_threads containers.lost_accounts containers.lost_users z lost.digests lost.statements lost.waits) c.hosts
    ∙ (ap (λ z. lost_of containers.lost_threads containers.lost_accounts containers.lost_users containers.lost_hosts z lost.statements lost.waits) c.digests
    ∙ (ap (λ z. lost_of containers.lost_threads containers.lost_accounts containers.lost_users containers.lost_hosts d z lost.waits) c.statements
    ∙ ap (λ z. lost_of containers.lost_threads containers.lost_accounts containers.lost_users containers.lost_hosts d n z) c.waits)))))

-- the tables as they were made, and the counters
pub end_of : (setting : Setting) (change : Label → Change) (spells : List Spell) (calls : List Call) (report : PhaseParts) (was now : Opening → List Call → Type 0) (admin : State)
    (lost : LostCounters) → LeadAlike calls (calls_of spells) → (made : AreTables setting report.tables was now)
    → AllAnswer (opening_flags setting opening_objects) (calls_of_readings (all_readings made.reads) ++ calls) → StandsFor setting change (labels_of spells) admin
    → AreCounted admin.kept.now spells lost → report.lost ≡ flat_map (lost_row setting.classes lost) counters → IsEnd setting change spells calls report
end_of setting change spells calls report was now admin lost alike made answers stands counted is = record {
  ops = alike.ops;
  sets = alike.sets;
  reads = made.reads;
  answers = answers;
  order = made.order_is;
  each = made.each;
  tables = made.tables_are;
  admin = admin;
  stands = stands;
  lost = is ∙ ap (λ z. flat_map (lost_row setting.classes z) counters) (counted_is admin.kept.now spells lost counted);
}

-- it ended behind all spells so far
pub ended_now : (setting : Setting) (change : Label → Change) (spells : List Spell) (calls : List Call) (report : PhaseParts) → Each (λ spell. spell.phase ≤ report.number) spells
    → IsEnd setting change spells calls report → HasEnded setting change spells report
ended_now setting change spells calls report low end = record {
  first = spells;
  later = [];
  parted = sym (append-nil spells);
  low = low;
  high = tt;
  calls = calls;
  ended = end;
}

-- one report more
pub ended_last : (setting : Setting) (change : Label → Change) (spells : List Spell) (reports : List PhaseParts) (report : PhaseParts) → AreFinal (HasEnded setting change spells) reports
    → HasEnded setting change spells report → AreFinal (HasEnded setting change spells) (reports ++ report ∷ [])
ended_last setting change spells [] report all one = (one, tt)
ended_last setting change spells (r ∷ rs) report all one = (all.0, ended_last setting change spells rs report all.1 one)

-- and one spell more, of a later phase
each_last : {A : Type 0} (P : A → Type 0) (xs : List A) (x : A) → Each P xs → P x → Each P (xs ++ x ∷ [])
each_last P [] x all one = (one, tt)
each_last P (y ∷ ys) x all one = (all.0, each_last P ys x all.1 one)

pub ended_more : (setting : Setting) (change : Label → Change) (spells : List Spell) (spell : Spell) (report : PhaseParts) → HasEnded setting change spells report → report.number < spell.phase
    → HasEnded setting change (spells ++ spell ∷ []) report
ended_more setting change spells spell report h past = record {
  first = h.first;
  later = h.later ++ spell ∷ [];
  parted = ap (λ z. z ++ spell ∷ []) h.parted ∙ append_assoc h.first h.later (spell ∷ []);
  low = h.low;
  high = each_last (λ (s : Spell). report.number < s.phase) h.later spell h.high past;
  calls = h.calls;
  ended = h.ended;
}

pub all_ended_more : (setting : Setting) (change : Label → Change) (spells : List Spell) (spell : Spell) (reports : List PhaseParts) → AreFinal (HasEnded setting change spells) reports
    → AreFinal (λ (report : PhaseParts). report.number < spell.phase) reports → AreFinal (HasEnded setting change (spells ++ spell ∷ [])) reports
all_ended_more setting change spells spell [] h past = tt
all_ended_more setting change spells spell (r ∷ rs) h past = (ended_more setting change spells spell r h.0 past.0, all_ended_more setting change spells spell rs h.1 past.1)
