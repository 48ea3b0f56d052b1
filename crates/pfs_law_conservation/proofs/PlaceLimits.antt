-- There are as many places of a kind as its limit says, whatever was done, and none past them is in use.
use Rattle.std.proofs.Common.{◌≡◌, refl, ℕ, zero, suc, ◌≤◌, ◌==◌, List, [], ◌∷◌, length, replicate, take, Option, Some, None, slice_index_or, ◌∙◌, arith}
use Rattle.pfs_admin.specs.Fold.{stepped, state_from, state_of}
use Rattle.pfs_admin.specs.OpeningState.{opened}
use Rattle.pfs_admin.specs.AdministrationStates.{State}
use Rattle.pfs_admin.specs.Truncations.{action_of}
use Rattle.pfs_admin.specs.declared.changes.Change.{Change}
use Rattle.pfs_admin.specs.declared.changes.Change.TheVariants as changes
use Rattle.pfs_board.specs.declared.view.Label.{Label}
use Rattle.pfs_classes.specs.declared.setting.Setting.{Setting}
use Rattle.pfs_containers.proofs.PlaceBounds.{len_fill_at, len_fill}
use Rattle.pfs_containers.proofs.ConnectionTotals.{len_kept}
use Rattle.pfs_containers.specs.Administration.{Containers, Found, advanced, found_where, lowest_free, connect_at, session_of, quit_line}
use Rattle.pfs_containers.specs.Connections.{entry_of, emptied_at, in_use}
use Rattle.pfs_containers.specs.Connections.{State as Places, stepped as places_after}
use Rattle.pfs_containers.specs.declared.containers.Account.{Account}
use Rattle.pfs_containers.specs.declared.containers.Connection.{Connection}
use Rattle.pfs_model.specs.Chains.{action_change, each_of}
use Rattle.pfs_rows.specs.declared.limits.Limits.{Limits}
use Rattle.pfs_law_conservation.specs.RunTerms.{entries_to}
use Rattle.pfs_rows.specs.declared.truncations.Truncation.{Truncation}
use Rattle.pfs_rows.specs.declared.truncations.Truncation.TheVariants.{Events, Summary, DigestSummary, Accounts, Users, Hosts, SetupActors, SetupObjects}
use Rattle.pfs_law_conservation.specs.InfoRowLaws.{containers_to, LimitsLaw}
use Rattle.pfs_law_conservation.proofs.ActionSigns.{thread_none, account_none, user_none, host_none}

-- so many places there are
record AreMany (limits : Limits) (s : Places) : Type 0 where
  threads : length s.threads ≡ limits.thread_instances
  accounts : length s.accounts ≡ limits.accounts
  users : length s.users ≡ limits.users
  hosts : length s.hosts ≡ limits.hosts

len_emptied : {X : Type 0} (n : ℕ) (xs : List (Option X)) → length (emptied_at n xs) ≡ length xs
len_emptied n [] = refl
len_emptied zero (x ∷ xs) = refl
len_emptied (suc n) (x ∷ xs) = let e : length (emptied_at n xs) ≡ length xs = len_emptied n xs in omega (arith, e)

len_free : (X : Type 0) (n : ℕ) → length {A = Option X} (replicate n None) ≡ n
len_free X zero = refl
len_free X (suc n) = let e : length {A = Option X} (replicate n None) ≡ n = len_free X n in omega (arith, e)

connect_many : (limits : Limits) (c : Containers) (number user host : ℕ) → AreMany limits c.places → (slot : Option ℕ) → AreMany limits (connect_at c number user host slot).places
connect_many limits c number user host m None = m
connect_many limits c number user host m (Some slot) = record {
  threads = len_fill_at slot x c.places.threads ∙ m.threads;
  accounts = len_fill x.account (entry_of x) c.places.accounts ∙ m.accounts;
  users = len_fill x.user x.user_name c.places.users ∙ m.users;
  hosts = len_fill x.host x.host_name c.places.hosts ∙ m.hosts;
} where
  x : Connection
  x = session_of c.places number user host

quit_many : (limits : Limits) (s : Places) → AreMany limits s → (found : Option (Found Connection)) → AreMany limits (places_after s (quit_line found))
quit_many limits s m None = m
quit_many limits s m (Some found) = record {
  threads = len_emptied found.place s.threads ∙ m.threads;
  accounts = m.accounts;
  users = m.users;
  hosts = m.hosts;
}

truncate_many : (limits : Limits) (c : Containers) (what : Truncation) → AreMany limits c.places → AreMany limits (advanced c (action_of what)).places
truncate_many limits c (Summary kind table) m = m
truncate_many limits c Accounts m = record {
  threads = m.threads;
  accounts = len_kept 0 (in_use (λ x. x.account) c.places.threads) c.places.accounts ∙ m.accounts;
  users = m.users;
  hosts = m.hosts;
}
truncate_many limits c (Events kind table) m = m
truncate_many limits c Users m = record {
  threads = m.threads;
  accounts = len_kept 0 (in_use (λ x. x.account) c.places.threads) c.places.accounts ∙ m.accounts;
  users = len_kept 0 (in_use (λ x. x.user) c.places.threads) c.places.users ∙ m.users;
  hosts = m.hosts;
}
truncate_many limits c Hosts m = record {
  threads = m.threads;
  accounts = len_kept 0 (in_use (λ x. x.account) c.places.threads) c.places.accounts ∙ m.accounts;
  users = m.users;
  hosts = len_kept 0 (in_use (λ x. x.host) c.places.threads) c.places.hosts ∙ m.hosts;
}
truncate_many limits c DigestSummary m = m
truncate_many limits c SetupActors m = m
truncate_many limits c SetupObjects m = m

step_many : (limits : Limits) (s : State) (session : ℕ) (what : Change) → AreMany limits s.kept.now.places → AreMany limits (stepped s session what).kept.now.places
step_many limits s session (changes.Connect user host) m = connect_many limits s.kept.now session user host m (lowest_free s.kept.now.places.threads)
step_many limits s session changes.Quit m = quit_many limits s.kept.now.places m (found_where (λ x. x.number == session) s.kept.now.places.threads)
step_many limits s session (changes.Truncate what) m = truncate_many limits s.kept.now what m
step_many limits s session (changes.Setup what) m = m

from_many : (limits : Limits) (change : Label → Change) (s : State) (labels : List Label) → AreMany limits s.kept.now.places → AreMany limits (state_from change s labels).kept.now.places
unfolding state_from
from_many limits change s [] m = m
from_many limits change s (label ∷ labels) m = from_many limits change (stepped s label.session (change label)) labels (step_many limits s label.session (change label) m)

many : (setting : Setting) (change : Label → Change) (labels : List Label) → AreMany setting.limits (state_of setting change labels).kept.now.places
many setting change labels = from_many setting.limits change (opened setting) labels (record {
  threads = len_free Connection setting.limits.thread_instances;
  accounts = len_free Account setting.limits.accounts;
  users = len_free ℕ setting.limits.users;
  hosts = len_free ℕ setting.limits.hosts;
})

past : {X : Type 0} (n : ℕ) (xs : List (Option X)) → length xs ≤ n → slice_index_or xs n None ≡ None
past n [] l = refl
past zero (x ∷ xs) l = absurd (omega (arith, l))
past (suc n) (x ∷ xs) l = past n xs (omega (arith, l))

pub limits_law : LimitsLaw
limits_law run phase = record {
  threads = λ slot l. thread_none c slot (past slot c.places.threads (omega (arith, l, m.threads)));
  accounts = λ place l. account_none c place (past place c.places.accounts (omega (arith, l, m.accounts)));
  users = λ place l. user_none c place (past place c.places.users (omega (arith, l, m.users)));
  hosts = λ place l. host_none c place (past place c.places.hosts (omega (arith, l, m.hosts)));
} where
  c : Containers
  c = containers_to run phase

  m : AreMany run.setting.limits (containers_to run phase).places
  m = many run.setting run.change (take (length (each_of action_change (entries_to run phase))) run.labels)
