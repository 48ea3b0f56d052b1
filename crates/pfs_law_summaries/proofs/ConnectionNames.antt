-- Whoever is connected has names of the setting.
use Rattle.std.proofs.Common.{◌⊎◌, inl, inr, ◌≡◌, ℕ, zero, suc, ◌<◌, ◌==◌, Bool, true, false, cond, List, [], ◌∷◌, length, Option, Some, None, refl, sym, subst}
use Rattle.std.specs.Prelude.{All, IfSome}
use Rattle.std.specs.List.{flat_map, slice_index_or}
use Rattle.std.proofs.lemmas.List.Concat.{flat_map-cons}
use Rattle.std.proofs.lemmas.List.Elements.{All-nil, All-cons, All-head, All-tail, All-append, All-filter}
use Rattle.pfs_admin.specs.Truncations.{action_of}
use Rattle.pfs_admin.specs.declared.changes.Change.{Change}
use Rattle.pfs_admin.specs.declared.changes.Change.TheVariants as changes
use Rattle.pfs_admin.specs.declared.changes.SetupStatement.TheVariants as statements
use Rattle.pfs_board.specs.declared.view.Label.{Label}
use Rattle.pfs_classes.specs.declared.setting.Setting.{Setting}
use Rattle.pfs_conservation.proofs.Connects.{fill_was}
use Rattle.pfs_conservation.proofs.RowOwners.{kept_was}
use Rattle.pfs_conservation.specs.AdministrationFold.{Action, Connect, Quit, Truncate, Other, Summary, Accounts, Users, Hosts, Found, connect_line, quit_line, found_where, is_account, line_of, lowest_free, numbered, session_by, session_of, state_after}
use Rattle.pfs_conservation.specs.PlaceFolds.{Entry, Session, State, Connects, Truncates, Others, entry_at, entry_of, in_use, stepped}
use Rattle.pfs_law_script.specs.PlayableBlocks.{IsNamed}
use Rattle.pfs_exec.specs.Requests.{request_of}
use Rattle.pfs_exec.specs.declared.requests.Request.{Request}
use Rattle.pfs_exec.specs.declared.requests.Request.TheVariants as requests
use Rattle.pfs_runs.specs.ScriptLines.{connect_changes, changes_on, sql_changes, changes_in, change_in}
use Rattle.pfs_script.specs.Events.{blocks_for}
use Rattle.pfs_script.specs.Marks.{written_out}
use Rattle.pfs_script.specs.declared.blocks.Block.{Block}
use Rattle.pfs_script.specs.declared.blocks.BlockLine.{BlockLine}
use Rattle.pfs_script.specs.declared.blocks.BlockLine.TheVariants as said
use Rattle.pfs_script.specs.declared.blocks.Connect.{Connect as Names}
use Rattle.pfs_script.specs.declared.blocks.Phase.{Phase}
use Rattle.pfs_law_conservation.specs.RunActions.{action_for, actions_of}
use Rattle.pfs_rows.specs.declared.truncations.Truncation.{Truncation}
use Rattle.pfs_rows.specs.declared.truncations.Truncation.TheVariants as truncates
use Rattle.pfs_law_summaries.proofs.SummaryPlaces.{AreNamed}

-- a connect with names below so many
abbrev IsNamedAction : ℕ → Action → Type 0
IsNamedAction count (Connect number user host) = (user < count) × (host < count)
IsNamedAction count action = Unit {0}

abbrev IsNamedChange : ℕ → Change → Type 0
IsNamedChange count (changes.Connect user host) = (user < count) × (host < count)
IsNamedChange count changes.Quit = Unit {0}
IsNamedChange count (changes.Truncate what) = Unit {0}
IsNamedChange count (changes.Setup what) = Unit {0}

-- ---- along the fold

connected_named : (count : ℕ) (s : State) (slot : ℕ) (x : Session) → x.user_name < count → x.host_name < count → AreNamed count s → AreNamed count (stepped s (Connects slot x))
connected_named count s slot x u h named = record {
  account_users = λ a e q. by a e (λ k. k.user_name) u (fill_was x.account (entry_of x) s.accounts a e q) (named.account_users a e);
  account_hosts = λ a e q. by a e (λ k. k.host_name) h (fill_was x.account (entry_of x) s.accounts a e q) (named.account_hosts a e);
  users = λ p name q. name_by p name x.user s.users x.user_name u (fill_was x.user x.user_name s.users p name q) (named.users p name);
  hosts = λ p name q. name_by p name x.host s.hosts x.host_name h (fill_was x.host x.host_name s.hosts p name q) (named.hosts p name);
} where
  by : (a : ℕ) (e : Entry) (name : Entry → ℕ) → name (entry_of x) < count → (entry_at s.accounts a ≡ Some e) ⊎ ((x.account ≡ Some a) × (e ≡ entry_of x)) → (entry_at s.accounts a ≡ Some e → name e < count) → name e < count
  by a e name l (inl q) old = old q
  by a e name l (inr q) old = subst (λ k. name k < count) (sym q.1) l

  name_by : (p name : ℕ) (place : Option ℕ) (xs : List (Option ℕ)) (new : ℕ) → new < count → (entry_at xs p ≡ Some name) ⊎ ((place ≡ Some p) × (name ≡ new)) → (entry_at xs p ≡ Some name → name < count) → name < count
  name_by p name place xs new l (inl q) old = old q
  name_by p name place xs new l (inr q) old = subst (λ k. k < count) (sym q.1) l

names_of_session : (s : State) (number user host : ℕ) (o : Option (Found Entry)) → ((session_by s number user host o).user_name ≡ user) × ((session_by s number user host o).host_name ≡ host)
names_of_session s number user host None = (refl, refl)
names_of_session s number user host (Some account) = (refl, refl)

step_named : (count : ℕ) (s : State) (action : Action) → IsNamedAction count action → AreNamed count s → AreNamed count (stepped s (line_of 0 s action))
step_named count s (Connect number user host) names named = at (lowest_free s.threads) where
  at : (o : Option ℕ) → AreNamed count (stepped s (connect_line s number user host o))
  at None = named
  at (Some slot) =
      let n : ((session_of s number user host).user_name ≡ user) × ((session_of s number user host).host_name ≡ host) = names_of_session s number user host (found_where (is_account user host) s.accounts) in
      connected_named count s slot (session_of s number user host) (subst (λ k. k < count) (sym n.0) names.0) (subst (λ k. k < count) (sym n.1) names.1) named
step_named count s (Quit number) names named = at (found_where (λ x. x.number == number) s.threads) where
  at : (o : Option (Found Session)) → AreNamed count (stepped s (quit_line o))
  at None = named
  at (Some f) = record { account_users = named.account_users; account_hosts = named.account_hosts; users = named.users; hosts = named.hosts }
step_named count s (Truncate (Summary number level)) names named = at (number == 0) where
  at : (b : Bool) → AreNamed count (stepped s (cond b (Truncates level) Others))
  at true = named
  at false = named
step_named count s (Truncate Accounts) names named = record {
  account_users = λ a e q. named.account_users a e (kept_was (in_use (λ x. x.account) s.threads) s.accounts a e q).stood;
  account_hosts = λ a e q. named.account_hosts a e (kept_was (in_use (λ x. x.account) s.threads) s.accounts a e q).stood;
  users = named.users;
  hosts = named.hosts;
}
step_named count s (Truncate Users) names named = record {
  account_users = λ a e q. named.account_users a e (kept_was (in_use (λ x. x.account) s.threads) s.accounts a e q).stood;
  account_hosts = λ a e q. named.account_hosts a e (kept_was (in_use (λ x. x.account) s.threads) s.accounts a e q).stood;
  users = λ u name q. named.users u name (kept_was (in_use (λ x. x.user) s.threads) s.users u name q).stood;
  hosts = named.hosts;
}
step_named count s (Truncate Hosts) names named = record {
  account_users = λ a e q. named.account_users a e (kept_was (in_use (λ x. x.account) s.threads) s.accounts a e q).stood;
  account_hosts = λ a e q. named.account_hosts a e (kept_was (in_use (λ x. x.account) s.threads) s.accounts a e q).stood;
  users = named.users;
  hosts = λ h name q. named.hosts h name (kept_was (in_use (λ x. x.host) s.threads) s.hosts h name q).stood;
}
step_named count s Other names named = named

pub state_named : (count : ℕ) (opening : State) → AreNamed count opening → (action : ℕ → Action) → ((k : ℕ) → IsNamedAction count (action k)) → (n : ℕ) → AreNamed count (state_after opening action n)
state_named count opening named action each zero = named
state_named count opening named action each (suc n) =
    step_named count (state_after opening action n) (action (suc n)) (each (suc n)) (state_named count opening named action each n)

-- ---- the actions of a script

truncation_named : (count : ℕ) (what : Truncation) → IsNamedAction count (action_of what)
truncation_named count (truncates.Summary kind table) = tt
truncation_named count (truncates.Events kind table) = tt
truncation_named count truncates.Accounts = tt
truncation_named count truncates.Users = tt
truncation_named count truncates.Hosts = tt
truncation_named count truncates.DigestSummary = tt
truncation_named count truncates.SetupActors = tt
truncation_named count truncates.SetupObjects = tt

action_named : (count session : ℕ) (what : Change) → IsNamedChange count what → IsNamedAction count (action_for session what)
action_named count session (changes.Connect user host) h = h
action_named count session changes.Quit h = tt
action_named count session (changes.Truncate what) h = truncation_named count what
action_named count session (changes.Setup what) h = tt

numbered_named : (count : ℕ) (change : Label → Change) → ((label : Label) → IsNamedChange count (change label)) → (labels : List Label) (k : ℕ) → IsNamedAction count (numbered (actions_of change labels) k)
numbered_named count change each labels zero = tt
numbered_named count change each [] (suc k) = tt
numbered_named count change each (label ∷ labels) (suc zero) = action_named count label.session (change label) (each label)
numbered_named count change each (label ∷ labels) (suc (suc k)) = numbered_named count change each labels (suc k)

each_flat : {X Y : Type 0} (P : Y → Type 0) (f : X → List Y) (xs : List X) → All (λ x. All P (f x)) xs → All P (flat_map f xs)
each_flat P f [] h = All-nil P
each_flat P f (x ∷ xs) h =
    subst (All P) (sym (flat_map-cons f x xs)) (All-append P (f x) (flat_map f xs) (All-head (λ x. All P (f x)) x xs h) (each_flat P f xs (All-tail (λ x. All P (f x)) x xs h)))

at_or : {X : Type 0} (P : X → Type 0) (xs : List X) (i : ℕ) (d : X) → All P xs → P d → P (slice_index_or xs i d)
at_or P [] i d h last = last
at_or P (x ∷ xs) zero d h last = All-head P x xs h
at_or P (x ∷ xs) (suc i) d h last = at_or P xs i d (All-tail P x xs h) last

sql_named : (count : ℕ) (asks : Request) → All (IsNamedChange count) (sql_changes asks)
sql_named count (requests.Refused error) = All-nil (IsNamedChange count)
sql_named count (requests.Truncate what) = All-cons (IsNamedChange count) (changes.Truncate what) [] tt (All-nil (IsNamedChange count))
sql_named count (requests.Update update) = All-cons (IsNamedChange count) (changes.Setup (statements.Update update)) [] tt (All-nil (IsNamedChange count))
sql_named count (requests.Insert insert) = All-cons (IsNamedChange count) (changes.Setup (statements.Insert insert)) [] tt (All-nil (IsNamedChange count))
sql_named count (requests.Delete delete) = All-cons (IsNamedChange count) (changes.Setup (statements.Delete delete)) [] tt (All-nil (IsNamedChange count))
sql_named count (requests.Query select) = All-nil (IsNamedChange count)
sql_named count (requests.Show select) = All-cons (IsNamedChange count) (changes.Setup statements.Show) [] tt (All-nil (IsNamedChange count))

line_named : (count : ℕ) (line : BlockLine) → All (IsNamedChange count) (changes_on line)
line_named count said.Quit = All-cons (IsNamedChange count) changes.Quit [] tt (All-nil (IsNamedChange count))
line_named count (said.Sql text) = sql_named count (request_of text)
line_named count _ = All-nil (IsNamedChange count)

lines_named : (count : ℕ) (lines : List BlockLine) → All (λ line. All (IsNamedChange count) (changes_on line)) lines
lines_named count [] = All-nil (λ line. All (IsNamedChange count) (changes_on line))
lines_named count (line ∷ lines) = All-cons (λ line. All (IsNamedChange count) (changes_on line)) line lines (line_named count line) (lines_named count lines)

block_named : (setting : Setting) (block : Block) → IsNamed setting block → All (IsNamedChange (length setting.names)) (changes_in block)
block_named setting block h =
    All-append (IsNamedChange (length setting.names)) (connect_changes block.connect) (flat_map changes_on (written_out block.lines)) (at block.connect h)
    (each_flat (IsNamedChange (length setting.names)) changes_on (written_out block.lines) (lines_named (length setting.names) (written_out block.lines))) where
      at : (o : Option Names) → IfSome o (λ names. (names.user < length setting.names) × (names.host < length setting.names)) → All (IsNamedChange (length setting.names)) (connect_changes o)
      at None h = All-nil (IsNamedChange (length setting.names))
      at (Some names) h = All-cons (IsNamedChange (length setting.names)) (changes.Connect names.user names.host) [] h (All-nil (IsNamedChange (length setting.names)))

blocks_named : (setting : Setting) (blocks : List Block) → All (IsNamed setting) blocks → All (λ block. All (IsNamedChange (length setting.names)) (changes_in block)) blocks
blocks_named setting [] h = All-nil (λ block. All (IsNamedChange (length setting.names)) (changes_in block))
blocks_named setting (block ∷ blocks) h =
    All-cons (λ block. All (IsNamedChange (length setting.names)) (changes_in block)) block blocks (block_named setting block (All-head (IsNamed setting) block blocks h)) (blocks_named setting blocks (All-tail (IsNamed setting) block blocks h))

change_named : (setting : Setting) (phases : List Phase) → All (λ (phase : Phase). All (IsNamed setting) phase.blocks) phases → (label : Label) → IsNamedChange (length setting.names) (change_in phases label)
change_named setting phases h label =
    at_or (IsNamedChange (length setting.names)) _ _ (changes.Setup statements.Show)
    (each_flat (IsNamedChange (length setting.names)) changes_in (blocks_for label.session phases) (blocks_named setting (blocks_for label.session phases)
    (All-filter (λ (block : Block). block.session == label.session) (IsNamed setting) _ (each_flat (IsNamed setting) (λ (phase : Phase). phase.blocks) phases h)))) tt

-- so in every state that a script's actions lead to
pub script_named : (setting : Setting) (phases : List Phase) → All (λ (phase : Phase). All (IsNamed setting) phase.blocks) phases → (opening : State) → AreNamed (length setting.names) opening → (labels : List Label) (n : ℕ)
    → AreNamed (length setting.names) (state_after opening (numbered (actions_of (change_in phases) labels)) n)
script_named setting phases h opening named labels n =
    state_named (length setting.names) opening named (numbered (actions_of (change_in phases) labels)) (numbered_named (length setting.names) (change_in phases) (change_named setting phases h) labels) n
