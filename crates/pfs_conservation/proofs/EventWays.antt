-- The rows of an event's way belong to a key where the event leads to it; its path; and the actions that cover it.
use Rattle.std.proofs.Common.{◌⊎◌, inl, inr, ◌≡◌, ℕ, zero, suc, ◌+◌, ◌<◌, ◌≤◌, ◌==◌, ◌&&◌, Bool, true, false, cond, List, [], ◌∷◌, ◌++◌, length, Option, Some, None, count_by, refl, sym, ap, ◌∙◌, subst, arith}
use Rattle.std.specs.Prelude.{unwrap_or, is_some}
use Rattle.std.proofs.lemmas.Bool.{eqb-true}
use Rattle.pfs_lemmas.proofs.Numbers.{eq_self}
use Rattle.pfs_lemmas.proofs.Bools.{and_first}
use Rattle.pfs_conservation.specs.Ways.{steps_of, before_by}
use Rattle.pfs_conservation.specs.Conservation.{Follows, last_of}
use Rattle.pfs_conservation.specs.Tenures.{IsBy}
use Rattle.pfs_conservation.specs.PlaceFolds.{Place, Thread, Account, User, Host, Global, Session, entry_of, State, Level, ByThread, ByAccount, ByUser, ByHost, ByAll, Truncates, Others, level_takes, line_takes, entry_at, CellRows, thread_owner, account_owner, user_owner, host_owner, global_owner}
use Rattle.pfs_conservation.specs.AdministrationFold.{Action, Connect, Quit, Truncate, Other, Summary, Accounts, Users, Hosts, Found, found_where, lowest_free, connect_line, quit_line, line_of, numbered, state_after, state_before}
use Rattle.pfs_conservation.specs.CellHolders.{Seat, Numbering, IsIn, IsNumbering, rows_of, takes_by, own_place, own_at, map_row, way_of, IsSmall}
use Rattle.pfs_conservation.specs.KindSummaries.{Key, KeyThread, KeyAccount, KeyUser, KeyHost, KeyAll, matches, Shown, shown_by, shows_at, is_of, belongs_to, Whose, OfSession, leads_key, leads_at, opt_row, path_in, path_at, level_covers, covers_key, covers_at, those_to}
use Rattle.pfs_conservation.proofs.MergeTotals.{bit_yes, bit_no}
use Rattle.pfs_conservation.proofs.ChainEvents.{count_cons}
use Rattle.pfs_conservation.proofs.RowOwners.{clash, differ}
use Rattle.pfs_conservation.proofs.Connects.{Sound}
use Rattle.pfs_conservation.proofs.Tenancy.{Sits, SitsGlobal, SitsHost, SitsUser, SitsAccount, sits, home_seat, Comes, comes_account, comes_user, comes_host, before_global, slot_low, account_low, user_low, host_low}
use Rattle.pfs_conservation.proofs.KeyRows.{count_joined, count_if}

nil_if : (b : Bool) → cond {A = ℕ} b 0 0 ≡ 0
nil_if true = refl
nil_if false = refl

-- how often a row is on a path
path_count : (shown : Shown) (account user host : Option ℕ) (global r a u h g : ℕ) → count_by (λ x. x == r) (opt_row account) ≡ a → count_by (λ x. x == r) (opt_row user) ≡ u → count_by (λ x. x == r) (opt_row host) ≡ h → cond {A = ℕ} (global == r) 1 0 ≡ g
    → count_by (λ x. x == r) (path_in shown account user host global) ≡ cond shown.accounts a 0 + (cond shown.users u 0 + (cond shown.hosts h 0 + cond shown.global g 0))
path_count k account user host global r a u h g qa qu qh qg =
    count_joined r (cond k.accounts (opt_row account) []) (cond k.users (opt_row user) [] ++ (cond k.hosts (opt_row host) [] ++ cond k.global (global ∷ []) []))
    ∙ (ap (λ z. z + count_by (λ x. x == r) (cond k.users (opt_row user) [] ++ (cond k.hosts (opt_row host) [] ++ cond k.global (global ∷ []) []))) (count_if r k.accounts (opt_row account) ∙ ap (λ z. cond k.accounts z 0) qa)
    ∙ ap (λ z. cond k.accounts a 0 + z) (count_joined r (cond k.users (opt_row user) []) (cond k.hosts (opt_row host) [] ++ cond k.global (global ∷ []) [])
    ∙ (ap (λ z. z + count_by (λ x. x == r) (cond k.hosts (opt_row host) [] ++ cond k.global (global ∷ []) [])) (count_if r k.users (opt_row user) ∙ ap (λ z. cond k.users z 0) qu)
    ∙ ap (λ z. cond k.users u 0 + z) (count_joined r (cond k.hosts (opt_row host) []) (cond k.global (global ∷ []) [])
    ∙ (ap (λ z. z + count_by (λ x. x == r) (cond k.global (global ∷ []) [])) (count_if r k.hosts (opt_row host) ∙ ap (λ z. cond k.hosts z 0) qh)
    ∙ ap (λ z. cond k.hosts h 0 + z) (count_if r k.global (global ∷ []) ∙ ap (λ z. cond k.global z 0) (let e : count_by (λ x. x == r) (global ∷ []) ≡ cond {A = ℕ} (global == r) 1 0 + 0 = count_cons (λ x. x == r) global [] in omega (arith, e, qg))))))))

opt_none : (f : ℕ → ℕ) (o : Option ℕ) (r : ℕ) → ((y : ℕ) → o ≡ Some y → (f y == r) ≡ false) → count_by (λ x. x == r) (opt_row (map_row f o)) ≡ 0
opt_none f None r h = refl
opt_none f (Some y) r h = omega (arith, count_cons (λ x. x == r) (f y) [], bit_no (f y == r) (h y refl))

opt_one : (f : ℕ → ℕ) (o : Option ℕ) (r y : ℕ) → o ≡ Some y → f y ≡ r → count_by (λ x. x == r) (opt_row (map_row f o)) ≡ 1
opt_one f None r y h q = clash y h
opt_one f (Some z) r y h q = omega (arith, count_cons (λ x. x == r) (f z) [], bit_yes (f z == r) (ap (λ k. f k == r) (some_is z y h) ∙ (ap (λ k. k == r) q ∙ eq_self r)))
  where
    some_is : (a b : ℕ) → ◌≡◌ {A = Option ℕ} (Some a) (Some b) → a ≡ b
    some_is a b h = cc

agree : (i s m l : Bool) → (s ≡ true → m ≡ l) → ◌≡◌ {A = ℕ} (cond (i && (s && m)) 1 0) (cond (i && l) (0 + cond {A = ℕ} s 1 0) 0)
agree true true m l h = ap (λ (b : Bool). cond {A = ℕ} b 1 0) (h refl)
agree true false m true h = refl
agree true false m false h = refl
agree false s m l h = refl

all_leads : (key : Key) (rows : CellRows) (x : Session) → matches key (thread_owner rows x) ≡ leads_key key x
all_leads (KeyThread number slot) rows x = refl
all_leads (KeyAccount user host) rows x = refl
all_leads (KeyUser user) rows x = refl
all_leads (KeyHost host) rows x = refl
all_leads KeyAll rows x = refl

account_leads : (key : Key) (rows : CellRows) (x : Session) (a : ℕ) → x.account ≡ Some a → (shown_by key).accounts ≡ true → matches key (account_owner rows (entry_of x)) ≡ leads_key key x
account_leads (KeyThread number slot) rows x a w h = differ (sym h)
account_leads (KeyAccount user host) rows x a w h = ap (λ (o : Option ℕ). is_some o && ((x.user_name == user) && (x.host_name == host))) (sym w)
account_leads (KeyUser user) rows x a w h = refl
account_leads (KeyHost host) rows x a w h = refl
account_leads KeyAll rows x a w h = refl

user_leads : (key : Key) (x : Session) (a : ℕ) → x.user ≡ Some a → (shown_by key).users ≡ true → matches key (user_owner x.user_name) ≡ leads_key key x
user_leads (KeyThread number slot) x a w h = differ (sym h)
user_leads (KeyAccount user host) x a w h = differ (sym h)
user_leads (KeyUser user) x a w h = ap (λ (o : Option ℕ). is_some o && (x.user_name == user)) (sym w)
user_leads (KeyHost host) x a w h = differ (sym h)
user_leads KeyAll x a w h = differ (sym h)

host_leads : (key : Key) (rows : CellRows) (x : Session) (a : ℕ) → x.host ≡ Some a → (shown_by key).hosts ≡ true → matches key (host_owner rows x.host_name) ≡ leads_key key x
host_leads (KeyThread number slot) rows x a w h = differ (sym h)
host_leads (KeyAccount user host) rows x a w h = differ (sym h)
host_leads (KeyUser user) rows x a w h = differ (sym h)
host_leads (KeyHost host) rows x a w h = ap (λ (o : Option ℕ). is_some o && (x.host_name == host)) (sym w)
host_leads KeyAll rows x a w h = refl

global_leads : (key : Key) (x : Session) → (shown_by key).global ≡ true → matches key global_owner ≡ leads_key key x
global_leads (KeyThread number slot) x h = differ (sym h)
global_leads (KeyAccount user host) x h = differ (sym h)
global_leads (KeyUser user) x h = differ (sym h)
global_leads (KeyHost host) x h = differ (sym h)
global_leads KeyAll x h = refl

-- a path is a part of the way
follow : (before : ℕ → Option ℕ) (home : ℕ) (account user host : Option ℕ) (global : ℕ)
    → ((a : ℕ) → account ≡ Some a → (before a ≡ Some home) × ((a == home) ≡ false)) → ((u : ℕ) → user ≡ Some u → (before u ≡ Some (unwrap_or account home)) × ((u == home) ≡ false))
    → ((h : ℕ) → host ≡ Some h → (before h ≡ Some (unwrap_or account home)) × ((h == home) ≡ false)) → (before global ≡ Some (unwrap_or host (unwrap_or account home))) × ((global == home) ≡ false)
    → (key : Key) → Follows before home home (path_in (shown_by key) account user host global)
follow before home account user host global fa fu fh fg (KeyThread number slot) = tt
follow before home None user host global fa fu fh fg (KeyAccount u h) = tt
follow before home (Some a) user host global fa fu fh fg (KeyAccount u h) = ((fa a refl).0, (fa a refl).1, tt)
follow before home None None host global fa fu fh fg (KeyUser u) = tt
follow before home None (Some y) host global fa fu fh fg (KeyUser u) = ((fu y refl).0, (fu y refl).1, tt)
follow before home (Some a) None host global fa fu fh fg (KeyUser u) = ((fa a refl).0, (fa a refl).1, tt)
follow before home (Some a) (Some y) host global fa fu fh fg (KeyUser u) = ((fa a refl).0, (fa a refl).1, ((fu y refl).0, (fu y refl).1, tt))
follow before home None user None global fa fu fh fg (KeyHost u) = tt
follow before home None user (Some y) global fa fu fh fg (KeyHost u) = ((fh y refl).0, (fh y refl).1, tt)
follow before home (Some a) user None global fa fu fh fg (KeyHost u) = ((fa a refl).0, (fa a refl).1, tt)
follow before home (Some a) user (Some y) global fa fu fh fg (KeyHost u) = ((fa a refl).0, (fa a refl).1, ((fh y refl).0, (fh y refl).1, tt))
follow before home None user None global fa fu fh fg KeyAll = (fg.0, fg.1, tt)
follow before home None user (Some y) global fa fu fh fg KeyAll = ((fh y refl).0, (fh y refl).1, (fg.0, fg.1, tt))
follow before home (Some a) user None global fa fu fh fg KeyAll = ((fa a refl).0, (fa a refl).1, (fg.0, fg.1, tt))
follow before home (Some a) user (Some y) global fa fu fh fg KeyAll = ((fa a refl).0, (fa a refl).1, ((fh y refl).0, (fh y refl).1, (fg.0, fg.1, tt)))

-- where a path ends, if the event leads to the key
data Ends (key : Key) (account user host : Option ℕ) (home global last : ℕ) : Type 0 where
  EndsHome : (number slot : ℕ) → key ≡ KeyThread number slot → last ≡ home → Ends key account user host home global last
  EndsAccount : (u h row : ℕ) → key ≡ KeyAccount u h → account ≡ Some row → last ≡ row → Ends key account user host home global last
  EndsUser : (u row : ℕ) → key ≡ KeyUser u → user ≡ Some row → last ≡ row → Ends key account user host home global last
  EndsHost : (h row : ℕ) → key ≡ KeyHost h → host ≡ Some row → last ≡ row → Ends key account user host home global last
  EndsAll : key ≡ KeyAll → last ≡ global → Ends key account user host home global last

ends : (key : Key) (home : ℕ) (account user host : Option ℕ) (global : ℕ) → (((u h : ℕ) → key ≡ KeyAccount u h → is_some account ≡ true)) → ((u : ℕ) → key ≡ KeyUser u → is_some user ≡ true) → ((h : ℕ) → key ≡ KeyHost h → is_some host ≡ true)
    → Ends key account user host home global (last_of home (path_in (shown_by key) account user host global))
ends (KeyThread number slot) home account user host global fa fu fh = EndsHome number slot refl refl
ends (KeyAccount u h) home None user host global fa fu fh = differ (sym (fa u h refl))
ends (KeyAccount u h) home (Some a) user host global fa fu fh = EndsAccount u h a refl refl refl
ends (KeyUser u) home account None host global fa fu fh = differ (sym (fu u refl))
ends (KeyUser u) home None (Some y) host global fa fu fh = EndsUser u y refl refl refl
ends (KeyUser u) home (Some a) (Some y) host global fa fu fh = EndsUser u y refl refl refl
ends (KeyHost u) home account user None global fa fu fh = differ (sym (fh u refl))
ends (KeyHost u) home None user (Some y) global fa fu fh = EndsHost u y refl refl refl
ends (KeyHost u) home (Some a) user (Some y) global fa fu fh = EndsHost u y refl refl refl
ends KeyAll home None user None global fa fu fh = EndsAll refl refl
ends KeyAll home None user (Some y) global fa fu fh = EndsAll refl refl
ends KeyAll home (Some a) user None global fa fu fh = EndsAll refl refl
ends KeyAll home (Some a) user (Some y) global fa fu fh = EndsAll refl refl

-- the table of covering actions agrees with what an action takes
no_connect : (s : State) (number user host : ℕ) (o : Option ℕ) (place : Place) → false ≡ line_takes (connect_line s number user host o) place
no_connect s number user host None place = refl
no_connect s number user host (Some slot) place = refl

no_quit_account : (o : Option (Found Session)) (a : ℕ) → false ≡ line_takes (quit_line o) (Account a)
no_quit_account None a = refl
no_quit_account (Some f) a = refl

no_quit_user : (o : Option (Found Session)) (a : ℕ) → false ≡ line_takes (quit_line o) (User a)
no_quit_user None a = refl
no_quit_user (Some f) a = refl

no_quit_host : (o : Option (Found Session)) (a : ℕ) → false ≡ line_takes (quit_line o) (Host a)
no_quit_host None a = refl
no_quit_host (Some f) a = refl

no_quit_global : (o : Option (Found Session)) → false ≡ line_takes (quit_line o) Global
no_quit_global None = refl
no_quit_global (Some f) = refl

table_takes : (b : Bool) (level : Level) (covers : Bool) (place : Place) → covers ≡ level_takes level place → (b && covers) ≡ line_takes (cond b (Truncates level) Others) place
table_takes true level covers place h = h
table_takes false level covers place h = refl

account_level : (u h a : ℕ) (level : Level) → level_covers (KeyAccount u h) level ≡ level_takes level (Account a)
account_level u h a ByThread = refl
account_level u h a ByAccount = refl
account_level u h a ByUser = refl
account_level u h a ByHost = refl
account_level u h a ByAll = refl

user_level : (u a : ℕ) (level : Level) → level_covers (KeyUser u) level ≡ level_takes level (User a)
user_level u a ByThread = refl
user_level u a ByAccount = refl
user_level u a ByUser = refl
user_level u a ByHost = refl
user_level u a ByAll = refl

host_level : (u a : ℕ) (level : Level) → level_covers (KeyHost u) level ≡ level_takes level (Host a)
host_level u a ByThread = refl
host_level u a ByAccount = refl
host_level u a ByUser = refl
host_level u a ByHost = refl
host_level u a ByAll = refl

all_level : (level : Level) → level_covers KeyAll level ≡ level_takes level Global
all_level ByThread = refl
all_level ByAccount = refl
all_level ByUser = refl
all_level ByHost = refl
all_level ByAll = refl

pub account_covers : (kind u h a : ℕ) (s : State) (action : Action) → covers_key kind (KeyAccount u h) action ≡ line_takes (line_of kind s action) (Account a)
account_covers kind u h a s (Connect number user host) = no_connect s number user host (lowest_free s.threads) (Account a)
account_covers kind u h a s (Quit number) = no_quit_account (found_where (λ x. x.number == number) s.threads) a
account_covers kind u h a s (Truncate (Summary number level)) = table_takes (number == kind) level (level_covers (KeyAccount u h) level) (Account a) (account_level u h a level)
account_covers kind u h a s (Truncate Accounts) = refl
account_covers kind u h a s (Truncate Users) = refl
account_covers kind u h a s (Truncate Hosts) = refl
account_covers kind u h a s Other = refl

pub user_covers : (kind u a : ℕ) (s : State) (action : Action) → covers_key kind (KeyUser u) action ≡ line_takes (line_of kind s action) (User a)
user_covers kind u a s (Connect number user host) = no_connect s number user host (lowest_free s.threads) (User a)
user_covers kind u a s (Quit number) = no_quit_user (found_where (λ x. x.number == number) s.threads) a
user_covers kind u a s (Truncate (Summary number level)) = table_takes (number == kind) level (level_covers (KeyUser u) level) (User a) (user_level u a level)
user_covers kind u a s (Truncate Accounts) = refl
user_covers kind u a s (Truncate Users) = refl
user_covers kind u a s (Truncate Hosts) = refl
user_covers kind u a s Other = refl

pub host_covers : (kind u a : ℕ) (s : State) (action : Action) → covers_key kind (KeyHost u) action ≡ line_takes (line_of kind s action) (Host a)
host_covers kind u a s (Connect number user host) = no_connect s number user host (lowest_free s.threads) (Host a)
host_covers kind u a s (Quit number) = no_quit_host (found_where (λ x. x.number == number) s.threads) a
host_covers kind u a s (Truncate (Summary number level)) = table_takes (number == kind) level (level_covers (KeyHost u) level) (Host a) (host_level u a level)
host_covers kind u a s (Truncate Accounts) = refl
host_covers kind u a s (Truncate Users) = refl
host_covers kind u a s (Truncate Hosts) = refl
host_covers kind u a s Other = refl

pub all_covers : (kind : ℕ) (s : State) (action : Action) → covers_key kind KeyAll action ≡ line_takes (line_of kind s action) Global
all_covers kind s (Connect number user host) = no_connect s number user host (lowest_free s.threads) Global
all_covers kind s (Quit number) = no_quit_global (found_where (λ x. x.number == number) s.threads)
all_covers kind s (Truncate (Summary number level)) = table_takes (number == kind) level (level_covers KeyAll level) Global (all_level level)
all_covers kind s (Truncate Accounts) = refl
all_covers kind s (Truncate Users) = refl
all_covers kind s (Truncate Hosts) = refl
all_covers kind s Other = refl

-- the numbers that pass
pub those_in : (test : ℕ → Bool) (n t : ℕ) → 1 ≤ count_by (λ c. c == t) (those_to test n) → (test t ≡ true) × (1 ≤ t) × (t ≤ n)
those_in test zero t h = absurd (omega arith)
those_in test (suc n) t h = at (test (suc n)) refl (those_in test n t) (let j : count_by (λ c. c == t) (those_to test (suc n)) ≡ count_by (λ c. c == t) (cond (test (suc n)) (suc n ∷ []) []) + count_by (λ c. c == t) (those_to test n) = count_joined t (cond (test (suc n)) (suc n ∷ []) []) (those_to test n) in subst (λ z. 1 ≤ z) j h)
  where
    deep : (1 ≤ count_by (λ c. c == t) (those_to test n) → (test t ≡ true) × (1 ≤ t) × (t ≤ n)) → 1 ≤ count_by (λ c. c == t) (those_to test n) → (test t ≡ true) × (1 ≤ t) × (t ≤ suc n)
    deep ih h = let r : (test t ≡ true) × (1 ≤ t) × (t ≤ n) = ih h in (r.0, r.1, (let l : t ≤ n = r.2 in omega arith))

    at : (b : Bool) → test (suc n) ≡ b → (1 ≤ count_by (λ c. c == t) (those_to test n) → (test t ≡ true) × (1 ≤ t) × (t ≤ n)) → 1 ≤ count_by (λ c. c == t) (cond b (suc n ∷ []) []) + count_by (λ c. c == t) (those_to test n) → (test t ≡ true) × (1 ≤ t) × (t ≤ suc n)
    at false q ih h = deep ih (omega arith)
    at true q ih h = by (suc n == t) refl
      where
        by : (b : Bool) → (suc n == t) ≡ b → (test t ≡ true) × (1 ≤ t) × (t ≤ suc n)
        by true e = let is : suc n ≡ t = eqb-true (suc n) t e in (ap test (sym is) ∙ q, omega arith, omega arith)
        by false e = deep ih (let c : count_by (λ c. c == t) (suc n ∷ []) ≡ cond {A = ℕ} (suc n == t) 1 0 + 0 = count_cons (λ c. c == t) (suc n) [] in omega (arith, c, h, bit_no (suc n == t) e))

pub those_has : (test : ℕ → Bool) (n t : ℕ) → test t ≡ true → 1 ≤ t → t ≤ n → 1 ≤ count_by (λ c. c == t) (those_to test n)
those_has test zero t q l h = absurd (omega arith)
those_has test (suc n) t q l h =
    subst (λ z. 1 ≤ z) (sym (count_joined t (cond (test (suc n)) (suc n ∷ []) []) (those_to test n))) (at (suc n == t) refl (those_has test n t q l))
  where
    apart : (a b : ℕ) → b ≤ suc a → (suc a == b) ≡ false → b ≤ a
    apart a b l q = grind (arith, l, q)

    at : (b : Bool) → (suc n == t) ≡ b → (t ≤ n → 1 ≤ count_by (λ c. c == t) (those_to test n)) → 1 ≤ count_by (λ c. c == t) (cond (test (suc n)) (suc n ∷ []) []) + count_by (λ c. c == t) (those_to test n)
    at false e ih = let k : 1 ≤ count_by (λ c. c == t) (those_to test n) = ih (apart n t h e) in omega arith
    at true e ih =
        let is : suc n ≡ t = eqb-true (suc n) t e in
        let c : count_by (λ c. c == t) (suc n ∷ []) ≡ cond {A = ℕ} (suc n == t) 1 0 + 0 = count_cons (λ c. c == t) (suc n) [] in
        let on : count_by (λ c. c == t) (cond (test (suc n)) (suc n ∷ []) []) ≡ count_by (λ c. c == t) (suc n ∷ []) = ap (λ b. count_by (λ c. c == t) (cond b (suc n ∷ []) [])) (ap test is ∙ q) in
        omega (arith, on, c, bit_yes (suc n == t) e)

-- past the last action nothing is taken
past : (actions : List Action) (t : ℕ) → (1 ≤ t) × (t ≤ length actions) ⊎ (numbered actions t ≡ Other)
past actions zero = inr refl
past [] (suc t) = inr refl
past (action ∷ actions) (suc zero) = inl (omega arith, omega arith)
past (action ∷ actions) (suc (suc t)) = up (past actions (suc t))
  where
    up : ((1 ≤ suc t) × (suc t ≤ length actions)) ⊎ (numbered actions (suc t) ≡ Other) → ((1 ≤ suc (suc t)) × (suc (suc t) ≤ length (action ∷ actions))) ⊎ (numbered actions (suc t) ≡ Other)
    up (inl h) = inl (omega arith, (let l : suc t ≤ length actions = h.1 in omega arith))
    up (inr h) = inr h

pub takes_within : (n : Numbering) (opening : State) (actions : List Action) (kind t row : ℕ) → takes_by n opening (numbered actions) kind t row ≡ true → (1 ≤ t) × (t ≤ length actions)
takes_within n opening actions kind t row h = at (past actions t)
  where
    at : ((1 ≤ t) × (t ≤ length actions)) ⊎ (numbered actions t ≡ Other) → (1 ≤ t) × (t ≤ length actions)
    at (inl k) = k
    at (inr q) = differ (sym (ap (λ (a : Action). line_takes (line_of kind (state_before opening (numbered actions) t) a) (n.seat row).place) (sym q) ∙ h))

module _ (n : Numbering) (good : IsNumbering n) (opening : State) (ok : Sound opening) (small : IsSmall opening) (action : ℕ → Action) (kind cell slot : ℕ) (x : Session) (connect : ℕ) (quit : Option ℕ) (low : n.is_cell cell ≡ true)
    (here : entry_at (state_after opening action connect).threads slot ≡ Some x) (quiet : (k : ℕ) → suc connect ≤ k → IsBy quit (suc k) → action k ≡ Quit x.number → ⊥) (key : Key) (cells : List ℕ) where
  whose : Whose
  whose = OfSession cell slot x connect quit

  abbrev home : ℕ
  home = n.row cell (Thread slot)

  abbrev path : List ℕ
  path = path_at n key (OfSession cell slot x connect quit)

  abbrev before : ℕ → Option ℕ
  before = before_by (steps_of (way_of (rows_of n cell) slot x))

  seats : (p q r : Place) → n.seat (n.row cell r) ≡ record { cell = cell; place = p } → n.seat (n.row cell r) ≡ record { cell = cell; place = q } → p ≡ q
  seats p q r a b = ap (λ (s : Seat). s.place) (sym a ∙ b)

  home_at_seat : n.seat (n.row cell (Thread slot)) ≡ record { cell = cell; place = Thread slot }
  home_at_seat = home_seat n good opening ok small action kind cell slot x connect quit low here quiet

  sits_at : (row from : ℕ) → before_by (steps_of (way_of (rows_of n cell) slot x)) row ≡ Some from → Sits n good opening ok small action kind cell slot x connect quit low here quiet row from
  sits_at = sits n good opening ok small action kind cell slot x connect quit low here quiet

  l_account : (a : ℕ) → x.account ≡ Some a → a < 32
  l_account = account_low n good opening ok small action kind cell slot x connect quit low here quiet

  l_user : (a : ℕ) → x.user ≡ Some a → a < 32
  l_user = user_low n good opening ok small action kind cell slot x connect quit low here quiet

  l_host : (a : ℕ) → x.host ≡ Some a → a < 32
  l_host = host_low n good opening ok small action kind cell slot x connect quit low here quiet

  -- a row of this seat is no row of another place
  other_row : (r : ℕ) (p q : Place) → IsIn q → n.seat r ≡ record { cell = cell; place = p } → (p ≡ q → ⊥) → (n.row cell q == r) ≡ false
  other_row r p q within seat no_same = at (n.row cell q == r) refl
    where
      at : (b : Bool) → (n.row cell q == r) ≡ b → (n.row cell q == r) ≡ false
      at false e = e
      at true e = absurd (no_same (ap (λ (s : Seat). s.place) (sym seat ∙ (ap n.seat (sym (eqb-true (n.row cell q) r e)) ∙ good.seats cell q low within))))

  not_home : (p : Place) (r : ℕ) → n.seat r ≡ record { cell = cell; place = p } → (p ≡ Thread slot → ⊥) → (r == n.row cell (Thread slot)) ≡ false
  not_home p r seat no_same = turned (n.row cell (Thread slot)) r (other_row r p (Thread slot) (slot_low n good opening ok small action kind cell slot x connect quit low here quiet) seat no_same)
    where
      turned : (a b : ℕ) → (a == b) ≡ false → (b == a) ≡ false
      turned a b q = grind (arith, q)

  a_none : (r : ℕ) (p : Place) → n.seat r ≡ record { cell = cell; place = p } → ((k : ℕ) → p ≡ Account k → ⊥) → count_by (λ y. y == r) (opt_row (map_row (rows_of n cell).account x.account)) ≡ 0
  a_none r p seat other = opt_none (rows_of n cell).account x.account r (λ y q. other_row r p (Account y) (l_account y q) seat (other y))

  u_none : (r : ℕ) (p : Place) → n.seat r ≡ record { cell = cell; place = p } → ((k : ℕ) → p ≡ User k → ⊥) → count_by (λ y. y == r) (opt_row (map_row (rows_of n cell).user x.user)) ≡ 0
  u_none r p seat other = opt_none (rows_of n cell).user x.user r (λ y q. other_row r p (User y) (l_user y q) seat (other y))

  h_none : (r : ℕ) (p : Place) → n.seat r ≡ record { cell = cell; place = p } → ((k : ℕ) → p ≡ Host k → ⊥) → count_by (λ y. y == r) (opt_row (map_row (rows_of n cell).host x.host)) ≡ 0
  h_none r p seat other = opt_none (rows_of n cell).host x.host r (λ y q. other_row r p (Host y) (l_host y q) seat (other y))

  g_none : (r : ℕ) (p : Place) → n.seat r ≡ record { cell = cell; place = p } → (p ≡ Global → ⊥) → cond {A = ℕ} (n.row cell Global == r) 1 0 ≡ 0
  g_none r p seat other = bit_no (n.row cell Global == r) (other_row r p Global tt seat other)

  counted : (r a u h g : ℕ) → count_by (λ y. y == r) (opt_row (map_row (rows_of n cell).account x.account)) ≡ a → count_by (λ y. y == r) (opt_row (map_row (rows_of n cell).user x.user)) ≡ u → count_by (λ y. y == r) (opt_row (map_row (rows_of n cell).host x.host)) ≡ h → cond {A = ℕ} (n.row cell Global == r) 1 0 ≡ g
      → count_by (λ y. y == r) path ≡ cond (shown_by key).accounts a 0 + (cond (shown_by key).users u 0 + (cond (shown_by key).hosts h 0 + cond (shown_by key).global g 0))
  counted r a u h g qa qu qh qg = path_count (shown_by key) (map_row (rows_of n cell).account x.account) (map_row (rows_of n cell).user x.user) (map_row (rows_of n cell).host x.host) (n.row cell Global) r a u h g qa qu qh qg

  Mine : ℕ → Seat → Type 0
  Mine r seat = cond (is_of cells seat.cell && (shows_at key seat.place && matches key (own_at n x seat))) 1 0 ≡ cond (is_of cells cell && leads_key key x) (count_by (λ y. y == r) (n.row cell (Thread slot) ∷ path)) 0

  pub mine_home : cond (belongs_to n key cells (n.row cell (Thread slot)) (own_at n x (n.seat (n.row cell (Thread slot))))) 1 0 ≡ cond (leads_at key cells (OfSession cell slot x connect quit)) (count_by (λ y. y == n.row cell (Thread slot)) (n.row cell (Thread slot) ∷ path_at n key (OfSession cell slot x connect quit))) 0
  unfolding Mine
  mine_home = subst (Mine (n.row cell (Thread slot))) (sym home_at_seat)
      (ap (λ (b : Bool). cond {A = ℕ} (is_of cells cell && b) 1 0) (all_leads key (rows_of n cell) x) ∙ ap (λ z. cond (is_of cells cell && leads_key key x) z 0) (sym one))
    where
      one : count_by (λ y. y == n.row cell (Thread slot)) (n.row cell (Thread slot) ∷ path_at n key (OfSession cell slot x connect quit)) ≡ 1
      one =
          let c : count_by (λ y. y == n.row cell (Thread slot)) path ≡ cond (shown_by key).accounts 0 0 + (cond (shown_by key).users 0 0 + (cond (shown_by key).hosts 0 0 + cond (shown_by key).global 0 0)) =
          counted (n.row cell (Thread slot)) 0 0 0 0 (a_none (n.row cell (Thread slot)) (Thread slot) home_at_seat (λ k e. absurd (cc))) (u_none (n.row cell (Thread slot)) (Thread slot) home_at_seat (λ k e. absurd (cc))) (h_none (n.row cell (Thread slot)) (Thread slot) home_at_seat (λ k e. absurd (cc))) (g_none (n.row cell (Thread slot)) (Thread slot) home_at_seat (λ e. absurd (cc))) in
          omega (arith, c, count_cons (λ y. y == n.row cell (Thread slot)) (n.row cell (Thread slot)) path, bit_yes (n.row cell (Thread slot) == n.row cell (Thread slot)) (eq_self (n.row cell (Thread slot))), nil_if (shown_by key).accounts, nil_if (shown_by key).users, nil_if (shown_by key).hosts, nil_if (shown_by key).global)

  -- a row of the way
  mine_at : (r : ℕ) (p : Place) (shown : Bool) → n.seat r ≡ record { cell = cell; place = p } → (p ≡ Thread slot → ⊥) → shows_at key p ≡ shown → count_by (λ y. y == r) path ≡ cond {A = ℕ} shown 1 0 → (shown ≡ true → matches key (own_place (rows_of n cell) x p) ≡ leads_key key x) → Mine r (n.seat r)
  unfolding Mine
  mine_at r p shown seat away q c l = subst (Mine r) (sym seat)
      (ap (λ (b : Bool). cond {A = ℕ} (is_of cells cell && (b && matches key (own_place (rows_of n cell) x p))) 1 0) q
      ∙ (agree (is_of cells cell) shown (matches key (own_place (rows_of n cell) x p)) (leads_key key x) l
      ∙ ap (λ z. cond (is_of cells cell && leads_key key x) z 0) (sym whole)))
    where
      whole : count_by (λ y. y == r) (n.row cell (Thread slot) ∷ path) ≡ 0 + cond {A = ℕ} shown 1 0
      whole = omega (arith, c, count_cons (λ y. y == r) (n.row cell (Thread slot)) path, bit_no (n.row cell (Thread slot) == r) (other_row r p (Thread slot) (slot_low n good opening ok small action kind cell slot x connect quit low here quiet) seat away))

  pub mine_way : (row from : ℕ) → before_by (steps_of (way_of (rows_of n cell) slot x)) row ≡ Some from → cond (belongs_to n key cells row (own_at n x (n.seat row))) 1 0 ≡ cond (leads_at key cells (OfSession cell slot x connect quit)) (count_by (λ y. y == row) (n.row cell (Thread slot) ∷ path_at n key (OfSession cell slot x connect quit))) 0
  unfolding Mine
  mine_way row from come = at (sits_at row from come)
    where
      k : Shown
      k = shown_by key

      at : Sits n good opening ok small action kind cell slot x connect quit low here quiet row from → Mine row (n.seat row)
      at (SitsGlobal q is f) = mine_at row Global (shown_by key).global q (λ e. absurd (cc)) refl
          (counted row 0 0 0 1 (a_none row Global q (λ k e. absurd (cc))) (u_none row Global q (λ k e. absurd (cc))) (h_none row Global q (λ k e. absurd (cc))) (bit_yes (n.row cell Global == row) (ap (λ z. n.row cell Global == z) is ∙ eq_self (n.row cell Global)))
          ∙ omega (arith, nil_if (shown_by key).accounts, nil_if (shown_by key).users, nil_if (shown_by key).hosts)) (global_leads key x)
      at (SitsHost h w q is f) = mine_at row (Host h) (shown_by key).hosts q (λ e. absurd (cc)) refl
          (counted row 0 0 1 0 (a_none row (Host h) q (λ k e. absurd (cc))) (u_none row (Host h) q (λ k e. absurd (cc))) (opt_one (rows_of n cell).host x.host row h w (sym is)) (g_none row (Host h) q (λ e. absurd (cc)))
          ∙ omega (arith, nil_if (shown_by key).accounts, nil_if (shown_by key).users, nil_if (shown_by key).global)) (host_leads key (rows_of n cell) x h w)
      at (SitsUser u w q is f) = mine_at row (User u) (shown_by key).users q (λ e. absurd (cc)) refl
          (counted row 0 1 0 0 (a_none row (User u) q (λ k e. absurd (cc))) (opt_one (rows_of n cell).user x.user row u w (sym is)) (h_none row (User u) q (λ k e. absurd (cc))) (g_none row (User u) q (λ e. absurd (cc)))
          ∙ omega (arith, nil_if (shown_by key).accounts, nil_if (shown_by key).hosts, nil_if (shown_by key).global)) (user_leads key x u w)
      at (SitsAccount a w q is f) = mine_at row (Account a) (shown_by key).accounts q (λ e. absurd (cc)) refl
          (counted row 1 0 0 0 (opt_one (rows_of n cell).account x.account row a w (sym is)) (u_none row (Account a) q (λ k e. absurd (cc))) (h_none row (Account a) q (λ k e. absurd (cc))) (g_none row (Account a) q (λ e. absurd (cc)))
          ∙ omega (arith, nil_if (shown_by key).users, nil_if (shown_by key).hosts, nil_if (shown_by key).global)) (account_leads key (rows_of n cell) x a w)

  seat_of : (p : Place) → IsIn p → n.seat (n.row cell p) ≡ record { cell = cell; place = p }
  seat_of p within = good.seats cell p low within

  mapped_some : (f : ℕ → ℕ) (o : Option ℕ) (row : ℕ) → map_row f o ≡ Some row → (y : ℕ) × (o ≡ Some y) × (f y ≡ row)
  mapped_some f None row h = clash row h
  mapped_some f (Some y) row h = (y, refl, some_is (f y) row h)
    where
      some_is : (a b : ℕ) → ◌≡◌ {A = Option ℕ} (Some a) (Some b) → a ≡ b
      some_is a b h = cc

  pub follows_path : Follows (before_by (steps_of (way_of (rows_of n cell) slot x))) (n.row cell (Thread slot)) (n.row cell (Thread slot)) (path_at n key (OfSession cell slot x connect quit))
  follows_path = follow before home (map_row (rows_of n cell).account x.account) (map_row (rows_of n cell).user x.user) (map_row (rows_of n cell).host x.host) (n.row cell Global) of_account of_user of_host of_global key
    where
      at_place : (p : Place) → IsIn p → (p ≡ Thread slot → ⊥) → (n.row cell p == n.row cell (Thread slot)) ≡ false
      at_place p within away = not_home p (n.row cell p) (seat_of p within) away

      from_is : (row from to : ℕ) → before_by (steps_of (way_of (rows_of n cell) slot x)) row ≡ Some from → from ≡ to → before_by (steps_of (way_of (rows_of n cell) slot x)) row ≡ Some to
      from_is row from to come q = come ∙ ap (λ (z : ℕ). Some z) q

      of_account : (a : ℕ) → map_row (rows_of n cell).account x.account ≡ Some a → (before_by (steps_of (way_of (rows_of n cell) slot x)) a ≡ Some (n.row cell (Thread slot))) × ((a == n.row cell (Thread slot)) ≡ false)
      of_account a h =
          let c : Comes (steps_of (way_of (rows_of n cell) slot x)) a = comes_account (way_of (rows_of n cell) slot x) a h in
          let m : (y : ℕ) × (x.account ≡ Some y) × (n.row cell (Account y) ≡ a) = mapped_some (rows_of n cell).account x.account a h in
          (from_is a c.0 (n.row cell (Thread slot)) c.1 (by m (sits_at a c.0 c.1)), subst (λ z. (z == n.row cell (Thread slot)) ≡ false) m.2 (at_place (Account m.0) (l_account m.0 m.1) (λ e. absurd (cc))))
        where
          by : ((y : ℕ) × (x.account ≡ Some y) × (n.row cell (Account y) ≡ a)) → {from : ℕ} → Sits n good opening ok small action kind cell slot x connect quit low here quiet a from → from ≡ n.row cell (Thread slot)
          by m (SitsAccount b w q is f) = f
          by m (SitsGlobal q is f) = absurd (let e : Account m.0 ≡ Global = ap (λ (s : Seat). s.place) (sym (seat_of (Account m.0) (l_account m.0 m.1)) ∙ (ap n.seat m.2 ∙ q)) in cc)
          by m (SitsHost b w q is f) = absurd (let e : Account m.0 ≡ Host b = ap (λ (s : Seat). s.place) (sym (seat_of (Account m.0) (l_account m.0 m.1)) ∙ (ap n.seat m.2 ∙ q)) in cc)
          by m (SitsUser b w q is f) = absurd (let e : Account m.0 ≡ User b = ap (λ (s : Seat). s.place) (sym (seat_of (Account m.0) (l_account m.0 m.1)) ∙ (ap n.seat m.2 ∙ q)) in cc)

      base : ℕ
      base = unwrap_or (map_row (rows_of n cell).account x.account) (n.row cell (Thread slot))

      of_user : (a : ℕ) → map_row (rows_of n cell).user x.user ≡ Some a → (before_by (steps_of (way_of (rows_of n cell) slot x)) a ≡ Some (unwrap_or (map_row (rows_of n cell).account x.account) (n.row cell (Thread slot)))) × ((a == n.row cell (Thread slot)) ≡ false)
      of_user a h =
          let c : Comes (steps_of (way_of (rows_of n cell) slot x)) a = comes_user (way_of (rows_of n cell) slot x) a h in
          let m : (y : ℕ) × (x.user ≡ Some y) × (n.row cell (User y) ≡ a) = mapped_some (rows_of n cell).user x.user a h in
          (from_is a c.0 (unwrap_or (map_row (rows_of n cell).account x.account) (n.row cell (Thread slot))) c.1 (by m (sits_at a c.0 c.1)), subst (λ z. (z == n.row cell (Thread slot)) ≡ false) m.2 (at_place (User m.0) (l_user m.0 m.1) (λ e. absurd (cc))))
        where
          by : ((y : ℕ) × (x.user ≡ Some y) × (n.row cell (User y) ≡ a)) → {from : ℕ} → Sits n good opening ok small action kind cell slot x connect quit low here quiet a from → from ≡ unwrap_or (map_row (rows_of n cell).account x.account) (n.row cell (Thread slot))
          by m (SitsUser b w q is f) = f
          by m (SitsGlobal q is f) = absurd (let e : User m.0 ≡ Global = ap (λ (s : Seat). s.place) (sym (seat_of (User m.0) (l_user m.0 m.1)) ∙ (ap n.seat m.2 ∙ q)) in cc)
          by m (SitsHost b w q is f) = absurd (let e : User m.0 ≡ Host b = ap (λ (s : Seat). s.place) (sym (seat_of (User m.0) (l_user m.0 m.1)) ∙ (ap n.seat m.2 ∙ q)) in cc)
          by m (SitsAccount b w q is f) = absurd (let e : User m.0 ≡ Account b = ap (λ (s : Seat). s.place) (sym (seat_of (User m.0) (l_user m.0 m.1)) ∙ (ap n.seat m.2 ∙ q)) in cc)

      of_host : (a : ℕ) → map_row (rows_of n cell).host x.host ≡ Some a → (before_by (steps_of (way_of (rows_of n cell) slot x)) a ≡ Some (unwrap_or (map_row (rows_of n cell).account x.account) (n.row cell (Thread slot)))) × ((a == n.row cell (Thread slot)) ≡ false)
      of_host a h =
          let c : Comes (steps_of (way_of (rows_of n cell) slot x)) a = comes_host (way_of (rows_of n cell) slot x) a h in
          let m : (y : ℕ) × (x.host ≡ Some y) × (n.row cell (Host y) ≡ a) = mapped_some (rows_of n cell).host x.host a h in
          (from_is a c.0 (unwrap_or (map_row (rows_of n cell).account x.account) (n.row cell (Thread slot))) c.1 (by m (sits_at a c.0 c.1)), subst (λ z. (z == n.row cell (Thread slot)) ≡ false) m.2 (at_place (Host m.0) (l_host m.0 m.1) (λ e. absurd (cc))))
        where
          by : ((y : ℕ) × (x.host ≡ Some y) × (n.row cell (Host y) ≡ a)) → {from : ℕ} → Sits n good opening ok small action kind cell slot x connect quit low here quiet a from → from ≡ unwrap_or (map_row (rows_of n cell).account x.account) (n.row cell (Thread slot))
          by m (SitsHost b w q is f) = f
          by m (SitsGlobal q is f) = absurd (let e : Host m.0 ≡ Global = ap (λ (s : Seat). s.place) (sym (seat_of (Host m.0) (l_host m.0 m.1)) ∙ (ap n.seat m.2 ∙ q)) in cc)
          by m (SitsUser b w q is f) = absurd (let e : Host m.0 ≡ User b = ap (λ (s : Seat). s.place) (sym (seat_of (Host m.0) (l_host m.0 m.1)) ∙ (ap n.seat m.2 ∙ q)) in cc)
          by m (SitsAccount b w q is f) = absurd (let e : Host m.0 ≡ Account b = ap (λ (s : Seat). s.place) (sym (seat_of (Host m.0) (l_host m.0 m.1)) ∙ (ap n.seat m.2 ∙ q)) in cc)

      of_global : (before_by (steps_of (way_of (rows_of n cell) slot x)) (n.row cell Global) ≡ Some (unwrap_or (map_row (rows_of n cell).host x.host) (unwrap_or (map_row (rows_of n cell).account x.account) (n.row cell (Thread slot))))) × ((n.row cell Global == n.row cell (Thread slot)) ≡ false)
      of_global = (before_global (way_of (rows_of n cell) slot x), at_place Global tt (λ e. absurd (cc)))

  -- what covers the key takes the last row of the path
  pub covers_last : leads_at key cells (OfSession cell slot x connect quit) ≡ true → ((number at : ℕ) → key ≡ KeyThread number at → leads_key key x ≡ true → at ≡ slot) → (s : State) (act : Action)
      → covers_at kind key s act ≡ line_takes (line_of kind s act) (n.seat (last_of (n.row cell (Thread slot)) (path_at n key (OfSession cell slot x connect quit)))).place
  covers_last lead one s act =
      by (ends key (n.row cell (Thread slot)) (map_row (rows_of n cell).account x.account) (map_row (rows_of n cell).user x.user) (map_row (rows_of n cell).host x.host) (n.row cell Global) has_a has_u has_h)
    where
      right : (a b : Bool) → (a && b) ≡ true → b ≡ true
      right true b h = h
      right false b h = differ (sym h)

      led : leads_key key x ≡ true
      led = right (is_of cells cell) (leads_key key x) lead

      map_some : (f : ℕ → ℕ) (o : Option ℕ) → is_some o ≡ true → is_some (map_row f o) ≡ true
      map_some f None h = h
      map_some f (Some y) h = refl

      has_a : (u h : ℕ) → key ≡ KeyAccount u h → is_some (map_row (rows_of n cell).account x.account) ≡ true
      has_a u h q = map_some (rows_of n cell).account x.account (and_first (is_some x.account) ((x.user_name == u) && (x.host_name == h)) (ap (λ k. leads_key k x) (sym q) ∙ led))

      has_u : (u : ℕ) → key ≡ KeyUser u → is_some (map_row (rows_of n cell).user x.user) ≡ true
      has_u u q = map_some (rows_of n cell).user x.user (and_first (is_some x.user) (x.user_name == u) (ap (λ k. leads_key k x) (sym q) ∙ led))

      has_h : (u : ℕ) → key ≡ KeyHost u → is_some (map_row (rows_of n cell).host x.host) ≡ true
      has_h u q = map_some (rows_of n cell).host x.host (and_first (is_some x.host) (x.host_name == u) (ap (λ k. leads_key k x) (sym q) ∙ led))

      last : ℕ
      last = last_of (n.row cell (Thread slot)) (path_at n key (OfSession cell slot x connect quit))

      place_is : (p : Place) (l : ℕ) → l ≡ n.row cell p → IsIn p → line_takes (line_of kind s act) p ≡ line_takes (line_of kind s act) (n.seat l).place
      place_is p l q within = ap (λ (z : Seat). line_takes (line_of kind s act) z.place) (sym (ap n.seat q ∙ seat_of p within))

      by : {l : ℕ} → Ends key (map_row (rows_of n cell).account x.account) (map_row (rows_of n cell).user x.user) (map_row (rows_of n cell).host x.host) (n.row cell (Thread slot)) (n.row cell Global) l → covers_at kind key s act ≡ line_takes (line_of kind s act) (n.seat l).place
      by {l = l} (EndsHome number at q e) = ap (λ k. covers_at kind k s act) q ∙ (ap (λ t. line_takes (line_of kind s act) (Thread t)) (one number at q led) ∙ place_is (Thread slot) l e (slot_low n good opening ok small action kind cell slot x connect quit low here quiet))
      by {l = l} (EndsAccount u h row q w e) = let m : (y : ℕ) × (x.account ≡ Some y) × (n.row cell (Account y) ≡ row) = mapped_some (rows_of n cell).account x.account row w in
          ap (λ k. covers_at kind k s act) q ∙ (account_covers kind u h m.0 s act ∙ place_is (Account m.0) l (e ∙ sym m.2) (l_account m.0 m.1))
      by {l = l} (EndsUser u row q w e) = let m : (y : ℕ) × (x.user ≡ Some y) × (n.row cell (User y) ≡ row) = mapped_some (rows_of n cell).user x.user row w in
          ap (λ k. covers_at kind k s act) q ∙ (user_covers kind u m.0 s act ∙ place_is (User m.0) l (e ∙ sym m.2) (l_user m.0 m.1))
      by {l = l} (EndsHost u row q w e) = let m : (y : ℕ) × (x.host ≡ Some y) × (n.row cell (Host y) ≡ row) = mapped_some (rows_of n cell).host x.host row w in
          ap (λ k. covers_at kind k s act) q ∙ (host_covers kind u m.0 s act ∙ place_is (Host m.0) l (e ∙ sym m.2) (l_host m.0 m.1))
      by {l = l} (EndsAll q e) = ap (λ k. covers_at kind k s act) q ∙ (all_covers kind s act ∙ place_is Global l e tt)
