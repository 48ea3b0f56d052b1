-- A place of an account, a user or a host that is in use stays so until a truncation frees it, whoever connects or
-- quits.
use Rattle.std.proofs.Common.{◌≡◌, refl, ℕ, zero, suc, ◌+◌, ◌≤◌, ◌==◌, Bool, true, false, cond, nat_le, List, [], ◌∷◌, ◌++◌, length, take, drop, Option, Some, None, slice_index_or, sym, ap, ◌∙◌, arith}
use Rattle.std.specs.Option.{option_map}
use Rattle.pfs_admin.specs.Fold.{stepped, state_from}
use Rattle.pfs_admin.specs.OpeningState.{opened}
use Rattle.pfs_admin.specs.AdministrationStates.{State}
use Rattle.pfs_admin.specs.Truncations.{action_of}
use Rattle.pfs_admin.specs.declared.changes.Change.{Change}
use Rattle.pfs_admin.specs.declared.changes.Change.TheVariants as changes
use Rattle.pfs_board.specs.declared.view.Label.{Label}
use Rattle.pfs_containers.specs.Administration.{Containers, Found, advanced, found_where, lowest_free, connect_at, session_of, quit_line}
use Rattle.pfs_containers.specs.Connections.{entry_of, in_use, kept_from}
use Rattle.pfs_containers.specs.Connections.{State as Places, stepped as places_after}
use Rattle.pfs_containers.specs.PlaceInfos.{account_info_of, user_info_of, host_info_of}
use Rattle.pfs_containers.specs.declared.containers.Account.{Account}
use Rattle.pfs_containers.specs.declared.containers.Connection.{Connection}
use Rattle.pfs_containers.specs.InfoWords.{account_words, name_words}
use Rattle.pfs_model.specs.Chains.{Each, action_change, each_of}
use Rattle.pfs_model.specs.EntryPlaces.{Placed, places, up_to_phase}
use Rattle.pfs_rows.specs.declared.truncations.Truncation.{Truncation}
use Rattle.pfs_rows.specs.declared.truncations.Truncation.TheVariants.{Events, Summary, DigestSummary, Accounts, Users, Hosts, SetupActors, SetupObjects}
use Rattle.pfs_law_conservation.specs.InfoRowLaws.{containers_to, frees_accounts, frees_users, frees_hosts, labels_between, AreHeld, HeldLaw, RemainingLaw}
use Rattle.pfs_law_conservation.specs.InfoRowWords.{account_said, user_said, host_said}
use Rattle.pfs_law_conservation.proofs.FreedPlaces.{used_stays}
use Rattle.pfs_law_conservation.proofs.LevelPlaces.{filled_keeps}
use Rattle.pfs_law_conservation.proofs.ActionSigns.{account_none, user_none, host_none}

-- a place that is free now was free before, where these hold
record AreFreeBefore (A U H : Type 0) (before after : Places) : Type 0 where
  accounts : A → (q : ℕ) → slice_index_or after.accounts q None ≡ None → slice_index_or before.accounts q None ≡ None
  users : U → (q : ℕ) → slice_index_or after.users q None ≡ None → slice_index_or before.users q None ≡ None
  hosts : H → (q : ℕ) → slice_index_or after.hosts q None ≡ None → slice_index_or before.hosts q None ≡ None

same : (A U H : Type 0) (s : Places) → AreFreeBefore A U H s s
same A U H s = record { accounts = λ h q e. e; users = λ h q e. e; hosts = λ h q e. e }

then_before : (A U H B V G : Type 0) (a b c : Places) → AreFreeBefore A U H a b → AreFreeBefore B V G b c → AreFreeBefore (A × B) (U × V) (H × G) a c
then_before A U H B V G a b c f g = record {
  accounts = λ h q e. f.accounts h.0 q (g.accounts h.1 q e);
  users = λ h q e. f.users h.0 q (g.users h.1 q e);
  hosts = λ h q e. f.hosts h.0 q (g.hosts h.1 q e);
}

-- behind an action
abbrev IsFreeBefore : Change → Places → Places → Type 0
IsFreeBefore what = AreFreeBefore (frees_accounts what ≡ false) (frees_users what ≡ false) (frees_hosts what ≡ false)

connect_before : (c : Containers) (number user host : ℕ) (slot : Option ℕ) → IsFreeBefore (changes.Connect user host) c.places (connect_at c number user host slot).places
connect_before c number user host None = same _ _ _ c.places
connect_before c number user host (Some slot) = record {
  accounts = λ h q e. filled_keeps x.account q (entry_of x) c.places.accounts e;
  users = λ h q e. filled_keeps x.user q x.user_name c.places.users e;
  hosts = λ h q e. filled_keeps x.host q x.host_name c.places.hosts e;
} where
  x : Connection
  x = session_of c.places number user host

quit_before : (s : Places) (found : Option (Found Connection)) → IsFreeBefore changes.Quit s (places_after s (quit_line found))
quit_before s None = same _ _ _ s
quit_before s (Some found) = record { accounts = λ h q e. e; users = λ h q e. e; hosts = λ h q e. e }

truncate_before : (c : Containers) (what : Truncation) → IsFreeBefore (changes.Truncate what) c.places (advanced c (action_of what)).places
truncate_before c (Summary kind table) = same _ _ _ c.places
truncate_before c (Events kind table) = same _ _ _ c.places
truncate_before c Accounts = record { accounts = λ h q e. absurd (cc); users = λ h q e. e; hosts = λ h q e. e }
truncate_before c Users = record { accounts = λ h q e. absurd (cc); users = λ h q e. absurd (cc); hosts = λ h q e. e }
truncate_before c Hosts = record { accounts = λ h q e. absurd (cc); users = λ h q e. e; hosts = λ h q e. absurd (cc) }
truncate_before c DigestSummary = same _ _ _ c.places
truncate_before c SetupActors = same _ _ _ c.places
truncate_before c SetupObjects = same _ _ _ c.places

step_before : (s : State) (session : ℕ) (what : Change) → IsFreeBefore what s.kept.now.places (stepped s session what).kept.now.places
step_before s session (changes.Connect user host) = connect_before s.kept.now session user host (lowest_free s.kept.now.places.threads)
step_before s session changes.Quit = quit_before s.kept.now.places (found_where (λ x. x.number == session) s.kept.now.places.threads)
step_before s session (changes.Truncate what) = truncate_before s.kept.now what
step_before s session (changes.Setup what) = same _ _ _ s.kept.now.places

-- behind the actions of labels
abbrev Spare : (Label → Change) → (Change → Bool) → List Label → Type 0
Spare change frees labels = Each (λ label. frees (change label) ≡ false) labels

abbrev AreSpared : (Label → Change) → List Label → Places → Places → Type 0
AreSpared change labels = AreFreeBefore (Spare change frees_accounts labels) (Spare change frees_users labels) (Spare change frees_hosts labels)

from_before : (change : Label → Change) (s : State) (labels : List Label) → AreSpared change labels s.kept.now.places (state_from change s labels).kept.now.places
unfolding state_from
from_before change s [] = same _ _ _ s.kept.now.places
from_before change s (label ∷ labels) =
    then_before _ _ _ _ _ _ s.kept.now.places (stepped s label.session (change label)).kept.now.places (state_from change (stepped s label.session (change label)) labels).kept.now.places
    (step_before s label.session (change label)) (from_before change (stepped s label.session (change label)) labels)

-- behind fewer actions
front_before : (change : Label → Change) (s : State) (labels : List Label) (n m : ℕ) → n ≤ m
    → AreSpared change (drop n (take m labels)) (state_from change s (take n labels)).kept.now.places (state_from change s (take m labels)).kept.now.places
unfolding state_from
front_before change s labels zero m l = from_before change s (take m labels)
front_before change s labels (suc n) zero l = absurd (omega (arith, l))
front_before change s [] (suc n) (suc m) l = same _ _ _ s.kept.now.places
front_before change s (label ∷ labels) (suc n) (suc m) l = front_before change (stepped s label.session (change label)) labels n m (omega (arith, l))

length_join : {A : Type 0} (xs ys : List A) → length (xs ++ ys) ≡ length xs + length ys
length_join [] ys = omega arith
length_join (x ∷ xs) ys = let e : length (xs ++ ys) ≡ length xs + length ys = length_join xs ys in omega (arith, e)

-- up to a later phase there are more
more_later : (at phase : ℕ) (ps : List Placed) → at ≤ phase → length (each_of action_change (up_to_phase at ps)) ≤ length (each_of action_change (up_to_phase phase ps))
more_later at phase [] l = omega arith
more_later at phase (p ∷ ps) l = on (nat_le p.phase at) refl (nat_le p.phase phase) refl (more_later at phase ps l) where
  below : (a b c : ℕ) → nat_le a b ≡ true → b ≤ c → nat_le a c ≡ true
  below a b c q r = grind arith

  on : (x : Bool) → nat_le p.phase at ≡ x → (y : Bool) → nat_le p.phase phase ≡ y → length (each_of action_change (up_to_phase at ps)) ≤ length (each_of action_change (up_to_phase phase ps))
      → length (each_of action_change (cond x (p ∷ []) [] ++ up_to_phase at ps)) ≤ length (each_of action_change (cond y (p ∷ []) [] ++ up_to_phase phase ps))
  on true q true r ih = omega (arith, ih, length_join (action_change p.entry) (each_of action_change (up_to_phase at ps)), length_join (action_change p.entry) (each_of action_change (up_to_phase phase ps)))
  on true q false r ih = absurd (let k : true ≡ false = sym (below p.phase at phase q l) ∙ r in cc)
  on false q true r ih = omega (arith, ih, length_join (action_change p.entry) (each_of action_change (up_to_phase phase ps)))
  on false q false r ih = ih

-- what says nothing is free
unsaid_account : (c : Containers) (q : ℕ) → account_said c q ≡ None → slice_index_or c.places.accounts q None ≡ None
unsaid_account c q e = on (slice_index_or c.places.accounts q None) e where
  on : (o : Option Account) → option_map account_words (option_map (account_info_of c q) o) ≡ None → o ≡ None
  on None e = refl
  on (Some account) e = absurd (cc)

unsaid_user : (c : Containers) (q : ℕ) → user_said c q ≡ None → slice_index_or c.places.users q None ≡ None
unsaid_user c q e = on (slice_index_or c.places.users q None) e where
  on : (o : Option ℕ) → option_map name_words (option_map (user_info_of c q) o) ≡ None → o ≡ None
  on None e = refl
  on (Some name) e = absurd (cc)

unsaid_host : (c : Containers) (q : ℕ) → host_said c q ≡ None → slice_index_or c.places.hosts q None ≡ None
unsaid_host c q e = on (slice_index_or c.places.hosts q None) e where
  on : (o : Option ℕ) → option_map name_words (option_map (host_info_of c q) o) ≡ None → o ≡ None
  on None e = refl
  on (Some name) e = absurd (cc)

pub remaining_law : RemainingLaw
remaining_law run phase later l = record {
  accounts = λ h q e. account_none c q (before.accounts h q (unsaid_account d q e));
  users = λ h q e. user_none c q (before.users h q (unsaid_user d q e));
  hosts = λ h q e. host_none c q (before.hosts h q (unsaid_host d q e));
} where
  c : Containers
  c = containers_to run phase

  d : Containers
  d = containers_to run later

  before : AreSpared run.change (labels_between run phase later) (containers_to run phase).places (containers_to run later).places
  before = front_before run.change (opened run.setting) run.labels _ _ (more_later phase later (places run.blocks) l)

-- an account, a user or a host that a session has stays behind a truncation
module _ (c : Containers) where
  abbrev with_account : ℕ → Bool
  with_account = in_use (λ x. x.account) c.places.threads

  abbrev with_user : ℕ → Bool
  with_user = in_use (λ x. x.user) c.places.threads

  abbrev with_host : ℕ → Bool
  with_host = in_use (λ x. x.host) c.places.threads

  account_held : (after : Containers) (q : ℕ) → after.places.accounts ≡ kept_from 0 with_account c.places.accounts → with_account q ≡ true → account_said after q ≡ None → account_said c q ≡ None
  account_held after q is u e =
      account_none c q (used_stays q with_account c.places.accounts u (ap (λ (xs : List (Option Account)). slice_index_or xs q None) (sym is) ∙ unsaid_account after q e))

  user_held : (after : Containers) (q : ℕ) → after.places.users ≡ kept_from 0 with_user c.places.users → with_user q ≡ true → user_said after q ≡ None → user_said c q ≡ None
  user_held after q is u e =
      user_none c q (used_stays q with_user c.places.users u (ap (λ (xs : List (Option ℕ)). slice_index_or xs q None) (sym is) ∙ unsaid_user after q e))

  host_held : (after : Containers) (q : ℕ) → after.places.hosts ≡ kept_from 0 with_host c.places.hosts → with_host q ≡ true → host_said after q ≡ None → host_said c q ≡ None
  host_held after q is u e =
      host_none c q (used_stays q with_host c.places.hosts u (ap (λ (xs : List (Option ℕ)). slice_index_or xs q None) (sym is) ∙ unsaid_host after q e))

  nothing_freed : AreHeld c c
  nothing_freed = record { accounts = λ q u e. e; users = λ q u e. e; hosts = λ q u e. e }

pub held_law : HeldLaw
held_law c (Summary kind table) = nothing_freed c
held_law c (Events kind table) = nothing_freed c
held_law c Accounts = record {
  accounts = λ q. account_held c (advanced c (action_of Accounts)) q refl;
  users = λ q u e. e;
  hosts = λ q u e. e;
}
held_law c Users = record {
  accounts = λ q. account_held c (advanced c (action_of Users)) q refl;
  users = λ q. user_held c (advanced c (action_of Users)) q refl;
  hosts = λ q u e. e;
}
held_law c Hosts = record {
  accounts = λ q. account_held c (advanced c (action_of Hosts)) q refl;
  users = λ q u e. e;
  hosts = λ q. host_held c (advanced c (action_of Hosts)) q refl;
}
held_law c DigestSummary = nothing_freed c
held_law c SetupActors = nothing_freed c
held_law c SetupObjects = nothing_freed c
