-- The administration's fold of labels is that of the actions, as far as places go.
use Rattle.std.proofs.Common.{◌≡◌, refl, ℕ, zero, suc, ◌<◌, ◌≤◌, ◌==◌, Bool, true, false, cond, List, [], ◌∷◌, length, map, take, replicate, Option, Some, None, sym, ap, ◌∙◌, arith}
use Rattle.std.specs.Prelude.{slice_get}
use Rattle.pfs_admin.specs.Fold.{stepped, state_from, state_of}
use Rattle.pfs_admin.specs.OpeningState.{opened}
use Rattle.pfs_admin.specs.AdministrationStates.{State as Admin}
use Rattle.pfs_admin.specs.Truncations.{action_of, level_of}
use Rattle.pfs_admin.specs.declared.changes.Change.{Change}
use Rattle.pfs_admin.specs.declared.changes.Change.TheVariants as changes
use Rattle.pfs_board.specs.declared.view.Label.{Label}
use Rattle.pfs_classes.specs.declared.setting.Setting.{Setting}
use Rattle.pfs_conservation.specs.AdministrationFold.{Action, Connect, Quit, Other, numbered, line_of, state_after}
use Rattle.pfs_conservation.specs.PlaceFolds.{State, Truncates, Others}
use Rattle.pfs_conservation.specs.PlaceFolds.{stepped as then_places}
use Rattle.pfs_conservation.specs.CellHolders.{all_free, opened_by}
use Rattle.pfs_containers.specs.Administration.{Containers, advanced, connect_at, lowest_free}
use Rattle.pfs_rows.specs.Tables.{kind_number}
use Rattle.pfs_rows.specs.declared.limits.Limits.{Limits}
use Rattle.pfs_rows.specs.declared.truncations.Truncation.{Truncation}
use Rattle.pfs_rows.specs.declared.truncations.Truncation.TheVariants.{Events, Summary, DigestSummary, Accounts, Users, Hosts, SetupActors, SetupObjects}
use Rattle.pfs_law_conservation.specs.RunActions.{action_for, actions_of}
use Rattle.pfs_law_conservation.specs.KindRows.{limits_of}

-- at first each place is free
free_is : {X : Type 0} (n : ℕ) → all_free {X = X} n ≡ replicate n None
free_is zero = refl
free_is (suc n) = ap (λ xs. None ∷ xs) (free_is n)

pub opened_is : (setting : Setting) → opened_by (limits_of setting) ≡ (opened setting).kept.now.places
opened_is setting =
    let l : Limits = setting.limits in
    ap (λ xs. record { threads = xs; accounts = all_free l.accounts; users = all_free l.users; hosts = all_free l.hosts }) (free_is l.thread_instances)
    ∙ (ap (λ xs. record { threads = replicate l.thread_instances None; accounts = xs; users = all_free l.users; hosts = all_free l.hosts }) (free_is l.accounts)
    ∙ (ap (λ xs. record { threads = replicate l.thread_instances None; accounts = replicate l.accounts None; users = xs; hosts = all_free l.hosts }) (free_is l.users)
    ∙ ap (λ xs. record { threads = replicate l.thread_instances None; accounts = replicate l.accounts None; users = replicate l.users None; hosts = xs }) (free_is l.hosts)))

-- a step of the administration is that of its places
connect_places : (c : Containers) (number user host : ℕ) (slot : Option ℕ) → lowest_free c.places.threads ≡ slot
    → (connect_at c number user host slot).places ≡ then_places c.places (line_of 0 c.places (action_for number (changes.Connect user host)))
connect_places c number user host None q = rw q refl
connect_places c number user host (Some slot) q = rw q refl

truncation_places : (c : Containers) (what : Truncation) → (advanced c (action_of what)).places ≡ then_places c.places (line_of 0 c.places (action_of what))
truncation_places c (Summary kind table) = at (kind_number kind == 0) where
  at : (b : Bool) → c.places ≡ then_places c.places (cond b (Truncates (level_of table)) Others)
  at true = refl
  at false = refl
truncation_places c (Events kind table) = refl
truncation_places c Accounts = refl
truncation_places c Users = refl
truncation_places c Hosts = refl
truncation_places c DigestSummary = refl
truncation_places c SetupActors = refl
truncation_places c SetupObjects = refl

-- a truncation connects nobody, and nobody quits by it
pub truncation_connects : (what : Truncation) (number user host : ℕ) → action_of what ≡ Connect number user host → ⊥
truncation_connects (Summary kind table) number user host e = cc
truncation_connects (Events kind table) number user host e = cc
truncation_connects Accounts number user host e = cc
truncation_connects Users number user host e = cc
truncation_connects Hosts number user host e = cc
truncation_connects DigestSummary number user host e = cc
truncation_connects SetupActors number user host e = cc
truncation_connects SetupObjects number user host e = cc

pub truncation_quits : (what : Truncation) (number : ℕ) → action_of what ≡ Quit number → ⊥
truncation_quits (Summary kind table) number e = cc
truncation_quits (Events kind table) number e = cc
truncation_quits Accounts number e = cc
truncation_quits Users number e = cc
truncation_quits Hosts number e = cc
truncation_quits DigestSummary number e = cc
truncation_quits SetupActors number e = cc
truncation_quits SetupObjects number e = cc

step_places : (s : Admin) (session : ℕ) (what : Change) → (stepped s session what).kept.now.places ≡ then_places s.kept.now.places (line_of 0 s.kept.now.places (action_for session what))
step_places s session (changes.Connect user host) =
    connect_places s.kept.now session user host (lowest_free s.kept.now.places.threads) refl
step_places s session changes.Quit = refl
step_places s session (changes.Truncate what) = truncation_places s.kept.now what
step_places s session (changes.Setup what) = refl

-- after one action more, in front
after_front : (opening : State) (action : Action) (actions : List Action) (n : ℕ)
    → state_after opening (numbered (action ∷ actions)) (suc n) ≡ state_after (then_places opening (line_of 0 opening action)) (numbered actions) n
after_front opening action actions zero = refl
after_front opening action actions (suc n) = ap (λ (s : State). then_places s (line_of 0 s (numbered actions (suc n)))) (after_front opening action actions n)

from_places : (change : Label → Change) (s : Admin) (labels : List Label) (n : ℕ) → n ≤ length labels
    → (state_from change s (take n labels)).kept.now.places ≡ state_after s.kept.now.places (numbered (actions_of change labels)) n
unfolding state_from
from_places change s labels zero l = refl
from_places change s [] (suc n) l = absurd (omega (arith, l))
from_places change s (label ∷ labels) (suc n) l =
    from_places change (stepped s label.session (change label)) labels n (omega (arith, l))
    ∙ (ap (λ (p : State). state_after p (numbered (actions_of change labels)) n) (step_places s label.session (change label))
    ∙ sym (after_front s.kept.now.places (action_for label.session (change label)) (actions_of change labels) n))

pub fold_places : (setting : Setting) (change : Label → Change) (labels : List Label) (n : ℕ) → n ≤ length labels
    → (state_of setting change (take n labels)).kept.now.places ≡ state_after (opened_by (limits_of setting)) (numbered (actions_of change labels)) n
fold_places setting change labels n l =
    from_places change (opened setting) labels n l
    ∙ ap (λ (p : State). state_after p (numbered (actions_of change labels)) n) (sym (opened_is setting))

-- the action of a number, and none past the last
pub numbered_at : (change : Label → Change) (labels : List Label) (k : ℕ) (label : Label) → slice_get labels k ≡ Some label
    → numbered (actions_of change labels) (suc k) ≡ action_for label.session (change label)
numbered_at change [] k label q = absurd (cc)
numbered_at change (first ∷ labels) zero label q = same q where
  same : Some first ≡ Some label → action_for first.session (change first) ≡ action_for label.session (change label)
  same q = let e : first ≡ label = cc in ap (λ (l : Label). action_for l.session (change l)) e
numbered_at change (first ∷ labels) (suc k) label q = numbered_at change labels k label q

pub numbered_past : (actions : List Action) (k : ℕ) → length actions ≤ k → numbered actions (suc k) ≡ Other
numbered_past [] k l = refl
numbered_past (action ∷ actions) zero l = absurd (omega (arith, l))
numbered_past (action ∷ actions) (suc k) l = numbered_past actions k (omega (arith, l))

pub front_get : (labels : List Label) (n k : ℕ) → k < n → slice_get (take n labels) k ≡ slice_get labels k
front_get labels zero k l = absurd (omega (arith, l))
front_get [] (suc n) k l = refl
front_get (label ∷ labels) (suc n) zero l = refl
front_get (label ∷ labels) (suc n) (suc k) l = front_get labels n k (omega (arith, l))

pub front_front : (labels : List Label) (n k : ℕ) → k ≤ n → take k (take n labels) ≡ take k labels
front_front labels n zero l = refl
front_front labels zero (suc k) l = absurd (omega (arith, l))
front_front [] (suc n) (suc k) l = refl
front_front (label ∷ labels) (suc n) (suc k) l = ap (λ (ls : List Label). label ∷ ls) (front_front labels n k (omega (arith, l)))

pub front_length : (labels : List Label) (n : ℕ) → n ≤ length labels → length (take n labels) ≡ n
front_length labels zero l = refl
front_length [] (suc n) l = absurd (omega (arith, l))
front_length (label ∷ labels) (suc n) l = let e : length (take n labels) ≡ n = front_length labels n (omega (arith, l)) in omega (arith, e)

pub length_as : {A : Type 0} {B : Type 0} (f : A → B) (xs : List A) → length (map f xs) ≡ length xs
length_as f [] = refl
length_as f (x ∷ xs) = let e : length (map f xs) ≡ length xs = length_as f xs in omega (arith, e)
