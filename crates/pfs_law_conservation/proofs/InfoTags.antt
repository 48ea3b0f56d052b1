-- Info rows are written below the rows of cells: what an action tags is what it was asked to sign.
use Rattle.std.proofs.Common.{◌≡◌, ℕ, ◌+◌, ◌*◌, ◌-◌, ◌<◌, ◌==◌, Bool, true, false, cond, inl, inr, List, [], ◌∷◌, ◌++◌, map, take, Option, Some, None, subst, arith}
use Rattle.std.specs.Prelude.{IfSome}
use Rattle.pfs_model.proofs.EachLists.{each_behind, each_front, each_join}
use Rattle.pfs_admin.specs.ConnectionAsks.{tag_of, account_tag, user_tag, host_tag, upper_tags, connect_work, quit_work}
use Rattle.pfs_admin.specs.Fold.{state_of}
use Rattle.pfs_admin.specs.AdministrationStates.{State, seat_in, seat_at, thread_flags, connected, has_quit}
use Rattle.pfs_admin.specs.FoldLaws.{row_of}
use Rattle.pfs_admin.specs.Truncations.{free_ring, is_there, kept_behind, work_of_truncation}
use Rattle.pfs_admin.specs.Works.{Sign, Releases, Tags}
use Rattle.pfs_admin.specs.declared.changes.Change.{Change}
use Rattle.pfs_admin.specs.declared.changes.Change.TheVariants as changes
use Rattle.pfs_law_session.specs.Demands.{signs_asked}
use Rattle.pfs_board.specs.declared.view.Label.{Label}
use Rattle.pfs_classes.specs.declared.setting.Setting.{Setting}
use Rattle.pfs_containers.specs.Administration.{Containers}
use Rattle.pfs_containers.specs.ContainerState.{AreWell, IsInRange}
use Rattle.pfs_containers.specs.declared.containers.Seated.{Seated}
use Rattle.pfs_levels.specs.Flushes.{Ascends}
use Rattle.pfs_model.specs.ActionAsks.{Did, Tagged, did, Move, Flagging, of_action, given_to, moved_by, signed_by, flagged_by, asked_of}
use Rattle.pfs_model.specs.Chains.{Each, each_of}
use Rattle.pfs_model.specs.EntryPlaces.{Placed}
use Rattle.pfs_law_plain.proofs.TruncationRows.{AreInfosOrRings, IsRelease, rows_release, signs_split}
use Rattle.pfs_runs.specs.Labels.{work_for, work_of_label, work_at, label_at, asked_at}
use Rattle.pfs_law_plain.proofs.SessionPlaces.{fold_well, seat_at_in, seat_in_in}

-- what is tagged is an info row
abbrev pub IsLowTag : Did → Type 0
IsLowTag (Tagged row) = row < 129
IsLowTag _ = Unit {0}

abbrev pub IsLowSign : Sign → Type 0
IsLowSign (Releases row) = Unit {0}
IsLowSign (Tags row content) = row < 129

-- the signs of a change
low_tag : (row : ℕ) (content : Option (List ℕ)) → row < 129 → Each IsLowSign (tag_of row content)
low_tag row None l = tt
low_tag row (Some content) l = (l, tt)

low_account : (c : Containers) (place : Option ℕ) → IfSome place (λ p. p < 32) → Each IsLowSign (account_tag c place)
low_account c None l = tt
low_account c (Some place) l = low_tag (33 + place) _ (omega (arith, l))

low_user : (c : Containers) (place : Option ℕ) → IfSome place (λ p. p < 32) → Each IsLowSign (user_tag c place)
low_user c None l = tt
low_user c (Some place) l = low_tag (65 + place) _ (omega (arith, l))

low_host : (c : Containers) (place : Option ℕ) → IfSome place (λ p. p < 32) → Each IsLowSign (host_tag c place)
low_host c None l = tt
low_host c (Some place) l = low_tag (97 + place) _ (omega (arith, l))

low_upper : (c : Containers) (seat : Seated) → IsInRange seat → Each IsLowSign (upper_tags c seat.connection)
low_upper c seat r =
    each_join IsLowSign (account_tag c seat.connection.account) _ (low_account c seat.connection.account r.places.account)
    (each_join IsLowSign (user_tag c seat.connection.user) _ (low_user c seat.connection.user r.places.user) (low_host c seat.connection.host r.places.host))

low_ascending : (low : ℕ) (signs : List Sign) → Ascends low 129 (map row_of signs) → Each IsLowSign signs
low_ascending low [] a = tt
low_ascending low (Releases row ∷ signs) a = (tt, low_ascending (row + 1) signs a.1.1)
low_ascending low (Tags row content ∷ signs) a = (a.1.0, low_ascending (row + 1) signs a.1.1)

-- what is released is written nowhere
low_releases : (signs : List Sign) → Each IsRelease signs → Each IsLowSign signs
low_releases [] r = tt
low_releases (Releases row ∷ signs) r = (tt, low_releases signs r.1)
low_releases (Tags row content ∷ signs) r = absurd r.0

low_split : (signs : List Sign) → AreInfosOrRings signs → Each IsLowSign signs
low_split signs (inl a) = low_ascending 1 signs a
low_split signs (inr a) = low_releases signs a.1

low_work : (s : State) (session : ℕ) (what : Change) → AreWell s.kept.now.places → Each IsLowSign (work_for s session what).signs
low_work s session (changes.Connect user host) well = on (seat_at s session user host) (seat_at_in s.kept.now session user host well) where
  on : (o : Option Seated) → IfSome o IsInRange → Each IsLowSign (connect_work s.words (thread_flags s user host) (connected s session user host).kept.now o).signs
  on None r = tt
  on (Some seat) r = (let l : seat.slot < 32 = r.slot in omega (arith, l), low_upper (connected s session user host).kept.now seat r)
low_work s session changes.Quit well = on (seat_in s session) (seat_in_in s.kept.now session well) where
  on : (o : Option Seated) → IfSome o IsInRange → Each IsLowSign (quit_work s.words s.cells (has_quit s session).kept.now o).signs
  on None r = tt
  on (Some seat) r =
      (tt, each_join IsLowSign (upper_tags (has_quit s session).kept.now seat.connection) (free_ring seat.slot) (low_upper (has_quit s session).kept.now seat r) (low_releases (free_ring seat.slot) (rows_release (8450 + 56 * seat.slot) 56)))
low_work s session (changes.Truncate what) well = low_split (work_of_truncation s what).signs (signs_split (is_there s.kept.now.places) (kept_behind s.kept what).now what)
low_work s session (changes.Setup what) well = tt

low_label : (setting : Setting) (change : Label → Change) (labels : List Label) (number : ℕ) → Each IsLowSign (work_at setting change labels number).signs
low_label setting change labels number = on (label_at labels number) where
  on : (o : Option Label) → Each IsLowSign (work_of_label change (state_of setting change (take (number - 1) labels)) o).signs
  on None = tt
  on (Some label) = low_work (state_of setting change (take (number - 1) labels)) label.session (change label) (fold_well setting change (take (number - 1) labels))

-- so what is done of them
low_signed : (signs : List Sign) → Each IsLowSign signs → Each IsLowTag (signed_by (signs_asked signs))
low_signed [] h = tt
low_signed (Releases row ∷ signs) h = (tt, low_signed signs h.1)
low_signed (Tags row content ∷ signs) h = (h.0, low_signed signs h.1)

low_flagged : (flags : List Flagging) → Each IsLowTag (flagged_by flags)
low_flagged [] = tt
low_flagged (one ∷ others) = (tt, low_flagged others)

low_moved : (counted : ℕ → Bool) (moves : List Move) → Each IsLowTag (moved_by counted moves)
low_moved counted [] = tt
low_moved counted (move ∷ moves) = (tt, each_join IsLowTag (cond (counted move.from) (given_to move.from move.to) []) _ (given (counted move.from)) (low_moved counted moves)) where
  gives : (from : ℕ) (to : List ℕ) → Each IsLowTag (given_to from to)
  gives from [] = tt
  gives from (row ∷ rows) = (tt, gives from rows)

  given : (b : Bool) → Each IsLowTag (cond b (given_to move.from move.to) [])
  given true = gives move.from move.to
  given false = tt

pub low_asked : (setting : Setting) (change : Label → Change) (labels : List Label) (counted : ℕ → Bool) (number : ℕ) → Each IsLowTag (asked_of counted (asked_at setting change labels number))
low_asked setting change labels counted number =
    each_join IsLowTag (moved_by counted (asked_at setting change labels number).moves) _ (low_moved counted (asked_at setting change labels number).moves)
    (each_join IsLowTag (signed_by (asked_at setting change labels number).signs) _ (low_signed (work_at setting change labels number).signs (low_label setting change labels number)) (low_flagged (asked_at setting change labels number).sets))

-- what holds of all that an action did holds of what each of its entries did
pub each_did : (P : Did → Type 0) (ps : List Placed) → ((action : ℕ) → 0 < action → Each P (each_of did (of_action action ps))) → Each (λ (p : Placed). 0 < p.context.action → Each P (did p.entry)) ps
each_did P [] h = tt
each_did P (p ∷ ps) h = (here, each_did P ps (λ action l. later action (p.context.action == action) (h action l))) where
  eq_self : (n : ℕ) → (n == n) ≡ true
  eq_self n = grind arith

  here : 0 < p.context.action → Each P (did p.entry)
  here l = each_front P (did p.entry) _ (subst (λ b. Each P (each_of did (cond b (p ∷ []) [] ++ of_action p.context.action ps))) (eq_self p.context.action) (h p.context.action l))

  later : (action : ℕ) (b : Bool) → Each P (each_of did (cond b (p ∷ []) [] ++ of_action action ps)) → Each P (each_of did (of_action action ps))
  later action true e = each_behind P (did p.entry) _ e
  later action false e = e
