-- Rows of cells and of digests are never FREE: nothing but info rows is released.
use Rattle.std.proofs.Common.{◌⊎◌, inl, inr, ◌≡◌, ℕ, ◌+◌, ◌-◌, ◌*◌, ◌<◌, ◌≤◌, ◌==◌, ◌&&◌, Bool, true, false, cond, nat_lt, nat_le, List, [], ◌∷◌, ◌++◌, length, map, take, Option, Some, None, refl, sym, ap, subst, ◌∙◌, arith, append-nil}
use Rattle.std.specs.Prelude.{IfSome, ◌||◌}
use Rattle.std.proofs.lemmas.Bool.{eqb-true}
use Rattle.pfs_admin.proofs.ActionRows.{frees_ascend}
use Rattle.pfs_admin.specs.ConnectionAsks.{account_tag, user_tag, host_tag, upper_tags, tag_of, connect_work, quit_work}
use Rattle.pfs_admin.specs.Fold.{state_of}
use Rattle.pfs_admin.specs.FoldLaws.{row_of}
use Rattle.pfs_admin.specs.AdministrationStates.{State as Admin, seat_at, seat_in, connected, has_quit, thread_flags}
use Rattle.pfs_admin.specs.Truncations.{free_ring, is_there, kept_behind, work_of_truncation}
use Rattle.pfs_admin.specs.Works.{Releases, Sign as Said, Tags, Work}
use Rattle.pfs_admin.specs.declared.changes.Change.{Change}
use Rattle.pfs_admin.specs.declared.changes.Change.TheVariants as changes
use Rattle.pfs_law_session.specs.Demands.{asked_by, moves_asked, signs_asked, sets_asked}
use Rattle.pfs_board.specs.declared.view.Label.{Label}
use Rattle.pfs_containers.specs.Administration.{Containers}
use Rattle.pfs_containers.specs.ContainerState.{IsInRange}
use Rattle.pfs_containers.specs.declared.containers.Connection.{Connection}
use Rattle.pfs_containers.specs.declared.containers.Seated.{Seated}
use Rattle.pfs_event.specs.declared.entry.Entry.{Entry}
use Rattle.pfs_event.specs.declared.entry.Entry.TheVariants as says
use Rattle.pfs_levels.specs.Flushes.{Ascends}
use Rattle.pfs_model.specs.Actions.{IsAmong, is_acted}
use Rattle.pfs_model.specs.ActionAsks.{Move, Sign, Frees, Flagging, Did, Freed, did, given_to, moved_by, signed_by, flagged_by, asked_of, of_action}
use Rattle.pfs_model.specs.ActionAsks.{Tags as Tagging}
use Rattle.pfs_model.specs.Chains.{Each, change_at, times, row_change, release_of, each_of, is_of, is_that, is_free_after, opens_free}
use Rattle.pfs_model.specs.EntryPlaces.{Placed, places, up_to_phase}
use Rattle.pfs_law_plain.proofs.TruncationRows.{AreInfosOrRings, signs_split}
use Rattle.pfs_runs.specs.Labels.{label_at, work_at, work_for, work_of_label}
use Rattle.pfs_law_conservation.proofs.AdditionFloors.{place_among}
use Rattle.pfs_law_conservation.proofs.ActionJournals.{HasNumber, IsSaid, all_said, said_to, said_range}
use Rattle.pfs_law_plain.proofs.SessionPlaces.{fold_well, seat_in_in}
use Rattle.pfs_law_conservation.specs.Premises.{AreKept}
use Rattle.pfs_law_conservation.specs.RunTerms.{Run, entries_to}
use Rattle.pfs_rows.specs.declared.truncations.Truncation.{Truncation}

tag_frees : (row info : ℕ) (content : Option (List ℕ)) (rest : List Said) → IsAmong (Frees row) (signs_asked (tag_of info content ++ rest)) → IsAmong (Frees row) (signs_asked rest)
tag_frees row info None rest m = m
tag_frees row info (Some content) rest (inl e) = absurd (cc)
tag_frees row info (Some content) rest (inr m) = m

account_frees : (c : Containers) (place : Option ℕ) (row : ℕ) (rest : List Said) → IsAmong (Frees row) (signs_asked (account_tag c place ++ rest)) → IsAmong (Frees row) (signs_asked rest)
account_frees c None row rest m = m
account_frees c (Some place) row rest m = tag_frees row _ _ rest m

user_frees : (c : Containers) (place : Option ℕ) (row : ℕ) (rest : List Said) → IsAmong (Frees row) (signs_asked (user_tag c place ++ rest)) → IsAmong (Frees row) (signs_asked rest)
user_frees c None row rest m = m
user_frees c (Some place) row rest m = tag_frees row _ _ rest m

host_frees : (c : Containers) (place : Option ℕ) (row : ℕ) (rest : List Said) → IsAmong (Frees row) (signs_asked (host_tag c place ++ rest)) → IsAmong (Frees row) (signs_asked rest)
host_frees c None row rest m = m
host_frees c (Some place) row rest m = tag_frees row _ _ rest m

upper_frees : (c : Containers) (x : Connection) (row : ℕ) → IsAmong (Frees row) (signs_asked (upper_tags c x)) → ⊥
upper_frees c x row m =
    host_frees c x.host row [] (subst (λ l. IsAmong (Frees row) (signs_asked l)) (sym (append-nil (host_tag c x.host))) (user_frees c x.user row (host_tag c x.host) (account_frees c x.account row (user_tag c x.user ++ host_tag c x.host) m)))

-- a row that is released is an info row, or a place of a ring
abbrev IsFreedRow : ℕ → Type 0
IsFreedRow row = (row < 129) ⊎ (8450 ≤ row)

connect_frees : (s : Admin) (number user host row : ℕ) (o : Option Seated) → IsAmong (Frees row) (signs_asked (connect_work s.words (thread_flags s user host) (connected s number user host).kept.now o).signs) → IsFreedRow row
connect_frees s number user host row None m = absurd m
connect_frees s number user host row (Some seat) (inl e) = absurd (cc)
connect_frees s number user host row (Some seat) (inr m) = absurd (upper_frees (connected s number user host).kept.now seat.connection row m)

asked_either : (row : ℕ) (xs ys : List Said) → IsAmong (Frees row) (signs_asked (xs ++ ys)) → IsAmong (Frees row) (signs_asked xs) ⊎ IsAmong (Frees row) (signs_asked ys)
asked_either row [] ys m = inr m
asked_either row (Releases x ∷ xs) ys (inl e) = inl (inl e)
asked_either row (Releases x ∷ xs) ys (inr m) = more (asked_either row xs ys m) where
  more : IsAmong (Frees row) (signs_asked xs) ⊎ IsAmong (Frees row) (signs_asked ys) → IsAmong (Frees row) (signs_asked (Releases x ∷ xs)) ⊎ IsAmong (Frees row) (signs_asked ys)
  more (inl a) = inl (inr a)
  more (inr b) = inr b
asked_either row (Tags x content ∷ xs) ys (inl e) = inl (inl e)
asked_either row (Tags x content ∷ xs) ys (inr m) = more (asked_either row xs ys m) where
  more : IsAmong (Frees row) (signs_asked xs) ⊎ IsAmong (Frees row) (signs_asked ys) → IsAmong (Frees row) (signs_asked (Tags x content ∷ xs)) ⊎ IsAmong (Frees row) (signs_asked ys)
  more (inl a) = inl (inr a)
  more (inr b) = inr b

-- rows that ascend lie above their first
above_frees : (low limit row : ℕ) (signs : List Said) → Ascends low limit (map row_of signs) → IsAmong (Frees row) (signs_asked signs) → low ≤ row
above_frees low limit row [] a m = absurd m
above_frees low limit row (Releases x ∷ signs) a (inl e) = let f : x ≡ row = cc in let l : low ≤ x = a.0 in omega (arith, f, l)
above_frees low limit row (Releases x ∷ signs) a (inr m) =
    let l : low ≤ x = a.0 in
    let r : x + 1 ≤ row = above_frees (x + 1) limit row signs a.1.1 m in
    omega (arith, l, r)
above_frees low limit row (Tags x content ∷ signs) a (inl e) = absurd (cc)
above_frees low limit row (Tags x content ∷ signs) a (inr m) =
    let l : low ≤ x = a.0 in
    let r : x + 1 ≤ row = above_frees (x + 1) limit row signs a.1.1 m in
    omega (arith, l, r)

quit_frees : (s : Admin) (number row : ℕ) (o : Option Seated) → IfSome o IsInRange → IsAmong (Frees row) (signs_asked (quit_work s.words s.cells (has_quit s number).kept.now o).signs) → IsFreedRow row
quit_frees s number row None low m = absurd m
quit_frees s number row (Some seat) low (inl e) = let f : 1 + seat.slot ≡ row = cc in let l : seat.slot < 32 = low.slot in inl (omega (arith, f, l))
quit_frees s number row (Some seat) low (inr m) = by_part (asked_either row (upper_tags (has_quit s number).kept.now seat.connection) (free_ring seat.slot) m) where
  by_part : IsAmong (Frees row) (signs_asked (upper_tags (has_quit s number).kept.now seat.connection)) ⊎ IsAmong (Frees row) (signs_asked (free_ring seat.slot)) → IsFreedRow row
  by_part (inl a) = absurd (upper_frees (has_quit s number).kept.now seat.connection row a)
  by_part (inr b) =
      let l : 8450 + 56 * seat.slot ≤ row = above_frees (8450 + 56 * seat.slot) (8450 + 56 * seat.slot + 56) row (free_ring seat.slot) (frees_ascend (8450 + 56 * seat.slot) 56) b in
      inr (omega (arith, l))

-- rows that ascend below a limit lie below it
ascending_frees : (low row : ℕ) (signs : List Said) → Ascends low 129 (map row_of signs) → IsAmong (Frees row) (signs_asked signs) → row < 129
ascending_frees low row [] a m = absurd m
ascending_frees low row (Releases x ∷ signs) a (inl e) = let f : x ≡ row = cc in let l : x < 129 = a.1.0 in omega (arith, f, l)
ascending_frees low row (Releases x ∷ signs) a (inr m) = ascending_frees (x + 1) row signs a.1.1 m
ascending_frees low row (Tags x content ∷ signs) a (inl e) = absurd (cc)
ascending_frees low row (Tags x content ∷ signs) a (inr m) = ascending_frees (x + 1) row signs a.1.1 m

truncation_frees : (s : Admin) (what : Truncation) (row : ℕ) → IsAmong (Frees row) (signs_asked (work_of_truncation s what).signs) → IsFreedRow row
truncation_frees s what row m = by_split (signs_split (is_there s.kept.now.places) (kept_behind s.kept what).now what) where
  by_split : AreInfosOrRings (work_of_truncation s what).signs → IsFreedRow row
  by_split (inl a) = inl (ascending_frees 1 row (work_of_truncation s what).signs a m)
  by_split (inr a) = inr (above_frees 8450 14242 row (work_of_truncation s what).signs a.0 m)

work_frees : (setting : _) (change : Label → Change) (labels : List Label) (session row : ℕ) (what : Change) → IsAmong (Frees row) (signs_asked (work_for (state_of setting change labels) session what).signs) → IsFreedRow row
work_frees setting change labels session row (changes.Connect user host) m = connect_frees (state_of setting change labels) session user host row (seat_at (state_of setting change labels) session user host) m
work_frees setting change labels session row changes.Quit m =
    quit_frees (state_of setting change labels) session row (seat_in (state_of setting change labels) session) (seat_in_in (state_of setting change labels).kept.now session (fold_well setting change labels)) m
work_frees setting change labels session row (changes.Truncate what) m = truncation_frees (state_of setting change labels) what row m
work_frees setting change labels session row (changes.Setup what) m = absurd m

asked_frees : (setting : _) (change : Label → Change) (labels : List Label) (number row : ℕ) → IsAmong (Frees row) (signs_asked (work_at setting change labels number).signs) → IsFreedRow row
asked_frees setting change labels number row m = at (label_at labels number) m where
  at : (o : Option Label) → IsAmong (Frees row) (signs_asked (work_of_label change (state_of setting change (take (number - 1) labels)) o).signs) → IsFreedRow row
  at None m = absurd m
  at (Some label) m = work_frees setting change (take (number - 1) labels) label.session row (change label) m

-- ---- what is done is asked for

given_frees : (row from : ℕ) (to : List ℕ) (rest : List Did) → IsAmong (Freed row) (given_to from to ++ rest) → IsAmong (Freed row) rest
given_frees row from [] rest m = m
given_frees row from (x ∷ to) rest (inl e) = absurd (cc)
given_frees row from (x ∷ to) rest (inr m) = given_frees row from to rest m

moved_frees : (row : ℕ) (counted : ℕ → Bool) (moves : List Move) (rest : List Did) → IsAmong (Freed row) (moved_by counted moves ++ rest) → IsAmong (Freed row) rest
moved_frees row counted [] rest m = m
moved_frees row counted (move ∷ moves) rest (inl e) = absurd (cc)
moved_frees row counted (move ∷ moves) rest (inr m) =
    moved_frees row counted moves rest (at (counted move.from) m) where
      joined : (xs ys zs : List Did) → (xs ++ ys) ++ zs ≡ xs ++ (ys ++ zs)
      joined [] ys zs = refl
      joined (x ∷ xs) ys zs = ap (λ (l : List Did). x ∷ l) (joined xs ys zs)

      at : (b : Bool) → IsAmong (Freed row) ((cond b (given_to move.from move.to) [] ++ moved_by counted moves) ++ rest) → IsAmong (Freed row) (moved_by counted moves ++ rest)
      at true m = given_frees row move.from move.to (moved_by counted moves ++ rest) (subst (IsAmong (Freed row)) (joined (given_to move.from move.to) (moved_by counted moves) rest) m)
      at false m = m

signed_frees : (row : ℕ) (signs : List Sign) (rest : List Did) → IsAmong (Freed row) (signed_by signs ++ rest) → IsAmong (Frees row) signs ⊎ IsAmong (Freed row) rest
signed_frees row [] rest m = inr m
signed_frees row (Frees x ∷ signs) rest (inl e) = inl (inl (let f : x ≡ row = cc in ap Frees f))
signed_frees row (Frees x ∷ signs) rest (inr m) = by (signed_frees row signs rest m) where
  by : IsAmong (Frees row) signs ⊎ IsAmong (Freed row) rest → IsAmong (Frees row) (Frees x ∷ signs) ⊎ IsAmong (Freed row) rest
  by (inl m) = inl (inr m)
  by (inr m) = inr m
signed_frees row (Tagging x ∷ signs) rest (inl e) = absurd (cc)
signed_frees row (Tagging x ∷ signs) rest (inr m) = by (signed_frees row signs rest m) where
  by : IsAmong (Frees row) signs ⊎ IsAmong (Freed row) rest → IsAmong (Frees row) (Tagging x ∷ signs) ⊎ IsAmong (Freed row) rest
  by (inl m) = inl (inr m)
  by (inr m) = inr m

flagged_frees : (row : ℕ) (flags : List Flagging) → IsAmong (Freed row) (flagged_by flags) → ⊥
flagged_frees row [] m = m
flagged_frees row (f ∷ flags) (inl e) = absurd (cc)
flagged_frees row (f ∷ flags) (inr m) = flagged_frees row flags m

work_asked : (row : ℕ) (counted : ℕ → Bool) (work : Work) → IsAmong (Freed row) (asked_of counted (asked_by work)) → IsAmong (Frees row) (signs_asked work.signs)
work_asked row counted work m =
    by (signed_frees row (signs_asked work.signs) (flagged_by (sets_asked work.flags)) (moved_frees row counted (moves_asked work.moves) (signed_by (signs_asked work.signs) ++ flagged_by (sets_asked work.flags)) m)) where
      by : IsAmong (Frees row) (signs_asked work.signs) ⊎ IsAmong (Freed row) (flagged_by (sets_asked work.flags)) → IsAmong (Frees row) (signs_asked work.signs)
      by (inl m) = m
      by (inr m) = absurd (flagged_frees row (sets_asked work.flags) m)

-- a release is among what its action did
did_among : (row version number : ℕ) (p : Placed) (ps : List Placed) → IsAmong p ps → p.context.action ≡ number → p.entry ≡ says.Free row version → IsAmong (Freed row) (each_of did (of_action number ps))
did_among row version number p [] m a e = m
did_among row version number p (x ∷ ps) (inl q) a e =
    subst (λ b. IsAmong (Freed row) (each_of did (cond b (x ∷ []) [] ++ of_action number ps))) (sym own) (subst (λ y. IsAmong (Freed row) (did y ++ each_of did (of_action number ps))) (sym (ap (λ (z : Placed). z.entry) q ∙ e)) (inl refl)) where
      self : (n : ℕ) → (n == n) ≡ true
      self n = grind arith

      own : (x.context.action == number) ≡ true
      own = ap (λ n. n == number) (ap (λ (z : Placed). z.context.action) q ∙ a) ∙ self number
did_among row version number p (x ∷ ps) (inr m) a e = at (x.context.action == number) (did_among row version number p ps m a e) where
  more : (ds es : List Did) → IsAmong (Freed row) es → IsAmong (Freed row) (ds ++ es)
  more [] es m = m
  more (d ∷ ds) es m = inr (more ds es m)

  at : (b : Bool) → IsAmong (Freed row) (each_of did (of_action number ps)) → IsAmong (Freed row) (each_of did (cond b (x ∷ []) [] ++ of_action number ps))
  at true m = more (did x.entry) (each_of did (of_action number ps)) m
  at false m = m

-- so no release is of a cell

abbrev FreesLow : Placed → Type 0
FreesLow p = (row version : ℕ) → p.entry ≡ says.Free row version → IsFreedRow row

each_low : (ps all : List Placed) → ((p : Placed) → IsAmong p ps → IsAmong p all) → ((p : Placed) → IsAmong p all → FreesLow p) → Each FreesLow ps
each_low [] all sub h = tt
each_low (p ∷ ps) all sub h = (h p (sub p (inl refl)), each_low ps all (λ q m. sub q (inr m)) h)

low_frees : (run : Run) → AreKept run → (p : Placed) → IsAmong p (places run.blocks) → FreesLow p
low_frees run kept p m row version e = by (place_among (HasNumber (places run.blocks)) p (places run.blocks) m (all_said run.blocks kept.rules.shaped)) where
  by : HasNumber (places run.blocks) p → IsFreedRow row
  by (inl n) = absurd (let z : true ≡ false = sym (ap is_acted e) ∙ n.1 in cc)
  by (inr s) =
      let t : IsSaid (up_to_phase p.phase (places run.blocks)) p.session p.phase p.context.action = said_to p.phase p.session p.phase p.context.action (places run.blocks) (self p.phase) s in
      let r : (1 ≤ p.context.action) × (p.context.action ≤ length (each_of _ (up_to_phase p.phase (places run.blocks)))) = said_range p.phase p.session p.phase p.context.action (places run.blocks) kept.rules.joint.ordered.numbers t in
      asked_frees run.setting run.change run.labels p.context.action row
      (work_asked row (run.counted p.context.action) (work_at run.setting run.change run.labels p.context.action)
      (subst (IsAmong (Freed row)) (kept.rules.done p.context.action (let l : 1 ≤ p.context.action = r.0 in omega (arith, l))) (did_among row version p.context.action p (places run.blocks) m refl e))) where
        self : (n : ℕ) → nat_le n n ≡ true
        self n = grind arith

none_released : (row version : ℕ) (ps : List Placed) → 129 ≤ row → row < 8450 → Each FreesLow ps → times (is_that (change_at row version)) (each_of release_of ps) ≡ 0
none_released row version [] l u h = refl
none_released row version (p ∷ ps) l u h = by p.entry refl (none_released row version ps l u h.1) where
  by : (e : Entry) → p.entry ≡ e → times (is_that (change_at row version)) (each_of release_of ps) ≡ 0 → times (is_that (change_at row version)) (release_of e ++ each_of release_of ps) ≡ 0
  by (says.Free at v) q rest = on (at == row) refl where
    none : (n : ℕ) → 0 + n ≡ n
    none n = omega arith

    nowhere : IsFreedRow at → at ≡ row → ⊥
    nowhere (inl k) s = absurd (omega (arith, k, s, l))
    nowhere (inr k) s = absurd (omega (arith, k, s, u))

    on : (b : Bool) → (at == row) ≡ b → cond {A = ℕ} ((at == row) && (v == version)) 1 0 + times (is_that (change_at row version)) (each_of release_of ps) ≡ 0
    on true w = absurd (nowhere (h.0 at v q) (eqb-true at row w))
    on false w = ap (λ b. cond {A = ℕ} (b && (v == version)) 1 0 + times (is_that (change_at row version)) (each_of release_of ps)) w ∙ (none (times (is_that (change_at row version)) (each_of release_of ps)) ∙ rest)
  by _ q rest = rest

chosen_among : (phase : ℕ) (p : Placed) (ps : List Placed) → IsAmong p (up_to_phase phase ps) → IsAmong p ps
chosen_among phase p [] m = m
chosen_among phase p (x ∷ ps) m = at (nat_le x.phase phase) m (λ k. chosen_among phase p ps k) where
  at : (b : Bool) → IsAmong p (cond b (x ∷ []) [] ++ up_to_phase phase ps) → (IsAmong p (up_to_phase phase ps) → IsAmong p ps) → IsAmong p (x ∷ ps)
  at true (inl q) go = inl q
  at true (inr k) go = inr (go k)
  at false k go = inr (go k)

pub never_free : (run : Run) (phase : ℕ) → AreKept run → (row : ℕ) → 129 ≤ row → row < 8450 → is_free_after (entries_to run phase) row ≡ false
never_free run phase kept row low high =
    ap (λ n. nat_lt 0 n || ((times (is_of row) (each_of row_change (entries_to run phase)) == 0) && opens_free row))
    (none_released row (times (is_of row) (each_of row_change (entries_to run phase))) (entries_to run phase) low (omega (arith, high)) (each_low (entries_to run phase) (places run.blocks) (λ p m. chosen_among phase p (places run.blocks) m) (low_frees run kept)))
    ∙ off (times (is_of row) (each_of row_change (entries_to run phase)) == 0) (opens_free row) (closed row low high) where
      off : (a b : Bool) → b ≡ false → (nat_lt 0 0 || (a && b)) ≡ false
      off true b q = q
      off false b q = refl

      closed : (row : ℕ) → 129 ≤ row → row < 8450 → opens_free row ≡ false
      closed row l h = grind (arith, l, h)
