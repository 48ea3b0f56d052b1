-- What the places of a history show, by what its session put there last and what was released since.
use Rattle.std.proofs.Common.{◌≡◌, refl, ℕ, ◌+◌, ◌-◌, ◌<◌, ◌≤◌, ◌==◌, ◌&&◌, ◌||◌, nat_lt, nat_le, Bool, true, false, cond, List, [], ◌∷◌, length, drop, filter, Option, Some, None, sym, ap, subst, ◌∙◌, inl, inr, arith}
use Rattle.std.specs.Prelude.{◌⊎◌}
use Rattle.std.proofs.lemmas.Bool.{eqb-true}
use Rattle.pfs_lemmas.proofs.Options.{some_same}
use Rattle.pfs_model.specs.Actions.{IsAmong}
use Rattle.pfs_model.specs.Chains.{Each, times, change_at, row_change, release_of, each_of, is_of, is_that, opens_free, is_free_after}
use Rattle.pfs_model.specs.EntryPlaces.{Placed}
use Rattle.pfs_model.specs.Rings.{history_of, is_history_row, is_kept, shown_at}
use Rattle.pfs_model.specs.declared.changes.Change.{Change}
use Rattle.pfs_law_summaries.proofs.HistoryOwners.{puts_by}
use Rattle.pfs_law_summaries.proofs.RecentPuts.{GoRound, first_row, last_at, last_recent, recent_last}
use Rattle.pfs_law_summaries.specs.ThreadHistories.{ShowsHistory}

-- a row's last version
abbrev pub last_version : List Placed → ℕ → ℕ
last_version all row = times (is_of row) (each_of row_change all)

-- the session's puts go round the places; the last one at a place is its row's last change; a place without one is FREE;
-- and no release is above the last version of its row
pub record GoesRound (all : List Placed) (session slot kind : ℕ) : Type 0 where
  pub round : GoRound (first_row slot kind) 0 (puts_by all session slot kind)
  pub last : (row version : ℕ) → is_history_row slot kind row ≡ true → last_at row (puts_by all session slot kind) ≡ Some version
      → (version ≡ last_version all row) × (0 < version)
  pub none : (row : ℕ) → is_history_row slot kind row ≡ true → last_at row (puts_by all session slot kind) ≡ None → is_free_after all row ≡ true
  pub had : (row : ℕ) → Each (λ release. release.row ≡ row → release.version ≤ last_version all row) (each_of release_of all)

among_filter : (t : Change → Bool) (x : Change) (xs : List Change) → IsAmong x xs → t x ≡ true → IsAmong x (filter t xs)
among_filter t x [] a k = a
among_filter t x (y ∷ ys) a k = on (t y) refl a (λ b. among_filter t x ys b k) where
  on : (b : Bool) → t y ≡ b → IsAmong x (y ∷ ys) → (IsAmong x ys → IsAmong x (filter t ys)) → IsAmong x (filter t (y ∷ ys))
  on true q (inl e) more = subst (IsAmong x) (sym (ap (λ z. cond z (y ∷ filter t ys) (filter t ys)) q)) (inl e)
  on true q (inr b) more = subst (IsAmong x) (sym (ap (λ z. cond z (y ∷ filter t ys) (filter t ys)) q)) (inr (more b))
  on false q (inl e) more = absurd (let f : false ≡ true = sym q ∙ (ap t e ∙ k) in cc)
  on false q (inr b) more = subst (IsAmong x) (sym (ap (λ z. cond z (y ∷ filter t ys) (filter t ys)) q)) (more b)

filter_among : (t : Change → Bool) (x : Change) (xs : List Change) → IsAmong x (filter t xs) → IsAmong x xs × (t x ≡ true)
filter_among t x [] a = absurd a
filter_among t x (y ∷ ys) a = on (t y) refl (filter_among t x ys) where
  on : (b : Bool) → t y ≡ b → (IsAmong x (filter t ys) → IsAmong x ys × (t x ≡ true)) → IsAmong x (y ∷ ys) × (t x ≡ true)
  on true q more = split (subst (IsAmong x) (ap (λ z. cond z (y ∷ filter t ys) (filter t ys)) q) a) where
    split : (y ≡ x) ⊎ IsAmong x (filter t ys) → IsAmong x (y ∷ ys) × (t x ≡ true)
    split (inl e) = (inl e, ap t (sym e) ∙ q)
    split (inr b) = let m : IsAmong x ys × (t x ≡ true) = more b in (inr m.0, m.1)
  on false q more =
      let m : IsAmong x ys × (t x ≡ true) = more (subst (IsAmong x) (ap (λ z. cond z (y ∷ filter t ys) (filter t ys)) q) a) in
      (inr m.0, m.1)

-- a release at the last version or above is one at the last version
pub none_above : (row n : ℕ) (rs : List Change) → Each (λ r. r.row ≡ row → r.version ≤ n) rs
    → times (λ r. (r.row == row) && nat_le n r.version) rs ≡ times (is_that (change_at row n)) rs
none_above row n [] h = refl
none_above row n (r ∷ rs) h =
    let e : ((r.row == row) && nat_le n r.version) ≡ ((r.row == row) && (r.version == n)) = same (r.row == row) refl in
    let m : times (λ x. (x.row == row) && nat_le n x.version) rs ≡ times (is_that (change_at row n)) rs = none_above row n rs h.1 in
    ap (λ b. cond b 1 0 + times (λ x. (x.row == row) && nat_le n x.version) rs) e ∙ ap (λ k. cond ((r.row == row) && (r.version == n)) 1 0 + k) m where
      top : (n v : ℕ) → v ≤ n → nat_le n v ≡ (v == n)
      top n v l = grind (arith, l)

      same : (b : Bool) → (r.row == row) ≡ b → (b && nat_le n r.version) ≡ (b && (r.version == n))
      same true q = top n r.version (h.0 (eqb-true r.row row q))
      same false q = refl

pub is_zero : (n : ℕ) → (n == 0) ≡ true → n ≡ 0
is_zero n q = eqb-true n 0 q

pub zero_is : (n : ℕ) → n ≡ 0 → (n == 0) ≡ true
zero_is n e = ap (λ z. z == 0) e

-- a row isn't FREE: then no release stands at its last version
pub not_freed : (m v : ℕ) (b : Bool) → nat_lt 0 m || ((v == 0) && b) ≡ false → m ≡ 0
not_freed m v b q = on (nat_lt 0 m) refl (sym q) where
  low : (m : ℕ) → nat_lt 0 m ≡ false → m ≡ 0
  low m q = grind (arith, q)

  on : (z : Bool) → nat_lt 0 m ≡ z → false ≡ nat_lt 0 m || ((v == 0) && b) → m ≡ 0
  on false p e = low m p
  on true p e = absurd (let f : false ≡ true = e ∙ ap (λ z. z || ((v == 0) && b)) p in cc)

-- and so it is where none does, and the row has a change
pub not_free : (m v : ℕ) (b : Bool) → m ≡ 0 → 0 < v → nat_lt 0 m || ((v == 0) && b) ≡ false
not_free m v b e l = ap (λ z. nat_lt 0 z || ((v == 0) && b)) e ∙ ap (λ z. z && b) (apart v l) where
  apart : (v : ℕ) → 0 < v → (v == 0) ≡ false
  apart v l = grind (arith, l)

module _ (all : List Placed) (session slot kind : ℕ) (h : GoesRound all session slot kind) (row : ℕ) (own : is_history_row slot kind row ≡ true) where
  abbrev puts : List Change
  puts = puts_by all session slot kind

  abbrev releases : List Change
  releases = each_of release_of all

  abbrev n : ℕ
  n = last_version all row

  abbrev freed : ℕ
  freed = times (is_that (change_at row n)) releases

  kept_is : is_kept releases (change_at row n) ≡ (freed == 0)
  kept_is = ap (λ k. k == 0) (none_above row n releases (h.had row))

  shows : (version : ℕ) → shown_at all row ≡ Some version → IsAmong (change_at row version) (history_of all session slot kind)
  shows version s = on (is_free_after all row) refl s where
    on : (b : Bool) → is_free_after all row ≡ b → cond b None (Some n) ≡ Some version → IsAmong (change_at row version) (history_of all session slot kind)
    on true q e = absurd (cc)
    on false q e = at (last_at row puts) refl where
      same : n ≡ version
      same = some_same n version e

      at : (o : Option ℕ) → last_at row puts ≡ o → IsAmong (change_at row version) (history_of all session slot kind)
      at None l = absurd (let f : true ≡ false = sym (h.none row own l) ∙ q in cc)
      at (Some w) l =
          let w_is : w ≡ n = (h.last row w own l).0 in
          let k : is_kept releases (change_at row n) ≡ true = kept_is ∙ zero_is freed (not_freed freed n (opens_free row) q) in
          let a : IsAmong (change_at row n) (drop (length puts - 10) puts) = subst (λ v. IsAmong (change_at row v) (drop (length puts - 10) puts)) w_is (last_recent (first_row slot kind) 0 puts h.round row w l) in
          subst (λ v. IsAmong (change_at row v) (history_of all session slot kind)) same (among_filter (is_kept releases) (change_at row n) (drop (length puts - 10) puts) a k)

  stands : (version : ℕ) → IsAmong (change_at row version) (history_of all session slot kind) → shown_at all row ≡ Some version
  stands version a =
      let f : IsAmong (change_at row version) (drop (length puts - 10) puts) × (is_kept releases (change_at row version) ≡ true) = filter_among (is_kept releases) (change_at row version) (drop (length puts - 10) puts) a in
      let l : last_at row puts ≡ Some version = recent_last (first_row slot kind) 0 puts h.round (change_at row version) f.0 in
      let v : (version ≡ n) × (0 < version) = h.last row version own l in
      let k : (freed == 0) ≡ true = sym kept_is ∙ subst (λ w. is_kept releases (change_at row w) ≡ true) v.0 f.1 in
      let q : is_free_after all row ≡ false = not_free freed n (opens_free row) (is_zero freed k) (subst (λ w. 0 < w) v.0 v.1) in
      ap (λ b. cond b None (Some n)) q ∙ ap Some (sym v.0)

pub shows_history : (all : List Placed) (session slot kind : ℕ) → GoesRound all session slot kind → (row : ℕ) → is_history_row slot kind row ≡ true
    → (version : ℕ) → ShowsHistory all session slot kind row version
shows_history all session slot kind h row own version = record {
  kept = shows all session slot kind h row own version;
  shown = stands all session slot kind h row own version;
}
