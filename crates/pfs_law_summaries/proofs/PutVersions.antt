-- A session's puts at a place rise, since each line of a session names versions above those that it has seen.
use Rattle.std.proofs.Common.{◌≡◌, refl, ℕ, ◌<◌, ◌≤◌, ◌==◌, ◌&&◌, Bool, true, false, cond, List, [], ◌∷◌, ◌++◌, max, Option, Some, None, sym, ap, subst, ◌∙◌, inl, inr, arith}
use Rattle.std.specs.Prelude.{◌⊎◌}
use Rattle.std.proofs.lemmas.Bool.{eqb-true, eq-eqb}
use Rattle.pfs_lemmas.proofs.Options.{some_same}
use Rattle.pfs_event.specs.declared.entry.Entry.{Entry}
use Rattle.pfs_event.specs.declared.entry.Entry.TheVariants as says
use Rattle.pfs_model.specs.Actions.{IsAmong}
use Rattle.pfs_model.specs.Chains.{change_at, each_of, is_of, row_change, times}
use Rattle.pfs_model.specs.Floors.{AreFlooredBehind, NamingsKeep, by_actions, floor_of, greatest, namings_of, rows_known}
use Rattle.pfs_model.specs.EntryPlaces.{Placed, before_phase, by_session}
use Rattle.pfs_model.specs.Rings.{history_put, history_puts, is_history_row}
use Rattle.pfs_model.specs.declared.changes.Change.{Change}
use Rattle.pfs_law_summaries.proofs.HistoryOwners.{IsBelow}
use Rattle.pfs_law_summaries.proofs.RecentPuts.{last_at, or_else}
use Rattle.pfs_model.proofs.Members.{among_back}

-- changes each of which is below those of its row behind it
abbrev pub DoRise : List Change → Type 0
DoRise [] = Unit {0}
DoRise (x ∷ xs) = IsBelow x xs × DoRise xs

-- what the last version of a row is, by what stands behind the first change
late_is : (row : ℕ) (x : Change) (xs : List Change) (k v : ℕ) → last_at row xs ≡ Some k → last_at row (x ∷ xs) ≡ Some v → k ≡ v
late_is row x xs k v q e = some_same k v (sym (ap (λ o. or_else o (cond (x.row == row) (Some x.version) None)) q) ∙ e)

first_is : (row : ℕ) (x : Change) (xs : List Change) (v : ℕ) → last_at row xs ≡ None → (x.row == row) ≡ true → last_at row (x ∷ xs) ≡ Some v → x.version ≡ v
first_is row x xs v q z e = some_same x.version v (sym (ap (λ t. cond t (Some x.version) None) z) ∙ (sym (ap (λ o. or_else o (cond (x.row == row) (Some x.version) None)) q) ∙ e))

none_is : (row : ℕ) (x : Change) (xs : List Change) (v : ℕ) → last_at row xs ≡ None → (x.row == row) ≡ false → last_at row (x ∷ xs) ≡ Some v → ⊥
none_is row x xs v q z e = absurd (let f : None ≡ Some v = sym (ap (λ t. cond t (Some x.version) None) z) ∙ (sym (ap (λ o. or_else o (cond (x.row == row) (Some x.version) None)) q) ∙ e) in cc)

-- a row that has a change has a last one
pub has_last : (row w : ℕ) (ys : List Change) → IsAmong (change_at row w) ys → (k : ℕ) × (last_at row ys ≡ Some k)
has_last row w [] b = absurd b
has_last row w (y ∷ ys) b = there (last_at row ys) refl b (has_last row w ys) where
  there : (o : Option ℕ) → last_at row ys ≡ o → IsAmong (change_at row w) (y ∷ ys) → (IsAmong (change_at row w) ys → (k : ℕ) × (last_at row ys ≡ Some k)) → (k : ℕ) × (last_at row (y ∷ ys) ≡ Some k)
  there (Some k) p m go = (k, ap (λ o. or_else o (cond (y.row == row) (Some y.version) None)) p)
  there None p (inl i) go = (y.version, ap (λ o. or_else o (cond (y.row == row) (Some y.version) None)) p ∙ ap (λ t. cond t (Some y.version) None) (eq-eqb y.row row (ap (λ (c : Change). c.row) i)))
  there None p (inr n) go = absurd (let s : (k : ℕ) × (last_at row ys ≡ Some k) = go n in let f : None ≡ Some s.0 = sym p ∙ s.1 in cc)

above_last : (row : ℕ) (x : Change) (ys : List Change) → IsBelow x ys → x.row ≡ row → (k : ℕ) → last_at row ys ≡ Some k → x.version ≤ k
above_last row x [] b q k l = absurd (cc)
above_last row x (y ∷ ys) b q k l = at (last_at row ys) refl (y.row == row) refl (above_last row x ys b.1 q) where
  at : (o : Option ℕ) → last_at row ys ≡ o → (t : Bool) → (y.row == row) ≡ t → ((m : ℕ) → last_at row ys ≡ Some m → x.version ≤ m) → x.version ≤ k
  at (Some m) p t z go = subst (λ n. x.version ≤ n) (late_is row y ys m k p l) (go m p)
  at None p true z go =
      let f : y.version ≡ k = first_is row y ys k p z l in
      let g : x.version < y.version = b.0 (eqb-true y.row row z ∙ sym q) in
      omega (arith, f, g)
  at None p false z go = absurd (none_is row y ys k p z l)

-- then the last one of a row is the greatest
pub last_greatest : (row : ℕ) (xs : List Change) → DoRise xs → (w : ℕ) → IsAmong (change_at row w) xs → (v : ℕ) → last_at row xs ≡ Some v → w ≤ v
last_greatest row [] r w a v e = absurd a
last_greatest row (x ∷ xs) r w a v e = on (last_at row xs) refl (x.row == row) refl a (λ m k q. last_greatest row xs r.1 w m k q) where
  Later : Type 0
  Later = IsAmong (change_at row w) xs → (k : ℕ) → last_at row xs ≡ Some k → w ≤ k

  on : (o : Option ℕ) → last_at row xs ≡ o → (t : Bool) → (x.row == row) ≡ t → IsAmong (change_at row w) (x ∷ xs) → Later → w ≤ v
  on (Some k) q t z (inl i) go =
      let m : x.version ≤ k = above_last row x xs r.0 (ap (λ (c : Change). c.row) i) k q in
      let f : k ≡ v = late_is row x xs k v q e in
      let g : x.version ≡ w = ap (λ (c : Change). c.version) i in
      omega (arith, m, f, g)
  on (Some k) q t z (inr b) go = subst (λ n. w ≤ n) (late_is row x xs k v q e) (go b k q)
  on None q true z (inl i) go =
      let f : x.version ≡ v = first_is row x xs v q z e in
      let g : x.version ≡ w = ap (λ (c : Change). c.version) i in
      omega (arith, f, g)
  on None q true z (inr b) go = absurd (let s : (k : ℕ) × (last_at row xs ≡ Some k) = has_last row w xs b in let f : None ≡ Some s.0 = sym q ∙ s.1 in cc)
  on None q false z m go = absurd (none_is row x xs v q z e)

among_greatest : (row : ℕ) (x : Change) (xs : List Change) → IsAmong x xs → x.row ≡ row → x.version ≤ greatest row xs
among_greatest row x [] a e = absurd a
among_greatest row x (y ∷ ys) (inl i) e = here (y.row == row) refl where
  here : (t : Bool) → (y.row == row) ≡ t → x.version ≤ max (cond (y.row == row) y.version 0) (greatest row ys)
  here true z = let f : y.version ≡ x.version = ap (λ (c : Change). c.version) i in rw z (omega (arith, f))
  here false z = absurd (let f : y.row ≡ row = ap (λ (c : Change). c.row) i ∙ e in apart y.row row f z) where
    apart : (a b : ℕ) → a ≡ b → (a == b) ≡ false → ⊥
    apart a b q n = grind (arith, q, n)
among_greatest row x (y ∷ ys) (inr m) e = let l : x.version ≤ greatest row ys = among_greatest row x ys m e in omega (arith, l)

module _ (slot kind session : ℕ) where
  -- an entry is a put of the history, or none
  abbrev IsPut : Option ℕ → Entry → Type 0
  IsPut o e = (history_put slot kind o e ≡ []) ⊎ ((row : ℕ) × (version : ℕ) × (e ≡ says.Ring row version) × (history_put slot kind o e ≡ change_at row version ∷ []))

  put_of : (o : Option ℕ) (e : Entry) → IsPut o e
  put_of None e = inl refl
  put_of (Some own) (says.Ring row version) = on ((own == slot) && is_history_row slot kind row) refl where
    on : (b : Bool) → ((own == slot) && is_history_row slot kind row) ≡ b → IsPut (Some own) (says.Ring row version)
    on true q = inr (row, version, refl, ap (λ b. cond b (change_at row version ∷ []) []) q)
    on false q = inl (ap (λ b. cond b (change_at row version ∷ []) []) q)
  put_of (Some own) _ = inl refl

  chosen_known : (p : Placed) (earlier : List Placed) (x : Change) → IsAmong x (each_of rows_known (by_session session earlier)) → IsAmong x (each_of rows_known (by_session session (p ∷ earlier)))
  chosen_known p earlier x a = on (p.session == session) where
    on : (b : Bool) → IsAmong x (each_of rows_known (cond b (p ∷ []) [] ++ by_session session earlier))
    on true = among_back x (rows_known p.entry) (each_of rows_known (by_session session earlier)) a
    on false = a

  own_known : (p : Placed) (earlier : List Placed) (row version : ℕ) → (p.session == session) ≡ true → p.entry ≡ says.Ring row version
      → IsAmong (change_at row version) (each_of rows_known (by_session session (p ∷ earlier)))
  own_known p earlier row version q is =
      subst (λ b. IsAmong (change_at row version) (each_of rows_known (cond b (p ∷ []) [] ++ by_session session earlier))) (sym q)
      (subst (λ e. IsAmong (change_at row version) (rows_known e ++ each_of rows_known (by_session session earlier))) (sym is) (inl refl))

  -- a put is above all that its session has seen of its row
  over : (all earlier : List Placed) (p : Placed) (row version : ℕ) → (p.session == session) ≡ true → p.entry ≡ says.Ring row version
      → NamingsKeep all earlier p (namings_of p.entry) → (x : Change) → IsAmong x (each_of rows_known (by_session session earlier)) → row ≡ x.row → x.version < version
  over all earlier p row version q is n x a e =
      let k : NamingsKeep all earlier p (namings_of (says.Ring row version)) = subst (λ z. NamingsKeep all earlier p (namings_of z)) is n in
      let l : floor_of all earlier p row < version = k.0.0 in
      let g : x.version ≤ greatest row (each_of rows_known (by_session p.session earlier)) = subst (λ s. x.version ≤ greatest row (each_of rows_known (by_session s earlier))) (sym (eqb-true p.session session q)) (among_greatest row x (each_of rows_known (by_session session earlier)) a (sym e)) in
      less (times (is_of row) (each_of row_change (before_phase p.phase all))) (greatest row (each_of rows_known (by_session p.session earlier))) (greatest row (each_of row_change (by_actions p.context.done all))) x.version version g l where
        less : (a b c x v : ℕ) → x ≤ b → max (max a b) c < v → x < v
        less a b c x v g l = omega (arith, g, l)

  seen_below : (all earlier ps : List Placed) → AreFlooredBehind all earlier ps → (x : Change) → IsAmong x (each_of rows_known (by_session session earlier)) → IsBelow x (history_puts slot kind (by_session session ps))
  seen_below all earlier [] f x a = tt
  seen_below all earlier (p ∷ ps) f x a = on (p.session == session) refl (seen_below all (p ∷ earlier) ps f.2 x (chosen_known p earlier x a)) where
    on : (b : Bool) → (p.session == session) ≡ b → IsBelow x (history_puts slot kind (by_session session ps)) → IsBelow x (history_puts slot kind (cond b (p ∷ []) [] ++ by_session session ps))
    on false q rest = rest
    on true q rest = put (put_of p.context.slot p.entry) where
      put : IsPut p.context.slot p.entry → IsBelow x (history_put slot kind p.context.slot p.entry ++ history_puts slot kind (by_session session ps))
      put (inl n) = subst (λ z. IsBelow x (z ++ history_puts slot kind (by_session session ps))) (sym n) rest
      put (inr (row, version, is, n)) = subst (λ z. IsBelow x (z ++ history_puts slot kind (by_session session ps))) (sym n) (over all earlier p row version q is f.0 x a, rest)

  pub puts_rise : (all earlier ps : List Placed) → AreFlooredBehind all earlier ps → DoRise (history_puts slot kind (by_session session ps))
  puts_rise all earlier [] f = tt
  puts_rise all earlier (p ∷ ps) f = on (p.session == session) refl (puts_rise all (p ∷ earlier) ps f.2) where
    on : (b : Bool) → (p.session == session) ≡ b → DoRise (history_puts slot kind (by_session session ps)) → DoRise (history_puts slot kind (cond b (p ∷ []) [] ++ by_session session ps))
    on false q rest = rest
    on true q rest = put (put_of p.context.slot p.entry) where
      put : IsPut p.context.slot p.entry → DoRise (history_put slot kind p.context.slot p.entry ++ history_puts slot kind (by_session session ps))
      put (inl n) = subst (λ z. DoRise (z ++ history_puts slot kind (by_session session ps))) (sym n) rest
      put (inr (row, version, is, n)) =
          subst (λ z. DoRise (z ++ history_puts slot kind (by_session session ps))) (sym n)
          (seen_below all (p ∷ earlier) ps f.2 (change_at row version) (own_known p earlier row version q is), rest)
