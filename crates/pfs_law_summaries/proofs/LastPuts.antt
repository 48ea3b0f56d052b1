-- The last put of a session at a place is its row's last change, where each other change of the row is below its puts.
use Rattle.std.proofs.Common.{◌≡◌, refl, ℕ, ◌+◌, ◌<◌, ◌≤◌, ◌==◌, ◌&&◌, nat_lt, nat_le, Bool, true, false, cond, List, [], ◌∷◌, ◌++◌, Option, Some, None, sym, ap, subst, ◌∙◌, inl, inr, arith}
use Rattle.std.specs.Prelude.{◌⊎◌}
use Rattle.std.proofs.lemmas.Bool.{eqb-true, leb-true, ltb-true}
use Rattle.pfs_lemmas.proofs.Numbers.{eq_self}
use Rattle.pfs_event.specs.declared.entry.Entry.{Entry}
use Rattle.pfs_event.specs.declared.entry.Entry.TheVariants as says
use Rattle.pfs_model.specs.Actions.{IsAmong}
use Rattle.pfs_model.specs.Chains.{Each, IsChained, change_at, each_of, is_of, is_that, release_of, row_change, times}
use Rattle.pfs_model.specs.EntryPlaces.{Placed, by_session}
use Rattle.pfs_model.specs.Rings.{history_put, history_puts, is_history_row}
use Rattle.pfs_model.specs.declared.changes.Change.{Change}
use Rattle.pfs_law_summaries.proofs.HistoryPlaces.{GoesRound, last_version}
use Rattle.pfs_law_summaries.proofs.HistoryOwners.{IsBelow, IsOwned, puts_by}
use Rattle.pfs_law_summaries.proofs.RecentPuts.{GoRound, first_row, last_at, or_else}
use Rattle.pfs_law_summaries.proofs.PutVersions.{DoRise, has_last, last_greatest}
use Rattle.pfs_model.proofs.Members.{among_front, among_back, among_either}

-- a put is a change of its row
put_change : (slot kind : ℕ) (o : Option ℕ) (e : Entry) (x : Change) → IsAmong x (history_put slot kind o e) → IsAmong x (row_change e)
put_change slot kind None e x m = absurd m
put_change slot kind (Some own) (says.Ring row version) x m = on ((own == slot) && is_history_row slot kind row) m where
  on : (b : Bool) → IsAmong x (cond b (change_at row version ∷ []) []) → IsAmong x (change_at row version ∷ [])
  on true m = m
  on false m = absurd m
put_change slot kind (Some own) _ x m = absurd m

puts_changes : (slot kind session : ℕ) (ps : List Placed) (x : Change) → IsAmong x (history_puts slot kind (by_session session ps)) → IsAmong x (each_of row_change ps)
puts_changes slot kind session [] x m = absurd m
puts_changes slot kind session (p ∷ ps) x m = on (p.session == session) m (puts_changes slot kind session ps x) where
  on : (b : Bool) → IsAmong x (history_puts slot kind (cond b (p ∷ []) [] ++ by_session session ps)) → (IsAmong x (history_puts slot kind (by_session session ps)) → IsAmong x (each_of row_change ps)) → IsAmong x (row_change p.entry ++ each_of row_change ps)
  on false m go = among_back x (row_change p.entry) (each_of row_change ps) (go m)
  on true m go = split (among_either x (history_put slot kind p.context.slot p.entry) (history_puts slot kind (by_session session ps)) m) where
    split : IsAmong x (history_put slot kind p.context.slot p.entry) ⊎ IsAmong x (history_puts slot kind (by_session session ps)) → IsAmong x (row_change p.entry ++ each_of row_change ps)
    split (inl a) = among_front x (row_change p.entry) (each_of row_change ps) (put_change slot kind p.context.slot p.entry x a)
    split (inr b) = among_back x (row_change p.entry) (each_of row_change ps) (go b)

-- one of a list is there once at least, and what is there is one of the list
pub among_times : (row version : ℕ) (xs : List Change) → IsAmong (change_at row version) xs → 1 ≤ times (is_that (change_at row version)) xs
among_times row version [] m = absurd m
among_times row version (x ∷ xs) (inl e) = subst (λ b. 1 ≤ cond {A = ℕ} b 1 0 + times (is_that (change_at row version)) xs) (sym (ap (is_that (change_at row version)) e ∙ (ap (λ b. b && (version == version)) (eq_self row) ∙ eq_self version))) (omega arith)
among_times row version (x ∷ xs) (inr m) = let l : 1 ≤ times (is_that (change_at row version)) xs = among_times row version xs m in omega (arith, l)

times_among : (row version : ℕ) (xs : List Change) → 1 ≤ times (is_that (change_at row version)) xs → IsAmong (change_at row version) xs
times_among row version [] l = absurd (omega (arith, l))
times_among row version (x ∷ xs) l = on (x.row == row) refl (x.version == version) refl l (times_among row version xs) where
  Go : Type 0
  Go = 1 ≤ times (is_that (change_at row version)) xs → IsAmong (change_at row version) xs

  on : (a : Bool) → (x.row == row) ≡ a → (b : Bool) → (x.version == version) ≡ b → 1 ≤ cond {A = ℕ} ((x.row == row) && (x.version == version)) 1 0 + times (is_that (change_at row version)) xs → Go → IsAmong (change_at row version) (x ∷ xs)
  on true q true r l go = inl (both (eqb-true x.row row q) (eqb-true x.version version r)) where
    both : x.row ≡ row → x.version ≡ version → x ≡ change_at row version
    both e f = ap (λ r. change_at r x.version) e ∙ ap (change_at row) f
  on true q false r l go = inr (go (let k : 1 ≤ cond {A = ℕ} false 1 0 + times (is_that (change_at row version)) xs = subst (λ z. 1 ≤ cond {A = ℕ} z 1 0 + times (is_that (change_at row version)) xs) (ap (λ a. a && (x.version == version)) q ∙ r) l in omega (arith, k)))
  on false q b r l go = inr (go (let k : 1 ≤ cond {A = ℕ} false 1 0 + times (is_that (change_at row version)) xs = subst (λ z. 1 ≤ cond {A = ℕ} z 1 0 + times (is_that (change_at row version)) xs) (ap (λ a. a && (x.version == version)) q) l in omega (arith, k)))

last_among : (row : ℕ) (xs : List Change) (v : ℕ) → last_at row xs ≡ Some v → IsAmong (change_at row v) xs
last_among row [] v e = absurd (cc)
last_among row (x ∷ xs) v e = on (last_at row xs) refl (x.row == row) refl (last_among row xs v) where
  on : (o : Option ℕ) → last_at row xs ≡ o → (t : Bool) → (x.row == row) ≡ t → (last_at row xs ≡ Some v → IsAmong (change_at row v) xs) → IsAmong (change_at row v) (x ∷ xs)
  on (Some w) q t z go = inr (go (q ∙ (sym (ap (λ o. or_else o (cond (x.row == row) (Some x.version) None)) q) ∙ e)))
  on None q true z go = inl (both (eqb-true x.row row z) (same (sym (ap (λ t. cond t (Some x.version) None) z) ∙ (sym (ap (λ o. or_else o (cond (x.row == row) (Some x.version) None)) q) ∙ e)))) where
    same : Some x.version ≡ Some v → x.version ≡ v
    same f = cc

    both : x.row ≡ row → x.version ≡ v → x ≡ change_at row v
    both f g = ap (λ r. change_at r x.version) f ∙ ap (change_at row) g
  on None q false z go = absurd (let f : None ≡ Some v = sym (ap (λ t. cond t (Some x.version) None) z) ∙ (sym (ap (λ o. or_else o (cond (x.row == row) (Some x.version) None)) q) ∙ e) in cc)

below_one : (x : Change) (ys : List Change) (y : Change) → IsBelow x ys → IsAmong y ys → y.row ≡ x.row → x.version < y.version
below_one x [] y b m e = absurd m
below_one x (z ∷ zs) y b (inl i) e = subst (λ (c : Change). c.row ≡ x.row → x.version < c.version) i b.0 e
below_one x (z ∷ zs) y b (inr m) e = below_one x zs y b.1 m e

-- versions in a chain
pub in_chain : (row version : ℕ) (xs : List Change) → IsChained xs → IsAmong (change_at row version) xs → (1 ≤ version) × (version ≤ times (is_of row) xs)
in_chain row version xs chain m = on (nat_lt 0 version) refl (nat_le version (times (is_of row) xs)) refl (chain (change_at row version)) where
  l : 1 ≤ times (is_that (change_at row version)) xs
  l = among_times row version xs m

  on : (a : Bool) → nat_lt 0 version ≡ a → (b : Bool) → nat_le version (times (is_of row) xs) ≡ b → times (is_that (change_at row version)) xs ≡ cond (nat_lt 0 version && nat_le version (times (is_of row) xs)) 1 0 → (1 ≤ version) × (version ≤ times (is_of row) xs)
  on true q true r e = (ltb-true 0 version q, leb-true version (times (is_of row) xs) r)
  on true q false r e = absurd (let f : times (is_that (change_at row version)) xs ≡ 0 = e ∙ (ap (λ a. cond {A = ℕ} (a && nat_le version (times (is_of row) xs)) 1 0) q ∙ ap (λ b. cond {A = ℕ} b 1 0) r) in omega (arith, l, f))
  on false q b r e = absurd (let f : times (is_that (change_at row version)) xs ≡ 0 = e ∙ ap (λ a. cond {A = ℕ} (a && nat_le version (times (is_of row) xs)) 1 0) q in omega (arith, l, f))

pub of_chain : (row version : ℕ) (xs : List Change) → IsChained xs → 1 ≤ version → version ≤ times (is_of row) xs → IsAmong (change_at row version) xs
of_chain row version xs chain l h = times_among row version xs (subst (λ z. 1 ≤ z) (sym (chain (change_at row version) ∙ ap (λ b. cond {A = ℕ} b 1 0) (both version (times (is_of row) xs) l h))) (omega arith)) where
  both : (v m : ℕ) → 1 ≤ v → v ≤ m → (nat_lt 0 v && nat_le v m) ≡ true
  both v m l h = grind arith

module _ (all : List Placed) (session slot kind : ℕ) (chain : IsChained (each_of row_change all)) (rise : DoRise (puts_by all session slot kind)) (owned : IsOwned all session slot kind) where
  latest : (row version : ℕ) → is_history_row slot kind row ≡ true → last_at row (puts_by all session slot kind) ≡ Some version → (version ≡ last_version all row) × (0 < version)
  latest row version own e = (same, range.0) where
    changes : List Change
    changes = each_of row_change all

    puts : List Change
    puts = puts_by all session slot kind

    put : IsAmong (change_at row version) puts
    put = last_among row puts version e

    range : (1 ≤ version) × (version ≤ last_version all row)
    range = in_chain row version changes chain (puts_changes slot kind session all (change_at row version) put)

    top : IsAmong (change_at row (last_version all row)) changes
    top = of_chain row (last_version all row) changes chain (let l : 1 ≤ version = range.0 in let h : version ≤ last_version all row = range.1 in omega (arith, l, h)) (omega arith)

    greatest : IsAmong (change_at row (last_version all row)) puts ⊎ IsBelow (change_at row (last_version all row)) puts → last_version all row ≤ version
    greatest (inl a) = last_greatest row puts rise (last_version all row) a version e
    greatest (inr b) = let l : last_version all row < version = below_one (change_at row (last_version all row)) puts (change_at row version) b put refl in omega (arith, l)

    same : version ≡ last_version all row
    same = let l : last_version all row ≤ version = greatest (owned.own row (last_version all row) own top) in let h : version ≤ last_version all row = range.1 in omega (arith, l, h)

pub goes_round : (all : List Placed) (session slot kind : ℕ) → IsChained (each_of row_change all) → DoRise (puts_by all session slot kind) → IsOwned all session slot kind
    → GoRound (first_row slot kind) 0 (puts_by all session slot kind) → ((row : ℕ) → Each (λ release. release.row ≡ row → release.version ≤ last_version all row) (each_of release_of all))
    → GoesRound all session slot kind
goes_round all session slot kind chain rise owned round had = record {
  round = round;
  last = latest all session slot kind chain rise owned;
  none = λ row own e. owned.idle row own (λ v m. let s : (k : ℕ) × (last_at row (puts_by all session slot kind) ≡ Some k) = has_last row v (puts_by all session slot kind) m in let f : None ≡ Some s.0 = sym e ∙ s.1 in absurd (cc));
  had = had;
}
