-- What stands at places that are kept where a session has them, and what totals are there.
use Rattle.std.proofs.Common.{◌≡◌, refl, ℕ, zero, suc, ◌+◌, ◌<◌, ◌||◌, Bool, true, false, cond, List, [], ◌∷◌, length, Option, Some, None, slice_index_or, sym, ap, ◌∙◌, eq-eqb, arith}
use Rattle.std.proofs.lemmas.Bool.{false≢true, eqb-true}
use Rattle.pfs_lemmas.proofs.Numbers.{zero_plus}
use Rattle.pfs_lemmas.proofs.Bools.{or_true}
use Rattle.pfs_containers.specs.Administration.{current, totals_kept_from, currents_from}
use Rattle.pfs_containers.specs.Connections.{entry_at, is_from, has_by, in_use, kept_if, kept_from}
use Rattle.pfs_containers.specs.declared.containers.Connection.{Connection}
use Rattle.pfs_containers.proofs.ConnectionTotals.{len_kept_totals, len_currents}
use Rattle.pfs_law_conservation.specs.TruncationLaws.{HasSession, HasNoSession, AreFreed, AreCountedAnew, AreCountedOn}

-- a place is in use where a session has it
later : (which : Connection → Option ℕ) (x : Option Connection) (xs : List (Option Connection)) (place : ℕ) → HasSession which xs place → HasSession which (x ∷ xs) place
later which x xs place h = record { slot = suc h.slot; session = h.session; stands = h.stands; has = h.has }

is_place : (place : ℕ) (o : Option ℕ) → is_from place o ≡ true → o ≡ Some place
is_place place None e = absurd (false≢true e)
is_place place (Some other) e = ap Some (eqb-true other place e)

pub used_has : (which : Connection → Option ℕ) (xs : List (Option Connection)) (place : ℕ) → in_use which xs place ≡ true → HasSession which xs place
used_has which [] place e = absurd (false≢true e)
used_has which (None ∷ xs) place e = later which None xs place (used_has which xs place e)
used_has which (Some x ∷ xs) place e = on (is_from place (which x)) refl e (λ u. used_has which xs place u) where
  on : (b : Bool) → is_from place (which x) ≡ b → (b || in_use which xs place) ≡ true → (in_use which xs place ≡ true → HasSession which xs place) → HasSession which (Some x ∷ xs) place
  on true own e rest = record { slot = 0; session = x; stands = refl; has = is_place place (which x) own }
  on false own e rest = later which (Some x) xs place (rest e)

no_entry : (x : Connection) → ◌≡◌ {A = Option Connection} None (Some x) → ⊥
no_entry x e = cc

stands_used : (which : Connection → Option ℕ) (xs : List (Option Connection)) (place slot : ℕ) (x : Connection) → entry_at xs slot ≡ Some x → which x ≡ Some place → in_use which xs place ≡ true
stands_used which [] place slot x e h = absurd (no_entry x e)
stands_used which (y ∷ xs) place zero x e h =
    ap (λ b. b || in_use which xs place) (ap (has_by which place) e ∙ (ap (is_from place) h ∙ eq-eqb place place refl))
stands_used which (y ∷ xs) place (suc slot) x e h =
    ap (λ b. has_by which place y || b) (stands_used which xs place slot x e h) ∙ or_true (has_by which place y)

has_used : (which : Connection → Option ℕ) (xs : List (Option Connection)) (place : ℕ) → HasSession which xs place → in_use which xs place ≡ true
has_used which xs place h = stands_used which xs place h.slot h.session h.stands h.has

pub not_used : (which : Connection → Option ℕ) (xs : List (Option Connection)) (place : ℕ) → in_use which xs place ≡ false → HasNoSession which xs place
not_used which xs place e h = false≢true (sym e ∙ has_used which xs place h)

unused : (which : Connection → Option ℕ) (xs : List (Option Connection)) (place : ℕ) → HasNoSession which xs place → in_use which xs place ≡ false
unused which xs place none = on (in_use which xs place) refl where
  on : (b : Bool) → in_use which xs place ≡ b → b ≡ false
  on true e = absurd (none (used_has which xs place e))
  on false e = refl

-- what is read of places and totals that are kept so
none_kept : {X : Type 0} (b : Bool) → ◌≡◌ {A = Option X} None (kept_if b None)
none_kept true = refl
none_kept false = refl

kept_read : {X : Type 0} (n place : ℕ) (used : ℕ → Bool) (xs : List (Option X)) → entry_at (kept_from n used xs) place ≡ kept_if (used (n + place)) (entry_at xs place)
kept_read n place used [] = none_kept (used (n + place))
kept_read n zero used (x ∷ xs) = let same : n ≡ n + 0 = omega arith in ap (λ z. kept_if (used z) x) same
kept_read n (suc place) used (x ∷ xs) =
    let same : suc n + place ≡ n + suc place = omega arith in
    kept_read (suc n) place used xs ∙ ap (λ z. kept_if (used z) (entry_at xs place)) same

kept_length : {X : Type 0} (n : ℕ) (used : ℕ → Bool) (xs : List (Option X)) → length (kept_from n used xs) ≡ length xs
kept_length n used [] = refl
kept_length n used (x ∷ xs) = ap suc (kept_length (suc n) used xs)

zero_kept : (b : Bool) → ◌≡◌ {A = ℕ} 0 (cond b 0 0)
zero_kept true = refl
zero_kept false = refl

total_read : (n place : ℕ) (used : ℕ → Bool) (totals : List ℕ) → slice_index_or (totals_kept_from n used totals) place 0 ≡ cond (used (n + place)) (slice_index_or totals place 0) 0
total_read n place used [] = zero_kept (used (n + place))
total_read n zero used (total ∷ totals) = let same : n ≡ n + 0 = omega arith in ap (λ z. cond (used z) total 0) same
total_read n (suc place) used (total ∷ totals) =
    let same : suc n + place ≡ n + suc place = omega arith in
    total_read (suc n) place used totals ∙ ap (λ z. cond (used z) (slice_index_or totals place 0) 0) same

current_read : (n place : ℕ) (counts : ℕ → ℕ) (totals : List ℕ) → place < length totals → slice_index_or (currents_from n counts totals) place 0 ≡ counts (n + place)
current_read n place counts [] l = absurd (omega (arith, l))
current_read n zero counts (total ∷ totals) l = let same : n ≡ n + 0 = omega arith in ap counts same
current_read n (suc place) counts (total ∷ totals) l =
    let same : suc n + place ≡ n + suc place = omega arith in
    current_read (suc n) place counts totals (omega (arith, l)) ∙ ap counts same

-- so a level is freed where no session is, and its totals are counted anew or on
pub are_freed : (X : Type 0) (which : Connection → Option ℕ) (threads : List (Option Connection)) (xs : List (Option X)) → AreFreed X which threads xs (kept_from 0 (in_use which threads) xs)
are_freed X which threads xs = record {
  places = kept_length 0 (in_use which threads) xs;
  stays = λ place h. read place true (has_used which threads place h);
  freed = λ place h. read place false (unused which threads place h);
} where
  read : (place : ℕ) (b : Bool) → in_use which threads place ≡ b → entry_at (kept_from 0 (in_use which threads) xs) place ≡ kept_if b (entry_at xs place)
  read place b e = kept_read 0 place (in_use which threads) xs ∙ ap (λ z. kept_if z (entry_at xs place)) (ap (in_use which threads) (zero_plus place) ∙ e)

pub are_counted_anew : (which : Connection → Option ℕ) (threads : List (Option Connection)) (totals : List ℕ) → AreCountedAnew which threads totals (currents_from 0 (current which threads) totals)
are_counted_anew which threads totals = record {
  numbers = len_currents 0 (current which threads) totals;
  now = λ place l. current_read 0 place (current which threads) totals l ∙ ap (current which threads) (zero_plus place);
}

pub are_counted_on : (which : Connection → Option ℕ) (threads : List (Option Connection)) (totals : List ℕ) → AreCountedOn which threads totals (totals_kept_from 0 (in_use which threads) totals)
are_counted_on which threads totals = record {
  numbers = len_kept_totals 0 (in_use which threads) totals;
  stays = λ place h. read place true (has_used which threads place h);
  freed = λ place h. read place false (unused which threads place h);
} where
  read : (place : ℕ) (b : Bool) → in_use which threads place ≡ b → slice_index_or (totals_kept_from 0 (in_use which threads) totals) place 0 ≡ cond b (slice_index_or totals place 0) 0
  read place b e = total_read 0 place (in_use which threads) totals ∙ ap (λ z. cond z (slice_index_or totals place 0) 0) (ap (in_use which threads) (zero_plus place) ∙ e)
