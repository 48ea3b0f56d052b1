-- One change more of a chain.
use Rattle.std.proofs.Common.{◌≡◌, refl, ℕ, zero, suc, ◌+◌, ◌<◌, ◌≤◌, ◌==◌, Bool, true, false, ◌&&◌, cond, nat_lt, nat_le, List, [], ◌∷◌, ◌++◌, length, get_or, take, drop, sym, ◌∙◌, ap, subst, arith, Option, Some, None, inl, inr}
use Rattle.std.specs.Prelude.{slice_get, is_some}
use Rattle.std.specs.BTreeMap.{BTreeMap, get}
use Rattle.std.proofs.lemmas.Bool.{and_from, and_parts, eqb-true, le-leb, leb-true, lt-leb, lt-ltb, ltb-false, ltb-true, true≢false}
use Rattle.std.proofs.lemmas.List.{drop_all, drop_more, take-append-drop, take_all, take_more}
use Rattle.std.proofs.lemmas.Option.{get_or_from_slice_get, slice_get-get_or}
use Rattle.pfs_lemmas.proofs.Numbers.{eq_self}
use Rattle.pfs_model.proofs.ChainGrowth.{times_append}
use Rattle.pfs_model.proofs.EachLists.{each_join}
use Rattle.pfs_model.proofs.Floors.{each_map}
use Rattle.pfs_model.proofs.Members.{among_back, among_front}
use Rattle.pfs_model.specs.declared.changes.Change.{Change}
use Rattle.pfs_model.specs.Actions.{IsAmong}
use Rattle.pfs_model.specs.Chains.{Each, is_that, times}
use Rattle.pfs_check_versions.specs.declared.changes.Made.{Made}
use Rattle.pfs_check_versions.specs.declared.changes.PlacedChange.{PlacedChange}
use Rattle.pfs_check_versions.specs.LinkTests.{AreCounted, AreKept, AreLinked, IsBehind, IsBy, IsCountedTo, IsKept, IsLinkedIn, LinkedAt, change_cmp, count_in, is_in_row, is_same, is_up_to, link_test, made_at, made_of}
use Rattle.pfs_check_versions.specs.PlacedChanges.{AreInOrder}
use Rattle.pfs_check_versions.proofs.ChangeOrder.{order_behind, order_drop, order_low}

pub that_is : (one other : Change) → is_that one other ≡ true → other ≡ one
that_is one other h =
    let both : ((other.row == one.row) ≡ true) × ((other.version == one.version) ≡ true) = and_parts (other.row == one.row) (other.version == one.version) h in
    let P : ℕ → Change = λ r. record { row = r; version = other.version } in
    let Q : ℕ → Change = λ v. record { row = one.row; version = v } in
    ap P (eqb-true other.row one.row both.0) ∙ ap Q (eqb-true other.version one.version both.1)

pub that_self : (change : Change) → is_that change change ≡ true
that_self change = rw (eq_self change.row, eq_self change.version) refl

-- one of a list is counted
pub some_times : {A : Type 0} (test : A → Bool) (x : A) (xs : List A) → IsAmong x xs → test x ≡ true → 0 < times test xs
some_times test x [] i e = absurd i
some_times test x (y ∷ xs) (inl s) e = rw (ap test s ∙ e) (omega arith)
some_times test x (y ∷ xs) (inr i) e = let more : 0 < times test xs = some_times test x xs i e in omega (arith, more)

-- counts, one change more
pub none_counted : (counts : BTreeMap ℕ ℕ) (changes : List PlacedChange) → ((row : ℕ) → count_in counts row ≡ 0) → AreCounted counts (take 0 changes)
none_counted counts changes h = record { each = h }

pub counted_more : (old new : BTreeMap ℕ ℕ) (cs : List PlacedChange) (i : ℕ) (d : PlacedChange) → i < length cs
    → ((row : ℕ) → count_in new row ≡ cond ((get_or cs i d).change.row == row) (count_in old row + 1) (count_in old row))
    → AreCounted old (take i cs) → AreCounted new (take (i + 1) cs)
counted_more old new cs i d h step before = record { each = at } where
  bit : (b : Bool) (n m : ℕ) → n ≡ m → cond b (n + 1) n ≡ m + (cond {A = ℕ} b 1 0 + 0)
  bit true n m e = omega (arith, e)
  bit false n m e = omega (arith, e)

  at : (row : ℕ) → count_in new row ≡ times (is_in_row row) (take (i + 1) cs)
  at row =
      step row
      ∙ bit ((get_or cs i d).change.row == row) (count_in old row) (times (is_in_row row) (take i cs)) (before.each row)
      ∙ sym (times_append (is_in_row row) (take i cs) (get_or cs i d ∷ []))
      ∙ sym (ap (times (is_in_row row)) (take_more cs i d h))

pub low_more : (phase : ℕ) (cs : List PlacedChange) (i : ℕ) (d : PlacedChange) → i < length cs → (get_or cs i d).phase ≤ phase
    → Each (IsBy phase) (take i cs) → Each (IsBy phase) (take (i + 1) cs)
low_more phase cs i d h l before =
    subst (Each (IsBy phase)) (sym (take_more cs i d h)) (each_join (IsBy phase) (take i cs) (get_or cs i d ∷ []) before (l, tt))

-- the phase ends here
pub counted_here : (counts : BTreeMap ℕ ℕ) (phase : ℕ) (cs : List PlacedChange) (i : ℕ) (d : PlacedChange) → i < length cs → phase < (get_or cs i d).phase
    → AreInOrder 0 cs → AreCounted counts (take i cs) → Each (IsBy phase) (take i cs) → IsCountedTo counts cs phase i
counted_here counts phase cs i d h l order counted low = record {
  within = omega (arith, h);
  counted = counted;
  low = low;
  high = subst (Each (IsBehind phase)) (sym next)
      (l, order_behind phase (get_or cs i d).phase (drop (i + 1) cs) l (subst (AreInOrder 0) next (order_drop i 0 cs order)).1);
} where
  next : drop i cs ≡ get_or cs i d ∷ drop (i + 1) cs
  next = drop_more cs i d h

-- or all are counted
pub counted_all : (counts : BTreeMap ℕ ℕ) (phase : ℕ) (cs : List PlacedChange) (i n : ℕ) → length cs ≤ i → i ≤ length cs → n ≡ length cs
    → AreCounted counts (take i cs) → Each (IsBy phase) (take i cs) → IsCountedTo counts cs phase n
counted_all counts phase cs i n h w e counted low =
    let same : i ≡ n = omega (arith, h, w, e) in
    record {
      within = omega (arith, e);
      counted = subst (λ z. AreCounted counts (take z cs)) same counted;
      low = subst (λ z. Each (IsBy phase) (take z cs)) same low;
      high = subst (Each (IsBehind phase)) (sym (drop_all n cs (omega (arith, e)))) tt;
    }

bit_true : (x : Bool) (n : ℕ) → cond {A = ℕ} (x && true) 1 0 + n ≡ cond {A = ℕ} x 1 0 + n
bit_true true n = refl
bit_true false n = refl

bit_false : (x : Bool) (n : ℕ) → cond {A = ℕ} (x && false) 1 0 + n ≡ n
bit_false true n = omega arith
bit_false false n = omega arith

low_counts : (row phase : ℕ) (cs : List PlacedChange) → Each (IsBy phase) cs → times (is_up_to row phase) cs ≡ times (is_in_row row) cs
low_counts row phase [] h = refl
low_counts row phase (c ∷ cs) h =
    ap (λ z. cond {A = ℕ} ((c.change.row == row) && z) 1 0 + times (is_up_to row phase) cs) (le-leb c.phase phase h.0)
    ∙ bit_true (c.change.row == row) (times (is_up_to row phase) cs)
    ∙ ap (λ z. cond {A = ℕ} (c.change.row == row) 1 0 + z) (low_counts row phase cs h.1)

high_counts : (row phase : ℕ) (cs : List PlacedChange) → Each (IsBehind phase) cs → times (is_up_to row phase) cs ≡ 0
high_counts row phase [] h = refl
high_counts row phase (c ∷ cs) h =
    ap (λ z. cond {A = ℕ} ((c.change.row == row) && z) 1 0 + times (is_up_to row phase) cs) (lt-leb c.phase phase h.0)
    ∙ bit_false (c.change.row == row) (times (is_up_to row phase) cs)
    ∙ high_counts row phase cs h.1

-- so what is counted of a row is how many changes it has up to the phase
limit : (counts : BTreeMap ℕ ℕ) (cs : List PlacedChange) (phase next row : ℕ) → IsCountedTo counts cs phase next
    → count_in counts row ≡ times (is_up_to row phase) cs
limit counts cs phase next row to =
    let front : times (is_up_to row phase) (take next cs) ≡ times (is_in_row row) (take next cs) = low_counts row phase (take next cs) to.low in
    let back : times (is_up_to row phase) (drop next cs) ≡ 0 = high_counts row phase (drop next cs) to.high in
    let sum : times (is_up_to row phase) cs ≡ times (is_up_to row phase) (take next cs) + times (is_up_to row phase) (drop next cs) =
    sym (ap (times (is_up_to row phase)) (take-append-drop next cs)) ∙ times_append (is_up_to row phase) (take next cs) (drop next cs) in
    omega (arith, to.counted.each row, front, back, sum)

-- where changes stand, one more
pub none_kept : (made : BTreeMap Change Made) (cs : List PlacedChange) → ((change : Change) → get change_cmp made change ≡ None) → AreKept made (take 0 cs)
none_kept made cs h = record { each = λ change. subst (IsKept [] change) (sym (h change)) refl }

pub kept_more : (old new : BTreeMap Change Made) (cs : List PlacedChange) (i : ℕ) (d : PlacedChange) → i < length cs
    → ((change : Change) → get change_cmp new change
    ≡ cond (is_that change (get_or cs i d).change) (Some (made_of (get_or cs i d))) (get change_cmp old change))
    → AreKept old (take i cs) → AreKept new (take (i + 1) cs)
kept_more old new cs i d h step before = record { each = λ change. on change (is_that change (get_or cs i d).change) refl } where
  stays : (change : Change) (o : Option Made) → is_that change (get_or cs i d).change ≡ false → IsKept (take i cs) change o
      → IsKept (take i cs ++ get_or cs i d ∷ []) change o
  stays change None e k =
      times_append (is_same change) (take i cs) (get_or cs i d ∷ [])
      ∙ ap (λ z. times (is_same change) (take i cs) + (cond {A = ℕ} z 1 0 + 0)) e
      ∙ omega (arith, k)
  stays change (Some made) e k = among_front (made_at made change) (take i cs) (get_or cs i d ∷ []) k

  comes : (change : Change) → is_that change (get_or cs i d).change ≡ true
      → IsKept (take i cs ++ get_or cs i d ∷ []) change (Some (made_of (get_or cs i d)))
  comes change e = among_back (made_at (made_of (get_or cs i d)) change) (take i cs) (get_or cs i d ∷ [])
      (inl (ap (made_at (made_of (get_or cs i d))) (that_is change (get_or cs i d).change e)))

  on : (change : Change) (b : Bool) → is_that change (get_or cs i d).change ≡ b → IsKept (take (i + 1) cs) change (get change_cmp new change)
  on change true e =
      subst (λ z. IsKept z change (get change_cmp new change)) (sym (take_more cs i d h))
      (subst (IsKept (take i cs ++ get_or cs i d ∷ []) change)
      (sym (step change ∙ ap (λ z. cond z (Some (made_of (get_or cs i d))) (get change_cmp old change)) e)) (comes change e))
  on change false e =
      subst (λ z. IsKept z change (get change_cmp new change)) (sym (take_more cs i d h))
      (subst (IsKept (take i cs ++ get_or cs i d ∷ []) change)
      (sym (step change ∙ ap (λ z. cond z (Some (made_of (get_or cs i d))) (get change_cmp old change)) e))
      (stays change (get change_cmp old change) e (before.each change)))

-- what the test says
test_yes : (all before : List PlacedChange) (one : PlacedChange) (count : ℕ) (o : Option Made) → count ≡ times (is_up_to one.change.row one.phase) all
    → IsKept before one.change o → link_test count (is_some o) one.change.version ≡ true → IsLinkedIn all before one
test_yes all before one count None c k t =
    let parts : (nat_lt 0 one.change.version ≡ true) × ((nat_le one.change.version count && true) ≡ true) =
    and_parts (nat_lt 0 one.change.version) (nat_le one.change.version count && true) t in
    let within : one.change.version ≤ count = leb-true one.change.version count (and_parts (nat_le one.change.version count) true parts.1).0 in
    record { above = ltb-true 0 one.change.version parts.0; had = omega (arith, within, c); first = k }
test_yes all before one count (Some made) c k t =
    let parts : (nat_lt 0 one.change.version ≡ true) × ((nat_le one.change.version count && false) ≡ true) =
    and_parts (nat_lt 0 one.change.version) (nat_le one.change.version count && false) t in
    absurd (true≢false (sym (and_parts (nat_le one.change.version count) false parts.1).1))

test_no : (all before : List PlacedChange) (one : PlacedChange) (count : ℕ) (o : Option Made) → count ≡ times (is_up_to one.change.row one.phase) all
    → IsKept before one.change o → link_test count (is_some o) one.change.version ≡ false → IsLinkedIn all before one → ⊥
test_no all before one count None c k t l =
    let low : nat_lt 0 one.change.version ≡ true = lt-ltb 0 one.change.version l.above in
    let high : nat_le one.change.version count ≡ true = le-leb one.change.version count (omega (arith, l.had, c)) in
    true≢false (sym (and_from (nat_lt 0 one.change.version) (nat_le one.change.version count && true) low
    (and_from (nat_le one.change.version count) true high refl)) ∙ t)
test_no all before one count (Some made) c k t l =
    let some : 0 < times (is_same one.change) before = some_times (is_same one.change) (made_at made one.change) before k (that_self one.change) in
    omega (arith, some, l.first)

-- What a loop over the changes has.
pub record LinkedSoFar (cs : List PlacedChange) (counts : BTreeMap ℕ ℕ) (made : BTreeMap Change Made) (next place : ℕ) : Type 0 where
  pub within : next ≤ length cs
  pub counted : AreCounted counts (take next cs)
  pub left : Each (λ (one : PlacedChange). AreInOrder one.phase (drop place cs)) (take next cs)
  pub linked : (other : ℕ) → other < place → LinkedAt cs other
  pub kept : AreKept made (take place cs)

pub left_low : (cs : List PlacedChange) (place next : ℕ) (d : PlacedChange) → place < length cs
    → Each (λ (one : PlacedChange). AreInOrder one.phase (drop place cs)) (take next cs) → Each (IsBy (get_or cs place d).phase) (take next cs)
left_low cs place next d h left =
    each_map (λ (one : PlacedChange). AreInOrder one.phase (drop place cs)) (IsBy (get_or cs place d).phase)
    (λ one o. (subst (AreInOrder one.phase) (drop_more cs place d h) o).0) (take next cs) left

left_more : (cs : List PlacedChange) (place next : ℕ) (d : PlacedChange) → place < length cs → AreInOrder 0 cs
    → Each (IsBy (get_or cs place d).phase) (take next cs) → Each (λ (one : PlacedChange). AreInOrder one.phase (drop (place + 1) cs)) (take next cs)
left_more cs place next d h order low =
    let rest : AreInOrder (get_or cs place d).phase (drop (place + 1) cs) = (subst (AreInOrder 0) (drop_more cs place d h) (order_drop place 0 cs order)).1 in
    each_map (IsBy (get_or cs place d).phase) (λ (one : PlacedChange). AreInOrder one.phase (drop (place + 1) cs))
    (λ one l. order_low one.phase (get_or cs place d).phase (drop (place + 1) cs) l rest) (take next cs) low

at_one : (cs : List PlacedChange) (place : ℕ) (d : PlacedChange) → IsLinkedIn cs (take place cs) (get_or cs place d) → LinkedAt cs place
at_one cs place d l one g = subst (IsLinkedIn cs (take place cs)) (get_or_from_slice_get cs place one d g) l

pub below_next : (P : ℕ → Type 0) (n : ℕ) → ((k : ℕ) → k < n → P k) → P n → (k : ℕ) → k < n + 1 → P k
below_next P n below here k h = on (nat_lt k n) refl where
  on : (b : Bool) → nat_lt k n ≡ b → P k
  on true e = below k (ltb-true k n e)
  on false e = subst P (same k n h e) here where
    same : (k n : ℕ) → k < n + 1 → nat_lt k n ≡ false → n ≡ k
    same k n h e = omega (arith, ltb-false k n e, h)

pub link_more : (cs : List PlacedChange) (counts : BTreeMap ℕ ℕ) (made more : BTreeMap Change Made) (next place : ℕ) (d : PlacedChange) (test : Bool)
    → place < length cs → AreInOrder 0 cs → IsCountedTo counts cs (get_or cs place d).phase next
    → test ≡ link_test (count_in counts (get_or cs place d).change.row) (is_some (get change_cmp made (get_or cs place d).change)) (get_or cs place d).change.version
    → test ≡ true
    → ((change : Change) → get change_cmp more change
    ≡ cond (is_that change (get_or cs place d).change) (Some (made_of (get_or cs place d))) (get change_cmp made change))
    → ((other : ℕ) → other < place → LinkedAt cs other) → AreKept made (take place cs)
    → LinkedSoFar cs counts more next (place + 1)
link_more cs counts made more next place d test h order to t passed step linked kept = record {
  within = to.within;
  counted = to.counted;
  left = left_more cs place next d h order to.low;
  linked = below_next (LinkedAt cs) place linked (at_one cs place d
      (test_yes cs (take place cs) (get_or cs place d) (count_in counts (get_or cs place d).change.row) (get change_cmp made (get_or cs place d).change)
      (limit counts cs (get_or cs place d).phase next (get_or cs place d).change.row to) (kept.each (get_or cs place d).change)
      (sym t ∙ passed)));
  kept = kept_more made more cs place d h step kept;
}

pub link_breaks : (cs : List PlacedChange) (counts : BTreeMap ℕ ℕ) (made : BTreeMap Change Made) (next place : ℕ) (d : PlacedChange) (test : Bool)
    → place < length cs → IsCountedTo counts cs (get_or cs place d).phase next
    → test ≡ link_test (count_in counts (get_or cs place d).change.row) (is_some (get change_cmp made (get_or cs place d).change)) (get_or cs place d).change.version
    → test ≡ false → ((other : ℕ) → other < place → LinkedAt cs other) → AreKept made (take place cs)
    → AreLinked cs (record { place = place; made = made })
link_breaks cs counts made next place d test h to t failed linked kept = record {
  within = omega (arith, h);
  linked = linked;
  broken = λ m l. test_no cs (take place cs) (get_or cs place d) (count_in counts (get_or cs place d).change.row) (get change_cmp made (get_or cs place d).change)
      (limit counts cs (get_or cs place d).phase next (get_or cs place d).change.row to) (kept.each (get_or cs place d).change)
      (sym t ∙ failed) (l (get_or cs place d) (slice_get-get_or cs place d h));
  kept = kept;
}

pub link_all : (cs : List PlacedChange) (made : BTreeMap Change Made) (n place : ℕ) → n ≡ length cs → length cs ≤ place → place ≤ length cs
    → ((other : ℕ) → other < place → LinkedAt cs other) → AreKept made (take place cs) → AreLinked cs (record { place = n; made = made })
link_all cs made n place e h w linked kept =
    let same : place ≡ n = omega (arith, e, h, w) in
    record {
      within = omega (arith, e);
      linked = λ other l. linked other (omega (arith, l, same));
      broken = λ m l. absurd (omega (arith, m, e));
      kept = subst (λ z. AreKept made (take z cs)) same kept;
    }
