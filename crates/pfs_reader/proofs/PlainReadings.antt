-- Readings of a plain store find what stands there.
use Rattle.std.proofs.Common.{◌≡◌, ℕ, ◌*◌, Bool, true, false, cond, List, [], ◌∷◌, ◌++◌, refl, ◌∙◌, ap, subst}
use Rattle.std.specs.Prelude.{All}
use Rattle.std.proofs.lemmas.List.{append_assoc}
use Rattle.std.proofs.lemmas.List.Elements.{All-nil, All-cons, All-weaker}
use Rattle.pfs_rows.specs.declared.table.Reading.{Reading}
use Rattle.pfs_rows.specs.declared.table.Reading.TheVariants as readings
use Rattle.pfs_rows.specs.declared.table.Seen.TheVariants.{Whole, Free, Busy}
use Rattle.pfs_levels.specs.Calls.{Call, Reads, Loads}
use Rattle.pfs_levels.specs.JointCalls.{changes_of, count, draws_of, sets_of, word_version}
use Rattle.pfs_levels.specs.PlainStore.{AllAnswer, content_at, labels_after, ops_of, slot_after}
use Rattle.pfs_levels.proofs.PlainChanges.{plain_found}
use Rattle.pfs_levels.proofs.NextNames.{plain_next}
use Rattle.pfs_reader.specs.PlainReadings.{IsFound}
use Rattle.pfs_reader.specs.Readings.{call_of, calls_of}
use Rattle.pfs_reader.proofs.Readings.{calls_then}

-- the first reading is the oldest call
oldest : (reading : Reading) (rest : List Reading) (calls : List Call) → calls_of (reading ∷ rest) ++ calls ≡ calls_of rest ++ (call_of reading ∷ calls)
oldest reading rest calls = ap (λ (z : List Call). z ++ calls) (calls_then (reading ∷ []) rest) ∙ append_assoc (calls_of rest) (call_of reading ∷ []) calls

-- a reading changes nothing
one_changes : (reading : Reading) (calls : List Call) → changes_of (call_of reading ∷ calls) ≡ changes_of calls
unfolding changes_of
one_changes (readings.Slot row seen) calls = refl
one_changes (readings.Word word version found) calls = refl

one_ops : (reading : Reading) (calls : List Call) → ops_of (call_of reading ∷ calls) ≡ ops_of calls
unfolding ops_of
one_ops (readings.Slot row seen) calls = refl
one_ops (readings.Word word version found) calls = refl

one_sets : (reading : Reading) (calls : List Call) → sets_of (call_of reading ∷ calls) ≡ sets_of calls
unfolding sets_of
one_sets (readings.Slot row seen) calls = refl
one_sets (readings.Word word version found) calls = refl

one_draws : (reading : Reading) (calls : List Call) → draws_of (call_of reading ∷ calls) ≡ draws_of calls
unfolding draws_of
one_draws (readings.Slot row seen) calls = refl
one_draws (readings.Word word version found) calls = refl

one_labels : (reading : Reading) (calls : List Call) → labels_after (call_of reading ∷ calls) ≡ labels_after calls
unfolding labels_after
one_labels (readings.Slot row seen) calls = refl
one_labels (readings.Word word version found) calls = refl

-- and so any number of them
pub same_after : {X : Type 0} (f : List Call → X) → ((reading : Reading) (calls : List Call) → f (call_of reading ∷ calls) ≡ f calls)
    → (rs : List Reading) (calls : List Call) → f (calls_of rs ++ calls) ≡ f calls
same_after f one [] calls = refl
same_after f one (r ∷ rs) calls = ap f (oldest r rs calls) ∙ (same_after f one rs (call_of r ∷ calls) ∙ one r calls)

pub same_changes : (rs : List Reading) (calls : List Call) → changes_of (calls_of rs ++ calls) ≡ changes_of calls
same_changes rs calls = same_after changes_of one_changes rs calls

pub same_ops : (rs : List Reading) (calls : List Call) → ops_of (calls_of rs ++ calls) ≡ ops_of calls
same_ops rs calls = same_after ops_of one_ops rs calls

pub same_sets : (rs : List Reading) (calls : List Call) → sets_of (calls_of rs ++ calls) ≡ sets_of calls
same_sets rs calls = same_after sets_of one_sets rs calls

pub same_draws : (rs : List Reading) (calls : List Call) → draws_of (calls_of rs ++ calls) ≡ draws_of calls
same_draws rs calls = same_after draws_of one_draws rs calls

pub same_labels : (rs : List Reading) (calls : List Call) → labels_after (calls_of rs ++ calls) ≡ labels_after calls
same_labels rs calls = same_after labels_after one_labels rs calls

-- the calls before answer too
behind : (flags : List ℕ) (xs calls : List Call) → AllAnswer flags (xs ++ calls) → AllAnswer flags calls
behind flags [] calls a = a
behind flags (x ∷ xs) calls a = behind flags xs calls a.1

-- what the newest reading finds
whole_is : (a : Bool) (version : ℕ) (content : List ℕ) → a ≡ true → Whole version content ≡ cond a (Whole version content) (Free (4 * version))
whole_is true version content is = refl
whole_is false version content is = let e : false ≡ true = is in cc

free_is : (a : Bool) (version : ℕ) (content : List ℕ) → a ≡ false → Free (4 * version) ≡ cond a (Whole version content) (Free (4 * version))
free_is false version content is = refl
free_is true version content is = let e : true ≡ false = is in cc

found : (flags : List ℕ) (reading : Reading) (calls : List Call) → AllAnswer flags (call_of reading ∷ calls) → IsFound flags calls reading
unfolding ops_of changes_of sets_of
found flags (readings.Slot row (Whole version content)) calls a =
    let n = count (changes_of calls) row in
    let v : version ≡ n = (plain_next flags (Reads row (Whole version content) ∷ calls) a).0 in
    let f = plain_found flags (Reads row (Whole version content) ∷ calls) a in
    let c : content ≡ content_at (ops_of calls) row version = f.0.0.0 in
    ap (λ z. Whole version z) c ∙ (ap (λ z. Whole z (content_at (ops_of calls) row z)) v ∙ whole_is (slot_after (ops_of calls) row).allocated n (content_at (ops_of calls) row n) a.0.1)
found flags (readings.Slot row (Free w)) calls a =
    let n = count (changes_of calls) row in
    let v : w ≡ 4 * n = (plain_next flags (Reads row (Free w) ∷ calls) a).0 in
    ap Free v ∙ free_is (slot_after (ops_of calls) row).allocated n (content_at (ops_of calls) row n) a.0.1
found flags (readings.Slot row (Busy first second)) calls a = absurd a.0
found flags (readings.Word at version there) calls a =
    let v : version ≡ word_version (sets_of calls) at = (plain_next flags (Loads at version there ∷ calls) a).0 in
    let f = plain_found flags (Loads at version there ∷ calls) a in
    (v, f.0.0.0)

-- what is found after one more reading is found before it
before : (flags : List ℕ) (newer : Reading) (calls : List Call) (reading : Reading) → IsFound flags (call_of newer ∷ calls) reading → IsFound flags calls reading
unfolding changes_of ops_of sets_of
before flags (readings.Slot at seen_at) calls (readings.Slot row seen) f = f
before flags (readings.Slot at seen_at) calls (readings.Word word version found_there) f = f
before flags (readings.Word at v found_at) calls (readings.Slot row seen) f = f
before flags (readings.Word at v found_at) calls (readings.Word word version found_there) f = f

pub all_found : (flags : List ℕ) (rs : List Reading) (calls : List Call) → AllAnswer flags (calls_of rs ++ calls) → All (IsFound flags calls) rs
all_found flags [] calls a = All-nil (IsFound flags calls)
all_found flags (r ∷ rs) calls a =
    let b = subst (AllAnswer flags) (oldest r rs calls) a in
    All-cons (IsFound flags calls) r rs (found flags r calls (behind flags (calls_of rs) (call_of r ∷ calls) b))
    (All-weaker (IsFound flags (call_of r ∷ calls)) (IsFound flags calls) (before flags r calls) rs (all_found flags rs (call_of r ∷ calls) b))
