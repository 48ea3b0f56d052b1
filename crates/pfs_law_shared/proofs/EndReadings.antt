-- What is read behind all that some sessions did is what they left.
use Rattle.std.proofs.Common.{ℕ, zero, suc, ◌≡◌, ◌+◌, ◌*◌, ◌<◌, ◌≤◌, ◌==◌, Bool, true, false, not, ◌&&◌, List, [], ◌∷◌, ◌++◌, map, inl, inr, refl, ap, sym, ◌∙◌, subst, arith, lt-ltb}
use Rattle.std.specs.Prelude.{All, Contains, if◌then◌else◌, nat_lt, nat_le}
use Rattle.std.proofs.lemmas.Bool.{cases_lt, false≢true}
use Rattle.std.proofs.lemmas.List.{get_or-map, length-map}
use Rattle.std.proofs.lemmas.List.Elements.{All-nil, All-cons, All-weaker, All-contains_itself}
use Rattle.pfs_levels.specs.Calls.{Call, Reads, IsRow}
use Rattle.pfs_levels.specs.JointCalls.{total, one_if, At, IsCounted, count, changes_of, Setting, sets_of, word_version, flags_at, AreWordsCounted, frees_at, Agrees, AllAgree}
use Rattle.pfs_levels.specs.PhaseFloors.{IsSince, AreSince}
use Rattle.pfs_model.specs.Chains.{is_free_after}
use Rattle.pfs_model.specs.EntryPlaces.{Placed}
use Rattle.pfs_reader.proofs.Readings.{calls_then as readings_then}
use Rattle.pfs_reader.specs.Readings.{call_of, IsThere}
use Rattle.pfs_reader.specs.Readings.{calls_of as calls_of_readings}
use Rattle.pfs_readsets.proofs.Members.{rows_are, words_are}
use Rattle.pfs_readsets.specs.ReadSets.{IsReadSet, read_set, row_test, target_of}
use Rattle.pfs_readsets.specs.TablePlaces.{Scope}
use Rattle.pfs_readsets.specs.declared.target.Target.{Target}
use Rattle.pfs_readsets.specs.declared.target.Target.TheVariants as targets
use Rattle.pfs_rows.specs.declared.table.Reading.{Reading}
use Rattle.pfs_rows.specs.declared.table.Reading.TheVariants as readings
use Rattle.pfs_rows.specs.declared.table.Seen.{Seen}
use Rattle.pfs_rows.specs.declared.table.Seen.TheVariants.{Whole, Free}
use Rattle.pfs_rows.specs.declared.table.Seen.TheVariants as sees
use Rattle.pfs_rows.specs.declared.table.Table.{Table}
use Rattle.pfs_runs.specs.PhaseFinals.{reading_of, row_version, word_version as printed_version, shown_row}
use Rattle.pfs_law_joint.proofs.HadVersions.{free_had, four}
use Rattle.pfs_law_joint.proofs.MarkSums.{count_is}
use Rattle.pfs_law_joint.proofs.Sums.{total_then, total_map, one_low}
use Rattle.pfs_law_joint.proofs.VersionChains.{log_chain, log_count, puts_to, sets_count, sets_counted, there}
use Rattle.pfs_law_joint.specs.Versions.{FlagsLaw, at_set, makes}
use Rattle.pfs_law_shared.specs.Ends.{IsSeen}
use Rattle.pfs_law_shared.specs.Rules.{of_rows}
use Rattle.pfs_law_shared.proofs.ActorSums.{IsAdditive}
use Rattle.pfs_law_shared.proofs.PhaseCounts.{ArePrinted, rows_counted, words_counted, free_is, stands_free}
use Rattle.pfs_law_shared.proofs.RunRules.{in_rows}

-- ---- a reader changes nothing

pub split_calls : (r : Reading) (rs : List Reading) → calls_of_readings (r ∷ rs) ≡ calls_of_readings rs ++ call_of r ∷ []
split_calls r rs = readings_then (r ∷ []) rs

pub reads_weigh : (weigh : List Call → ℕ) → IsAdditive weigh → ((r : Reading) → weigh (call_of r ∷ []) ≡ 0) → (rs : List Reading) → weigh (calls_of_readings rs) ≡ 0
reads_weigh weigh adds one [] = adds.none
reads_weigh weigh adds one (r ∷ rs) =
    let a = ap weigh (split_calls r rs) ∙ adds.both (calls_of_readings rs) (call_of r ∷ []) in
    omega (arith, a, one r, reads_weigh weigh adds one rs)

pub no_change : (h : At → ℕ) (r : Reading) → total h (changes_of (call_of r ∷ [])) ≡ 0
unfolding total changes_of
no_change h (readings.Slot row seen) = refl
no_change h (readings.Word word version flags) = refl

pub no_set : (h : Setting → ℕ) (r : Reading) → total h (sets_of (call_of r ∷ [])) ≡ 0
unfolding total sets_of
no_set h (readings.Slot row seen) = refl
no_set h (readings.Word word version flags) = refl

-- ---- what is said of all its calls is said of each reading

pub record IsReadOf (flags : List ℕ) (content : ℕ → ℕ → List ℕ) (log : List At) (sets : List Setting) (past : List At) (words : List Setting) (r : Reading) : Type 0 where
  pub agrees : Agrees flags content log sets (call_of r)
  pub since : IsSince past words (call_of r)

module _ (flags : List ℕ) (content : ℕ → ℕ → List ℕ) (log : List At) (sets : List Setting) (past : List At) (words : List Setting) where
  abbrev Of : Reading → Type 0
  Of r = IsReadOf flags content log sets past words r

  agree_parts : (xs ys : List Call) → AllAgree flags content log sets (xs ++ ys) → AllAgree flags content log sets xs × AllAgree flags content log sets ys
  agree_parts [] ys a = (tt, a)
  agree_parts (x ∷ xs) ys a = let r = agree_parts xs ys a.1 in ((a.0, r.0), r.1)

  since_parts : (xs ys : List Call) → AreSince past words (xs ++ ys) → AreSince past words xs × AreSince past words ys
  since_parts [] ys a = (tt, a)
  since_parts (x ∷ xs) ys a = let r = since_parts xs ys a.1 in ((a.0, r.0), r.1)

  pub each_reading : (rs : List Reading) → AllAgree flags content log sets (calls_of_readings rs) → AreSince past words (calls_of_readings rs) → All Of rs
  each_reading [] agree since = All-nil Of
  each_reading (r ∷ rs) agree since =
      let a = agree_parts (calls_of_readings rs) (call_of r ∷ []) (subst (AllAgree flags content log sets) (split_calls r rs) agree) in
      let s = since_parts (calls_of_readings rs) (call_of r ∷ []) (subst (AreSince past words) (split_calls r rs) since) in
      All-cons Of r rs (record { agrees = a.1.0; since = s.1.0 }) (each_reading rs a.0 s.0)

-- ---- a read set names rows but row 0, and words that are there

above_zero : (scope : Scope) (table : Table) (rs : List Reading) (row : ℕ) → row_test scope table rs row ≡ true → 0 < row
above_zero scope table rs zero is = absurd (false≢true is)
above_zero scope table rs (suc row) is = omega arith

member_there : (scope : Scope) (table : Table) (rs : List Reading) (t : Target) → Contains (read_set scope table rs) t → IsThere t
member_there scope table rs (targets.Row row) has = let h = (rows_are scope table rs row).0 has in (above_zero scope table rs row h.1, h.0)
member_there scope table rs (targets.Word word) has = ((words_are scope table rs word).0 has).0

pub set_there : (scope : Scope) (table : Table) (rs : List Reading) → IsReadSet scope table rs → All (λ r. IsThere (target_of r)) rs
set_there scope table rs is = λ k d less.
    (let ts : List Target = read_set scope table rs in
    let all : All IsThere (map target_of rs) =
    subst (All IsThere) (sym is) (All-weaker (Contains ts) IsThere (member_there scope table rs) ts (All-contains_itself ts)) in
    let n = length-map rs target_of in
    subst IsThere (get_or-map target_of rs k d (target_of d) less) (all k (target_of d) (omega (arith, less, n))))

-- ---- words: a set at a version is the same one in any later history

skip : (flags : List ℕ) (more sets : List Setting) (word k : ℕ) → total (λ s. one_if ((s.word == word) && (s.version == k))) more ≡ 0 → flags_at flags (more ++ sets) word k ≡ flags_at flags sets word k
unfolding total flags_at
skip flags [] sets word k none = refl
skip flags (s ∷ more) sets word k none = at (λ still. skip flags more sets word k still) ((s.word == word) && (s.version == k)) none where
  at : (total (λ s. one_if ((s.word == word) && (s.version == k))) more ≡ 0 → flags_at flags (more ++ sets) word k ≡ flags_at flags sets word k) → (b : Bool)
      → one_if b + total (λ s. one_if ((s.word == word) && (s.version == k))) more ≡ 0 → (if b then s.flags else flags_at flags (more ++ sets) word k) ≡ flags_at flags sets word k
  at behind true none = absurd (omega (arith, none))
  at behind false none = behind (omega (arith, none))

-- how often a word was set at a version
set_once : (sets : List Setting) (word k : ℕ) → AreWordsCounted sets
    → total (λ s. one_if ((s.word == word) && (s.version == k))) sets ≡ one_if (nat_lt 0 k && nat_le k (word_version sets word))
set_once sets word k counted =
    sym (total_map at_set (λ x. one_if (makes word k x)) sets)
    ∙ (log_chain (map at_set sets) word k (sets_counted sets counted) ∙ ap (λ n. one_if (nat_lt 0 k && nat_le k n)) (sets_count sets word))

at_zero : (k m : ℕ) → k ≤ 0 → one_if (nat_lt 0 k && nat_le k m) ≡ 0
at_zero k m low = grind (arith, low)

-- what is told once at each version up to a number, and more of it of other versions alone
never_more : (k n m more sets grown : ℕ) → k ≤ n → more + sets ≡ grown → sets ≡ one_if (nat_lt 0 k && nat_le k n) → grown ≡ one_if (nat_lt 0 k && nat_le k m) → more ≡ 0
never_more k n m more sets grown low both some all = elim (cases_lt 0 k) [
  | inl up ↦ omega (arith, both, some, all, there k n up low, one_low (nat_lt 0 k && nat_le k m))
  | inr first ↦ omega (arith, both, all, at_zero k m first)
]

pub same_flags : FlagsLaw → (flags : List ℕ) (sets grown more : List Setting) → AreWordsCounted sets → AreWordsCounted grown → ((h : Setting → ℕ) → total h more + total h sets ≡ total h grown)
    → (word k : ℕ) → k ≤ word_version sets word → flags_at flags sets word k ≡ flags_at flags grown word k
same_flags law flags sets grown more counted grows both word k low =
    let h : Setting → ℕ = λ s. one_if ((s.word == word) && (s.version == k)) in
    let none : total h more ≡ 0 =
    never_more k (word_version sets word) (word_version grown word) (total h more) (total h sets) (total h grown) low (both h) (set_once sets word k counted) (set_once grown word k grows) in
    sym (skip flags more sets word k none) ∙ law flags grown (more ++ sets) grows (λ g. total_then g more sets ∙ both g) word k

-- ---- each reading shows what is printed

-- a row as it is shown, free or not
shows_whole : (free : Bool) (k v : ℕ) (x y : List ℕ) → free ≡ false → k ≡ v → x ≡ y → Whole k x ≡ (if free then Free (4 * v) else Whole v y)
shows_whole true k v x y taken e same = absurd (false≢true (sym taken))
shows_whole false k v x y taken e same = ap (λ z. Whole z x) e ∙ ap (λ z. Whole v z) same

shows_free : (free : Bool) (w v : ℕ) (y : List ℕ) → free ≡ true → w ≡ 4 * v → Free w ≡ (if free then Free (4 * v) else Whole v y)
shows_free false w v y is e = absurd (false≢true is)
shows_free true w v y is e = ap (λ z. Free z) e

sets_sum : (sets : List Setting) (word : ℕ) → total (λ s. puts_to word (at_set s)) sets ≡ word_version sets word
sets_sum sets word = sym (total_map at_set (puts_to word) sets) ∙ (log_count (map at_set sets) word ∙ sets_count sets word)

-- of what these calls changed, as it is printed and as it is counted; `own` has the contents as the reader's history
-- has them, `content` as all have them in the end
module _ (flags : List ℕ) (printed : List Placed) (calls : List Call) (prints : ArePrinted printed calls) (own content : ℕ → ℕ → List ℕ) (log : List At) (sets : List Setting)
    (counted : IsCounted log) (once : (h : At → ℕ) → total h (changes_of calls) ≡ total h log) (sets_once : (h : Setting → ℕ) → total h (sets_of calls) ≡ total h sets)
    (same : (row version : ℕ) → 0 < row → row < 14242 → version ≤ count log row → own row version ≡ content row version)
    (of : ℕ → ℕ → ℕ) (same_set : (word version : ℕ) → version ≤ word_version sets word → flags_at flags sets word version ≡ of word version) where
  abbrev IsShown : Reading → Type 0
  IsShown r = r ≡ reading_of (of_rows content) of printed (target_of r)

  row_shown : (row : ℕ) (seen : Seen) → IsRow row → IsSeen (readings.Slot row seen) → Agrees flags own log sets (Reads row seen) → IsSince (changes_of calls) (sets_of calls) (Reads row seen)
      → seen ≡ shown_row (of_rows content) printed row
  row_shown row (Whole k found) is seen agrees since =
      let n : ℕ = count (changes_of calls) row in
      let version : k ≡ n = omega (arith, agrees.1, since.0, count_is log (changes_of calls) row once) in
      let last : k ≡ row_version printed row = version ∙ sym (rows_counted printed calls prints row) in
      let held : found ≡ of_rows content row (row_version printed row) =
      agrees.0 ∙ (same row k is.0 is.1 agrees.1 ∙ (sym (in_rows content row k is) ∙ ap (of_rows content row) last)) in
      shows_whole (is_free_after printed row) k (row_version printed row) found (of_rows content row (row_version printed row)) (taken version (is_free_after printed row) refl) last held
    where
      taken : k ≡ count (changes_of calls) row → (b : Bool) → is_free_after printed row ≡ b → is_free_after printed row ≡ false
      taken version false e = e
      taken version true e =
          absurd (since.1 (subst (λ z. 0 < frees_at (changes_of calls) row z) (sym version) (stands_free printed calls prints row is.0 e)) version)
  row_shown row (Free w) is seen agrees since =
      let k : ℕ = agrees.0 in
      let low : k ≤ count log row = free_had log row k counted agrees.1.1 in
      let version : k ≡ count (changes_of calls) row = omega (arith, low, since, four w k agrees.1.0, count_is log (changes_of calls) row once) in
      let stands : 0 < frees_at (changes_of calls) row k = omega (arith, agrees.1.1, once (λ x. one_if ((x.row == row) && not x.puts && (x.version == k)))) in
      let free : is_free_after printed row ≡ true =
      free_is printed calls prints row is.0 ∙ lt-ltb 0 (frees_at (changes_of calls) row (count (changes_of calls) row)) (subst (λ z. 0 < frees_at (changes_of calls) row z) version stands) in
      let last : k ≡ row_version printed row = version ∙ sym (rows_counted printed calls prints row) in
      shows_free (is_free_after printed row) w (row_version printed row) (of_rows content row (row_version printed row)) free (agrees.1.0 ∙ ap (λ z. 4 * z) last)
  row_shown row (sees.Busy first second) is seen agrees since = absurd seen

  word_last : (word version : ℕ) → version ≤ word_version sets word → word_version (sets_of calls) word ≤ version → version ≡ printed_version printed word
  word_last word version low since = omega (
    arith,
    low,
    since,
    sets_sum (sets_of calls) word,
    sets_once (λ s. puts_to word (at_set s)),
    sets_sum sets word,
    words_counted printed calls prints word,
  )

  pub reading_shown : (r : Reading) → IsThere (target_of r) → IsSeen r → IsReadOf flags own log sets (changes_of calls) (sets_of calls) r → IsShown r
  reading_shown (readings.Slot row seen) is free read = ap (λ z. readings.Slot row z) (row_shown row seen is free read.agrees read.since)
  reading_shown (readings.Word word version found) is free read =
      let last : version ≡ printed_version printed word = word_last word version read.agrees.1 read.since in
      let flags_are : found ≡ of word (printed_version printed word) = read.agrees.0 ∙ (same_set word version read.agrees.1 ∙ ap (of word) last) in
      ap (λ z. readings.Word word z found) last ∙ ap (λ z. readings.Word word (printed_version printed word) z) flags_are
