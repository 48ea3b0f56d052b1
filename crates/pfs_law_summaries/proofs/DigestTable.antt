-- The summary by digest shows, of what was read as a whole, a row for each digest that something stands for.
use Rattle.std.proofs.Common.{◌≡◌, ℕ, zero, suc, ◌+◌, ◌<◌, ◌==◌, Bool, true, false, not, cond, nat_lt, List, [], ◌∷◌, ◌++◌, filter, length, Option, Some, None, refl, sym, ap, ◌∙◌, arith}
use Rattle.std.specs.Prelude.{slice_get, if◌then◌else◌}
use Rattle.std.specs.List.{flat_map, range_with_len}
use Rattle.std.specs.Option.{option_map}
use Rattle.std.proofs.lemmas.List.Concat.{flat_map-cons}
use Rattle.std.proofs.lemmas.List.Elements.{filter-append}
use Rattle.std.proofs.lemmas.List.FromFn.{get_or-map-range_with_len}
use Rattle.std.proofs.lemmas.Option.{slice_get_within}
use Rattle.pfs_classes.specs.declared.setting.DigestText.{DigestText}
use Rattle.pfs_classes.specs.declared.setting.Setting.{Setting}
use Rattle.pfs_finals.specs.Finals.{is_zero_at, is_shown}
use Rattle.pfs_model.specs.EntryAsks.{digest_row}
use Rattle.pfs_readsets.specs.TablePlaces.{scope_of, has_cell, reads}
use Rattle.pfs_readsets.specs.ReadSets.{is_whole, on_place, row_test}
use Rattle.pfs_rows.specs.Rows.{IsPlace, row_number}
use Rattle.pfs_rows.specs.declared.place.Place.{Place}
use Rattle.pfs_rows.specs.declared.place.Place.TheVariants.{DigestNull, Digest}
use Rattle.pfs_rows.specs.declared.table.Reading.{Reading}
use Rattle.pfs_rows.specs.declared.table.Seen.{Seen}
use Rattle.pfs_rows.specs.declared.table.Table.TheVariants.{DigestSummary}
use Rattle.pfs_stat.specs.Stat.{stat_of_words}
use Rattle.pfs_stat.specs.declared.Stat.{Stat}
use Rattle.pfs_summaries.proofs.NumberLists.{made_same}
use Rattle.pfs_summaries.specs.FoundContents.{whole_of, content_at, contents_of, info_at}
use Rattle.pfs_summaries.specs.DigestRows.{digest_heading, null_heading, counted_row, place_row, digests_of}
use Rattle.pfs_summaries.specs.DigestRows.{digest_row as shown_row}
use Rattle.pfs_summaries.specs.RowValues.{values_of}
use Rattle.pfs_summaries.specs.declared.numbers.Numbers.TheVariants.{Statements}
use Rattle.pfs_text.specs.declared.values.RowValue.{RowValue}
use Rattle.pfs_text.specs.declared.values.RowValue.TheVariants.{Number}
use Rattle.pfs_law_summaries.specs.Counts.{Past}
use Rattle.pfs_law_summaries.specs.DigestSummary.{digested_at, digested_row, place_digested, digested_rows}
use Rattle.pfs_law_summaries.proofs.SummaryRows.{count_first}
use Rattle.pfs_law_summaries.proofs.TableReadings.{IsShown, content_is}
use Rattle.pfs_law_summaries.proofs.InfoReadings.{ArePlaces}

-- ---- rows of what has counted

counted_is : (heading : List RowValue) (stat : Stat) (content : Option (List ℕ)) → option_map stat_of_words content ≡ Some stat → counted_row heading content ≡ digested_row heading stat
counted_is heading stat None e = absurd (cc)
counted_is heading stat (Some words) e =
    ap (λ (s : Stat). if s.count == 0 then [] else (heading ++ values_of (Statements s)) ∷ []) (some_is (stat_of_words words) stat e) ∙ same (stat.count == 0) where
      some_is : (a b : Stat) → ◌≡◌ {A = Option Stat} (Some a) (Some b) → a ≡ b
      some_is a b h = cc

      same : (b : Bool) → (if b then [] else (heading ++ values_of (Statements stat)) ∷ []) ≡ cond b [] ((heading ++ values_of (Statements stat)) ∷ [])
      same true = refl
      same false = refl

-- each of them is shown
row_shown : (a b c : RowValue) (stat : Stat) → filter (is_shown DigestSummary) (digested_row (a ∷ b ∷ c ∷ []) stat) ≡ digested_row (a ∷ b ∷ c ∷ []) stat
row_shown a b c stat = at (stat.count == 0) refl where
  count : is_zero_at (a ∷ b ∷ c ∷ [] ++ values_of (Statements stat)) 3 ≡ (stat.count == 0)
  count = on (count_first (Statements stat)) where
    on : (rest : List RowValue) × (values_of (Statements stat) ≡ Number stat.count ∷ rest) → is_zero_at (a ∷ b ∷ c ∷ [] ++ values_of (Statements stat)) 3 ≡ (stat.count == 0)
    on f = ap (λ (l : List RowValue). is_zero_at (a ∷ b ∷ c ∷ [] ++ l) 3) f.1

  at : (z : Bool) → (stat.count == 0) ≡ z
      → filter (is_shown DigestSummary) (cond z [] ((a ∷ b ∷ c ∷ [] ++ values_of (Statements stat)) ∷ [])) ≡ cond z [] ((a ∷ b ∷ c ∷ [] ++ values_of (Statements stat)) ∷ [])
  at true q = refl
  at false q = ap (λ z. cond (not z) ((a ∷ b ∷ c ∷ [] ++ values_of (Statements stat)) ∷ []) []) (count ∙ q)

place_shown : (past : Past) (o : Option DigestText) (place : ℕ) → filter (is_shown DigestSummary) (place_digested past o place) ≡ place_digested past o place
place_shown past None place = refl
place_shown past (Some digest) place = row_shown _ _ _ (digested_at past (Some place))

made_shown : {X : Type 0} (p : X → Bool) (f : ℕ → List X) → ((k : ℕ) → filter p (f k) ≡ f k) → (a n : ℕ) → filter p (flat_map f (range_with_len a n)) ≡ flat_map f (range_with_len a n)
made_shown p f each a zero = refl
made_shown {X} p f each a (suc n) =
    ap (filter p) (flat_map-cons f a (range_with_len (a + 1) n))
    ∙ (filter-append p (f a) (flat_map f (range_with_len (a + 1) n))
    ∙ (ap (λ (z : List X). z ++ filter p (flat_map f (range_with_len (a + 1) n))) (each a)
    ∙ (ap (λ (z : List X). f a ++ z) (made_shown p f each (a + 1) n)
    ∙ sym (flat_map-cons f a (range_with_len (a + 1) n)))))

abbrev place_rows : Setting → Past → List (List RowValue)
place_rows setting past = flat_map (λ k. place_digested past (slice_get setting.digests k) k) (range_with_len 0 64)

rows_shown : (setting : Setting) (past : Past) → filter (is_shown DigestSummary) (digested_rows setting past) ≡ digested_rows setting past
rows_shown setting past =
    filter-append (is_shown DigestSummary) (digested_row null_heading (digested_at past None)) (place_rows setting past)
    ∙ (ap (λ (z : List (List RowValue)). z ++ filter (is_shown DigestSummary) (place_rows setting past)) (row_shown _ _ _ (digested_at past None))
    ∙ ap (λ (z : List (List RowValue)). digested_row null_heading (digested_at past None) ++ z) (made_shown (is_shown DigestSummary) (λ k. place_digested past (slice_get setting.digests k) k) (λ k. place_shown past (slice_get setting.digests k) k) 0 64))

-- ---- what was read

module _ (board : ArePlaces) (seen : ℕ → Seen) (versions flags : ℕ → ℕ) (setting : Setting) (found : List Reading) (is : IsShown seen versions flags (scope_of setting) DigestSummary found) (past : Past)
    (whole : (digest : Option ℕ) → digest_row digest < 8450 → option_map stat_of_words (whole_of (seen (digest_row digest))) ≡ Some (digested_at past digest)) where
  reads_place : (p : Place) → IsPlace p → row_test (scope_of setting) DigestSummary found (row_number p) ≡ reads DigestSummary (has_cell (scope_of setting) DigestSummary) (length setting.digests) (is_whole found) p
  reads_place p low = ap (on_place (reads DigestSummary (has_cell (scope_of setting) DigestSummary) (length setting.digests) (is_whole found))) (board.back p low)

  info_is : (i row : ℕ) → i < 65 → 8385 + i ≡ row → row_test (scope_of setting) DigestSummary found row ≡ true → info_at (contents_of 8385 65 found) i ≡ whole_of (seen row)
  info_is i row low e read =
      get_or-map-range_with_len (content_at found) 8385 65 i row None low e
      ∙ (content_is seen versions flags (scope_of setting) DigestSummary found is row (omega (arith, low, e)) ∙ ap (λ b. cond b (whole_of (seen row)) None) read)

  null_is : counted_row null_heading (info_at (contents_of 8385 65 found) 0) ≡ digested_row null_heading (digested_at past None)
  null_is =
      counted_is null_heading (digested_at past None) (info_at (contents_of 8385 65 found) 0)
      (ap (option_map stat_of_words) (info_is 0 8385 (omega arith) (omega arith) (reads_place DigestNull tt)) ∙ whole None (omega arith))

  place_is : (k : ℕ) → k < 64 → shown_row setting.digests (contents_of 8385 65 found) k ≡ place_digested past (slice_get setting.digests k) k
  unfolding shown_row
  place_is k low = at (slice_get setting.digests k) refl where
    read : (k < length setting.digests) → row_test (scope_of setting) DigestSummary found (8386 + k) ≡ true
    read l = reads_place (Digest k) low ∙ lt_true k (length setting.digests) l where
      lt_true : (a b : ℕ) → a < b → nat_lt a b ≡ true
      lt_true a b h = grind (arith, h)

    at : (o : Option DigestText) → slice_get setting.digests k ≡ o → place_row o (info_at (contents_of 8385 65 found) (1 + k)) ≡ place_digested past o k
    at None e = refl
    at (Some digest) e =
        counted_is (digest_heading digest) (digested_at past (Some k)) (info_at (contents_of 8385 65 found) (1 + k))
        (ap (option_map stat_of_words) (info_is (1 + k) (8386 + k) (omega (arith, low)) (omega arith) (read (slice_get_within setting.digests k digest e))) ∙ whole (Some k) (omega (arith, low)))

  -- the table's rows are those of what has counted
  pub digests_are : digests_of setting found ≡ digested_rows setting past
  unfolding digests_of
  digests_are =
      ap (λ (z : List (List RowValue)). z ++ flat_map (shown_row setting.digests (contents_of 8385 65 found)) (range_with_len 0 64)) null_is
      ∙ ap (λ (z : List (List RowValue)). digested_row null_heading (digested_at past None) ++ z) (made_same (shown_row setting.digests (contents_of 8385 65 found)) (λ k. place_digested past (slice_get setting.digests k) k) 0 64 (λ k low high. place_is k (omega (arith, high))))

  pub digests_shown : filter (is_shown DigestSummary) (digests_of setting found) ≡ digested_rows setting past
  digests_shown = ap (filter (is_shown DigestSummary)) digests_are ∙ rows_shown setting past
