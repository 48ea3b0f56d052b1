-- Which statements count by digest, worked.
use Rattle.std.proofs.Common.{◌≡◌, List, [], ◌∷◌, ◌++◌, None, refl, ap, ◌∙◌}
use Rattle.std.specs.Prelude.{slice_get}
use Rattle.std.specs.List.{flat_map, range_with_len}
use Rattle.pfs_classes.specs.declared.setting.DigestText.{DigestText}
use Rattle.pfs_model.specs.EntryPlaces.{places_behind}
use Rattle.pfs_summaries.specs.DigestRows.{digest_heading, null_heading}
use Rattle.pfs_summaries.specs.RowValues.{values_of, times_of, sums_of, numbers_row}
use Rattle.pfs_text.specs.declared.values.RowValue.{RowValue}
use Rattle.pfs_law_summaries.specs.Counts.{Past}
use Rattle.pfs_law_summaries.specs.DigestSummary.{digested_at, digested_row, place_digested}
use Rattle.pfs_law_summaries.specs.DigestExamples.{before, behind, one_of, WorkedDigests}

abbrev rows_by : (past : Past) (digests : List DigestText) → List (List RowValue)
rows_by past digests = digested_row null_heading (digested_at past None) ++ flat_map (λ place. place_digested past (slice_get digests place) place) (range_with_len 0 64)

before_rows : (digest : DigestText) → rows_by before (digest ∷ []) ≡ (null_heading ++ numbers_row (one_of 101)) ∷ (digest_heading digest ++ numbers_row (one_of 100)) ∷ []
unfolding places_behind values_of times_of sums_of
before_rows digest = refl

behind_rows : (digest : DigestText) → rows_by behind (digest ∷ []) ≡ (digest_heading digest ++ numbers_row (one_of 103)) ∷ []
unfolding places_behind values_of times_of sums_of
behind_rows digest = refl

pub worked_digests : WorkedDigests
unfolding places_behind
worked_digests = record {
  placed = refl;
  unplaced = refl;
  other_place = refl;
  placed_since = refl;
  none_since = refl;
  still_placed = refl;
  still_unplaced = refl;
  lost = refl;
  sums = refl;
  rows = λ digest setting e. ap (rows_by before) e ∙ before_rows digest;
  rows_since = λ digest setting e. ap (rows_by behind) e ∙ behind_rows digest;
}
