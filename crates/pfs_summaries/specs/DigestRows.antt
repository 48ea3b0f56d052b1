-- The rows of the summary by digest.
use Rattle.std.specs.Prelude.{ℕ, ◌+◌, ◌==◌, if◌then◌else◌, List, [], ◌∷◌, ◌++◌, slice_get, Option, Some, None}
use Rattle.std.specs.List.{flat_map, range_with_len}
use Rattle.hex.specs.Hex.{encode_lower}
use Rattle.sha2.specs.Sha256.{sha256}
use Rattle.pfs_rows.specs.declared.table.Reading.{Reading}
use Rattle.pfs_classes.specs.declared.setting.Setting.{Setting}
use Rattle.pfs_classes.specs.declared.setting.DigestText.{DigestText}
use Rattle.pfs_stat.specs.Stat.{stat_of_words}
use Rattle.pfs_text.specs.declared.values.RowValue.{RowValue}
use Rattle.pfs_text.specs.declared.values.RowValue.TheVariants as value
use Rattle.pfs_summaries.specs.declared.numbers.Numbers.TheVariants as numbers
use Rattle.pfs_summaries.specs.FoundContents.{contents_of, info_at}
use Rattle.pfs_summaries.specs.RowValues.{values_of}

-- a row's schema, which is NULL, the SHA-256 of its digest text in hexadecimal digits, and the text
abbrev pub digest_heading : DigestText → List RowValue
digest_heading digest = value.Null ∷ value.Text (encode_lower (sha256 digest.text)) ∷ value.Text digest.text ∷ []

-- the row of the texts without a place has no digest and no text
abbrev pub null_heading : List RowValue
null_heading = value.Null ∷ value.Null ∷ value.Null ∷ []

-- a row stands where its content was found and something was counted
abbrev pub counted_row : List RowValue → Option (List ℕ) → List (List RowValue)
counted_row heading None = []
counted_row heading (Some words) = if (stat_of_words words).count == 0 then []
    else (heading ++ values_of (numbers.Statements (stat_of_words words))) ∷ []

-- the row of a digest place, where the setting has it
abbrev pub place_row : Option DigestText → Option (List ℕ) → List (List RowValue)
place_row None content = []
place_row (Some digest) content = counted_row (digest_heading digest) content

unfoldable pub digest_row : List DigestText → List (Option (List ℕ)) → ℕ → List (List RowValue)
digest_row digests contents place = place_row (slice_get digests place) (info_at contents (1 + place))

-- what the summary by digest shows: the row of the texts without a place, whose number is 8385, and then the places
-- from 0 to 63 on
unfoldable pub digests_of : Setting → List Reading → List (List RowValue)
digests_of setting readings =
    counted_row null_heading (info_at (contents_of 8385 65 readings) 0)
    ++ flat_map (digest_row setting.digests (contents_of 8385 65 readings)) (range_with_len 0 64)
