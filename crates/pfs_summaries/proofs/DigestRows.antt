-- The rows of the summary by digest are those of its definition.
use Rattle.std.proofs.Common.{ℕ, ◌≡◌, ◌+◌, Bool, true, false, List, [], ◌∷◌, ◌++◌, length, Option, Some, None, sym, ap, ◌∙◌, append-nil, ltb}
use Rattle.std.specs.Prelude.{◌==◌, if◌then◌else◌}
use Rattle.std.specs.List.{AllByRecursion, flat_map, range_with_len}
use Rattle.std.proofs.lemmas.Option.{slice_get_past}
use Rattle.std.proofs.lemmas.Bool.{ltb-false}
use Rattle.pfs_rows.specs.declared.table.Reading.{Reading}
use Rattle.pfs_classes.specs.declared.setting.Setting.{Setting}
use Rattle.pfs_classes.specs.declared.setting.DigestText.{DigestText}
use Rattle.pfs_stat.specs.declared.Stat.{Stat}
use Rattle.pfs_stat.specs.Stat.{stat_of_words}
use Rattle.pfs_text.specs.declared.values.RowValue.{RowValue}
use Rattle.pfs_summaries.specs.declared.numbers.Numbers.TheVariants as numbers
use Rattle.pfs_summaries.specs.RowValues.{values_of}
use Rattle.pfs_summaries.specs.FoundContents.{contents_of, info_at}
use Rattle.pfs_summaries.specs.DigestRows.{null_heading, counted_row, place_row, digest_row, digests_of}

-- a place without a digest gives no row
pub absent : (digests : List DigestText) (contents : List (Option (List ℕ))) (place : ℕ) (rows : List (List RowValue)) → false ≡ ltb place (length digests) → rows ≡ rows ++ digest_row digests contents place
unfolding digest_row
absent digests contents place rows off =
    let none = slice_get_past digests place (ltb-false place (length digests) (sym off)) in
    sym (ap (λ (o : Option DigestText). rows ++ place_row o (info_at contents (1 + place))) none ∙ append-nil rows)

abbrev null_row : List (Option (List ℕ)) → List (List RowValue)
null_row contents = counted_row null_heading (info_at contents 0)

abbrev place_rows : List DigestText → List (Option (List ℕ)) → List (List RowValue)
place_rows digests contents = flat_map (digest_row digests contents) (range_with_len 0 64)

-- what holds of a heading with any statements' numbers holds of the row that is counted, where there is one
pub counted : (P : List RowValue → Type 0) (heading : List RowValue) → ((stat : Stat) → P (heading ++ values_of (numbers.Statements stat))) → (o : Option (List ℕ)) → AllByRecursion P (counted_row heading o)
counted P heading so None = tt
counted P heading so (Some words) = at ((stat_of_words words).count == 0)
  where
    at : (b : Bool) → AllByRecursion P (if b then [] else (heading ++ values_of (numbers.Statements (stat_of_words words))) ∷ [])
    at true = tt
    at false = (so (stat_of_words words), tt)

-- all rows, one after another
pub shown : (setting : Setting) (readings : List Reading) (contents a b : List (Option (List ℕ))) (digests : List DigestText) (none one two out : List (List RowValue))
    → contents ≡ contents_of 8385 65 readings → a ≡ contents → b ≡ contents → digests ≡ setting.digests → none ≡ [] → one ≡ none ++ null_row a → two ≡ one ++ place_rows digests b → out ≡ two
    → out ≡ digests_of setting readings
unfolding digests_of
shown setting readings contents a b digests none one two out e ea eb ed en e1 e2 o =
    o ∙ (e2
    ∙ (ap (λ (z : List (List RowValue)). z ++ place_rows digests b) (e1 ∙ ap (λ (z : List (List RowValue)). z ++ null_row a) en)
    ∙ (ap (λ (z : List (Option (List ℕ))). null_row z ++ place_rows digests b) (ea ∙ e)
    ∙ (ap (λ (z : List (Option (List ℕ))). null_row (contents_of 8385 65 readings) ++ place_rows digests z) (eb ∙ e)
    ∙ ap (λ (z : List DigestText). null_row (contents_of 8385 65 readings) ++ place_rows z (contents_of 8385 65 readings)) ed))))
