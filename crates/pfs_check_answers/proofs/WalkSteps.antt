-- A walk over the entries of a SELECT, step by step.
use Rattle.std.proofs.Common.{◌≡◌, ℕ, suc, ◌+◌, ◌<◌, ◌≤◌, List, [], ◌∷◌, ◌++◌, drop, get_or, length, map, take, sym, ◌∙◌, ap, ◌⊎◌, arith}
use Rattle.std.proofs.Math.Seq.{drop-cons}
use Rattle.std.proofs.lemmas.List.{append-nil, length-map, length-take-le, map-append, take-append-drop, take_more}
use Rattle.pfs_event.specs.declared.entry.Entry.{Entry}
use Rattle.pfs_readsets.specs.ReadSets.{IsNext, IsReadSet}
use Rattle.pfs_readsets.specs.TablePlaces.{Scope}
use Rattle.pfs_readsets.specs.declared.target.Target.{Target}
use Rattle.pfs_rows.specs.declared.table.Reading.{Reading}
use Rattle.pfs_rows.specs.declared.table.Table.{Table}
use Rattle.pfs_session.specs.Inquiries.{reading_entry}
use Rattle.pfs_check_answers.specs.SelectReadings.{IsMisread, IsOther}

module _ (entries : List Entry) (readings : List Reading) (at : ℕ) (told : map reading_entry readings ≡ take at entries) where
  pub as_many : at ≤ length entries → at ≡ length readings
  as_many low = sym (length-take-le at entries low) ∙ (sym (ap length told) ∙ length-map readings reading_entry)

  -- one reading more
  pub told_more : (reading : Reading) (d : Entry) → at < length entries → reading_entry reading ≡ get_or entries at d
      → map reading_entry (readings ++ reading ∷ []) ≡ take (at + 1) entries
  told_more reading d low same =
      map-append reading_entry readings (reading ∷ [])
      ∙ (ap (λ z. z ++ reading_entry reading ∷ []) told
      ∙ (ap (λ z. take at entries ++ z ∷ []) same ∙ sym (take_more entries at d low)))

  -- the next entry isn't that of the next reading
  pub missed_here : (scope : Scope) (table : Table) (d : Entry) → at < length entries
      → IsReadSet scope table readings ⊎ ((target : Target) × IsNext scope table readings target × IsOther target (get_or entries at d)) → IsMisread scope table entries at
  missed_here scope table d low missed = record {
    readings = readings;
    rest = get_or entries at d ∷ drop (suc at) entries;
    are = sym (take-append-drop at entries)
        ∙ (ap (λ z. z ++ drop at entries) (sym told) ∙ ap (λ z. map reading_entry readings ++ z) (drop-cons entries at d low));
    at_is = as_many (omega arith);
    missed = missed;
  }

-- behind the last entry a reading is missing
pub missed_end : (entries : List Entry) (readings : List Reading) → map reading_entry readings ≡ entries → (scope : Scope) (table : Table) (target : Target)
    → IsNext scope table readings target → IsMisread scope table entries (length entries)
missed_end entries readings told scope table target next = record {
  readings = readings;
  rest = [];
  are = sym told ∙ sym (append-nil (map reading_entry readings));
  at_is = sym (ap length told) ∙ length-map readings reading_entry;
  missed = (target, next);
}
