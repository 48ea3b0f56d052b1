-- Tables and counters put one behind the other.
use Rattle.std.proofs.Common.{ℕ, ◌≡◌, ◌+◌, ◌<◌, List, [], ◌∷◌, ◌++◌, refl, sym, ap, subst, ◌∙◌, append-nil, length, take, drop, get_or}
use Rattle.std.specs.List.{flat_map}
use Rattle.std.specs.Prelude.{Result, Ok, Err, OnErr}
use Rattle.std.proofs.lemmas.List.{take_more, map-append, at_drop_more, take-append-drop}
use Rattle.std.proofs.lemmas.List.Concat.{flat_map-append}
use Rattle.std.proofs.lemmas.List.Elements.{All-nil, All-cons, All-append}
use Rattle.pfs_rows.specs.declared.table.Reading.{Reading}
use Rattle.pfs_rows.specs.declared.table.Table.{Table}
use Rattle.pfs_classes.specs.declared.setting.Setting.{Setting}
use Rattle.pfs_journal.specs.declared.values.TableReport.{TableReport}
use Rattle.pfs_levels.specs.Calls.{Call, Goes, Opening}
use Rattle.pfs_reader.specs.Readings.{calls_of}
use Rattle.pfs_reader.proofs.Readings.{goes_none, goes_then}
use Rattle.pfs_readsets.specs.TablePlaces.{scope_of}
use Rattle.pfs_readsets.specs.ReadSets.{IsReadSet}
use Rattle.pfs_finals.specs.Finals.{TableRead, table_read, table_report, all_readings, IsPut, AreShown, IsReadInPart, AreReadInPart}

-- what is made along a list, with that of one more
pub taken_more : {X Row : Type 0} (f : X → List Row) (xs : List X) (i : ℕ) (d : X) → i < length xs → flat_map f (take (i + 1) xs) ≡ flat_map f (take i xs) ++ f (get_or xs i d)
taken_more {X} {Row} f xs i d h =
    ap (flat_map f) (take_more xs i d h)
    ∙ (flat_map-append f (take i xs) (get_or xs i d ∷ [])
    ∙ ap (λ (z : List Row). flat_map f (take i xs) ++ z) (append-nil (f (get_or xs i d))))

pub taken_rows : {X Row : Type 0} (f : X → List Row) (xs : List X) (i : ℕ) (d : X) (before now : List Row) → i < length xs → before ≡ flat_map f (take i xs) → now ≡ before ++ f (get_or xs i d) → now ≡ flat_map f (take (i + 1) xs)
taken_rows {X} {Row} f xs i d before now h b w = w ∙ (ap (λ (z : List Row). z ++ f (get_or xs i d)) b ∙ sym (taken_more f xs i d h))

-- one more element
one_more : {X Row : Type 0} (f : X → List Row) (xs : List X) (x : X) → flat_map f (xs ++ x ∷ []) ≡ flat_map f xs ++ f x
one_more {X} {Row} f xs x = flat_map-append f xs (x ∷ []) ∙ ap (λ (z : List Row). flat_map f xs ++ z) (append-nil (f x))

-- no table, and one table more
pub shown_none : (setting : Setting) (was : Opening → List Call → Type 0) → AreShown setting [] [] was was
shown_none setting was = record { reads = []; order_is = refl; each = All-nil _; calls = goes_none was; tables_are = refl }

pub shown_more : (setting : Setting) (order : List Table) (table : Table) (old new : List TableReport) (was mid now : Opening → List Call → Type 0)
    → AreShown setting order old was mid → IsPut setting table old new mid now → AreShown setting (order ++ table ∷ []) new was now
shown_more setting order table old new was mid now p q =
    let read : TableRead = table_read table q.readings in
    let P : TableRead → Type 0 = λ (r : TableRead). IsReadSet (scope_of setting) r.table r.readings in
    record {
      reads = p.reads ++ read ∷ [];
      order_is = map-append (λ (r : TableRead). r.table) p.reads (read ∷ []) ∙ ap (λ (z : List Table). z ++ table ∷ []) p.order_is;
      each = All-append P p.reads (read ∷ []) p.each (All-cons P read [] q.read (All-nil P));
      calls = subst (λ (z : List Reading). Goes was now (calls_of z)) (sym (one_more (λ (r : TableRead). r.readings) p.reads read)) (goes_then (all_readings p.reads) q.readings was mid now p.calls q.calls);
      tables_are = q.put ∙ (ap (λ (z : List TableReport). z ++ table_report setting read) p.tables_are ∙ sym (one_more (table_report setting) p.reads read));
    }

pub shown_next : (setting : Setting) (order : List Table) (i : ℕ) (d : Table) (old new : List TableReport) (was mid now : Opening → List Call → Type 0) → i < length order
    → AreShown setting (take i order) old was mid → IsPut setting (get_or order i d) old new mid now → AreShown setting (take (i + 1) order) new was now
shown_next setting order i d old new was mid now low p q =
    subst (λ (z : List Table). AreShown setting z new was now) (sym (take_more order i d low)) (shown_more setting (take i order) (get_or order i d) old new was mid now p q)

-- a table that was read whole was read in part
pub whole_in_part : (setting : Setting) (table : Table) (readings : List Reading) (was now : Opening → List Call → Type 0)
    → IsReadSet (scope_of setting) table readings → Goes was now (calls_of readings) → IsReadInPart setting table was now
whole_in_part setting table readings was now read calls = (readings, ([], sym (append-nil _ ∙ read)), calls)

-- the reading stopped at a table of an order
pub shown_stop : (setting : Setting) (order : List Table) (i : ℕ) (d : Table) (old : List TableReport) (was mid now : Opening → List Call → Type 0) → i < length order
    → AreShown setting (take i order) old was mid → IsReadInPart setting (get_or order i d) mid now → AreReadInPart setting order was now
shown_stop setting order i d old was mid now low p q = record {
  reads = p.reads;
  table = get_or order i d;
  behind = drop (i + 1) order;
  readings = q.0;
  order_is = sym (take-append-drop i order) ∙ (ap (λ (z : List Table). take i order ++ z) (at_drop_more (λ (z : List Table). z) order i d low) ∙ ap (λ (z : List Table). z ++ (get_or order i d ∷ drop (i + 1) order)) (sym p.order_is));
  each = p.each;
  front = q.1;
  calls = goes_then (all_readings p.reads) q.0 was mid now p.calls q.2;
}

-- what holds anyway holds at an error
pub on_err : {T E P : Type 0} (r : Result T E) → P → OnErr r P
on_err (Ok x) p = tt
on_err (Err e) p = p
