-- A table has at most one row for a type, a schema and a name.
use Rattle.std.proofs.Common.{◌≡◌, ℕ, ◌<◌, inl, inr, zero, suc, true, false, List, [], ◌∷◌, ◌&&◌, length, get_or, Option, Some, sym, subst, ap, ◌∙◌, refl, arith}
use Rattle.std.specs.Prelude.{IsTrue}
use Rattle.std.specs.declared.cmp.Ordering.TheVariants.{Equal}
use Rattle.std.specs.Cmp.Lexicographic.{bytes_decides}
use Rattle.std.specs.List.{find}
use Rattle.std.specs.Ordering.{is_lt}
use Rattle.std.specs.Str.{bytes_eq}
use Rattle.std.proofs.lemmas.Bool.{cases_Bool, false≢true, and_parts}
use Rattle.std.proofs.lemmas.Cmp.{tied_itself}
use Rattle.std.proofs.lemmas.Option.{same_Some}
use Rattle.pfs_matching.specs.declared.object_rows.ObjectKind.{ObjectKind}
use Rattle.pfs_matching.specs.declared.object_rows.ObjectKind.TheVariants.{Event, Function, Procedure, Table, Trigger}
use Rattle.pfs_matching.specs.declared.object_rows.ObjectRow.{ObjectRow}
use Rattle.pfs_matching.specs.KeyedRows.{AreOrdered, comes_before, key_cmp}
use Rattle.pfs_matching.specs.ObjectRules.{IsAlone, KindNamesDiffer, ObjectsDecideBest, is_table, kind_name, object_key, object_says, table_has, table_ways}
use Rattle.pfs_matching.proofs.BestRow.{decides_best}
use Rattle.pfs_matching.proofs.KeyedRows.{key_total}
use Rattle.pfs_matching.proofs.LeastRole.{all_at}

table_is : (kind : ObjectKind) → is_table kind ≡ true → kind_name kind ≡ kind_name Table
table_is Table e = refl
table_is Event e = absurd (false≢true e)
table_is Function e = absurd (false≢true e)
table_is Procedure e = absurd (false≢true e)
table_is Trigger e = absurd (false≢true e)

-- rows that have one way have one key
key_of_way : (way : List ℕ × List ℕ) (row : ObjectRow) → table_has way row ≡ true → object_key row ≡ kind_name Table ∷ way.0 ∷ way.1 ∷ []
key_of_way way row passes =
    let front = and_parts (is_table row.kind && bytes_eq row.schema way.0) (bytes_eq row.name way.1) passes in
    let parts = and_parts (is_table row.kind) (bytes_eq row.schema way.0) front.0 in
    let kind = table_is row.kind parts.0 in
    let schema = (bytes_decides row.schema way.0).0 parts.1 in
    let name = (bytes_decides row.name way.1).0 front.1 in
    cc

one_key : (a b : ObjectRow) → object_key a ≡ object_key b → comes_before object_key a b ≡ false
one_key a b same = ap is_lt (subst (λ k. key_cmp (object_key a) k ≡ Equal) same (tied_itself key_total (object_key a)))

first_is_alone : (rows : List ObjectRow) (way : List ℕ × List ℕ) (row : ObjectRow) → AreOrdered object_key rows → find (table_has way) rows ≡ Some row → (k : ℕ) (other : ObjectRow) → k < length rows → get_or rows k other ≡ other → table_has way other ≡ true → other ≡ row
first_is_alone [] way row ordered found k other within is passes = absurd (omega arith)
first_is_alone (r ∷ rows) way row ordered found zero other within is passes =
    let here : table_has way r ≡ true = subst (λ o. table_has way o ≡ true) (sym is) passes in
    sym is ∙ same_Some r row (rw here at found)
first_is_alone (r ∷ rows) way row ordered found (suc k) other within is passes = elim (cases_Bool (table_has way r)) [
  | inl here ↦
      let before : comes_before object_key r other ≡ true = subst (λ o. comes_before object_key r o ≡ true) is (all_at (λ later. IsTrue (comes_before object_key r later)) rows k other (omega arith) ordered.0) in
      absurd (false≢true (sym (one_key r other (key_of_way way r here ∙ sym (key_of_way way other passes))) ∙ before))
  | inr differs ↦ first_is_alone rows way row ordered.1 (rw differs at found) k other (omega arith) is passes
]

pub objects_decide_best : ObjectsDecideBest
objects_decide_best rows schema name ordered = decides_best table_has IsAlone object_says rows (λ way row other found has passes. first_is_alone rows way row ordered found has.0 other has.1 has.2 passes) (table_ways schema name)

-- a kind is found by its name among all
abbrev named : List ℕ → Option ObjectKind
named name = find (λ kind. bytes_eq (kind_name kind) name) (Event ∷ Function ∷ Procedure ∷ Table ∷ Trigger ∷ [])

named_back : (kind : ObjectKind) → named (kind_name kind) ≡ Some kind
named_back Event = refl
named_back Function = refl
named_back Procedure = refl
named_back Table = refl
named_back Trigger = refl

pub kind_names_differ : KindNamesDiffer
kind_names_differ a b e = same_Some a b (sym (named_back a) ∙ (ap named e ∙ named_back b))
