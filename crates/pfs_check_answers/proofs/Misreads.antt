-- Where the entries of a SELECT leave the read set of its table, and nowhere before, what is read is wrong.
use Rattle.std.proofs.Common.{◌≡◌, refl, ℕ, suc, ◌+◌, ◌<◌, ◌≤◌, true, List, [], ◌∷◌, ◌++◌, length, map, take, sym, ◌∙◌, ap, subst, ◌⊎◌, inl, inr, arith}
use Rattle.std.specs.Prelude.{All}
use Rattle.std.proofs.lemmas.Bool.{false≢true}
use Rattle.std.proofs.lemmas.List.{append-nil, append_assoc, length-map, map-append, take-append-le}
use Rattle.std.proofs.lemmas.List.Elements.{All-head, All-tail}
use Rattle.pfs_classes.specs.declared.setting.Setting.{Setting}
use Rattle.pfs_event.specs.declared.entry.Entry.{Entry}
use Rattle.pfs_event.specs.declared.entry.Entry.TheVariants as says
use Rattle.pfs_exec.specs.declared.query.Select.{Select}
use Rattle.pfs_model.specs.EntryAsks.{is_reading}
use Rattle.pfs_readsets.specs.ReadSets.{IsNext, IsReadSet, target_of}
use Rattle.pfs_readsets.specs.TablePlaces.{Scope, scope_of}
use Rattle.pfs_readsets.specs.declared.target.Target.{Target}
use Rattle.pfs_readsets.proofs.EqualReadings.{RowsArePlaces}
use Rattle.pfs_rows.specs.declared.table.Reading.{Reading}
use Rattle.pfs_rows.specs.declared.table.Table.{Table}
use Rattle.pfs_session.specs.Inquiries.{reading_entry}
use Rattle.pfs_check_faults.specs.AnswerFaults.{ReadsAlike}
use Rattle.pfs_check_answers.specs.SelectReadings.{IsMisread, IsMissed}
use Rattle.pfs_check_answers.proofs.EntryReadings.{EndsThere, GoesOn, met, next_alike, rows_apart, set_alike}
use Rattle.pfs_check_answers.proofs.ReadPrefixes.{completed, next_is, next_none, next_one}

-- the entries of a SELECT that reads the store, between its first and its last
abbrev pub query_part : List Entry → ℕ → List Entry
query_part entries number = says.Query ∷ (entries ++ says.Rows number ∷ [])

-- the first of some entries, or the one behind them
abbrev first_of : List Entry → Entry → Entry
first_of [] last = last
first_of (entry ∷ entries) last = entry

one_more : (xs : List Reading) (entry : Entry) (entries : List Entry) → take (suc (length xs)) (map reading_entry xs ++ entry ∷ entries) ≡ map reading_entry xs ++ entry ∷ []
one_more [] entry entries = refl
one_more (x ∷ xs) entry entries = ap (λ z. reading_entry x ∷ z) (one_more xs entry entries)

to_first : (xs : List Reading) (rest : List Entry) (last : Entry) → take (suc (length xs)) ((map reading_entry xs ++ rest) ++ last ∷ []) ≡ map reading_entry xs ++ first_of rest last ∷ []
to_first xs [] last = ap (take (suc (length xs))) (append_assoc (map reading_entry xs) [] (last ∷ [])) ∙ one_more xs last []
to_first xs (entry ∷ rest) last = ap (take (suc (length xs))) (append_assoc (map reading_entry xs) (entry ∷ rest) (last ∷ [])) ∙ one_more xs entry (rest ++ last ∷ [])

-- the entry behind readings is no reading's number of rows
all_behind : (xs : List Reading) (entry : Entry) (rest : List Entry) → All (λ e. is_reading e ≡ true) (map reading_entry xs ++ entry ∷ rest) → is_reading entry ≡ true
all_behind [] entry rest all = All-head (λ e. is_reading e ≡ true) entry rest all
all_behind (x ∷ xs) entry rest all = all_behind xs entry rest (All-tail (λ e. is_reading e ≡ true) (reading_entry x) (map reading_entry xs ++ entry ∷ rest) all)

module _ (places : RowsArePlaces) (scope : Scope) (table : Table) (xs rs : List Reading) (last : ℕ) where
  -- readings that go on otherwise than a read set isn't one
  goes_wrong : (rest : List Entry) → IsMissed scope table xs rest → IsReadSet scope table rs → (number : ℕ) → GoesOn rs xs (first_of rest (says.Rows last)) → ⊥
  goes_wrong rest missed whole number g = on rest missed g where
    next : (entry : Entry) → GoesOn rs xs entry → (q : Target) × IsNext scope table xs q
    next entry g =
        let next = next_is places scope table g.front g.next g.others (subst (IsReadSet scope table) g.are whole) in
        (target_of g.next, next_alike scope table g.front xs g.same (target_of g.next) next)

    on : (rest : List Entry) → IsMissed scope table xs rest → GoesOn rs xs (first_of rest (says.Rows last)) → ⊥
    on [] missed g = rows_apart last g.next g.next_is
    on (entry ∷ rest) (inl ended) g = let n = next entry g in next_none scope table xs n.0 n.1 ended
    on (entry ∷ rest) (inr missed) g =
        let n = next entry g in
        missed.2 g.next (next_one scope table xs (target_of g.next) missed.0 (next_alike scope table g.front xs g.same (target_of g.next) (next_is places scope table g.front g.next g.others (subst (IsReadSet scope table) g.are whole))) missed.1) g.next_is

  -- nor may one end there
  ends_wrong : (rest : List Entry) → IsMissed scope table xs rest → All (λ e. is_reading e ≡ true) (map reading_entry xs ++ rest) → IsReadSet scope table rs → (number : ℕ)
      → EndsThere rs xs (says.Rows number) (first_of rest (says.Rows last)) → ⊥
  ends_wrong [] missed all whole number g = next_none scope table xs missed.0 missed.1 (set_alike scope table rs xs g.same whole)
  ends_wrong (entry ∷ rest) missed all whole number g = false≢true (ap is_reading g.is_last ∙ all_behind xs entry rest all)

module _ (places : RowsArePlaces) (setting : Setting) (select : Select) (entries : List Entry) (number at : ℕ) (m : IsMisread (scope_of setting) select.table entries at) where
  pub misread_fails : All (λ e. is_reading e ≡ true) entries → ReadsAlike setting select (query_part entries number) (suc at) → ⊥
  misread_fails all up = on (met (says.Rows up.number) (rows_apart up.number) up.readings m.readings (first_of m.rest (says.Rows number)) alike) where
    steps : suc at + 1 ≡ suc (suc (length m.readings))
    steps = omega (arith, m.at_is)

    alike : take (suc (length m.readings)) (map reading_entry up.readings ++ says.Rows up.number ∷ []) ≡ map reading_entry m.readings ++ first_of m.rest (says.Rows number) ∷ []
    alike =
        tail says.Query (take (suc (length m.readings)) (map reading_entry up.readings ++ says.Rows up.number ∷ [])) (take (suc (length m.readings)) (entries ++ says.Rows number ∷ []))
        (subst (λ n. take n (query_part (map reading_entry up.readings) up.number) ≡ take n (query_part entries number)) steps up.alike)
        ∙ (ap (λ z. take (suc (length m.readings)) (z ++ says.Rows number ∷ [])) m.are ∙ to_first m.readings m.rest (says.Rows number))
      where
        tail : (x : Entry) (ys zs : List Entry) → x ∷ ys ≡ x ∷ zs → ys ≡ zs
        tail x ys zs e = cc

    on : GoesOn up.readings m.readings (first_of m.rest (says.Rows number)) ⊎ EndsThere up.readings m.readings (says.Rows up.number) (first_of m.rest (says.Rows number)) → ⊥
    on (inl g) = goes_wrong places (scope_of setting) select.table m.readings up.readings number m.rest m.missed up.whole up.number g
    on (inr g) =
        ends_wrong places (scope_of setting) select.table m.readings up.readings number m.rest m.missed (subst (All (λ e. is_reading e ≡ true)) m.are all) up.whole up.number g

  -- the readings so far can be completed
  completion : (more : List Reading) × IsReadSet (scope_of setting) select.table (m.readings ++ more)
  completion = on m.rest m.missed where
    on : (rest : List Entry) → IsMissed (scope_of setting) select.table m.readings rest → (more : List Reading) × IsReadSet (scope_of setting) select.table (m.readings ++ more)
    on [] missed = (_, completed (scope_of setting) select.table m.readings missed.0 missed.1)
    on (entry ∷ rest) (inl ended) = ([], subst (IsReadSet (scope_of setting) select.table) (sym (append-nil m.readings)) ended)
    on (entry ∷ rest) (inr missed) = (_, completed (scope_of setting) select.table m.readings missed.0 missed.1)

  pub misread_before : (other : ℕ) → other < suc at → ReadsAlike setting select (query_part entries number) other
  misread_before other low = record {
    readings = m.readings ++ completion.0;
    whole = completion.1;
    number = number;
    alike = subst (λ n. take n (query_part (map reading_entry (m.readings ++ completion.0)) number) ≡ take n (query_part entries number))
        (let e : suc other ≡ other + 1 = omega arith in e)
        (ap (λ z. says.Query ∷ z) (one ∙ sym two));
  } where
    few : other ≤ length (map reading_entry m.readings)
    few = let e : length (map reading_entry m.readings) ≡ length m.readings = length-map m.readings reading_entry in omega (arith, e, low, m.at_is)

    one : take other (map reading_entry (m.readings ++ completion.0) ++ says.Rows number ∷ []) ≡ take other (map reading_entry m.readings)
    one =
        ap (λ z. take other (z ++ says.Rows number ∷ [])) (map-append reading_entry m.readings completion.0)
        ∙ (ap (take other) (append_assoc (map reading_entry m.readings) (map reading_entry completion.0) (says.Rows number ∷ []))
        ∙ take-append-le other (map reading_entry m.readings) (map reading_entry completion.0 ++ says.Rows number ∷ []) few)

    two : take other (entries ++ says.Rows number ∷ []) ≡ take other (map reading_entry m.readings)
    two =
        ap (λ z. take other (z ++ says.Rows number ∷ [])) m.are
        ∙ (ap (take other) (append_assoc (map reading_entry m.readings) m.rest (says.Rows number ∷ []))
        ∙ take-append-le other (map reading_entry m.readings) (m.rest ++ says.Rows number ∷ []) few)

  pub misread_within : at ≤ length entries
  misread_within = let e : length entries ≡ length m.readings + length m.rest = ap length m.are ∙ lengths m.readings m.rest in omega (arith, e, m.at_is) where
    lengths : (xs : List Reading) (es : List Entry) → length (map reading_entry xs ++ es) ≡ length xs + length es
    lengths [] es = omega arith
    lengths (x ∷ xs) es = let rest = lengths xs es in omega (arith, rest)
