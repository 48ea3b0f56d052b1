-- What a summary merges for one cell of a key's row, by its place: the rows of the cell, in their order.
use Rattle.std.proofs.Common.{◌≡◌, ℕ, ◌+◌, ◌*◌, ◌<◌, ◌≤◌, ◌==◌, ◌&&◌, Bool, true, false, cond, List, [], ◌∷◌, ◌++◌, map, Option, Some, None, refl, sym, ap, ◌∙◌, arith, eq-eqb, ne_eqb, append-nil}
use Rattle.std.specs.Prelude.{if◌then◌else◌}
use Rattle.std.specs.Option.{option_map}
use Rattle.pfs_readsets.specs.TablePlaces.{Scope, has_cell, reads, has_accounts, has_users, has_hosts, is_global}
use Rattle.pfs_readsets.specs.ReadSets.{is_whole, on_place, passing, row_test}
use Rattle.pfs_readsets.specs.declared.target.Target.TheVariants.{Row}
use Rattle.pfs_readsets.proofs.TestedNumbers.{passing_split}
use Rattle.pfs_rows.specs.Rows.{IsPlace, row_number, place_at}
use Rattle.pfs_rows.specs.declared.place.Place.{Place}
use Rattle.pfs_rows.specs.declared.place.Place.TheVariants.{Admin, ThreadInfo, AccountInfo, UserInfo, HostInfo, ThreadCell, AccountCell, UserCell, HostCell, GlobalCell, DigestNull, Digest, Ring, Long}
use Rattle.pfs_rows.specs.declared.table.Reading.{Reading}
use Rattle.pfs_rows.specs.declared.table.Seen.{Seen}
use Rattle.pfs_rows.specs.declared.table.SummaryTable.{SummaryTable}
use Rattle.pfs_rows.specs.declared.table.Table.{Table}
use Rattle.pfs_rows.specs.declared.table.Table.TheVariants.{Summary}
use Rattle.pfs_rows.specs.declared.table.TableKind.{TableKind}
use Rattle.pfs_stat.specs.Stat.{merge_all, stat_of_words}
use Rattle.pfs_stat.specs.declared.Stat.{Stat}
use Rattle.pfs_summaries.specs.Cells.{key_of, cell_of, is_number, is_key_cell, counted_in, tally_of}
use Rattle.pfs_summaries.specs.FoundContents.{whole_of, infos_of}
use Rattle.pfs_law_summaries.proofs.SkippedRows.{passing_nothing, passing_one, picked, passing_blocks, found_passing}
use Rattle.pfs_law_summaries.proofs.TableReadings.{IsShown, shows, of_rows}
use Rattle.pfs_law_summaries.proofs.InfoReadings.{ArePlaces}

-- whose cells have rows
abbrev is_cell_place : Place → Bool
is_cell_place (ThreadCell thread cell) = true
is_cell_place (AccountCell account cell) = true
is_cell_place (UserCell user cell) = true
is_cell_place (HostCell host cell) = true
is_cell_place (GlobalCell cell) = true
is_cell_place place = false

no_key : (which : SummaryTable) (infos : List (Option (List ℕ))) (p : Place) → is_cell_place p ≡ false → key_of which infos p ≡ None
no_key which infos p h = grind (arith, h)

cell_rows : (p : Place) → IsPlace p → is_cell_place p ≡ true → (129 ≤ row_number p) × (row_number p < 8385)
cell_rows (ThreadCell thread cell) is h = let a : thread < 32 = is.0 in let b : cell < 64 = is.1 in (omega arith, omega arith)
cell_rows (AccountCell account cell) is h = let a : account < 32 = is.0 in let b : cell < 64 = is.1 in (omega arith, omega arith)
cell_rows (UserCell user cell) is h = let a : user < 32 = is.0 in let b : cell < 64 = is.1 in (omega arith, omega arith)
cell_rows (HostCell host cell) is h = let a : host < 32 = is.0 in let b : cell < 64 = is.1 in (omega arith, omega arith)
cell_rows (GlobalCell cell) is h = let b : cell < 64 = is in (omega arith, omega arith)
cell_rows Admin is h = absurd (cc)
cell_rows (ThreadInfo thread) is h = absurd (cc)
cell_rows (AccountInfo account) is h = absurd (cc)
cell_rows (UserInfo user) is h = absurd (cc)
cell_rows (HostInfo host) is h = absurd (cc)
cell_rows DigestNull is h = absurd (cc)
cell_rows (Digest digest) is h = absurd (cc)
cell_rows (Ring thread place) is h = absurd (cc)
cell_rows (Long number place) is h = absurd (cc)

-- the bits of a row's test
both : (a h n e : Bool) → h ≡ true → e ≡ true → ((a && h) && (n && e)) ≡ (a && n)
both true true true true p q = refl
both true true false true p q = refl
both false true n true p q = refl
both a false n e p q = absurd (cc)
both a h n false p q = absurd (cc)

third : (t a h n e : Bool) → h ≡ true → e ≡ true → ((t && (a && h)) && (n && e)) ≡ (t && (a && n))
third true a h n e p q = both a h n e p q
third false a h n e p q = refl

off : (a n e : Bool) → e ≡ false → (a && (n && e)) ≡ false
off true true e q = q
off true false e q = refl
off false n e q = refl

module _ (places : ArePlaces) (seen : ℕ → Seen) (versions flags : ℕ → ℕ) (scope : Scope) (kind : TableKind) (which : SummaryTable) (found : List Reading)
    (is : IsShown seen versions flags scope (Summary kind which) found) (cell : ℕ) (low : cell < 64) (is_cell : has_cell scope (Summary kind which) cell ≡ true) (key : ℕ) where
  abbrev table : Table
  table = Summary kind which

  abbrev infos : List (Option (List ℕ))
  infos = infos_of found

  abbrev test : ℕ → Bool
  test row = row_test scope table found row

  -- a row that is read, and is one of the key's cells
  abbrev pub good : ℕ → Bool
  good row = test row && is_key_cell which infos key cell (place_at row)

  -- of each place's cell, whether it is one of them
  abbrev pub wanted_thread : ℕ → Bool
  wanted_thread t = is_whole found (1 + t) && is_number key (key_of which infos (ThreadCell t cell))

  abbrev pub wanted_account : ℕ → Bool
  wanted_account a = has_accounts table && (is_whole found (33 + a) && is_number key (key_of which infos (AccountCell a cell)))

  abbrev pub wanted_user : ℕ → Bool
  wanted_user u = has_users table && (is_whole found (65 + u) && is_number key (key_of which infos (UserCell u cell)))

  abbrev pub wanted_host : ℕ → Bool
  wanted_host h = has_hosts table && (is_whole found (97 + h) && is_number key (key_of which infos (HostCell h cell)))

  abbrev pub wanted_global : Bool
  wanted_global = is_global table && is_number key (key_of which infos (GlobalCell cell))

  cell_range : (row : ℕ) → row < 14242 → is_key_cell which infos key cell (place_at row) ≡ true → (129 ≤ row) × (row < 8385)
  cell_range row below h = at (places.found row below) where
    at : (p : Place) × IsPlace p × (row_number p ≡ row) → (129 ≤ row) × (row < 8385)
    at p = on (is_cell_place p.0) refl where
      there : place_at row ≡ Some p.0
      there = ap place_at (sym p.2) ∙ places.back p.0 p.1

      on : (b : Bool) → is_cell_place p.0 ≡ b → (129 ≤ row) × (row < 8385)
      on true e = let r : (129 ≤ row_number p.0) × (row_number p.0 < 8385) = cell_rows p.0 p.1 e in (let a : 129 ≤ row_number p.0 = r.0 in omega (arith, a, p.2), let b : row_number p.0 < 8385 = r.1 in omega (arith, b, p.2))
      on false e =
          absurd (let w : true ≡ false = sym h ∙ (ap (is_key_cell which infos key cell) there ∙ ap (λ (o : Option ℕ). is_number key o && (cell_of p.0 == cell)) (no_key which infos p.0 e)) in cc)

  reads_place : (p : Place) → IsPlace p → test (row_number p) ≡ reads table (has_cell scope table) scope.digests (is_whole found) p
  reads_place p l = ap (on_place (reads table (has_cell scope table) scope.digests (is_whole found))) (places.back p l)

  good_place : (p : Place) → IsPlace p → good (row_number p) ≡ (reads table (has_cell scope table) scope.digests (is_whole found) p && (is_number key (key_of which infos p) && (cell_of p == cell)))
  good_place p l =
      ap (λ b. b && is_key_cell which infos key cell (place_at (row_number p))) (reads_place p l)
      ∙ ap (λ (o : Option Place). reads table (has_cell scope table) scope.digests (is_whole found) p && is_key_cell which infos key cell o) (places.back p l)

  other_cell : (p : Place) → IsPlace p → (cell_of p ≡ cell → ⊥) → good (row_number p) ≡ false
  other_cell p l n = good_place p l ∙ off (reads table (has_cell scope table) scope.digests (is_whole found) p) (is_number key (key_of which infos p)) (cell_of p == cell) (ne_eqb (cell_of p) cell n)

  own : (cell == cell) ≡ true
  own = eq-eqb cell cell refl

  -- those rows, level after level
  abbrev pub key_rows : List ℕ
  key_rows = picked wanted_thread (λ t. 129 + 64 * t + cell) 0 32
      ++ (picked wanted_account (λ a. 2177 + 64 * a + cell) 0 32
      ++ (picked wanted_user (λ u. 4225 + 64 * u + cell) 0 32
      ++ (picked wanted_host (λ h. 6273 + 64 * h + cell) 0 32 ++ cond wanted_global ((8321 + cell) ∷ []) [])))

  good_rows : passing good 0 14242 ≡ key_rows
  good_rows =
      passing_split good 0 129 14113
      ∙ (ap (λ (l : List ℕ). l ++ passing good 129 14113) (passing_nothing good 0 129 (λ i l. before i l (is_key_cell which infos key cell (place_at (0 + i))) refl))
      ∙ (passing_split good 129 2048 12065
      ∙ (ap (λ (l : List ℕ). l ++ passing good 2177 12065) (passing_blocks good 129 cell wanted_thread low 0 32 (λ t a b i l n. other_cell (ThreadCell t i) (omega (arith, b), l) n) (λ t a b. thread t (omega (arith, b))))
      ∙ ap (λ (l : List ℕ). picked wanted_thread (λ t. 129 + 64 * t + cell) 0 32 ++ l) (passing_split good 2177 2048 10017
      ∙ (ap (λ (l : List ℕ). l ++ passing good 4225 10017) (passing_blocks good 2177 cell wanted_account low 0 32 (λ t a b i l n. other_cell (AccountCell t i) (omega (arith, b), l) n) (λ t a b. account t (omega (arith, b))))
      ∙ ap (λ (l : List ℕ). picked wanted_account (λ a. 2177 + 64 * a + cell) 0 32 ++ l) (passing_split good 4225 2048 7969
      ∙ (ap (λ (l : List ℕ). l ++ passing good 6273 7969) (passing_blocks good 4225 cell wanted_user low 0 32 (λ t a b i l n. other_cell (UserCell t i) (omega (arith, b), l) n) (λ t a b. user t (omega (arith, b))))
      ∙ ap (λ (l : List ℕ). picked wanted_user (λ u. 4225 + 64 * u + cell) 0 32 ++ l) (passing_split good 6273 2048 5921
      ∙ (ap (λ (l : List ℕ). l ++ passing good 8321 5921) (passing_blocks good 6273 cell wanted_host low 0 32 (λ t a b i l n. other_cell (HostCell t i) (omega (arith, b), l) n) (λ t a b. host t (omega (arith, b))))
      ∙ ap (λ (l : List ℕ). picked wanted_host (λ h. 6273 + 64 * h + cell) 0 32 ++ l) (passing_split good 8321 64 5857
      ∙ (ap (λ (l : List ℕ). passing good 8321 64 ++ l) (passing_nothing good 8385 5857 (λ i l. behind i l (is_key_cell which infos key cell (place_at (8385 + i))) refl))
      ∙ (append-nil (passing good 8321 64) ∙ passing_one good 8321 64 cell wanted_global low global (λ i l n. other_cell (GlobalCell i) l n)))))))))))))
    where
      and_false : (b : Bool) → (b && false) ≡ false
      and_false true = refl
      and_false false = refl

      before : (i : ℕ) → i < 129 → (b : Bool) → is_key_cell which infos key cell (place_at (0 + i)) ≡ b → good (0 + i) ≡ false
      before i l true q = let r : (129 ≤ 0 + i) × (0 + i < 8385) = cell_range (0 + i) (omega (arith, l)) q in absurd (let a : 129 ≤ 0 + i = r.0 in omega (arith, a, l))
      before i l false q = ap (λ b. test (0 + i) && b) q ∙ and_false (test (0 + i))

      behind : (i : ℕ) → i < 5857 → (b : Bool) → is_key_cell which infos key cell (place_at (8385 + i)) ≡ b → good (8385 + i) ≡ false
      behind i l true q = let r : (129 ≤ 8385 + i) × (8385 + i < 8385) = cell_range (8385 + i) (omega (arith, l)) q in absurd (let a : 8385 + i < 8385 = r.1 in omega (arith, a))
      behind i l false q = ap (λ b. test (8385 + i) && b) q ∙ and_false (test (8385 + i))

      thread : (t : ℕ) → t < 32 → good (129 + 64 * t + cell) ≡ wanted_thread t
      thread t b =
          good_place (ThreadCell t cell) (b, low)
          ∙ both (is_whole found (1 + t)) (has_cell scope table cell) (is_number key (key_of which infos (ThreadCell t cell))) (cell == cell) is_cell own

      account : (a : ℕ) → a < 32 → good (2177 + 64 * a + cell) ≡ wanted_account a
      account a b =
          good_place (AccountCell a cell) (b, low)
          ∙ third (has_accounts table) (is_whole found (33 + a)) (has_cell scope table cell) (is_number key (key_of which infos (AccountCell a cell))) (cell == cell) is_cell own

      user : (u : ℕ) → u < 32 → good (4225 + 64 * u + cell) ≡ wanted_user u
      user u b =
          good_place (UserCell u cell) (b, low)
          ∙ third (has_users table) (is_whole found (65 + u)) (has_cell scope table cell) (is_number key (key_of which infos (UserCell u cell))) (cell == cell) is_cell own

      host : (h : ℕ) → h < 32 → good (6273 + 64 * h + cell) ≡ wanted_host h
      host h b =
          good_place (HostCell h cell) (b, low)
          ∙ third (has_hosts table) (is_whole found (97 + h)) (has_cell scope table cell) (is_number key (key_of which infos (HostCell h cell))) (cell == cell) is_cell own

      global : good (8321 + cell) ≡ wanted_global
      global = good_place (GlobalCell cell) low ∙ both (is_global table) (has_cell scope table cell) (is_number key (key_of which infos (GlobalCell cell))) (cell == cell) is_cell own

  -- their contents are merged in this order
  pub tally_is : (stands : ℕ → Stat) → ((row : ℕ) → 129 ≤ row → row < 8385 → option_map stat_of_words (whole_of (seen row)) ≡ Some (stands row))
      → (tally_of which infos found key cell).stat ≡ merge_all (map stands key_rows)
  tally_is stands whole =
      ap merge_all (of_rows seen versions flags scope table found is (counted_in which infos key cell) (λ word. refl)
      ∙ (found_passing (counted_in which infos key cell) (λ row. shows seen versions flags (Row row)) test good stands 0 14242 (λ row a b read. finds row b read (is_key_cell which infos key cell (place_at row)) refl)
      (λ row a b g. and_first (test row) (is_key_cell which infos key cell (place_at row)) g)
      ∙ ap (map stands) good_rows)) where
        and_first : (a b : Bool) → (a && b) ≡ true → a ≡ true
        and_first true b h = refl
        and_first false b h = h

        finds : (row : ℕ) → row < 14242 → test row ≡ true → (b : Bool) → is_key_cell which infos key cell (place_at row) ≡ b → counted_in which infos key cell (shows seen versions flags (Row row)) ≡ cond (good row) (Some (stands row)) None
        finds row below read true q =
            let r : (129 ≤ row) × (row < 8385) = cell_range row below q in
            ap (λ b. if b then option_map stat_of_words (whole_of (seen row)) else None) q
            ∙ (whole row r.0 r.1 ∙ sym (ap (λ b. cond (b && is_key_cell which infos key cell (place_at row)) (Some (stands row)) None) read ∙ ap (λ b. cond b (Some (stands row)) None) q))
        finds row below read false q =
            ap (λ b. if b then option_map stat_of_words (whole_of (seen row)) else None) q
            ∙ sym (ap (λ b. cond (b && is_key_cell which infos key cell (place_at row)) (Some (stands row)) None) read ∙ ap (λ b. cond b (Some (stands row)) None) q)
