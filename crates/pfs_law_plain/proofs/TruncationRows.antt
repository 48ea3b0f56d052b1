-- A truncation takes no row twice, and the rows that it writes or releases ascend, those of infos or those of rings.
use Rattle.std.proofs.Common.{ℕ, zero, suc, ◌≡◌, ◌<◌, ◌≤◌, ◌+◌, ◌-◌, ◌*◌, ◌%◌, ◌==◌, Bool, true, false, cond, List, [], ◌∷◌, ◌++◌, map, Option, Some, None, inl, inr, ne_eqb, eq-eqb, refl, ap, sym, ◌∙◌, subst, arith}
use Rattle.std.specs.Prelude.{◌⊎◌, All, nat_lt}
use Rattle.std.specs.List.{slice_index_or}
use Rattle.std.specs.Option.{option_map}
use Rattle.std.proofs.lemmas.Bool.{false≢true, eqb-true, ltb-true, ltb-false}
use Rattle.std.proofs.lemmas.List.{map-append}
use Rattle.std.proofs.lemmas.List.Elements.{All-head, All-tail}
use Rattle.pfs_admin.proofs.ActionRows.{frees_ascend}
use Rattle.pfs_admin.specs.FoldLaws.{row_of}
use Rattle.pfs_admin.specs.AdministrationStates.{State, KindCells, kind_cells, AreKindCells}
use Rattle.pfs_admin.specs.WordChanges.{up_to}
use Rattle.pfs_admin.specs.Truncations.{thread_source, account_source, user_source, host_source, place_asks, asks_at, level_asks, emptied, cleared, reach_asks, reach_of, summary_asks, all_asks, truncation_asks, first_row, content_at, place_sign, sign_at, level_signs, truncation_signs, is_there, kept_behind, work_of_truncation, digest_ask, digest_asks, freed_at, free_rows, free_slot, free_threads, current_first, current_count, event_signs}
use Rattle.pfs_admin.specs.Works.{Sign, Releases, Tags}
use Rattle.pfs_law_session.specs.Takes.{AreOnce}
use Rattle.pfs_containers.specs.Administration.{Containers}
use Rattle.pfs_containers.specs.Connections as places
use Rattle.pfs_containers.specs.declared.containers.Account.{Account}
use Rattle.pfs_containers.specs.declared.containers.Connection.{Connection}
use Rattle.pfs_levels.specs.Flushes.{Ascends, ask_of, asks_of, from_of}
use Rattle.pfs_levels.specs.Moves.{Ask}
use Rattle.pfs_levels.specs.declared.flushes.Source.{Source}
use Rattle.pfs_levels.specs.declared.places.Level.{Level}
use Rattle.pfs_levels.specs.declared.places.Level.TheVariants as levels
use Rattle.pfs_model.specs.Chains.{Each, times}
use Rattle.pfs_rows.specs.declared.table.EventTable.{EventTable}
use Rattle.pfs_rows.specs.declared.table.EventTable.TheVariants as events
use Rattle.pfs_rows.specs.declared.table.TableKind.{TableKind}
use Rattle.pfs_rows.specs.declared.table.TableKind.TheVariants.{Waits, Stages, Statements, Transactions}
use Rattle.pfs_rows.specs.declared.table.SummaryTable.{SummaryTable}
use Rattle.pfs_rows.specs.declared.table.SummaryTable.TheVariants as tables
use Rattle.pfs_rows.specs.Tables.{kind_number}
use Rattle.pfs_rows.specs.declared.truncations.Truncation.{Truncation}
use Rattle.pfs_rows.specs.declared.truncations.Truncation.TheVariants.{Events, Summary, DigestSummary, Accounts, Users, Hosts, SetupActors, SetupObjects}

abbrev count : ℕ → List ℕ → ℕ
count row xs = times (λ n. n == row) xs

count_then : (row : ℕ) (xs ys : List ℕ) → count row (xs ++ ys) ≡ count row xs + count row ys
count_then row [] ys = let e : count row ys ≡ 0 + count row ys = omega arith in e
count_then row (x ∷ xs) ys = let e : count row (xs ++ ys) ≡ count row xs + count row ys = count_then row xs ys in omega (arith, e)

-- The rows of cells lie in stretches of 64, from 129 on. Rows of the stretches from one number to another: no row
-- stands there more often than a limit, and none outside
abbrev stretch : ℕ → ℕ
stretch k = 129 + 64 * k

record LieIn (row limit low high : ℕ) (rows : List ℕ) : Type 0 where
  few : count row rows ≤ limit
  below : row < stretch low → count row rows ≡ 0
  above : stretch high ≤ row → count row rows ≡ 0

nothing : (row limit low high : ℕ) → LieIn row limit low high []
nothing row limit low high = record { few = omega arith; below = λ l. refl; above = λ h. refl }

joined : (row limit low mid high : ℕ) (xs ys : List ℕ) → low ≤ mid → mid ≤ high → LieIn row limit low mid xs → LieIn row limit mid high ys → LieIn row limit low high (xs ++ ys)
joined row limit low mid high xs ys up on a b = record {
  few = at (nat_lt row (stretch mid)) refl;
  below = λ l. (let x : count row xs ≡ 0 = a.below l in let y : count row ys ≡ 0 = b.below (omega (arith, l, up)) in omega (arith, x, y, count_then row xs ys));
  above = λ h. (let x : count row xs ≡ 0 = a.above (omega (arith, h, on)) in let y : count row ys ≡ 0 = b.above h in omega (arith, x, y, count_then row xs ys));
} where
  at : (c : Bool) → nat_lt row (stretch mid) ≡ c → count row (xs ++ ys) ≤ limit
  at true e = let y : count row ys ≡ 0 = b.below (ltb-true row (stretch mid) e) in omega (arith, y, a.few, count_then row xs ys)
  at false e = let x : count row xs ≡ 0 = a.above (ltb-false row (stretch mid) e) in omega (arith, x, b.few, count_then row xs ys)

-- the cells of one stretch
abbrev in_stretch : ℕ → ℕ → ℕ
in_stretch k cell = 129 + 64 * k + cell

same_test : (base row cell : ℕ) → base ≤ row → ((base + cell) == row) ≡ (cell == (row - base))
same_test base row cell low = at (cell == (row - base)) refl where
  at : (b : Bool) → (cell == (row - base)) ≡ b → ((base + cell) == row) ≡ b
  at true e = eq-eqb (base + cell) row (omega (arith, low, eqb-true cell (row - base) e))
  at false e = ne_eqb (base + cell) row (λ q. absurd (false≢true (sym e ∙ eq-eqb cell (row - base) (omega (arith, q, low)))))

shifted : (base row : ℕ) (cells : List ℕ) → base ≤ row → count row (map (λ cell. base + cell) cells) ≡ count (row - base) cells
shifted base row [] low = refl
shifted base row (c ∷ cs) low = ap (λ b. cond b 1 0 + count row (map (λ cell. base + cell) cs)) (same_test base row c low) ∙ ap (λ n. cond (c == (row - base)) 1 0 + n) (shifted base row cs low)

outside : (base row : ℕ) (cells : List ℕ) → All (λ cell. cell < 64) cells → ((row < base) → (count row (map (λ cell. base + cell) cells) ≡ 0)) × ((base + 64 ≤ row) → (count row (map (λ cell. base + cell) cells) ≡ 0))
outside base row [] small = (λ l. refl, λ h. refl)
outside base row (c ∷ cs) small =
    let rest = outside base row cs (All-tail (λ cell. cell < 64) c cs small) in
    let low : c < 64 = All-head (λ cell. cell < 64) c cs small in (
      λ l. one ((base + c) == row) (ne_eqb (base + c) row (λ q. absurd (omega (arith, q, l)))) (rest.0 l),
      λ h. one ((base + c) == row) (ne_eqb (base + c) row (λ q. absurd (omega (arith, q, h, low)))) (rest.1 h),
    ) where
      one : (b : Bool) → b ≡ false → count row (map (λ cell. base + cell) cs) ≡ 0 → cond b 1 0 + count row (map (λ cell. base + cell) cs) ≡ 0
      one true e r = absurd (false≢true (sym e))
      one false e r = omega (arith, r)

-- which cell a row is of
abbrev cell_of : ℕ → ℕ
cell_of row = (row - 129) % 64

one_stretch : (row k : ℕ) (cells : List ℕ) → All (λ cell. cell < 64) cells → LieIn row (count (cell_of row) cells) k (k + 1) (map (in_stretch k) cells)
one_stretch row k cells small = record {
  few = at (nat_lt row (stretch k)) refl (nat_lt row (stretch (k + 1))) refl;
  below = λ l. (outside (stretch k) row cells small).0 l;
  above = λ h. (outside (stretch k) row cells small).1 (omega (arith, h));
} where
  at : (b : Bool) → nat_lt row (stretch k) ≡ b → (c : Bool) → nat_lt row (stretch (k + 1)) ≡ c → count row (map (in_stretch k) cells) ≤ count (cell_of row) cells
  at true e c f = let x : count row (map (in_stretch k) cells) ≡ 0 = (outside (stretch k) row cells small).0 (ltb-true row (stretch k) e) in omega (arith, x)
  at false e false f = let x : count row (map (in_stretch k) cells) ≡ 0 = (outside (stretch k) row cells small).1 (omega (arith, ltb-false row (stretch (k + 1)) f)) in omega (arith, x)
  at false e true f =
      let low : stretch k ≤ row = ltb-false row (stretch k) e in
      let high : row < stretch (k + 1) = ltb-true row (stretch (k + 1)) f in
      let same : row - stretch k ≡ cell_of row = omega (arith, low, high) in
      let here : count row (map (in_stretch k) cells) ≡ count (row - stretch k) cells = shifted (stretch k) row cells low in
      let there : count (row - stretch k) cells ≡ count (cell_of row) cells = ap (λ n. count n cells) same in
      omega (arith, here, there)

-- the takes of a source, which is a place of a level
froms : (cells : List ℕ) (source : Source) (k : ℕ) → ((cell : ℕ) → from_of (ask_of source cell) ≡ in_stretch k cell) → map from_of (asks_of cells source) ≡ map (in_stretch k) cells
froms [] source k is = refl
froms (c ∷ cs) source k is = ap (λ z. z ∷ map from_of (asks_of cs source)) (is c) ∙ ap (λ z. in_stretch k c ∷ z) (froms cs source k is)

abbrev first : Level → ℕ
first levels.Thread = 0
first levels.Account = 32
first levels.User = 64
first levels.Host = 96

thread_rows : (row place : ℕ) (cells : List ℕ) (there : Option Connection) → All (λ cell. cell < 64) cells
    → LieIn row (count (cell_of row) cells) (0 + place) (0 + place + 1) (map from_of (place_asks cells (option_map (thread_source place) there)))
thread_rows row place cells None small = nothing row (count (cell_of row) cells) (0 + place) (0 + place + 1)
thread_rows row place cells (Some x) small =
    subst (LieIn row (count (cell_of row) cells) (0 + place) (0 + place + 1)) (sym (froms cells (thread_source place x) (0 + place) (λ cell. omega arith)))
    (one_stretch row (0 + place) cells small)

account_rows : (row place : ℕ) (cells : List ℕ) (there : Option Account) → All (λ cell. cell < 64) cells
    → LieIn row (count (cell_of row) cells) (32 + place) (32 + place + 1) (map from_of (place_asks cells (option_map (account_source place) there)))
account_rows row place cells None small = nothing row (count (cell_of row) cells) (32 + place) (32 + place + 1)
account_rows row place cells (Some x) small =
    subst (LieIn row (count (cell_of row) cells) (32 + place) (32 + place + 1)) (sym (froms cells (account_source place x) (32 + place) (λ cell. omega arith)))
    (one_stretch row (32 + place) cells small)

user_rows : (row place : ℕ) (cells : List ℕ) (there : Option ℕ) → All (λ cell. cell < 64) cells
    → LieIn row (count (cell_of row) cells) (64 + place) (64 + place + 1) (map from_of (place_asks cells (option_map (user_source place) there)))
user_rows row place cells None small = nothing row (count (cell_of row) cells) (64 + place) (64 + place + 1)
user_rows row place cells (Some x) small =
    subst (LieIn row (count (cell_of row) cells) (64 + place) (64 + place + 1)) (sym (froms cells (user_source place x) (64 + place) (λ cell. omega arith)))
    (one_stretch row (64 + place) cells small)

host_rows : (row place : ℕ) (cells : List ℕ) (there : Option ℕ) → All (λ cell. cell < 64) cells
    → LieIn row (count (cell_of row) cells) (96 + place) (96 + place + 1) (map from_of (place_asks cells (option_map (host_source place) there)))
host_rows row place cells None small = nothing row (count (cell_of row) cells) (96 + place) (96 + place + 1)
host_rows row place cells (Some x) small =
    subst (LieIn row (count (cell_of row) cells) (96 + place) (96 + place + 1)) (sym (froms cells (host_source place x) (96 + place) (λ cell. omega arith)))
    (one_stretch row (96 + place) cells small)

place_rows : (row : ℕ) (s : places.State) (cells : List ℕ) (level : Level) (place : ℕ) → All (λ cell. cell < 64) cells
    → LieIn row (count (cell_of row) cells) (first level + place) (first level + place + 1) (map from_of (asks_at s cells level place))
place_rows row s cells levels.Thread place small = thread_rows row place cells (slice_index_or s.threads place None) small
place_rows row s cells levels.Account place small = account_rows row place cells (slice_index_or s.accounts place None) small
place_rows row s cells levels.User place small = user_rows row place cells (slice_index_or s.users place None) small
place_rows row s cells levels.Host place small = host_rows row place cells (slice_index_or s.hosts place None) small

-- the takes of the first places of a level, and of a whole one
few_places : (row : ℕ) (s : places.State) (cells : List ℕ) (level : Level) (n : ℕ) → All (λ cell. cell < 64) cells
    → LieIn row (count (cell_of row) cells) (first level) (first level + n) (map from_of (up_to (asks_at s cells level) n))
few_places row s cells level zero small = nothing row (count (cell_of row) cells) (first level) (first level + zero)
few_places row s cells level (suc n) small =
    let more : first level + n + 1 ≡ first level + suc n = omega arith in
    subst (λ z. LieIn row (count (cell_of row) cells) (first level) z (map from_of (up_to (asks_at s cells level) (suc n)))) more
    (subst (LieIn row (count (cell_of row) cells) (first level) (first level + n + 1)) (sym (map-append from_of (up_to (asks_at s cells level) n) (asks_at s cells level n)))
    (joined row (count (cell_of row) cells) (first level) (first level + n) (first level + n + 1) _ _ (omega arith) (omega arith)
    (few_places row s cells level n small) (place_rows row s cells level n small)))

level_rows : (row : ℕ) (s : places.State) (cells : List ℕ) (level : Level) → All (λ cell. cell < 64) cells
    → LieIn row (count (cell_of row) cells) (first level) (first level + 32) (map from_of (level_asks s cells level))
unfolding level_asks
level_rows row s cells level small = few_places row s cells level 32 small

emptied_rows : (row : ℕ) (b : Bool) (s : places.State) (cells : List ℕ) (level : Level) → All (λ cell. cell < 64) cells
    → LieIn row (count (cell_of row) cells) (first level) (first level + 32) (map from_of (emptied b s cells level))
emptied_rows row false s cells level small = nothing row (count (cell_of row) cells) (first level) (first level + 32)
emptied_rows row true s cells level small = level_rows row s cells level small

global_froms : (cells : List ℕ) → map from_of (cleared true cells) ≡ map (in_stretch 128) cells
global_froms [] = refl
global_froms (c ∷ cs) = let here : (8321 + c) ≡ in_stretch 128 c = omega arith in ap (λ z. z ∷ map from_of (cleared true cs)) here ∙ ap (λ z. in_stretch 128 c ∷ z) (global_froms cs)

cleared_rows : (row : ℕ) (b : Bool) (cells : List ℕ) → All (λ cell. cell < 64) cells → LieIn row (count (cell_of row) cells) 128 129 (map from_of (cleared b cells))
cleared_rows row false cells small = nothing row (count (cell_of row) cells) 128 129
cleared_rows row true cells small = subst (LieIn row (count (cell_of row) cells) 128 129) (sym (global_froms cells)) (one_stretch row 128 cells small)

-- all levels that a summary reaches
reach_rows : (row : ℕ) (s : places.State) (table : SummaryTable) (cells : List ℕ) → All (λ cell. cell < 64) cells
    → LieIn row (count (cell_of row) cells) 0 129 (map from_of (reach_asks s (reach_of table) cells))
reach_rows row s table cells small =
    let c : ℕ = count (cell_of row) cells in
    let threads : List Ask = level_asks s cells levels.Thread in
    let accounts : List Ask = emptied (reach_of table).accounts s cells levels.Account in
    let users : List Ask = emptied (reach_of table).users s cells levels.User in
    let hosts : List Ask = emptied (reach_of table).hosts s cells levels.Host in
    let global : List Ask = cleared (reach_of table).global cells in
    let lower : LieIn row c 0 64 (map from_of (threads ++ accounts)) =
    subst (LieIn row c 0 64) (sym (map-append from_of threads accounts))
    (joined row c 0 32 64 _ _ (omega arith) (omega arith) (level_rows row s cells levels.Thread small) (emptied_rows row (reach_of table).accounts s cells levels.Account small)) in
    let top : LieIn row c 96 129 (map from_of (hosts ++ global)) =
    subst (LieIn row c 96 129) (sym (map-append from_of hosts global))
    (joined row c 96 128 129 _ _ (omega arith) (omega arith) (emptied_rows row (reach_of table).hosts s cells levels.Host small) (cleared_rows row (reach_of table).global cells small)) in
    let upper : LieIn row c 64 129 (map from_of (users ++ (hosts ++ global))) =
    subst (LieIn row c 64 129) (sym (map-append from_of users (hosts ++ global)))
    (joined row c 64 96 129 _ _ (omega arith) (omega arith) (emptied_rows row (reach_of table).users s cells levels.User small) top) in
    subst (LieIn row c 0 129) (sym (map-append from_of (threads ++ accounts) (users ++ (hosts ++ global))))
    (joined row c 0 64 129 _ _ (omega arith) (omega arith) lower upper)

-- no cell is of two kinds, and each kind has it once
abbrev pub AreKindsOnce : KindCells → Type 0
AreKindsOnce k = (cell : ℕ) → count cell k.waits + (count cell k.stages + (count cell k.statements + count cell k.transactions)) ≤ 1

pub record AreFit (k : KindCells) : Type 0 where
  pub small : AreKindCells k
  pub once : AreKindsOnce k

summary_few : (row : ℕ) (s : places.State) (table : SummaryTable) (cells : List ℕ) → All (λ cell. cell < 64) cells
    → count row (map from_of (summary_asks s table cells)) ≤ count (cell_of row) cells
summary_few row s table cells small = (reach_rows row s table cells small).few

of_kind : (k : KindCells) (kind : TableKind) → AreFit k → (cell : ℕ) → count cell (kind_cells k kind) ≤ 1
of_kind k Waits fit cell = omega (arith, fit.once cell)
of_kind k Stages fit cell = omega (arith, fit.once cell)
of_kind k Statements fit cell = omega (arith, fit.once cell)
of_kind k Transactions fit cell = omega (arith, fit.once cell)

all_once : (s : places.State) (table : SummaryTable) (k : KindCells) → AreFit k → AreOnce (map from_of (all_asks k s table))
all_once s table k fit row =
    let waits : List Ask = summary_asks s table k.waits in
    let stages : List Ask = summary_asks s table k.stages in
    let statements : List Ask = summary_asks s table k.statements in
    let transactions : List Ask = summary_asks s table k.transactions in
    let rows : map from_of (waits ++ (stages ++ (statements ++ transactions))) ≡ map from_of waits ++ (map from_of stages ++ (map from_of statements ++ map from_of transactions)) =
    map-append from_of waits (stages ++ (statements ++ transactions))
    ∙ ap (λ z. map from_of waits ++ z) (map-append from_of stages (statements ++ transactions)
    ∙ ap (λ z. map from_of stages ++ z) (map-append from_of statements transactions)) in
    let a : count row (map from_of waits) ≤ count (cell_of row) k.waits = summary_few row s table k.waits (fit.small.small Waits) in
    let b : count row (map from_of stages) ≤ count (cell_of row) k.stages = summary_few row s table k.stages (fit.small.small Stages) in
    let c : count row (map from_of statements) ≤ count (cell_of row) k.statements = summary_few row s table k.statements (fit.small.small Statements) in
    let d : count row (map from_of transactions) ≤ count (cell_of row) k.transactions = summary_few row s table k.transactions (fit.small.small Transactions) in
    let e = count_then row (map from_of waits) (map from_of stages ++ (map from_of statements ++ map from_of transactions)) in
    let f = count_then row (map from_of stages) (map from_of statements ++ map from_of transactions) in
    let g = count_then row (map from_of statements) (map from_of transactions) in
    let whole : count row (map from_of waits ++ (map from_of stages ++ (map from_of statements ++ map from_of transactions))) ≤ 1 = omega (arith, a, b, c, d, e, f, g, fit.once (cell_of row)) in
    subst (λ z. count row z ≤ 1) (sym rows) whole

-- rows of digests, each once
abbrev one_if : Bool → ℕ
one_if b = cond b 1 0

digests_next : (row n : ℕ) → count row (map from_of (up_to digest_ask (suc n))) ≡ count row (map from_of (up_to digest_ask n)) + one_if ((8385 + n) == row)
digests_next row n =
    let one : count row ((8385 + n) ∷ []) ≡ one_if ((8385 + n) == row) = omega arith in
    ap (count row) (map-append from_of (up_to digest_ask n) (digest_ask n))
    ∙ (count_then row (map from_of (up_to digest_ask n)) ((8385 + n) ∷ []) ∙ ap (λ z. count row (map from_of (up_to digest_ask n)) + z) one)

digests_past : (row n : ℕ) → 8385 + n ≤ row → count row (map from_of (up_to digest_ask n)) ≡ 0
digests_past row zero l = refl
digests_past row (suc n) l =
    let off : one_if ((8385 + n) == row) ≡ 0 = ap one_if (ne_eqb (8385 + n) row (λ q. absurd (omega (arith, q, l)))) in
    omega (arith, digests_next row n, off, digests_past row n (omega (arith, l)))

digests_at : (row n : ℕ) (b : Bool) → ((8385 + n) == row) ≡ b → count row (map from_of (up_to digest_ask n)) ≤ 1
    → count row (map from_of (up_to digest_ask (suc n))) ≤ 1
digests_at row n true e few =
    let on : one_if ((8385 + n) == row) ≡ 1 = ap one_if e in
    omega (arith, digests_next row n, on, digests_past row n (omega (arith, eqb-true (8385 + n) row e)))
digests_at row n false e few =
    let off : one_if ((8385 + n) == row) ≡ 0 = ap one_if e in
    omega (arith, digests_next row n, off, few)

digests_once : (row n : ℕ) → count row (map from_of (up_to digest_ask n)) ≤ 1
digests_once row zero = omega arith
digests_once row (suc n) = digests_at row n ((8385 + n) == row) refl (digests_once row n)

digest_takes : (row places : ℕ) → count row (map from_of (digest_asks places)) ≤ 1
unfolding digest_asks
digest_takes row places = digests_once row (places + 1)

pub takes_once : (k : KindCells) (s : places.State) (what : Truncation) → AreFit k → AreOnce (map from_of (truncation_asks k s what))
takes_once k s (Summary kind table) fit row =
    let a : count row (map from_of (summary_asks s table (kind_cells k kind))) ≤ count (cell_of row) (kind_cells k kind) = summary_few row s table (kind_cells k kind) (fit.small.small kind) in
    omega (arith, a, of_kind k kind fit (cell_of row))
takes_once k s (Events kind table) fit row = omega arith
takes_once k s Accounts fit row = all_once s tables.ByAccount k fit row
takes_once k s Users fit row = all_once s tables.ByUser k fit row
takes_once k s Hosts fit row = all_once s tables.ByHost k fit row
takes_once k s DigestSummary fit row = digest_takes row k.digests
takes_once k s SetupActors fit row = omega arith
takes_once k s SetupObjects fit row = omega arith

-- info rows
ascends_then : (low mid high : ℕ) (xs ys : List ℕ) → mid ≤ high → Ascends low mid xs → Ascends mid high ys → low ≤ mid → Ascends low high (xs ++ ys)
ascends_then low mid high [] ys on a b up = from low mid high ys up b where
  from : (low mid high : ℕ) (ys : List ℕ) → low ≤ mid → Ascends mid high ys → Ascends low high ys
  from low mid high [] up b = tt
  from low mid high (y ∷ ys) up b = (omega (arith, up, b.0), b.1)
ascends_then low mid high (x ∷ xs) ys on a b up = (a.0, (omega (arith, a.1.0, on), ascends_then (x + 1) mid high xs ys on a.1.1 b (omega (arith, a.1.0))))

wider : (low less high more : ℕ) (xs : List ℕ) → less ≤ low → high ≤ more → Ascends low high xs → Ascends less more xs
wider low less high more [] l h a = tt
wider low less high more (x ∷ xs) l h a = (omega (arith, l, a.0), (omega (arith, h, a.1.0), wider (x + 1) (x + 1) high more xs (omega arith) h a.1.1))

one_sign : (written was : Bool) (row : ℕ) (content : Option (List ℕ)) → Ascends row (row + 1) (map row_of (place_sign written was row content))
one_sign written false row content = tt
one_sign written true row None = (omega arith, (omega arith, tt))
one_sign false true row (Some content) = tt
one_sign true true row (Some content) = (omega arith, (omega arith, tt))

few_signs : (written : Bool) (was : ℕ → Bool) (after : Containers) (level : Level) (n : ℕ)
    → Ascends (first_row level) (first_row level + n) (map row_of (up_to (sign_at written was after level) n))
few_signs written was after level zero = tt
few_signs written was after level (suc n) =
    let low : ℕ = first_row level in
    subst (λ z. Ascends low z (map row_of (up_to (sign_at written was after level) (suc n)))) (omega arith)
    (subst (Ascends low (low + n + 1)) (sym (map-append row_of (up_to (sign_at written was after level) n) (sign_at written was after level n)))
    (ascends_then low (low + n) (low + n + 1) _ _ (omega arith) (few_signs written was after level n) (one_sign written (was n) (low + n) (content_at after level n)) (omega arith)))

signs_of_level : (written : Bool) (was : ℕ → Bool) (after : Containers) (level : Level) → Ascends (first_row level) (first_row level + 32) (map row_of (level_signs written was after level))
unfolding level_signs
signs_of_level written was after level = few_signs written was after level 32

-- the places of rings: so many of each live thread, one thread behind the other, or a whole long history
slot_ascends : (there : ℕ → Bool) (first count slot : ℕ) → first + count ≤ 56 → Ascends (8450 + 56 * slot) (8450 + 56 * slot + 56) (map row_of (free_slot there first count slot))
slot_ascends there first count slot h = by_there (there slot) where
  by_there : (b : Bool) → Ascends (8450 + 56 * slot) (8450 + 56 * slot + 56) (map row_of (cond b (free_rows (8450 + 56 * slot + first) count) []))
  by_there false = tt
  by_there true = wider (8450 + 56 * slot + first) (8450 + 56 * slot) (8450 + 56 * slot + first + count) (8450 + 56 * slot + 56) _ (omega arith) (omega (arith, h)) (frees_ascend (8450 + 56 * slot + first) count)

slots_ascend : (there : ℕ → Bool) (first count n : ℕ) → first + count ≤ 56 → Ascends 8450 (8450 + 56 * n) (map row_of (up_to (free_slot there first count) n))
slots_ascend there first count zero h = tt
slots_ascend there first count (suc n) h =
    let more : 8450 + 56 * n + 56 ≡ 8450 + 56 * suc n = omega arith in
    subst (λ z. Ascends 8450 z (map row_of (up_to (free_slot there first count) (suc n)))) more
    (subst (Ascends 8450 (8450 + 56 * n + 56)) (sym (map-append row_of (up_to (free_slot there first count) n) (free_slot there first count n)))
    (ascends_then 8450 (8450 + 56 * n) (8450 + 56 * n + 56) _ _ (omega arith) (slots_ascend there first count n h) (slot_ascends there first count n h) (omega arith)))

threads_ascend : (there : ℕ → Bool) (first count : ℕ) → first + count ≤ 56 → Ascends 8450 14242 (map row_of (free_threads there first count))
unfolding free_threads
threads_ascend there first count h = wider 8450 8450 10242 14242 _ (omega arith) (omega arith) (slots_ascend there first count 32 h)

long_ascends : (first : ℕ) → 8450 ≤ first → first + 1000 ≤ 14242 → Ascends 8450 14242 (map row_of (free_rows first 1000))
long_ascends first l h = wider first 8450 (first + 1000) 14242 _ l h (frees_ascend first 1000)

pub events_ascend : (there : ℕ → Bool) (kind : TableKind) (table : EventTable) → Ascends 8450 14242 (map row_of (event_signs there kind table))
events_ascend there Waits events.Current = threads_ascend there 0 4 (omega arith)
events_ascend there Stages events.Current = threads_ascend there 4 1 (omega arith)
events_ascend there Statements events.Current = threads_ascend there 5 10 (omega arith)
events_ascend there Transactions events.Current = threads_ascend there 15 1 (omega arith)
events_ascend there Waits events.History = threads_ascend there 16 10 (omega arith)
events_ascend there Stages events.History = threads_ascend there 26 10 (omega arith)
events_ascend there Statements events.History = threads_ascend there 36 10 (omega arith)
events_ascend there Transactions events.History = threads_ascend there 46 10 (omega arith)
events_ascend there Waits events.HistoryLong = long_ascends 10242 (omega arith) (omega arith)
events_ascend there Stages events.HistoryLong = long_ascends 11242 (omega arith) (omega arith)
events_ascend there Statements events.HistoryLong = long_ascends 12242 (omega arith) (omega arith)
events_ascend there Transactions events.HistoryLong = long_ascends 13242 (omega arith) (omega arith)

-- a sign that releases
abbrev pub IsRelease : Sign → Type 0
IsRelease (Releases row) = Unit {0}
IsRelease (Tags row content) = ⊥

up_releases : (f : ℕ → List Sign) (n : ℕ) → ((k : ℕ) → Each IsRelease (f k)) → Each IsRelease (up_to f n)
up_releases f zero each = tt
up_releases f (suc n) each = both (up_to f n) (f n) (up_releases f n each) (each n) where
  both : (xs ys : List Sign) → Each IsRelease xs → Each IsRelease ys → Each IsRelease (xs ++ ys)
  both [] ys a b = b
  both (x ∷ xs) ys a b = (a.0, both xs ys a.1 b)

pub rows_release : (first count : ℕ) → Each IsRelease (free_rows first count)
unfolding free_rows
rows_release first count = up_releases (freed_at first) count (λ k. (tt, tt))

threads_release : (there : ℕ → Bool) (first count : ℕ) → Each IsRelease (free_threads there first count)
unfolding free_threads
threads_release there first count = up_releases (free_slot there first count) 32 (λ slot. by_there slot (there slot)) where
  by_there : (slot : ℕ) (b : Bool) → Each IsRelease (cond b (free_rows (8450 + 56 * slot + first) count) [])
  by_there slot true = rows_release (8450 + 56 * slot + first) count
  by_there slot false = tt

events_release : (there : ℕ → Bool) (kind : TableKind) (table : EventTable) → Each IsRelease (event_signs there kind table)
events_release there kind events.Current = threads_release there (current_first kind) (current_count kind)
events_release there kind events.History = threads_release there (16 + 10 * kind_number kind) 10
events_release there kind events.HistoryLong = rows_release (10242 + 1000 * kind_number kind) 1000

-- of any other table info rows ascend
abbrev pub InfosAscend : Truncation → List Sign → Type 0
InfosAscend (Events kind table) signs = Unit {0}
InfosAscend _ signs = Ascends 1 129 (map row_of signs)

pub infos_ascend : (was : Level → ℕ → Bool) (after : Containers) (what : Truncation) → InfosAscend what (truncation_signs was after what)
infos_ascend was after (Events kind table) = tt
infos_ascend was after (Summary kind table) = tt
infos_ascend was after Accounts = wider 33 1 65 129 _ (omega arith) (omega arith) (signs_of_level true (was levels.Account) after levels.Account)
infos_ascend was after Users =
    let accounts : List Sign = level_signs false (was levels.Account) after levels.Account in
    let users : List Sign = level_signs true (was levels.User) after levels.User in
    subst (Ascends 1 129) (sym (map-append row_of accounts users))
    (ascends_then 1 65 129 _ _ (omega arith) (wider 33 1 65 65 _ (omega arith) (omega arith) (signs_of_level false (was levels.Account) after levels.Account))
    (wider 65 65 97 129 _ (omega arith) (omega arith) (signs_of_level true (was levels.User) after levels.User)) (omega arith))
infos_ascend was after Hosts =
    let accounts : List Sign = level_signs false (was levels.Account) after levels.Account in
    let hosts : List Sign = level_signs true (was levels.Host) after levels.Host in
    subst (Ascends 1 129) (sym (map-append row_of accounts hosts))
    (ascends_then 1 65 129 _ _ (omega arith) (wider 33 1 65 65 _ (omega arith) (omega arith) (signs_of_level false (was levels.Account) after levels.Account))
    (wider 97 65 129 129 _ (omega arith) (omega arith) (signs_of_level true (was levels.Host) after levels.Host)) (omega arith))
infos_ascend was after DigestSummary = tt
infos_ascend was after SetupActors = tt
infos_ascend was after SetupObjects = tt

-- info rows ascend, or places of rings that are all released
abbrev pub AreInfosOrRings : List Sign → Type 0
AreInfosOrRings signs = Ascends 1 129 (map row_of signs) ⊎ (Ascends 8450 14242 (map row_of signs) × Each IsRelease signs)

pub signs_split : (was : Level → ℕ → Bool) (after : Containers) (what : Truncation) → AreInfosOrRings (truncation_signs was after what)
signs_split was after (Events kind table) =
    inr (events_ascend (is_there after.places levels.Thread) kind table, events_release (is_there after.places levels.Thread) kind table)
signs_split was after (Summary kind table) = inl (infos_ascend was after (Summary kind table))
signs_split was after Accounts = inl (infos_ascend was after Accounts)
signs_split was after Users = inl (infos_ascend was after Users)
signs_split was after Hosts = inl (infos_ascend was after Hosts)
signs_split was after DigestSummary = inl (infos_ascend was after DigestSummary)
signs_split was after SetupActors = inl (infos_ascend was after SetupActors)
signs_split was after SetupObjects = inl (infos_ascend was after SetupObjects)

signs_ascend : (was : Level → ℕ → Bool) (after : Containers) (what : Truncation) → Ascends 1 14242 (map row_of (truncation_signs was after what))
signs_ascend was after what = by_split (signs_split was after what) where
  by_split : AreInfosOrRings (truncation_signs was after what) → Ascends 1 14242 (map row_of (truncation_signs was after what))
  by_split (inl a) = wider 1 1 129 14242 _ (omega arith) (omega arith) a
  by_split (inr a) = wider 8450 1 14242 14242 _ (omega arith) (omega arith) a.0

-- of an administration whose cells are so
pub rows_of_truncation : (s : State) (what : Truncation) → AreFit s.kinds
    → AreOnce (map from_of (work_of_truncation s what).moves) × Ascends 1 14242 (map row_of (work_of_truncation s what).signs)
rows_of_truncation s what fit = (takes_once s.kinds s.kept.now.places what fit, signs_ascend (is_there s.kept.now.places) (kept_behind s.kept what).now what)
