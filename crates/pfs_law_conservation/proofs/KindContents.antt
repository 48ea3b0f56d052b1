-- What the lines of a kind make of a row is what stands there, and takes find what stood before them.
use Rattle.std.proofs.Common.{◌≡◌, refl, ℕ, zero, suc, ◌+◌, ◌-◌, ◌<◌, ◌≤◌, ◌==◌, ◌&&◌, Bool, true, false, not, cond, nat_lt, List, [], ◌∷◌, ◌++◌, length, sym, ap, subst, ◌∙◌, ◌⊎◌, inl, inr, arith}
use Rattle.std.proofs.lemmas.Bool.{and_parts, eqb-true}
use Rattle.pfs_conservation.specs.AdministrationFold.{numbered}
use Rattle.pfs_conservation.specs.RowChains.{Change, Taken, Sums, changed, content, found_in, found_by}
use Rattle.pfs_conservation.specs.PrintedChanges.{Kind, Adds, Takes, Gives, Tagged, as_change, change_of, is_at, standing, changes_of, chain_of, Stands, Within}
use Rattle.pfs_conservation.specs.RowMoves.{Move}
use Rattle.pfs_conservation.specs.Prints.{printed_by, prints_all}
use Rattle.pfs_conservation.specs.CellHolders.{holder_of, takes_by, opened_by}
use Rattle.pfs_event.specs.declared.entry.Entry.{Entry}
use Rattle.pfs_event.specs.declared.entry.Entry.TheVariants as says
use Rattle.pfs_model.specs.ActionAsks.{asked_of}
use Rattle.pfs_model.specs.Chains.{Each, times}
use Rattle.pfs_model.specs.EntryPlaces.{Placed, places}
use Rattle.pfs_rows.specs.Tables.{kind_number}
use Rattle.pfs_rows.specs.declared.table.TableKind.{TableKind}
use Rattle.pfs_runs.specs.Labels.{asked_at}
use Rattle.pfs_stat.specs.Stat.{WordsAgree, zero_of, stat_of_words}
use Rattle.pfs_stat.specs.declared.Stat.{Stat}
use Rattle.pfs_law_conservation.specs.RunActions.{moves_at}
use Rattle.pfs_law_conservation.specs.KindRows.{cells_of, board, limits_of, is_kind_row}
use Rattle.pfs_law_conservation.specs.ConservationLaws.{ContentLaw, FoundLaw}
use Rattle.pfs_law_conservation.specs.Premises.{AreKept}
use Rattle.pfs_law_conservation.specs.RunTerms.{Run, given_in, entries_to, actions_to, lines_to, sums_to, found_to, kept_to, stands_to}
use Rattle.pfs_law_conservation.specs.KindLines.{lines_at, all_lines, lines_on}
use Rattle.pfs_law_conservation.proofs.ActedLines.{acted, once}
use Rattle.pfs_law_conservation.proofs.ChosenLines.{each_map}
use Rattle.pfs_law_conservation.proofs.LineContents.{IsBody, IsBased}
use Rattle.pfs_law_conservation.proofs.MoveLevels.{row_level, level_most}
use Rattle.pfs_law_conservation.proofs.ChosenContents as contenting
use Rattle.pfs_law_conservation.proofs.GiftLevels.{IsWay, asked_ways}
use Rattle.pfs_law_conservation.proofs.RowRanges.{AreNone, outside, kind_range}
use Rattle.pfs_law_conservation.proofs.SlotMoves.{AreBack, AreFound}
use Rattle.pfs_law_conservation.proofs.RowLines.{bit_yes, length_if}
use Rattle.pfs_law_conservation.proofs.RowContents.{IsMade, found_stands}
use Rattle.pfs_law_conservation.proofs.SingleTakes.{is_take, is_take_at, is_taken, two_takes, take_stands, none_takes, takes_printed, takes_moved, moved_once}
use Rattle.pfs_law_conservation.proofs.EntrySources.{IsTaken}

-- what stands alone at a version
stands_alone : (lines : List Tagged) (row version : ℕ) (change : Change) → Stands lines row version change → length (standing lines row version) ≤ 1 → standing lines row version ≡ change ∷ []
stands_alone [] row version change s l = absurd s
stands_alone (line ∷ lines) row version change s l = at (is_at line row version) refl s l (stands_alone lines row version change) where
  empty : (xs : List Change) → suc (length xs) ≤ 1 → xs ≡ []
  empty [] e = refl
  empty (x ∷ xs) e = absurd (omega (arith, e))

  some : (lines : List Tagged) → Stands lines row version change → 1 ≤ length (standing lines row version)
  some [] s = absurd s
  some (line ∷ lines) (inl s) = let e : length (cond (is_at line row version) (change_of line ∷ []) [] ++ standing lines row version) ≡ cond {A = ℕ} (is_at line row version) 1 0 + length (standing lines row version) = length_if (is_at line row version) (change_of line) (standing lines row version) in omega (arith, e, bit_yes (is_at line row version) s.0)
  some (line ∷ lines) (inr s) = let e : length (cond (is_at line row version) (change_of line ∷ []) [] ++ standing lines row version) ≡ cond {A = ℕ} (is_at line row version) 1 0 + length (standing lines row version) = length_if (is_at line row version) (change_of line) (standing lines row version) in let l : 1 ≤ length (standing lines row version) = some lines s in omega (arith, e, l)

  at : (b : Bool) → is_at line row version ≡ b → ((is_at line row version ≡ true) × (change_of line ≡ change)) ⊎ Stands lines row version change
      → length (cond b (change_of line ∷ []) [] ++ standing lines row version) ≤ 1
      → (Stands lines row version change → length (standing lines row version) ≤ 1 → standing lines row version ≡ change ∷ [])
      → cond b (change_of line ∷ []) [] ++ standing lines row version ≡ change ∷ []
  at true q (inl s) l go = ap (λ (xs : List Change). change_of line ∷ xs) (empty (standing lines row version) l) ∙ ap (λ c. c ∷ []) s.1
  at true q (inr s) l go = let m : 1 ≤ length (standing lines row version) = some lines s in absurd (omega (arith, m, l))
  at false q (inl s) l go = absurd (let z : true ≡ false = sym s.0 ∙ q in cc)
  at false q (inr s) l go = go s l

-- what holds of a line that stands
stood_at : (P : Tagged → Type 0) (lines : List Tagged) (row version : ℕ) (change : Change) → Each P lines → Stands lines row version change
    → (line : Tagged) × (change_of line ≡ change) × (line.row ≡ row) × (line.version ≡ version) × P line
stood_at P [] row version change h s = absurd s
stood_at P (line ∷ lines) row version change h (inl s) = (line, s.1, eqb-true line.row row (and_parts (line.row == row) (line.version == version) s.0).0, eqb-true line.version version (and_parts (line.row == row) (line.version == version) s.0).1, h.0)
stood_at P (line ∷ lines) row version change h (inr s) = stood_at P lines row version change h.1 s

-- a take stands as a line
pub taken_line : (test : ℕ → Bool) (ps : List Placed) (action row version : ℕ) → test row ≡ true → IsTaken ps action row version → Stands (lines_on test (all_lines ps)) row version (Taken action)
taken_line test [] action row version t s = absurd s
taken_line test (p ∷ ps) action row version t (inl (a, e)) = subst (λ x. Stands (lines_on test (lines_at p x ++ all_lines ps)) row version (Taken action)) (sym e) (on (test row) t) where
  eq_self : (n : ℕ) → (n == n) ≡ true
  eq_self n = grind arith

  line : Tagged
  line = record { session = p.session; action = p.context.action; row = row; version = version; kind = Takes }

  on : (b : Bool) → b ≡ true → Stands (cond b (line ∷ []) [] ++ lines_on test (all_lines ps)) row version (Taken action)
  on true q = inl (ap (λ b. b && (version == version)) (eq_self row) ∙ eq_self version, ap Taken a)
  on false q = absurd (cc)
taken_line test (p ∷ ps) action row version t (inr s) = by p.entry (taken_line test ps action row version t s) where
  later : (b : Bool) (line : Tagged) → Stands (lines_on test (all_lines ps)) row version (Taken action) → Stands (cond b (line ∷ []) [] ++ lines_on test (all_lines ps)) row version (Taken action)
  later true line s = inr s
  later false line s = s

  by : (e : Entry) → Stands (lines_on test (all_lines ps)) row version (Taken action) → Stands (lines_on test (lines_at p e ++ all_lines ps)) row version (Taken action)
  by (says.Add at v) s = later (test at) _ s
  by (says.Take at v) s = later (test at) _ s
  by (says.Give at v from) s = later (test at) _ s
  by _ s = s

zero_count : (n : ℕ) → not (n == 0) ≡ nat_lt 0 n
zero_count zero = refl
zero_count (suc n) = grind arith

module _ (back : AreBack) (found : AreFound) (none : AreNone) (words : WordsAgree) (run : Run) (kind : TableKind) (phase : ℕ) (kept : AreKept run) where
  abbrev all : List Placed
  all = places run.blocks

  abbrev so_far : List Placed
  so_far = entries_to run phase

  abbrev test : ℕ → Bool
  test = is_kind_row (cells_of run.setting kind)

  abbrev lines : List Tagged
  lines = lines_to run kind phase

  abbrev sums : Sums Stat
  sums = sums_to run phase

  abbrev stands : ℕ → ℕ → Stat
  stands row version = stat_of_words (run.content row version)

  asked : (action : ℕ) → Each (IsWay test) (asked_of (run.counted action) (asked_at run.setting run.change run.labels action))
  asked action = asked_ways back found run.setting run.change run.labels kind action (run.counted action)

  high : (row : ℕ) → 8450 ≤ row → test row ≡ false
  high row l = outside back found none (cells_of run.setting kind) row (λ a b. omega (arith, l, b))

  low : (row : ℕ) → row < 129 → test row ≡ false
  low row l = outside back found none (cells_of run.setting kind) row (λ a b. omega (arith, l, a))

  range : (row : ℕ) → test row ≡ true → (129 ≤ row) × (row < 8450)
  range row t = let r : (129 ≤ row) × (row < 8385) = kind_range back found none (cells_of run.setting kind) row t in (r.0, (let h : row < 8385 = r.1 in omega (arith, h)))

  abbrev Based : Tagged → Type 0
  Based line = IsBased words (given_in run) run.content run.counted test so_far line

  based : Each (λ (line : Tagged). (test line.row ≡ true) × Based line) lines
  based = contenting.based words test high low range run phase kept asked

  one : (row : ℕ) → test row ≡ true → (before : ℕ) → before < changes_of lines row → length (standing lines row (suc before)) ≡ 1
  one = contenting.one words test high low range run phase kept asked

  opens : (row : ℕ) → test row ≡ true → stands row 0 ≡ zero_of
  opens = contenting.opens words test high low range run phase kept asked

  -- no action takes a row twice
  taken_once : (action row : ℕ) → times (is_take action row) lines ≤ 1
  taken_once action row =
      let a : times (is_take action row) lines ≤ times (is_taken action row) (printed_by lines action) = takes_printed action row lines in
      let p : printed_by lines action ≡ prints_all run.counted (moves_at run.setting kind (actions_to run phase) action) = (acted back found none run kind phase kept).asks action in
      let e : times (is_taken action row) (printed_by lines action) ≡ times (is_taken action row) (prints_all run.counted (moves_at run.setting kind (actions_to run phase) action)) = ap (times (is_taken action row)) p in
      let b : times (is_taken action row) (prints_all run.counted (moves_at run.setting kind (actions_to run phase) action)) ≤ times (λ (m : Move). m.from == row) (moves_at run.setting kind (actions_to run phase) action) = takes_moved run.counted action row (moves_at run.setting kind (actions_to run phase) action) in
      let c : times (λ (m : Move). m.from == row) (moves_at run.setting kind (actions_to run phase) action) ≤ 1 =
      moved_once (holder_of (board (cells_of run.setting kind)) (opened_by (limits_of run.setting)) (numbered (actions_to run phase)))
      (takes_by (board (cells_of run.setting kind)) (opened_by (limits_of run.setting)) (numbered (actions_to run phase)) (kind_number kind)) action row (cells_of run.setting kind) in
      omega (arith, a, e, b, c)

  -- versions are from 1 to the number of changes of their rows
  pub lines_ranged : Each (λ (line : Tagged). (1 ≤ line.version) × (line.version ≤ changes_of (lines_to run kind phase) line.row)) (lines_to run kind phase)
  lines_ranged = ranges lines (acted back found none run kind phase kept).within where
    ranges : (some : List Tagged) → Within lines some → Each (λ (line : Tagged). (1 ≤ line.version) × (line.version ≤ changes_of lines line.row)) some
    ranges [] w = tt
    ranges (line ∷ some) w = ((w.0, w.1), ranges some w.2)

  -- a take finds what stood there before, if what takes found makes each line of its row
  found_at : (takes : ℕ → ℕ → Stat) (action row version : ℕ) → test row ≡ true → Each (λ (line : Tagged). line.row ≡ row → IsMade sums stands takes line) lines
      → Stands lines row version (Taken action) → found_in sums takes sums.nothing action (chain_of lines row) ≡ stands row (version - 1)
  found_at takes action row version t made s = on (stood_at (λ (line : Tagged). (1 ≤ line.version) × (line.version ≤ changes_of lines line.row)) lines row version (Taken action) lines_ranged s) where
    on : (line : Tagged) × (change_of line ≡ Taken action) × (line.row ≡ row) × (line.version ≡ version) × ((1 ≤ line.version) × (line.version ≤ changes_of lines line.row))
        → found_in sums takes sums.nothing action (chain_of lines row) ≡ stands row (version - 1)
    on (line, c, r, v, (l, h)) = at version s v where
      count : changes_of lines line.row ≡ changes_of lines row
      count = ap (changes_of lines) r

      at : (version : ℕ) → Stands lines row version (Taken action) → line.version ≡ version → found_in sums takes sums.nothing action (chain_of lines row) ≡ stands row (version - 1)
      at zero s v = absurd (omega (arith, l, v))
      at (suc before) s v =
          found_stands sums stands takes lines row (changes_of lines row) made (one row t) (opens row t) action before (omega (arith, h, v, count))
          (stands_alone lines row (suc before) (Taken action) s (once back found none run kind phase kept row (suc before)))
          (λ earlier e.
          let two : times (is_take_at action row (suc earlier)) lines + times (is_take_at action row (suc before)) lines ≤ times (is_take action row) lines = two_takes action row (suc earlier) (suc before) lines (omega (arith, e)) in
          let own : 1 ≤ times (is_take_at action row (suc before)) lines = take_stands action row (suc before) lines s in
          let most : times (is_take action row) lines ≤ 1 = taken_once action row in
          none_takes action row (suc earlier) lines (omega (arith, two, own, most)))
          ∙ ap (stands row) (minus before) where
            minus : (b : ℕ) → b ≡ suc b - 1
            minus b = omega arith

  -- what the takes of the levels below a row found makes each of its lines
  abbrev MadeTo : ℕ → Type 0
  MadeTo depth = (line : Tagged) → test line.row ≡ true → Based line → row_level line.row ≤ depth → IsMade sums stands (found_by sums (chain_of lines) depth) line

  all_made : (depth : ℕ) → MadeTo depth → (row : ℕ) → row_level row ≤ depth → Each (λ (line : Tagged). line.row ≡ row → IsMade sums stands (found_by sums (chain_of lines) depth) line) lines
  all_made depth h row l =
      each_map (λ (line : Tagged). (test line.row ≡ true) × Based line) (λ (line : Tagged). line.row ≡ row → IsMade sums stands (found_by sums (chain_of lines) depth) line) lines
      (λ line b e. h line b.0 b.1 (let r : row_level line.row ≡ row_level row = ap row_level e in omega (arith, r, l))) based

  -- by the levels, the lowest first: a give's take was of a lower row
  made_to : (depth : ℕ) → MadeTo depth
  made_to zero line t (before, v, b) l = (before, v, by line.kind b) where
    by : (what : Kind) → IsBody words (given_in run) run.content run.counted test so_far line.action line.row line.version before what
        → stands line.row line.version ≡ changed sums (found_by sums (chain_of lines) 0) (stands line.row before) (as_change line.action what)
    by (Adds events) b = b
    by Takes b = b.0
    by (Gives from) b = let h : suc (row_level from) ≤ row_level line.row = b.0 in absurd (omega (arith, h, l))
  made_to (suc depth) line t (before, v, b) l = (before, v, by line.kind b (made_to depth)) where
    by : (what : Kind) → IsBody words (given_in run) run.content run.counted test so_far line.action line.row line.version before what → MadeTo depth
        → stands line.row line.version ≡ changed sums (found_by sums (chain_of lines) (suc depth)) (stands line.row before) (as_change line.action what)
    by (Adds events) b ih = b
    by Takes b ih = b.0
    by (Gives from) (high, same, (at, s, e)) ih =
        e ∙ ap (sums.merge (stands line.row before))
        (sym (found_at (found_by sums (chain_of lines) depth) line.action from at (sym same ∙ t) (all_made depth ih from (omega (arith, high, l))) (taken_line test so_far line.action from at (sym same ∙ t) s)))

  -- each line makes its row's content of the one before, by what takes found
  made : (line : Tagged) → test line.row ≡ true → Based line → IsMade sums stands (found_to run kind phase) line
  made line t b = made_to 4 line t b (let l : row_level line.row ≤ 3 = level_most line.row in omega (arith, l))

  pub contented : (row : ℕ) → is_kind_row (cells_of run.setting kind) row ≡ true → content (sums_to run phase) (found_to run kind phase) (chain_of (lines_to run kind phase) row) ≡ stands_to run phase row
  contented row t =
      contenting.contents_are words test high low range run phase kept asked (found_to run kind phase) row t
      (each_map (λ (line : Tagged). (test line.row ≡ true) × Based line) (λ (line : Tagged). line.row ≡ row → IsMade sums stands (found_to run kind phase) line) lines (λ line b e. made line b.0 b.1) based)

  -- a take found what stood one version before it
  pub found_stood : (action row version : ℕ) → is_kind_row (cells_of run.setting kind) row ≡ true → Stands (lines_to run kind phase) row version (Taken action) → found_to run kind phase action row ≡ stat_of_words (run.content row (version - 1))
  found_stood action row version t s = found_at (found_by sums (chain_of lines) 3) action row version t (all_made 3 (made_to 3) row (level_most row)) s

  pub counted_found : (action row version : ℕ) → Stands (lines_to run kind phase) row version (Taken action) → run.counted action row ≡ kept_to run kind phase action row
  counted_found action row version s = on (stood_at (λ (line : Tagged). (test line.row ≡ true) × Based line) lines row version (Taken action) based s) where
    on : (line : Tagged) × (change_of line ≡ Taken action) × (line.row ≡ row) × (line.version ≡ version) × ((test line.row ≡ true) × Based line) → run.counted action row ≡ kept_to run kind phase action row
    on (line, c, r, v, (t, (before, n, b))) = by line.kind c b where
      number : (a b : ℕ) → Taken a ≡ Taken b → a ≡ b
      number a b e = cc

      by : (what : Kind) → as_change line.action what ≡ Taken action → IsBody words (given_in run) run.content run.counted test so_far line.action line.row line.version before what → run.counted action row ≡ kept_to run kind phase action row
      by (Adds events) c b = absurd (cc)
      by (Gives from) c b = absurd (cc)
      by Takes c (m, f) =
          let a : line.action ≡ action = number line.action action c in
          let t2 : test row ≡ true = ap test (sym r) ∙ t in
          let e : version - 1 ≡ before = omega (arith, v, n) in
          let k : found_to run kind phase action row ≡ stands row (version - 1) = found_stood action row version t2 s in
          (ap (λ z. run.counted z row) (sym a) ∙ ap (run.counted line.action) (sym r))
          ∙ (f ∙ (ap (λ (z : ℕ). not ((stands z before).count == 0)) r
          ∙ (zero_count (stands row before).count ∙ ap (λ (x : Stat). nat_lt 0 x.count) (ap (stands row) (sym e) ∙ sym k))))

pub content_law : AreBack → AreFound → AreNone → WordsAgree → ContentLaw
content_law back found none words run kind phase kept row t = contented back found none words run kind phase kept row t

pub found_law : AreBack → AreFound → AreNone → WordsAgree → FoundLaw
found_law back found none words run kind phase kept action row version s = counted_found back found none words run kind phase kept action row version s
