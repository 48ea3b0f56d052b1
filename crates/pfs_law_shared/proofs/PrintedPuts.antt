-- What blocks print of the long history: each put with a ticket that their sessions made.
use Rattle.std.proofs.Common.{ℕ, ◌≡◌, ◌+◌, ◌==◌, Bool, true, false, cond, List, [], ◌∷◌, ◌++◌, Option, Some, None, refl, arith}
use Rattle.std.specs.Prelude.{nat_lt}
use Rattle.pfs_board.specs.declared.view.Label.{Label}
use Rattle.pfs_event.specs.declared.entry.Entry.{Entry}
use Rattle.pfs_levels.specs.Calls.{Call}
use Rattle.pfs_levels.specs.CallOrder.{AllCalls}
use Rattle.pfs_model.proofs.EachLists.{each_join}
use Rattle.pfs_model.specs.Chains.{Each}
use Rattle.pfs_model.specs.Contexts.{Context, noted, after, subject_of, turned}
use Rattle.pfs_model.specs.EntryPlaces.{Placed, placed_part, placed_lines}
use Rattle.pfs_model.specs.declared.lines.Line.{Line}
use Rattle.pfs_session.specs.SessionStates.{State}
use Rattle.pfs_session.specs.Turns.{state_after}
use Rattle.pfs_law_session.specs.Deeds.{action_of, line_of, part_calls, part_entries}
use Rattle.pfs_law_session.specs.JournalLaws.{AreParts, lines_of, entries_of}
use Rattle.pfs_law_plain.specs.Spells.{Doing, Spell, around, entering, doing_calls, doings_calls, parts_in}
use Rattle.pfs_law_shared.specs.Shares.{actors_of, spells_at, spells_before}
use Rattle.pfs_law_shared.proofs.ActorSums.{around_sum}
use Rattle.pfs_law_shared.proofs.DrawnPuts.{long_by, longs_in, part_drawn}
use Rattle.pfs_law_shared.proofs.PhaseWalks.{IsSum}
use Rattle.pfs_law_shared.proofs.TicketedPuts.{rungs, rungs_then, rungs_add, AreTicketed, ticketed_then, IsBlank}

-- how often this ticket is printed at a row, at versions that pass
abbrev pub longs_of : ℕ → ℕ → (ℕ → Bool) → List Placed → ℕ
longs_of row ticket test [] = 0
longs_of row ticket test (p ∷ ps) = long_by row ticket test p.entry + longs_of row ticket test ps

longs_then : (row ticket : ℕ) (test : ℕ → Bool) (xs ys : List Placed) → longs_of row ticket test (xs ++ ys) ≡ longs_of row ticket test xs + longs_of row ticket test ys
longs_then row ticket test [] ys = omega arith
longs_then row ticket test (x ∷ xs) ys = omega (arith, longs_then row ticket test xs ys)

pub longs_sum : (row ticket : ℕ) (test : ℕ → Bool) → IsSum (longs_of row ticket test)
longs_sum row ticket test = record { none = refl; both = longs_then row ticket test }

part_longs : (row ticket : ℕ) (test : ℕ → Bool) (phase session : ℕ) (line : Line) (context : Context) (es : List Entry) → longs_of row ticket test (placed_part phase session line context es) ≡ longs_in row ticket test es
part_longs row ticket test phase session line context [] = refl
part_longs row ticket test phase session line context (e ∷ es) = omega (arith, part_longs row ticket test phase session line (noted (subject_of line) context e) es)

pub block_rung : (phase session : ℕ) (context : Context) (s : State) (ds : List Doing) → AreParts s (parts_in ds) → (row ticket : ℕ) (test : ℕ → Bool)
    → longs_of row ticket test (placed_lines phase session context (lines_of (parts_in ds)) (entries_of (parts_in ds))) ≡ rungs row ticket test (doings_calls ds)
block_rung phase session context s [] are row ticket test = refl
block_rung phase session context s (d ∷ ds) are row ticket test =
    let line : Line = line_of d.part.deed in
    let entries : List Entry = part_entries d.part in
    let here : List Placed = placed_part phase session line (turned context) entries in
    let next : Context = after context line entries in
    let rest : List Placed = placed_lines phase session next (lines_of (parts_in ds)) (entries_of (parts_in ds)) in
    let own = (part_drawn s d.part are.0).rung row ticket test in
    let r = block_rung phase session next (state_after s d.part.turns) ds are.1 row ticket test in
    omega (
      arith,
      own,
      r,
      longs_then row ticket test here rest,
      part_longs row ticket test phase session line (turned context) entries,
      rungs_then row ticket test (doings_calls ds) (doing_calls d),
      around_sum (rungs row ticket test) (rungs_add row ticket test) d.label d.labels d.met (action_of d.part.deed) (part_calls d.part),
    )

-- of a session's calls in a phase
around_ticketed : (label : Label) (labels : List Label) (met : Option (List ℕ)) (action : Option ℕ) (calls : List Call) → AreTicketed calls → AreTicketed (around label labels met action calls)
around_ticketed label labels met None calls a = a
around_ticketed label labels None (Some number) calls a = (tt, ticketed_then calls (entering label labels None) a (tt, tt))
around_ticketed label labels (Some versions) (Some number) calls a = (tt, ticketed_then calls (entering label labels (Some versions)) a (tt, (tt, tt)))

around_blank : (label : Label) (labels : List Label) (met : Option (List ℕ)) (action : Option ℕ) (calls : List Call) → Each IsBlank calls → Each IsBlank (around label labels met action calls)
around_blank label labels met None calls b = b
around_blank label labels None (Some number) calls b = (tt, each_join IsBlank calls (entering label labels None) b (tt, tt))
around_blank label labels (Some versions) (Some number) calls b = (tt, each_join IsBlank calls (entering label labels (Some versions)) b (tt, (tt, tt)))

abbrev pub IsTold : List Call → Type 0
IsTold calls = AreTicketed calls × Each IsBlank calls

pub block_told : (s : State) (ds : List Doing) → AreParts s (parts_in ds) → IsTold (doings_calls ds)
block_told s [] are = (tt, tt)
block_told s (d ∷ ds) are =
    let own = part_drawn s d.part are.0 in
    let r = block_told (state_after s d.part.turns) ds are.1 in
    let action : Option ℕ = action_of d.part.deed in (
      ticketed_then (doings_calls ds) (doing_calls d) r.0 (around_ticketed d.label d.labels d.met action (part_calls d.part) own.ticketed),
      each_join IsBlank (doings_calls ds) (doing_calls d) r.1 (around_blank d.label d.labels d.met action (part_calls d.part) own.blank),
    )

-- facts of spells as those of their actors
pub calls_join : (P : List Call → Type 0) (xs ys : List (List Call)) → AllCalls P xs → AllCalls P ys → AllCalls P (xs ++ ys)
calls_join P [] ys a b = b
calls_join P (x ∷ xs) ys a b = (a.0, calls_join P xs ys a.1 b)

pub actors_all : (P : List Call → Type 0) (spells : List Spell) → Each (λ spell. P (doings_calls spell.doings)) spells → AllCalls P (actors_of spells)
actors_all P [] each = tt
actors_all P (spell ∷ spells) each = calls_join P (actors_of spells) (doings_calls spell.doings ∷ []) (actors_all P spells each.1) (each.0, tt)

picked_spell : (F : Spell → Type 0) (b : Bool) (spell : Spell) (rest : List Spell) → F spell → Each F rest → Each F (cond b (spell ∷ []) [] ++ rest)
picked_spell F b spell rest own each = by b where
  by : (b : Bool) → Each F (cond b (spell ∷ []) [] ++ rest)
  by true = (own, each)
  by false = each

pub at_all : (F : Spell → Type 0) (phase : ℕ) (spells : List Spell) → Each F spells → Each F (spells_at phase spells)
at_all F phase [] each = tt
at_all F phase (spell ∷ spells) each = picked_spell F (spell.phase == phase) spell (spells_at phase spells) each.0 (at_all F phase spells each.1)

pub before_all : (F : Spell → Type 0) (phase : ℕ) (spells : List Spell) → Each F spells → Each F (spells_before phase spells)
before_all F phase [] each = tt
before_all F phase (spell ∷ spells) each = picked_spell F (nat_lt spell.phase phase) spell (spells_before phase spells) each.0 (before_all F phase spells each.1)
