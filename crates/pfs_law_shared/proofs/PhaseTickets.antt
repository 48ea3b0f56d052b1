-- Phase by phase the puts of a long history that are printed have the tickets that were drawn in the phase.
use Rattle.std.proofs.Common.{ℕ, zero, suc, ◌≡◌, ◌+◌, ◌<◌, ◌≤◌, ◌==◌, Bool, true, false, not, cond, ◌&&◌, List, [], ◌∷◌, ◌++◌, length, Option, Some, None, inl, inr, refl, ap, sym, ◌∙◌, subst, arith, append_assoc, append-nil, eq-eqb, eqb-true}
use Rattle.std.specs.Prelude.{nat_lt, nat_le, ◌⊎◌, filter}
use Rattle.std.proofs.lemmas.Bool.{cases_eq}
use Rattle.pfs_board.specs.declared.view.Label.{Label}
use Rattle.pfs_event.specs.declared.entry.Entry.{Entry}
use Rattle.pfs_levels.specs.Calls.{Call, Adds, Rings, Reads, Loads, Draws, Takes, Puts, Frees, Sets, Enters, Leaves, Meets}
use Rattle.pfs_levels.specs.CallOrder.{AllCalls, top_ticket}
use Rattle.pfs_levels.specs.CallOrder.{AreRising as CallsRise}
use Rattle.pfs_levels.specs.JointCalls.{total, one_if, Draw, draws_by, draws_of, drawn}
use Rattle.pfs_model.proofs.EachLists.{each_front, each_behind, each_join}
use Rattle.pfs_model.proofs.Floors.{each_map}
use Rattle.pfs_model.specs.Actions.{IsAmong}
use Rattle.pfs_model.specs.Causes.{long_row, kind_of_row}
use Rattle.pfs_model.specs.Chains.{Each, times}
use Rattle.pfs_model.specs.Contexts.{Context, noted, after, subject_of, turned}
use Rattle.pfs_model.specs.Contexts.{fresh as empty}
use Rattle.pfs_model.specs.EntryPlaces.{Block, Placed, placed_part, placed_lines, places_behind, told_by, chosen, by_session, before_phase, up_to_phase, in_phase}
use Rattle.pfs_model.specs.Rings.{LongPut, long_put, long_puts, ticket_shown, tickets_shown, tickets_of_row, AreRisingTickets, IsAtOwn, AreTickets}
use Rattle.pfs_model.specs.declared.lines.Line.{Line}
use Rattle.pfs_session.specs.SessionStates.{State, fresh}
use Rattle.pfs_session.specs.Turns.{state_after}
use Rattle.pfs_law_session.specs.Deeds.{Part, action_of, line_of, part_calls, part_entries}
use Rattle.pfs_law_session.specs.JournalLaws.{AreParts, lines_of, entries_of}
use Rattle.pfs_law_session.specs.Stints.{Stint, block_of, blocks_of, state_by, AreStintsBehind}
use Rattle.pfs_law_session.proofs.Stints.{blocks_more}
use Rattle.pfs_law_plain.specs.RunRules.{entries_of as all_entries}
use Rattle.pfs_law_plain.specs.SessionNotes.{ToldLaw}
use Rattle.pfs_law_plain.specs.Spells.{Doing, Spell, AreSpells, around, entering, doing_calls, doings_calls, parts_in, stint_of, stints_of}
use Rattle.pfs_law_plain.specs.Weights.{WeighedLaw}
use Rattle.pfs_law_joint.proofs.TicketSums.{of_draw, sum_to, drawn_sum, sum_whole, sum_one}
use Rattle.pfs_law_joint.proofs.Sums.{total_then}
use Rattle.pfs_law_shared.specs.Order.{AreSingle}
use Rattle.pfs_law_shared.specs.Shares.{actors_of, spells_at, spells_before, AreShared}
use Rattle.pfs_law_shared.specs.Tickets.{IsPlaced, AllPlaced, TicketedLaw}
use Rattle.pfs_law_shared.proofs.AgreedCalls.{calls_front, calls_back, each_spell}
use Rattle.pfs_law_shared.proofs.ActedPlaces.{blocks_each, each_both}
use Rattle.pfs_law_shared.proofs.ActorSums.{test_sum, cond_sum}
use Rattle.pfs_law_shared.proofs.DrawnPuts.{drawn_in, drawn_then, puts_in, Match, match_then, part_drawn}
use Rattle.pfs_law_shared.proofs.DrawnTickets.{draws_add, begun}
use Rattle.pfs_law_shared.proofs.OthersPrinted.{IsOf, lines_are}
use Rattle.pfs_law_shared.proofs.PhaseCounts.{all_over as over_actors}
use Rattle.pfs_law_shared.proofs.PhaseWalks.{IsSum, IsKept, same_kept, low_kept, over, over_then, picked_over}
use Rattle.pfs_law_shared.proofs.PhaseWeights.{AllSit, sit_next, chosen_then}

-- all puts of the long histories, whatever their kind
abbrev all_puts : List Placed → List LongPut
all_puts [] = []
all_puts (p ∷ ps) = long_put p.line p.entry ++ all_puts ps

all_puts_then : (xs ys : List Placed) → all_puts (xs ++ ys) ≡ all_puts xs ++ all_puts ys
all_puts_then [] ys = refl
all_puts_then (x ∷ xs) ys = ap (λ z. long_put x.line x.entry ++ z) (all_puts_then xs ys) ∙ sym (append_assoc (long_put x.line x.entry) (all_puts xs) (all_puts ys))

part_puts : (phase session : ℕ) (line : Line) (context : Context) (es : List Entry) → all_puts (placed_part phase session line context es) ≡ puts_in line es
part_puts phase session line context [] = refl
part_puts phase session line context (e ∷ es) = ap (λ z. long_put line e ++ z) (part_puts phase session line (noted (subject_of line) context e) es)

-- of the lines of a block
around_drawn : (label : Label) (labels : List Label) (met : Option (List ℕ)) (action : Option ℕ) (calls : List Call) → drawn_in (around label labels met action calls) ≡ drawn_in calls
around_drawn label labels met None calls = refl
around_drawn label labels None (Some number) calls = append-nil (drawn_in (calls ++ entering label labels None)) ∙ drawn_then calls (entering label labels None)
around_drawn label labels (Some versions) (Some number) calls =
    append-nil (drawn_in (calls ++ entering label labels (Some versions))) ∙ drawn_then calls (entering label labels (Some versions))

around_placed : (label : Label) (labels : List Label) (met : Option (List ℕ)) (action : Option ℕ) (calls : List Call) → Each IsPlaced (around label labels met action calls) → Each IsPlaced calls
around_placed label labels met None calls a = a
around_placed label labels met (Some number) calls a = each_front IsPlaced calls (entering label labels met) a.1

block_match : (phase session : ℕ) (context : Context) (s : State) (ds : List Doing) → AreParts s (parts_in ds) → Each IsPlaced (doings_calls ds)
    → Match (all_puts (placed_lines phase session context (lines_of (parts_in ds)) (entries_of (parts_in ds)))) (drawn_in (doings_calls ds))
block_match phase session context s [] are placed = tt
block_match phase session context s (d ∷ ds) are placed =
    let line : Line = line_of d.part.deed in
    let entries : List Entry = part_entries d.part in
    let here : List Placed = placed_part phase session line (turned context) entries in
    let next : Context = after context line entries in
    let rest : List Placed = placed_lines phase session next (lines_of (parts_in ds)) (entries_of (parts_in ds)) in
    let own = (part_drawn s d.part are.0).match (around_placed d.label d.labels d.met (action_of d.part.deed) (part_calls d.part) (each_behind IsPlaced (doings_calls ds) (doing_calls d) placed)) in
    let r = block_match phase session next (state_after s d.part.turns) ds are.1 (each_front IsPlaced (doings_calls ds) (doing_calls d) placed) in
    let draws : drawn_in (doings_calls ds ++ doing_calls d) ≡ drawn_in (part_calls d.part) ++ drawn_in (doings_calls ds) =
    drawn_then (doings_calls ds) (doing_calls d) ∙ ap (λ z. z ++ drawn_in (doings_calls ds)) (around_drawn d.label d.labels d.met (action_of d.part.deed) (part_calls d.part)) in
    let puts : all_puts (here ++ rest) ≡ puts_in line entries ++ all_puts rest = all_puts_then here rest ∙ ap (λ z. z ++ all_puts rest) (part_puts phase session line (turned context) entries) in
    subst (λ z. Match z (drawn_in (doings_calls ds ++ doing_calls d))) (sym puts) (subst (λ z. Match (puts_in line entries ++ all_puts rest) z) (sym draws)
    (match_then (puts_in line entries) (all_puts rest) (drawn_in (part_calls d.part)) (drawn_in (doings_calls ds)) own r))

-- counted
times_both : {A : Type 0} (test : A → Bool) (xs ys : List A) → times test (xs ++ ys) ≡ times test xs + times test ys
times_both test [] ys = omega arith
times_both test (x ∷ xs) ys = omega (arith, times_both test xs ys)

draws_total : (test : Draw → Bool) (calls : List Call) → times test (drawn_in calls) ≡ total (λ d. one_if (test d)) (draws_of calls)
unfolding total draws_of
draws_total test [] = refl
draws_total test (call ∷ calls) =
    omega (arith, times_both test (drawn_in calls) (draws_by call), draws_total test calls, total_then (λ d. one_if (test d)) (draws_by call) (draws_of calls), same (draws_by call)) where
      same : (ds : List Draw) → times test ds ≡ total (λ d. one_if (test d)) ds
      same [] = refl
      same (d ∷ ds) = ap (λ n. one_if (test d) + n) (same ds)

abbrev of_kind : ℕ → LongPut → Bool
of_kind kind put = kind_of_row put.row == kind

filter_then : {A : Type 0} (test : A → Bool) (xs ys : List A) → filter test (xs ++ ys) ≡ filter test xs ++ filter test ys
filter_then test [] ys = refl
filter_then test (x ∷ xs) ys = at (test x) (filter_then test xs ys) where
  at : (b : Bool) → filter test (xs ++ ys) ≡ filter test xs ++ filter test ys → cond b (x ∷ filter test (xs ++ ys)) (filter test (xs ++ ys)) ≡ cond b (x ∷ filter test xs) (filter test xs) ++ filter test ys
  at true e = ap (λ z. x ∷ z) e
  at false e = e

kind_puts : (kind : ℕ) (ps : List Placed) → long_puts kind ps ≡ filter (of_kind kind) (all_puts ps)
kind_puts kind [] = refl
kind_puts kind (p ∷ ps) =
    ap (λ z. filter (of_kind kind) (long_put p.line p.entry) ++ z) (kind_puts kind ps) ∙ sym (filter_then (of_kind kind) (long_put p.line p.entry) (all_puts ps))

filter_times : {A : Type 0} (test other : A → Bool) (xs : List A) → times other (filter test xs) ≡ times (λ x. test x && other x) xs
filter_times test other [] = refl
filter_times test other (x ∷ xs) = at (test x) (filter_times test other xs) where
  at : (b : Bool) → times other (filter test xs) ≡ times (λ y. test y && other y) xs → times other (cond b (x ∷ filter test xs) (filter test xs)) ≡ cond {A = ℕ} (b && other x) 1 0 + times (λ y. test y && other y) xs
  at true e = ap (λ n. cond {A = ℕ} (other x) 1 0 + n) e
  at false e = omega (arith, e)

filter_length : {A : Type 0} (test : A → Bool) (xs : List A) → length (filter test xs) ≡ times test xs
filter_length test [] = refl
filter_length test (x ∷ xs) = at (test x) (filter_length test xs) where
  at : (b : Bool) → length (filter test xs) ≡ times test xs → length (cond b (x ∷ filter test xs) (filter test xs)) ≡ cond {A = ℕ} b 1 0 + times test xs
  at true e = omega (arith, e)
  at false e = omega (arith, e)

-- tickets that are shown are among those drawn
abbrev is_ticket : ℕ → ℕ → Draw → Bool
is_ticket kind ticket d = (d.kind == kind) && (d.ticket == ticket)

kind_of_long : (kind ticket : ℕ) → kind_of_row (long_row kind ticket) ≡ kind
kind_of_long kind ticket = omega arith

match_shown : (kind ticket : ℕ) (ps : List LongPut) (ds : List Draw) → Match ps ds → times (λ t. t == ticket) (tickets_shown (filter (of_kind kind) ps)) ≤ times (is_ticket kind ticket) ds
match_shown kind ticket [] [] m = omega arith
match_shown kind ticket [] (d ∷ ds) m = absurd m
match_shown kind ticket (p ∷ ps) [] m = absurd m
match_shown kind ticket (p ∷ ps) (d ∷ ds) m = at (of_kind kind p) refl (match_shown kind ticket ps ds m.1) where
  own : of_kind kind p ≡ (d.kind == kind)
  own = ap (λ r. kind_of_row r == kind) m.0.0 ∙ ap (λ k. k == kind) (kind_of_long d.kind d.ticket)

  shown : (d.kind == kind) ≡ true → (p.ticket ≡ None) ⊎ (p.ticket ≡ Some d.ticket) → times (λ t. t == ticket) (ticket_shown p.ticket) ≤ cond {A = ℕ} (is_ticket kind ticket d) 1 0
  shown e (inl none) = subst (λ z. times (λ t. t == ticket) (ticket_shown z) ≤ cond {A = ℕ} (is_ticket kind ticket d) 1 0) (sym none) (omega arith)
  shown e (inr some) =
      subst (λ z. times (λ t. t == ticket) (ticket_shown z) ≤ cond {A = ℕ} (is_ticket kind ticket d) 1 0) (sym some)
      (subst (λ b. (cond (d.ticket == ticket) 1 0 + 0) ≤ cond {A = ℕ} (b && (d.ticket == ticket)) 1 0) (sym e) (omega arith))

  at : (b : Bool) → of_kind kind p ≡ b → times (λ t. t == ticket) (tickets_shown (filter (of_kind kind) ps)) ≤ times (is_ticket kind ticket) ds
      → times (λ t. t == ticket) (tickets_shown (cond b (p ∷ filter (of_kind kind) ps) (filter (of_kind kind) ps))) ≤ cond {A = ℕ} (is_ticket kind ticket d) 1 0 + times (is_ticket kind ticket) ds
  at true e rest = omega (arith, rest, times_both (λ t. t == ticket) (ticket_shown p.ticket) (tickets_shown (filter (of_kind kind) ps)), shown (sym own ∙ e) m.0.1)
  at false e rest = omega (arith, rest)

match_kind : (kind : ℕ) (g : ℕ → Bool) (ps : List LongPut) (ds : List Draw) → Match ps ds → times (λ p. of_kind kind p && g p.row) ps ≡ times (of_draw kind (λ t. g (long_row kind t))) ds
match_kind kind g [] [] m = refl
match_kind kind g [] (d ∷ ds) m = absurd m
match_kind kind g (p ∷ ps) [] m = absurd m
match_kind kind g (p ∷ ps) (d ∷ ds) m = omega (arith, ap (λ b. cond {A = ℕ} b 1 0) same, match_kind kind g ps ds m.1) where
  by : (b : Bool) → (d.kind == kind) ≡ b → (b && g (long_row d.kind d.ticket)) ≡ (b && g (long_row kind d.ticket))
  by true e = ap (λ k. g (long_row k d.ticket)) (eqb-true d.kind kind e)
  by false e = refl

  same : (of_kind kind p && g p.row) ≡ of_draw kind (λ t. g (long_row kind t)) d
  same = ap (λ r. (kind_of_row r == kind) && g r) m.0.0 ∙ (ap (λ k. (k == kind) && g (long_row d.kind d.ticket)) (kind_of_long d.kind d.ticket) ∙ by (d.kind == kind) refl)

always : (kind : ℕ) (ps : List LongPut) → times (of_kind kind) ps ≡ times (λ p. of_kind kind p && true) ps
always kind [] = refl
always kind (p ∷ ps) = omega (arith, one (of_kind kind p), always kind ps) where
  one : (b : Bool) → cond {A = ℕ} b 1 0 ≡ cond {A = ℕ} (b && true) 1 0
  one true = refl
  one false = refl

sum_rows : (kind row from more : ℕ) → sum_to (λ t. long_row kind t == row) (from + more) ≡ sum_to (λ t. long_row kind t == row) from + tickets_of_row kind row from more
sum_rows kind row from zero = omega (arith, ap (sum_to (λ t. long_row kind t == row)) (plain from)) where
  plain : (n : ℕ) → n + 0 ≡ n
  plain n = omega arith
sum_rows kind row from (suc more) = omega (arith, sum_rows kind row from more, ap (sum_to (λ t. long_row kind t == row)) (next from more)) where
  next : (m n : ℕ) → m + suc n ≡ suc (m + n)
  next m n = omega arith

-- what the spells of the phases that are picked weigh
abbrev sum_of : (ℕ → Bool) → (Spell → ℕ) → List Spell → ℕ
sum_of pick weigh [] = 0
sum_of pick weigh (spell ∷ spells) = sum_of pick weigh spells + cond (pick spell.phase) (weigh spell) 0

-- sums over their blocks
module _ (told : ToldLaw) (R : ℕ → ℕ → Type 0) (kept : IsKept R) (sum : List Placed → ℕ) (is_sum : IsSum sum) (weigh : Spell → ℕ) (F : Spell → Type 0)
    (related : (context : Context) (s : State) (spell : Spell) → AreParts s (parts_in spell.doings) → F spell
    → R (sum (placed_lines spell.phase spell.session context (lines_of (parts_in spell.doings)) (entries_of (parts_in spell.doings)))) (weigh spell))
    (pick : ℕ → Bool) (stack : ℕ) (depths : ℕ → ℕ) where
  abbrev sum_picked : List Spell → ℕ
  sum_picked spells = sum_of pick weigh spells

  chosen_block : (phase session : ℕ) (ps : List Placed) (b : Bool) → pick phase ≡ b → Each (IsOf phase session) ps → chosen (λ p. pick p.phase) ps ≡ cond b ps []
  chosen_block phase session [] true e each = refl
  chosen_block phase session [] false e each = refl
  chosen_block phase session (p ∷ ps) true e each = ap (λ t. cond t (p ∷ []) [] ++ chosen (λ q. pick q.phase) ps) (ap pick each.0.0 ∙ e) ∙ ap (λ z. p ∷ z) (chosen_block phase session ps true e each.1)
  chosen_block phase session (p ∷ ps) false e each = ap (λ t. cond t (p ∷ []) [] ++ chosen (λ q. pick q.phase) ps) (ap pick each.0.0 ∙ e) ∙ chosen_block phase session ps false e each.1

  of_block : (b : Bool) (here : List Placed) (n : ℕ) → R (sum here) n → R (sum (cond b here [])) (cond b n 0)
  of_block true here n r = r
  of_block false here n r = subst (λ z. R z 0) (sym is_sum.none) kept.none

  pub picked : (earlier : List Stint) (phase : ℕ) (spells : List Spell) → AllSit stack depths earlier → AreStintsBehind stack depths earlier phase (stints_of spells) → Each F spells
      → R (sum (chosen (λ p. pick p.phase) (places_behind (blocks_of earlier) (blocks_of (stints_of spells))))) (sum_picked spells)
  unfolding places_behind
  picked earlier phase [] all are facts = subst (λ z. R z 0) (sym is_sum.none) kept.none
  picked earlier phase (spell ∷ spells) all are facts =
      let k : ℕ = spell.session in
      let stint : Stint = stint_of spell in
      let ps : List Part = parts_in spell.doings in
      let context : Context = told_by k empty (blocks_of earlier) in
      let s : State = state_by k (fresh k stack (depths k)) earlier in
      let t = told context s ps (all k) are.1.are_parts in
      let here : List Placed = placed_lines spell.phase k context (lines_of ps) (entries_of ps) in
      let later : List Block = blocks_of (stints_of spells) in
      let rest : List Placed = places_behind (blocks_of earlier ++ block_of stint ∷ []) later in
      let r = picked (earlier ++ stint ∷ []) spell.phase spells (sit_next stack depths earlier stint all (λ thread q. t.sits thread q)) are.2 facts.1 in
      let moved : R (sum (chosen (λ p. pick p.phase) rest)) (sum_picked spells) = subst (λ z. R (sum (chosen (λ p. pick p.phase) (places_behind z later))) (sum_picked spells)) (blocks_more earlier stint) r in
      let b : Bool = pick spell.phase in
      let own = of_block b here (weigh spell) (related context s spell are.1.are_parts facts.0) in
      let split : sum (chosen (λ p. pick p.phase) (here ++ rest)) ≡ sum (cond b here []) + sum (chosen (λ p. pick p.phase) rest) =
      ap sum (chosen_then (λ p. pick p.phase) here rest ∙ ap (λ z. z ++ chosen (λ p. pick p.phase) rest) (chosen_block spell.phase k here b refl (lines_are spell.phase k context (lines_of ps) (entries_of ps))))
      ∙ is_sum.both (cond b here []) (chosen (λ p. pick p.phase) rest) in
      subst (λ z. R z (sum_picked spells + cond b (weigh spell) 0)) (sym split) (kept.both (sum (cond b here [])) (cond b (weigh spell) 0) (sum (chosen (λ p. pick p.phase) rest)) (sum_picked spells) own moved)

-- facts of the actors, spell by spell
pub each_actor : (P : List Call → Type 0) (spells : List Spell) → AllCalls P (actors_of spells) → Each (λ spell. P (doings_calls spell.doings)) spells
each_actor P [] all = tt
each_actor P (spell ∷ spells) all = ((calls_back P (actors_of spells) (doings_calls spell.doings ∷ []) all).0, each_actor P spells (calls_front P (actors_of spells) (doings_calls spell.doings ∷ []) all))

module _ (weigh : List Call → ℕ) where
  abbrev by_spell : Spell → ℕ
  by_spell spell = weigh (doings_calls spell.doings)

  pub at_sum : (phase : ℕ) (spells : List Spell) → over weigh (actors_of (spells_at phase spells)) ≡ sum_of (λ q. q == phase) by_spell spells
  at_sum phase [] = refl
  at_sum phase (x ∷ xs) = picked_over weigh (x.phase == phase) x (spells_at phase xs) ∙ ap (λ n. n + cond (x.phase == phase) (by_spell x) 0) (at_sum phase xs)

  pub before_sum : (phase : ℕ) (spells : List Spell) → over weigh (actors_of (spells_before phase spells)) ≡ sum_of (λ q. nat_lt q phase) by_spell spells
  before_sum phase [] = refl
  before_sum phase (x ∷ xs) = picked_over weigh (nat_lt x.phase phase) x (spells_before phase xs) ∙ ap (λ n. n + cond (nat_lt x.phase phase) (by_spell x) 0) (before_sum phase xs)

  pub up_to_sum : (phase : ℕ) (spells : List Spell) → sum_of (λ q. q == phase) by_spell spells + sum_of (λ q. nat_lt q phase) by_spell spells ≡ sum_of (λ q. nat_le q phase) by_spell spells
  up_to_sum phase [] = refl
  up_to_sum phase (x ∷ xs) = omega (arith, up_to_sum phase xs, cond_sum (x.phase == phase) (nat_lt x.phase phase) (nat_le x.phase phase) (by_spell x) (test_sum x.phase phase))

-- puts along lists
long_then : (kind : ℕ) (xs ys : List Placed) → long_puts kind (xs ++ ys) ≡ long_puts kind xs ++ long_puts kind ys
long_then kind [] ys = refl
long_then kind (x ∷ xs) ys = ap (λ z. filter (of_kind kind) (long_put x.line x.entry) ++ z) (long_then kind xs ys) ∙ sym (append_assoc (filter (of_kind kind) (long_put x.line x.entry)) (long_puts kind xs) (long_puts kind ys))

shown_then : (xs ys : List LongPut) → tickets_shown (xs ++ ys) ≡ tickets_shown xs ++ tickets_shown ys
shown_then [] ys = refl
shown_then (x ∷ xs) ys = ap (λ z. ticket_shown x.ticket ++ z) (shown_then xs ys) ∙ sym (append_assoc (ticket_shown x.ticket) (tickets_shown xs) (tickets_shown ys))

length_then : {A : Type 0} (xs ys : List A) → length (xs ++ ys) ≡ length xs + length ys
length_then [] ys = omega arith
length_then (x ∷ xs) ys = omega (arith, length_then xs ys)

-- each put that shows its ticket stands at its place
abbrev in_some : Option ℕ → ℕ
in_some None = 0
in_some (Some n) = n

same_some : (a b : ℕ) → Some a ≡ Some b → a ≡ b
same_some a b e = ap in_some e

none_some : (b : ℕ) → None ≡ Some b → ⊥
none_some b e = cc

abbrev IsOwnPut : LongPut → Type 0
IsOwnPut put = (t : ℕ) → put.ticket ≡ Some t → put.row ≡ long_row (kind_of_row put.row) t

match_own : (ps : List LongPut) (ds : List Draw) → Match ps ds → Each IsOwnPut ps
match_own [] ds m = tt
match_own (p ∷ ps) [] m = absurd m
match_own (p ∷ ps) (d ∷ ds) m = (own m.0.1, match_own ps ds m.1) where
  kind : kind_of_row p.row ≡ d.kind
  kind = ap kind_of_row m.0.0 ∙ kind_of_long d.kind d.ticket

  own : (p.ticket ≡ None) ⊎ (p.ticket ≡ Some d.ticket) → IsOwnPut p
  own (inl none) = λ t e. absurd (none_some t (sym none ∙ e))
  own (inr some) = λ t e. m.0.0 ∙ (ap (λ k. long_row k d.ticket) (sym kind) ∙ ap (long_row (kind_of_row p.row)) (same_some d.ticket t (sym some ∙ e)))

abbrev IsOwnPlace : Placed → Type 0
IsOwnPlace p = Each IsOwnPut (long_put p.line p.entry)

own_places : (ps : List Placed) → Each IsOwnPut (all_puts ps) → Each IsOwnPlace ps
own_places [] own = tt
own_places (p ∷ ps) own =
    (each_front IsOwnPut (long_put p.line p.entry) (all_puts ps) own, own_places ps (each_behind IsOwnPut (long_put p.line p.entry) (all_puts ps) own))

own_kind : (kind : ℕ) (ps : List LongPut) → Each IsOwnPut ps → Each (IsAtOwn kind) (filter (of_kind kind) ps)
own_kind kind [] own = tt
own_kind kind (p ∷ ps) own = at (of_kind kind p) refl (own_kind kind ps own.1) where
  at : (b : Bool) → of_kind kind p ≡ b → Each (IsAtOwn kind) (filter (of_kind kind) ps) → Each (IsAtOwn kind) (cond b (p ∷ filter (of_kind kind) ps) (filter (of_kind kind) ps))
  at true q rest = ((λ t e. own.0 t e ∙ ap (λ k. long_row k t) (eqb-true (kind_of_row p.row) kind q)), rest)
  at false q rest = rest

own_puts : (kind : ℕ) (test : Placed → Bool) (ps : List Placed) → Each IsOwnPlace ps → Each (IsAtOwn kind) (long_puts kind (chosen test ps))
own_puts kind test [] own = tt
own_puts kind test (p ∷ ps) own = at (test p) (own_puts kind test ps own.1) where
  at : (b : Bool) → Each (IsAtOwn kind) (long_puts kind (chosen test ps)) → Each (IsAtOwn kind) (long_puts kind (cond b (p ∷ []) [] ++ chosen test ps))
  at true rest = each_join (IsAtOwn kind) (filter (of_kind kind) (long_put p.line p.entry)) (long_puts kind (chosen test ps)) (own_kind kind (long_put p.line p.entry) own.0) rest
  at false rest = rest

-- tickets that rise, and those of a kind among them that are shown
abbrev Up : ℕ → List ℕ → ℕ → Type 0
Up low [] top = low ≤ top
Up low (t ∷ ts) top = (low ≤ t) × Up (t + 1) ts top

up_then : (low mid top : ℕ) (xs ys : List ℕ) → Up low xs mid → Up mid ys top → Up low (xs ++ ys) top
up_then low mid top [] ys a b = up_low low mid top ys a b where
  up_low : (low mid top : ℕ) (ys : List ℕ) → low ≤ mid → Up mid ys top → Up low ys top
  up_low low mid top [] few b = omega (arith, few, b)
  up_low low mid top (y ∷ ys) few b = (omega (arith, few, b.0), b.1)
up_then low mid top (x ∷ xs) ys a b = (a.0, up_then (x + 1) mid top xs ys a.1 b)

abbrev kind_tickets : ℕ → List Draw → List ℕ
kind_tickets kind [] = []
kind_tickets kind (d ∷ ds) = cond (d.kind == kind) (d.ticket ∷ []) [] ++ kind_tickets kind ds

kinds_then : (kind : ℕ) (xs ys : List Draw) → kind_tickets kind (xs ++ ys) ≡ kind_tickets kind xs ++ kind_tickets kind ys
kinds_then kind [] ys = refl
kinds_then kind (x ∷ xs) ys = ap (λ z. cond (x.kind == kind) (x.ticket ∷ []) [] ++ z) (kinds_then kind xs ys) ∙ sym (append_assoc (cond (x.kind == kind) (x.ticket ∷ []) []) (kind_tickets kind xs) (kind_tickets kind ys))

calls_up : (kind : ℕ) (calls : List Call) → CallsRise calls → Up 0 (kind_tickets kind (drawn_in calls)) (top_ticket calls kind)
calls_up kind [] rise = omega arith
calls_up kind (call ∷ calls) rise =
    subst (λ z. Up 0 z (top_ticket (call ∷ calls) kind)) (sym (kinds_then kind (drawn_in calls) (draws_by call)))
    (up_then 0 (top_ticket calls kind) (top_ticket (call ∷ calls) kind) (kind_tickets kind (drawn_in calls)) (kind_tickets kind (draws_by call)) (calls_up kind calls rise.1) (one call rise)) where
      one : (call : Call) → CallsRise (call ∷ calls) → Up (top_ticket calls kind) (kind_tickets kind (draws_by call)) (top_ticket (call ∷ calls) kind)
      one (Draws k ticket) rise = at (k == kind) refl where
        at : (b : Bool) → (k == kind) ≡ b → Up (top_ticket calls kind) (cond b (ticket ∷ []) [] ++ []) (cond b (ticket + 1) (top_ticket calls kind))
        at true e = (omega (arith, rise.0, ap (top_ticket calls) (eqb-true k kind e)), omega arith)
        at false e = omega arith
      one (Adds row amount answer) rise = omega arith
      one (Rings row content answer) rise = omega arith
      one (Reads row seen) rise = omega arith
      one (Loads word version flags) rise = omega arith
      one (Takes row version found) rise = omega arith
      one (Puts row content version) rise = omega arith
      one (Frees row version) rise = omega arith
      one (Sets word flags version) rise = omega arith
      one (Enters label labels) rise = omega arith
      one Leaves rise = omega arith
      one (Meets versions) rise = omega arith

abbrev Rises : ℕ → List ℕ → Type 0
Rises low [] = Unit {0}
Rises low (t ∷ ts) = (low ≤ t) × Rises (t + 1) ts

rises_lower : (few low : ℕ) (ts : List ℕ) → few ≤ low → Rises low ts → Rises few ts
rises_lower few low [] h r = tt
rises_lower few low (t ∷ ts) h r = (omega (arith, h, r.0), r.1)

match_rises : (kind low top : ℕ) (ps : List LongPut) (ds : List Draw) → Match ps ds → Up low (kind_tickets kind ds) top → Rises low (tickets_shown (filter (of_kind kind) ps))
match_rises kind low top [] [] m u = tt
match_rises kind low top [] (d ∷ ds) m u = absurd m
match_rises kind low top (p ∷ ps) [] m u = absurd m
match_rises kind low top (p ∷ ps) (d ∷ ds) m u = at (of_kind kind p) refl u (λ next rest. match_rises kind next top ps ds m.1 rest) where
  own : of_kind kind p ≡ (d.kind == kind)
  own = ap (λ r. kind_of_row r == kind) m.0.0 ∙ ap (λ k. k == kind) (kind_of_long d.kind d.ticket)

  shown : (o : Option ℕ) → (o ≡ None) ⊎ (o ≡ Some d.ticket) → low ≤ d.ticket → Rises (d.ticket + 1) (tickets_shown (filter (of_kind kind) ps)) → Rises low (ticket_shown o ++ tickets_shown (filter (of_kind kind) ps))
  shown o (inl none) h r = subst (λ z. Rises low (ticket_shown z ++ tickets_shown (filter (of_kind kind) ps))) (sym none) (rises_lower low (d.ticket + 1) (tickets_shown (filter (of_kind kind) ps)) (omega (arith, h)) r)
  shown o (inr some) h r = subst (λ z. Rises low (ticket_shown z ++ tickets_shown (filter (of_kind kind) ps))) (sym some) (h, r)

  at : (b : Bool) → of_kind kind p ≡ b → Up low (cond (d.kind == kind) (d.ticket ∷ []) [] ++ kind_tickets kind ds) top
      → ((next : ℕ) → Up next (kind_tickets kind ds) top → Rises next (tickets_shown (filter (of_kind kind) ps)))
      → Rises low (tickets_shown (cond b (p ∷ filter (of_kind kind) ps) (filter (of_kind kind) ps)))
  at true e u go =
      let v : Up low (d.ticket ∷ kind_tickets kind ds) top = subst (λ b. Up low (cond b (d.ticket ∷ []) [] ++ kind_tickets kind ds) top) (sym own ∙ e) u in
      shown p.ticket m.0.1 v.0 (go (d.ticket + 1) v.1)
  at false e u go = go low (subst (λ b. Up low (cond b (d.ticket ∷ []) [] ++ kind_tickets kind ds) top) (sym own ∙ e) u)

are_rising : (low : ℕ) (ts : List ℕ) → Rises low ts → AreRisingTickets ts
are_rising low [] r = tt
are_rising low (t ∷ []) r = tt
are_rising low (t ∷ (u ∷ ts)) r = (omega (arith, r.1.0), are_rising (t + 1) (u ∷ ts) r.1)

-- a session's block of a phase
module _ (told : ToldLaw) (session phase kind stack : ℕ) (depths : ℕ → ℕ) where
  abbrev own_test : Placed → Bool
  own_test p = p.session == session

  abbrev phase_test : Placed → Bool
  phase_test p = p.phase == phase

  abbrev Mine : List Placed → List Placed
  Mine ps = by_session session (in_phase phase ps)

  mine_then : (xs ys : List Placed) → Mine (xs ++ ys) ≡ Mine xs ++ Mine ys
  mine_then xs ys = ap (by_session session) (chosen_then phase_test xs ys) ∙ chosen_then own_test (in_phase phase xs) (in_phase phase ys)

  none_of : (p s : ℕ) (ps : List Placed) → (s ≡ session → p ≡ phase → ⊥) → Each (IsOf p s) ps → Mine ps ≡ []
  none_of p s [] not each = refl
  none_of p s (q ∷ ps) not each = at (q.phase == phase) (q.session == session) refl refl (none_of p s ps not each.1) where
    at : (a b : Bool) → (q.phase == phase) ≡ a → (q.session == session) ≡ b → Mine ps ≡ [] → by_session session (cond a (q ∷ []) [] ++ in_phase phase ps) ≡ []
    at true true e f rest = absurd (not (sym each.0.1 ∙ eqb-true q.session session f) (sym each.0.0 ∙ eqb-true q.phase phase e))
    at true false e f rest = ap (λ b. cond b (q ∷ []) [] ++ Mine ps) f ∙ rest
    at false b e f rest = rest

  whole_of : (ps : List Placed) → Each (IsOf phase session) ps → Mine ps ≡ ps
  whole_of [] each = refl
  whole_of (q ∷ ps) each =
      ap (λ a. by_session session (cond a (q ∷ []) [] ++ in_phase phase ps)) (ap (λ n. n == phase) each.0.0 ∙ eq-eqb phase phase refl)
      ∙ (ap (λ b. cond b (q ∷ []) [] ++ Mine ps) (ap (λ n. n == session) each.0.1 ∙ eq-eqb session session refl) ∙ ap (λ z. q ∷ z) (whole_of ps each.1))

  abbrev Fact : Spell → Type 0
  Fact spell = Each IsPlaced (doings_calls spell.doings) × CallsRise (doings_calls spell.doings)

  abbrev Shown : List Placed → List ℕ
  Shown ps = tickets_shown (long_puts kind ps)

  mine_none : (earlier : List Stint) (low : ℕ) (spells : List Spell) → AllSit stack depths earlier → AreStintsBehind stack depths earlier low (stints_of spells) → Each (λ x. x.session ≡ session → x.phase ≡ phase → ⊥) spells
      → Mine (places_behind (blocks_of earlier) (blocks_of (stints_of spells))) ≡ []
  unfolding places_behind
  mine_none earlier low [] all are not = refl
  mine_none earlier low (spell ∷ spells) all are not =
      let k : ℕ = spell.session in
      let stint : Stint = stint_of spell in
      let ps : List Part = parts_in spell.doings in
      let context : Context = told_by k empty (blocks_of earlier) in
      let s : State = state_by k (fresh k stack (depths k)) earlier in
      let t = told context s ps (all k) are.1.are_parts in
      let here : List Placed = placed_lines spell.phase k context (lines_of ps) (entries_of ps) in
      let later : List Block = blocks_of (stints_of spells) in
      let rest : List Placed = places_behind (blocks_of earlier ++ block_of stint ∷ []) later in
      let r = mine_none (earlier ++ stint ∷ []) spell.phase spells (sit_next stack depths earlier stint all (λ thread q. t.sits thread q)) are.2 not.1 in
      mine_then here rest ∙ (ap (λ z. z ++ Mine rest) (none_of spell.phase k here not.0 (lines_are spell.phase k context (lines_of ps) (entries_of ps)))
      ∙ subst (λ z. Mine (places_behind z later) ≡ []) (blocks_more earlier stint) r)

  mine_rises : (earlier : List Stint) (low : ℕ) (spells : List Spell) → AllSit stack depths earlier → AreStintsBehind stack depths earlier low (stints_of spells) → AreSingle spells → Each Fact spells
      → Rises 0 (Shown (Mine (places_behind (blocks_of earlier) (blocks_of (stints_of spells)))))
  unfolding places_behind
  mine_rises earlier low [] all are single facts = tt
  mine_rises earlier low (spell ∷ spells) all are single facts =
      let k : ℕ = spell.session in
      let stint : Stint = stint_of spell in
      let ps : List Part = parts_in spell.doings in
      let context : Context = told_by k empty (blocks_of earlier) in
      let s : State = state_by k (fresh k stack (depths k)) earlier in
      let t = told context s ps (all k) are.1.are_parts in
      let here : List Placed = placed_lines spell.phase k context (lines_of ps) (entries_of ps) in
      let later : List Block = blocks_of (stints_of spells) in
      let rest : List Placed = places_behind (blocks_of earlier ++ block_of stint ∷ []) later in
      let sit = sit_next stack depths earlier stint all (λ thread q. t.sits thread q) in
      let to = blocks_more earlier stint in
      let next = mine_rises (earlier ++ stint ∷ []) spell.phase spells sit are.2 single.1 facts.1 in
      let on : Rises 0 (Shown (Mine rest)) = subst (λ z. Rises 0 (Shown (Mine (places_behind z later)))) to next in
      elim (cases_eq k session) [
        | inl same ↦ (elim (cases_eq spell.phase phase) [
          | inl now ↦
              let none : Mine rest ≡ [] = subst (λ z. Mine (places_behind z later) ≡ []) to (mine_none (earlier ++ stint ∷ []) spell.phase spells sit are.2 (each_map (λ other. other.session ≡ k → other.phase ≡ spell.phase → ⊥) (λ x. x.session ≡ session → x.phase ≡ phase → ⊥)
              (λ x not e f. not (e ∙ sym same) (f ∙ sym now)) spells single.0)) in
              let mine : Mine here ≡ here = whole_of here (subst (λ p. Each (IsOf p session) here) now (subst (λ q. Each (IsOf spell.phase q) here) same (lines_are spell.phase k context (lines_of ps) (entries_of ps)))) in
              let is : Mine (here ++ rest) ≡ here = mine_then here rest ∙ (ap (λ z. z ++ Mine rest) mine ∙ (ap (λ z. here ++ z) none ∙ append-nil here)) in
              subst (λ z. Rises 0 (Shown z)) (sym is) (subst (λ z. Rises 0 (tickets_shown z)) (sym (kind_puts kind here))
              (match_rises kind 0 (top_ticket (doings_calls spell.doings) kind) (all_puts here) (drawn_in (doings_calls spell.doings)) (block_match spell.phase k context s spell.doings are.1.are_parts facts.0.0) (calls_up kind (doings_calls spell.doings) facts.0.1)))
          | inr apart ↦ moved_on spell rest here (lines_are spell.phase k context (lines_of ps) (entries_of ps)) (λ e f. apart f) on
        ])
        | inr apart ↦ moved_on spell rest here (lines_are spell.phase k context (lines_of ps) (entries_of ps)) (λ e f. apart e) on
      ] where
        moved_on : (spell : Spell) (rest here : List Placed) → Each (IsOf spell.phase spell.session) here → (spell.session ≡ session → spell.phase ≡ phase → ⊥) → Rises 0 (Shown (Mine rest)) → Rises 0 (Shown (Mine (here ++ rest)))
        moved_on spell rest here each not r = subst (λ z. Rises 0 (Shown z)) (sym (mine_then here rest ∙ ap (λ z. z ++ Mine rest) (none_of spell.phase spell.session here not each))) r

-- all of a phase
module _ (told : ToldLaw) (weights : WeighedLaw) (flags : List ℕ) (stack : ℕ) (depths : ℕ → ℕ) (spells : List Spell) (last : ℕ) (are : AreSpells stack depths spells) (shared : AreShared flags spells) (placed : AllPlaced spells) (single : AreSingle spells)
    (low : Each (λ spell. spell.phase ≤ last) spells) (phase kind : ℕ) where
  abbrev all : List Placed
  all = all_entries spells

  abbrev now : List (List Call)
  now = actors_of (spells_at phase spells)

  abbrev before : List (List Call)
  before = actors_of (spells_before phase spells)

  rises : Each (λ spell. CallsRise (doings_calls spell.doings)) spells
  rises = each_spell CallsRise last spells low (calls_front CallsRise (actors_of (spells_at last spells)) (actors_of (spells_before last spells)) (shared last).order.rising)
      (calls_back CallsRise (actors_of (spells_at last spells)) (actors_of (spells_before last spells)) (shared last).order.rising)

  abbrev HasPlaced : Spell → Type 0
  HasPlaced spell = Each IsPlaced (doings_calls spell.doings)

  are_placed : Each HasPlaced spells
  are_placed = each_actor (Each IsPlaced) spells placed

  abbrev weighed : (ℕ → Bool) → List Call → ℕ
  weighed test calls = total (λ d. one_if (of_draw kind test d)) (draws_of calls)

  -- the tickets that were drawn before the phase, and up to it
  abbrev first : ℕ
  first = drawn (begun flags spells shared phase).draws kind

  abbrev next : ℕ
  next = drawn (shared phase).draws kind

  in_before : (test : ℕ → Bool) → over (weighed test) before ≡ sum_to test first
  in_before test = (begun flags spells shared phase).same (λ d. one_if (of_draw kind test d)) ∙ drawn_sum kind test (begun flags spells shared phase).draws (begun flags spells shared phase).drawn_is

  in_all : (test : ℕ → Bool) → over (weighed test) now + over (weighed test) before ≡ sum_to test next
  in_all test =
      let h : Draw → ℕ = λ d. one_if (of_draw kind test d) in
      let d = drawn_sum kind test (shared phase).draws (shared phase).joint.tickets in
      omega (arith, over_then (weighed test) now before, over_actors (weighed test) (draws_add h) (now ++ before), (shared phase).joint.draws_once h, d)

  -- what is printed of them
  module _ (g : ℕ → Bool) where
    abbrev counted_puts : List Placed → ℕ
    counted_puts ps = times (λ p. of_kind kind p && g p.row) (all_puts ps)

    puts_sum : IsSum counted_puts
    puts_sum = record { none = refl; both = λ xs ys. ap (times (λ p. of_kind kind p && g p.row)) (all_puts_then xs ys) ∙ times_both (λ p. of_kind kind p && g p.row) (all_puts xs) (all_puts ys) }

    abbrev own_draws : Spell → ℕ
    own_draws spell = weighed (λ t. g (long_row kind t)) (doings_calls spell.doings)

    puts_related : (context : Context) (s : State) (spell : Spell) → AreParts s (parts_in spell.doings) → HasPlaced spell
        → counted_puts (placed_lines spell.phase spell.session context (lines_of (parts_in spell.doings)) (entries_of (parts_in spell.doings))) ≡ own_draws spell
    puts_related context s spell parts p =
        match_kind kind g (all_puts (placed_lines spell.phase spell.session context (lines_of (parts_in spell.doings)) (entries_of (parts_in spell.doings)))) (drawn_in (doings_calls spell.doings))
        (block_match spell.phase spell.session context s spell.doings parts p) ∙ draws_total (of_draw kind (λ t. g (long_row kind t))) (doings_calls spell.doings)

    by_pick : (pick : ℕ → Bool) → counted_puts (chosen (λ p. pick p.phase) all) ≡ sum_of pick own_draws spells
    by_pick pick = picked told (λ a b. a ≡ b) same_kept counted_puts puts_sum own_draws HasPlaced puts_related pick stack depths [] 0 spells (λ k thread q. q) are.stints are_placed

    puts_in_phase : times (λ p. g p.row) (long_puts kind (in_phase phase all)) ≡ over (weighed (λ t. g (long_row kind t))) now
    puts_in_phase =
        ap (times (λ p. g p.row)) (kind_puts kind (in_phase phase all)) ∙ (filter_times (of_kind kind) (λ p. g p.row) (all_puts (in_phase phase all))
        ∙ (by_pick (λ q. q == phase) ∙ sym (at_sum (weighed (λ t. g (long_row kind t))) phase spells)))

  puts_many : (pick : ℕ → Bool) → length (long_puts kind (chosen (λ p. pick p.phase) all)) ≡ sum_of pick (λ spell. weighed (λ t. true) (doings_calls spell.doings)) spells
  puts_many pick =
      ap length (kind_puts kind (chosen (λ p. pick p.phase) all)) ∙ (filter_length (of_kind kind) (all_puts (chosen (λ p. pick p.phase) all))
      ∙ (always kind (all_puts (chosen (λ p. pick p.phase) all)) ∙ by_pick (λ r. true) pick))

  many_before : length (long_puts kind (before_phase phase all)) ≡ first
  many_before = puts_many (λ q. nat_lt q phase) ∙ (sym (before_sum (weighed (λ t. true)) phase spells) ∙ (in_before (λ t. true) ∙ sum_whole first))

  many_now : length (long_puts kind (in_phase phase all)) + first ≡ next
  many_now = omega (arith, puts_many (λ q. q == phase), at_sum (weighed (λ t. true)) phase spells, in_before (λ t. true), sum_whole first, in_all (λ t. true), sum_whole next)

  many_up_to : length (long_puts kind (up_to_phase phase all)) ≡ next
  many_up_to =
      omega (arith, puts_many (λ q. nat_le q phase), up_to_sum (weighed (λ t. true)) phase spells, at_sum (weighed (λ t. true)) phase spells, before_sum (weighed (λ t. true)) phase spells, in_all (λ t. true), sum_whole next)

  -- tickets that are shown
  module _ (ticket : ℕ) where
    abbrev shown_in : List Placed → ℕ
    shown_in ps = times (λ t. t == ticket) (tickets_shown (long_puts kind ps))

    shown_sum : IsSum shown_in
    shown_sum = record {
      none = refl;
      both = λ xs ys. ap (λ z. times (λ t. t == ticket) (tickets_shown z)) (long_then kind xs ys)
          ∙ (ap (times (λ t. t == ticket)) (shown_then (long_puts kind xs) (long_puts kind ys)) ∙ times_both (λ t. t == ticket) (tickets_shown (long_puts kind xs)) (tickets_shown (long_puts kind ys)));
    }

    shown_related : (context : Context) (s : State) (spell : Spell) → AreParts s (parts_in spell.doings) → HasPlaced spell
        → shown_in (placed_lines spell.phase spell.session context (lines_of (parts_in spell.doings)) (entries_of (parts_in spell.doings))) ≤ weighed (λ t. t == ticket) (doings_calls spell.doings)
    shown_related context s spell parts p =
        let here : List Placed = placed_lines spell.phase spell.session context (lines_of (parts_in spell.doings)) (entries_of (parts_in spell.doings)) in
        let m = match_shown kind ticket (all_puts here) (drawn_in (doings_calls spell.doings)) (block_match spell.phase spell.session context s spell.doings parts p) in
        omega (arith, m, ap (λ z. times (λ t. t == ticket) (tickets_shown z)) (kind_puts kind here), draws_total (of_draw kind (λ t. t == ticket)) (doings_calls spell.doings))

    shown_now : shown_in (in_phase phase all) ≤ over (weighed (λ t. t == ticket)) now
    shown_now =
        let w = picked told (λ a b. a ≤ b) low_kept shown_in shown_sum (λ spell. weighed (λ t. t == ticket) (doings_calls spell.doings)) HasPlaced shown_related (λ q. q == phase) stack depths [] 0 spells (λ k thread q. q) are.stints are_placed in
        omega (arith, w, at_sum (weighed (λ t. t == ticket)) phase spells)

    one_of : (b : Bool) → one_if b ≤ 1
    one_of true = omega arith
    one_of false = omega arith

    shown_once : shown_in (in_phase phase all) ≤ 1
    shown_once = omega (arith, shown_now, in_all (λ t. t == ticket), sum_one ticket next, one_of (nat_lt ticket next))

    among_shown : (ts : List ℕ) → IsAmong ticket ts → 0 < times (λ t. t == ticket) ts
    among_shown [] is = absurd is
    among_shown (t ∷ ts) (inl e) = omega (arith, ap (λ b. cond {A = ℕ} b 1 0) (eq-eqb t ticket e))
    among_shown (t ∷ ts) (inr is) = omega (arith, among_shown ts is)

    low_if : (a b : ℕ) → one_if (nat_lt ticket a) ≡ 0 → a ≤ ticket
    low_if a b e = grind (arith, e)

    high_if : (a : ℕ) → 0 < one_if (nat_lt ticket a) → ticket < a
    high_if a e = grind (arith, e)

    shown_drawn : IsAmong ticket (tickets_shown (long_puts kind (in_phase phase all))) → (first ≤ ticket) × (ticket < next)
    shown_drawn is =
        let some = among_shown (tickets_shown (long_puts kind (in_phase phase all))) is in (
          low_if first first (omega (arith, some, shown_now, in_all (λ t. t == ticket), in_before (λ t. t == ticket), sum_one ticket first, sum_one ticket next, one_of (nat_lt ticket next))),
          high_if next (omega (arith, some, shown_now, in_all (λ t. t == ticket), sum_one ticket next)),
        )

  own_all : Each IsOwnPlace all
  own_all =
      blocks_each told weights IsOwnPlace HasPlaced
      (λ context s spell sits parts p. (let here : List Placed = placed_lines spell.phase spell.session context (lines_of (parts_in spell.doings)) (entries_of (parts_in spell.doings)) in
      own_places here (match_own (all_puts here) (drawn_in (doings_calls spell.doings)) (block_match spell.phase spell.session context s spell.doings parts p))))
      stack depths [] 0 spells (λ k thread q. q) are.stints are_placed

  pub are_tickets : AreTickets all phase kind
  are_tickets = record {
    placed = λ row.
        (let m : ℕ = length (long_puts kind (in_phase phase all)) in
        let now_is = puts_in_phase (λ r. r == row) in
        let rows = sum_rows kind row first m in
        let both : first + m ≡ next = omega (arith, many_now) in
        let upto : sum_to (λ t. long_row kind t == row) (first + m) ≡ sum_to (λ t. long_row kind t == row) next = ap (sum_to (λ t. long_row kind t == row)) both in
        let here : times (λ put. put.row == row) (long_puts kind (in_phase phase all)) ≡ tickets_of_row kind row first m = omega (arith, now_is, rows, upto, in_all (λ t. long_row kind t == row), in_before (λ t. long_row kind t == row)) in
        here ∙ sym (ap (λ n. tickets_of_row kind row n m) many_before));
    own = own_puts kind (λ p. p.phase == phase) all own_all;
    once = shown_once;
    drawn = λ ticket is. (omega (arith, (shown_drawn ticket is).0, many_before), omega (arith, (shown_drawn ticket is).1, many_up_to));
    rising = λ session. are_rising 0 (tickets_shown (long_puts kind (by_session session (in_phase phase all))))
        (mine_rises told session phase kind stack depths [] 0 spells (λ k thread q. q) are.stints single (each_two are_placed rises));
  } where
    each_two : Each HasPlaced spells → Each (λ spell. CallsRise (doings_calls spell.doings)) spells → Each (λ spell. HasPlaced spell × CallsRise (doings_calls spell.doings)) spells
    each_two a b = each_both HasPlaced (λ spell. CallsRise (doings_calls spell.doings)) (λ spell. HasPlaced spell × CallsRise (doings_calls spell.doings)) (λ x p q. (p, q)) spells a b

pub tickets_kept : ToldLaw → WeighedLaw → TicketedLaw
tickets_kept told weights = λ flags stack depths spells last are shared placed single low phase kind up. are_tickets told weights flags stack depths spells last are shared placed single low phase kind
