-- What is written to a ring stands at one of its rows: the rows of cells are changed by additions, takes and gives
-- alone.
use Rattle.std.proofs.Common.{◌≡◌, refl, ℕ, ◌+◌, ◌*◌, ◌%◌, ◌≤◌, Bool, true, false, cond, List, [], ◌∷◌, ◌++◌, Option, Some, None, sym, ap, subst, ◌∙◌, arith}
use Rattle.std.proofs.lemmas.Bool.{eqb-true}
use Rattle.pfs_model.proofs.EachLists.{each_join}
use Rattle.pfs_event.specs.Verdicts.{is_let_through}
use Rattle.pfs_event.specs.declared.entry.Entry.{Entry}
use Rattle.pfs_event.specs.declared.entry.Entry.TheVariants as says
use Rattle.pfs_model.specs.EntryAsks.{is_head, cell_row, digest_row}
use Rattle.pfs_model.specs.Causes.{long_row}
use Rattle.pfs_model.specs.Chains.{Each}
use Rattle.pfs_model.specs.Contexts.{Context, fresh, subject_of, noted, turned, after}
use Rattle.pfs_model.specs.JournalCuts.{AreShaped}
use Rattle.pfs_model.specs.EntryPlaces.{Block, Placed, placed_part, placed_lines, told_by, places_behind, places, AreShapedBehind, IsShaped}
use Rattle.pfs_model.specs.Puts.{Due, Adds, Puts, PutsLong, is_paid, due_if, in_slot, current_due, history_place, history_dues, dues_at_end, dues_at_start, behind_it, ArePaid, IsBrought, AreBroughtBehind}
use Rattle.pfs_event.specs.declared.kind.EventKind.{EventKind}
use Rattle.pfs_event.specs.declared.kind.EventKind.TheVariants as kinds
use Rattle.pfs_model.specs.Rings.{ring_number, history_row, current_row, has_kind, place_of_start}
use Rattle.pfs_model.specs.SetupFlags.{open_through, is_digested, is_offered_current, is_offered_at_end, history_consumer, long_consumer}
use Rattle.pfs_model.specs.Shapes.{shape, counted_slot}
use Rattle.pfs_model.specs.declared.lines.Line.{Line}
use Rattle.pfs_model.specs.declared.lines.Opened.{Opened}
use Rattle.pfs_law_conservation.proofs.PutSources.{is_write, is_event, in_hand, ArePut, cut_put, shape_puts}

-- the row of a write is past those of cells
abbrev pub IsHigh : Entry → Type 0
IsHigh (says.Ring row version) = 8450 ≤ row
IsHigh (says.Long row version ticket) = 8450 ≤ row
IsHigh _ = Unit {0}

abbrev pub IsHighDue : Due → Type 0
IsHighDue (Puts row) = 8450 ≤ row
IsHighDue due = Unit {0}

-- what is due is written at such rows
high_paid : (due : Due) (e : Entry) → IsHighDue due → is_paid due e ≡ true → IsHigh e
high_paid (Adds row) (says.Ring at version) h p = absurd (cc)
high_paid (Adds row) (says.Long at version ticket) h p = absurd (cc)
high_paid (Puts row) (says.Ring at version) h p = let e : at ≡ row = eqb-true at row p in let l : 8450 ≤ row = h in omega (arith, e, l)
high_paid (Puts row) (says.Long at version ticket) h p = absurd (cc)
high_paid (PutsLong kind) (says.Ring at version) h p = absurd (cc)
high_paid (PutsLong kind) (says.Long at version ticket) h p = let e : at ≡ 10242 + 1000 * kind + ticket % 1000 = eqb-true at (long_row kind ticket) p in omega (arith, e)
high_paid due _ h p = tt

high_all : (dues : List Due) (entries : List Entry) → Each IsHighDue dues → ArePaid dues entries → Each IsHigh entries
high_all [] [] h p = tt
high_all [] (e ∷ es) h p = absurd p
high_all (due ∷ dues) [] h p = absurd p
high_all (due ∷ dues) (e ∷ es) h p = (high_paid due e h.0 p.0, high_all dues es h.1 p.1)

high_if : (asked : Bool) (due : Due) → IsHighDue due → Each IsHighDue (due_if asked due)
high_if true due h = (h, tt)
high_if false due h = tt

high_slot : (slot : Option ℕ) (dues : ℕ → List Due) → ((own : ℕ) → Each IsHighDue (dues own)) → Each IsHighDue (in_slot slot dues)
high_slot None dues h = tt
high_slot (Some own) dues h = h own

high_current : (flags : ℕ → ℕ → ℕ) (slot : Option ℕ) (event : Opened) (others : List Opened) → Each IsHighDue (current_due flags slot event others)
high_current flags slot event others =
    high_slot slot (λ own. due_if (is_offered_current flags slot event) (Puts (place_of_start own event.subject.kind others)))
    (λ own. high_if (is_offered_current flags slot event) (Puts (place_of_start own event.subject.kind others)) (high own event.subject.kind others)) where
      row : (own depth : ℕ) (kind : EventKind) → 8450 ≤ current_row own kind depth
      row own depth kinds.Wait = omega arith
      row own depth kinds.Stage = omega arith
      row own depth kinds.Statement = omega arith
      row own depth kinds.Transaction = omega arith

      high : (own : ℕ) (kind : EventKind) (others : List Opened) → 8450 ≤ place_of_start own kind others
      high own kind others = row own (open_through (has_kind kind) others) kind

high_history : (slot kind put : ℕ) → 8450 ≤ history_row slot kind put
high_history slot kind put = omega arith

high_histories : (flags : ℕ → ℕ → ℕ) (earlier : List Placed) (p : Placed) (event : Opened) (consumers thread : Option ℕ) → Each IsHighDue (history_dues flags earlier p event consumers thread)
high_histories flags earlier p event consumers thread =
    high_slot p.context.slot _
    (λ own. each_join IsHighDue (due_if (is_offered_at_end history_consumer flags p.context.slot event consumers thread) (Puts (history_place earlier p.session own (ring_number event.subject.kind)))) _
    (high_if (is_offered_at_end history_consumer flags p.context.slot event consumers thread) (Puts (history_place earlier p.session own (ring_number event.subject.kind))) (high_history own (ring_number event.subject.kind) _))
    (high_if (is_offered_at_end long_consumer flags p.context.slot event consumers thread) (PutsLong (ring_number event.subject.kind)) tt))

-- behind the end of an event
high_end : (flags : ℕ → ℕ → ℕ) (earlier : List Placed) (p : Placed) (opened : List Opened) (consumers thread : Option ℕ) → Each IsHighDue (dues_at_end flags earlier p opened consumers thread)
high_end flags earlier p [] consumers thread = tt
high_end flags earlier p (event ∷ others) consumers thread = at (is_let_through event.verdict) where
  all : Each IsHighDue (due_if (is_digested flags p.context.slot event) (Adds (digest_row event.subject.digest)) ++ (current_due flags p.context.slot event others ++ history_dues flags earlier p event consumers thread))
  all = each_join IsHighDue (due_if (is_digested flags p.context.slot event) (Adds (digest_row event.subject.digest))) (current_due flags p.context.slot event others ++ history_dues flags earlier p event consumers thread)
      (high_if (is_digested flags p.context.slot event) (Adds (digest_row event.subject.digest)) tt)
      (each_join IsHighDue (current_due flags p.context.slot event others) (history_dues flags earlier p event consumers thread) (high_current flags p.context.slot event others) (high_histories flags earlier p event consumers thread))

  at : (b : Bool) → Each IsHighDue (cond b (Adds (cell_row (counted_slot p.context.slot event.verdict) event.subject.cell) ∷ (due_if (is_digested flags p.context.slot event) (Adds (digest_row event.subject.digest)) ++ (current_due flags p.context.slot event others ++ history_dues flags earlier p event consumers thread))) [])
  at true = (tt, all)
  at false = tt

-- and behind a start
high_start : (flags : ℕ → ℕ → ℕ) (slot : Option ℕ) (opened : List Opened) → Each IsHighDue (dues_at_start flags slot opened)
high_start flags slot [] = tt
high_start flags slot (event ∷ others) = high_current flags slot event others

high_behind : (flags : ℕ → ℕ → ℕ) (earlier : List Placed) (p : Placed) (e : Entry) (behind : List Entry) → is_event e ≡ true → IsBrought flags earlier p e behind → Each IsHigh behind
high_behind flags earlier p (says.Start event verdict consumers thread class table) behind i b = high_all _ behind (high_start flags p.context.slot _) b
high_behind flags earlier p (says.End event last consumers thread) behind i b = high_all _ behind (high_end flags earlier p p.context.opened consumers thread) b
high_behind flags earlier p _ behind i b = absurd (cc)

-- entries where each write stands behind its event
abbrev pub ArePutPlaces : Bool → List Placed → Type 0
ArePutPlaces hand [] = Unit {0}
ArePutPlaces hand (p ∷ ps) = (hand ≡ false → is_write p.entry ≡ false) × ArePutPlaces (in_hand hand p.entry) ps

more_places : (hand : Bool) (ps : List Placed) → ArePutPlaces false ps → ArePutPlaces hand ps
more_places false ps h = h
more_places true [] h = tt
more_places true (p ∷ ps) h = ((λ q. absurd (cc)), at (is_head p.entry) refl h.1 (more_places true ps)) where
  at : (b : Bool) → is_head p.entry ≡ b → ArePutPlaces (cond (is_head p.entry) (is_event p.entry) false) ps → (ArePutPlaces false ps → ArePutPlaces true ps) → ArePutPlaces (cond (is_head p.entry) (is_event p.entry) true) ps
  at true q r go = subst (λ z. ArePutPlaces (cond z (is_event p.entry) true) ps) (sym q) (subst (λ z. ArePutPlaces (cond z (is_event p.entry) false) ps) q r)
  at false q r go = subst (λ z. ArePutPlaces (cond z (is_event p.entry) true) ps) (sym q) (go (subst (λ z. ArePutPlaces (cond z (is_event p.entry) false) ps) q r))

then_places : (hand : Bool) (xs ys : List Placed) → ArePutPlaces hand xs → ArePutPlaces false ys → ArePutPlaces hand (xs ++ ys)
then_places hand [] ys a b = more_places hand ys b
then_places hand (x ∷ xs) ys a b = (a.0, then_places (in_hand hand x.entry) xs ys a.1 b)

part_places : (phase session : ℕ) (line : Line) (c : Context) (entries : List Entry) (hand : Bool) → ArePut hand entries → ArePutPlaces hand (placed_part phase session line c entries)
part_places phase session line c [] hand a = tt
part_places phase session line c (e ∷ es) hand a = (a.0, part_places phase session line (noted (subject_of line) c e) es (in_hand hand e) a.1)

lines_places : (phase session : ℕ) (c : Context) (lines : List Line) (parts : List (List Entry)) → AreShaped c lines parts → ArePutPlaces false (placed_lines phase session c lines parts)
lines_places phase session c [] parts s = tt
lines_places phase session c (line ∷ lines) [] s = tt
lines_places phase session c (line ∷ lines) (part ∷ parts) s =
    then_places false (placed_part phase session line (turned c) part) (placed_lines phase session (after c line part) lines parts)
    (part_places phase session line (turned c) part false (cut_put (shape c line) part false (shape_puts c line) s.0))
    (lines_places phase session (after c line part) lines parts s.1)

blocks_places : (earlier blocks : List Block) (phase : ℕ) → AreShapedBehind earlier phase blocks → ArePutPlaces false (places_behind earlier blocks)
unfolding places_behind
blocks_places earlier [] phase s = tt
blocks_places earlier (b ∷ blocks) phase s =
    then_places false (placed_lines b.phase b.session (told_by b.session fresh earlier) b.lines b.parts) (places_behind (earlier ++ b ∷ []) blocks)
    (lines_places b.phase b.session (told_by b.session fresh earlier) b.lines b.parts s.1)
    (blocks_places (earlier ++ b ∷ []) blocks b.phase s.2)

no_write : (e : Entry) → is_write e ≡ false → IsHigh e
no_write (says.Ring row version) w = absurd (cc)
no_write (says.Long row version ticket) w = absurd (cc)
no_write _ w = tt

head_high : (e : Entry) → is_head e ≡ true → IsHigh e
head_high (says.Ring row version) w = absurd (cc)
head_high (says.Long row version ticket) w = absurd (cc)
head_high _ w = tt

walk_high : (flags : ℕ → ℕ → ℕ) (earlier ps : List Placed) (hand : Bool) → ArePutPlaces hand ps → AreBroughtBehind flags earlier ps → (hand ≡ true → Each IsHigh (behind_it ps)) → Each (λ (p : Placed). IsHigh p.entry) ps
walk_high flags earlier [] hand a b h = tt
walk_high flags earlier (p ∷ ps) hand a b h = at (is_head p.entry) refl (walk_high flags (p ∷ earlier) ps (in_hand hand p.entry) a.1 b.1) where
  event : (c : Bool) → is_event p.entry ≡ c → is_head p.entry ≡ true → is_event p.entry ≡ true → Each IsHigh (behind_it ps)
  event c e q i = high_behind flags earlier p p.entry (behind_it ps) i b.0

  on : (b : Bool) → is_head p.entry ≡ b → in_hand hand p.entry ≡ cond b (is_event p.entry) hand
  on b q = ap (λ z. cond z (is_event p.entry) hand) q

  here : (c : Bool) → hand ≡ c → is_head p.entry ≡ false → IsHigh p.entry
  here true e q = (subst (λ z. Each IsHigh (cond z [] (p.entry ∷ behind_it ps))) q (h e)).0
  here false e q = no_write p.entry (a.0 e)

  rest : hand ≡ true → is_head p.entry ≡ false → Each IsHigh (behind_it ps)
  rest e q = (subst (λ z. Each IsHigh (cond z [] (p.entry ∷ behind_it ps))) q (h e)).1

  at : (c : Bool) → is_head p.entry ≡ c → ((in_hand hand p.entry ≡ true → Each IsHigh (behind_it ps)) → Each (λ (p : Placed). IsHigh p.entry) ps) → IsHigh p.entry × Each (λ (p : Placed). IsHigh p.entry) ps
  at true q go = (head_high p.entry q, go (λ i. event (is_event p.entry) refl q (sym (on true q) ∙ i)))
  at false q go = (here hand refl q, go (λ i. rest (sym (on false q) ∙ i) q))

pub all_high : (flags : ℕ → ℕ → ℕ) (blocks : List Block) → IsShaped blocks → AreBroughtBehind flags [] (places blocks) → Each (λ (p : Placed). IsHigh p.entry) (places blocks)
all_high flags blocks s b = walk_high flags [] (places blocks) false (blocks_places [] blocks 0 s) b (λ q. absurd (cc))
