-- An event's home is the row of its cell, one of the kind's, and the kind's rows are those of cells.
use Rattle.std.proofs.Common.{◌≡◌, refl, ℕ, ◌<◌, ◌≤◌, ◌==◌, Bool, true, false, cond, List, [], ◌∷◌, ◌++◌, Option, Some, None, IfSome, sym, ap, subst, ◌∙◌, ◌⊎◌, inl, inr, arith}
use Rattle.pfs_model.proofs.EachLists.{each_join}
use Rattle.pfs_conservation.specs.KindSummaries.{home_at}
use Rattle.pfs_event.specs.declared.entry.Entry.{Entry}
use Rattle.pfs_event.specs.declared.entry.Entry.TheVariants as says
use Rattle.pfs_model.specs.EntryAsks.{cell_row}
use Rattle.pfs_model.specs.Chains.{Each}
use Rattle.pfs_model.specs.Contexts.{Context, fresh, subject_of, with_opened, noted, turned, after}
use Rattle.pfs_model.specs.EntryPlaces.{Block, Placed, placed_part, placed_lines, told_by, places_behind, places}
use Rattle.pfs_model.specs.Shapes.{counted_slot}
use Rattle.pfs_model.specs.SummaryCounts.{Names}
use Rattle.pfs_model.specs.declared.lines.Line.{Line}
use Rattle.pfs_model.specs.declared.lines.Opened.{Opened}
use Rattle.pfs_model.specs.declared.lines.Subject.{Subject}
use Rattle.pfs_event.specs.declared.verdict.Verdict.{Verdict}
use Rattle.pfs_event.specs.declared.verdict.Verdict.TheVariants.{Attributed}
use Rattle.pfs_rows.specs.Rows.{IsPlace, row_number, place_at}
use Rattle.pfs_rows.specs.declared.place.Place.{Place as Spot}
use Rattle.pfs_rows.specs.declared.place.Place.TheVariants.{Admin, ThreadInfo, AccountInfo, UserInfo, HostInfo, ThreadCell, AccountCell, UserCell, HostCell, GlobalCell, DigestNull, Digest, Ring, Long}
use Rattle.pfs_law_conservation.specs.KindRows.{seat_by, is_somewhere, is_kind_row, board}
use Rattle.pfs_law_conservation.specs.RunEvents.{Ended, ended_at, ended_first, all_ended, whose_at, whose_by}
use Rattle.pfs_law_conservation.specs.Premises.{IsSmall}
use Rattle.pfs_law_conservation.proofs.EntryWalk.{Comes, Follow, then_told}
use Rattle.pfs_law_conservation.proofs.EventNumbers.{which}
use Rattle.pfs_law_conservation.proofs.EventOffers.{home_row}
use Rattle.pfs_law_conservation.proofs.SlotMoves.{AreBack, AreFound, thread_kind, global_kind}

abbrev pub AreNone : Type 0
AreNone = (row : ℕ) → 14242 ≤ row → place_at row ≡ None

-- a kind's row is one of a cell
pub low_row : AreBack → AreFound → AreNone → (is_cell : ℕ → Bool) (row : ℕ) → is_kind_row is_cell row ≡ true → row < 8385
low_row back found none is_cell row k = on (which 14242 row) where
  by : (spot : Spot) → IsPlace spot → row_number spot ≡ row → is_somewhere (seat_by is_cell (Some spot)).place ≡ true → row < 8385
  by (ThreadCell slot cell) is e t = (let a : slot < 32 = is.0 in let b : cell < 64 = is.1 in omega (arith, a, b, e))
  by (AccountCell slot cell) is e t = (let a : slot < 32 = is.0 in let b : cell < 64 = is.1 in omega (arith, a, b, e))
  by (UserCell slot cell) is e t = (let a : slot < 32 = is.0 in let b : cell < 64 = is.1 in omega (arith, a, b, e))
  by (HostCell slot cell) is e t = (let a : slot < 32 = is.0 in let b : cell < 64 = is.1 in omega (arith, a, b, e))
  by (GlobalCell cell) is e t = (let b : cell < 64 = is in omega (arith, b, e))
  by Admin is e t = absurd (cc)
  by (ThreadInfo n) is e t = absurd (cc)
  by (AccountInfo n) is e t = absurd (cc)
  by (UserInfo n) is e t = absurd (cc)
  by (HostInfo n) is e t = absurd (cc)
  by DigestNull is e t = absurd (cc)
  by (Digest n) is e t = absurd (cc)
  by (Ring n m) is e t = absurd (cc)
  by (Long n m) is e t = absurd (cc)

  spotted : (spot : Spot) × IsPlace spot × (row_number spot ≡ row) → row < 8385
  spotted (spot, is, e) = by spot is e (sym (ap (λ (o : Option Spot). is_somewhere (seat_by is_cell o).place) (sym (ap place_at e) ∙ back spot is)) ∙ k)

  on : (14242 ≤ row) ⊎ (row < 14242) → row < 8385
  on (inl l) = absurd (let f : false ≡ true = sym (ap (λ (o : Option Spot). is_somewhere (seat_by is_cell o).place) (none row l)) ∙ k in cc)
  on (inr l) = spotted (found row l)

abbrev pub IsLowPlace : Option ℕ → Type 0
IsLowPlace slot = IfSome slot (λ n. n < 32)

-- its cell is one of 64, and its session's slot one of 32
abbrev pub IsLowEnded : Ended → Type 0
IsLowEnded one = (one.event.subject.cell < 64) × IsLowPlace one.context.slot

low_counted : (slot : Option ℕ) (verdict : Verdict) → IsLowPlace slot → IsLowPlace (counted_slot slot verdict)
low_counted slot Attributed l = l
low_counted slot _ l = tt

-- so the row of its cell is none of a digest
pub home_low : (one : Ended) → IsLowEnded one → home_row one < 8385
home_low one l = by (counted_slot one.context.slot one.event.verdict) (low_counted one.context.slot one.event.verdict l.1) where
  by : (o : Option ℕ) → IsLowPlace o → cell_row o one.event.subject.cell < 8385
  by None h = (let c : one.event.subject.cell < 64 = l.0 in omega (arith, c))
  by (Some slot) h = (let c : one.event.subject.cell < 64 = l.0 in omega (arith, h, c))

pub home_kind : AreBack → (is_cell : ℕ → Bool) (one : Ended) → IsLowEnded one → is_kind_row is_cell (home_row one) ≡ is_cell one.event.subject.cell
home_kind back is_cell one l = by (counted_slot one.context.slot one.event.verdict) (low_counted one.context.slot one.event.verdict l.1) where
  by : (o : Option ℕ) → IsLowPlace o → is_kind_row is_cell (cell_row o one.event.subject.cell) ≡ is_cell one.event.subject.cell
  by None h = global_kind back is_cell one.event.subject.cell l.0
  by (Some slot) h = thread_kind back is_cell slot one.event.subject.cell h l.0

pub home_is : (is_cell : ℕ → Bool) (names : ℕ → Names) (ps : List Placed) (one : Ended) → home_at (board is_cell) (whose_by names ps one) ≡ home_row one
home_is is_cell names ps one = by (counted_slot one.context.slot one.event.verdict) where
  by : (o : Option ℕ) → home_at (board is_cell) (whose_at names ps one o) ≡ cell_row o one.event.subject.cell
  by None = refl
  by (Some slot) = refl

module _ (P : Line → Type 0) where
  part_lines : (phase session : ℕ) (line : Line) (c : Context) (part : List Entry) → P line → Each (λ (p : Placed). P p.line) (placed_part phase session line c part)
  part_lines phase session line c [] h = tt
  part_lines phase session line c (e ∷ es) h = (h, part_lines phase session line (noted (subject_of line) c e) es h)

  lines_lines : (phase session : ℕ) (c : Context) (lines : List Line) (parts : List (List Entry)) → Each P lines → Each (λ (p : Placed). P p.line) (placed_lines phase session c lines parts)
  lines_lines phase session c [] parts h = tt
  lines_lines phase session c (line ∷ lines) [] h = tt
  lines_lines phase session c (line ∷ lines) (part ∷ parts) h =
      each_join (λ (p : Placed). P p.line) (placed_part phase session line (turned c) part) (placed_lines phase session (after c line part) lines parts)
      (part_lines phase session line (turned c) part h.0) (lines_lines phase session (after c line part) lines parts h.1)

  blocks_lines : (earlier blocks : List Block) → Each (λ (b : Block). Each P b.lines) blocks → Each (λ (p : Placed). P p.line) (places_behind earlier blocks)
  unfolding places_behind
  blocks_lines earlier [] h = tt
  blocks_lines earlier (b ∷ blocks) h =
      each_join (λ (p : Placed). P p.line) (placed_lines b.phase b.session (told_by b.session fresh earlier) b.lines b.parts) (places_behind (earlier ++ b ∷ []) blocks)
      (lines_lines b.phase b.session (told_by b.session fresh earlier) b.lines b.parts h.0) (blocks_lines (earlier ++ b ∷ []) blocks h.1)

pub all_lines_of : (P : Line → Type 0) (blocks : List Block) → Each (λ (b : Block). Each P b.lines) blocks → Each (λ (p : Placed). P p.line) (places blocks)
all_lines_of P blocks h = blocks_lines P [] blocks h

-- what holds of each session's entries holds of all
pub by_sessions : (P : Placed → Type 0) (ps : List Placed) → ((session : ℕ) → Each (λ (p : Placed). (p.session == session) ≡ true → P p) ps) → Each P ps
by_sessions P [] h = tt
by_sessions P (p ∷ ps) h = ((h p.session).0 (self p.session), by_sessions P ps (λ s. (h s).1)) where
  self : (n : ℕ) → (n == n) ≡ true
  self n = grind arith

-- open events count in one of 64 cells, and a slot is one of 32
abbrev pub IsLowContext : Context → Type 0
IsLowContext c = Each (λ (event : Opened). event.subject.cell < 64) c.opened × IsLowPlace c.slot

abbrev pub IsLowEntry : Entry → Type 0
IsLowEntry (says.Connect action thread account user host) = IsLowPlace thread
IsLowEntry entry = Unit {0}

each_less : (P : Opened → Type 0) (events : List Opened) → Each P events → Each P (Rattle.std.specs.Prelude.drop 1 events)
each_less P [] h = tt
each_less P (event ∷ events) h = h.1

low_opened : (o : Option Subject) (make : Subject → Opened) (opened : List Opened) → ((s : Subject) → (make s).subject ≡ s) → IfSome o (λ s. s.cell < 64) → Each (λ (event : Opened). event.subject.cell < 64) opened → Each (λ (event : Opened). event.subject.cell < 64) (with_opened o make opened)
low_opened None make opened own l h = h
low_opened (Some s) make opened own l h = (subst (λ (z : Subject). z.cell < 64) (sym (own s)) l, h)

low_noted : (line : Line) (c : Context) (e : Entry) → IsSmall line → IsLowEntry e → IsLowContext c → IsLowContext (noted (subject_of line) c e)
low_noted line c (says.Connect action thread account user host) s e l = (l.0, e)
low_noted line c (says.Start event verdict consumers thread class table) s e l = (low_opened (subject_of line) _ c.opened (λ z. refl) s l.0, l.1)
low_noted line c (says.End event last consumers thread) s e l = (each_less (λ (event : Opened). event.subject.cell < 64) c.opened l.0, l.1)
low_noted line c (says.Held row first second) s e l = l
low_noted line c (says.Add row version) s e l = l
low_noted line c says.Settle s e l = l
low_noted line c (says.Act action) s e l = l
low_noted line c (says.Take row version) s e l = l
low_noted line c _ s e l = l

abbrev pub IsLowAt : Placed → Type 0
IsLowAt p = IsSmall p.line × IsLowEntry p.entry

low_walk : (session : ℕ) (c : Context) (ps : List Placed) → Follow session c ps → Each IsLowAt ps → IsLowContext c → Each (λ (p : Placed). (p.session == session) ≡ true → IsLowContext p.context) ps
low_walk session c [] f h l = tt
low_walk session c (p ∷ ps) f h l = (own, low_walk session (then_told session c p) ps f.1 h.1 (at (p.session == session) refl)) where
  come : (d : Context) → Comes c d → IsLowContext d
  come d (inl e) = subst IsLowContext (sym e) l
  come d (inr e) = subst IsLowContext (sym e) l

  own : (p.session == session) ≡ true → IsLowContext p.context
  own q = come p.context (f.0 q)

  at : (b : Bool) → (p.session == session) ≡ b → IsLowContext (cond b (noted (subject_of p.line) p.context p.entry) c)
  at true q = low_noted p.line p.context p.entry h.0.0 h.0.1 (own q)
  at false q = l

pub all_low : (ps : List Placed) → ((session : ℕ) → Follow session fresh ps) → Each IsLowAt ps → Each (λ (p : Placed). IsLowContext p.context) ps
all_low ps f h = by_sessions (λ (p : Placed). IsLowContext p.context) ps (λ s. low_walk s fresh ps (f s) h (tt, tt))

pub ended_low : (ps : List Placed) → Each (λ (p : Placed). IsLowContext p.context) ps → Each IsLowEnded (all_ended ps)
ended_low [] h = tt
ended_low (p ∷ ps) h = each_join IsLowEnded (ended_at p p.entry) (all_ended ps) (by p.entry) (ended_low ps h.1) where
  first : (events : List Opened) → Each (λ (event : Opened). event.subject.cell < 64) events → Each IsLowEnded (ended_first p events)
  first [] l = tt
  first (event ∷ events) l = ((l.0, h.0.1), tt)

  by : (e : Entry) → Each IsLowEnded (ended_at p e)
  by (says.End event last consumers thread) = first p.context.opened h.0.0
  by _ = tt
