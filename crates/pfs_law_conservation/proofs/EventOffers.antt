-- Each event that ends is offered to its row once, and to that of its digest: behind its end, added or held.
use Rattle.std.proofs.Common.{◌≡◌, refl, ℕ, ◌+◌, ◌==◌, ◌&&◌, Bool, true, false, cond, List, [], ◌∷◌, ◌++◌, Option, Some, None, sym, ap, subst, ◌∙◌, arith}
use Rattle.std.proofs.lemmas.Bool.{eqb-true}
use Rattle.pfs_event.specs.Verdicts.{is_let_through}
use Rattle.pfs_event.specs.declared.entry.Entry.{Entry}
use Rattle.pfs_event.specs.declared.entry.Entry.TheVariants as says
use Rattle.pfs_model.specs.EntryAsks.{is_head, cell_row, digest_row}
use Rattle.pfs_model.specs.Chains.{times}
use Rattle.pfs_model.specs.Contexts.{Context, fresh, subject_of, noted, turned, after, first_of}
use Rattle.pfs_model.specs.JournalCuts.{AreShaped}
use Rattle.pfs_model.specs.EntryPlaces.{Block, Placed, placed_part, placed_lines, told_by, places_behind, places, AreShapedBehind, IsShaped}
use Rattle.pfs_model.specs.Puts.{Due, Adds, Puts, PutsLong, is_paid, due_if, in_slot, current_due, history_place, history_dues, dues_at_end, behind_it, ArePaid, IsBrought, AreBroughtBehind}
use Rattle.pfs_model.specs.Rings.{ring_number, place_of_start}
use Rattle.pfs_model.specs.SetupFlags.{is_digested, is_offered_current, is_offered_at_end, history_consumer, long_consumer}
use Rattle.pfs_model.specs.Shapes.{shape, counted_slot}
use Rattle.pfs_model.specs.Cuts.{is_headed}
use Rattle.pfs_model.specs.declared.lines.Line.{Line}
use Rattle.pfs_model.specs.declared.lines.Opened.{Opened}
use Rattle.pfs_model.proofs.ShapeCuts.{part_headed}
use Rattle.pfs_model.proofs.ClosedShapes.{shape_headed}
use Rattle.pfs_model.proofs.ChainGrowth.{times_append}
use Rattle.pfs_law_conservation.specs.RunEvents.{event_number, Ended, number_of, ended_at, ended_first, all_ended}
use Rattle.pfs_law_conservation.proofs.PhaseEntries.{IsHeaded}
use Rattle.pfs_law_conservation.proofs.AdditionSources.{is_feed, is_source, in_reach, AreFed, cut_fed, shape_feeds}
use Rattle.pfs_law_conservation.proofs.EventNumbers.{number_is}
use Rattle.pfs_law_conservation.proofs.RowLines.{bit_no}

-- an entry with which no line begins is of the session and the line of the one before
abbrev pub Near : ℕ → Context → List Placed → Type 0
Near at d [] = Unit {0}
Near at d (p ∷ ps) = (is_head p.entry ≡ false → (p.session ≡ at) × (p.context ≡ d)) × Near p.session (noted (subject_of p.line) p.context p.entry) ps

abbrev pub AreNear : List Placed → Type 0
AreNear ps = (at : ℕ) (d : Context) → Near at d ps

near_part : (phase session : ℕ) (line : Line) (c : Context) (part : List Entry) (rest : List Placed) → AreNear rest → Near session c (placed_part phase session line c part ++ rest)
near_part phase session line c [] rest n = n session c
near_part phase session line c (e ∷ es) rest n = ((λ q. (refl, refl)), near_part phase session line (noted (subject_of line) c e) es rest n)

near_whole : (phase session : ℕ) (line : Line) (c : Context) (part : List Entry) (rest : List Placed) → is_headed part ≡ true → AreNear rest → AreNear (placed_part phase session line c part ++ rest)
near_whole phase session line c [] rest h n at d = n at d
near_whole phase session line c (e ∷ es) rest h n at d = ((λ q. absurd (let k : true ≡ false = sym h ∙ q in cc)), near_part phase session line (noted (subject_of line) c e) es rest n)

assoc : (xs ys zs : List Placed) → xs ++ (ys ++ zs) ≡ (xs ++ ys) ++ zs
assoc [] ys zs = refl
assoc (x ∷ xs) ys zs = ap (λ (z : List Placed). x ∷ z) (assoc xs ys zs)

near_lines : (phase session : ℕ) (c : Context) (lines : List Line) (parts : List (List Entry)) (rest : List Placed) → AreShaped c lines parts → AreNear rest → AreNear (placed_lines phase session c lines parts ++ rest)
near_lines phase session c [] parts rest s n = n
near_lines phase session c (line ∷ lines) [] rest s n = n
near_lines phase session c (line ∷ lines) (part ∷ parts) rest s n =
    subst AreNear (assoc (placed_part phase session line (turned c) part) (placed_lines phase session (after c line part) lines parts) rest)
    (near_whole phase session line (turned c) part (placed_lines phase session (after c line part) lines parts ++ rest) (part_headed (shape c line) part (shape_headed c line) s.0)
    (near_lines phase session (after c line part) lines parts rest s.1 n))

near_blocks : (earlier blocks : List Block) (low : ℕ) → AreShapedBehind earlier low blocks → AreNear (places_behind earlier blocks)
unfolding places_behind
near_blocks earlier [] low s = λ at d. tt
near_blocks earlier (b ∷ blocks) low s =
    near_lines b.phase b.session (told_by b.session fresh earlier) b.lines b.parts (places_behind (earlier ++ b ∷ []) blocks) s.1
    (near_blocks (earlier ++ b ∷ []) blocks b.phase s.2)

pub all_near : (blocks : List Block) → IsShaped blocks → AreNear (places blocks)
all_near blocks s = near_blocks [] blocks 0 s

-- entries where each addition stands behind what is its source
abbrev pub AreFedPlaces : Bool → List Placed → Type 0
AreFedPlaces hand [] = Unit {0}
AreFedPlaces hand (p ∷ ps) = (hand ≡ false → is_feed p.entry ≡ false) × AreFedPlaces (in_reach hand p.entry) ps

more_places : (hand : Bool) (ps : List Placed) → AreFedPlaces false ps → AreFedPlaces hand ps
more_places false ps h = h
more_places true [] h = tt
more_places true (p ∷ ps) h = ((λ q. absurd (cc)), at (is_head p.entry) refl h.1 (more_places true ps)) where
  at : (b : Bool) → is_head p.entry ≡ b → AreFedPlaces (cond (is_head p.entry) (is_source p.entry) false) ps → (AreFedPlaces false ps → AreFedPlaces true ps) → AreFedPlaces (cond (is_head p.entry) (is_source p.entry) true) ps
  at true q r go = subst (λ z. AreFedPlaces (cond z (is_source p.entry) true) ps) (sym q) (subst (λ z. AreFedPlaces (cond z (is_source p.entry) false) ps) q r)
  at false q r go = subst (λ z. AreFedPlaces (cond z (is_source p.entry) true) ps) (sym q) (go (subst (λ z. AreFedPlaces (cond z (is_source p.entry) false) ps) q r))

then_places : (hand : Bool) (xs ys : List Placed) → AreFedPlaces hand xs → AreFedPlaces false ys → AreFedPlaces hand (xs ++ ys)
then_places hand [] ys a b = more_places hand ys b
then_places hand (x ∷ xs) ys a b = (a.0, then_places (in_reach hand x.entry) xs ys a.1 b)

part_places : (phase session : ℕ) (line : Line) (c : Context) (entries : List Entry) (hand : Bool) → AreFed hand entries → AreFedPlaces hand (placed_part phase session line c entries)
part_places phase session line c [] hand a = tt
part_places phase session line c (e ∷ es) hand a = (a.0, part_places phase session line (noted (subject_of line) c e) es (in_reach hand e) a.1)

lines_places : (phase session : ℕ) (c : Context) (lines : List Line) (parts : List (List Entry)) → AreShaped c lines parts → AreFedPlaces false (placed_lines phase session c lines parts)
lines_places phase session c [] parts s = tt
lines_places phase session c (line ∷ lines) [] s = tt
lines_places phase session c (line ∷ lines) (part ∷ parts) s =
    then_places false (placed_part phase session line (turned c) part) (placed_lines phase session (after c line part) lines parts)
    (part_places phase session line (turned c) part false (cut_fed (shape c line) part false (shape_feeds c line) s.0))
    (lines_places phase session (after c line part) lines parts s.1)

blocks_places : (earlier blocks : List Block) (phase : ℕ) → AreShapedBehind earlier phase blocks → AreFedPlaces false (places_behind earlier blocks)
unfolding places_behind
blocks_places earlier [] phase s = tt
blocks_places earlier (b ∷ blocks) phase s =
    then_places false (placed_lines b.phase b.session (told_by b.session fresh earlier) b.lines b.parts) (places_behind (earlier ++ b ∷ []) blocks)
    (lines_places b.phase b.session (told_by b.session fresh earlier) b.lines b.parts s.1)
    (blocks_places (earlier ++ b ∷ []) blocks b.phase s.2)

pub all_fed : (blocks : List Block) → IsShaped blocks → AreFedPlaces false (places blocks)
all_fed blocks s = blocks_places [] blocks 0 s

-- what is due behind an end is due up to there
behind_same : (xs rest : List Placed) → IsHeaded rest → behind_it (xs ++ rest) ≡ behind_it xs
behind_same [] [] h = refl
behind_same [] (p ∷ ps) h = ap (λ b. cond b [] (p.entry ∷ behind_it ps)) h
behind_same (x ∷ xs) rest h = ap (λ (z : List Entry). cond (is_head x.entry) [] (x.entry ∷ z)) (behind_same xs rest h)

pub brought_front : (flags : ℕ → ℕ → ℕ) (earlier xs rest : List Placed) → IsHeaded rest → AreBroughtBehind flags earlier (xs ++ rest) → AreBroughtBehind flags earlier xs
brought_front flags earlier [] rest h b = tt
brought_front flags earlier (x ∷ xs) rest h b =
    (subst (IsBrought flags earlier x x.entry) (behind_same xs rest h) b.0, brought_front flags (x ∷ earlier) xs rest h b.1)

-- an addition to this row, or what is held for it
abbrev pub feeds_at : ℕ → Entry → Bool
feeds_at row (says.Add at version) = at == row
feeds_at row (says.Held at first second) = at == row
feeds_at row _ = false

abbrev pub is_index : ℕ → Option Opened → Bool
is_index index None = false
is_index index (Some event) = event.index == index

-- how often a row is offered an event of a session
abbrev pub offers : ℕ → ℕ → ℕ → Placed → Bool
offers session index row p = (p.session == session) && (feeds_at row p.entry && is_index index p.context.ended)

abbrev pub offered : ℕ → ℕ → ℕ → List Placed → ℕ
offered session index row ps = times (offers session index row) ps

-- the row of an event's cell
abbrev pub home_row : Ended → ℕ
home_row one = cell_row (counted_slot one.context.slot one.event.verdict) one.event.subject.cell

abbrev pub comes_to : ℕ → ℕ → Ended → Bool
comes_to number row one = (number_of one == number) && (is_let_through one.event.verdict && (home_row one == row))

-- and beside it the row of its digest, where it is digested
abbrev pub comes_beside : (ℕ → ℕ → ℕ) → ℕ → ℕ → Ended → Bool
comes_beside flags number row one = (number_of one == number) && (is_digested flags one.context.slot one.event && (digest_row one.event.subject.digest == row))

-- how many additions to a row are due
abbrev pub owes_to : ℕ → Due → Bool
owes_to row (Adds at) = at == row
owes_to row due = false

abbrev pub owed : ℕ → List Due → ℕ
owed row dues = times (owes_to row) dues

pub no_feed : (row : ℕ) (e : Entry) → is_feed e ≡ false → feeds_at row e ≡ false
no_feed row (says.Add at version) f = absurd (cc)
no_feed row (says.Held at first second) f = absurd (cc)
no_feed row _ f = refl

pub head_feeds : (row : ℕ) (e : Entry) → is_head e ≡ true → feeds_at row e ≡ false
head_feeds row (says.Add at version) f = absurd (cc)
head_feeds row (says.Held at first second) f = absurd (cc)
head_feeds row _ f = refl

-- what is paid is offered just where it is due
pub paid_feeds : (row : ℕ) (due : Due) (e : Entry) → is_paid due e ≡ true → feeds_at row e ≡ owes_to row due
paid_feeds row (Adds at) (says.Add r version) p = ap (λ n. n == row) (eqb-true r at p)
paid_feeds row (Adds at) (says.Held r first second) p = ap (λ n. n == row) (eqb-true r at p)
paid_feeds row (Adds at) _ p = absurd (cc)
paid_feeds row (Puts at) (says.Ring r version) p = refl
paid_feeds row (Puts at) (says.Busy r first second) p = refl
paid_feeds row (Puts at) _ p = absurd (cc)
paid_feeds row (PutsLong kind) (says.Long r version ticket) p = refl
paid_feeds row (PutsLong kind) (says.Late r ticket greater) p = refl
paid_feeds row (PutsLong kind) (says.Busy r first second) p = refl
paid_feeds row (PutsLong kind) _ p = absurd (cc)

-- an entry with which no line begins ends no event
kept_ended : (line : Line) (c : Context) (e : Entry) → is_head e ≡ false → (noted (subject_of line) c e).ended ≡ c.ended
kept_ended line c (says.Connect action thread account user host) f = absurd (cc)
kept_ended line c (says.Start event verdict consumers thread class table) f = absurd (cc)
kept_ended line c (says.End event last consumers thread) f = absurd (cc)
kept_ended line c says.Settle f = absurd (cc)
kept_ended line c (says.Act action) f = absurd (cc)
kept_ended line c (says.Held row first second) f = refl
kept_ended line c (says.Add row version) f = refl
kept_ended line c (says.Take row version) f = refl
kept_ended line c _ f = refl

pub tail_ended : (p : Placed) (e : Entry) → is_head e ≡ false → ended_at p e ≡ []
tail_ended p (says.End event last consumers thread) f = absurd (cc)
tail_ended p _ f = refl

pub owed_if : (row : ℕ) (asked : Bool) (due : Due) → owes_to row due ≡ false → owed row (due_if asked due) ≡ 0
owed_if row true due n = omega (arith, bit_no (owes_to row due) n)
owed_if row false due n = refl

pub owed_slot : (row : ℕ) (slot : Option ℕ) (dues : ℕ → List Due) → ((own : ℕ) → owed row (dues own) ≡ 0) → owed row (in_slot slot dues) ≡ 0
owed_slot row None dues h = refl
owed_slot row (Some own) dues h = h own

pub owed_current : (flags : ℕ → ℕ → ℕ) (row : ℕ) (slot : Option ℕ) (event : Opened) (others : List Opened) → owed row (current_due flags slot event others) ≡ 0
owed_current flags row slot event others =
    owed_slot row slot (λ own. due_if (is_offered_current flags slot event) (Puts (place_of_start own event.subject.kind others)))
    (λ own. owed_if row (is_offered_current flags slot event) (Puts (place_of_start own event.subject.kind others)) refl)

pub owed_histories : (flags : ℕ → ℕ → ℕ) (row : ℕ) (earlier : List Placed) (p : Placed) (event : Opened) (consumers thread : Option ℕ) → owed row (history_dues flags earlier p event consumers thread) ≡ 0
owed_histories flags row earlier p event consumers thread =
    owed_slot row p.context.slot _
    (λ own.
    let a : owed row (due_if (is_offered_at_end history_consumer flags p.context.slot event consumers thread) (Puts (history_place earlier p.session own (ring_number event.subject.kind)))) ≡ 0 = owed_if row (is_offered_at_end history_consumer flags p.context.slot event consumers thread) (Puts (history_place earlier p.session own (ring_number event.subject.kind))) refl in
    let b : owed row (due_if (is_offered_at_end long_consumer flags p.context.slot event consumers thread) (PutsLong (ring_number event.subject.kind))) ≡ 0 = owed_if row (is_offered_at_end long_consumer flags p.context.slot event consumers thread) (PutsLong (ring_number event.subject.kind)) refl in
    let j : owed row (due_if (is_offered_at_end history_consumer flags p.context.slot event consumers thread) (Puts (history_place earlier p.session own (ring_number event.subject.kind))) ++ due_if (is_offered_at_end long_consumer flags p.context.slot event consumers thread) (PutsLong (ring_number event.subject.kind)))
    ≡ owed row (due_if (is_offered_at_end history_consumer flags p.context.slot event consumers thread) (Puts (history_place earlier p.session own (ring_number event.subject.kind)))) + owed row (due_if (is_offered_at_end long_consumer flags p.context.slot event consumers thread) (PutsLong (ring_number event.subject.kind)))
    = times_append (owes_to row) (due_if (is_offered_at_end history_consumer flags p.context.slot event consumers thread) (Puts (history_place earlier p.session own (ring_number event.subject.kind)))) (due_if (is_offered_at_end long_consumer flags p.context.slot event consumers thread) (PutsLong (ring_number event.subject.kind))) in
    omega (arith, a, b, j))

owed_digest : (row at : ℕ) (asked : Bool) → owed row (due_if asked (Adds at)) ≡ cond {A = ℕ} (asked && (at == row)) 1 0
owed_digest row at true = plus_zero (cond (at == row) 1 0) where
  plus_zero : (n : ℕ) → n + 0 ≡ n
  plus_zero n = omega arith
owed_digest row at false = refl

-- what isn't let through isn't digested
through_digested : (statement through acts : Bool) → through ≡ false → (statement && through && acts) ≡ false
through_digested true true acts q = absurd (cc)
through_digested true false acts q = refl
through_digested false through acts q = refl

undigested : (flags : ℕ → ℕ → ℕ) (slot : Option ℕ) (event : Opened) → is_let_through event.verdict ≡ false → is_digested flags slot event ≡ false
undigested flags slot event q = through_digested _ (is_let_through event.verdict) _ q

module _ (flags : ℕ → ℕ → ℕ) (row : ℕ) where
  -- what an end owes to a row
  pub owed_end : (earlier : List Placed) (p : Placed) (event : Opened) (others : List Opened) (consumers thread : Option ℕ)
      → owed row (dues_at_end flags earlier p (event ∷ others) consumers thread)
      ≡ cond {A = ℕ} (is_let_through event.verdict && (cell_row (counted_slot p.context.slot event.verdict) event.subject.cell == row)) 1 0
      + cond {A = ℕ} (is_digested flags p.context.slot event && (digest_row event.subject.digest == row)) 1 0
  owed_end earlier p event others consumers thread = at (is_let_through event.verdict) refl where
    home : ℕ
    home = cell_row (counted_slot p.context.slot event.verdict) event.subject.cell

    beside : Bool
    beside = is_digested flags p.context.slot event && (digest_row event.subject.digest == row)

    xs : List Due
    xs = due_if (is_digested flags p.context.slot event) (Adds (digest_row event.subject.digest))

    ys : List Due
    ys = current_due flags p.context.slot event others

    zs : List Due
    zs = history_dues flags earlier p event consumers thread

    rest : owed row (xs ++ (ys ++ zs)) ≡ cond {A = ℕ} beside 1 0
    rest =
        let a : owed row (xs ++ (ys ++ zs)) ≡ owed row xs + owed row (ys ++ zs) = times_append (owes_to row) xs (ys ++ zs) in
        let b : owed row (ys ++ zs) ≡ owed row ys + owed row zs = times_append (owes_to row) ys zs in
        let c : owed row xs ≡ cond {A = ℕ} beside 1 0 = owed_digest row (digest_row event.subject.digest) (is_digested flags p.context.slot event) in
        let d : owed row ys ≡ 0 = owed_current flags row p.context.slot event others in
        let e : owed row zs ≡ 0 = owed_histories flags row earlier p event consumers thread in
        omega (arith, a, b, c, d, e)

    at : (b : Bool) → is_let_through event.verdict ≡ b → owed row (cond b (Adds home ∷ (xs ++ (ys ++ zs))) []) ≡ cond {A = ℕ} (b && (home == row)) 1 0 + cond {A = ℕ} beside 1 0
    at true q = ap (λ n. cond {A = ℕ} (home == row) 1 0 + n) rest
    at false q = sym (ap (λ b. 0 + cond {A = ℕ} (b && (digest_row event.subject.digest == row)) 1 0) (undigested flags p.context.slot event q))

module _ (flags : ℕ → ℕ → ℕ) (session index row : ℕ) where
  abbrev Arriving : List Ended → ℕ
  Arriving ends = times (comes_to (event_number session index) row) ends + times (comes_beside flags (event_number session index) row) ends

  abbrev Arrivals : List Placed → ℕ
  Arrivals ps = Arriving (all_ended ps)

  -- an end, with what is owed then
  arrives : (earlier : List Placed) (p : Placed) (opened : List Opened) (consumers thread : Option ℕ) (ps : List Placed)
      → cond ((p.session == session) && is_index index (first_of opened)) (owed row (dues_at_end flags earlier p opened consumers thread)) 0 + Arrivals ps
      ≡ Arriving (ended_first p opened ++ all_ended ps)
  arrives earlier p [] consumers thread ps = none ((p.session == session) && false) where
    none : (b : Bool) → cond {A = ℕ} b 0 0 + Arrivals ps ≡ Arrivals ps
    none true = omega arith
    none false = omega arith
  arrives earlier p (event ∷ others) consumers thread ps = at ((p.session == session) && (event.index == index)) refl where
    through : Bool
    through = is_let_through event.verdict && (cell_row (counted_slot p.context.slot event.verdict) event.subject.cell == row)

    beside : Bool
    beside = is_digested flags p.context.slot event && (digest_row event.subject.digest == row)

    owes : ℕ
    owes = owed row (dues_at_end flags earlier p (event ∷ others) consumers thread)

    bit : (b c : Bool) → ((p.session == session) && (event.index == index)) ≡ b
        → cond {A = ℕ} ((event_number p.session event.index == event_number session index) && c) 1 0 ≡ cond {A = ℕ} (b && c) 1 0
    bit b c q = ap (λ z. cond {A = ℕ} (z && c) 1 0) (number_is p.session event.index session index ∙ q)

    at : (b : Bool) → ((p.session == session) && (event.index == index)) ≡ b
        → cond ((p.session == session) && (event.index == index)) owes 0 + Arrivals ps
        ≡ (cond {A = ℕ} ((event_number p.session event.index == event_number session index) && through) 1 0 + times (comes_to (event_number session index) row) (all_ended ps))
        + (cond {A = ℕ} ((event_number p.session event.index == event_number session index) && beside) 1 0 + times (comes_beside flags (event_number session index) row) (all_ended ps))
    at true q =
        let o : owes ≡ cond {A = ℕ} through 1 0 + cond {A = ℕ} beside 1 0 = owed_end flags row earlier p event others consumers thread in
        let c : cond ((p.session == session) && (event.index == index)) owes 0 ≡ owes = ap (λ z. cond z owes 0) q in
        let t : cond {A = ℕ} ((event_number p.session event.index == event_number session index) && through) 1 0 ≡ cond {A = ℕ} through 1 0 = bit true through q in
        let d : cond {A = ℕ} ((event_number p.session event.index == event_number session index) && beside) 1 0 ≡ cond {A = ℕ} beside 1 0 = bit true beside q in
        omega (arith, o, c, t, d)
    at false q =
        let c : cond ((p.session == session) && (event.index == index)) owes 0 ≡ 0 = ap (λ z. cond z owes 0) q in
        let t : cond {A = ℕ} ((event_number p.session event.index == event_number session index) && through) 1 0 ≡ 0 = bit false through q in
        let d : cond {A = ℕ} ((event_number p.session event.index == event_number session index) && beside) 1 0 ≡ 0 = bit false beside q in
        omega (arith, c, t, d)

  data Mode : Type 0 where
    Idle : Mode
    Settled : Mode
    Owing : List Due → Mode

  abbrev IsIn : Mode → Bool → Context → List Placed → Type 0
  IsIn Idle hand d ps = hand ≡ false
  IsIn Settled hand d ps = d.ended ≡ None
  IsIn (Owing dues) hand d ps = ArePaid dues (behind_it ps)

  abbrev due_in : Mode → ℕ → Context → ℕ
  due_in Idle at d = 0
  due_in Settled at d = 0
  due_in (Owing dues) at d = cond ((at == session) && is_index index d.ended) (owed row dues) 0

  paid_none : (dues : List Due) → ArePaid dues [] → dues ≡ []
  paid_none [] a = refl
  paid_none (due ∷ dues) a = absurd a

  nothing_due : (mode : Mode) (hand : Bool) (at : ℕ) (d : Context) (ps : List Placed) → behind_it ps ≡ [] → IsIn mode hand d ps → due_in mode at d ≡ 0
  nothing_due Idle hand at d ps e i = refl
  nothing_due Settled hand at d ps e i = refl
  nothing_due (Owing dues) hand at d ps e i =
      ap (λ (z : List Due). cond ((at == session) && is_index index d.ended) (owed row z) 0) (paid_none dues (subst (ArePaid dues) e i)) ∙ none ((at == session) && is_index index d.ended) where
        none : (b : Bool) → cond {A = ℕ} b 0 0 ≡ 0
        none true = refl
        none false = refl

  unfed : (p : Placed) → feeds_at row p.entry ≡ false → offers session index row p ≡ false
  unfed p f = ap (λ z. (p.session == session) && (z && is_index index p.context.ended)) f ∙ none (p.session == session) where
    none : (b : Bool) → b && false ≡ false
    none true = refl
    none false = refl

  unended : (p : Placed) → p.context.ended ≡ None → offers session index row p ≡ false
  unended p f = ap (λ (z : Option Opened). (p.session == session) && (feeds_at row p.entry && is_index index z)) f ∙ none (p.session == session) (feeds_at row p.entry) where
    none : (a b : Bool) → a && (b && false) ≡ false
    none true true = refl
    none true false = refl
    none false b = refl

  joined : (a f i : Bool) (m : ℕ) → cond {A = ℕ} (a && (f && i)) 1 0 + cond (a && i) m 0 ≡ cond (a && i) (cond {A = ℕ} f 1 0 + m) 0
  joined true true true m = refl
  joined true true false m = refl
  joined true false true m = refl
  joined true false false m = refl
  joined false f i m = refl

  walk_offered : (earlier ps : List Placed) (hand : Bool) (mode : Mode) (at : ℕ) (d : Context) → Near at d ps → AreFedPlaces hand ps → AreBroughtBehind flags earlier ps → IsIn mode hand d ps
      → offered session index row ps ≡ due_in mode at d + Arrivals ps
  walk_offered earlier [] hand mode at d n f b i = (let z : due_in mode at d ≡ 0 = nothing_due mode hand at d [] refl i in omega (arith, z))
  walk_offered earlier (p ∷ ps) hand mode at d n f b i =
      on (is_head p.entry) refl mode i (λ next k. walk_offered (p ∷ earlier) ps (in_reach hand p.entry) next p.session (noted (subject_of p.line) p.context p.entry) n.1 f.1 b.1 k) where
        behind : Context
        behind = noted (subject_of p.line) p.context p.entry

        Go : Type 0
        Go = (next : Mode) → IsIn next (in_reach hand p.entry) behind ps → offered session index row ps ≡ due_in next p.session behind + Arrivals ps

        Goal : Mode → Type 0
        Goal mode = cond {A = ℕ} (offers session index row p) 1 0 + offered session index row ps ≡ due_in mode at d + Arriving (ended_at p p.entry ++ all_ended ps)

        -- with which a line begins
        first : (e : Entry) → p.entry ≡ e → is_head e ≡ true → Go → offered session index row ps ≡ Arriving (ended_at p e ++ all_ended ps)
        first (says.End event last consumers thread) q h go =
            let dues : List Due = dues_at_end flags earlier p p.context.opened consumers thread in
            let e : behind.ended ≡ first_of p.context.opened = ap (λ z. (noted (subject_of p.line) p.context z).ended) q in
            go (Owing dues) (subst (λ z. IsBrought flags earlier p z (behind_it ps)) q b.0)
            ∙ (ap (λ (z : Option Opened). cond ((p.session == session) && is_index index z) (owed row dues) 0 + Arrivals ps) e
            ∙ arrives earlier p p.context.opened consumers thread ps)
        first says.Settle q h go = go Settled (ap (λ z. (noted (subject_of p.line) p.context z).ended) q) ∙ zero_plus (Arrivals ps) where
          zero_plus : (n : ℕ) → 0 + n ≡ n
          zero_plus n = omega arith
        first (says.Connect action thread account user host) q h go = go Idle (ap (in_reach hand) q) ∙ zero_plus (Arrivals ps) where
          zero_plus : (n : ℕ) → 0 + n ≡ n
          zero_plus n = omega arith
        first (says.Start event verdict consumers thread class table) q h go = go Idle (ap (in_reach hand) q) ∙ zero_plus (Arrivals ps) where
          zero_plus : (n : ℕ) → 0 + n ≡ n
          zero_plus n = omega arith
        first (says.Act action) q h go = go Idle (ap (in_reach hand) q) ∙ zero_plus (Arrivals ps) where
          zero_plus : (n : ℕ) → 0 + n ≡ n
          zero_plus n = omega arith
        first says.Query q h go = go Idle (ap (in_reach hand) q) ∙ zero_plus (Arrivals ps) where
          zero_plus : (n : ℕ) → 0 + n ≡ n
          zero_plus n = omega arith
        first (says.Error number) q h go = go Idle (ap (in_reach hand) q) ∙ zero_plus (Arrivals ps) where
          zero_plus : (n : ℕ) → 0 + n ≡ n
          zero_plus n = omega arith
        first _ q h go = absurd (cc)

        still : is_head p.entry ≡ false → Arrivals ps ≡ Arriving (ended_at p p.entry ++ all_ended ps)
        still h = sym (ap (λ (z : List Ended). Arriving (z ++ all_ended ps)) (tail_ended p p.entry h))

        -- any other
        next : (mode : Mode) → is_head p.entry ≡ false → IsIn mode hand d (p ∷ ps) → Go → Goal mode
        next Idle h i go =
            let o : cond {A = ℕ} (offers session index row p) 1 0 ≡ 0 = bit_no (offers session index row p) (unfed p (no_feed row p.entry (f.0 i))) in
            let g : offered session index row ps ≡ 0 + Arrivals ps = go Idle (ap (λ z. cond z (is_source p.entry) hand) h ∙ i) in
            let s : Arrivals ps ≡ Arriving (ended_at p p.entry ++ all_ended ps) = still h in
            omega (arith, o, g, s)
        next Settled h i go =
            let none : p.context.ended ≡ None = ap (λ (z : Context). z.ended) (n.0 h).1 ∙ i in
            let o : cond {A = ℕ} (offers session index row p) 1 0 ≡ 0 = bit_no (offers session index row p) (unended p none) in
            let g : offered session index row ps ≡ 0 + Arrivals ps = go Settled (kept_ended p.line p.context p.entry h ∙ none) in
            let s : Arrivals ps ≡ Arriving (ended_at p p.entry ++ all_ended ps) = still h in
            omega (arith, o, g, s)
        next (Owing dues) h i go = pays dues (subst (λ z. ArePaid dues (cond z [] (p.entry ∷ behind_it ps))) h i) where
          pays : (dues : List Due) → ArePaid dues (p.entry ∷ behind_it ps) → Goal (Owing dues)
          pays [] a = absurd a
          pays (due ∷ dues) a =
              let g : offered session index row ps ≡ cond ((p.session == session) && is_index index behind.ended) (owed row dues) 0 + Arrivals ps = go (Owing dues) a.1 in
              let k : cond ((p.session == session) && is_index index behind.ended) (owed row dues) 0 ≡ cond ((p.session == session) && is_index index p.context.ended) (owed row dues) 0
              = ap (λ (z : Option Opened). cond ((p.session == session) && is_index index z) (owed row dues) 0) (kept_ended p.line p.context p.entry h) in
              let o : cond {A = ℕ} (offers session index row p) 1 0 ≡ cond {A = ℕ} ((p.session == session) && (owes_to row due && is_index index p.context.ended)) 1 0
              = ap (λ z. cond {A = ℕ} ((p.session == session) && (z && is_index index p.context.ended)) 1 0) (paid_feeds row due p.entry a.0) in
              let j : cond {A = ℕ} ((p.session == session) && (owes_to row due && is_index index p.context.ended)) 1 0 + cond ((p.session == session) && is_index index p.context.ended) (owed row dues) 0 ≡ cond ((p.session == session) && is_index index p.context.ended) (cond {A = ℕ} (owes_to row due) 1 0 + owed row dues) 0
              = joined (p.session == session) (owes_to row due) (is_index index p.context.ended) (owed row dues) in
              let w : cond ((p.session == session) && is_index index p.context.ended) (cond {A = ℕ} (owes_to row due) 1 0 + owed row dues) 0 ≡ cond ((at == session) && is_index index d.ended) (cond {A = ℕ} (owes_to row due) 1 0 + owed row dues) 0
              = ap (λ z. cond ((z == session) && is_index index p.context.ended) (cond {A = ℕ} (owes_to row due) 1 0 + owed row dues) 0) (n.0 h).0
              ∙ ap (λ (z : Context). cond ((at == session) && is_index index z.ended) (cond {A = ℕ} (owes_to row due) 1 0 + owed row dues) 0) (n.0 h).1 in
              let s : Arrivals ps ≡ Arriving (ended_at p p.entry ++ all_ended ps) = still h in
              omega (arith, g, k, o, j, w, s)

        on : (x : Bool) → is_head p.entry ≡ x → (mode : Mode) → IsIn mode hand d (p ∷ ps) → Go → Goal mode
        on true h mode i go =
            let z : due_in mode at d ≡ 0 = nothing_due mode hand at d (p ∷ ps) (ap (λ z. cond z [] (p.entry ∷ behind_it ps)) h) i in
            let o : cond {A = ℕ} (offers session index row p) 1 0 ≡ 0 = bit_no (offers session index row p) (unfed p (head_feeds row p.entry h)) in
            let s : offered session index row ps ≡ Arriving (ended_at p p.entry ++ all_ended ps) = first p.entry refl h go in
            omega (arith, z, o, s)
        on false h mode i go = next mode h i go

-- so a row is offered just the events that come to it, by their cell or by their digest
pub all_offered : (flags : ℕ → ℕ → ℕ) (session index row : ℕ) (ps : List Placed) → AreNear ps → AreFedPlaces false ps → AreBroughtBehind flags [] ps
    → offered session index row ps ≡ times (comes_to (event_number session index) row) (all_ended ps) + times (comes_beside flags (event_number session index) row) (all_ended ps)
all_offered flags session index row ps n f b = walk_offered flags session index row [] ps false Idle 0 fresh (n 0 fresh) f b refl ∙ zero_plus _ where
  zero_plus : (n : ℕ) → 0 + n ≡ n
  zero_plus n = omega arith
