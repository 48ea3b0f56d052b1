-- Which words a start line names: all that there are, or none, by the session's slot and what it starts.
use Rattle.std.proofs.Common.{ℕ, ◌≡◌, Bool, true, false, List, [], ◌∷◌, ◌++◌, map, Option, Some, None, refl, sym, subst}
use Rattle.std.specs.Prelude.{Result, Ok, Err, if◌then◌else◌, is_none, is_some}
use Rattle.pfs_event.specs.Verdicts.{is_let_through}
use Rattle.pfs_event.specs.declared.entry.Entry.{Entry}
use Rattle.pfs_event.specs.declared.entry.Entry.TheVariants as says
use Rattle.pfs_event.specs.declared.kind.EventKind.{EventKind}
use Rattle.pfs_event.specs.declared.kind.EventKind.TheVariants as kinds
use Rattle.pfs_model.proofs.EachLists.{each_join}
use Rattle.pfs_model.specs.Chains.{Each}
use Rattle.pfs_model.specs.Contexts.{Context, after, fresh, noted, subject_of, turned}
use Rattle.pfs_model.specs.Cuts.{behind, cut, step, then_cut}
use Rattle.pfs_model.specs.EntryAsks.{fits, is_start}
use Rattle.pfs_model.specs.EntryPlaces.{AreShapedBehind, Block, IsShaped, Placed, placed_lines, placed_part, places, places_behind, told_by}
use Rattle.pfs_model.specs.JournalCuts.{AreShaped}
use Rattle.pfs_model.specs.Shapes.{added, counted_slot, counting, digest_of, ending, ending_both, ending_first, ending_stage, is_stage, one, puts, settling, shape}
use Rattle.pfs_model.specs.declared.lines.Line.{Line}
use Rattle.pfs_model.specs.declared.lines.Line.TheVariants as told
use Rattle.pfs_model.specs.declared.lines.Opened.{Opened}
use Rattle.pfs_model.specs.declared.lines.Subject.{Subject}
use Rattle.pfs_model.specs.declared.shapes.Ask.{Ask}
use Rattle.pfs_model.specs.declared.shapes.Ask.TheVariants as asks
use Rattle.pfs_model.specs.declared.shapes.Item.{Item}
use Rattle.pfs_model.specs.declared.shapes.Often.{Often}
use Rattle.pfs_model.specs.declared.shapes.Often.TheVariants.{One, Maybe, Many}

-- what holds of each entry of a part, by what holds of each ask of its shape
module _ (R : Ask → Type 0) (Q : Entry → Type 0) (give : (ask : Ask) (entry : Entry) → fits ask entry ≡ true → R ask → Q entry) where
  each_behind : (ask : Ask) (part : List Entry) → R ask → Each Q (behind ask part) → Each Q part
  unfolding behind
  each_behind ask [] r each = tt
  each_behind ask (e ∷ es) r each = at (fits ask e) refl each (λ more. each_behind ask es r more) where
    at : (b : Bool) → fits ask e ≡ b → Each Q (if b then behind ask es else e ∷ es) → (Each Q (behind ask es) → Each Q es) → Each Q (e ∷ es)
    at true f each go = (give ask e f r, go each)
    at false f each go = each

  each_step : (often : Often) (ask : Ask) (part rest : List Entry) → R ask → step often ask part ≡ Ok rest → Each Q rest → Each Q part
  each_step One ask [] rest r s each = absurd (cc)
  each_step One ask (e ∷ es) rest r s each = at (fits ask e) refl s where
    at : (b : Bool) → fits ask e ≡ b → ◌≡◌ {A = Result (List Entry) (List Entry)} (if b then Ok es else Err (e ∷ es)) (Ok rest) → Each Q (e ∷ es)
    at true f s = let same : rest ≡ es = cc in (give ask e f r, subst (Each Q) same each)
    at false f s = absurd (cc)
  each_step Maybe ask [] rest r s each = tt
  each_step Maybe ask (e ∷ es) rest r s each = at (fits ask e) refl s where
    at : (b : Bool) → fits ask e ≡ b → ◌≡◌ {A = Result (List Entry) (List Entry)} (if b then Ok es else Ok (e ∷ es)) (Ok rest) → Each Q (e ∷ es)
    at true f s = let same : rest ≡ es = cc in (give ask e f r, subst (Each Q) same each)
    at false f s = let same : rest ≡ e ∷ es = cc in subst (Each Q) same each
  each_step Many ask part rest r s each = let same : rest ≡ behind ask part = cc in each_behind ask part r (subst (Each Q) same each)

  pub each_cut : (items : List Item) (part rest : List Entry) → Each (λ (item : Item). R item.ask) items → cut items part ≡ Ok rest → Each Q rest → Each Q part
  unfolding cut
  each_cut [] part rest bare s each = let same : rest ≡ part = cc in subst (Each Q) same each
  each_cut (item ∷ items) part rest bare s each = at (step item.often item.ask part) refl s (λ more e. each_cut items more rest bare.1 e each) where
    at : (r : Result (List Entry) (List Entry)) → step item.often item.ask part ≡ r → then_cut r (cut items) ≡ Ok rest → ((more : List Entry) → cut items more ≡ Ok rest → Each Q more) → Each Q part
    at (Ok more) e s go = each_step item.often item.ask part more bare.0 e (go more s)
    at (Err more) e s go = absurd (cc)

-- a start of this line, in a session that has a slot or none
abbrev pub FitsWhat : Option ℕ → Option Subject → Entry → Type 0
FitsWhat slot None entry = ⊥
FitsWhat slot (Some subject) entry = is_start (is_some slot) (is_none subject.class) (is_some subject.table) entry ≡ true

abbrev pub StartFits : Option ℕ → Option Subject → Entry → Type 0
StartFits slot what (says.Start number verdict consumers thread class table) = FitsWhat slot what (says.Start number verdict consumers thread class table)
StartFits slot what entry = Unit {0}

-- an entry that changes no slot
abbrev KeepsSlot : Entry → Type 0
KeepsSlot (says.Connect action thread account user host) = ⊥
KeepsSlot entry = Unit {0}

abbrev AsksWhat : Option ℕ → Option Subject → Bool → Bool → Bool → Type 0
AsksWhat slot None some lost table = ⊥
AsksWhat slot (Some subject) some lost table = (some ≡ is_some slot) × (lost ≡ is_none subject.class) × (table ≡ is_some subject.table)

abbrev AsksStart : Option ℕ → Option Subject → Ask → Type 0
AsksStart slot what (asks.Start some lost table) = AsksWhat slot what some lost table
AsksStart slot what asks.Connect = ⊥
AsksStart slot what ask = Unit {0}

what_fits : (slot : Option ℕ) (what : Option Subject) (some lost table : Bool) (entry : Entry) → is_start some lost table entry ≡ true → AsksWhat slot what some lost table → FitsWhat slot what entry
what_fits slot None some lost table entry f r = absurd r
what_fits slot (Some subject) some lost table entry f r =
    subst (λ z. is_start (is_some slot) (is_none subject.class) z entry ≡ true) r.2 (subst (λ z. is_start (is_some slot) z table entry ≡ true) r.1 (subst (λ z. is_start z lost table entry ≡ true) r.0 f))

start_fits : (slot : Option ℕ) (what : Option Subject) (ask : Ask) (entry : Entry) → fits ask entry ≡ true → AsksStart slot what ask → StartFits slot what entry × KeepsSlot entry
start_fits slot what (asks.Start some lost table) (says.Start n v co th cl ta) f r = (what_fits slot what some lost table (says.Start n v co th cl ta) f r, tt)
start_fits slot what (asks.Start some lost table) _ f r = absurd (cc)
start_fits slot what asks.Connect entry f r = absurd r
start_fits slot what ask (says.Start n v co th cl ta) f r = absurd (cc)
start_fits slot what ask (says.Connect action thread account user host) f r = absurd (cc)
start_fits slot what ask _ f r = (tt, tt)

-- a connect starts nothing
abbrev is_started : Entry → Bool
is_started (says.Start number verdict consumers thread class table) = true
is_started _ = false

abbrev NoStart : Ask → Type 0
NoStart (asks.Start some lost table) = ⊥
NoStart ask = Unit {0}

no_start : (ask : Ask) (entry : Entry) → fits ask entry ≡ true → NoStart ask → is_started entry ≡ false
no_start (asks.Start some lost table) entry f r = absurd r
no_start ask (says.Start n v co th cl ta) f r = absurd (cc)
no_start ask _ f r = refl

module _ (slot : Option ℕ) (what : Option Subject) where
  abbrev AreStarts : List Item → Type 0
  AreStarts items = Each (λ (item : Item). AsksStart slot what item.ask) items

  starts_join : (xs ys : List Item) → AreStarts xs → AreStarts ys → AreStarts (xs ++ ys)
  starts_join [] ys a b = b
  starts_join (x ∷ xs) ys a b = (a.0, starts_join xs ys a.1 b)

  starts_added : (rows : List ℕ) → AreStarts (map added rows)
  starts_added [] = tt
  starts_added (row ∷ rows) = (tt, starts_added rows)

  starts_settling : (rows : List ℕ) → AreStarts (settling rows)
  starts_settling [] = tt
  starts_settling (row ∷ rows) = (tt, (tt, starts_added rows))

  starts_counting : (own : Option ℕ) (event : Opened) (b : Bool) → AreStarts (counting own event b)
  starts_counting own event false = tt
  starts_counting own event true = at event.subject.kind where
    at : (kind : EventKind) → AreStarts (one (asks.Summary (counted_slot own event.verdict) event.subject.cell) ∷ (digest_of kind ++ puts))
    at kinds.Statement = (tt, (tt, (tt, (tt, (tt, tt)))))
    at kinds.Wait = (tt, (tt, (tt, (tt, tt))))
    at kinds.Stage = (tt, (tt, (tt, (tt, tt))))
    at kinds.Transaction = (tt, (tt, (tt, (tt, tt))))

  starts_ending : (own : Option ℕ) (event : Opened) → AreStarts (ending own event)
  starts_ending own event = (tt, starts_counting own event (is_let_through event.verdict))

  starts_either : (b : Bool) (xs : List Item) → AreStarts xs → AreStarts (if b then xs else [])
  starts_either true xs h = h
  starts_either false xs h = tt

  starts_first : (own : Option ℕ) (events : List Opened) → AreStarts (ending_first own events)
  starts_first own [] = tt
  starts_first own (event ∷ events) = starts_ending own event

  starts_stage : (own : Option ℕ) (events : List Opened) → AreStarts (ending_stage own events)
  starts_stage own [] = tt
  starts_stage own (event ∷ events) = starts_either (is_stage event.subject.kind) (ending own event) (starts_ending own event)

  starts_both : (own : Option ℕ) (events : List Opened) → AreStarts (ending_both own events)
  starts_both own [] = tt
  starts_both own (event ∷ events) = starts_join (ending own event) _ (starts_ending own event) (starts_either (is_stage event.subject.kind) (ending_first own events) (starts_first own events))

abbrev is_connect_line : Line → Bool
is_connect_line told.Connect = true
is_connect_line _ = false

shape_starts : (c : Context) (line : Line) → is_connect_line line ≡ false → AreStarts c.slot (subject_of line) (shape c line)
shape_starts c told.Connect q = absurd (cc)
shape_starts c (told.Start subject) q = ((refl, refl, refl), (tt, tt))
shape_starts c (told.Stage subject) q = starts_join c.slot (Some subject) (ending_stage c.slot c.opened) _ (starts_stage c.slot (Some subject) c.slot c.opened) ((refl, refl, refl), (tt, tt))
shape_starts c told.StageEnd q = starts_stage c.slot None c.slot c.opened
shape_starts c told.End q = starts_both c.slot None c.slot c.opened
shape_starts c told.Spend q = tt
shape_starts c told.Change q = starts_join c.slot None (settling c.held) _ (starts_settling c.slot None c.held) (tt, (tt, (tt, (tt, (tt, tt)))))
shape_starts c told.Quit q = starts_join c.slot None (settling c.held) _ (starts_settling c.slot None c.held) (tt, (tt, (tt, (tt, tt))))
shape_starts c told.Show q = starts_join c.slot None (settling c.held) _ (starts_settling c.slot None c.held) (tt, (tt, (tt, (tt, (tt, tt)))))
shape_starts c told.Query q = (tt, (tt, (tt, tt)))
shape_starts c (told.Refused error) q = (tt, tt)
shape_starts c told.Close q = starts_settling c.slot None c.held

-- each start of a run, by the slot that its session has there
abbrev pub FitsAt : Placed → Type 0
FitsAt place = StartFits place.context.slot (subject_of place.line) place.entry

module _ (phase session : ℕ) where
  fits_part : (line : Line) (c : Context) (slot : Option ℕ) (part : List Entry) → c.slot ≡ slot → Each (λ (e : Entry). StartFits slot (subject_of line) e × KeepsSlot e) part → Each FitsAt (placed_part phase session line c part)
  fits_part line c slot [] same each = tt
  fits_part line c slot (says.Connect action thread account user host ∷ es) same each = absurd each.0.1
  fits_part line c slot (e ∷ es) same each = (subst (λ z. StartFits z (subject_of line) e) (sym same) each.0.0, fits_part line (noted (subject_of line) c e) slot es same each.1)

  fits_connect : (c : Context) (part : List Entry) → Each (λ (e : Entry). is_started e ≡ false) part → Each FitsAt (placed_part phase session told.Connect c part)
  fits_connect c [] none = tt
  fits_connect c (says.Start n v co th cl ta ∷ es) none = absurd (let z = none.0 in cc)
  fits_connect c (e ∷ es) none = (tt, fits_connect (noted None c e) es none.1)

  fits_line : (line : Line) (c : Context) (part : List Entry) → cut (shape c line) part ≡ Ok [] → Each FitsAt (placed_part phase session line (turned c) part)
  fits_line told.Connect c part s = fits_connect (turned c) part (each_cut NoStart (λ e. is_started e ≡ false) no_start (shape c told.Connect) part [] (tt, (tt, (tt, (tt, tt)))) s tt)
  fits_line line c part s =
      fits_part line (turned c) c.slot part refl (each_cut (AsksStart c.slot (subject_of line)) (λ e. StartFits c.slot (subject_of line) e × KeepsSlot e) (start_fits c.slot (subject_of line)) (shape c line) part [] (shape_starts c line refl) s tt)

  fits_lines : (c : Context) (ls : List Line) (parts : List (List Entry)) → AreShaped c ls parts → Each FitsAt (placed_lines phase session c ls parts)
  fits_lines c [] parts s = tt
  fits_lines c (l ∷ ls) [] s = absurd s
  fits_lines c (l ∷ ls) (part ∷ parts) s = each_join FitsAt (placed_part phase session l (turned c) part) (placed_lines phase session (after c l part) ls parts) (fits_line l c part s.0) (fits_lines (after c l part) ls parts s.1)

fits_blocks : (earlier : List Block) (low : ℕ) (blocks : List Block) → AreShapedBehind earlier low blocks → Each FitsAt (places_behind earlier blocks)
unfolding places_behind
fits_blocks earlier low [] s = tt
fits_blocks earlier low (b ∷ bs) s =
    each_join FitsAt (placed_lines b.phase b.session (told_by b.session fresh earlier) b.lines b.parts) (places_behind (earlier ++ b ∷ []) bs)
    (fits_lines b.phase b.session (told_by b.session fresh earlier) b.lines b.parts s.1) (fits_blocks (earlier ++ b ∷ []) b.phase bs s.2)

pub all_fit : (blocks : List Block) → IsShaped blocks → Each FitsAt (places blocks)
all_fit blocks s = fits_blocks [] 0 blocks s
