-- What is due behind a start and behind an end.
use Rattle.std.proofs.Common.{◌≡◌, refl, ℕ, ◌+◌, ◌-◌, Bool, true, false, ◌&&◌, cond, List, [], ◌∷◌, ◌++◌, Option, Some, None, sym, ◌∙◌, ap, subst, arith}
use Rattle.std.proofs.lemmas.Bool.{and_parts}
use Rattle.pfs_lemmas.proofs.Options.{some_same}
use Rattle.pfs_consumers.specs.declared.Consumer.{Consumer}
use Rattle.pfs_consumers.specs.Tree.{acts_of}
use Rattle.pfs_event.specs.declared.entry.Entry.{Entry}
use Rattle.pfs_event.specs.declared.entry.Entry.TheVariants as says
use Rattle.pfs_event.specs.declared.kind.EventKind.{EventKind}
use Rattle.pfs_event.specs.declared.kind.EventKind.TheVariants as kinds
use Rattle.pfs_event.specs.declared.verdict.Verdict.{Verdict}
use Rattle.pfs_event.specs.declared.verdict.Verdict.TheVariants.{Attributed}
use Rattle.pfs_event.specs.Verdicts.{is_let_through}
use Rattle.pfs_model.specs.declared.lines.Opened.{Opened}
use Rattle.pfs_model.specs.declared.lines.Subject.{Subject}
use Rattle.pfs_model.specs.Contexts.{Context, first_of, noted, subject_of}
use Rattle.pfs_model.specs.EntryAsks.{cell_row, digest_row, is_head}
use Rattle.pfs_model.specs.EntryPlaces.{Placed}
use Rattle.pfs_model.specs.Puts.{Due, Adds, Puts, PutsLong, current_due, due_if, dues_at_end, dues_at_start, history_dues, history_place, in_slot}
use Rattle.pfs_model.specs.Rings.{current_row, place_of_start, ring_number}
use Rattle.pfs_model.specs.SetupFlags.{flags_seen, has_history, history_consumer, is_attributed, is_digested, is_offered_at_end, is_offered_current, is_statement, is_wait, long_consumer, open_through, thread_word}
use Rattle.pfs_model.specs.Shapes.{counted_slot}
use Rattle.pfs_check_dues.specs.OwedPuts.{Left, Nothing, Owed, owed_after, paid_one}
use Rattle.pfs_check_brought.specs.declared.dues.KeptDues.{KeptDues}
use Rattle.pfs_check_brought.specs.KeptDues.{IsDepth, depth_by, due_where, dues_of, opened_behind, started_by}

-- the consumers' word is the first
pub seen_first : (flags : ℕ → ℕ → ℕ) (version : Option ℕ) (seen : ℕ) → seen ≡ flags_seen flags (λ at. 0 + at) (Some 0) version
    → seen ≡ flags_seen flags (λ number. number) (Some 0) version
seen_first flags None seen e = e
seen_first flags (Some version) seen e = e

-- the depth of an event, by the events around it
pub depth_outside : (kind : EventKind) (others : List Opened) (statements waits : ℕ) → statements ≡ open_through is_statement others
    → waits ≡ open_through is_wait others → IsDepth kind others (depth_by kind statements waits)
depth_outside kinds.Wait others statements waits s w = λ slot. ap (current_row slot kinds.Wait) w
depth_outside kinds.Stage others statements waits s w = λ slot. refl
depth_outside kinds.Statement others statements waits s w = λ slot. ap (current_row slot kinds.Statement) s
depth_outside kinds.Transaction others statements waits s w = λ slot. refl

attributed_through : (verdict : Verdict) → is_attributed verdict ≡ true → is_let_through verdict ≡ true
attributed_through Attributed e = refl
attributed_through _ e = absurd (cc)

one_less : (n all : ℕ) (b : Bool) → b ≡ true → all ≡ cond b 1 0 + n → all - 1 ≡ n
one_less n all true e f = omega (arith, f)
one_less n all false e f = absurd (cc)

both_true : (a b : Bool) → a ≡ true → b ≡ true → (a && b) ≡ true
both_true true b e f = f
both_true false b e f = absurd (cc)

-- and of one that is counted itself
pub depth_inside : (event : Opened) (others : List Opened) (statements waits : ℕ) → statements ≡ open_through is_statement (event ∷ others)
    → waits ≡ open_through is_wait (event ∷ others) → is_attributed event.verdict ≡ true
    → IsDepth event.subject.kind others (depth_by event.subject.kind (statements - 1) (waits - 1))
depth_inside event others statements waits s w attributed = at event.subject.kind refl where
  through : is_let_through event.verdict ≡ true
  through = attributed_through event.verdict attributed

  at : (kind : EventKind) → event.subject.kind ≡ kind → IsDepth kind others (depth_by kind (statements - 1) (waits - 1))
  at kinds.Wait e = λ slot.
      ap (current_row slot kinds.Wait)
      (one_less (open_through is_wait others) waits (is_let_through event.verdict && is_wait event.subject.kind)
      (both_true (is_let_through event.verdict) (is_wait event.subject.kind) through (ap is_wait e)) w)
  at kinds.Stage e = λ slot. refl
  at kinds.Statement e = λ slot.
      ap (current_row slot kinds.Statement)
      (one_less (open_through is_statement others) statements (is_let_through event.verdict && is_statement event.subject.kind)
      (both_true (is_let_through event.verdict) (is_statement event.subject.kind) through (ap is_statement e)) s)
  at kinds.Transaction e = λ slot. refl

-- the innermost of the open events
pub opened_is : (opened : List Opened) (event : Opened) → first_of opened ≡ Some event → (others : List Opened) × (opened ≡ event ∷ others)
opened_is [] event e = absurd (cc)
opened_is (first ∷ others) event e = (others, ap (λ z. z ∷ others) (some_same first event e))

pub none_opened : (opened : List Opened) → first_of opened ≡ None → opened ≡ []
none_opened [] e = refl
none_opened (first ∷ others) e = absurd (cc)

-- So the place of one that is open, by what the track counts.
pub inner_due : (flags : ℕ → ℕ → ℕ) (context : Context) (event : Opened) (slot : Option ℕ) (statements waits s w depth : ℕ) (row : Option ℕ)
    → first_of context.opened ≡ Some event → slot ≡ context.slot → statements ≡ open_through is_statement context.opened
    → waits ≡ open_through is_wait context.opened → s ≡ statements - 1 → w ≡ waits - 1 → depth ≡ depth_by event.subject.kind s w
    → ((others : List Opened) → (is_attributed event.verdict ≡ true → IsDepth event.subject.kind others depth)
    → due_where Puts row ≡ current_due flags slot event others)
    → due_where Puts row ≡ dues_at_start flags context.slot context.opened
inner_due flags context event slot statements waits s w depth row first same st wt less fewer deep step = on (opened_is context.opened event first) where
  depth_is : depth ≡ depth_by event.subject.kind (statements - 1) (waits - 1)
  depth_is = deep ∙ ap (λ z. depth_by event.subject.kind z w) less ∙ ap (depth_by event.subject.kind (statements - 1)) fewer

  on : (others : List Opened) × (context.opened ≡ event ∷ others) → due_where Puts row ≡ dues_at_start flags context.slot context.opened
  on (others, is) =
      step others (λ attributed. subst (IsDepth event.subject.kind others) (sym depth_is)
      (depth_inside event others statements waits (st ∙ ap (open_through is_statement) is) (wt ∙ ap (open_through is_wait) is) attributed))
      ∙ ap (λ z. current_due flags z event others) same ∙ ap (dues_at_start flags context.slot) (sym is)

-- whether an event is offered at its end
pub at_end : (flags : ℕ → ℕ → ℕ) (ring : EventKind → Consumer) (slot : Option ℕ) (event : Opened) (consumers thread : Option ℕ) (consumer : Consumer)
    (current acts history two all : Bool) (seen word : ℕ) → current ≡ is_offered_current flags slot event → acts ≡ acts_of seen consumer
    → seen ≡ flags_seen flags (λ number. number) (Some 0) consumers → consumer ≡ ring event.subject.kind → history ≡ has_history word
    → word ≡ flags_seen flags thread_word slot thread → two ≡ (current && acts) → all ≡ (two && history)
    → all ≡ is_offered_at_end ring flags slot event consumers thread
at_end flags ring slot event consumers thread consumer current acts history two all seen word a b c d e f g h =
    h ∙ ap (λ z. z && history) (g ∙ ap (λ z. z && acts) a
    ∙ ap (λ z. is_offered_current flags slot event && z)
    (b ∙ ap (λ z. acts_of z consumer) c ∙ ap (acts_of (flags_seen flags (λ number. number) (Some 0) consumers)) d))
    ∙ ap (λ z. (is_offered_current flags slot event && acts_of (flags_seen flags (λ number. number) (Some 0) consumers) (ring event.subject.kind)) && z)
    (e ∙ ap has_history f)

-- the current place of an event
pub current_none : (flags : ℕ → ℕ → ℕ) (slot : Option ℕ) (event : Opened) (others : List Opened) → slot ≡ None
    → [] ≡ current_due flags slot event others
current_none flags slot event others e = ap (λ z. in_slot z (λ own. due_if (is_offered_current flags slot event) (Puts (place_of_start own event.subject.kind others)))) (sym e)

pub current_some : (flags : ℕ → ℕ → ℕ) (slot : Option ℕ) (own row depth : ℕ) (event : Opened) (others : List Opened) → slot ≡ Some own
    → is_offered_current flags slot event ≡ true → row ≡ current_row own event.subject.kind depth
    → (is_attributed event.verdict ≡ true → IsDepth event.subject.kind others depth) → Puts row ∷ [] ≡ current_due flags slot event others
current_some flags slot own row depth event others e offered is deep =
    ap (λ z. Puts z ∷ []) (is ∙ deep (and_parts (is_attributed event.verdict) _ offered).0 own)
    ∙ ap (λ z. due_if z (Puts (place_of_start own event.subject.kind others))) (sym offered)
    ∙ ap (λ z. in_slot z (λ at. due_if (is_offered_current flags slot event) (Puts (place_of_start at event.subject.kind others)))) (sym e)

pub current_off : (flags : ℕ → ℕ → ℕ) (slot : Option ℕ) (own : ℕ) (event : Opened) (others : List Opened) → slot ≡ Some own
    → is_offered_current flags slot event ≡ false → [] ≡ current_due flags slot event others
current_off flags slot own event others e offered =
    ap (λ z. due_if z (Puts (place_of_start own event.subject.kind others))) (sym offered)
    ∙ ap (λ z. in_slot z (λ at. due_if (is_offered_current flags slot event) (Puts (place_of_start at event.subject.kind others)))) (sym e)

pub current_alone : (current : Option ℕ) → dues_of (record { cell = None; digest = None; current = current; history = None; long = None }) ≡ due_where Puts current
current_alone None = refl
current_alone (Some row) = refl

-- what a start begins
pub start_same : (flags : ℕ → ℕ → ℕ) (slot : Option ℕ) (subject : Option Subject) (context : Context) (event : Option ℕ) (verdict : Verdict)
    (consumers thread class table : Option ℕ)
    → dues_at_start flags slot (opened_behind (started_by subject (says.Start event verdict consumers thread class table)) context.opened)
    ≡ dues_at_start flags slot (noted subject context (says.Start event verdict consumers thread class table)).opened
start_same flags slot None context event verdict consumers thread class table = refl
start_same flags slot (Some subject) context event verdict consumers thread class table = refl

-- what is due in a slot, of two at once
in_both : (slot : Option ℕ) (a b : ℕ → List Due) → in_slot slot (λ own. a own ++ b own) ≡ in_slot slot a ++ in_slot slot b
in_both None a b = refl
in_both (Some own) a b = refl

-- where one is asked for
pub where_asked : (due : ℕ → Due) (asked : Bool) (n m : ℕ) → asked ≡ true → n ≡ m → due n ∷ [] ≡ due_if asked (due m)
where_asked due true n m e f = ap (λ z. due z ∷ []) f
where_asked due false n m e f = absurd (cc)

pub where_not : (due : Due) (asked : Bool) → asked ≡ false → [] ≡ due_if asked due
where_not due true e = absurd (cc)
where_not due false e = refl

pub in_own : (slot : Option ℕ) (own : ℕ) (due : ℕ → List Due) (dues : List Due) → slot ≡ Some own → dues ≡ due own → dues ≡ in_slot slot due
in_own slot own due dues e f = f ∙ ap (λ z. in_slot z due) (sym e)

pub in_none : (slot : Option ℕ) (due : ℕ → List Due) → slot ≡ None → [] ≡ in_slot slot due
in_none slot due e = ap (λ z. in_slot z due) (sym e)

-- all that is due behind an end
abbrev pub history_at_end : (ℕ → ℕ → ℕ) → List Placed → ℕ → Option ℕ → Opened → Option ℕ → Option ℕ → ℕ → List Due
history_at_end flags earlier session slot event consumers thread own =
    due_if (is_offered_at_end history_consumer flags slot event consumers thread)
    (Puts (history_place earlier session own (ring_number event.subject.kind)))

abbrev pub long_at_end : (ℕ → ℕ → ℕ) → Option ℕ → Opened → Option ℕ → Option ℕ → ℕ → List Due
long_at_end flags slot event consumers thread own =
    due_if (is_offered_at_end long_consumer flags slot event consumers thread) (PutsLong (ring_number event.subject.kind))

-- by its parts
pub record EndParts (flags : ℕ → ℕ → ℕ) (earlier : List Placed) (place : Placed) (event : Opened) (consumers thread : Option ℕ)
    (dues : KeptDues) : Type 0 where
  pub cell : due_where Adds dues.cell ≡ Adds (cell_row (counted_slot place.context.slot event.verdict) event.subject.cell) ∷ []
  pub digest : due_where Adds dues.digest ≡ due_if (is_digested flags place.context.slot event) (Adds (digest_row event.subject.digest))
  pub current : due_where Puts dues.current ≡ dues_at_start flags place.context.slot place.context.opened
  pub history : due_where Puts dues.history ≡ in_slot place.context.slot (history_at_end flags earlier place.session place.context.slot event consumers thread)
  pub long : due_where PutsLong dues.long ≡ in_slot place.context.slot (long_at_end flags place.context.slot event consumers thread)

five : (a b c d e v w x y z : List Due) → a ≡ v → b ≡ w → c ≡ x → d ≡ y → e ≡ z → a ++ (b ++ (c ++ (d ++ e))) ≡ v ++ (w ++ (x ++ (y ++ z)))
five a b c d e v w x y z p q r s t = cc

when_true : (b : Bool) (dues : List Due) → b ≡ true → dues ≡ cond b dues []
when_true true dues e = refl
when_true false dues e = absurd (cc)

abbrev whole : (ℕ → ℕ → ℕ) → List Placed → Placed → Opened → List Opened → Option ℕ → Option ℕ → List Due
whole flags earlier place event others consumers thread =
    Adds (cell_row (counted_slot place.context.slot event.verdict) event.subject.cell)
    ∷ (due_if (is_digested flags place.context.slot event) (Adds (digest_row event.subject.digest))
    ++ (current_due flags place.context.slot event others ++ history_dues flags earlier place event consumers thread))

pub end_dues : (flags : ℕ → ℕ → ℕ) (earlier : List Placed) (place : Placed) (event : Opened) (consumers thread : Option ℕ) (dues : KeptDues)
    → first_of place.context.opened ≡ Some event → is_let_through event.verdict ≡ true
    → EndParts flags earlier place event consumers thread dues
    → dues_of dues ≡ dues_at_end flags earlier place place.context.opened consumers thread
end_dues flags earlier place event consumers thread dues first through parts = on (opened_is place.context.opened event first) where
  history : List Due
  history = in_slot place.context.slot (history_at_end flags earlier place.session place.context.slot event consumers thread)

  long : List Due
  long = in_slot place.context.slot (long_at_end flags place.context.slot event consumers thread)

  cell : List Due
  cell = Adds (cell_row (counted_slot place.context.slot event.verdict) event.subject.cell) ∷ []

  digest : List Due
  digest = due_if (is_digested flags place.context.slot event) (Adds (digest_row event.subject.digest))

  on : (others : List Opened) × (place.context.opened ≡ event ∷ others)
      → dues_of dues ≡ dues_at_end flags earlier place place.context.opened consumers thread
  on (others, is) =
      five (due_where Adds dues.cell) (due_where Adds dues.digest) (due_where Puts dues.current) (due_where Puts dues.history)
      (due_where PutsLong dues.long) cell digest (current_due flags place.context.slot event others) history long parts.cell parts.digest
      (parts.current ∙ ap (dues_at_start flags place.context.slot) is) parts.history parts.long
      ∙ ap (λ z. cell ++ (digest ++ (current_due flags place.context.slot event others ++ z)))
      (sym (in_both place.context.slot (history_at_end flags earlier place.session place.context.slot event consumers thread)
      (long_at_end flags place.context.slot event consumers thread)))
      ∙ when_true (is_let_through event.verdict) (whole flags earlier place event others consumers thread) through
      ∙ ap (λ z. dues_at_end flags earlier place z consumers thread) (sym is)

-- and nothing where no event is open, or it isn't let through
pub end_none : (flags : ℕ → ℕ → ℕ) (earlier : List Placed) (place : Placed) (consumers thread : Option ℕ) → first_of place.context.opened ≡ None
    → [] ≡ dues_at_end flags earlier place place.context.opened consumers thread
end_none flags earlier place consumers thread none =
    ap (λ z. dues_at_end flags earlier place z consumers thread) (sym (none_opened place.context.opened none))

pub end_off : (flags : ℕ → ℕ → ℕ) (earlier : List Placed) (place : Placed) (event : Opened) (consumers thread : Option ℕ)
    → first_of place.context.opened ≡ Some event → is_let_through event.verdict ≡ false
    → [] ≡ dues_at_end flags earlier place place.context.opened consumers thread
end_off flags earlier place event consumers thread first off = on (opened_is place.context.opened event first) where
  on : (others : List Opened) × (place.context.opened ≡ event ∷ others) → [] ≡ dues_at_end flags earlier place place.context.opened consumers thread
  on (others, is) =
      ap (λ z. cond z (whole flags earlier place event others consumers thread) []) (sym off)
      ∙ ap (λ z. dues_at_end flags earlier place z consumers thread) (sym is)

-- what is owed behind an entry that is no event
pub after_other : (flags : ℕ → ℕ → ℕ) (earlier : List Placed) (place : Placed) (entry : Entry) (before : Owed)
    → ((event : Option ℕ) (verdict : Verdict) (consumers thread class table : Option ℕ) → entry ≡ says.Start event verdict consumers thread class table → ⊥)
    → ((event last consumers thread : Option ℕ) → entry ≡ says.End event last consumers thread → ⊥)
    → cond (is_head entry) Nothing (paid_one before) ≡ owed_after flags earlier place entry before
after_other flags earlier place (says.Start event verdict consumers thread class table) before s e = absurd (s event verdict consumers thread class table refl)
after_other flags earlier place (says.End event last consumers thread) before s e = absurd (e event last consumers thread refl)
after_other flags earlier place _ before s e = refl

-- behind any entry, by what is kept
pub after_start : (flags : ℕ → ℕ → ℕ) (earlier : List Placed) (place : Placed) (entry : Entry) (started : Option Opened) (before : Owed)
    (dues : List Due) (event : Option ℕ) (verdict : Verdict) (consumers thread class table : Option ℕ) → place.entry ≡ entry
    → entry ≡ says.Start event verdict consumers thread class table → started ≡ started_by (subject_of place.line) entry
    → dues ≡ dues_at_start flags place.context.slot (opened_behind started place.context.opened)
    → Left dues ≡ owed_after flags earlier place place.entry before
after_start flags earlier place entry started before dues event verdict consumers thread class table p e s d =
    ap Left
    (d ∙ ap (λ z. dues_at_start flags place.context.slot (opened_behind z place.context.opened)) (s ∙ ap (started_by (subject_of place.line)) e)
    ∙ start_same flags place.context.slot (subject_of place.line) place.context event verdict consumers thread class table
    ∙ ap (λ z. dues_at_start flags place.context.slot (noted (subject_of place.line) place.context z).opened) (sym (p ∙ e)))
    ∙ ap (λ z. owed_after flags earlier place z before) (sym (p ∙ e))

pub after_end : (flags : ℕ → ℕ → ℕ) (earlier : List Placed) (place : Placed) (entry : Entry) (before : Owed) (dues : List Due)
    (event last consumers thread : Option ℕ) → place.entry ≡ entry → entry ≡ says.End event last consumers thread
    → dues ≡ dues_at_end flags earlier place place.context.opened consumers thread → Left dues ≡ owed_after flags earlier place place.entry before
after_end flags earlier place entry before dues event last consumers thread p e d =
    ap Left d ∙ ap (λ z. owed_after flags earlier place z before) (sym (p ∙ e))

pub after_rest : (flags : ℕ → ℕ → ℕ) (earlier : List Placed) (place : Placed) (entry : Entry) (before owed : Owed) → place.entry ≡ entry
    → ((event : Option ℕ) (verdict : Verdict) (consumers thread class table : Option ℕ) → entry ≡ says.Start event verdict consumers thread class table → ⊥)
    → ((event last consumers thread : Option ℕ) → entry ≡ says.End event last consumers thread → ⊥)
    → owed ≡ cond (is_head entry) Nothing (paid_one before) → owed ≡ owed_after flags earlier place place.entry before
after_rest flags earlier place entry before owed p starts ends e =
    e ∙ after_other flags earlier place entry before starts ends ∙ ap (λ z. owed_after flags earlier place z before) (sym p)
