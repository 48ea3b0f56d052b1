-- Lines with an action or a query end no event, and the others have no entry of an action or a query.
use Rattle.std.proofs.Common.{◌≡◌, refl, ℕ, Bool, true, false, List, [], ◌∷◌, ◌++◌, map, ◌⊎◌, inl, inr, Option}
use Rattle.std.specs.Prelude.{Ok, Err, if◌then◌else◌}
use Rattle.pfs_event.specs.Verdicts.{is_let_through}
use Rattle.pfs_event.specs.declared.entry.Entry.{Entry}
use Rattle.pfs_event.specs.declared.entry.Entry.TheVariants as says
use Rattle.pfs_event.specs.declared.kind.EventKind.{EventKind}
use Rattle.pfs_event.specs.declared.kind.EventKind.TheVariants as kinds
use Rattle.pfs_model.specs.declared.lines.Line.{Line}
use Rattle.pfs_model.specs.declared.lines.Line.TheVariants as lines
use Rattle.pfs_model.specs.declared.lines.Opened.{Opened}
use Rattle.pfs_model.specs.declared.shapes.Ask.{Ask}
use Rattle.pfs_model.specs.declared.shapes.Ask.TheVariants as asks
use Rattle.pfs_model.specs.declared.shapes.Item.{Item}
use Rattle.pfs_model.specs.declared.shapes.Often.{Often}
use Rattle.pfs_model.specs.declared.shapes.Often.TheVariants.{One, Maybe, Many}
use Rattle.pfs_model.specs.Chains.{Each}
use Rattle.pfs_model.specs.Contexts.{Context}
use Rattle.pfs_model.specs.Cuts.{behind, cut, step, then_cut}
use Rattle.pfs_model.specs.EntryAsks.{fits}
use Rattle.pfs_model.specs.Shapes.{added, counting, digest_of, ending, ending_both, ending_first, ending_stage, is_stage, puts, settling, shape, starting}
use Rattle.pfs_model.proofs.EachLists.{each_join}
use Rattle.pfs_law_contexts.specs.ToldContexts.{is_quiet}

-- each entry of a part is one that is asked for
abbrev IsAskedFor : (Entry → Type 0) → Item → Type 0
IsAskedFor P item = (e : Entry) → fits item.ask e ≡ true → P e

behind_each : (P : Entry → Type 0) (ask : Ask) (entries : List Entry) → ((e : Entry) → fits ask e ≡ true → P e) → Each P (behind ask entries) → Each P entries
unfolding behind
behind_each P ask [] h rest = tt
behind_each P ask (e ∷ es) h rest = on (fits ask e) refl (behind_each P ask es h) rest where
  on : (b : Bool) → fits ask e ≡ b → (Each P (behind ask es) → Each P es) → Each P (if b then behind ask es else e ∷ es) → Each P (e ∷ es)
  on true f go rest = (h e f, go rest)
  on false f go rest = rest

cut_each : (P : Entry → Type 0) (items : List Item) (part : List Entry) → Each (IsAskedFor P) items → cut items part ≡ Ok [] → Each P part
unfolding cut
cut_each P [] [] h c = tt
cut_each P [] (e ∷ es) h c = absurd (cc)
cut_each P (item ∷ items) part h c = by item.often part c (λ rest d. cut_each P items rest h.1 d) where
  by : (often : Often) (part : List Entry) → then_cut (step often item.ask part) (cut items) ≡ Ok [] → ((rest : List Entry) → cut items rest ≡ Ok [] → Each P rest) → Each P part
  by One [] c go = absurd (cc)
  by One (e ∷ es) c go = on (fits item.ask e) refl c where
    on : (b : Bool) → fits item.ask e ≡ b → then_cut (if b then Ok es else Err (e ∷ es)) (cut items) ≡ Ok [] → Each P (e ∷ es)
    on true f c = (h.0 e f, go es c)
    on false f c = absurd (cc)
  by Maybe [] c go = go [] c
  by Maybe (e ∷ es) c go = on (fits item.ask e) refl c where
    on : (b : Bool) → fits item.ask e ≡ b → then_cut (if b then Ok es else Ok (e ∷ es)) (cut items) ≡ Ok [] → Each P (e ∷ es)
    on true f c = (h.0 e f, go es c)
    on false f c = go (e ∷ es) c
  by Many part c go = behind_each P item.ask part h.0 (go (behind item.ask part) c)

-- what ends an event, and what asks for it
abbrev pub is_ending : Entry → Bool
is_ending (says.End event last consumers thread) = true
is_ending _ = false

abbrev ends_event : Ask → Bool
ends_event (asks.End through) = true
ends_event _ = false

abbrev is_alone : Ask → Bool
is_alone asks.Connect = true
is_alone asks.Act = true
is_alone asks.Query = true
is_alone asks.Error = true
is_alone asks.Answer = true
is_alone _ = false

not_ending : (ask : Ask) → ends_event ask ≡ false → (e : Entry) → fits ask e ≡ true → is_ending e ≡ false
not_ending ask n (says.End event last consumers thread) f = none ask n f where
  none : (ask : Ask) → ends_event ask ≡ false → fits ask (says.End event last consumers thread) ≡ true → true ≡ false
  none (asks.End through) n f = absurd (cc)
  none _ n f = absurd (cc)
not_ending ask n _ f = refl

not_quiet : (ask : Ask) → is_alone ask ≡ false → (e : Entry) → fits ask e ≡ true → is_quiet e ≡ false
not_quiet ask n (says.Connect action thread account user host) f = none ask n f where
  none : (ask : Ask) → is_alone ask ≡ false → fits ask (says.Connect action thread account user host) ≡ true → true ≡ false
  none asks.Connect n f = absurd (cc)
  none _ n f = absurd (cc)
not_quiet ask n (says.Act action) f = none ask n f where
  none : (ask : Ask) → is_alone ask ≡ false → fits ask (says.Act action) ≡ true → true ≡ false
  none asks.Act n f = absurd (cc)
  none _ n f = absurd (cc)
not_quiet ask n says.Query f = none ask n f where
  none : (ask : Ask) → is_alone ask ≡ false → fits ask says.Query ≡ true → true ≡ false
  none asks.Query n f = absurd (cc)
  none _ n f = absurd (cc)
not_quiet ask n (says.Error error) f = none ask n f where
  none : (ask : Ask) → is_alone ask ≡ false → fits ask (says.Error error) ≡ true → true ≡ false
  none asks.Error n f = absurd (cc)
  none asks.Answer n f = absurd (cc)
  none _ n f = absurd (cc)
not_quiet ask n _ f = refl

-- shapes without such items
abbrev Ends : List Item → Type 0
Ends items = Each (λ (item : Item). is_alone item.ask ≡ false) items

abbrev Acts : List Item → Type 0
Acts items = Each (λ (item : Item). ends_event item.ask ≡ false) items

counting_ends : (slot : Option ℕ) (event : Opened) (b : Bool) → Ends (counting slot event b)
counting_ends slot event false = tt
counting_ends slot event true = (refl, each_join (λ (item : Item). is_alone item.ask ≡ false) (digest_of event.subject.kind) puts (digests event.subject.kind) (refl, (refl, (refl, tt)))) where
  digests : (kind : EventKind) → Ends (digest_of kind)
  digests kinds.Statement = (refl, tt)
  digests kinds.Wait = tt
  digests kinds.Stage = tt
  digests kinds.Transaction = tt

ending_ends : (slot : Option ℕ) (event : Opened) → Ends (ending slot event)
ending_ends slot event = (refl, counting_ends slot event (is_let_through event.verdict))

first_ends : (slot : Option ℕ) (events : List Opened) → Ends (ending_first slot events)
first_ends slot [] = tt
first_ends slot (event ∷ events) = ending_ends slot event

if_ends : (b : Bool) (items : List Item) → Ends items → Ends (if b then items else [])
if_ends true items e = e
if_ends false items e = tt

stage_ends : (slot : Option ℕ) (events : List Opened) → Ends (ending_stage slot events)
stage_ends slot [] = tt
stage_ends slot (event ∷ events) = if_ends (is_stage event.subject.kind) (ending slot event) (ending_ends slot event)

both_ends : (slot : Option ℕ) (events : List Opened) → Ends (ending_both slot events)
both_ends slot [] = tt
both_ends slot (event ∷ events) = each_join (λ (item : Item). is_alone item.ask ≡ false) (ending slot event)
    (if is_stage event.subject.kind then ending_first slot events else []) (ending_ends slot event)
    (if_ends (is_stage event.subject.kind) (ending_first slot events) (first_ends slot events))

rows_end : (rows : List ℕ) → Ends (map added rows)
rows_end [] = tt
rows_end (row ∷ rows) = (refl, rows_end rows)

settling_ends : (rows : List ℕ) → Ends (settling rows)
settling_ends [] = tt
settling_ends (row ∷ rows) = (refl, (refl, rows_end rows))

rows_act : (rows : List ℕ) → Acts (map added rows)
rows_act [] = tt
rows_act (row ∷ rows) = (refl, rows_act rows)

settling_acts : (rows : List ℕ) → Acts (settling rows)
settling_acts [] = tt
settling_acts (row ∷ rows) = (refl, (refl, rows_act rows))

acts_behind : (rows : List ℕ) (items : List Item) → Acts items → Acts (settling rows ++ items)
acts_behind rows items a = each_join (λ (item : Item). ends_event item.ask ≡ false) (settling rows) items (settling_acts rows) a

one_or_other : (context : Context) (line : Line) → Acts (shape context line) ⊎ Ends (shape context line)
one_or_other context lines.Connect = inl (refl, (refl, (refl, (refl, tt))))
one_or_other context (lines.Start subject) = inr (refl, (refl, tt))
one_or_other context (lines.Stage subject) = inr (each_join (λ (item : Item). is_alone item.ask ≡ false) (ending_stage context.slot context.opened) (starting context.slot subject)
    (stage_ends context.slot context.opened) (refl, (refl, tt)))
one_or_other context lines.StageEnd = inr (stage_ends context.slot context.opened)
one_or_other context lines.End = inr (both_ends context.slot context.opened)
one_or_other context lines.Spend = inr tt
one_or_other context lines.Change = inl (acts_behind context.held _ (refl, (refl, (refl, (refl, (refl, tt))))))
one_or_other context lines.Quit = inl (acts_behind context.held _ (refl, (refl, (refl, (refl, tt)))))
one_or_other context lines.Show = inl (acts_behind context.held _ (refl, (refl, (refl, (refl, (refl, tt))))))
one_or_other context lines.Query = inl (refl, (refl, (refl, tt)))
one_or_other context (lines.Refused error) = inl (refl, tt)
one_or_other context lines.Close = inr (settling_ends context.held)

asked_acts : (items : List Item) → Acts items → Each (IsAskedFor (λ e. is_ending e ≡ false)) items
asked_acts [] a = tt
asked_acts (item ∷ items) a = (not_ending item.ask a.0, asked_acts items a.1)

asked_ends : (items : List Item) → Ends items → Each (IsAskedFor (λ e. is_quiet e ≡ false)) items
asked_ends [] a = tt
asked_ends (item ∷ items) a = (not_quiet item.ask a.0, asked_ends items a.1)

-- the entries of a line
pub quiet_part : (context : Context) (line : Line) (part : List Entry) → cut (shape context line) part ≡ Ok []
    → Each (λ e. is_ending e ≡ false) part ⊎ Each (λ e. is_quiet e ≡ false) part
quiet_part context line part c = on (one_or_other context line) where
  on : Acts (shape context line) ⊎ Ends (shape context line) → Each (λ e. is_ending e ≡ false) part ⊎ Each (λ e. is_quiet e ≡ false) part
  on (inl a) = inl (cut_each (λ e. is_ending e ≡ false) (shape context line) part (asked_acts (shape context line) a) c)
  on (inr a) = inr (cut_each (λ e. is_quiet e ≡ false) (shape context line) part (asked_ends (shape context line) a) c)
