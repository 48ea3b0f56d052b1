-- A line that asks for an action has one in its journal, and another line has none.
use Rattle.std.proofs.Common.{ℕ, ◌≡◌, ◌+◌, Bool, true, false, if◌then◌else◌, cond, List, [], ◌∷◌, ◌++◌, map, Option, Ok, Err, refl, sym, ap, ◌∙◌, arith}
use Rattle.std.proofs.lemmas.Bool.{and_parts}
use Rattle.pfs_event.specs.declared.entry.Entry.{Entry}
use Rattle.pfs_event.specs.declared.entry.Entry.TheVariants as says
use Rattle.pfs_event.specs.declared.kind.EventKind.{EventKind}
use Rattle.pfs_event.specs.declared.kind.EventKind.TheVariants as kinds
use Rattle.pfs_event.specs.Verdicts.{is_let_through}
use Rattle.pfs_model.specs.EntryAsks.{fits, asks_tail}
use Rattle.pfs_model.specs.Chains.{times}
use Rattle.pfs_model.specs.Contexts.{Context}
use Rattle.pfs_model.specs.Cuts.{behind, step, then_cut, cut, is_closed, are_closed}
use Rattle.pfs_model.specs.Shapes.{shape, starting, counting, digest_of, puts, ending, ending_first, ending_stage, ending_both, settling, added, is_stage}
use Rattle.pfs_model.specs.declared.lines.Line.{Line}
use Rattle.pfs_model.specs.declared.lines.Line.TheVariants as lines
use Rattle.pfs_model.specs.declared.lines.Opened.{Opened}
use Rattle.pfs_model.specs.declared.shapes.Ask.{Ask}
use Rattle.pfs_model.specs.declared.shapes.Ask.TheVariants as asks
use Rattle.pfs_model.specs.declared.shapes.Item.{Item}
use Rattle.pfs_model.specs.declared.shapes.Often.{Often}
use Rattle.pfs_model.specs.declared.shapes.Often.TheVariants.{One, Maybe, Many}
use Rattle.pfs_model.proofs.ChainGrowth.{times_append}
use Rattle.pfs_model.proofs.ClosedShapes.{shape_closed}

-- an entry that begins an action, what asks for one, and a line that has one
abbrev pub acts : Entry → Bool
acts (says.Connect action thread account user host) = true
acts (says.Act action) = true
acts entry = false

abbrev asks_act : Ask → Bool
asks_act asks.Connect = true
asks_act asks.Act = true
asks_act ask = false

abbrev item_acts : Item → Bool
item_acts item = asks_act item.ask

abbrev pub line_acts : Line → Bool
line_acts lines.Connect = true
line_acts lines.Change = true
line_acts lines.Quit = true
line_acts lines.Show = true
line_acts line = false

abbrev one_if : Bool → ℕ
one_if b = cond {A = ℕ} b 1 0

fits_none : (ask : Ask) (e : Entry) → acts e ≡ false → fits ask e ≡ true → asks_act ask ≡ false
fits_none asks.Connect (says.Connect action thread account user host) n f = absurd (cc)
fits_none asks.Connect _ n f = absurd (cc)
fits_none asks.Act (says.Act action) n f = absurd (cc)
fits_none asks.Act _ n f = absurd (cc)
fits_none _ e n f = refl

fits_connect : (ask : Ask) (action : ℕ) (thread account user host : Option ℕ)
    → fits ask (says.Connect action thread account user host) ≡ true → asks_act ask ≡ true
fits_connect asks.Connect action thread account user host f = refl
fits_connect _ action thread account user host f = absurd (cc)

fits_act : (ask : Ask) (action : ℕ) → fits ask (says.Act action) ≡ true → asks_act ask ≡ true
fits_act asks.Act action f = refl
fits_act _ action f = absurd (cc)

fits_acts : (ask : Ask) (e : Entry) → fits ask e ≡ true → acts e ≡ asks_act ask
fits_acts ask (says.Connect action thread account user host) f =
    sym (fits_connect ask action thread account user host f)
fits_acts ask (says.Act action) f = sym (fits_act ask action f)
fits_acts ask e f = sym (fits_none ask e refl f)

-- what a shape merely allows is no action
tail_asks : (ask : Ask) → asks_tail ask ≡ true → asks_act ask ≡ false
tail_asks asks.Connect t = absurd (cc)
tail_asks asks.Act t = absurd (cc)
tail_asks _ t = refl

tail_fits : (ask : Ask) (e : Entry) → asks_tail ask ≡ true → fits ask e ≡ true → one_if (acts e) ≡ 0
tail_fits ask e t f = ap one_if (fits_acts ask e f ∙ tail_asks ask t)

behind_acts : (ask : Ask) (part : List Entry) → asks_tail ask ≡ true → times acts (behind ask part) ≡ times acts part
unfolding behind
behind_acts ask [] t = refl
behind_acts ask (e ∷ es) t = at (fits ask e) refl (behind_acts ask es t) where
  at : (b : Bool) → fits ask e ≡ b → times acts (behind ask es) ≡ times acts es
      → times acts (if b then behind ask es else e ∷ es) ≡ one_if (acts e) + times acts es
  at true f go = omega (arith, go, tail_fits ask e t f)
  at false f go = refl

-- a part has as many actions as its shape asks for
cut_acts : (items : List Item) (part : List Entry) → are_closed items ≡ true → cut items part ≡ Ok []
    → times acts part ≡ times item_acts items
unfolding cut
cut_acts [] part c s = ap (times acts) (let none : part ≡ [] = cc in none)
cut_acts (item ∷ items) part c s =
    by item.often part (and_parts _ _ c).0 s (λ es q. cut_acts items es (and_parts _ _ c).1 q) where
      by : (often : Often) (part : List Entry) → is_closed often item.ask ≡ true
          → then_cut (step often item.ask part) (cut items) ≡ Ok []
          → ((es : List Entry) → cut items es ≡ Ok [] → times acts es ≡ times item_acts items)
          → times acts part ≡ one_if (asks_act item.ask) + times item_acts items
      by One [] c s go = absurd (cc)
      by One (e ∷ es) c s go = at (fits item.ask e) refl s where
        at : (b : Bool) → fits item.ask e ≡ b → then_cut (if b then Ok es else Err (e ∷ es)) (cut items) ≡ Ok []
            → one_if (acts e) + times acts es ≡ one_if (asks_act item.ask) + times item_acts items
        at true f s =
            let here : one_if (acts e) ≡ one_if (asks_act item.ask) = ap one_if (fits_acts item.ask e f) in
            omega (arith, here, go es s)
        at false f s = absurd (cc)
      by Maybe [] c s go =
          let none : one_if (asks_act item.ask) ≡ 0 = ap one_if (tail_asks item.ask c) in
          omega (arith, none, go [] s)
      by Maybe (e ∷ es) c s go = at (fits item.ask e) refl s where
        none : one_if (asks_act item.ask) ≡ 0
        none = ap one_if (tail_asks item.ask c)

        at : (b : Bool) → fits item.ask e ≡ b → then_cut (if b then Ok es else Ok (e ∷ es)) (cut items) ≡ Ok []
            → one_if (acts e) + times acts es ≡ one_if (asks_act item.ask) + times item_acts items
        at true f s = omega (arith, none, tail_fits item.ask e c f, go es s)
        at false f s = omega (arith, none, go (e ∷ es) s)
      by Many part c s go =
          let none : one_if (asks_act item.ask) ≡ 0 = ap one_if (tail_asks item.ask c) in
          omega (arith, none, behind_acts item.ask part c, go (behind item.ask part) s)

-- and only one of an action does
abbrev AreIdle : List Item → Type 0
AreIdle items = times item_acts items ≡ 0

idle_join : (xs ys : List Item) → AreIdle xs → AreIdle ys → AreIdle (xs ++ ys)
idle_join xs ys a b = omega (arith, times_append item_acts xs ys, a, b)

idle_added : (rows : List ℕ) → AreIdle (map added rows)
idle_added [] = refl
idle_added (row ∷ rows) = omega (arith, idle_added rows)

idle_settling : (rows : List ℕ) → AreIdle (settling rows)
idle_settling [] = refl
idle_settling (row ∷ rows) = omega (arith, idle_added rows)

idle_counting : (slot : Option ℕ) (event : Opened) (b : Bool) → AreIdle (counting slot event b)
idle_counting slot event true = by event.subject.kind where
  by : (kind : EventKind) → 0 + times item_acts (digest_of kind ++ puts) ≡ 0
  by kinds.Wait = refl
  by kinds.Stage = refl
  by kinds.Statement = refl
  by kinds.Transaction = refl
idle_counting slot event false = refl

idle_ending : (slot : Option ℕ) (event : Opened) → AreIdle (ending slot event)
idle_ending slot event = omega (arith, idle_counting slot event (is_let_through event.verdict))

idle_first : (slot : Option ℕ) (events : List Opened) → AreIdle (ending_first slot events)
idle_first slot [] = refl
idle_first slot (event ∷ events) = idle_ending slot event

idle_if : (b : Bool) (xs : List Item) → AreIdle xs → AreIdle (if b then xs else [])
idle_if true xs c = c
idle_if false xs c = refl

idle_stage : (slot : Option ℕ) (events : List Opened) → AreIdle (ending_stage slot events)
idle_stage slot [] = refl
idle_stage slot (event ∷ events) = idle_if (is_stage event.subject.kind) (ending slot event) (idle_ending slot event)

idle_both : (slot : Option ℕ) (events : List Opened) → AreIdle (ending_both slot events)
idle_both slot [] = refl
idle_both slot (event ∷ events) =
    idle_join (ending slot event) (if is_stage event.subject.kind then ending_first slot events else [])
    (idle_ending slot event)
    (idle_if (is_stage event.subject.kind) (ending_first slot events) (idle_first slot events))

settled : (rows : List ℕ) (items : List Item) → times item_acts items ≡ 1
    → times item_acts (settling rows ++ items) ≡ 1
settled rows items one = omega (arith, times_append item_acts (settling rows) items, idle_settling rows, one)

shape_acts : (context : Context) (line : Line) → times item_acts (shape context line) ≡ one_if (line_acts line)
shape_acts context lines.Connect = refl
shape_acts context (lines.Start subject) = refl
shape_acts context (lines.Stage subject) =
    idle_join (ending_stage context.slot context.opened) (starting context.slot subject)
    (idle_stage context.slot context.opened) refl
shape_acts context lines.StageEnd = idle_stage context.slot context.opened
shape_acts context lines.End = idle_both context.slot context.opened
shape_acts context lines.Spend = refl
shape_acts context lines.Change = settled context.held _ refl
shape_acts context lines.Quit = settled context.held _ refl
shape_acts context lines.Show = settled context.held _ refl
shape_acts context lines.Query = refl
shape_acts context (lines.Refused error) = refl
shape_acts context lines.Close = idle_settling context.held

pub part_acts : (context : Context) (line : Line) (part : List Entry) → cut (shape context line) part ≡ Ok []
    → times acts part ≡ cond {A = ℕ} (line_acts line) 1 0
part_acts context line part s =
    cut_acts (shape context line) part (shape_closed context line) s ∙ shape_acts context line
