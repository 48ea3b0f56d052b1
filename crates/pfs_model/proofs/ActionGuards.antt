-- In what a line asks for, nothing of an action stands before the action's number.
use Rattle.std.proofs.Common.{◌≡◌, refl, ℕ, Bool, true, false, ◌&&◌, ◌||◌, not, List, [], ◌∷◌, ◌++◌, map, sym, subst, Option}
use Rattle.std.specs.Prelude.{Ok, Err, if◌then◌else◌}
use Rattle.std.proofs.lemmas.Bool.{and_parts}
use Rattle.pfs_event.specs.declared.entry.Entry.{Entry}
use Rattle.pfs_event.specs.declared.entry.Entry.TheVariants as says
use Rattle.pfs_event.specs.declared.kind.EventKind.{EventKind}
use Rattle.pfs_event.specs.declared.kind.EventKind.TheVariants as kinds
use Rattle.pfs_model.specs.declared.lines.Line.{Line}
use Rattle.pfs_model.specs.declared.lines.Line.TheVariants as lines
use Rattle.pfs_model.specs.declared.lines.Opened.{Opened}
use Rattle.pfs_model.specs.declared.shapes.Ask.{Ask}
use Rattle.pfs_model.specs.declared.shapes.Ask.TheVariants as asks
use Rattle.pfs_model.specs.declared.shapes.Item.{Item}
use Rattle.pfs_model.specs.declared.shapes.Often.{Often}
use Rattle.pfs_model.specs.declared.shapes.Often.TheVariants.{One, Maybe, Many}
use Rattle.pfs_event.specs.Verdicts.{is_let_through}
use Rattle.pfs_model.specs.EntryAsks.{fits}
use Rattle.pfs_model.specs.Actions.{is_acted}
use Rattle.pfs_model.specs.Contexts.{Context}
use Rattle.pfs_model.specs.Cuts.{behind, step, then_cut, cut}
use Rattle.pfs_model.specs.Shapes.{shape, added, settling, puts, digest_of, counting, ending, ending_first, ending_stage, ending_both, starting, is_stage}

-- the entry says an action's number
abbrev pub begins : Entry → Bool
begins (says.Connect action thread account user host) = true
begins (says.Act action) = true
begins _ = false

-- nothing of an action stands before an entry that says its number
abbrev pub Guarded : Bool → List Entry → Type 0
Guarded acted [] = Unit {0}
Guarded true (entry ∷ entries) = Unit {0}
Guarded false (entry ∷ entries) = (is_acted entry ≡ false) × Guarded (begins entry) entries

guarded_more : (b : Bool) (entries : List Entry) → Guarded false entries → Guarded b entries
guarded_more b [] g = tt
guarded_more true (e ∷ es) g = tt
guarded_more false (e ∷ es) g = g

guarded_true : (entries : List Entry) → Guarded true entries
guarded_true [] = tt
guarded_true (e ∷ es) = tt

abbrev pub acts : Ask → Bool
acts asks.Move = true
acts asks.Sign = true
acts asks.Set = true
acts _ = false

abbrev pub begins_ask : Ask → Bool
begins_ask asks.Connect = true
begins_ask asks.Act = true
begins_ask _ = false

abbrev pub begins_item : Often → Ask → Bool
begins_item One ask = begins_ask ask
begins_item Maybe ask = false
begins_item Many ask = false

abbrev pub guards : List Item → Bool
guards [] = true
guards (item ∷ items) = not (acts item.ask) && (begins_item item.often item.ask || guards items)

quiet : (ask : Ask) (e : Entry) → not (acts ask) ≡ true → fits ask e ≡ true → is_acted e ≡ false
quiet asks.Move e a f = absurd (cc)
quiet asks.Sign e a f = absurd (cc)
quiet asks.Set e a f = absurd (cc)
quiet ask (says.Take row version) a f = none ask a f where
  none : (ask : Ask) → not (acts ask) ≡ true → fits ask (says.Take row version) ≡ true → true ≡ false
  none asks.Move a f = absurd (cc)
  none _ a f = absurd (cc)
quiet ask (says.Give row version from) a f = none ask a f where
  none : (ask : Ask) → not (acts ask) ≡ true → fits ask (says.Give row version from) ≡ true → true ≡ false
  none asks.Move a f = absurd (cc)
  none _ a f = absurd (cc)
quiet ask (says.Tag row version) a f = none ask a f where
  none : (ask : Ask) → not (acts ask) ≡ true → fits ask (says.Tag row version) ≡ true → true ≡ false
  none asks.Sign a f = absurd (cc)
  none _ a f = absurd (cc)
quiet ask (says.Free row version) a f = none ask a f where
  none : (ask : Ask) → not (acts ask) ≡ true → fits ask (says.Free row version) ≡ true → true ≡ false
  none asks.Sign a f = absurd (cc)
  none _ a f = absurd (cc)
quiet ask (says.Set word version flags) a f = none ask a f where
  none : (ask : Ask) → not (acts ask) ≡ true → fits ask (says.Set word version flags) ≡ true → true ≡ false
  none asks.Set a f = absurd (cc)
  none _ a f = absurd (cc)
quiet ask _ a f = refl

begun : (ask : Ask) (e : Entry) → begins_ask ask ≡ true → fits ask e ≡ true → begins e ≡ true
begun asks.Connect (says.Connect _ _ _ _ _) b f = refl
begun asks.Connect _ b f = absurd (cc)
begun asks.Act (says.Act _) b f = refl
begun asks.Act _ b f = absurd (cc)
begun _ e b f = absurd (cc)

guarded_many : (ask : Ask) (part : List Entry) → not (acts ask) ≡ true → Guarded false (behind ask part) → Guarded false part
unfolding behind
guarded_many ask [] a g = tt
guarded_many ask (e ∷ es) a g = at (fits ask e) refl g (guarded_many ask es a) where
  at : (b : Bool) → fits ask e ≡ b → Guarded false (if b then behind ask es else e ∷ es) → (Guarded false (behind ask es) → Guarded false es) → Guarded false (e ∷ es)
  at true f g go = (quiet ask e a f, guarded_more (begins e) es (go g))
  at false f g go = g

pub cut_guarded : (items : List Item) (part : List Entry) → guards items ≡ true → cut items part ≡ Ok [] → Guarded false part
unfolding cut
cut_guarded [] part h s = let none : part ≡ [] = cc in subst (Guarded false) (sym none) tt
cut_guarded (item ∷ items) part h s = by item.often refl part (and_parts _ _ h).0 (and_parts _ _ h).1 s (cut_guarded items) where
  taken : (e : Entry) (es : List Entry) (many : Bool) → not (acts item.ask) ≡ true → (many || guards items ≡ true) → (many ≡ true → begins_ask item.ask ≡ true) → fits item.ask e ≡ true → (guards items ≡ true → Guarded false es) → Guarded false (e ∷ es)
  taken e es true a g b f go = (quiet item.ask e a f, rw (begun item.ask e (b refl) f) (guarded_true es))
  taken e es false a g b f go = (quiet item.ask e a f, guarded_more (begins e) es (go g))

  by : (often : Often) → item.often ≡ often → (part : List Entry) → not (acts item.ask) ≡ true → (begins_item often item.ask || guards items ≡ true) → then_cut (step often item.ask part) (cut items) ≡ Ok [] → ((part : List Entry) → guards items ≡ true → cut items part ≡ Ok [] → Guarded false part) → Guarded false part
  by One q [] a g s go = absurd (cc)
  by One q (e ∷ es) a g s go = at (fits item.ask e) refl s where
    at : (b : Bool) → fits item.ask e ≡ b → then_cut (if b then Ok es else Err (e ∷ es)) (cut items) ≡ Ok [] → Guarded false (e ∷ es)
    at true f s = taken e es (begins_ask item.ask) a g (λ b. b) f (λ k. go es k s)
    at false f s = absurd (cc)
  by Maybe q [] a g s go = tt
  by Maybe q (e ∷ es) a g s go = at (fits item.ask e) refl s where
    at : (b : Bool) → fits item.ask e ≡ b → then_cut (if b then Ok es else Ok (e ∷ es)) (cut items) ≡ Ok [] → Guarded false (e ∷ es)
    at true f s = (quiet item.ask e a f, guarded_more (begins e) es (go es g s))
    at false f s = go (e ∷ es) g s
  by Many q part a g s go = guarded_many item.ask part a (go (behind item.ask part) g s)

guards_join : (xs ys : List Item) → guards xs ≡ true → guards ys ≡ true → guards (xs ++ ys) ≡ true
guards_join [] ys c d = d
guards_join (x ∷ xs) ys c d = at (not (acts x.ask)) (begins_item x.often x.ask) c (λ k. guards_join xs ys k d) where
  at : (a b : Bool) → a && (b || guards xs) ≡ true → (guards xs ≡ true → guards (xs ++ ys) ≡ true) → a && (b || guards (xs ++ ys)) ≡ true
  at true true c go = refl
  at true false c go = go c
  at false b c go = absurd (cc)

guards_added : (rows : List ℕ) → guards (map added rows) ≡ true
guards_added [] = refl
guards_added (row ∷ rows) = guards_added rows

guards_settling : (rows : List ℕ) → guards (settling rows) ≡ true
guards_settling [] = refl
guards_settling (row ∷ rows) = guards_added rows

guards_digest : (kind : EventKind) → guards (digest_of kind ++ puts) ≡ true
guards_digest kinds.Wait = refl
guards_digest kinds.Stage = refl
guards_digest kinds.Statement = refl
guards_digest kinds.Transaction = refl

guards_counting : (slot : Option ℕ) (event : Opened) (b : Bool) → guards (counting slot event b) ≡ true
guards_counting slot event true = guards_digest event.subject.kind
guards_counting slot event false = refl

guards_first : (slot : Option ℕ) (events : List Opened) → guards (ending_first slot events) ≡ true
guards_first slot [] = refl
guards_first slot (event ∷ events) = guards_counting slot event (is_let_through event.verdict)

guards_if : (b : Bool) (xs : List Item) → guards xs ≡ true → guards (if b then xs else []) ≡ true
guards_if true xs c = c
guards_if false xs c = refl

guards_stage : (slot : Option ℕ) (events : List Opened) → guards (ending_stage slot events) ≡ true
guards_stage slot [] = refl
guards_stage slot (event ∷ events) = guards_if (is_stage event.subject.kind) _ (guards_counting slot event (is_let_through event.verdict))

guards_both : (slot : Option ℕ) (events : List Opened) → guards (ending_both slot events) ≡ true
guards_both slot [] = refl
guards_both slot (event ∷ events) = guards_join (ending slot event) _ (guards_counting slot event (is_let_through event.verdict)) (guards_if (is_stage event.subject.kind) _ (guards_first slot events))

pub shape_guards : (context : Context) (line : Line) → guards (shape context line) ≡ true
shape_guards context lines.Connect = refl
shape_guards context (lines.Start subject) = refl
shape_guards context (lines.Stage subject) = guards_join (ending_stage context.slot context.opened) (starting context.slot subject) (guards_stage context.slot context.opened) refl
shape_guards context lines.StageEnd = guards_stage context.slot context.opened
shape_guards context lines.End = guards_both context.slot context.opened
shape_guards context lines.Spend = refl
shape_guards context lines.Change = guards_join (settling context.held) _ (guards_settling context.held) refl
shape_guards context lines.Quit = guards_join (settling context.held) _ (guards_settling context.held) refl
shape_guards context lines.Show = guards_join (settling context.held) _ (guards_settling context.held) refl
shape_guards context lines.Query = refl
shape_guards context (lines.Refused error) = refl
shape_guards context lines.Close = guards_settling context.held
