-- In what a line asks for, nothing else of an action stands behind its sets.
use Rattle.std.proofs.Common.{◌≡◌, refl, ℕ, Bool, true, false, ◌&&◌, ◌||◌, not, List, [], ◌∷◌, ◌++◌, map, sym, subst, Option}
use Rattle.std.specs.Prelude.{Ok, Err, if◌then◌else◌}
use Rattle.std.proofs.lemmas.Bool.{and_parts}
use Rattle.pfs_event.specs.declared.entry.Entry.{Entry}
use Rattle.pfs_event.specs.declared.entry.Entry.TheVariants as says
use Rattle.pfs_event.specs.declared.kind.EventKind.{EventKind}
use Rattle.pfs_event.specs.declared.kind.EventKind.TheVariants as kinds
use Rattle.pfs_event.specs.Verdicts.{is_let_through}
use Rattle.pfs_model.specs.declared.lines.Line.{Line}
use Rattle.pfs_model.specs.declared.lines.Line.TheVariants as lines
use Rattle.pfs_model.specs.declared.lines.Opened.{Opened}
use Rattle.pfs_model.specs.declared.shapes.Ask.{Ask}
use Rattle.pfs_model.specs.declared.shapes.Ask.TheVariants as asks
use Rattle.pfs_model.specs.declared.shapes.Item.{Item}
use Rattle.pfs_model.specs.declared.shapes.Often.{Often}
use Rattle.pfs_model.specs.declared.shapes.Often.TheVariants.{One, Maybe, Many}
use Rattle.pfs_model.specs.Contexts.{Context}
use Rattle.pfs_model.specs.Cuts.{behind, cut, step, then_cut}
use Rattle.pfs_model.specs.EntryAsks.{fits, is_set}
use Rattle.pfs_model.specs.Shapes.{added, counting, digest_of, ending, ending_both, ending_first, ending_stage, is_stage, puts, settling, shape, starting}
use Rattle.pfs_check_faults.specs.ActionFaults.{moving_at}

-- behind a set, or from the first one on, no other change stands
abbrev pub SetsLast : Bool → List Entry → Type 0
SetsLast seen [] = Unit {0}
SetsLast true (entry ∷ entries) = (moving_at entry ≡ []) × SetsLast true entries
SetsLast false (entry ∷ entries) = SetsLast (is_set entry) entries

-- no other change
abbrev Setting : List Entry → Type 0
Setting [] = Unit {0}
Setting (entry ∷ entries) = (moving_at entry ≡ []) × Setting entries

setting_last : (seen : Bool) (entries : List Entry) → Setting entries → SetsLast seen entries
setting_last seen [] s = tt
setting_last true (entry ∷ entries) s = (s.0, setting_last true entries s.1)
setting_last false (entry ∷ entries) s = setting_last (is_set entry) entries s.1

-- what asks for other changes, and what for sets
abbrev moves : Ask → Bool
moves asks.Move = true
moves asks.Sign = true
moves _ = false

abbrev sets : Ask → Bool
sets asks.Set = true
sets _ = false

abbrev moveless : List Item → Bool
moveless [] = true
moveless (item ∷ items) = not (moves item.ask) && moveless items

abbrev setless : List Item → Bool
setless [] = true
setless (item ∷ items) = not (sets item.ask) && setless items

abbrev sets_last : List Item → Bool
sets_last [] = true
sets_last (item ∷ items) = moveless (item ∷ items) || (not (sets item.ask) && sets_last items)

moved_none : (ask : Ask) (e : Entry) → not (moves ask) ≡ true → fits ask e ≡ true → moving_at e ≡ []
moved_none asks.Move e a f = absurd (cc)
moved_none asks.Sign e a f = absurd (cc)
moved_none ask (says.Take row version) a f = absurd (none ask a f) where
  none : (ask : Ask) → not (moves ask) ≡ true → fits ask (says.Take row version) ≡ true → ⊥
  none asks.Move a f = absurd (cc)
  none _ a f = absurd (cc)
moved_none ask (says.Give row version from) a f = absurd (none ask a f) where
  none : (ask : Ask) → not (moves ask) ≡ true → fits ask (says.Give row version from) ≡ true → ⊥
  none asks.Move a f = absurd (cc)
  none _ a f = absurd (cc)
moved_none ask (says.Tag row version) a f = absurd (none ask a f) where
  none : (ask : Ask) → not (moves ask) ≡ true → fits ask (says.Tag row version) ≡ true → ⊥
  none asks.Sign a f = absurd (cc)
  none _ a f = absurd (cc)
moved_none ask (says.Free row version) a f = absurd (none ask a f) where
  none : (ask : Ask) → not (moves ask) ≡ true → fits ask (says.Free row version) ≡ true → ⊥
  none asks.Sign a f = absurd (cc)
  none _ a f = absurd (cc)
moved_none ask _ a f = refl

set_none : (ask : Ask) (e : Entry) → not (sets ask) ≡ true → fits ask e ≡ true → is_set e ≡ false
set_none asks.Set e a f = absurd (cc)
set_none ask (says.Set word version flags) a f = absurd (none ask a f) where
  none : (ask : Ask) → not (sets ask) ≡ true → fits ask (says.Set word version flags) ≡ true → ⊥
  none asks.Set a f = absurd (cc)
  none _ a f = absurd (cc)
set_none ask _ a f = refl

-- what a shape leaves none of is not in its part
many_setting : (ask : Ask) (part : List Entry) → not (moves ask) ≡ true → Setting (behind ask part) → Setting part
unfolding behind
many_setting ask [] a s = tt
many_setting ask (e ∷ es) a s = at (fits ask e) refl s (many_setting ask es a) where
  at : (b : Bool) → fits ask e ≡ b → Setting (if b then behind ask es else e ∷ es) → (Setting (behind ask es) → Setting es) → Setting (e ∷ es)
  at true f s go = (moved_none ask e a f, go s)
  at false f s go = s

cut_setting : (items : List Item) (part : List Entry) → moveless items ≡ true → cut items part ≡ Ok [] → Setting part
unfolding cut
cut_setting [] part h s = let none : part ≡ [] = cc in subst Setting (sym none) tt
cut_setting (item ∷ items) part h s = by item.often part (and_parts _ _ h).0 (and_parts _ _ h).1 s (cut_setting items) where
  by : (often : Often) (part : List Entry) → not (moves item.ask) ≡ true → moveless items ≡ true → then_cut (step often item.ask part) (cut items) ≡ Ok []
      → ((part : List Entry) → moveless items ≡ true → cut items part ≡ Ok [] → Setting part) → Setting part
  by One [] a m s go = absurd (cc)
  by One (e ∷ es) a m s go = at (fits item.ask e) refl s where
    at : (b : Bool) → fits item.ask e ≡ b → then_cut (if b then Ok es else Err (e ∷ es)) (cut items) ≡ Ok [] → Setting (e ∷ es)
    at true f s = (moved_none item.ask e a f, go es m s)
    at false f s = absurd (cc)
  by Maybe [] a m s go = tt
  by Maybe (e ∷ es) a m s go = at (fits item.ask e) refl s where
    at : (b : Bool) → fits item.ask e ≡ b → then_cut (if b then Ok es else Ok (e ∷ es)) (cut items) ≡ Ok [] → Setting (e ∷ es)
    at true f s = (moved_none item.ask e a f, go es m s)
    at false f s = go (e ∷ es) m s
  by Many part a m s go = many_setting item.ask part a (go (behind item.ask part) m s)

-- one entry more that is no set
one_more : (ask : Ask) (e : Entry) (es : List Entry) → not (sets ask) ≡ true → fits ask e ≡ true → SetsLast false es → SetsLast false (e ∷ es)
one_more ask e es a f s = subst (λ b. SetsLast b es) (sym (set_none ask e a f)) s

many_last : (ask : Ask) (part : List Entry) → not (sets ask) ≡ true → SetsLast false (behind ask part) → SetsLast false part
unfolding behind
many_last ask [] a s = tt
many_last ask (e ∷ es) a s = at (fits ask e) refl s (many_last ask es a) where
  at : (b : Bool) → fits ask e ≡ b → SetsLast false (if b then behind ask es else e ∷ es) → (SetsLast false (behind ask es) → SetsLast false es)
      → SetsLast false (e ∷ es)
  at true f s go = one_more ask e es a f (go s)
  at false f s go = s

pub cut_last : (items : List Item) (part : List Entry) → sets_last items ≡ true → cut items part ≡ Ok [] → SetsLast false part
unfolding cut
cut_last [] part h s = let none : part ≡ [] = cc in subst (SetsLast false) (sym none) tt
cut_last (item ∷ items) part h s = on (moveless (item ∷ items)) refl h s (cut_last items) where
  by : (often : Often) (part : List Entry) → not (sets item.ask) ≡ true → sets_last items ≡ true → then_cut (step often item.ask part) (cut items) ≡ Ok []
      → ((part : List Entry) → sets_last items ≡ true → cut items part ≡ Ok [] → SetsLast false part) → SetsLast false part
  by One [] a m s go = absurd (cc)
  by One (e ∷ es) a m s go = at (fits item.ask e) refl s where
    at : (b : Bool) → fits item.ask e ≡ b → then_cut (if b then Ok es else Err (e ∷ es)) (cut items) ≡ Ok [] → SetsLast false (e ∷ es)
    at true f s = one_more item.ask e es a f (go es m s)
    at false f s = absurd (cc)
  by Maybe [] a m s go = tt
  by Maybe (e ∷ es) a m s go = at (fits item.ask e) refl s where
    at : (b : Bool) → fits item.ask e ≡ b → then_cut (if b then Ok es else Ok (e ∷ es)) (cut items) ≡ Ok [] → SetsLast false (e ∷ es)
    at true f s = one_more item.ask e es a f (go es m s)
    at false f s = go (e ∷ es) m s
  by Many part a m s go = many_last item.ask part a (go (behind item.ask part) m s)

  on : (b : Bool) → moveless (item ∷ items) ≡ b → b || (not (sets item.ask) && sets_last items) ≡ true
      → then_cut (step item.often item.ask part) (cut items) ≡ Ok []
      → ((part : List Entry) → sets_last items ≡ true → cut items part ≡ Ok [] → SetsLast false part) → SetsLast false part
  on true m h s go = setting_last false part (cut_setting (item ∷ items) part m s)
  on false m h s go = by item.often part (and_parts _ _ h).0 (and_parts _ _ h).1 s go

-- the shapes of lines
setless_join : (xs ys : List Item) → setless xs ≡ true → setless ys ≡ true → setless (xs ++ ys) ≡ true
setless_join [] ys c d = d
setless_join (x ∷ xs) ys c d = at (not (sets x.ask)) c (λ k. setless_join xs ys k d) where
  at : (a : Bool) → a && setless xs ≡ true → (setless xs ≡ true → setless (xs ++ ys) ≡ true) → a && setless (xs ++ ys) ≡ true
  at true c go = go c
  at false c go = absurd (cc)

last_join : (xs ys : List Item) → setless xs ≡ true → sets_last ys ≡ true → sets_last (xs ++ ys) ≡ true
last_join [] ys c d = d
last_join (x ∷ xs) ys c d = at (moveless (x ∷ (xs ++ ys))) (not (sets x.ask)) c (λ k. last_join xs ys k d) where
  at : (m a : Bool) → a && setless xs ≡ true → (setless xs ≡ true → sets_last (xs ++ ys) ≡ true) → m || (a && sets_last (xs ++ ys)) ≡ true
  at true a c go = refl
  at false true c go = go c
  at false false c go = absurd (cc)

last_of : (xs : List Item) → setless xs ≡ true → sets_last xs ≡ true
last_of [] c = refl
last_of (x ∷ xs) c = at (moveless (x ∷ xs)) (not (sets x.ask)) c (last_of xs) where
  at : (m a : Bool) → a && setless xs ≡ true → (setless xs ≡ true → sets_last xs ≡ true) → m || (a && sets_last xs) ≡ true
  at true a c go = refl
  at false true c go = go c
  at false false c go = absurd (cc)

setless_added : (rows : List ℕ) → setless (map added rows) ≡ true
setless_added [] = refl
setless_added (row ∷ rows) = setless_added rows

setless_settling : (rows : List ℕ) → setless (settling rows) ≡ true
setless_settling [] = refl
setless_settling (row ∷ rows) = setless_added rows

setless_digest : (kind : EventKind) → setless (digest_of kind ++ puts) ≡ true
setless_digest kinds.Wait = refl
setless_digest kinds.Stage = refl
setless_digest kinds.Statement = refl
setless_digest kinds.Transaction = refl

setless_counting : (slot : Option ℕ) (event : Opened) (b : Bool) → setless (counting slot event b) ≡ true
setless_counting slot event true = setless_digest event.subject.kind
setless_counting slot event false = refl

setless_first : (slot : Option ℕ) (events : List Opened) → setless (ending_first slot events) ≡ true
setless_first slot [] = refl
setless_first slot (event ∷ events) = setless_counting slot event (is_let_through event.verdict)

setless_if : (b : Bool) (xs : List Item) → setless xs ≡ true → setless (if b then xs else []) ≡ true
setless_if true xs c = c
setless_if false xs c = refl

setless_stage : (slot : Option ℕ) (events : List Opened) → setless (ending_stage slot events) ≡ true
setless_stage slot [] = refl
setless_stage slot (event ∷ events) = setless_if (is_stage event.subject.kind) _ (setless_counting slot event (is_let_through event.verdict))

setless_both : (slot : Option ℕ) (events : List Opened) → setless (ending_both slot events) ≡ true
setless_both slot [] = refl
setless_both slot (event ∷ events) =
    setless_join (ending slot event) _ (setless_counting slot event (is_let_through event.verdict))
    (setless_if (is_stage event.subject.kind) _ (setless_first slot events))

pub shape_last : (context : Context) (line : Line) → sets_last (shape context line) ≡ true
shape_last context lines.Connect = refl
shape_last context (lines.Start subject) = refl
shape_last context (lines.Stage subject) = last_join (ending_stage context.slot context.opened) (starting context.slot subject) (setless_stage context.slot context.opened) refl
shape_last context lines.StageEnd = last_of (ending_stage context.slot context.opened) (setless_stage context.slot context.opened)
shape_last context lines.End = last_of (ending_both context.slot context.opened) (setless_both context.slot context.opened)
shape_last context lines.Spend = refl
shape_last context lines.Change = last_join (settling context.held) _ (setless_settling context.held) refl
shape_last context lines.Quit = last_join (settling context.held) _ (setless_settling context.held) refl
shape_last context lines.Show = last_join (settling context.held) _ (setless_settling context.held) refl
shape_last context lines.Query = refl
shape_last context (lines.Refused error) = refl
shape_last context lines.Close = last_of (settling context.held) (setless_settling context.held)
