-- The shapes of lines begin with a head and allow none, so a journal has its parts in one way.
use Rattle.std.proofs.Common.{◌≡◌, refl, ℕ, Bool, true, false, ◌&&◌, List, [], ◌∷◌, ◌++◌, map, sym, ◌∙◌, ap, Option}
use Rattle.std.specs.Prelude.{Result, Ok, Err, if◌then◌else◌}
use Rattle.pfs_event.specs.declared.entry.Entry.{Entry}
use Rattle.pfs_event.specs.declared.kind.EventKind.{EventKind}
use Rattle.pfs_event.specs.declared.kind.EventKind.TheVariants as kinds
use Rattle.pfs_model.specs.declared.lines.Line.{Line}
use Rattle.pfs_model.specs.declared.lines.Line.TheVariants as lines
use Rattle.pfs_model.specs.declared.lines.Opened.{Opened}
use Rattle.pfs_model.specs.declared.shapes.Item.{Item}
use Rattle.pfs_event.specs.Verdicts.{is_let_through}
use Rattle.pfs_model.specs.Cuts.{cut, front, is_closed, are_closed, has_head, is_headed}
use Rattle.pfs_model.specs.Contexts.{Context, after}
use Rattle.pfs_model.specs.Shapes.{shape, added, settling, puts, digest_of, counting, ending, ending_first, ending_stage, ending_both, starting, is_stage}
use Rattle.pfs_model.specs.JournalCuts.{with_part, on_cut, parts_of, AreShaped, joined, IsJournal, Exact}
use Rattle.pfs_model.proofs.ShapeCuts.{cut_more, Cut, cut_alone, front_of, part_headed}

closed_join : (xs ys : List Item) → are_closed xs ≡ true → are_closed ys ≡ true → are_closed (xs ++ ys) ≡ true
closed_join [] ys c d = d
closed_join (x ∷ xs) ys c d = at (is_closed x.often x.ask) c (λ k. closed_join xs ys k d) where
  at : (b : Bool) → b && are_closed xs ≡ true → (are_closed xs ≡ true → are_closed (xs ++ ys) ≡ true) → b && are_closed (xs ++ ys) ≡ true
  at true c go = go c
  at false c go = absurd (cc)

closed_added : (rows : List ℕ) → are_closed (map added rows) ≡ true
closed_added [] = refl
closed_added (row ∷ rows) = closed_added rows

pub closed_settling : (rows : List ℕ) → are_closed (settling rows) ≡ true
closed_settling [] = refl
closed_settling (row ∷ rows) = closed_added rows

closed_digest : (kind : EventKind) → are_closed (digest_of kind ++ puts) ≡ true
closed_digest kinds.Wait = refl
closed_digest kinds.Stage = refl
closed_digest kinds.Statement = refl
closed_digest kinds.Transaction = refl

closed_counting : (slot : Option ℕ) (event : Opened) (b : Bool) → are_closed (counting slot event b) ≡ true
closed_counting slot event true = closed_digest event.subject.kind
closed_counting slot event false = refl

closed_first : (slot : Option ℕ) (events : List Opened) → are_closed (ending_first slot events) ≡ true
closed_first slot [] = refl
closed_first slot (event ∷ events) = closed_counting slot event (is_let_through event.verdict)

closed_if : (b : Bool) (xs : List Item) → are_closed xs ≡ true → are_closed (if b then xs else []) ≡ true
closed_if true xs c = c
closed_if false xs c = refl

closed_stage : (slot : Option ℕ) (events : List Opened) → are_closed (ending_stage slot events) ≡ true
closed_stage slot [] = refl
closed_stage slot (event ∷ events) = closed_if (is_stage event.subject.kind) _ (closed_counting slot event (is_let_through event.verdict))

closed_both : (slot : Option ℕ) (events : List Opened) → are_closed (ending_both slot events) ≡ true
closed_both slot [] = refl
closed_both slot (event ∷ events) = closed_join (ending slot event) _ (closed_counting slot event (is_let_through event.verdict)) (closed_if (is_stage event.subject.kind) _ (closed_first slot events))

pub shape_closed : (context : Context) (line : Line) → are_closed (shape context line) ≡ true
shape_closed context lines.Connect = refl
shape_closed context (lines.Start subject) = refl
shape_closed context (lines.Stage subject) = closed_join (ending_stage context.slot context.opened) (starting context.slot subject) (closed_stage context.slot context.opened) refl
shape_closed context lines.StageEnd = closed_stage context.slot context.opened
shape_closed context lines.End = closed_both context.slot context.opened
shape_closed context lines.Spend = refl
shape_closed context lines.Change = closed_join (settling context.held) _ (closed_settling context.held) refl
shape_closed context lines.Quit = closed_join (settling context.held) _ (closed_settling context.held) refl
shape_closed context lines.Show = closed_join (settling context.held) _ (closed_settling context.held) refl
shape_closed context lines.Query = refl
shape_closed context (lines.Refused error) = refl
shape_closed context lines.Close = closed_settling context.held

head_join : (xs ys : List Item) → has_head xs ≡ true → has_head ys ≡ true → has_head (xs ++ ys) ≡ true
head_join [] ys c d = d
head_join (x ∷ xs) ys c d = c

head_settling : (rows : List ℕ) → has_head (settling rows) ≡ true
head_settling [] = refl
head_settling (row ∷ rows) = refl

head_if : (b : Bool) (xs : List Item) → has_head xs ≡ true → has_head (if b then xs else []) ≡ true
head_if true xs c = c
head_if false xs c = refl

head_stage : (slot : Option ℕ) (events : List Opened) → has_head (ending_stage slot events) ≡ true
head_stage slot [] = refl
head_stage slot (event ∷ events) = head_if (is_stage event.subject.kind) (ending slot event) refl

head_both : (slot : Option ℕ) (events : List Opened) → has_head (ending_both slot events) ≡ true
head_both slot [] = refl
head_both slot (event ∷ events) = refl

pub shape_headed : (context : Context) (line : Line) → has_head (shape context line) ≡ true
shape_headed context lines.Connect = refl
shape_headed context (lines.Start subject) = refl
shape_headed context (lines.Stage subject) = head_join (ending_stage context.slot context.opened) (starting context.slot subject) (head_stage context.slot context.opened) refl
shape_headed context lines.StageEnd = head_stage context.slot context.opened
shape_headed context lines.End = head_both context.slot context.opened
shape_headed context lines.Spend = refl
shape_headed context lines.Change = head_join (settling context.held) _ (head_settling context.held) refl
shape_headed context lines.Quit = head_join (settling context.held) _ (head_settling context.held) refl
shape_headed context lines.Show = head_join (settling context.held) _ (head_settling context.held) refl
shape_headed context lines.Query = refl
shape_headed context (lines.Refused error) = refl
shape_headed context lines.Close = head_settling context.held

headed_append : (part rest : List Entry) → is_headed part ≡ true → is_headed rest ≡ true → is_headed (part ++ rest) ≡ true
headed_append [] rest p r = r
headed_append (e ∷ es) rest p r = p

pub joined_headed : (context : Context) (lines : List Line) (parts : List (List Entry)) → AreShaped context lines parts → is_headed (joined parts) ≡ true
unfolding joined
joined_headed context [] [] s = refl
joined_headed context [] (part ∷ parts) s = absurd s
joined_headed context (line ∷ lines) [] s = absurd s
joined_headed context (line ∷ lines) (part ∷ parts) s = headed_append part (joined parts) (part_headed (shape context line) part (shape_headed context line) s.0) (joined_headed (after context line part) lines parts s.1)

-- what is shaped is cut into just these parts
pub complete : (context : Context) (lines : List Line) (parts : List (List Entry)) → AreShaped context lines parts → parts_of context lines (joined parts) ≡ Ok parts
unfolding parts_of joined
complete context [] [] s = refl
complete context [] (part ∷ parts) s = absurd s
complete context (line ∷ lines) [] s = absurd s
complete context (line ∷ lines) (part ∷ parts) s =
    rw (cut_more (shape context line) part (joined parts) [] (shape_closed context line) (joined_headed (after context line part) lines parts s.1) s.0, front_of (part ++ joined parts) part (joined parts) refl, complete (after context line part) lines parts s.1) refl

-- what is cut is shaped
pub sound : (context : Context) (lines : List Line) (journal : List Entry) (parts : List (List Entry)) → parts_of context lines journal ≡ Ok parts → IsJournal context lines journal parts
unfolding parts_of joined
sound context [] [] [] s = record { shaped = tt; spelled = refl }
sound context [] [] (part ∷ parts) s = absurd (cc)
sound context [] (e ∷ es) parts s = absurd (cc)
sound context (line ∷ lines) journal parts s =
    on (cut (shape context line) journal) refl s (λ own rest parts q. sound (after context line own) lines rest parts q) where
      with : (rest : List Entry) (c : Cut (shape context line) journal rest) (all : List (List Entry)) (r : Result (List (List Entry)) (List Entry)) → parts_of (after context line c.all) lines rest ≡ r → with_part c.all r ≡ Ok all → ((own rest : List Entry) (parts : List (List Entry)) → parts_of (after context line own) lines rest ≡ Ok parts → IsJournal (after context line own) lines rest parts) → IsJournal context (line ∷ lines) journal all
      with rest c all (Ok parts) q s go = let j : IsJournal (after context line c.all) lines rest parts = go c.all rest parts q in let same : (c.all ∷ parts) ≡ all = cc in rw (← same) (record { shaped = (c.alone, j.shaped); spelled = ap (λ z. c.all ++ z) j.spelled ∙ sym c.is })
      with rest c all (Err z) q s go = absurd (cc)

      on : (r : Result (List Entry) (List Entry)) → cut (shape context line) journal ≡ r → on_cut journal r (λ rest. parts_of (after context line (front journal rest)) lines rest) ≡ Ok parts → ((own rest : List Entry) (parts : List (List Entry)) → parts_of (after context line own) lines rest ≡ Ok parts → IsJournal (after context line own) lines rest parts) → IsJournal context (line ∷ lines) journal parts
      on (Ok rest) q s go =
          let c : Cut (shape context line) journal rest = cut_alone (shape context line) journal rest q in
          let f : front journal rest ≡ c.all = front_of journal c.all rest c.is in
          with rest c parts (parts_of (after context line c.all) lines rest) refl (rw f at s) go
      on (Err rest) q s go = absurd (cc)

pub exact : Exact
exact context lines journal parts = (λ s. sound context lines journal parts s, λ j. sym (ap (λ z. parts_of context lines z) j.spelled) ∙ complete context lines parts j.shaped)
