-- What an action prints among the rows of a kind: what it did, but for other rows.
use Rattle.std.proofs.Common.{◌≡◌, refl, ℕ, ◌==◌, ◌&&◌, Bool, true, false, cond, List, [], ◌∷◌, ◌++◌, sym, ap, ◌∙◌}
use Rattle.std.proofs.lemmas.Bool.{eqb-true}
use Rattle.pfs_conservation.specs.RowChains.{Change, Taken, Given}
use Rattle.pfs_conservation.specs.PrintedChanges.{Tagged, change_of}
use Rattle.pfs_conservation.specs.RowMoves.{Move}
use Rattle.pfs_conservation.specs.Prints.{Print, gives_of, prints_of, prints_all, is_move, printed_by}
use Rattle.pfs_event.specs.declared.entry.Entry.{Entry}
use Rattle.pfs_event.specs.declared.entry.Entry.TheVariants as says
use Rattle.pfs_model.specs.ActionAsks.{Did, Took, Gave, Freed, Tagged as Wrote, Flagged, did, given_to, moved_by, signed_by, flagged_by, Asked, asked_of, of_action, Sign, Frees, Tags, Flagging}
use Rattle.pfs_model.specs.ActionAsks.{Move as Moving}
use Rattle.pfs_model.specs.Chains.{Each, each_of}
use Rattle.pfs_model.specs.EntryPlaces.{Placed}
use Rattle.pfs_law_conservation.specs.KindLines.{lines_at, all_lines, lines_on}

-- what was done, as an action prints it
abbrev pub print_of : ℕ → Did → List Print
print_of action (Took row) = record { row = row; change = Taken action } ∷ []
print_of action (Gave row from) = record { row = row; change = Given action from } ∷ []
print_of action (Freed row) = []
print_of action (Wrote row) = []
print_of action (Flagged word flags) = []

abbrev pub prints : ℕ → List Did → List Print
prints action [] = []
prints action (d ∷ ds) = print_of action d ++ prints action ds

-- on rows that pass a test
abbrev pub prints_on : (ℕ → Bool) → List Print → List Print
prints_on test [] = []
prints_on test (x ∷ xs) = cond (test x.row) (x ∷ []) [] ++ prints_on test xs

-- all lines print what was done
pub printed_all : (action : ℕ) (ps : List Placed) → printed_by (all_lines ps) action ≡ prints action (each_of did (of_action action ps))
printed_all action [] = refl
printed_all action (p ∷ ps) = by p.entry refl (printed_all action ps) where
  Rest : List Print
  Rest = prints action (each_of did (of_action action ps))

  one : (row : ℕ) (make : ℕ → Change) (b : Bool) → (p.context.action == action) ≡ b → printed_by (all_lines ps) action ≡ Rest
      → cond b (record { row = row; change = make p.context.action } ∷ []) [] ++ printed_by (all_lines ps) action ≡ cond b (record { row = row; change = make action } ∷ []) [] ++ Rest
  one row make true q ih = ap (λ n. record { row = row; change = make n } ∷ printed_by (all_lines ps) action) (eqb-true p.context.action action q) ∙ ap (λ (z : List Print). record { row = row; change = make action } ∷ z) ih
  one row make false q ih = ih

  front : (b : Bool) (ds : List Did) → did p.entry ≡ ds → prints action (each_of did (cond b (p ∷ []) [] ++ of_action action ps)) ≡ prints action (cond b ds [] ++ each_of did (of_action action ps))
  front true ds e = ap (λ (z : List Did). prints action (z ++ each_of did (of_action action ps))) e
  front false ds e = refl

  some : (b : Bool) (d : Did) → prints action (cond b (d ∷ []) [] ++ each_of did (of_action action ps)) ≡ cond b (print_of action d) [] ++ Rest
  some true d = refl
  some false d = refl

  none : (b : Bool) (ds : List Did) → prints action ds ≡ [] → (ds ≡ []) → prints action (cond b ds [] ++ each_of did (of_action action ps)) ≡ Rest
  none true ds n e = ap (λ (z : List Did). prints action (z ++ each_of did (of_action action ps))) e
  none false ds n e = refl

  silent : (b : Bool) (d : Did) → print_of action d ≡ [] → prints action (cond b (d ∷ []) [] ++ each_of did (of_action action ps)) ≡ Rest
  silent true d n = ap (λ (z : List Print). z ++ Rest) n
  silent false d n = refl

  Goal : Entry → Type 0
  Goal e = printed_by (lines_at p e ++ all_lines ps) action ≡ prints action (each_of did (cond (p.context.action == action) (p ∷ []) [] ++ of_action action ps))

  empty : p.entry ≡ p.entry → did p.entry ≡ [] → printed_by (all_lines ps) action ≡ Rest → printed_by (all_lines ps) action ≡ prints action (each_of did (cond (p.context.action == action) (p ∷ []) [] ++ of_action action ps))
  empty q n ih = ih ∙ sym (front (p.context.action == action) [] n ∙ none (p.context.action == action) [] refl refl)

  by : (e : Entry) → p.entry ≡ e → printed_by (all_lines ps) action ≡ Rest → Goal e
  by (says.Take row version) q ih =
      one row Taken (p.context.action == action) refl ih
      ∙ sym (front (p.context.action == action) (Took row ∷ []) (ap did q) ∙ some (p.context.action == action) (Took row))
  by (says.Give row version from) q ih =
      one row (λ n. Given n from) (p.context.action == action) refl ih
      ∙ sym (front (p.context.action == action) (Gave row from ∷ []) (ap did q) ∙ some (p.context.action == action) (Gave row from))
  by (says.Add row version) q ih = empty refl (ap did q) ih
  by (says.Free row version) q ih = ih ∙ sym (front (p.context.action == action) (Freed row ∷ []) (ap did q) ∙ silent (p.context.action == action) (Freed row) refl)
  by (says.Tag row version) q ih = ih ∙ sym (front (p.context.action == action) (Wrote row ∷ []) (ap did q) ∙ silent (p.context.action == action) (Wrote row) refl)
  by (says.Set word version flags) q ih = ih ∙ sym (front (p.context.action == action) (Flagged word flags ∷ []) (ap did q) ∙ silent (p.context.action == action) (Flagged word flags) refl)
  by _ q ih = empty refl (ap did q) ih

-- and those of some rows what was done there
pub printed_on : (test : ℕ → Bool) (action : ℕ) (lines : List Tagged) → printed_by (lines_on test lines) action ≡ prints_on test (printed_by lines action)
printed_on test action [] = refl
printed_on test action (line ∷ lines) = at (test line.row) refl (is_move line.kind && (line.action == action)) (printed_on test action lines) where
  x : Print
  x = record { row = line.row; change = change_of line }

  front : (b : Bool) → test line.row ≡ b → prints_on test (x ∷ printed_by lines action) ≡ cond b (x ∷ []) [] ++ prints_on test (printed_by lines action)
  front b q = ap (λ z. cond z (x ∷ []) [] ++ prints_on test (printed_by lines action)) q

  whole : (m : Bool) → is_move line.kind && (line.action == action) ≡ m → printed_by (line ∷ lines_on test lines) action ≡ cond m (x ∷ []) [] ++ printed_by (lines_on test lines) action
  whole m q = ap (λ z. cond z (x ∷ []) [] ++ printed_by (lines_on test lines) action) q

  at : (b : Bool) → test line.row ≡ b → (m : Bool) → printed_by (lines_on test lines) action ≡ prints_on test (printed_by lines action)
      → printed_by (cond b (line ∷ []) [] ++ lines_on test lines) action ≡ prints_on test (cond (is_move line.kind && (line.action == action)) (x ∷ []) [] ++ printed_by lines action)
  at true q m ih = go (is_move line.kind && (line.action == action)) refl where
    go : (m : Bool) → is_move line.kind && (line.action == action) ≡ m → printed_by (line ∷ lines_on test lines) action ≡ prints_on test (cond (is_move line.kind && (line.action == action)) (x ∷ []) [] ++ printed_by lines action)
    go true r = whole true r ∙ (ap (λ (z : List Print). x ∷ z) ih ∙ sym (ap (λ z. prints_on test (cond z (x ∷ []) [] ++ printed_by lines action)) r ∙ front true q))
    go false r = whole false r ∙ (ih ∙ sym (ap (λ z. prints_on test (cond z (x ∷ []) [] ++ printed_by lines action)) r))
  at false q m ih = go (is_move line.kind && (line.action == action)) refl where
    go : (m : Bool) → is_move line.kind && (line.action == action) ≡ m → printed_by (lines_on test lines) action ≡ prints_on test (cond (is_move line.kind && (line.action == action)) (x ∷ []) [] ++ printed_by lines action)
    go true r = ih ∙ sym (ap (λ z. prints_on test (cond z (x ∷ []) [] ++ printed_by lines action)) r ∙ front false q)
    go false r = ih ∙ sym (ap (λ z. prints_on test (cond z (x ∷ []) [] ++ printed_by lines action)) r)

-- a move that is asked, as conservation has it
abbrev pub move_of : ℕ → Moving → Move
move_of action m = record { action = action; from = m.from; to = m.to }

abbrev pub moves_as : ℕ → List Moving → List Move
moves_as action [] = []
moves_as action (m ∷ ms) = move_of action m ∷ moves_as action ms

prints_then : (action : ℕ) (xs ys : List Did) → prints action (xs ++ ys) ≡ prints action xs ++ prints action ys
prints_then action [] ys = refl
prints_then action (x ∷ xs) ys = on (print_of action x) (prints_then action xs ys) where
  on : (zs : List Print) → prints action (xs ++ ys) ≡ prints action xs ++ prints action ys → zs ++ prints action (xs ++ ys) ≡ (zs ++ prints action xs) ++ prints action ys
  on [] e = e
  on (z ∷ zs) e = ap (λ (ws : List Print). z ∷ ws) (on zs e)

none_signed : (action : ℕ) (signs : List Sign) → prints action (signed_by signs) ≡ []
none_signed action [] = refl
none_signed action (Frees row ∷ signs) = none_signed action signs
none_signed action (Tags row ∷ signs) = none_signed action signs

none_flagged : (action : ℕ) (flags : List Flagging) → prints action (flagged_by flags) ≡ []
none_flagged action [] = refl
none_flagged action (one ∷ others) = none_flagged action others

no_more : {X : Type 0} (xs : List X) → xs ++ [] ≡ xs
no_more [] = refl
no_more (x ∷ xs) = ap (λ zs. x ∷ zs) (no_more xs)

-- moves print as they are asked
gives_all : (counted : ℕ → ℕ → Bool) (action from : ℕ) (whole to : List ℕ) (ds : List Did) (b : Bool) → counted action from ≡ b
    → prints action (cond b (given_to from to) [] ++ ds) ≡ gives_of counted (record { action = action; from = from; to = whole }) to ++ prints action ds
gives_all counted action from whole [] ds true q = refl
gives_all counted action from whole [] ds false q = refl
gives_all counted action from whole (row ∷ to) ds true q =
    ap (λ (z : List Print). record { row = row; change = Given action from } ∷ z) (gives_all counted action from whole to ds true q)
    ∙ sym (ap (λ b. (cond b (record { row = row; change = Given action from } ∷ []) [] ++ gives_of counted (record { action = action; from = from; to = whole }) to) ++ prints action ds) q)
gives_all counted action from whole (row ∷ to) ds false q =
    gives_all counted action from whole to ds false q
    ∙ sym (ap (λ b. (cond b (record { row = row; change = Given action from } ∷ []) [] ++ gives_of counted (record { action = action; from = from; to = whole }) to) ++ prints action ds) q)

moves_print : (counted : ℕ → ℕ → Bool) (action : ℕ) (ms : List Moving) → prints action (moved_by (counted action) ms) ≡ prints_all counted (moves_as action ms)
moves_print counted action [] = refl
moves_print counted action (m ∷ ms) =
    ap (λ (z : List Print). record { row = m.from; change = Taken action } ∷ z)
    (gives_all counted action m.from m.to m.to (moved_by (counted action) ms) (counted action m.from) refl
    ∙ ap (λ (z : List Print). gives_of counted (move_of action m) m.to ++ z) (moves_print counted action ms))

pub asked_prints : (counted : ℕ → ℕ → Bool) (action : ℕ) (asked : Asked) → prints action (asked_of (counted action) asked) ≡ prints_all counted (moves_as action asked.moves)
asked_prints counted action asked =
    prints_then action (moved_by (counted action) asked.moves) (signed_by asked.signs ++ flagged_by asked.sets)
    ∙ (ap (λ (z : List Print). prints action (moved_by (counted action) asked.moves) ++ z)
    (prints_then action (signed_by asked.signs) (flagged_by asked.sets) ∙ (ap (λ (z : List Print). z ++ prints action (flagged_by asked.sets)) (none_signed action asked.signs) ∙ none_flagged action asked.sets))
    ∙ (no_more (prints action (moved_by (counted action) asked.moves)) ∙ moves_print counted action asked.moves))

-- each row that a move names is of the kind where the row is that it takes
abbrev pub AreAlike : (ℕ → Bool) → ℕ → List ℕ → Type 0
AreAlike test from to = Each (λ row. test row ≡ test from) to

abbrev pub AllAlike : (ℕ → Bool) → List Move → Type 0
AllAlike test ms = Each (λ (m : Move). AreAlike test m.from m.to) ms

abbrev pub moves_on : (ℕ → Bool) → List Move → List Move
moves_on test [] = []
moves_on test (m ∷ ms) = cond (test m.from) (m ∷ []) [] ++ moves_on test ms

on_then : (test : ℕ → Bool) (xs ys : List Print) → prints_on test (xs ++ ys) ≡ prints_on test xs ++ prints_on test ys
on_then test [] ys = refl
on_then test (x ∷ xs) ys = at (test x.row) (on_then test xs ys) where
  at : (b : Bool) → prints_on test (xs ++ ys) ≡ prints_on test xs ++ prints_on test ys → cond b (x ∷ []) [] ++ prints_on test (xs ++ ys) ≡ (cond b (x ∷ []) [] ++ prints_on test xs) ++ prints_on test ys
  at true e = ap (λ (z : List Print). x ∷ z) e
  at false e = e

on_gives : (test : ℕ → Bool) (kept : ℕ → ℕ → Bool) (m : Move) (b : Bool) (to : List ℕ) → Each (λ row. test row ≡ b) to → prints_on test (gives_of kept m to) ≡ cond b (gives_of kept m to) []
on_gives test kept m true [] h = refl
on_gives test kept m false [] h = refl
on_gives test kept m b (row ∷ to) h = at (kept m.action m.from) b h.0 (on_gives test kept m b to h.1) where
  x : Print
  x = record { row = row; change = Given m.action m.from }

  at : (k b : Bool) → test row ≡ b → prints_on test (gives_of kept m to) ≡ cond b (gives_of kept m to) [] → prints_on test (cond k (x ∷ []) [] ++ gives_of kept m to) ≡ cond b (cond k (x ∷ []) [] ++ gives_of kept m to) []
  at true true q ih = ap (λ z. cond z (x ∷ []) [] ++ prints_on test (gives_of kept m to)) q ∙ ap (λ (z : List Print). x ∷ z) ih
  at true false q ih = ap (λ z. cond z (x ∷ []) [] ++ prints_on test (gives_of kept m to)) q ∙ ih
  at false true q ih = ih
  at false false q ih = ih

pub on_moves : (test : ℕ → Bool) (kept : ℕ → ℕ → Bool) (ms : List Move) → AllAlike test ms → prints_on test (prints_all kept ms) ≡ prints_all kept (moves_on test ms)
on_moves test kept [] h = refl
on_moves test kept (m ∷ ms) h =
    on_then test (prints_of kept m) (prints_all kept ms) ∙ at (test m.from) refl (on_moves test kept ms h.1) where
      x : Print
      x = record { row = m.from; change = Taken m.action }

      same : (b : Bool) → test m.from ≡ b → (to : List ℕ) → Each (λ row. test row ≡ test m.from) to → Each (λ row. test row ≡ b) to
      same b q [] h = tt
      same b q (row ∷ to) h = (h.0 ∙ q, same b q to h.1)

      at : (b : Bool) → test m.from ≡ b → prints_on test (prints_all kept ms) ≡ prints_all kept (moves_on test ms)
          → (cond b (x ∷ []) [] ++ prints_on test (gives_of kept m m.to)) ++ prints_on test (prints_all kept ms) ≡ prints_all kept (cond b (m ∷ []) [] ++ moves_on test ms)
      at true q ih = ap (λ (z : List Print). x ∷ (z ++ prints_on test (prints_all kept ms))) (on_gives test kept m true m.to (same true q m.to h.0)) ∙ ap (λ (z : List Print). x ∷ (gives_of kept m m.to ++ z)) ih
      at false q ih = ap (λ (z : List Print). z ++ prints_on test (prints_all kept ms)) (on_gives test kept m false m.to (same false q m.to h.0)) ∙ ih
