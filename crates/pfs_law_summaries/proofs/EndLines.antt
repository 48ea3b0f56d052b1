-- An end of an event stands in a line that ends events, and what is settled in another.
use Rattle.std.proofs.Common.{◌≡◌, refl, ℕ, Bool, true, false, ◌&&◌, not, List, [], ◌∷◌, ◌++◌, map, sym, subst, ◌∙◌, Option, append_assoc}
use Rattle.std.specs.Prelude.{Ok, Err, if◌then◌else◌}
use Rattle.std.proofs.lemmas.Bool.{and_parts}
use Rattle.pfs_event.specs.Verdicts.{is_let_through}
use Rattle.pfs_event.specs.declared.entry.Entry.{Entry}
use Rattle.pfs_event.specs.declared.entry.Entry.TheVariants as says
use Rattle.pfs_event.specs.declared.kind.EventKind.{EventKind}
use Rattle.pfs_event.specs.declared.kind.EventKind.TheVariants as kinds
use Rattle.pfs_model.proofs.ShapeCuts.{part_headed}
use Rattle.pfs_model.proofs.ClosedShapes.{shape_headed}
use Rattle.pfs_model.specs.EntryAsks.{fits, is_head}
use Rattle.pfs_model.specs.Chains.{Each}
use Rattle.pfs_model.specs.Contexts.{Context, fresh, subject_of, noted, turned, after}
use Rattle.pfs_model.specs.Cuts.{behind, step, then_cut, cut, is_headed}
use Rattle.pfs_model.specs.JournalCuts.{AreShaped}
use Rattle.pfs_model.specs.EntryPlaces.{Block, Placed, placed_part, placed_lines, told_by, places_behind, places, AreShapedBehind, IsShaped}
use Rattle.pfs_model.specs.Shapes.{shape, added, settling, puts, digest_of, counting, ending, ending_first, ending_stage, ending_both, starting, is_stage}
use Rattle.pfs_model.specs.declared.lines.Line.{Line}
use Rattle.pfs_model.specs.declared.lines.Line.TheVariants as lines
use Rattle.pfs_model.specs.declared.lines.Opened.{Opened}
use Rattle.pfs_model.specs.declared.shapes.Ask.{Ask}
use Rattle.pfs_model.specs.declared.shapes.Ask.TheVariants as asks
use Rattle.pfs_model.specs.declared.shapes.Item.{Item}
use Rattle.pfs_model.specs.declared.shapes.Often.{Often}
use Rattle.pfs_model.specs.declared.shapes.Often.TheVariants.{One, Maybe, Many}
use Rattle.pfs_runs.specs.PhaseFinals.{ends_events}

-- an entry that may stand in a line which ends events or not
abbrev pub IsOfLine : Bool → Entry → Type 0
IsOfLine ends (says.End event last consumers thread) = ends ≡ true
IsOfLine ends says.Settle = ends ≡ false
IsOfLine ends entry = Unit {0}

-- what such a line may ask for
abbrev asks_line : Bool → Ask → Bool
asks_line ends (asks.End through) = ends
asks_line ends asks.Settle = not ends
asks_line ends ask = true

abbrev all_line : Bool → List Item → Bool
all_line ends [] = true
all_line ends (item ∷ items) = asks_line ends item.ask && all_line ends items

fits_line : (ends : Bool) (ask : Ask) (e : Entry) → asks_line ends ask ≡ true → fits ask e ≡ true → IsOfLine ends e
fits_line ends ask (says.End event last consumers thread) a f = on ask a f where
  on : (ask : Ask) → asks_line ends ask ≡ true → fits ask (says.End event last consumers thread) ≡ true → ends ≡ true
  on (asks.End through) a f = a
  on _ a f = absurd (cc)
fits_line ends ask says.Settle a f = on ask a f where
  off : (b : Bool) → not b ≡ true → b ≡ false
  off true q = absurd (cc)
  off false q = refl

  on : (ask : Ask) → asks_line ends ask ≡ true → fits ask says.Settle ≡ true → ends ≡ false
  on asks.Settle a f = off ends a
  on _ a f = absurd (cc)
fits_line ends ask _ a f = tt

many_line : (ends : Bool) (ask : Ask) (part : List Entry) → asks_line ends ask ≡ true → Each (IsOfLine ends) (behind ask part) → Each (IsOfLine ends) part
unfolding behind
many_line ends ask [] a p = tt
many_line ends ask (e ∷ es) a p = at (fits ask e) refl p (many_line ends ask es a) where
  at : (b : Bool) → fits ask e ≡ b → Each (IsOfLine ends) (if b then behind ask es else e ∷ es) → (Each (IsOfLine ends) (behind ask es) → Each (IsOfLine ends) es) → Each (IsOfLine ends) (e ∷ es)
  at true f p go = (fits_line ends ask e a f, go p)
  at false f p go = p

cut_line : (ends : Bool) (items : List Item) (part : List Entry) → all_line ends items ≡ true → cut items part ≡ Ok [] → Each (IsOfLine ends) part
unfolding cut
cut_line ends [] part h s = let none : part ≡ [] = cc in subst (Each (IsOfLine ends)) (sym none) tt
cut_line ends (item ∷ items) part h s = by item.often part (and_parts _ _ h).0 (and_parts _ _ h).1 s (cut_line ends items) where
  Go : Type 0
  Go = (part : List Entry) → all_line ends items ≡ true → cut items part ≡ Ok [] → Each (IsOfLine ends) part

  by : (often : Often) (part : List Entry) → asks_line ends item.ask ≡ true → all_line ends items ≡ true → then_cut (step often item.ask part) (cut items) ≡ Ok [] → Go → Each (IsOfLine ends) part
  by One [] a m s go = absurd (cc)
  by One (e ∷ es) a m s go = at (fits item.ask e) refl s where
    at : (b : Bool) → fits item.ask e ≡ b → then_cut (if b then Ok es else Err (e ∷ es)) (cut items) ≡ Ok [] → Each (IsOfLine ends) (e ∷ es)
    at true f s = (fits_line ends item.ask e a f, go es m s)
    at false f s = absurd (cc)
  by Maybe [] a m s go = tt
  by Maybe (e ∷ es) a m s go = at (fits item.ask e) refl s where
    at : (b : Bool) → fits item.ask e ≡ b → then_cut (if b then Ok es else Ok (e ∷ es)) (cut items) ≡ Ok [] → Each (IsOfLine ends) (e ∷ es)
    at true f s = (fits_line ends item.ask e a f, go es m s)
    at false f s = go (e ∷ es) m s
  by Many part a m s go = many_line ends item.ask part a (go (behind item.ask part) m s)

-- ---- the shapes

line_join : (ends : Bool) (xs ys : List Item) → all_line ends xs ≡ true → all_line ends ys ≡ true → all_line ends (xs ++ ys) ≡ true
line_join ends [] ys c d = d
line_join ends (x ∷ xs) ys c d = two (asks_line ends x.ask) (all_line ends (xs ++ ys)) (and_parts _ _ c).0 (line_join ends xs ys (and_parts _ _ c).1 d) where
  two : (a b : Bool) → a ≡ true → b ≡ true → a && b ≡ true
  two true b p q = q
  two false b p q = absurd (cc)

line_added : (rows : List ℕ) → all_line false (map added rows) ≡ true
line_added [] = refl
line_added (row ∷ rows) = line_added rows

line_settling : (rows : List ℕ) → all_line false (settling rows) ≡ true
line_settling [] = refl
line_settling (row ∷ rows) = line_added rows

line_counting : (slot : Option ℕ) (event : Opened) (b : Bool) → all_line true (counting slot event b) ≡ true
line_counting slot event true = by event.subject.kind where
  by : (kind : EventKind) → all_line true (digest_of kind ++ puts) ≡ true
  by kinds.Wait = refl
  by kinds.Stage = refl
  by kinds.Statement = refl
  by kinds.Transaction = refl
line_counting slot event false = refl

line_ending : (slot : Option ℕ) (event : Opened) → all_line true (ending slot event) ≡ true
line_ending slot event = line_counting slot event (is_let_through event.verdict)

line_first : (slot : Option ℕ) (events : List Opened) → all_line true (ending_first slot events) ≡ true
line_first slot [] = refl
line_first slot (event ∷ events) = line_ending slot event

line_if : (b : Bool) (xs : List Item) → all_line true xs ≡ true → all_line true (if b then xs else []) ≡ true
line_if true xs c = c
line_if false xs c = refl

line_stage : (slot : Option ℕ) (events : List Opened) → all_line true (ending_stage slot events) ≡ true
line_stage slot [] = refl
line_stage slot (event ∷ events) = line_if (is_stage event.subject.kind) _ (line_ending slot event)

line_both : (slot : Option ℕ) (events : List Opened) → all_line true (ending_both slot events) ≡ true
line_both slot [] = refl
line_both slot (event ∷ events) = line_join true (ending slot event) _ (line_ending slot event) (line_if (is_stage event.subject.kind) _ (line_first slot events))

shape_line : (context : Context) (line : Line) → all_line (ends_events line) (shape context line) ≡ true
shape_line context lines.Connect = refl
shape_line context (lines.Start subject) = refl
shape_line context (lines.Stage subject) = line_join true (ending_stage context.slot context.opened) (starting context.slot subject) (line_stage context.slot context.opened) refl
shape_line context lines.StageEnd = line_stage context.slot context.opened
shape_line context lines.End = line_both context.slot context.opened
shape_line context lines.Spend = refl
shape_line context lines.Change = line_join false (settling context.held) _ (line_settling context.held) refl
shape_line context lines.Quit = line_join false (settling context.held) _ (line_settling context.held) refl
shape_line context lines.Show = line_join false (settling context.held) _ (line_settling context.held) refl
shape_line context lines.Query = refl
shape_line context (lines.Refused error) = refl
shape_line context lines.Close = line_settling context.held

-- ---- along all entries

-- an entry with which no line begins stands in the line of the one before, and each is one that its line may have
abbrev pub Lined : Bool → List Placed → Type 0
Lined ends [] = Unit {0}
Lined ends (p ∷ ps) = (is_head p.entry ≡ false → ends_events p.line ≡ ends) × IsOfLine (ends_events p.line) p.entry × Lined (ends_events p.line) ps

abbrev pub AreLined : List Placed → Type 0
AreLined ps = (ends : Bool) → Lined ends ps

lined_part : (phase session : ℕ) (line : Line) (c : Context) (part : List Entry) (rest : List Placed) → Each (IsOfLine (ends_events line)) part → AreLined rest → Lined (ends_events line) (placed_part phase session line c part ++ rest)
lined_part phase session line c [] rest h n = n (ends_events line)
lined_part phase session line c (e ∷ es) rest h n = ((λ q. refl), h.0, lined_part phase session line (noted (subject_of line) c e) es rest h.1 n)

lined_whole : (phase session : ℕ) (line : Line) (c : Context) (part : List Entry) (rest : List Placed) → is_headed part ≡ true → Each (IsOfLine (ends_events line)) part → AreLined rest → AreLined (placed_part phase session line c part ++ rest)
lined_whole phase session line c [] rest i h n ends = n ends
lined_whole phase session line c (e ∷ es) rest i h n ends =
    ((λ q. absurd (let k : true ≡ false = sym i ∙ q in cc)), h.0, lined_part phase session line (noted (subject_of line) c e) es rest h.1 n)

lined_lines : (phase session : ℕ) (c : Context) (lines : List Line) (parts : List (List Entry)) (rest : List Placed) → AreShaped c lines parts → AreLined rest → AreLined (placed_lines phase session c lines parts ++ rest)
lined_lines phase session c [] parts rest s n = n
lined_lines phase session c (line ∷ lines) [] rest s n = n
lined_lines phase session c (line ∷ lines) (part ∷ parts) rest s n =
    subst AreLined (sym (append_assoc (placed_part phase session line (turned c) part) (placed_lines phase session (after c line part) lines parts) rest))
    (lined_whole phase session line (turned c) part (placed_lines phase session (after c line part) lines parts ++ rest) (part_headed (shape c line) part (shape_headed c line) s.0)
    (cut_line (ends_events line) (shape c line) part (shape_line c line) s.0) (lined_lines phase session (after c line part) lines parts rest s.1 n))

lined_blocks : (earlier blocks : List Block) (low : ℕ) → AreShapedBehind earlier low blocks → AreLined (places_behind earlier blocks)
unfolding places_behind
lined_blocks earlier [] low s = λ ends. tt
lined_blocks earlier (b ∷ blocks) low s =
    lined_lines b.phase b.session (told_by b.session fresh earlier) b.lines b.parts (places_behind (earlier ++ b ∷ []) blocks) s.1
    (lined_blocks (earlier ++ b ∷ []) blocks b.phase s.2)

pub all_lined : (blocks : List Block) → IsShaped blocks → AreLined (places blocks)
all_lined blocks s = lined_blocks [] blocks 0 s
