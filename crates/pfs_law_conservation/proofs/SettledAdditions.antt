-- Behind a settle stand additions to rows that the session held, up to the next entry with which a line begins.
use Rattle.std.proofs.Common.{◌≡◌, refl, ℕ, ◌==◌, ◌&&◌, Bool, true, false, not, cond, List, [], ◌∷◌, ◌++◌, map, Option, Some, None, sym, ap, subst, ◌∙◌, inl, inr}
use Rattle.std.specs.Prelude.{Ok, Err, if◌then◌else◌, IfSome}
use Rattle.std.proofs.lemmas.Bool.{and_parts, eqb-true}
use Rattle.pfs_event.specs.Verdicts.{is_let_through}
use Rattle.pfs_event.specs.declared.entry.Entry.{Entry}
use Rattle.pfs_event.specs.declared.entry.Entry.TheVariants as says
use Rattle.pfs_event.specs.declared.kind.EventKind.{EventKind}
use Rattle.pfs_event.specs.declared.kind.EventKind.TheVariants as kinds
use Rattle.pfs_model.proofs.ShapeCuts.{part_headed}
use Rattle.pfs_model.proofs.ClosedShapes.{shape_headed}
use Rattle.pfs_model.specs.Actions.{IsAmong}
use Rattle.pfs_model.specs.EntryAsks.{fits, is_head, is_settle}
use Rattle.pfs_model.specs.Chains.{Each}
use Rattle.pfs_model.specs.Contexts.{Context, fresh, subject_of, noted, turned, after}
use Rattle.pfs_model.specs.Cuts.{behind, step, then_cut, cut, has_head, is_headed}
use Rattle.pfs_model.specs.JournalCuts.{AreShaped}
use Rattle.pfs_model.specs.EntryPlaces.{Block, Placed, placed_part, placed_lines, told_by, places_behind, places, AreShapedBehind, IsShaped}
use Rattle.pfs_model.specs.Shapes.{shape, added, settling, changes, one, puts, digest_of, counting, ending, ending_first, ending_stage, ending_both, starting, is_stage}
use Rattle.pfs_model.specs.declared.lines.Line.{Line}
use Rattle.pfs_model.specs.declared.lines.Line.TheVariants as lines
use Rattle.pfs_model.specs.declared.lines.Opened.{Opened}
use Rattle.pfs_model.specs.declared.shapes.Ask.{Ask}
use Rattle.pfs_model.specs.declared.shapes.Ask.TheVariants as asks
use Rattle.pfs_model.specs.declared.shapes.Item.{Item}
use Rattle.pfs_model.specs.declared.shapes.Often.{Often}
use Rattle.pfs_model.specs.declared.shapes.Often.TheVariants.{One, Maybe, Many}

-- what may stand behind a settle of these rows
abbrev pub FromHeld : List ℕ → Entry → Type 0
FromHeld rows (says.Add row version) = IsAmong row rows
FromHeld rows (says.Held row first second) = ⊥
FromHeld rows _ = Unit {0}

-- the rows that are settled behind an entry: those that the session holds at a settle, up to the next line
abbrev pub settled_rows : Option (List ℕ) → List ℕ → Entry → Option (List ℕ)
settled_rows rows held entry = cond (is_head entry) (cond (is_settle entry) (Some held) None) rows

abbrev pub Settles : Option (List ℕ) → List Placed → Type 0
Settles rows [] = Unit {0}
Settles rows (p ∷ ps) = IfSome rows (λ r. is_head p.entry ≡ false → FromHeld r p.entry) × Settles (settled_rows rows p.context.held p.entry) ps

-- whatever was settled before
abbrev pub AreSettling : List Placed → Type 0
AreSettling ps = (rows : Option (List ℕ)) → Settles rows ps

-- entries without a settle
none_settled : (held : List ℕ) (e : Entry) → is_settle e ≡ false → settled_rows None held e ≡ None
none_settled held e n = ap (λ b. cond (is_head e) (cond b (Some held) None) None) n ∙ both (is_head e) where
  both : (b : Bool) → cond {A = Option (List ℕ)} b None None ≡ None
  both true = refl
  both false = refl

head_settled : (rows : Option (List ℕ)) (held : List ℕ) (e : Entry) → is_head e ≡ true → is_settle e ≡ false → settled_rows rows held e ≡ None
head_settled rows held e h n = ap (λ b. cond b (cond (is_settle e) (Some held) None) rows) h ∙ ap (λ b. cond b (Some held) None) n

quiet_part : (phase session : ℕ) (line : Line) (c : Context) (es : List Entry) (rest : List Placed) → Each (λ e. is_settle e ≡ false) es → AreSettling rest → Settles None (placed_part phase session line c es ++ rest)
quiet_part phase session line c [] rest n r = r None
quiet_part phase session line c (e ∷ es) rest n r =
    (tt, subst (λ z. Settles z (placed_part phase session line (noted (subject_of line) c e) es ++ rest)) (sym (none_settled c.held e n.0)) (quiet_part phase session line (noted (subject_of line) c e) es rest n.1 r))

-- such entries, the first of which begins a line's
quiet_headed : (phase session : ℕ) (line : Line) (c : Context) (rows : Option (List ℕ)) (es : List Entry) (rest : List Placed) → is_headed es ≡ true → Each (λ e. is_settle e ≡ false) es → AreSettling rest
    → Settles rows (placed_part phase session line c es ++ rest)
quiet_headed phase session line c rows [] rest h n r = r rows
quiet_headed phase session line c rows (e ∷ es) rest h n r = (
  first rows,
  subst (λ z. Settles z (placed_part phase session line (noted (subject_of line) c e) es ++ rest)) (sym (head_settled rows c.held e h n.0)) (quiet_part phase session line (noted (subject_of line) c e) es rest n.1 r),
) where
  first : (rows : Option (List ℕ)) → IfSome rows (λ r. is_head e ≡ false → FromHeld r e)
  first None = tt
  first (Some r) = λ q. absurd (let k : true ≡ false = sym h ∙ q in cc)

-- items that ask for no settle
abbrev asks_settle : Ask → Bool
asks_settle asks.Settle = true
asks_settle _ = false

abbrev unsettled : List Item → Bool
unsettled [] = true
unsettled (item ∷ items) = not (asks_settle item.ask) && unsettled items

quiet : (ask : Ask) (e : Entry) → not (asks_settle ask) ≡ true → fits ask e ≡ true → is_settle e ≡ false
quiet ask says.Settle a f = none ask a f where
  none : (ask : Ask) → not (asks_settle ask) ≡ true → fits ask says.Settle ≡ true → true ≡ false
  none asks.Settle a f = absurd (cc)
  none _ a f = absurd (cc)
quiet ask _ a f = refl

abbrev AreQuiet : List Entry → Type 0
AreQuiet es = Each (λ e. is_settle e ≡ false) es

quiet_many : (ask : Ask) (part : List Entry) → not (asks_settle ask) ≡ true → AreQuiet (behind ask part) → AreQuiet part
unfolding behind
quiet_many ask [] a g = tt
quiet_many ask (e ∷ es) a g = at (fits ask e) refl g (quiet_many ask es a) where
  at : (b : Bool) → fits ask e ≡ b → AreQuiet (if b then behind ask es else e ∷ es) → (AreQuiet (behind ask es) → AreQuiet es) → AreQuiet (e ∷ es)
  at true f g go = (quiet ask e a f, go g)
  at false f g go = g

cut_quiet : (items : List Item) (part : List Entry) → unsettled items ≡ true → cut items part ≡ Ok [] → AreQuiet part
unfolding cut
cut_quiet [] part h s = let none : part ≡ [] = cc in subst AreQuiet (sym none) tt
cut_quiet (item ∷ items) part h s = by item.often part (and_parts _ _ h).0 s (λ es q. cut_quiet items es (and_parts _ _ h).1 q) where
  by : (often : Often) (part : List Entry) → not (asks_settle item.ask) ≡ true → then_cut (step often item.ask part) (cut items) ≡ Ok [] → ((part : List Entry) → cut items part ≡ Ok [] → AreQuiet part) → AreQuiet part
  by One [] a s go = absurd (cc)
  by One (e ∷ es) a s go = at (fits item.ask e) refl s where
    at : (b : Bool) → fits item.ask e ≡ b → then_cut (if b then Ok es else Err (e ∷ es)) (cut items) ≡ Ok [] → AreQuiet (e ∷ es)
    at true f s = (quiet item.ask e a f, go es s)
    at false f s = absurd (cc)
  by Maybe [] a s go = tt
  by Maybe (e ∷ es) a s go = at (fits item.ask e) refl s where
    at : (b : Bool) → fits item.ask e ≡ b → then_cut (if b then Ok es else Ok (e ∷ es)) (cut items) ≡ Ok [] → AreQuiet (e ∷ es)
    at true f s = (quiet item.ask e a f, go es s)
    at false f s = go (e ∷ es) s
  by Many part a s go = quiet_many item.ask part a (go (behind item.ask part) s)

unsettled_then : (xs ys : List Item) → unsettled xs ≡ true → unsettled ys ≡ true → unsettled (xs ++ ys) ≡ true
unsettled_then [] ys p q = q
unsettled_then (x ∷ xs) ys p q = at (not (asks_settle x.ask)) p (λ k. unsettled_then xs ys k q) where
  at : (b : Bool) → b && unsettled xs ≡ true → (unsettled xs ≡ true → unsettled (xs ++ ys) ≡ true) → b && unsettled (xs ++ ys) ≡ true
  at true p go = go p
  at false p go = absurd (cc)

unsettled_digest : (kind : EventKind) → unsettled (digest_of kind ++ puts) ≡ true
unsettled_digest kinds.Wait = refl
unsettled_digest kinds.Stage = refl
unsettled_digest kinds.Statement = refl
unsettled_digest kinds.Transaction = refl

unsettled_counting : (slot : Option ℕ) (event : Opened) (b : Bool) → unsettled (counting slot event b) ≡ true
unsettled_counting slot event true = unsettled_digest event.subject.kind
unsettled_counting slot event false = refl

unsettled_first : (slot : Option ℕ) (events : List Opened) → unsettled (ending_first slot events) ≡ true
unsettled_first slot [] = refl
unsettled_first slot (event ∷ events) = unsettled_counting slot event (is_let_through event.verdict)

unsettled_if : (b : Bool) (xs : List Item) → unsettled xs ≡ true → unsettled (if b then xs else []) ≡ true
unsettled_if true xs c = c
unsettled_if false xs c = refl

unsettled_stage : (slot : Option ℕ) (events : List Opened) → unsettled (ending_stage slot events) ≡ true
unsettled_stage slot [] = refl
unsettled_stage slot (event ∷ events) = unsettled_if (is_stage event.subject.kind) _ (unsettled_counting slot event (is_let_through event.verdict))

unsettled_both : (slot : Option ℕ) (events : List Opened) → unsettled (ending_both slot events) ≡ true
unsettled_both slot [] = refl
unsettled_both slot (event ∷ events) =
    unsettled_then (ending slot event) _ (unsettled_counting slot event (is_let_through event.verdict)) (unsettled_if (is_stage event.subject.kind) _ (unsettled_first slot events))

-- additions to the rows that are held, and what stands behind them
module _ (phase session : ℕ) (line : Line) (more : List Item) (clean : unsettled more ≡ true) (headed : has_head more ≡ true) (rest : List Placed) (goes : AreSettling rest) where
  added_part : (all rows : List ℕ) (c : Context) (es : List Entry) → ((row : ℕ) → IsAmong row rows → IsAmong row all) → cut (map added rows ++ more) es ≡ Ok []
      → Settles (Some all) (placed_part phase session line c es ++ rest)
  unfolding cut
  added_part all [] c es m q = quiet_headed phase session line c (Some all) es rest (part_headed more es headed q) (cut_quiet more es clean q) goes
  added_part all (row ∷ rows) c [] m q = absurd (cc)
  added_part all (row ∷ rows) c (e ∷ es) m q = by e q (λ d k. added_part all rows d es (λ at a. m at (inr a)) k) where
    Go : Type 0
    Go = (d : Context) → cut (map added rows ++ more) es ≡ Ok [] → Settles (Some all) (placed_part phase session line d es ++ rest)

    fitting : (at v : ℕ) (b : Bool) → (at == row) ≡ b → then_cut (if b then Ok es else Err (says.Add at v ∷ es)) (cut (map added rows ++ more)) ≡ Ok [] → Go
        → Settles (Some all) (placed_part phase session line c (says.Add at v ∷ es) ++ rest)
    fitting at v true f q go = ((λ h. m at (inl (sym (eqb-true at row f)))), go (noted (subject_of line) c (says.Add at v)) q)
    fitting at v false f q go = absurd (cc)

    by : (e : Entry) → then_cut (if fits (added row).ask e then Ok es else Err (e ∷ es)) (cut (map added rows ++ more)) ≡ Ok [] → Go → Settles (Some all) (placed_part phase session line c (e ∷ es) ++ rest)
    by (says.Add at v) q go = fitting at v (at == row) refl q go
    by _ q go = absurd (cc)

  settled_part : (c : Context) (rows : List ℕ) (part : List Entry) → c.held ≡ rows → cut (settling rows ++ more) part ≡ Ok [] → Settles None (placed_part phase session line c part ++ rest)
  unfolding cut
  settled_part c [] part e q = quiet_part phase session line c part rest (cut_quiet more part clean q) goes
  settled_part c (row ∷ rows) [] e q = absurd (cc)
  settled_part c (row ∷ rows) (says.Settle ∷ es) e q =
      (tt, subst (λ z. Settles (Some z) (placed_part phase session line (noted (subject_of line) c says.Settle) es ++ rest)) (sym e) (added_part (row ∷ rows) (row ∷ rows) (noted (subject_of line) c says.Settle) es (λ at a. a) q))
  settled_part c (row ∷ rows) (_ ∷ es) e q = absurd (cc)

no_more : (xs : List Item) → xs ++ [] ≡ xs
no_more [] = refl
no_more (x ∷ xs) = ap (λ (zs : List Item). x ∷ zs) (no_more xs)

-- the entries of a line
settled_line : (phase session : ℕ) (c : Context) (line : Line) (part : List Entry) (rest : List Placed) → cut (shape c line) part ≡ Ok [] → AreSettling rest
    → Settles None (placed_part phase session line (turned c) part ++ rest)
settled_line phase session c line part rest q r = by line q where
  plain : (line : Line) → unsettled (shape c line) ≡ true → cut (shape c line) part ≡ Ok [] → Settles None (placed_part phase session line (turned c) part ++ rest)
  plain line u q = quiet_part phase session line (turned c) part rest (cut_quiet (shape c line) part u q) r

  by : (line : Line) → cut (shape c line) part ≡ Ok [] → Settles None (placed_part phase session line (turned c) part ++ rest)
  by lines.Connect q = plain lines.Connect refl q
  by (lines.Start subject) q = plain (lines.Start subject) refl q
  by (lines.Stage subject) q = plain (lines.Stage subject) (unsettled_then (ending_stage c.slot c.opened) (starting c.slot subject) (unsettled_stage c.slot c.opened) refl) q
  by lines.StageEnd q = plain lines.StageEnd (unsettled_stage c.slot c.opened) q
  by lines.End q = plain lines.End (unsettled_both c.slot c.opened) q
  by lines.Spend q = plain lines.Spend refl q
  by lines.Change q = settled_part phase session lines.Change (one asks.Act ∷ (changes ++ one asks.Answer ∷ [])) refl refl rest r (turned c) c.held part refl q
  by lines.Quit q = settled_part phase session lines.Quit (one asks.Act ∷ changes) refl refl rest r (turned c) c.held part refl q
  by lines.Show q = settled_part phase session lines.Show (one asks.Act ∷ (changes ++ one asks.Rows ∷ [])) refl refl rest r (turned c) c.held part refl q
  by lines.Query q = plain lines.Query refl q
  by (lines.Refused error) q = plain (lines.Refused error) refl q
  by lines.Close q = settled_part phase session lines.Close [] refl refl rest r (turned c) c.held part refl (subst (λ z. cut z part ≡ Ok []) (sym (no_more (settling c.held))) q)

-- whatever stood before, since each line's first entry begins it
whole_part : (phase session : ℕ) (line : Line) (c : Context) (part : List Entry) (rest : List Placed) → is_headed part ≡ true → AreSettling rest → Settles None (placed_part phase session line c part ++ rest)
    → AreSettling (placed_part phase session line c part ++ rest)
whole_part phase session line c [] rest h r s rows = r rows
whole_part phase session line c (e ∷ es) rest h r s rows = (
  first rows,
  subst (λ z. Settles z (placed_part phase session line (noted (subject_of line) c e) es ++ rest)) (same None ∙ sym (same rows)) s.1,
) where
  same : (rows : Option (List ℕ)) → settled_rows rows c.held e ≡ cond (is_settle e) (Some c.held) None
  same rows = ap (λ b. cond b (cond (is_settle e) (Some c.held) None) rows) h

  first : (rows : Option (List ℕ)) → IfSome rows (λ r. is_head e ≡ false → FromHeld r e)
  first None = tt
  first (Some r) = λ q. absurd (let k : true ≡ false = sym h ∙ q in cc)

assoc : (xs ys zs : List Placed) → xs ++ (ys ++ zs) ≡ (xs ++ ys) ++ zs
assoc [] ys zs = refl
assoc (x ∷ xs) ys zs = ap (λ (z : List Placed). x ∷ z) (assoc xs ys zs)

settled_lines : (phase session : ℕ) (c : Context) (ls : List Line) (parts : List (List Entry)) (rest : List Placed) → AreShaped c ls parts → AreSettling rest → AreSettling (placed_lines phase session c ls parts ++ rest)
settled_lines phase session c [] parts rest s r = r
settled_lines phase session c (line ∷ ls) [] rest s r = r
settled_lines phase session c (line ∷ ls) (part ∷ parts) rest s r =
    let go : AreSettling (placed_lines phase session (after c line part) ls parts ++ rest) = settled_lines phase session (after c line part) ls parts rest s.1 r in
    subst AreSettling (assoc (placed_part phase session line (turned c) part) (placed_lines phase session (after c line part) ls parts) rest)
    (whole_part phase session line (turned c) part (placed_lines phase session (after c line part) ls parts ++ rest) (part_headed (shape c line) part (shape_headed c line) s.0) go
    (settled_line phase session c line part (placed_lines phase session (after c line part) ls parts ++ rest) s.0 go))

settled_blocks : (earlier blocks : List Block) (low : ℕ) → AreShapedBehind earlier low blocks → AreSettling (places_behind earlier blocks)
unfolding places_behind
settled_blocks earlier [] low s = λ rows. tt
settled_blocks earlier (b ∷ blocks) low s =
    settled_lines b.phase b.session (told_by b.session fresh earlier) b.lines b.parts (places_behind (earlier ++ b ∷ []) blocks) s.1
    (settled_blocks (earlier ++ b ∷ []) blocks b.phase s.2)

pub all_settling : (blocks : List Block) → IsShaped blocks → AreSettling (places blocks)
all_settling blocks s = settled_blocks [] blocks 0 s
