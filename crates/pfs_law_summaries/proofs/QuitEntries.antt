-- Where sessions quit last, nothing is behind their quits but what these do.
use Rattle.std.proofs.Common.{ℕ, ◌≡◌, ◌==◌, ◌⊎◌, inl, inr, nat_lt, Bool, true, false, cond, List, [], ◌∷◌, ◌++◌, map, Option, None, Less, Equal, Greater, refl, sym, subst, ◌∙◌, ap, arith}
use Rattle.std.specs.Prelude.{Ok, Err, if◌then◌else◌}
use Rattle.std.specs.Ordering.{is_eq}
use Rattle.std.proofs.lemmas.Bool.{eqb-true}
use Rattle.pfs_event.specs.declared.entry.Entry.{Entry}
use Rattle.pfs_event.specs.declared.entry.Entry.TheVariants as says
use Rattle.pfs_model.specs.Actions.{is_acted}
use Rattle.pfs_model.specs.EntryAsks.{fits, is_head}
use Rattle.pfs_model.specs.Chains.{Each}
use Rattle.pfs_model.specs.Contexts.{Context, fresh, without_row, subject_of, noted, turned, after_entries, after}
use Rattle.pfs_model.specs.Cuts.{behind, then_cut, cut}
use Rattle.pfs_model.specs.JournalCuts.{AreShaped}
use Rattle.pfs_model.specs.EntryPlaces.{Block, Placed, placed_part, placed_lines, told_by, places_behind, AreShapedBehind}
use Rattle.pfs_model.specs.Shapes.{one, added, settling, changes}
use Rattle.pfs_model.specs.declared.lines.Line.{Line}
use Rattle.pfs_model.specs.declared.lines.Line.TheVariants as told
use Rattle.pfs_model.specs.declared.lines.Subject.{Subject}
use Rattle.pfs_model.specs.declared.shapes.Ask.{Ask}
use Rattle.pfs_model.specs.declared.shapes.Ask.TheVariants as asks
use Rattle.pfs_model.specs.declared.shapes.Item.{Item}
use Rattle.pfs_model.proofs.ActionGuards.{acts}
use Rattle.pfs_model.proofs.LineWalks.{past, past_join}
use Rattle.pfs_law_conservation.specs.RunEvents.{given_by, is_quit, quits_at}
use Rattle.pfs_law_conservation.specs.Premises.{AreLastBehind}
use Rattle.pfs_law_summaries.specs.FirstConnects.{NoneOf}
use Rattle.pfs_law_summaries.specs.LastQuits.{Quits, AreQuit, QuitLaw}
use Rattle.pfs_law_summaries.proofs.ConnectEntries.{AreOthers, lines_others}

-- what an action does behind its number begins no line, and what is held stays so
abbrev AreActed : List Entry → Type 0
AreActed es = Each (λ e. is_acted e ≡ true) es

acted : (ask : Ask) (e : Entry) → acts ask ≡ true → fits ask e ≡ true → is_acted e ≡ true
acted asks.Move (says.Take row version) a f = refl
acted asks.Move (says.Give row version from) a f = refl
acted asks.Move _ a f = absurd (cc)
acted asks.Sign (says.Free row version) a f = refl
acted asks.Sign (says.Tag row version) a f = refl
acted asks.Sign _ a f = absurd (cc)
acted asks.Set (says.Set word version flags) a f = refl
acted asks.Set _ a f = absurd (cc)
acted _ e a f = absurd (cc)

acted_many : (ask : Ask) (part : List Entry) → acts ask ≡ true → AreActed (behind ask part) → AreActed part
unfolding behind
acted_many ask [] a g = tt
acted_many ask (e ∷ es) a g = at (fits ask e) refl g (acted_many ask es a) where
  at : (b : Bool) → fits ask e ≡ b → AreActed (if b then behind ask es else e ∷ es)
      → (AreActed (behind ask es) → AreActed es) → AreActed (e ∷ es)
  at true f g go = (acted ask e a f, go g)
  at false f g go = g

cut_changes : (part : List Entry) → cut changes part ≡ Ok [] → AreActed part
unfolding cut
cut_changes part s =
    let none : behind asks.Set (behind asks.Sign (behind asks.Move part)) ≡ [] = cc in
    acted_many asks.Move part refl
    (acted_many asks.Sign (behind asks.Move part) refl
    (acted_many asks.Set (behind asks.Sign (behind asks.Move part)) refl (subst AreActed (sym none) tt)))

headless : (e : Entry) → is_acted e ≡ true → is_head e ≡ false
headless (says.Take row version) a = refl
headless (says.Give row version from) a = refl
headless (says.Tag row version) a = refl
headless (says.Free row version) a = refl
headless (says.Set word version flags) a = refl
headless _ a = absurd (cc)

still : (s : Option Subject) (c : Context) (e : Entry) → is_acted e ≡ true → (noted s c e).held ≡ c.held
still s c (says.Held row first second) a = absurd (cc)
still s c (says.Add row version) a = absurd (cc)
still s c _ a = refl

acted_part : (phase session : ℕ) (line : Line) (c : Context) (part : List Entry) (earlier : List Placed)
    → AreActed part → AreLastBehind earlier (placed_part phase session line c part)
    × ((after_entries (subject_of line) c part).held ≡ c.held)
acted_part phase session line c [] earlier a = (tt, refl)
acted_part phase session line c (e ∷ es) earlier a =
    let p : Placed = record { phase = phase; session = session; line = line; context = c; entry = e } in
    let rest = acted_part phase session line (noted (subject_of line) c e) es (p ∷ earlier) a.1 in (
      ((λ h. absurd (let no : true ≡ false = sym h ∙ headless e a.0 in cc)), rest.0),
      rest.1 ∙ still (subject_of line) c e a.0,
    )

-- a session has not quit among these
abbrev HasStayed : ℕ → List Placed → Type 0
HasStayed session ps = given_by quits_at session ps ≡ []

stayed_more : (session : ℕ) (p : Placed) (earlier : List Placed) → quits_at p p.entry ≡ [] → HasStayed session earlier
    → HasStayed session (p ∷ earlier)
stayed_more session p earlier q n =
    ap (λ numbers. cond (p.session == session) numbers [] ++ given_by quits_at session earlier) q
    ∙ at (p.session == session) where
      at : (b : Bool) → cond {A = List ℕ} b [] [] ++ given_by quits_at session earlier ≡ []
      at true = n
      at false = n

-- The entries of a quit: what is held is settled, then it acts. Nothing stays held.
abbrev quitting : List Item
quitting = one asks.Act ∷ changes

abbrev Ends : ℕ → ℕ → Context → List Entry → List Placed → Type 0
Ends phase session c part earlier =
    AreLastBehind earlier (placed_part phase session told.Quit c part) × ((after_entries None c part).held ≡ [])

act_part : (phase session : ℕ) (c : Context) (part : List Entry) (earlier : List Placed) → HasStayed session earlier
    → c.held ≡ [] → cut quitting part ≡ Ok [] → Ends phase session c part earlier
unfolding cut
act_part phase session c [] earlier n h s = absurd (cc)
act_part phase session c (says.Act action ∷ es) earlier n h s =
    let e : Entry = says.Act action in
    let p : Placed = record { phase = phase; session = session; line = told.Quit; context = c; entry = e } in
    let rest = acted_part phase session told.Quit (noted None c e) es (p ∷ earlier) (cut_changes es s) in
    (((λ k. n), rest.0), rest.1 ∙ h)
act_part phase session c (_ ∷ es) earlier n h s = absurd (cc)

without_first : (row : ℕ) (rows : List ℕ) → without_row row (row ∷ rows) ≡ rows
without_first row rows = at (nat_lt row row) (row == row) (less row) (self row) where
  less : (n : ℕ) → nat_lt n n ≡ false
  less n = grind arith

  self : (n : ℕ) → (n == n) ≡ true
  self n = grind arith

  at : (a b : Bool) → a ≡ false → b ≡ true
      → cond (is_eq (cond a Less (cond b Equal Greater))) rows (row ∷ without_row row rows) ≡ rows
  at true b q r = absurd (cc)
  at false true q r = refl
  at false false q r = absurd (cc)

added_part : (phase session : ℕ) (rows : List ℕ) (c : Context) (part : List Entry) (earlier : List Placed)
    → HasStayed session earlier → c.held ≡ rows → cut (map added rows ++ quitting) part ≡ Ok []
    → Ends phase session c part earlier
unfolding cut
added_part phase session [] c part earlier n h s = act_part phase session c part earlier n h s
added_part phase session (row ∷ rows) c [] earlier n h s = absurd (cc)
added_part phase session (row ∷ rows) c (e ∷ es) earlier n h s =
    by e s (λ d more k g t. added_part phase session rows d es more k g t) where
      Go : Type 0
      Go = (d : Context) (more : List Placed) → HasStayed session more → d.held ≡ rows
          → cut (map added rows ++ quitting) es ≡ Ok [] → Ends phase session d es more

      fitting : (at version : ℕ) (b : Bool) → (at == row) ≡ b
          → then_cut (if b then Ok es else Err (says.Add at version ∷ es)) (cut (map added rows ++ quitting)) ≡ Ok []
          → Go → Ends phase session c (says.Add at version ∷ es) earlier
      fitting at version true f s go =
          let e : Entry = says.Add at version in
          let p : Placed = record { phase = phase; session = session; line = told.Quit; context = c; entry = e } in
          let gone : without_row at c.held ≡ rows =
          ap (without_row at) h ∙ (ap (λ z. without_row z (row ∷ rows)) (eqb-true at row f) ∙ without_first row rows)
          in
          let rest = go (noted None c e) (p ∷ earlier) (stayed_more session p earlier refl n) gone s in
          (((λ k. n), rest.0), rest.1)
      fitting at version false f s go = absurd (cc)

      by : (e : Entry)
          → then_cut (if fits (added row).ask e then Ok es else Err (e ∷ es)) (cut (map added rows ++ quitting)) ≡ Ok []
          → Go → Ends phase session c (e ∷ es) earlier
      by (says.Add at version) s go = fitting at version (at == row) refl s go
      by _ s go = absurd (cc)

settled_part : (phase session : ℕ) (rows : List ℕ) (c : Context) (part : List Entry) (earlier : List Placed)
    → HasStayed session earlier → c.held ≡ rows → cut (settling rows ++ quitting) part ≡ Ok []
    → Ends phase session c part earlier
unfolding cut
settled_part phase session [] c part earlier n h s = act_part phase session c part earlier n h s
settled_part phase session (row ∷ rows) c [] earlier n h s = absurd (cc)
settled_part phase session (row ∷ rows) c (says.Settle ∷ es) earlier n h s =
    let p : Placed = record { phase = phase; session = session; line = told.Quit; context = c; entry = says.Settle } in
    let rest = added_part phase session (row ∷ rows) (noted None c says.Settle) es (p ∷ earlier)
    (stayed_more session p earlier refl n) h s
    in
    (((λ k. n), rest.0), rest.1)
settled_part phase session (row ∷ rows) c (_ ∷ es) earlier n h s = absurd (cc)

-- the entries of another line
unquit : (p : Placed) (e : Entry) → is_quit p.line ≡ false → quits_at p e ≡ []
unquit p (says.Act action) q = ap (λ b. cond b (action ∷ []) []) q
unquit p _ q = refl

other_part : (phase session : ℕ) (line : Line) (c : Context) (part : List Entry) (earlier : List Placed)
    → is_quit line ≡ false → HasStayed session earlier
    → AreLastBehind earlier (placed_part phase session line c part)
    × HasStayed session (past earlier (placed_part phase session line c part))
other_part phase session line c [] earlier q n = (tt, n)
other_part phase session line c (e ∷ es) earlier q n =
    let p : Placed = record { phase = phase; session = session; line = line; context = c; entry = e } in
    let rest = other_part phase session line (noted (subject_of line) c e) es (p ∷ earlier) q
    (stayed_more session p earlier (unquit p e q) n)
    in
    (((λ h. n), rest.0), rest.1)

last_join : (earlier xs ys : List Placed) → AreLastBehind earlier xs → AreLastBehind (past earlier xs) ys
    → AreLastBehind earlier (xs ++ ys)
last_join earlier [] ys a b = b
last_join earlier (x ∷ xs) ys a b = (a.0, last_join (x ∷ earlier) xs ys a.1 b)

-- where nothing is held, the end of a block does nothing
close_lines : (phase session : ℕ) (c : Context) (parts : List (List Entry)) → c.held ≡ []
    → AreShaped c (told.Close ∷ []) parts → placed_lines phase session c (told.Close ∷ []) parts ≡ []
unfolding cut
close_lines phase session c [] h s = refl
close_lines phase session c (part ∷ parts) h s =
    let nothing : cut (settling []) part ≡ Ok [] = subst (λ rows. cut (settling rows) part ≡ Ok []) h s.0 in
    let none : part ≡ [] = cc in
    ap (λ z. placed_part phase session told.Close (turned c) z ++ []) none

quit_lines : (phase session : ℕ) (c : Context) (line : Line) (ls : List Line) (part : List Entry)
    (parts : List (List Entry)) (earlier : List Placed) → is_quit line ≡ true → ls ≡ told.Close ∷ []
    → AreShaped c (line ∷ ls) (part ∷ parts) → HasStayed session earlier
    → AreLastBehind earlier (placed_lines phase session c (line ∷ ls) (part ∷ parts))
quit_lines phase session c told.Quit ls part parts earlier q e s n =
    let behind : Context = after c told.Quit part in
    let here = settled_part phase session c.held (turned c) part earlier n refl s.0 in
    let shaped : AreShaped behind (told.Close ∷ []) parts = subst (λ z. AreShaped behind z parts) e s.1 in
    let none : placed_lines phase session behind ls parts ≡ [] =
    ap (λ z. placed_lines phase session behind z parts) e
    ∙ close_lines phase session behind parts here.1 shaped
    in
    last_join earlier (placed_part phase session told.Quit (turned c) part)
    (placed_lines phase session behind ls parts) here.0
    (subst (AreLastBehind (past earlier (placed_part phase session told.Quit (turned c) part))) (sym none) tt)
quit_lines phase session c _ ls part parts earlier q e s n = absurd (cc)

-- lines one after another: behind them the session has not quit, or this holds
last_lines : (phase session : ℕ) (c : Context) (ls : List Line) (parts : List (List Entry)) (earlier : List Placed)
    (fact : Type 0) → AreShaped c ls parts → Quits fact ls → HasStayed session earlier
    → AreLastBehind earlier (placed_lines phase session c ls parts)
    × (HasStayed session (past earlier (placed_lines phase session c ls parts)) ⊎ fact)
last_lines phase session c [] parts earlier fact s q n = (tt, inl n)
last_lines phase session c (line ∷ ls) [] earlier fact s q n = absurd s
last_lines phase session c (line ∷ ls) (part ∷ parts) earlier fact s q n =
    at (is_quit line) refl (λ more k. last_lines phase session (after c line part) ls parts more fact s.1 q.1 k) where
      xs : List Placed
      xs = placed_part phase session line (turned c) part

      ys : List Placed
      ys = placed_lines phase session (after c line part) ls parts

      Goal : List Placed → List Placed → Type 0
      Goal more zs = AreLastBehind more zs × (HasStayed session (past more zs) ⊎ fact)

      on : HasStayed session (past (past earlier xs) ys) ⊎ fact → HasStayed session (past earlier (xs ++ ys)) ⊎ fact
      on (inl k) = inl (subst (HasStayed session) (sym (past_join earlier xs ys)) k)
      on (inr f) = inr f

      at : (b : Bool) → is_quit line ≡ b → ((more : List Placed) → HasStayed session more → Goal more ys)
          → Goal earlier (xs ++ ys)
      at true k go = (quit_lines phase session c line ls part parts earlier k (q.0 k).0 s n, inr (q.0 k).1)
      at false k go =
          let here = other_part phase session line (turned c) part earlier k n in
          let rest = go (past earlier xs) here.1 in
          (last_join earlier xs ys here.0 rest.0, on rest.1)

-- blocks one after another: a session that has quit has none ahead
others_stay : (session : ℕ) (earlier ps : List Placed) → HasStayed session earlier → AreOthers session ps
    → HasStayed session (past earlier ps)
others_stay session earlier [] n q = n
others_stay session earlier (p ∷ ps) n q =
    others_stay session (p ∷ earlier) ps
    (ap (λ b. cond b (quits_at p p.entry) [] ++ given_by quits_at session earlier) q.0 ∙ n) q.1

last_blocks : (before blocks : List Block) (low : ℕ) (earlier : List Placed) → AreShapedBehind before low blocks
    → AreQuit blocks → ((session : ℕ) → HasStayed session earlier ⊎ NoneOf session blocks)
    → AreLastBehind earlier (places_behind before blocks)
unfolding places_behind
last_blocks before [] low earlier s q ahead = tt
last_blocks before (b ∷ blocks) low earlier s q ahead =
    last_join earlier xs (places_behind (before ++ b ∷ []) blocks) here.0
    (last_blocks (before ++ b ∷ []) blocks b.phase (past earlier xs) s.2 q.1
    (λ session. next session (b.session == session) refl)) where
      c : Context
      c = told_by b.session fresh before

      xs : List Placed
      xs = placed_lines b.phase b.session c b.lines b.parts

      self : (n : ℕ) → (n == n) ≡ true
      self n = grind arith

      own : HasStayed b.session earlier ⊎ NoneOf b.session (b ∷ blocks) → HasStayed b.session earlier
      own (inl n) = n
      own (inr none) = absurd (let no : true ≡ false = sym (self b.session) ∙ none.0 in cc)

      here : AreLastBehind earlier xs × (HasStayed b.session (past earlier xs) ⊎ NoneOf b.session blocks)
      here =
          last_lines b.phase b.session c b.lines b.parts earlier (NoneOf b.session blocks) s.1 q.0
          (own (ahead b.session))

      other : (session : ℕ) → (b.session == session) ≡ false → HasStayed session earlier ⊎ NoneOf session (b ∷ blocks)
          → HasStayed session (past earlier xs) ⊎ NoneOf session blocks
      other session k (inl n) =
          inl (others_stay session earlier xs n (lines_others session b.phase b.session c b.lines b.parts k))
      other session k (inr none) = inr none.1

      next : (session : ℕ) (x : Bool) → (b.session == session) ≡ x
          → HasStayed session (past earlier xs) ⊎ NoneOf session blocks
      next session true k =
          subst (λ z. HasStayed z (past earlier xs) ⊎ NoneOf z blocks) (eqb-true b.session session k) here.1
      next session false k = other session k (ahead session)

pub quit_law : QuitLaw
quit_law blocks shaped quit = last_blocks [] blocks 0 [] shaped quit (λ session. inl refl)
