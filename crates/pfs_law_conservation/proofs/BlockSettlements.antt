-- At the end of a block a session holds nothing more.
use Rattle.std.proofs.Common.{◌≡◌, refl, ℕ, ◌==◌, Bool, true, false, cond, nat_lt, List, [], ◌∷◌, ◌++◌, map, Option, Some, None, sym, ap, subst, ◌∙◌, inl, inr, arith, Less, Equal, Greater}
use Rattle.std.specs.Prelude.{Ok, Err, if◌then◌else◌}
use Rattle.std.specs.Ordering.{match_ordering, is_eq}
use Rattle.std.proofs.lemmas.Bool.{eqb-true}
use Rattle.pfs_event.specs.declared.entry.Entry.{Entry}
use Rattle.pfs_event.specs.declared.entry.Entry.TheVariants as says
use Rattle.pfs_model.specs.Actions.{IsAmong}
use Rattle.pfs_model.specs.EntryAsks.{fits}
use Rattle.pfs_model.specs.Chains.{Each}
use Rattle.pfs_model.specs.Contexts.{Context, Waiting, fresh, held_else, own_wait, with_row, without_row, subject_of, noted, turned, after_entries, after}
use Rattle.pfs_model.specs.Cuts.{then_cut, cut}
use Rattle.pfs_model.specs.JournalCuts.{AreShaped}
use Rattle.pfs_model.specs.EntryPlaces.{Block, after_lines, told_by, AreShapedBehind, IsShaped}
use Rattle.pfs_model.specs.Shapes.{shape, added, settling}
use Rattle.pfs_model.specs.declared.lines.Line.{Line}
use Rattle.pfs_model.specs.declared.lines.Line.TheVariants as lines
use Rattle.pfs_model.specs.declared.lines.Opened.{Opened}
use Rattle.pfs_model.specs.declared.lines.Subject.{Subject}
use Rattle.pfs_law_conservation.specs.Premises.{is_close, is_closed, AreClosed}
use Rattle.pfs_law_conservation.proofs.EntryWalk.{told_more}

-- what is held is held for one of these rows
abbrev pub HeldFor : List ℕ → List Waiting → Type 0
HeldFor rows waiting = Each (λ (one : Waiting). IsAmong one.row rows) waiting

abbrev pub IsHolding : Context → Type 0
IsHolding c = HeldFor c.held c.waiting

-- a row more, or less
among_new : (row : ℕ) (rows : List ℕ) → IsAmong row (with_row row rows)
among_new row [] = inl refl
among_new row (x ∷ xs) = at (nat_lt row x) (row == x) refl (among_new row xs) where
  at : (a b : Bool) → (row == x) ≡ b → IsAmong row (with_row row xs) → IsAmong row (match_ordering (cond a Less (cond b Equal Greater)) (row ∷ x ∷ xs) (x ∷ xs) (x ∷ with_row row xs))
  at true b q r = inl refl
  at false true q r = inl (sym (eqb-true row x q))
  at false false q r = inr r

among_more : (row at : ℕ) (rows : List ℕ) → IsAmong at rows → IsAmong at (with_row row rows)
among_more row at [] m = absurd m
among_more row at (x ∷ xs) m = on (nat_lt row x) (row == x) m (λ k. among_more row at xs k) where
  on : (a b : Bool) → IsAmong at (x ∷ xs) → (IsAmong at xs → IsAmong at (with_row row xs)) → IsAmong at (match_ordering (cond a Less (cond b Equal Greater)) (row ∷ x ∷ xs) (x ∷ xs) (x ∷ with_row row xs))
  on true b m go = inr m
  on false true m go = m
  on false false (inl e) go = inl e
  on false false (inr m) go = inr (go m)

among_less : (row at : ℕ) (rows : List ℕ) → (at == row) ≡ false → IsAmong at rows → IsAmong at (without_row row rows)
among_less row at [] n m = absurd m
among_less row at (x ∷ xs) n m = on (nat_lt row x) (row == x) refl m (λ k. among_less row at xs n k) where
  self : (n : ℕ) → (n == n) ≡ true
  self n = grind arith

  on : (a b : Bool) → (row == x) ≡ b → IsAmong at (x ∷ xs) → (IsAmong at xs → IsAmong at (without_row row xs)) → IsAmong at (cond (is_eq (cond a Less (cond b Equal Greater))) xs (x ∷ without_row row xs))
  on true b q (inl e) go = inl e
  on true b q (inr m) go = inr (go m)
  on false true q (inl e) go = absurd (let f : (at == row) ≡ true = subst (λ z. (at == z) ≡ true) (sym e ∙ sym (eqb-true row x q)) (self at) in cc)
  on false true q (inr m) go = m
  on false false q (inl e) go = inl e
  on false false q (inr m) go = inr (go m)

each_map : {A : Type 0} (P Q : A → Type 0) → ((x : A) → P x → Q x) → (xs : List A) → Each P xs → Each Q xs
each_map P Q f [] h = tt
each_map P Q f (x ∷ xs) h = (f x h.0, each_map P Q f xs h.1)

-- what is held for others stays with the others
held_less : (row : ℕ) (rows : List ℕ) (waiting : List Waiting) → HeldFor rows waiting → HeldFor (without_row row rows) (held_else row waiting)
held_less row rows [] h = tt
held_less row rows (one ∷ others) h = on (one.row == row) refl (held_less row rows others h.1) where
  on : (b : Bool) → (one.row == row) ≡ b → HeldFor (without_row row rows) (held_else row others) → HeldFor (without_row row rows) (cond b [] (one ∷ []) ++ held_else row others)
  on true q r = r
  on false q r = (among_less row one.row rows q h.0, r)

held_more : (row : ℕ) (rows : List ℕ) (o : Option Opened) (waiting : List Waiting) → HeldFor rows waiting → HeldFor (with_row row rows) (own_wait row o ++ waiting)
held_more row rows None waiting h = each_map (λ (one : Waiting). IsAmong one.row rows) (λ (one : Waiting). IsAmong one.row (with_row row rows)) (λ one m. among_more row one.row rows m) waiting h
held_more row rows (Some event) waiting h = (among_new row rows, each_map (λ (one : Waiting). IsAmong one.row rows) (λ (one : Waiting). IsAmong one.row (with_row row rows)) (λ one m. among_more row one.row rows m) waiting h)

holding_noted : (s : Option Subject) (c : Context) (e : Entry) → IsHolding c → IsHolding (noted s c e)
holding_noted s c (says.Held row first second) h = held_more row c.held c.ended c.waiting h
holding_noted s c (says.Add row version) h = held_less row c.held c.waiting h
holding_noted s c (says.Connect action thread account user host) h = h
holding_noted s c (says.Start event verdict consumers thread class table) h = h
holding_noted s c (says.End event last consumers thread) h = h
holding_noted s c says.Settle h = h
holding_noted s c (says.Act action) h = h
holding_noted s c (says.Take row version) h = h
holding_noted s c _ h = h

holding_part : (s : Option Subject) (c : Context) (part : List Entry) → IsHolding c → IsHolding (after_entries s c part)
holding_part s c [] h = h
holding_part s c (e ∷ es) h = holding_part s (noted s c e) es (holding_noted s c e h)

pub holding_after : (c : Context) (line : Line) (part : List Entry) → IsHolding c → IsHolding (after c line part)
holding_after c line part h = holding_part (subject_of line) (turned c) part h

holding_lines : (c : Context) (lines : List Line) (parts : List (List Entry)) → IsHolding c → IsHolding (after_lines c lines parts)
holding_lines c [] parts h = h
holding_lines c (line ∷ lines) [] h = h
holding_lines c (line ∷ lines) (part ∷ parts) h = holding_lines (after c line part) lines parts (holding_after c line part h)

-- each row that something is held for is added to
none_left : (rows : List ℕ) (waiting : List Waiting) → rows ≡ [] → HeldFor rows waiting → waiting ≡ []
none_left rows [] e h = refl
none_left [] (one ∷ others) e h = absurd h.0
none_left (row ∷ rows) (one ∷ others) e h = absurd (cc)

rest_held : (row : ℕ) (rows : List ℕ) (waiting : List Waiting) → HeldFor (row ∷ rows) waiting → HeldFor rows (held_else row waiting)
rest_held row rows [] h = tt
rest_held row rows (one ∷ others) h = on (one.row == row) refl h.0 (rest_held row rows others h.1) where
  self : (n : ℕ) → (n == n) ≡ true
  self n = grind arith

  on : (b : Bool) → (one.row == row) ≡ b → IsAmong one.row (row ∷ rows) → HeldFor rows (held_else row others) → HeldFor rows (cond b [] (one ∷ []) ++ held_else row others)
  on true q m r = r
  on false q (inl e) r = absurd (let f : (one.row == row) ≡ true = subst (λ z. (one.row == z) ≡ true) (sym e) (self one.row) in cc)
  on false q (inr m) r = (m, r)

added_all : (s : Option Subject) (rows : List ℕ) (c : Context) (part : List Entry) → cut (map added rows) part ≡ Ok [] → HeldFor rows c.waiting → (after_entries s c part).waiting ≡ []
unfolding cut
added_all s [] c part q h = let e : part ≡ [] = cc in ap (λ z. (after_entries s c z).waiting) e ∙ none_left [] c.waiting refl h
added_all s (row ∷ rows) c [] q h = absurd (cc)
added_all s (row ∷ rows) c (e ∷ es) q h = by e q (λ d k g. added_all s rows d es k g) where
  Go : Type 0
  Go = (d : Context) → cut (map added rows) es ≡ Ok [] → HeldFor rows d.waiting → (after_entries s d es).waiting ≡ []

  fitting : (at v : ℕ) (b : Bool) → (at == row) ≡ b → then_cut (if b then Ok es else Err (says.Add at v ∷ es)) (cut (map added rows)) ≡ Ok [] → Go → (after_entries s (noted s c (says.Add at v)) es).waiting ≡ []
  fitting at v true f q go = go (noted s c (says.Add at v)) q (subst (λ z. HeldFor rows (held_else z c.waiting)) (sym (eqb-true at row f)) (rest_held row rows c.waiting h))
  fitting at v false f q go = absurd (cc)

  by : (e : Entry) → then_cut (if fits (added row).ask e then Ok es else Err (e ∷ es)) (cut (map added rows)) ≡ Ok [] → Go → (after_entries s (noted s c e) es).waiting ≡ []
  by (says.Add at v) q go = fitting at v (at == row) refl q go
  by _ q go = absurd (cc)

settled_all : (s : Option Subject) (rows : List ℕ) (c : Context) (part : List Entry) → cut (settling rows) part ≡ Ok [] → HeldFor rows c.waiting → (after_entries s c part).waiting ≡ []
unfolding cut
settled_all s [] c part q h = let e : part ≡ [] = cc in ap (λ z. (after_entries s c z).waiting) e ∙ none_left [] c.waiting refl h
settled_all s (row ∷ rows) c [] q h = absurd (cc)
settled_all s (row ∷ rows) c (says.Settle ∷ es) q h = added_all s (row ∷ rows) (noted s c says.Settle) es q h
settled_all s (row ∷ rows) c (_ ∷ es) q h = absurd (cc)

-- so nothing is left at the end of a block
last_line : (c : Context) (line : Line) (part : List Entry) → is_close line ≡ true → cut (shape c line) part ≡ Ok [] → IsHolding c → (after c line part).waiting ≡ []
last_line c lines.Close part q s h = settled_all None c.held (turned c) part s h
last_line c _ part q s h = absurd (cc)

settled_lines : (c : Context) (ls : List Line) (parts : List (List Entry)) → is_closed ls ≡ true → AreShaped c ls parts → IsHolding c → (after_lines c ls parts).waiting ≡ []
settled_lines c [] parts q s h = absurd (cc)
settled_lines c (line ∷ ls) [] q s h = absurd s
settled_lines c (line ∷ []) (part ∷ parts) q s h = last_line c line part q s.0 h
settled_lines c (line ∷ (other ∷ ls)) (part ∷ parts) q s h = settled_lines (after c line part) (other ∷ ls) parts q s.1 (holding_after c line part h)

settled_blocks : (session : ℕ) (earlier blocks : List Block) (low : ℕ) → AreShapedBehind earlier low blocks → AreClosed blocks → IsHolding (told_by session fresh earlier) → (told_by session fresh earlier).waiting ≡ []
    → (told_by session (told_by session fresh earlier) blocks).waiting ≡ []
settled_blocks session earlier [] low s k h w = w
settled_blocks session earlier (b ∷ blocks) low s k h w =
    at (b.session == session) refl (settled_blocks session (earlier ++ b ∷ []) blocks b.phase s.2 k.1) (told_more session fresh earlier b) where
      now : Context
      now = told_by session fresh earlier

      behind : Bool → Context
      behind x = cond x (after_lines now b.lines b.parts) now

      Go : Type 0
      Go = IsHolding (told_by session fresh (earlier ++ b ∷ [])) → (told_by session fresh (earlier ++ b ∷ [])).waiting ≡ [] → (told_by session (told_by session fresh (earlier ++ b ∷ [])) blocks).waiting ≡ []

      at : (x : Bool) → (b.session == session) ≡ x → Go → told_by session fresh (earlier ++ b ∷ []) ≡ behind (b.session == session)
          → (told_by session (cond x (after_lines now b.lines b.parts) now) blocks).waiting ≡ []
      at true q go e =
          let f : told_by session fresh (earlier ++ b ∷ []) ≡ after_lines now b.lines b.parts = e ∙ ap behind q in
          let shaped : AreShaped now b.lines b.parts = subst (λ z. AreShaped (told_by z fresh earlier) b.lines b.parts) (eqb-true b.session session q) s.1 in
          ap (λ (z : Context). (told_by session z blocks).waiting) (sym f)
          ∙ go (subst IsHolding (sym f) (holding_lines now b.lines b.parts h)) (ap (λ (z : Context). z.waiting) f ∙ settled_lines now b.lines b.parts k.0 shaped h)
      at false q go e =
          let f : told_by session fresh (earlier ++ b ∷ []) ≡ now = e ∙ ap behind q in
          ap (λ (z : Context). (told_by session z blocks).waiting) (sym f)
          ∙ go (subst IsHolding (sym f) h) (ap (λ (z : Context). z.waiting) f ∙ w)

pub all_settled : (session : ℕ) (blocks : List Block) → IsShaped blocks → AreClosed blocks → (told_by session fresh blocks).waiting ≡ []
all_settled session blocks s k = settled_blocks session [] blocks 0 s k tt refl
