-- Entries of a kind that no line asks for behind its action's number: where one stands, no action is at hand.
use Rattle.std.proofs.Common.{◌≡◌, refl, ℕ, Bool, true, false, ◌&&◌, not, cond, List, [], ◌∷◌, ◌++◌, map, sym, ap, subst, ◌∙◌, inl, inr, Option}
use Rattle.std.specs.Prelude.{Ok, Err, if◌then◌else◌}
use Rattle.std.proofs.lemmas.Bool.{and_parts}
use Rattle.pfs_model.proofs.EachLists.{each_join}
use Rattle.pfs_event.specs.Verdicts.{is_let_through}
use Rattle.pfs_event.specs.declared.entry.Entry.{Entry}
use Rattle.pfs_event.specs.declared.entry.Entry.TheVariants as says
use Rattle.pfs_event.specs.declared.kind.EventKind.{EventKind}
use Rattle.pfs_event.specs.declared.kind.EventKind.TheVariants as kinds
use Rattle.pfs_model.specs.EntryAsks.{fits}
use Rattle.pfs_model.specs.Chains.{Each, action_change, change_at}
use Rattle.pfs_model.specs.Contexts.{Context, fresh, subject_of, noted, turned, after}
use Rattle.pfs_model.specs.Cuts.{behind, step, then_cut, cut}
use Rattle.pfs_model.specs.JournalCuts.{AreShaped}
use Rattle.pfs_model.specs.EntryPlaces.{Block, Placed, placed_part, placed_lines, told_by, places_behind, places, AreShapedBehind, IsShaped}
use Rattle.pfs_model.specs.Shapes.{shape, added, settling, puts, digest_of, counting, ending, ending_first, ending_stage, ending_both, is_stage}
use Rattle.pfs_model.specs.declared.lines.Line.{Line}
use Rattle.pfs_model.specs.declared.lines.Opened.{Opened}
use Rattle.pfs_model.specs.declared.shapes.Ask.{Ask}
use Rattle.pfs_model.specs.declared.shapes.Ask.TheVariants as asks
use Rattle.pfs_model.specs.declared.shapes.Item.{Item}
use Rattle.pfs_model.specs.declared.shapes.Often.{Often}
use Rattle.pfs_model.specs.declared.shapes.Often.TheVariants.{One, Maybe, Many}
use Rattle.pfs_model.proofs.ActionGuards.{begins, begins_ask}
use Rattle.pfs_model.proofs.LineWalks.{IsNoted, noted_is}

-- no entry of a kind
abbrev pub AreBare : (Entry → Bool) → List Entry → Type 0
AreBare is_kind es = Each (λ e. is_kind e ≡ false) es

-- behind an entry that says an action's number, no entry of the kind stands
abbrev pub IsOrdered : (Entry → Bool) → List Entry → Type 0
IsOrdered is_kind [] = Unit {0}
IsOrdered is_kind (e ∷ es) = (begins e ≡ true → AreBare is_kind es) × IsOrdered is_kind es

abbrev pub bare_items : (Ask → Bool) → List Item → Bool
bare_items asks_kind [] = true
bare_items asks_kind (item ∷ items) = not (asks_kind item.ask) && bare_items asks_kind items

abbrev pub is_one : Often → Bool
is_one One = true
is_one Maybe = false
is_one Many = false

abbrev pub orders : (Ask → Bool) → List Item → Bool
orders asks_kind [] = true
orders asks_kind (item ∷ items) =
    cond (begins_ask item.ask) (is_one item.often && bare_items asks_kind items) (orders asks_kind items)

-- items that ask for no number
abbrev pub plain : List Item → Bool
plain [] = true
plain (item ∷ items) = not (begins_ask item.ask) && plain items

-- where an entry of the kind stands, no action is at hand
abbrev pub IsIdle : (Entry → Bool) → Placed → Type 0
IsIdle is_kind p = is_kind p.entry ≡ true → p.context.action ≡ 0

-- what doesn't ask for a number says none
calm : (ask : Ask) (e : Entry) → begins_ask ask ≡ false → fits ask e ≡ true → begins e ≡ false
calm ask (says.Connect action thread account user host) a f = none ask a f where
  none : (ask : Ask) → begins_ask ask ≡ false → fits ask (says.Connect action thread account user host) ≡ true → true ≡ false
  none asks.Connect a f = absurd (cc)
  none _ a f = absurd (cc)
calm ask (says.Act action) a f = none ask a f where
  none : (ask : Ask) → begins_ask ask ≡ false → fits ask (says.Act action) ≡ true → true ≡ false
  none asks.Act a f = absurd (cc)
  none _ a f = absurd (cc)
calm ask _ a f = refl

no_more : (xs : List Item) → xs ++ [] ≡ xs
no_more [] = refl
no_more (x ∷ xs) = ap (λ (zs : List Item). x ∷ zs) (no_more xs)

plain_join : (xs ys : List Item) → plain xs ≡ true → plain ys ≡ true → plain (xs ++ ys) ≡ true
plain_join [] ys p q = q
plain_join (x ∷ xs) ys p q = at (not (begins_ask x.ask)) p (λ k. plain_join xs ys k q) where
  at : (b : Bool) → b && plain xs ≡ true → (plain xs ≡ true → plain (xs ++ ys) ≡ true) → b && plain (xs ++ ys) ≡ true
  at true p go = go p
  at false p go = absurd (cc)

plain_added : (rows : List ℕ) → plain (map added rows) ≡ true
plain_added [] = refl
plain_added (row ∷ rows) = plain_added rows

pub plain_settling : (rows : List ℕ) → plain (settling rows) ≡ true
plain_settling [] = refl
plain_settling (row ∷ rows) = plain_added rows

plain_digest : (kind : EventKind) → plain (digest_of kind ++ puts) ≡ true
plain_digest kinds.Wait = refl
plain_digest kinds.Stage = refl
plain_digest kinds.Statement = refl
plain_digest kinds.Transaction = refl

plain_counting : (slot : Option ℕ) (event : Opened) (b : Bool) → plain (counting slot event b) ≡ true
plain_counting slot event true = plain_digest event.subject.kind
plain_counting slot event false = refl

plain_first : (slot : Option ℕ) (events : List Opened) → plain (ending_first slot events) ≡ true
plain_first slot [] = refl
plain_first slot (event ∷ events) = plain_counting slot event (is_let_through event.verdict)

plain_if : (b : Bool) (xs : List Item) → plain xs ≡ true → plain (if b then xs else []) ≡ true
plain_if true xs c = c
plain_if false xs c = refl

pub plain_stage : (slot : Option ℕ) (events : List Opened) → plain (ending_stage slot events) ≡ true
plain_stage slot [] = refl
plain_stage slot (event ∷ events) = plain_if (is_stage event.subject.kind) _ (plain_counting slot event (is_let_through event.verdict))

pub plain_both : (slot : Option ℕ) (events : List Opened) → plain (ending_both slot events) ≡ true
plain_both slot [] = refl
plain_both slot (event ∷ events) = plain_join (ending slot event) _ (plain_counting slot event (is_let_through event.verdict)) (plain_if (is_stage event.subject.kind) _ (plain_first slot events))

module _ (is_kind : Entry → Bool) (asks_kind : Ask → Bool)
    (quiet : (ask : Ask) (e : Entry) → not (asks_kind ask) ≡ true → fits ask e ≡ true → is_kind e ≡ false) where
  abbrev Bare : List Entry → Type 0
  Bare = AreBare is_kind

  abbrev Ordered : List Entry → Type 0
  Ordered = IsOrdered is_kind

  abbrev ordering : List Item → Bool
  ordering = orders asks_kind

  bare_many : (ask : Ask) (part : List Entry) → not (asks_kind ask) ≡ true → Bare (behind ask part) → Bare part
  unfolding behind
  bare_many ask [] a g = tt
  bare_many ask (e ∷ es) a g = at (fits ask e) refl g (bare_many ask es a) where
    at : (b : Bool) → fits ask e ≡ b → Bare (if b then behind ask es else e ∷ es) → (Bare (behind ask es) → Bare es) → Bare (e ∷ es)
    at true f g go = (quiet ask e a f, go g)
    at false f g go = g

  cut_bare : (items : List Item) (part : List Entry) → bare_items asks_kind items ≡ true → cut items part ≡ Ok [] → Bare part
  unfolding cut
  cut_bare [] part h s = let none : part ≡ [] = cc in subst Bare (sym none) tt
  cut_bare (item ∷ items) part h s = by item.often part (and_parts _ _ h).0 s (λ es q. cut_bare items es (and_parts _ _ h).1 q) where
    by : (often : Often) (part : List Entry) → not (asks_kind item.ask) ≡ true → then_cut (step often item.ask part) (cut items) ≡ Ok [] → ((part : List Entry) → cut items part ≡ Ok [] → Bare part) → Bare part
    by One [] a s go = absurd (cc)
    by One (e ∷ es) a s go = at (fits item.ask e) refl s where
      at : (b : Bool) → fits item.ask e ≡ b → then_cut (if b then Ok es else Err (e ∷ es)) (cut items) ≡ Ok [] → Bare (e ∷ es)
      at true f s = (quiet item.ask e a f, go es s)
      at false f s = absurd (cc)
    by Maybe [] a s go = tt
    by Maybe (e ∷ es) a s go = at (fits item.ask e) refl s where
      at : (b : Bool) → fits item.ask e ≡ b → then_cut (if b then Ok es else Ok (e ∷ es)) (cut items) ≡ Ok [] → Bare (e ∷ es)
      at true f s = (quiet item.ask e a f, go es s)
      at false f s = go (e ∷ es) s
    by Many part a s go = bare_many item.ask part a (go (behind item.ask part) s)

  bare_ordered : (es : List Entry) → Bare es → Ordered es
  bare_ordered [] u = tt
  bare_ordered (e ∷ es) u = ((λ q. u.1), bare_ordered es u.1)

  calm_first : (e : Entry) (es : List Entry) → begins e ≡ false → Ordered es → Ordered (e ∷ es)
  calm_first e es b o = ((λ q. absurd (let k : true ≡ false = sym q ∙ b in cc)), o)

  ordered_many : (ask : Ask) (part : List Entry) → begins_ask ask ≡ false → Ordered (behind ask part) → Ordered part
  unfolding behind
  ordered_many ask [] a g = tt
  ordered_many ask (e ∷ es) a g = at (fits ask e) refl g (ordered_many ask es a) where
    at : (b : Bool) → fits ask e ≡ b → Ordered (if b then behind ask es else e ∷ es) → (Ordered (behind ask es) → Ordered es) → Ordered (e ∷ es)
    at true f g go = calm_first e es (calm ask e a f) (go g)
    at false f g go = g

  cut_ordered : (items : List Item) (part : List Entry) → ordering items ≡ true → cut items part ≡ Ok [] → Ordered part
  unfolding cut
  cut_ordered [] part h s = let none : part ≡ [] = cc in subst Ordered (sym none) tt
  cut_ordered (item ∷ items) part h s = on (begins_ask item.ask) refl h (λ es k q. cut_bare items es k q) (λ es k q. cut_ordered items es k q) where
    on : (b : Bool) → begins_ask item.ask ≡ b → cond b (is_one item.often && bare_items asks_kind items) (ordering items) ≡ true
        → ((es : List Entry) → bare_items asks_kind items ≡ true → cut items es ≡ Ok [] → Bare es) → ((es : List Entry) → ordering items ≡ true → cut items es ≡ Ok [] → Ordered es) → Ordered part
    on true q h bare go = by item.often part (and_parts _ _ h).0 s where
      by : (often : Often) (part : List Entry) → is_one often ≡ true → then_cut (step often item.ask part) (cut items) ≡ Ok [] → Ordered part
      by One [] o s = absurd (cc)
      by One (e ∷ es) o s = at (fits item.ask e) s where
        at : (b : Bool) → then_cut (if b then Ok es else Err (e ∷ es)) (cut items) ≡ Ok [] → Ordered (e ∷ es)
        at true s = let u : Bare es = bare es (and_parts _ _ h).1 s in ((λ z. u), bare_ordered es u)
        at false s = absurd (cc)
      by Maybe part o s = absurd (cc)
      by Many part o s = absurd (cc)
    on false q h bare go = by item.often part s where
      by : (often : Often) (part : List Entry) → then_cut (step often item.ask part) (cut items) ≡ Ok [] → Ordered part
      by One [] s = absurd (cc)
      by One (e ∷ es) s = at (fits item.ask e) refl s where
        at : (b : Bool) → fits item.ask e ≡ b → then_cut (if b then Ok es else Err (e ∷ es)) (cut items) ≡ Ok [] → Ordered (e ∷ es)
        at true f s = calm_first e es (calm item.ask e q f) (go es h s)
        at false f s = absurd (cc)
      by Maybe [] s = tt
      by Maybe (e ∷ es) s = at (fits item.ask e) refl s where
        at : (b : Bool) → fits item.ask e ≡ b → then_cut (if b then Ok es else Ok (e ∷ es)) (cut items) ≡ Ok [] → Ordered (e ∷ es)
        at true f s = calm_first e es (calm item.ask e q f) (go es h s)
        at false f s = go (e ∷ es) h s
      by Many part s = ordered_many item.ask part q (go (behind item.ask part) h s)

  pub plain_then : (xs ys : List Item) → plain xs ≡ true → ordering ys ≡ true → ordering (xs ++ ys) ≡ true
  plain_then [] ys p o = o
  plain_then (x ∷ xs) ys p o = at (begins_ask x.ask) p (λ k. plain_then xs ys k o) where
    at : (b : Bool) → not b && plain xs ≡ true → (plain xs ≡ true → ordering (xs ++ ys) ≡ true) → cond b (is_one x.often && bare_items asks_kind (xs ++ ys)) (ordering (xs ++ ys)) ≡ true
    at true p go = absurd (cc)
    at false p go = go p

  pub plain_orders : (xs : List Item) → plain xs ≡ true → ordering xs ≡ true
  plain_orders xs p = ap ordering (sym (no_more xs)) ∙ plain_then xs [] p refl

  bare_part : (phase session : ℕ) (line : Line) (c : Context) (part : List Entry) → Bare part → Each (IsIdle is_kind) (placed_part phase session line c part)
  bare_part phase session line c [] u = tt
  bare_part phase session line c (e ∷ es) u = ((λ q. absurd (let k : true ≡ false = sym q ∙ u.0 in cc)), bare_part phase session line (noted (subject_of line) c e) es u.1)

  idle_part : (phase session : ℕ) (line : Line) (c : Context) (part : List Entry) → Ordered part → c.action ≡ 0 → Each (IsIdle is_kind) (placed_part phase session line c part)
  idle_part phase session line c [] o z = tt
  idle_part phase session line c (e ∷ es) o z = ((λ q. z), on (noted_is (subject_of line) c e) (λ k. idle_part phase session line (noted (subject_of line) c e) es o.1 k)) where
    number_begins : (e : Entry) (a : ℕ) → action_change e ≡ change_at 0 a ∷ [] → begins e ≡ true
    number_begins (says.Connect action thread account user host) a q = refl
    number_begins (says.Act action) a q = refl
    number_begins _ a q = absurd (cc)

    on : IsNoted (subject_of line) c e → ((noted (subject_of line) c e).action ≡ 0 → Each (IsIdle is_kind) (placed_part phase session line (noted (subject_of line) c e) es)) → Each (IsIdle is_kind) (placed_part phase session line (noted (subject_of line) c e) es)
    on (inl n) go = go (n.1 ∙ z)
    on (inr (a, q, r, s)) go = bare_part phase session line (noted (subject_of line) c e) es (o.0 (number_begins e a q))

  -- if each line asks for its entries in this order
  module _ (shape_orders : (context : Context) (line : Line) → ordering (shape context line) ≡ true) where
    idle_lines : (phase session : ℕ) (c : Context) (ls : List Line) (parts : List (List Entry)) → AreShaped c ls parts → Each (IsIdle is_kind) (placed_lines phase session c ls parts)
    idle_lines phase session c [] parts s = tt
    idle_lines phase session c (line ∷ ls) [] s = tt
    idle_lines phase session c (line ∷ ls) (part ∷ parts) s =
        each_join (IsIdle is_kind) (placed_part phase session line (turned c) part) (placed_lines phase session (after c line part) ls parts)
        (idle_part phase session line (turned c) part (cut_ordered (shape c line) part (shape_orders c line) s.0) refl)
        (idle_lines phase session (after c line part) ls parts s.1)

    idle_blocks : (earlier blocks : List Block) (low : ℕ) → AreShapedBehind earlier low blocks → Each (IsIdle is_kind) (places_behind earlier blocks)
    unfolding places_behind
    idle_blocks earlier [] low s = tt
    idle_blocks earlier (b ∷ blocks) low s =
        each_join (IsIdle is_kind) (placed_lines b.phase b.session (told_by b.session fresh earlier) b.lines b.parts) (places_behind (earlier ++ b ∷ []) blocks)
        (idle_lines b.phase b.session (told_by b.session fresh earlier) b.lines b.parts s.1)
        (idle_blocks (earlier ++ b ∷ []) blocks b.phase s.2)

    pub all_idle : (blocks : List Block) → IsShaped blocks → Each (IsIdle is_kind) (places blocks)
    all_idle blocks s = idle_blocks [] blocks 0 s
