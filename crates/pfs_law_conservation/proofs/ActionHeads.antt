-- In what a line asks for, no action begins behind what an action does: so none begins behind a take.
use Rattle.std.proofs.Common.{◌≡◌, refl, ℕ, Bool, true, false, ◌&&◌, ◌||◌, not, List, [], ◌∷◌, ◌++◌, map, sym, ap, subst, ◌∙◌, Option, None}
use Rattle.std.specs.Prelude.{Ok, Err, if◌then◌else◌}
use Rattle.std.proofs.lemmas.Bool.{and_from, and_parts}
use Rattle.pfs_model.proofs.EachLists.{each_join}
use Rattle.pfs_event.specs.Verdicts.{is_let_through}
use Rattle.pfs_event.specs.declared.entry.Entry.{Entry}
use Rattle.pfs_event.specs.declared.entry.Entry.TheVariants as says
use Rattle.pfs_event.specs.declared.kind.EventKind.{EventKind}
use Rattle.pfs_event.specs.declared.kind.EventKind.TheVariants as kinds
use Rattle.pfs_model.specs.Actions.{is_acted}
use Rattle.pfs_model.specs.EntryAsks.{fits}
use Rattle.pfs_model.specs.Chains.{Each}
use Rattle.pfs_model.specs.Contexts.{Context, fresh, subject_of, noted, turned, after}
use Rattle.pfs_model.specs.Cuts.{behind, step, then_cut, cut}
use Rattle.pfs_model.specs.JournalCuts.{AreShaped}
use Rattle.pfs_model.specs.EntryPlaces.{Block, Placed, placed_part, placed_lines, told_by, places_behind, places, AreShapedBehind, IsShaped}
use Rattle.pfs_model.specs.Shapes.{shape, added, settling, puts, digest_of, counting, ending, ending_first, ending_stage, ending_both, starting, is_stage}
use Rattle.pfs_model.specs.declared.lines.Line.{Line}
use Rattle.pfs_model.specs.declared.lines.Line.TheVariants as lines
use Rattle.pfs_model.specs.declared.lines.Opened.{Opened}
use Rattle.pfs_model.specs.declared.lines.Subject.{Subject}
use Rattle.pfs_model.specs.declared.shapes.Ask.{Ask}
use Rattle.pfs_model.specs.declared.shapes.Ask.TheVariants as asks
use Rattle.pfs_model.specs.declared.shapes.Item.{Item}
use Rattle.pfs_model.specs.declared.shapes.Often.{Often}
use Rattle.pfs_model.specs.declared.shapes.Often.TheVariants.{One, Maybe, Many}
use Rattle.pfs_model.proofs.ActionGuards.{begins, acts, begins_ask}

abbrev pub AreBegun : Bool → List Entry → Type 0
AreBegun acted [] = Unit {0}
AreBegun acted (entry ∷ entries) = (acted ≡ true → begins entry ≡ false) × AreBegun (acted || is_acted entry) entries

-- with less done before
begun_less : (acted : Bool) (entries : List Entry) → AreBegun true entries → AreBegun acted entries
begun_less acted [] b = tt
begun_less acted (e ∷ es) b = ((λ q. b.0 refl), begun_less (acted || is_acted e) es b.1)

begun_some : (a b : Bool) (entries : List Entry) → (a ≡ true → b ≡ true) → AreBegun b entries → AreBegun a entries
begun_some a true entries f h = begun_less a entries h
begun_some true false entries f h = absurd (let q : false ≡ true = f refl in cc)
begun_some false false entries f h = h

abbrev pub fine : Often → Ask → Bool → Bool
fine One ask acted = not (acted && begins_ask ask)
fine Maybe ask acted = not (acted && begins_ask ask)
fine Many ask acted = not (begins_ask ask)

abbrev pub sound : Bool → List Item → Bool
sound acted [] = true
sound acted (item ∷ items) = fine item.often item.ask acted && sound (acted || acts item.ask) items

-- what isn't asked as a beginning is none
calm : (ask : Ask) (e : Entry) → not (begins_ask ask) ≡ true → fits ask e ≡ true → begins e ≡ false
calm asks.Connect e a f = absurd (cc)
calm asks.Act e a f = absurd (cc)
calm ask (says.Connect action thread account user host) a f = none ask a f where
  none : (ask : Ask) → not (begins_ask ask) ≡ true → fits ask (says.Connect action thread account user host) ≡ true → true ≡ false
  none asks.Connect a f = absurd (cc)
  none _ a f = absurd (cc)
calm ask (says.Act action) a f = none ask a f where
  none : (ask : Ask) → not (begins_ask ask) ≡ true → fits ask (says.Act action) ≡ true → true ≡ false
  none asks.Act a f = absurd (cc)
  none _ a f = absurd (cc)
calm ask _ a f = refl

-- and what an action does was asked so
asked : (ask : Ask) (e : Entry) → fits ask e ≡ true → is_acted e ≡ true → acts ask ≡ true
asked asks.Move e f a = refl
asked asks.Sign e f a = refl
asked asks.Set e f a = refl
asked ask (says.Take row version) f a = none ask f where
  none : (ask : Ask) → fits ask (says.Take row version) ≡ true → acts ask ≡ true
  none asks.Move f = refl
  none _ f = absurd (cc)
asked ask (says.Give row version from) f a = none ask f where
  none : (ask : Ask) → fits ask (says.Give row version from) ≡ true → acts ask ≡ true
  none asks.Move f = refl
  none _ f = absurd (cc)
asked ask (says.Tag row version) f a = none ask f where
  none : (ask : Ask) → fits ask (says.Tag row version) ≡ true → acts ask ≡ true
  none asks.Sign f = refl
  none _ f = absurd (cc)
asked ask (says.Free row version) f a = none ask f where
  none : (ask : Ask) → fits ask (says.Free row version) ≡ true → acts ask ≡ true
  none asks.Sign f = refl
  none _ f = absurd (cc)
asked ask (says.Set word version flags) f a = none ask f where
  none : (ask : Ask) → fits ask (says.Set word version flags) ≡ true → acts ask ≡ true
  none asks.Set f = refl
  none _ f = absurd (cc)
asked ask _ f a = absurd (cc)

more : (acted : Bool) (a b : Bool) → (a ≡ true → b ≡ true) → acted || a ≡ true → acted || b ≡ true
more true a b f h = refl
more false a b f h = f h

-- one entry that was asked
taken : (ask : Ask) (e : Entry) (es : List Entry) (acted : Bool) → not (acted && begins_ask ask) ≡ true → fits ask e ≡ true → AreBegun (acted || acts ask) es → AreBegun acted (e ∷ es)
taken ask e es acted m f b = ((λ q. calm ask e (free acted q m) f), begun_some (acted || is_acted e) (acted || acts ask) es (more acted (is_acted e) (acts ask) (asked ask e f)) b) where
  free : (acted : Bool) → acted ≡ true → not (acted && begins_ask ask) ≡ true → not (begins_ask ask) ≡ true
  free true q m = m
  free false q m = absurd (cc)

begun_many : (ask : Ask) (acted : Bool) (part : List Entry) → not (begins_ask ask) ≡ true → (acts ask ≡ true → acted ≡ true) → AreBegun acted (behind ask part) → AreBegun acted part
unfolding behind
begun_many ask acted [] m k b = tt
begun_many ask acted (e ∷ es) m k b = at (fits ask e) refl b (begun_many ask acted es m k) where
  same : (acted : Bool) (a : Bool) → (a ≡ true → acted ≡ true) → acted || a ≡ true → acted ≡ true
  same true a f h = refl
  same false a f h = f h

  at : (c : Bool) → fits ask e ≡ c → AreBegun acted (if c then behind ask es else e ∷ es) → (AreBegun acted (behind ask es) → AreBegun acted es) → AreBegun acted (e ∷ es)
  at true f b go = ((λ q. calm ask e m f), begun_some (acted || is_acted e) acted es (same acted (is_acted e) (λ i. k (asked ask e f i))) (go b))
  at false f b go = b

left_more : (a b : Bool) → a ≡ true → a || b ≡ true
left_more true b q = refl
left_more false b q = absurd (cc)

right_more : (a b : Bool) → b ≡ true → a || b ≡ true
right_more true b q = refl
right_more false b q = q

pub cut_begun : (items : List Item) (part : List Entry) (acted : Bool) → sound acted items ≡ true → cut items part ≡ Ok [] → AreBegun acted part
unfolding cut
cut_begun [] part acted h s = let none : part ≡ [] = cc in subst (AreBegun acted) (sym none) tt
cut_begun (item ∷ items) part acted h s = by item.often part (and_parts _ _ h).0 (and_parts _ _ h).1 s (cut_begun items) where
  Go : Type 0
  Go = (part : List Entry) (acted : Bool) → sound acted items ≡ true → cut items part ≡ Ok [] → AreBegun acted part

  less : (part : List Entry) → AreBegun (acted || acts item.ask) part → AreBegun acted part
  less part b = begun_some acted (acted || acts item.ask) part (left_more acted (acts item.ask)) b

  by : (often : Often) (part : List Entry) → fine often item.ask acted ≡ true → sound (acted || acts item.ask) items ≡ true → then_cut (step often item.ask part) (cut items) ≡ Ok [] → Go → AreBegun acted part
  by One [] m g s go = absurd (cc)
  by One (e ∷ es) m g s go = at (fits item.ask e) refl s where
    at : (b : Bool) → fits item.ask e ≡ b → then_cut (if b then Ok es else Err (e ∷ es)) (cut items) ≡ Ok [] → AreBegun acted (e ∷ es)
    at true f s = taken item.ask e es acted m f (go es (acted || acts item.ask) g s)
    at false f s = absurd (cc)
  by Maybe [] m g s go = tt
  by Maybe (e ∷ es) m g s go = at (fits item.ask e) refl s where
    at : (b : Bool) → fits item.ask e ≡ b → then_cut (if b then Ok es else Ok (e ∷ es)) (cut items) ≡ Ok [] → AreBegun acted (e ∷ es)
    at true f s = taken item.ask e es acted m f (go es (acted || acts item.ask) g s)
    at false f s = less (e ∷ es) (go (e ∷ es) (acted || acts item.ask) g s)
  by Many part m g s go = less part (begun_many item.ask (acted || acts item.ask) part m (right_more acted (acts item.ask)) (go (behind item.ask part) (acted || acts item.ask) g s))

-- what neither begins an action nor is done by one
abbrev pub is_idle : List Item → Bool
is_idle [] = true
is_idle (item ∷ items) = (not (begins_ask item.ask) && not (acts item.ask)) && is_idle items

idle_then : (acted : Bool) (xs ys : List Item) → is_idle xs ≡ true → sound acted ys ≡ true → sound acted (xs ++ ys) ≡ true
idle_then acted [] ys i s = s
idle_then acted (x ∷ xs) ys i s =
    and_from (fine x.often x.ask acted) (sound (acted || acts x.ask) (xs ++ ys)) (free x.often acted (begins_ask x.ask) (and_parts _ _ (and_parts _ _ i).0).0)
    (subst (λ b. sound b (xs ++ ys) ≡ true) (still acted (acts x.ask) (and_parts _ _ (and_parts _ _ i).0).1) (idle_then acted xs ys (and_parts _ _ i).1 s)) where
      free : (often : Often) (acted b : Bool) → not (begins_ask x.ask) ≡ true → fine often x.ask acted ≡ true
      free One acted b n = on acted where
        on : (acted : Bool) → not (acted && begins_ask x.ask) ≡ true
        on true = n
        on false = refl
      free Maybe acted b n = on acted where
        on : (acted : Bool) → not (acted && begins_ask x.ask) ≡ true
        on true = n
        on false = refl
      free Many acted b n = n

      still : (acted b : Bool) → not b ≡ true → acted ≡ acted || b
      still true b n = refl
      still false true n = absurd (cc)
      still false false n = refl

idle_join : (xs ys : List Item) → is_idle xs ≡ true → is_idle ys ≡ true → is_idle (xs ++ ys) ≡ true
idle_join [] ys c d = d
idle_join (x ∷ xs) ys c d = and_from _ _ (and_parts _ _ c).0 (idle_join xs ys (and_parts _ _ c).1 d)

idle_added : (rows : List ℕ) → is_idle (map added rows) ≡ true
idle_added [] = refl
idle_added (row ∷ rows) = idle_added rows

idle_settling : (rows : List ℕ) → is_idle (settling rows) ≡ true
idle_settling [] = refl
idle_settling (row ∷ rows) = idle_added rows

idle_counting : (slot : Option ℕ) (event : Opened) (b : Bool) → is_idle (counting slot event b) ≡ true
idle_counting slot event true = by event.subject.kind where
  by : (kind : EventKind) → is_idle (digest_of kind ++ puts) ≡ true
  by kinds.Wait = refl
  by kinds.Stage = refl
  by kinds.Statement = refl
  by kinds.Transaction = refl
idle_counting slot event false = refl

idle_ending : (slot : Option ℕ) (event : Opened) → is_idle (ending slot event) ≡ true
idle_ending slot event = idle_counting slot event (is_let_through event.verdict)

idle_first : (slot : Option ℕ) (events : List Opened) → is_idle (ending_first slot events) ≡ true
idle_first slot [] = refl
idle_first slot (event ∷ events) = idle_ending slot event

idle_if : (b : Bool) (xs : List Item) → is_idle xs ≡ true → is_idle (if b then xs else []) ≡ true
idle_if true xs c = c
idle_if false xs c = refl

idle_stage : (slot : Option ℕ) (events : List Opened) → is_idle (ending_stage slot events) ≡ true
idle_stage slot [] = refl
idle_stage slot (event ∷ events) = idle_if (is_stage event.subject.kind) _ (idle_ending slot event)

idle_both : (slot : Option ℕ) (events : List Opened) → is_idle (ending_both slot events) ≡ true
idle_both slot [] = refl
idle_both slot (event ∷ events) = idle_join (ending slot event) _ (idle_ending slot event) (idle_if (is_stage event.subject.kind) _ (idle_first slot events))

no_more : (xs : List Item) → xs ++ [] ≡ xs
no_more [] = refl
no_more (x ∷ xs) = ap (λ zs. x ∷ zs) (no_more xs)

idle_alone : (xs : List Item) → is_idle xs ≡ true → sound false xs ≡ true
idle_alone xs i = subst (λ zs. sound false zs ≡ true) (no_more xs) (idle_then false xs [] i refl)

pub shape_sound : (context : Context) (line : Line) → sound false (shape context line) ≡ true
shape_sound context lines.Connect = refl
shape_sound context (lines.Start subject) = refl
shape_sound context (lines.Stage subject) = idle_then false (ending_stage context.slot context.opened) (starting context.slot subject) (idle_stage context.slot context.opened) refl
shape_sound context lines.StageEnd = idle_alone (ending_stage context.slot context.opened) (idle_stage context.slot context.opened)
shape_sound context lines.End = idle_alone (ending_both context.slot context.opened) (idle_both context.slot context.opened)
shape_sound context lines.Spend = refl
shape_sound context lines.Change = idle_then false (settling context.held) _ (idle_settling context.held) refl
shape_sound context lines.Quit = idle_then false (settling context.held) _ (idle_settling context.held) refl
shape_sound context lines.Show = idle_then false (settling context.held) _ (idle_settling context.held) refl
shape_sound context lines.Query = refl
shape_sound context (lines.Refused error) = refl
shape_sound context lines.Close = idle_alone (settling context.held) (idle_settling context.held)

-- so where an action begins, its line has taken nothing
abbrev pub IsFresh : Placed → Type 0
IsFresh p = begins p.entry ≡ true → p.context.source ≡ None

source_same : (s : Option Subject) (c : Context) (e : Entry) → is_acted e ≡ false → (noted s c e).source ≡ c.source
source_same s c (says.Connect action thread account user host) f = refl
source_same s c (says.Start event verdict consumers thread class table) f = refl
source_same s c (says.End event last consumers thread) f = refl
source_same s c (says.Held row first second) f = refl
source_same s c (says.Add row version) f = refl
source_same s c says.Settle f = refl
source_same s c (says.Act action) f = refl
source_same s c (says.Take row version) f = absurd (cc)
source_same s c _ f = refl

fresh_part : (phase session : ℕ) (line : Line) (c : Context) (entries : List Entry) (acted : Bool) → AreBegun acted entries → (acted ≡ false → c.source ≡ None) → Each IsFresh (placed_part phase session line c entries)
fresh_part phase session line c [] acted b n = tt
fresh_part phase session line c (e ∷ es) acted b n = (here acted b.0 n, fresh_part phase session line (noted (subject_of line) c e) es (acted || is_acted e) b.1 (next acted n (is_acted e) refl)) where
  here : (acted : Bool) → (acted ≡ true → begins e ≡ false) → (acted ≡ false → c.source ≡ None) → begins e ≡ true → c.source ≡ None
  here true b n q = absurd (let f : begins e ≡ false = b refl in let g : true ≡ false = sym q ∙ f in cc)
  here false b n q = n refl

  next : (acted : Bool) → (acted ≡ false → c.source ≡ None) → (x : Bool) → is_acted e ≡ x → acted || is_acted e ≡ false → (noted (subject_of line) c e).source ≡ None
  next true n x q f = absurd (cc)
  next false n true q f = absurd (let g : true ≡ false = sym q ∙ f in cc)
  next false n false q f = source_same (subject_of line) c e q ∙ n refl

fresh_lines : (phase session : ℕ) (c : Context) (lines : List Line) (parts : List (List Entry)) → AreShaped c lines parts → Each IsFresh (placed_lines phase session c lines parts)
fresh_lines phase session c [] parts s = tt
fresh_lines phase session c (line ∷ lines) [] s = tt
fresh_lines phase session c (line ∷ lines) (part ∷ parts) s =
    each_join IsFresh (placed_part phase session line (turned c) part) (placed_lines phase session (after c line part) lines parts)
    (fresh_part phase session line (turned c) part false (cut_begun (shape c line) part false (shape_sound c line) s.0) (λ q. refl))
    (fresh_lines phase session (after c line part) lines parts s.1)

fresh_blocks : (earlier blocks : List Block) (phase : ℕ) → AreShapedBehind earlier phase blocks → Each IsFresh (places_behind earlier blocks)
unfolding places_behind
fresh_blocks earlier [] phase s = tt
fresh_blocks earlier (b ∷ blocks) phase s =
    each_join IsFresh (placed_lines b.phase b.session (told_by b.session fresh earlier) b.lines b.parts) (places_behind (earlier ++ b ∷ []) blocks)
    (fresh_lines b.phase b.session (told_by b.session fresh earlier) b.lines b.parts s.1)
    (fresh_blocks (earlier ++ b ∷ []) blocks b.phase s.2)

pub all_fresh : (blocks : List Block) → IsShaped blocks → Each IsFresh (places blocks)
all_fresh blocks s = fresh_blocks [] blocks 0 s
