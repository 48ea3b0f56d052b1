-- Where sessions connect first, their connects are their first entries.
use Rattle.std.proofs.Common.{ℕ, ◌≡◌, ◌==◌, ◌&&◌, not, Bool, true, false, if◌then◌else◌, cond, List, [], ◌∷◌, ◌++◌, map, Option, Ok, Err, refl, sym, subst, ◌∙◌, ap}
use Rattle.std.proofs.lemmas.Bool.{and_parts}
use Rattle.pfs_model.proofs.EachLists.{each_join}
use Rattle.pfs_event.specs.declared.entry.Entry.{Entry}
use Rattle.pfs_event.specs.declared.entry.Entry.TheVariants as says
use Rattle.pfs_event.specs.declared.kind.EventKind.{EventKind}
use Rattle.pfs_event.specs.declared.kind.EventKind.TheVariants as kinds
use Rattle.pfs_event.specs.Verdicts.{is_let_through}
use Rattle.pfs_model.specs.EntryAsks.{fits}
use Rattle.pfs_model.specs.Chains.{Each}
use Rattle.pfs_model.specs.Contexts.{Context, fresh, subject_of, noted, turned, after}
use Rattle.pfs_model.specs.Cuts.{behind, step, then_cut, cut}
use Rattle.pfs_model.specs.JournalCuts.{AreShaped}
use Rattle.pfs_model.specs.EntryPlaces.{Block, Placed, placed_part, placed_lines, told_by, places_behind, by_session, AreShapedBehind}
use Rattle.pfs_model.specs.Shapes.{shape, starting, counting, digest_of, puts, ending, ending_first, ending_stage, ending_both, settling, added, is_stage, changes}
use Rattle.pfs_model.specs.declared.lines.Line.{Line}
use Rattle.pfs_model.specs.declared.lines.Line.TheVariants as lines
use Rattle.pfs_model.specs.declared.lines.Opened.{Opened}
use Rattle.pfs_model.specs.declared.shapes.Ask.{Ask}
use Rattle.pfs_model.specs.declared.shapes.Ask.TheVariants as asks
use Rattle.pfs_model.specs.declared.shapes.Item.{Item}
use Rattle.pfs_model.specs.declared.shapes.Often.{Often}
use Rattle.pfs_model.specs.declared.shapes.Often.TheVariants.{One, Maybe, Many}
use Rattle.pfs_law_conservation.specs.Premises.{IsFirst, AreFirstBehind}
use Rattle.pfs_law_summaries.specs.FirstConnects.{is_connect, AreUnconnected, NoneOf, Begins, AreBegunBehind, BegunLaw}

-- an entry that connects, and what asks for it
abbrev connects : Entry → Bool
connects (says.Connect action thread account user host) = true
connects e = false

abbrev asks_connect : Ask → Bool
asks_connect asks.Connect = true
asks_connect ask = false

abbrev AreCalm : List Entry → Type 0
AreCalm es = Each (λ e. connects e ≡ false) es

abbrev calm_items : List Item → Bool
calm_items [] = true
calm_items (item ∷ items) = not (asks_connect item.ask) && calm_items items

calm : (ask : Ask) (e : Entry) → not (asks_connect ask) ≡ true → fits ask e ≡ true → connects e ≡ false
calm ask (says.Connect action thread account user host) a f = none ask a f where
  none : (ask : Ask) → not (asks_connect ask) ≡ true → fits ask (says.Connect action thread account user host) ≡ true → true ≡ false
  none asks.Connect a f = absurd (cc)
  none _ a f = absurd (cc)
calm ask _ a f = refl

calm_many : (ask : Ask) (part : List Entry) → not (asks_connect ask) ≡ true → AreCalm (behind ask part) → AreCalm part
unfolding behind
calm_many ask [] a g = tt
calm_many ask (e ∷ es) a g = at (fits ask e) refl g (calm_many ask es a) where
  at : (b : Bool) → fits ask e ≡ b → AreCalm (if b then behind ask es else e ∷ es) → (AreCalm (behind ask es) → AreCalm es) → AreCalm (e ∷ es)
  at true f g go = (calm ask e a f, go g)
  at false f g go = g

cut_calm : (items : List Item) (part : List Entry) → calm_items items ≡ true → cut items part ≡ Ok [] → AreCalm part
unfolding cut
cut_calm [] part h s = let none : part ≡ [] = cc in subst AreCalm (sym none) tt
cut_calm (item ∷ items) part h s = by item.often part (and_parts _ _ h).0 s (λ es q. cut_calm items es (and_parts _ _ h).1 q) where
  by : (often : Often) (part : List Entry) → not (asks_connect item.ask) ≡ true → then_cut (step often item.ask part) (cut items) ≡ Ok [] → ((part : List Entry) → cut items part ≡ Ok [] → AreCalm part) → AreCalm part
  by One [] a s go = absurd (cc)
  by One (e ∷ es) a s go = at (fits item.ask e) refl s where
    at : (b : Bool) → fits item.ask e ≡ b → then_cut (if b then Ok es else Err (e ∷ es)) (cut items) ≡ Ok [] → AreCalm (e ∷ es)
    at true f s = (calm item.ask e a f, go es s)
    at false f s = absurd (cc)
  by Maybe [] a s go = tt
  by Maybe (e ∷ es) a s go = at (fits item.ask e) refl s where
    at : (b : Bool) → fits item.ask e ≡ b → then_cut (if b then Ok es else Ok (e ∷ es)) (cut items) ≡ Ok [] → AreCalm (e ∷ es)
    at true f s = (calm item.ask e a f, go es s)
    at false f s = go (e ∷ es) s
  by Many part a s go = calm_many item.ask part a (go (behind item.ask part) s)

cut_connect : (part : List Entry) (e : Entry) (es : List Entry) → part ≡ e ∷ es → cut (shape fresh lines.Connect) (e ∷ es) ≡ Ok [] → AreCalm es
unfolding cut
cut_connect part e es p s = at (fits asks.Connect e) s where
  at : (b : Bool) → then_cut (if b then Ok es else Err (e ∷ es)) (cut changes) ≡ Ok [] → AreCalm es
  at true s = cut_calm changes es refl s
  at false s = absurd (cc)

calm_join : (xs ys : List Item) → calm_items xs ≡ true → calm_items ys ≡ true → calm_items (xs ++ ys) ≡ true
calm_join [] ys c d = d
calm_join (x ∷ xs) ys c d = two (not (asks_connect x.ask)) (calm_items xs) (calm_items (xs ++ ys)) c (λ k. calm_join xs ys k d) where
  two : (a b z : Bool) → a && b ≡ true → (b ≡ true → z ≡ true) → a && z ≡ true
  two true b z c go = go c
  two false b z c go = absurd (cc)

calm_added : (rows : List ℕ) → calm_items (map added rows) ≡ true
calm_added [] = refl
calm_added (row ∷ rows) = calm_added rows

calm_settling : (rows : List ℕ) → calm_items (settling rows) ≡ true
calm_settling [] = refl
calm_settling (row ∷ rows) = calm_added rows

calm_counting : (slot : Option ℕ) (event : Opened) (b : Bool) → calm_items (counting slot event b) ≡ true
calm_counting slot event true = by event.subject.kind where
  by : (kind : EventKind) → calm_items (digest_of kind ++ puts) ≡ true
  by kinds.Wait = refl
  by kinds.Stage = refl
  by kinds.Statement = refl
  by kinds.Transaction = refl
calm_counting slot event false = refl

calm_ending : (slot : Option ℕ) (event : Opened) → calm_items (ending slot event) ≡ true
calm_ending slot event = calm_counting slot event (is_let_through event.verdict)

calm_first : (slot : Option ℕ) (events : List Opened) → calm_items (ending_first slot events) ≡ true
calm_first slot [] = refl
calm_first slot (event ∷ events) = calm_ending slot event

calm_if : (b : Bool) (xs : List Item) → calm_items xs ≡ true → calm_items (if b then xs else []) ≡ true
calm_if true xs c = c
calm_if false xs c = refl

calm_stage : (slot : Option ℕ) (events : List Opened) → calm_items (ending_stage slot events) ≡ true
calm_stage slot [] = refl
calm_stage slot (event ∷ events) = calm_if (is_stage event.subject.kind) _ (calm_ending slot event)

calm_both : (slot : Option ℕ) (events : List Opened) → calm_items (ending_both slot events) ≡ true
calm_both slot [] = refl
calm_both slot (event ∷ events) = calm_join (ending slot event) _ (calm_ending slot event) (calm_if (is_stage event.subject.kind) _ (calm_first slot events))

shape_calm : (context : Context) (line : Line) → is_connect line ≡ false → calm_items (shape context line) ≡ true
shape_calm context lines.Connect q = absurd (cc)
shape_calm context (lines.Start subject) q = refl
shape_calm context (lines.Stage subject) q = calm_join (ending_stage context.slot context.opened) (starting context.slot subject) (calm_stage context.slot context.opened) refl
shape_calm context lines.StageEnd q = calm_stage context.slot context.opened
shape_calm context lines.End q = calm_both context.slot context.opened
shape_calm context lines.Spend q = refl
shape_calm context lines.Change q = calm_join (settling context.held) _ (calm_settling context.held) refl
shape_calm context lines.Quit q = calm_join (settling context.held) _ (calm_settling context.held) refl
shape_calm context lines.Show q = calm_join (settling context.held) _ (calm_settling context.held) refl
shape_calm context lines.Query q = refl
shape_calm context (lines.Refused error) q = refl
shape_calm context lines.Close q = calm_settling context.held

abbrev pub past : List Placed → List Placed → List Placed
past earlier [] = earlier
past earlier (p ∷ ps) = past (p ∷ earlier) ps

first_join : (earlier xs ys : List Placed) → AreFirstBehind earlier xs → AreFirstBehind (past earlier xs) ys → AreFirstBehind earlier (xs ++ ys)
first_join earlier [] ys a b = b
first_join earlier (x ∷ xs) ys a b = (a.0, first_join (x ∷ earlier) xs ys a.1 b)

one_first : (earlier : List Placed) (p : Placed) (e : Entry) → connects e ≡ false → IsFirst earlier p e
one_first earlier p (says.Connect action thread account user host) c = absurd (cc)
one_first earlier p _ c = tt

part_first : (phase session : ℕ) (line : Line) (c : Context) (part : List Entry) (earlier : List Placed) → AreCalm part → AreFirstBehind earlier (placed_part phase session line c part)
part_first phase session line c [] earlier q = tt
part_first phase session line c (e ∷ es) earlier q =
    let p : Placed = record { phase = phase; session = session; line = line; context = c; entry = e } in
    (one_first earlier p e q.0, part_first phase session line (noted (subject_of line) c e) es (p ∷ earlier) q.1)

lines_first : (phase session : ℕ) (c : Context) (ls : List Line) (parts : List (List Entry)) (earlier : List Placed) → AreShaped c ls parts → AreUnconnected ls → AreFirstBehind earlier (placed_lines phase session c ls parts)
lines_first phase session c [] parts earlier s q = tt
lines_first phase session c (line ∷ ls) [] earlier s q = tt
lines_first phase session c (line ∷ ls) (part ∷ parts) earlier s q =
    first_join earlier (placed_part phase session line (turned c) part) (placed_lines phase session (after c line part) ls parts)
    (part_first phase session line (turned c) part earlier (cut_calm (shape c line) part (shape_calm c line q.0) s.0))
    (lines_first phase session (after c line part) ls parts (past earlier (placed_part phase session line (turned c) part)) s.1 q.1)

given_first : (earlier : List Placed) (p : Placed) (e : Entry) → by_session p.session earlier ≡ [] → IsFirst earlier p e
given_first earlier p (says.Connect action thread account user host) g = g
given_first earlier p _ g = tt

connect_first : (phase session : ℕ) (c : Context) (part : List Entry) (earlier : List Placed) → cut (shape c lines.Connect) part ≡ Ok [] → by_session session earlier ≡ [] → AreFirstBehind earlier (placed_part phase session lines.Connect c part)
connect_first phase session c [] earlier s g = tt
connect_first phase session c (e ∷ es) earlier s g =
    let p : Placed = record { phase = phase; session = session; line = lines.Connect; context = c; entry = e } in
    (given_first earlier p e g, part_first phase session lines.Connect (noted (subject_of lines.Connect) c e) es (p ∷ earlier) (cut_connect (e ∷ es) e es refl s))

begun_part : (phase session : ℕ) (c d : Context) (line : Line) (part : List Entry) (earlier : List Placed) → cut (shape c line) part ≡ Ok [] → (is_connect line ≡ true → by_session session earlier ≡ []) → AreFirstBehind earlier (placed_part phase session line d part)
begun_part phase session c d lines.Connect part earlier s g = connect_first phase session d part earlier s (g refl)
begun_part phase session c d line part earlier s g = part_first phase session line d part earlier (cut_calm (shape c line) part (shape_calm c line refl) s)

begun_lines : (phase session : ℕ) (c : Context) (ls : List Line) (parts : List (List Entry)) (earlier : List Placed) (fact : Type 0) → (fact → by_session session earlier ≡ []) → AreShaped c ls parts → Begins fact ls → AreFirstBehind earlier (placed_lines phase session c ls parts)
begun_lines phase session c [] parts earlier fact g s q = tt
begun_lines phase session c (line ∷ ls) [] earlier fact g s q = tt
begun_lines phase session c (line ∷ ls) (part ∷ parts) earlier fact g s q =
    first_join earlier (placed_part phase session line (turned c) part) (placed_lines phase session (after c line part) ls parts)
    (begun_part phase session c (turned c) line part earlier s.0 (λ k. g (q.0 k)))
    (lines_first phase session (after c line part) ls parts (past earlier (placed_part phase session line (turned c) part)) s.1 q.1)

-- entries of other sessions
abbrev pub AreOthers : ℕ → List Placed → Type 0
AreOthers session ps = Each (λ (p : Placed). (p.session == session) ≡ false) ps

others_past : (session : ℕ) (earlier ps : List Placed) → by_session session earlier ≡ [] → AreOthers session ps → by_session session (past earlier ps) ≡ []
others_past session earlier [] n q = n
others_past session earlier (p ∷ ps) n q =
    others_past session (p ∷ earlier) ps (ap (λ b. cond b (p ∷ []) [] ++ by_session session earlier) q.0 ∙ n) q.1

part_others : (s phase session : ℕ) (line : Line) (c : Context) (part : List Entry) → (session == s) ≡ false → AreOthers s (placed_part phase session line c part)
part_others s phase session line c [] q = tt
part_others s phase session line c (e ∷ es) q = (q, part_others s phase session line (noted (subject_of line) c e) es q)

pub lines_others : (s phase session : ℕ) (c : Context) (ls : List Line) (parts : List (List Entry)) → (session == s) ≡ false → AreOthers s (placed_lines phase session c ls parts)
lines_others s phase session c [] parts q = tt
lines_others s phase session c (line ∷ ls) [] q = tt
lines_others s phase session c (line ∷ ls) (part ∷ parts) q =
    each_join (λ (p : Placed). (p.session == s) ≡ false) (placed_part phase session line (turned c) part) (placed_lines phase session (after c line part) ls parts)
    (part_others s phase session line (turned c) part q) (lines_others s phase session (after c line part) ls parts q)

none_split : (session : ℕ) (before : List Block) (b : Block) → NoneOf session (before ++ b ∷ []) → NoneOf session before × ((b.session == session) ≡ false)
none_split session [] b n = (tt, n.0)
none_split session (x ∷ before) b n = let r = none_split session before b n.1 in ((n.0, r.0), r.1)

begun_blocks : (before blocks : List Block) (low : ℕ) (earlier : List Placed) → AreShapedBehind before low blocks → AreBegunBehind before blocks
    → ((session : ℕ) → NoneOf session before → by_session session earlier ≡ []) → AreFirstBehind earlier (places_behind before blocks)
unfolding places_behind
begun_blocks before [] low earlier s q inv = tt
begun_blocks before (b ∷ blocks) low earlier s q inv =
    let xs : List Placed = placed_lines b.phase b.session (told_by b.session fresh before) b.lines b.parts in
    first_join earlier xs (places_behind (before ++ b ∷ []) blocks)
    (begun_lines b.phase b.session (told_by b.session fresh before) b.lines b.parts earlier (NoneOf b.session before) (inv b.session) s.1 q.0)
    (begun_blocks (before ++ b ∷ []) blocks b.phase (past earlier xs) s.2 q.1
    (λ session none. others_past session earlier xs (inv session (none_split session before b none).0)
    (lines_others session b.phase b.session (told_by b.session fresh before) b.lines b.parts (none_split session before b none).1)))

pub begun_law : BegunLaw
begun_law blocks shaped begun = begun_blocks [] blocks 0 [] shaped begun (λ session none. refl)
