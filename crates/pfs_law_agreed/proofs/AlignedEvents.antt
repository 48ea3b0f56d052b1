-- Two runs of one script, line by line.
use Rattle.std.proofs.Common.{ℕ, ◌≡◌, ◌+◌, ◌==◌, Bool, true, false, cond, List, [], ◌∷◌, ◌++◌, map, drop, Option, Some, None, refl, ap, sym, ◌∙◌, subst, append_assoc}
use Rattle.std.proofs.lemmas.Bool.{eqb-true}
use Rattle.pfs_lemmas.proofs.Numbers.{eq_self}
use Rattle.pfs_event.specs.declared.entry.Entry.{Entry}
use Rattle.pfs_event.specs.declared.entry.Entry.TheVariants as says
use Rattle.pfs_event.specs.declared.kind.EventKind.{EventKind}
use Rattle.pfs_journal.specs.declared.blocks.BlockReport.{BlockReport}
use Rattle.pfs_journal.specs.declared.report.PhaseParts.{PhaseParts}
use Rattle.pfs_law_brackets.proofs.LineTags.{Begins, Closes, Tag, asked, begins, close_tags, connect_tags, line_tags, tag, tags}
use Rattle.pfs_law_conservation.proofs.EntryWalk.{told_more}
use Rattle.pfs_model.specs.Contexts.{Context, after, after_entries, fresh, noted, subject_of, turned, with_opened}
use Rattle.pfs_model.specs.EntryPlaces.{AreShapedBehind, Block, Placed, after_lines, placed_lines, placed_part, places, places_behind, told_by}
use Rattle.pfs_model.specs.JournalCuts.{AreShaped}
use Rattle.pfs_model.specs.declared.lines.Line.{Line}
use Rattle.pfs_model.specs.declared.lines.Line.TheVariants as told
use Rattle.pfs_model.specs.declared.lines.Opened.{Opened}
use Rattle.pfs_model.specs.declared.lines.Subject.{Subject}
use Rattle.pfs_runs.specs.Runs.{AreBlocksOf, ArePhasesOf, all_blocks}
use Rattle.pfs_runs.specs.ScriptLines.{connect_lines, line_in, lines_in}
use Rattle.pfs_script.specs.Brackets.{ended_by}
use Rattle.pfs_script.specs.Marks.{mark_of, written_out}
use Rattle.pfs_script.specs.declared.blocks.Block.{Block as Said}
use Rattle.pfs_script.specs.declared.blocks.BlockLine.{BlockLine}
use Rattle.pfs_script.specs.declared.blocks.Connect.{Connect}
use Rattle.pfs_script.specs.declared.blocks.Phase.{Phase}
use Rattle.pfs_law_agreed.specs.AlignedEvents.{AlignedLaw, AreAligned, AreSameEvents, IsSameEvent, IsSameLine, events_in, is_event, starts_event}

-- two sessions stand alike
record Same (c d : Context) : Type 0 where
  opened : AreSameEvents c.opened d.opened
  begun : c.begun ≡ d.begun

kinds_same : (xs ys : List Opened) → AreSameEvents xs ys → map (λ (one : Opened). one.subject.kind) xs ≡ map (λ (one : Opened). one.subject.kind) ys
kinds_same [] [] s = refl
kinds_same [] (y ∷ ys) s = absurd s
kinds_same (x ∷ xs) [] s = absurd s
kinds_same (x ∷ xs) (y ∷ ys) s = ap (λ (z : Subject). z.kind ∷ map (λ (one : Opened). one.subject.kind) xs) s.0.subject ∙ ap (λ (z : List EventKind). y.subject.kind ∷ z) (kinds_same xs ys s.1)

drop_same : (xs ys : List Opened) → AreSameEvents xs ys → AreSameEvents (drop 1 xs) (drop 1 ys)
drop_same [] [] s = tt
drop_same [] (y ∷ ys) s = absurd s
drop_same (x ∷ xs) [] s = absurd s
drop_same (x ∷ xs) (y ∷ ys) s = s.1

opened_same : (what : Option Subject) (make other : Subject → Opened) (xs ys : List Opened) → ((s : Subject) → IsSameEvent (make s) (other s)) → AreSameEvents xs ys → AreSameEvents (with_opened what make xs) (with_opened what other ys)
opened_same None make other xs ys each s = s
opened_same (Some subject) make other xs ys each s = (each subject, s)

events_then : (xs ys : List Placed) → events_in (xs ++ ys) ≡ events_in xs ++ events_in ys
events_then [] ys = refl
events_then (x ∷ xs) ys = ap (λ z. cond (is_event x.entry) (x ∷ []) [] ++ z) (events_then xs ys) ∙ sym (append_assoc (cond (is_event x.entry) (x ∷ []) []) (events_in xs) (events_in ys))

aligned_then : (us bs xs ys : List Placed) → AreAligned us bs → AreAligned xs ys → AreAligned (us ++ xs) (bs ++ ys)
aligned_then [] [] xs ys a b = b
aligned_then [] (q ∷ qs) xs ys a b = absurd a
aligned_then (p ∷ ps) [] xs ys a b = absurd a
aligned_then (p ∷ ps) (q ∷ qs) xs ys a b = (a.0, aligned_then ps qs xs ys a.1 b)

both_then : (us bs xs ys : List Placed) → AreAligned (events_in us) (events_in bs) → AreAligned (events_in xs) (events_in ys) → AreAligned (events_in (us ++ xs)) (events_in (bs ++ ys))
both_then us bs xs ys a b =
    subst (λ z. AreAligned z (events_in (bs ++ ys))) (sym (events_then us xs)) (subst (λ z. AreAligned (events_in us ++ events_in xs) z) (sym (events_then bs ys)) (aligned_then (events_in us) (events_in bs) (events_in xs) (events_in ys) a b))

-- both start, or both end
starts_same : (t : Tag) (e f : Entry) → tag e ≡ t ∷ [] → tag f ≡ t ∷ [] → starts_event e ≡ starts_event f
starts_same t (says.Start n v c th cl ta) (says.Start n' v' c' th' cl' ta') p q = refl
starts_same t (says.End n l c th) (says.End n' l' c' th') p q = refl
starts_same t (says.Start n v c th cl ta) (says.End n' l' c' th') p q = absurd (let z : Begins ∷ [] ≡ Closes ∷ [] = p ∙ sym q in cc)
starts_same t (says.End n l c th) (says.Start n' v' c' th' cl' ta') p q = absurd (let z : Closes ∷ [] ≡ Begins ∷ [] = p ∙ sym q in cc)
starts_same t (says.Start n v c th cl ta) _ p q = absurd (cc)
starts_same t (says.End n l c th) _ p q = absurd (cc)
starts_same t _ f p q = absurd (cc)

module _ (phase session : ℕ) (line : Line) where
  abbrev part_of : Context → List Entry → List Placed
  part_of c part = placed_part phase session line c part

  abbrev at : Context → Entry → Placed
  at c e = record { phase = phase; session = session; line = line; context = c; entry = e }

  abbrev behind : Context → Entry → Context
  behind c e = noted (subject_of line) c e

  stepped : (t : Tag) (c d : Context) (e f : Entry) → tag e ≡ t ∷ [] → tag f ≡ t ∷ [] → Same c d → Same (behind c e) (behind d f)
  stepped t c d (says.Start n v co th cl ta) (says.Start n' v' co' th' cl' ta') p q s = record {
    opened = opened_same (subject_of line) (λ what. record { subject = what; verdict = v; index = c.begun; number = n; consumers = co; thread = th; class = cl; table = ta })
        (λ what. record { subject = what; verdict = v'; index = d.begun; number = n'; consumers = co'; thread = th'; class = cl'; table = ta' }) c.opened d.opened (λ what. record { index = s.begun; subject = refl }) s.opened;
    begun = ap (λ k. k + 1) s.begun;
  }
  stepped t c d (says.End n l co th) (says.End n' l' co' th') p q s = record { opened = drop_same c.opened d.opened s.opened; begun = s.begun }
  stepped t c d (says.Start n v co th cl ta) (says.End n' l' co' th') p q s = absurd (let z : Begins ∷ [] ≡ Closes ∷ [] = p ∙ sym q in cc)
  stepped t c d (says.End n l co th) (says.Start n' v' co' th' cl' ta') p q s = absurd (let z : Closes ∷ [] ≡ Begins ∷ [] = p ∙ sym q in cc)
  stepped t c d (says.Start n v co th cl ta) _ p q s = absurd (cc)
  stepped t c d (says.End n l co th) _ p q s = absurd (cc)
  stepped t c d _ f p q s = absurd (cc)

  -- the next event of a part, behind entries that start and end nothing
  record Next (c : Context) (part : List Entry) (t : Tag) (ts : List Tag) : Type 0 where
    d : Context
    entry : Entry
    rest : List Entry
    tag_is : tag entry ≡ t ∷ []
    event : is_event entry ≡ true
    tags_are : tags rest ≡ ts
    opened : d.opened ≡ c.opened
    begun : d.begun ≡ c.begun
    events : events_in (part_of c part) ≡ at d entry ∷ events_in (part_of (behind d entry) rest)
    ends : after_entries (subject_of line) c part ≡ after_entries (subject_of line) (behind d entry) rest

  next : (c : Context) (part : List Entry) (t : Tag) (ts : List Tag) → tags part ≡ t ∷ ts → Next c part t ts
  next c [] t ts e = absurd (cc)
  next c (says.Start n v co th cl ta ∷ es) t ts e = record { d = c; entry = says.Start n v co th cl ta; rest = es; tag_is = cc; event = refl; tags_are = cc; opened = refl; begun = refl; events = refl; ends = refl }
  next c (says.End n l co th ∷ es) t ts e = record { d = c; entry = says.End n l co th; rest = es; tag_is = cc; event = refl; tags_are = cc; opened = refl; begun = refl; events = refl; ends = refl }
  next c (x ∷ es) t ts e =
      let n = next (behind c x) es t ts e in
      record { d = n.d; entry = n.entry; rest = n.rest; tag_is = n.tag_is; event = n.event; tags_are = n.tags_are; opened = n.opened; begun = n.begun; events = n.events; ends = n.ends }

  record None_of (c : Context) (part : List Entry) : Type 0 where
    opened : (after_entries (subject_of line) c part).opened ≡ c.opened
    begun : (after_entries (subject_of line) c part).begun ≡ c.begun
    events : events_in (part_of c part) ≡ []

  none : (c : Context) (part : List Entry) → tags part ≡ [] → None_of c part
  none c [] e = record { opened = refl; begun = refl; events = refl }
  none c (says.Start n v co th cl ta ∷ es) e = absurd (cc)
  none c (says.End n l co th ∷ es) e = absurd (cc)
  none c (x ∷ es) e = let n = none (behind c x) es e in record { opened = n.opened; begun = n.begun; events = n.events }

  same_by : (c d c' d' : Context) → c'.opened ≡ c.opened → c'.begun ≡ c.begun → d'.opened ≡ d.opened → d'.begun ≡ d.begun → Same c d → Same c' d'
  same_by c d c' d' p q r t s = record { opened = subst (λ z. AreSameEvents z d'.opened) (sym p) (subst (AreSameEvents c.opened) (sym r) s.opened); begun = q ∙ (s.begun ∙ sym t) }

  -- two parts that start and end alike
  pair : (ts : List Tag) (c d : Context) (us bs : List Entry) → tags us ≡ ts → tags bs ≡ ts → Same c d
      → AreAligned (events_in (part_of c us)) (events_in (part_of d bs)) × Same (after_entries (subject_of line) c us) (after_entries (subject_of line) d bs)
  pair [] c d us bs p q s =
      let a = none c us p in
      let b = none d bs q in (
        subst (λ z. AreAligned z (events_in (part_of d bs))) (sym a.events) (subst (AreAligned []) (sym b.events) tt),
        same_by c d (after_entries (subject_of line) c us) (after_entries (subject_of line) d bs) a.opened a.begun b.opened b.begun s,
      )
  pair (t ∷ ts) c d us bs p q s =
      let a = next c us t ts p in
      let b = next d bs t ts q in
      let here : Same a.d b.d = same_by c d a.d b.d a.opened a.begun b.opened b.begun s in
      let rest = pair ts (behind a.d a.entry) (behind b.d b.entry) a.rest b.rest a.tags_are b.tags_are (stepped t a.d b.d a.entry b.entry a.tag_is b.tag_is here) in
      let one : IsSameLine (at a.d a.entry) (at b.d b.entry) =
      record { phase = refl; session = refl; line = refl; begun = here.begun; opened = here.opened; starts = starts_same t a.entry b.entry a.tag_is b.tag_is } in (
        subst (λ z. AreAligned z (events_in (part_of d bs))) (sym a.events) (subst (λ z. AreAligned (at a.d a.entry ∷ events_in (part_of (behind a.d a.entry) a.rest)) z) (sym b.events) (one, rest.0)),
        subst (λ (z : Context). Same z (after_entries (subject_of line) d bs)) (sym a.ends) (subst (λ (z : Context). Same (after_entries (subject_of line) (behind a.d a.entry) a.rest) z) (sym b.ends) rest.1),
      )

turned_same : (c d : Context) → Same c d → Same (turned c) (turned d)
turned_same c d s = record { opened = s.opened; begun = s.begun }

-- lines of a block
abbrev Pair : ℕ → ℕ → List Line → Context → Context → List (List Entry) → List (List Entry) → Type 0
Pair phase session ls c d us bs = AreAligned (events_in (placed_lines phase session c ls us)) (events_in (placed_lines phase session d ls bs)) × Same (after_lines c ls us) (after_lines d ls bs)

one_more : (phase session : ℕ) (line : Line) (ls : List Line) (c d : Context) (a b : List Entry) (us bs : List (List Entry)) → tags a ≡ tags b → Same c d → (Same (after c line a) (after d line b) → Pair phase session ls (after c line a) (after d line b) us bs)
    → Pair phase session (line ∷ ls) c d (a ∷ us) (b ∷ bs)
one_more phase session line ls c d a b us bs e s go =
    let first = pair phase session line (tags b) (turned c) (turned d) a b e refl (turned_same c d s) in
    let rest = go first.1 in
    (both_then (placed_part phase session line (turned c) a) (placed_part phase session line (turned d) b) (placed_lines phase session (after c line a) ls us) (placed_lines phase session (after d line b) ls bs) first.0 rest.0, rest.1)

body_pair : (phase session : ℕ) (now : List BlockLine) (c d : Context) (us bs : List (List Entry)) → AreShaped c (map line_in now ++ told.Close ∷ []) us → AreShaped d (map line_in now ++ told.Close ∷ []) bs → Same c d
    → Pair phase session (map line_in now ++ told.Close ∷ []) c d us bs
body_pair phase session [] c d [] bs p q s = absurd p
body_pair phase session [] c d (a ∷ us) [] p q s = absurd q
body_pair phase session [] c d (a ∷ []) (b ∷ []) p q s = one_more phase session told.Close [] c d a b [] [] (close_tags c a p.0 ∙ sym (close_tags d b q.0)) s (λ t. (tt, t))
body_pair phase session [] c d (a ∷ a' ∷ us) (b ∷ bs) p q s = absurd p.1
body_pair phase session [] c d (a ∷ []) (b ∷ b' ∷ bs) p q s = absurd q.1
body_pair phase session (l ∷ now) c d [] bs p q s = absurd p
body_pair phase session (l ∷ now) c d (a ∷ us) [] p q s = absurd q
body_pair phase session (l ∷ now) c d (a ∷ us) (b ∷ bs) p q s =
    one_more phase session (line_in l) (map line_in now ++ told.Close ∷ []) c d a b us bs
    (line_tags c l a p.0 ∙ (ap (λ (ks : List EventKind). asked (ended_by (mark_of l) ks) (begins (mark_of l))) (kinds_same c.opened d.opened s.opened) ∙ sym (line_tags d l b q.0))) s
    (λ t. body_pair phase session now (after c (line_in l) a) (after d (line_in l) b) us bs p.1 q.1 t)

block_pair : (phase session : ℕ) (connect : Option Connect) (now : List BlockLine) (c d : Context) (us bs : List (List Entry)) → AreShaped c (connect_lines connect ++ (map line_in now ++ told.Close ∷ [])) us
    → AreShaped d (connect_lines connect ++ (map line_in now ++ told.Close ∷ [])) bs → Same c d → Pair phase session (connect_lines connect ++ (map line_in now ++ told.Close ∷ [])) c d us bs
block_pair phase session None now c d us bs p q s = body_pair phase session now c d us bs p q s
block_pair phase session (Some names) now c d [] bs p q s = absurd p
block_pair phase session (Some names) now c d (a ∷ us) [] p q s = absurd q
block_pair phase session (Some names) now c d (a ∷ us) (b ∷ bs) p q s =
    one_more phase session told.Connect (map line_in now ++ told.Close ∷ []) c d a b us bs (connect_tags c a p.0 ∙ sym (connect_tags d b q.0)) s
    (λ t. body_pair phase session now (after c told.Connect a) (after d told.Connect b) us bs p.1 q.1 t)

-- the blocks of both runs are the script's
record IsTwin (a b : Block) : Type 0 where
  said : Said
  phase : a.phase ≡ b.phase
  session : a.session ≡ b.session
  lines : a.lines ≡ lines_in said
  others : b.lines ≡ lines_in said

abbrev AreTwins : List Block → List Block → Type 0
AreTwins [] [] = Unit {0}
AreTwins (a ∷ us) (b ∷ bs) = IsTwin a b × AreTwins us bs
AreTwins _ _ = ⊥

blocks_twins : (phase : ℕ) (saids : List Said) (rs qs : List BlockReport) (us bs xs ys : List Block) → AreBlocksOf phase saids rs us → AreBlocksOf phase saids qs bs → AreTwins xs ys → AreTwins (us ++ xs) (bs ++ ys)
blocks_twins phase [] [] [] [] [] xs ys p q t = t
blocks_twins phase (s ∷ ss) (r ∷ rs) (q ∷ qs) (a ∷ us) (b ∷ bs) xs ys p o t = (
  record { said = s; phase = p.0.phase_is ∙ sym o.0.phase_is; session = p.0.session ∙ sym o.0.session; lines = p.0.lines; others = o.0.lines },
  blocks_twins phase ss rs qs us bs xs ys p.1 o.1 t,
)
blocks_twins phase [] [] qs (a ∷ us) bs xs ys p q t = absurd p
blocks_twins phase [] (r ∷ rs) qs us bs xs ys p q t = absurd p
blocks_twins phase [] [] [] [] (b ∷ bs) xs ys p q t = absurd q
blocks_twins phase [] [] (z ∷ qs) [] bs xs ys p q t = absurd q
blocks_twins phase (s ∷ ss) [] qs us bs xs ys p q t = absurd p
blocks_twins phase (s ∷ ss) (r ∷ rs) qs [] bs xs ys p q t = absurd p
blocks_twins phase (s ∷ ss) (r ∷ rs) [] (a ∷ us) bs xs ys p q t = absurd q
blocks_twins phase (s ∷ ss) (r ∷ rs) (z ∷ qs) (a ∷ us) [] xs ys p q t = absurd q

phases_twins : (number : ℕ) (phases : List Phase) (rs qs : List PhaseParts) (us bs : List (List Block)) → ArePhasesOf number phases rs us → ArePhasesOf number phases qs bs → AreTwins (all_blocks us) (all_blocks bs)
phases_twins number [] [] [] [] [] p q = tt
phases_twins number (x ∷ xs) (r ∷ rs) (z ∷ qs) (a ∷ us) (b ∷ bs) p q = blocks_twins number x.blocks r.blocks z.blocks a b (all_blocks us) (all_blocks bs) p.1 q.1 (phases_twins (number + 1) xs rs qs us bs p.2 q.2)
phases_twins number [] [] qs (a ∷ us) bs p q = absurd p
phases_twins number [] (r ∷ rs) qs us bs p q = absurd p
phases_twins number [] [] [] [] (b ∷ bs) p q = absurd q
phases_twins number [] [] (z ∷ qs) [] bs p q = absurd q
phases_twins number (x ∷ xs) [] qs us bs p q = absurd p
phases_twins number (x ∷ xs) (r ∷ rs) qs [] bs p q = absurd p
phases_twins number (x ∷ xs) (r ∷ rs) [] (a ∷ us) bs p q = absurd q
phases_twins number (x ∷ xs) (r ∷ rs) (z ∷ qs) (a ∷ us) [] p q = absurd q

-- all blocks, one after another
abbrev Alike : List Block → List Block → Type 0
Alike earlier others = (session : ℕ) → Same (told_by session fresh earlier) (told_by session fresh others)

twin_pair : (earlier others : List Block) (a b : Block) → IsTwin a b → Alike earlier others → AreShaped (told_by a.session fresh earlier) a.lines a.parts → AreShaped (told_by b.session fresh others) b.lines b.parts
    → AreAligned (events_in (placed_lines a.phase a.session (told_by a.session fresh earlier) a.lines a.parts)) (events_in (placed_lines b.phase b.session (told_by b.session fresh others) b.lines b.parts))
    × Same (after_lines (told_by a.session fresh earlier) a.lines a.parts) (after_lines (told_by a.session fresh others) b.lines b.parts)
twin_pair earlier others a b t alike p q =
    let One : List Line → List Line → ℕ → ℕ → Type 0 = λ ls ms phase session. AreShaped (told_by a.session fresh earlier) ls a.parts → AreShaped (told_by session fresh others) ms b.parts
    → AreAligned (events_in (placed_lines a.phase a.session (told_by a.session fresh earlier) ls a.parts)) (events_in (placed_lines phase session (told_by session fresh others) ms b.parts))
    × Same (after_lines (told_by a.session fresh earlier) ls a.parts) (after_lines (told_by a.session fresh others) ms b.parts) in
    let here : One (lines_in t.said) (lines_in t.said) a.phase a.session = λ x y. block_pair a.phase a.session t.said.connect (written_out t.said.lines) (told_by a.session fresh earlier) (told_by a.session fresh others) a.parts b.parts x y (alike a.session) in
    subst (λ k. One a.lines b.lines b.phase k) t.session (subst (λ k. One a.lines b.lines k a.session) t.phase (subst (λ (z : List Line). One z b.lines a.phase a.session) (sym t.lines) (subst (λ (z : List Line). One (lines_in t.said) z a.phase a.session) (sym t.others) here))) p q

alike_next : (earlier others : List Block) (a b : Block) → a.session ≡ b.session → Alike earlier others → Same (after_lines (told_by a.session fresh earlier) a.lines a.parts) (after_lines (told_by a.session fresh others) b.lines b.parts)
    → Alike (earlier ++ a ∷ []) (others ++ b ∷ [])
alike_next earlier others a b e alike s = λ session. on session (a.session == session) refl where
  on : (session : ℕ) (x : Bool) → (a.session == session) ≡ x → Same (told_by session fresh (earlier ++ a ∷ [])) (told_by session fresh (others ++ b ∷ []))
  on session x q =
      let first : told_by session fresh (earlier ++ a ∷ []) ≡ cond x (after_lines (told_by session fresh earlier) a.lines a.parts) (told_by session fresh earlier) =
      told_more session fresh earlier a ∙ ap (λ z. cond z (after_lines (told_by session fresh earlier) a.lines a.parts) (told_by session fresh earlier)) q in
      let second : told_by session fresh (others ++ b ∷ []) ≡ cond x (after_lines (told_by session fresh others) b.lines b.parts) (told_by session fresh others) =
      told_more session fresh others b ∙ ap (λ z. cond z (after_lines (told_by session fresh others) b.lines b.parts) (told_by session fresh others)) (ap (λ k. k == session) (sym e) ∙ q) in
      subst (λ (z : Context). Same z (told_by session fresh (others ++ b ∷ []))) (sym first) (subst (λ (z : Context). Same (cond x (after_lines (told_by session fresh earlier) a.lines a.parts) (told_by session fresh earlier)) z) (sym second) (by x q)) where
        by : (x : Bool) → (a.session == session) ≡ x → Same (cond x (after_lines (told_by session fresh earlier) a.lines a.parts) (told_by session fresh earlier)) (cond x (after_lines (told_by session fresh others) b.lines b.parts) (told_by session fresh others))
        by true q = subst (λ k. Same (after_lines (told_by k fresh earlier) a.lines a.parts) (after_lines (told_by k fresh others) b.lines b.parts)) (eqb-true a.session session q) s
        by false q = alike session

all_pair : (earlier others : List Block) (low high : ℕ) (us bs : List Block) → AreTwins us bs → AreShapedBehind earlier low us → AreShapedBehind others high bs → Alike earlier others → AreAligned (events_in (places_behind earlier us)) (events_in (places_behind others bs))
unfolding places_behind
all_pair earlier others low high [] [] t p q alike = tt
all_pair earlier others low high [] (b ∷ bs) t p q alike = absurd t
all_pair earlier others low high (a ∷ us) [] t p q alike = absurd t
all_pair earlier others low high (a ∷ us) (b ∷ bs) t p q alike =
    let one = twin_pair earlier others a b t.0 alike p.1 q.1 in
    both_then (placed_lines a.phase a.session (told_by a.session fresh earlier) a.lines a.parts) (placed_lines b.phase b.session (told_by b.session fresh others) b.lines b.parts) (places_behind (earlier ++ a ∷ []) us) (places_behind (others ++ b ∷ []) bs) one.0
    (all_pair (earlier ++ a ∷ []) (others ++ b ∷ []) a.phase b.phase us bs t.1 p.2 q.2 (alike_next earlier others a b t.0.session alike one.1))

pub aligned : AlignedLaw
aligned setting phases report other run second =
    all_pair [] [] 0 0 (all_blocks run.blocks) (all_blocks second.blocks) (phases_twins 1 phases report.phases other.phases run.blocks second.blocks run.phases_are second.phases_are) run.rules.shaped second.rules.shaped
    (λ session. record { opened = tt; begun = refl })
