-- A line ends two events at most.
use Rattle.std.proofs.Common.{ℕ, ◌≡◌, ◌≤◌, ◌+◌, ◌*◌, Bool, true, false, cond, List, [], ◌∷◌, ◌++◌, Option, refl, subst, length, map, length-append, arith}
use Rattle.std.specs.Prelude.{Result, Ok, Err, if◌then◌else◌, filter}
use Rattle.pfs_event.specs.declared.entry.Entry.{Entry}
use Rattle.pfs_event.specs.declared.entry.Entry.TheVariants as says
use Rattle.pfs_event.specs.declared.kind.EventKind.{EventKind}
use Rattle.pfs_event.specs.declared.kind.EventKind.TheVariants as kinds
use Rattle.pfs_event.specs.Verdicts.{is_let_through}
use Rattle.pfs_model.specs.EntryAsks.{fits}
use Rattle.pfs_model.specs.Chains.{Each}
use Rattle.pfs_model.specs.Contexts.{Context, fresh, subject_of, noted, turned, after}
use Rattle.pfs_model.specs.Cuts.{behind, step, then_cut, cut}
use Rattle.pfs_model.specs.JournalCuts.{AreShaped}
use Rattle.pfs_model.specs.EntryPlaces.{Block, Placed, placed_part, placed_lines, told_by, places_behind, places, chosen, AreShapedBehind, IsShaped}
use Rattle.pfs_model.specs.Shapes.{shape, one, counting, ending, ending_first, ending_stage, ending_both, is_stage, added, settling, digest_of, puts, counted_slot}
use Rattle.pfs_model.specs.declared.lines.Line.{Line}
use Rattle.pfs_model.specs.declared.lines.Line.TheVariants as lines
use Rattle.pfs_model.specs.declared.lines.Opened.{Opened}
use Rattle.pfs_model.specs.declared.shapes.Ask.{Ask}
use Rattle.pfs_model.specs.declared.shapes.Ask.TheVariants as asks
use Rattle.pfs_model.specs.declared.shapes.Item.{Item}
use Rattle.pfs_model.specs.declared.shapes.Often.{Often}
use Rattle.pfs_model.specs.declared.shapes.Often.TheVariants.{One, Maybe, Many}
use Rattle.pfs_law_conservation.specs.RunEvents.{ended_first, ended_at, all_ended}

abbrev ends_one : Entry → ℕ
ends_one (says.End event last consumers thread) = 1
ends_one _ = 0

abbrev ends : List Entry → ℕ
ends [] = 0
ends (entry ∷ entries) = ends_one entry + ends entries

abbrev asks_one : Ask → ℕ
asks_one (asks.End through) = 1
asks_one _ = 0

fits_one : (ask : Ask) (entry : Entry) → fits ask entry ≡ true → ends_one entry ≤ asks_one ask
fits_one (asks.End through) (says.End event last consumers thread) f = omega arith
fits_one _ (says.End event last consumers thread) f = absurd (cc)
fits_one ask _ f = omega arith

-- how many ends a shape allows; none so often as it likes
abbrev allows : List Item → ℕ
allows [] = 0
allows (item ∷ items) = asks_one item.ask + allows items

abbrev IsTame : Often → Ask → Type 0
IsTame Many ask = asks_one ask ≡ 0
IsTame _ ask = Unit {0}

abbrev AreTame : List Item → Type 0
AreTame items = Each (λ (item : Item). IsTame item.often item.ask) items

none_behind : (ask : Ask) (part : List Entry) → asks_one ask ≡ 0 → ends part ≤ ends (behind ask part)
unfolding behind
none_behind ask [] z = omega arith
none_behind ask (e ∷ es) z = at (fits ask e) refl (none_behind ask es z) where
  at : (b : Bool) → fits ask e ≡ b → ends es ≤ ends (behind ask es) → ends (e ∷ es) ≤ ends (if b then behind ask es else e ∷ es)
  at true f h = let l = fits_one ask e f in omega (arith, l, h, z)
  at false f h = omega arith

step_ends : (often : Often) (ask : Ask) (part rest : List Entry) → IsTame often ask → step often ask part ≡ Ok rest
    → ends part ≤ asks_one ask + ends rest
step_ends One ask [] rest t s = absurd (cc)
step_ends One ask (e ∷ es) rest t s = at (fits ask e) refl s where
  at : (b : Bool) → fits ask e ≡ b → ◌≡◌ {A = Result (List Entry) (List Entry)} (if b then Ok es else Err (e ∷ es)) (Ok rest) → ends (e ∷ es) ≤ asks_one ask + ends rest
  at true f s = let same : es ≡ rest = cc in let l = fits_one ask e f in subst (λ z. ends (e ∷ es) ≤ asks_one ask + ends z) same (omega (arith, l))
  at false f s = absurd (cc)
step_ends Maybe ask [] rest t s = omega arith
step_ends Maybe ask (e ∷ es) rest t s = at (fits ask e) refl s where
  at : (b : Bool) → fits ask e ≡ b → ◌≡◌ {A = Result (List Entry) (List Entry)} (if b then Ok es else Ok (e ∷ es)) (Ok rest) → ends (e ∷ es) ≤ asks_one ask + ends rest
  at true f s = let same : es ≡ rest = cc in let l = fits_one ask e f in subst (λ z. ends (e ∷ es) ≤ asks_one ask + ends z) same (omega (arith, l))
  at false f s = let same : e ∷ es ≡ rest = cc in subst (λ z. ends (e ∷ es) ≤ asks_one ask + ends z) same (omega arith)
step_ends Many ask part rest t s =
    let same : behind ask part ≡ rest = cc in
    let l = none_behind ask part t in
    subst (λ z. ends part ≤ asks_one ask + ends z) same (omega (arith, l))

cut_ends : (items : List Item) (part rest : List Entry) → AreTame items → cut items part ≡ Ok rest
    → ends part ≤ allows items + ends rest
unfolding cut
cut_ends [] part rest t s = let same : part ≡ rest = cc in subst (λ z. ends part ≤ 0 + ends z) same (omega arith)
cut_ends (item ∷ items) part rest t s =
    at (step item.often item.ask part) refl s (λ more e. cut_ends items more rest t.1 e)
  where
    at : (r : Result (List Entry) (List Entry)) → step item.often item.ask part ≡ r → then_cut r (cut items) ≡ Ok rest
        → ((more : List Entry) → cut items more ≡ Ok rest → ends more ≤ allows items + ends rest)
        → ends part ≤ asks_one item.ask + allows items + ends rest
    at (Ok more) e s go =
        let l = step_ends item.often item.ask part more t.0 e in
        let m = go more s in
        omega (arith, l, m)
    at (Err more) e s go = absurd (cc)

-- shapes

record Has (most : ℕ) (items : List Item) : Type 0 where
  tame : AreTame items
  few : allows items ≤ most

tame_join : (xs ys : List Item) → AreTame xs → AreTame ys → AreTame (xs ++ ys)
tame_join [] ys a b = b
tame_join (x ∷ xs) ys a b = (a.0, tame_join xs ys a.1 b)

allows_join : (xs ys : List Item) → allows (xs ++ ys) ≡ allows xs + allows ys
allows_join [] ys = omega arith
allows_join (x ∷ xs) ys = omega (arith, allows_join xs ys)

join : (m n : ℕ) (xs ys : List Item) → Has m xs → Has n ys → Has (m + n) (xs ++ ys)
join m n xs ys a b = record { tame = tame_join xs ys a.tame b.tame; few = omega (arith, allows_join xs ys, a.few, b.few) }

has_added : (rows : List ℕ) → Has 0 (map added rows)
has_added [] = record { tame = tt; few = omega arith }
has_added (row ∷ rows) = let r = has_added rows in record { tame = (tt, r.tame); few = omega (arith, r.few) }

has_settling : (rows : List ℕ) → Has 0 (settling rows)
has_settling [] = record { tame = tt; few = omega arith }
has_settling (row ∷ rows) = let r = has_added rows in record { tame = (tt, (tt, r.tame)); few = omega (arith, r.few) }

has_counting : (slot : Option ℕ) (event : Opened) (b : Bool) → Has 0 (counting slot event b)
has_counting slot event false = record { tame = tt; few = omega arith }
has_counting slot event true = at event.subject.kind where
  at : (kind : EventKind) → Has 0 (one (asks.Summary (counted_slot slot event.verdict) event.subject.cell) ∷ (digest_of kind ++ puts))
  at kinds.Statement = record { tame = (tt, (tt, (tt, (tt, (tt, tt))))); few = omega arith }
  at kinds.Wait = record { tame = (tt, (tt, (tt, (tt, tt)))); few = omega arith }
  at kinds.Stage = record { tame = (tt, (tt, (tt, (tt, tt)))); few = omega arith }
  at kinds.Transaction = record { tame = (tt, (tt, (tt, (tt, tt)))); few = omega arith }

has_ending : (slot : Option ℕ) (event : Opened) → Has 1 (ending slot event)
has_ending slot event =
    let r = has_counting slot event (is_let_through event.verdict) in
    record { tame = (tt, r.tame); few = omega (arith, r.few) }

nothing : (most : ℕ) → Has most []
nothing most = record { tame = tt; few = omega arith }

either : (most : ℕ) (b : Bool) (xs : List Item) → Has most xs → Has most (if b then xs else [])
either most true xs h = h
either most false xs h = nothing most

has_first : (slot : Option ℕ) (events : List Opened) → Has 1 (ending_first slot events)
has_first slot [] = nothing 1
has_first slot (event ∷ events) = has_ending slot event

has_stage : (slot : Option ℕ) (events : List Opened) → Has 1 (ending_stage slot events)
has_stage slot [] = nothing 1
has_stage slot (event ∷ events) = either 1 (is_stage event.subject.kind) (ending slot event) (has_ending slot event)

has_both : (slot : Option ℕ) (events : List Opened) → Has 2 (ending_both slot events)
has_both slot [] = nothing 2
has_both slot (event ∷ events) =
    join 1 1 (ending slot event) _ (has_ending slot event)
    (either 1 (is_stage event.subject.kind) (ending_first slot events) (has_first slot events))

more : (m n : ℕ) (items : List Item) → m ≤ n → Has m items → Has n items
more m n items l h = record { tame = h.tame; few = omega (arith, l, h.few) }

has_shape : (context : Context) (line : Line) → Has 2 (shape context line)
has_shape context lines.Connect = record { tame = (tt, (refl, (refl, (refl, tt)))); few = omega arith }
has_shape context (lines.Start subject) = record { tame = (tt, (tt, tt)); few = omega arith }
has_shape context (lines.Stage subject) =
    join 1 1 (ending_stage context.slot context.opened) _ (has_stage context.slot context.opened)
    (record { tame = (tt, (tt, tt)); few = omega arith })
has_shape context lines.StageEnd = more 1 2 _ (omega arith) (has_stage context.slot context.opened)
has_shape context lines.End = has_both context.slot context.opened
has_shape context lines.Spend = nothing 2
has_shape context lines.Change =
    join 0 2 (settling context.held) _ (has_settling context.held)
    (record { tame = (tt, (refl, (refl, (refl, (tt, tt))))); few = omega arith })
has_shape context lines.Quit =
    join 0 2 (settling context.held) _ (has_settling context.held)
    (record { tame = (tt, (refl, (refl, (refl, tt)))); few = omega arith })
has_shape context lines.Show =
    join 0 2 (settling context.held) _ (has_settling context.held)
    (record { tame = (tt, (refl, (refl, (refl, (tt, tt))))); few = omega arith })
has_shape context lines.Query = record { tame = (tt, (refl, (tt, tt))); few = omega arith }
has_shape context (lines.Refused error) = record { tame = (tt, tt); few = omega arith }
has_shape context lines.Close = more 0 2 _ (omega arith) (has_settling context.held)

-- entries

ended_few : (place : Placed) (entry : Entry) → length (ended_at place entry) ≤ ends_one entry
ended_few place (says.End event last consumers thread) = at place.context.opened where
  at : (events : List Opened) → length (ended_first place events) ≤ 1
  at [] = omega arith
  at (event ∷ events) = omega arith
ended_few place _ = omega arith

ended_join : (xs ys : List Placed) → length (all_ended (xs ++ ys)) ≡ length (all_ended xs) + length (all_ended ys)
ended_join [] ys = omega arith
ended_join (x ∷ xs) ys =
    omega (arith, ended_join xs ys, length-append (ended_at x x.entry) (all_ended (xs ++ ys)), length-append (ended_at x x.entry) (all_ended xs))

part_few : (phase session : ℕ) (line : Line) (context : Context) (part : List Entry)
    → length (all_ended (placed_part phase session line context part)) ≤ ends part
part_few phase session line context [] = omega arith
part_few phase session line context (e ∷ es) =
    let place : Placed = record { phase = phase; session = session; line = line; context = context; entry = e } in
    let others : List Placed = placed_part phase session line (noted (subject_of line) context e) es in
    let l = ended_few place e in
    let m = part_few phase session line (noted (subject_of line) context e) es in
    let j = length-append (ended_at place e) (all_ended others) in
    omega (arith, l, m, j)

lines_few : (phase session : ℕ) (context : Context) (ls : List Line) (parts : List (List Entry)) → AreShaped context ls parts
    → length (all_ended (placed_lines phase session context ls parts)) ≤ 2 * length ls
lines_few phase session context [] parts s = omega arith
lines_few phase session context (line ∷ ls) [] s = absurd s
lines_few phase session context (line ∷ ls) (part ∷ parts) s =
    let h = has_shape context line in
    let c = cut_ends (shape context line) part [] h.tame s.0 in
    let p = part_few phase session line (turned context) part in
    let r = lines_few phase session (after context line part) ls parts s.1 in
    let j = ended_join (placed_part phase session line (turned context) part) (placed_lines phase session (after context line part) ls parts) in
    let f = h.few in
    omega (arith, c, p, r, j, f)

-- how many lines blocks have
abbrev pub lines_told : List Block → ℕ
lines_told [] = 0
lines_told (block ∷ blocks) = length block.lines + lines_told blocks

blocks_few : (earlier blocks : List Block) (low : ℕ) → AreShapedBehind earlier low blocks
    → length (all_ended (places_behind earlier blocks)) ≤ 2 * lines_told blocks
unfolding places_behind
blocks_few earlier [] low s = omega arith
blocks_few earlier (b ∷ blocks) low s =
    let l = lines_few b.phase b.session (told_by b.session fresh earlier) b.lines b.parts s.1 in
    let r = blocks_few (earlier ++ b ∷ []) blocks b.phase s.2 in
    let j = ended_join (placed_lines b.phase b.session (told_by b.session fresh earlier) b.lines b.parts) (places_behind (earlier ++ b ∷ []) blocks) in
    omega (arith, l, r, j)

pub all_few : (blocks : List Block) → IsShaped blocks → length (all_ended (places blocks)) ≤ 2 * lines_told blocks
all_few blocks s = blocks_few [] blocks 0 s

pub chosen_few : (test : Placed → Bool) (ps : List Placed) → length (all_ended (chosen test ps)) ≤ length (all_ended ps)
chosen_few test [] = omega arith
chosen_few test (p ∷ ps) = at (test p) (chosen_few test ps) where
  at : (b : Bool) → length (all_ended (chosen test ps)) ≤ length (all_ended ps)
      → length (all_ended (cond b (p ∷ []) [] ++ chosen test ps)) ≤ length (all_ended (p ∷ ps))
  at true h = omega (arith, h, length-append (ended_at p p.entry) (all_ended (chosen test ps)), length-append (ended_at p p.entry) (all_ended ps))
  at false h = omega (arith, h, length-append (ended_at p p.entry) (all_ended ps))

pub kept_few : {A : Type 0} (test : A → Bool) (xs : List A) → length (filter test xs) ≤ length xs
kept_few test [] = omega arith
kept_few test (x ∷ xs) = at (test x) (kept_few test xs) where
  at : (b : Bool) → length (filter test xs) ≤ length xs → length (cond b (x ∷ filter test xs) (filter test xs)) ≤ length (x ∷ xs)
  at true h = omega (arith, h)
  at false h = omega (arith, h)
