-- The entries of a first phase of connects alone.
use Rattle.std.proofs.Common.{ℕ, zero, suc, ◌≡◌, ◌+◌, ◌-◌, ◌<◌, ◌≤◌, ◌==◌, ◌||◌, nat_le, Bool, true, false, cond, List, [], ◌∷◌, ◌++◌, length, map, Option, Some, None, refl, ap, sym, ◌∙◌, subst, arith, append_assoc}
use Rattle.std.specs.Prelude.{Result, Ok, Err, if◌then◌else◌, is_some}
use Rattle.std.proofs.lemmas.Bool.{eqb-true}
use Rattle.pfs_event.specs.declared.entry.Entry.{Entry}
use Rattle.pfs_event.specs.declared.entry.Entry.TheVariants as says
use Rattle.pfs_journal.specs.declared.blocks.BlockReport.{BlockReport}
use Rattle.pfs_journal.specs.declared.report.PhaseParts.{PhaseParts}
use Rattle.pfs_law_conservation.proofs.EntryWalk.{told_more}
use Rattle.pfs_law_conservation.proofs.PhaseEntries.{blocks_to as front_blocks}
use Rattle.pfs_model.proofs.EachLists.{each_behind, each_front, each_join}
use Rattle.pfs_model.specs.Chains.{Each, action_change, each_of, times}
use Rattle.pfs_model.specs.Contexts.{Context, after, after_entries, fresh, noted, subject_of, turned}
use Rattle.pfs_model.specs.Cuts.{cut, then_cut}
use Rattle.pfs_model.specs.EntryAsks.{fits, is_connect}
use Rattle.pfs_model.specs.EntryPlaces.{AreShapedBehind, Block, Placed, after_lines, placed_lines, placed_part, places_behind, told_by}
use Rattle.pfs_model.specs.JournalCuts.{AreShaped}
use Rattle.pfs_model.specs.Shapes.{added, changes, settling, shape}
use Rattle.pfs_model.specs.declared.changes.Change.{Change}
use Rattle.pfs_model.specs.declared.lines.Line.{Line}
use Rattle.pfs_model.specs.declared.lines.Line.TheVariants as told
use Rattle.pfs_model.specs.declared.shapes.Ask.{Ask}
use Rattle.pfs_model.specs.declared.shapes.Ask.TheVariants as asks
use Rattle.pfs_model.specs.declared.shapes.Item.{Item}
use Rattle.pfs_runs.specs.Runs.{AreBlocksOf, ArePhasesOf, all_blocks}
use Rattle.pfs_runs.specs.ScriptLines.{connect_lines, line_in, lines_in}
use Rattle.pfs_script.specs.Marks.{written_out}
use Rattle.pfs_script.specs.declared.blocks.Block.{Block as Said}
use Rattle.pfs_script.specs.declared.blocks.BlockLine.{BlockLine}
use Rattle.pfs_script.specs.declared.blocks.Connect.{Connect}
use Rattle.pfs_script.specs.declared.blocks.Phase.{Phase}
use Rattle.pfs_law_agreed.specs.FirstPhases.{connects_of}
use Rattle.pfs_law_agreed.proofs.StartFits.{each_cut}

-- ---- what the lines allow

abbrev pub is_first : Entry → Bool
is_first (says.Start number verdict consumers thread class table) = false
is_first (says.End number last consumers thread) = false
is_first (says.Act action) = false
is_first _ = true

-- an entry behind a connect, or of a block's end
abbrev pub IsBehind : Entry → Type 0
IsBehind entry = (is_first entry ≡ true) × (is_connect entry ≡ false)

abbrev asks_behind : Ask → Bool
asks_behind asks.Move = true
asks_behind asks.Sign = true
asks_behind asks.Set = true
asks_behind asks.Settle = true
asks_behind (asks.Added row) = true
asks_behind _ = false

behind_fits : (ask : Ask) (entry : Entry) → fits ask entry ≡ true → asks_behind ask ≡ true → IsBehind entry
behind_fits asks.Connect entry f q = absurd (cc)
behind_fits (asks.Start some lost table) entry f q = absurd (cc)
behind_fits (asks.End through) entry f q = absurd (cc)
behind_fits (asks.Summary slot cell) entry f q = absurd (cc)
behind_fits asks.Digest entry f q = absurd (cc)
behind_fits asks.Put entry f q = absurd (cc)
behind_fits asks.LongPut entry f q = absurd (cc)
behind_fits asks.Act entry f q = absurd (cc)
behind_fits asks.Answer entry f q = absurd (cc)
behind_fits asks.Error entry f q = absurd (cc)
behind_fits asks.Query entry f q = absurd (cc)
behind_fits asks.Reading entry f q = absurd (cc)
behind_fits asks.Rows entry f q = absurd (cc)
behind_fits ask (says.Start n v co th cl ta) f q = absurd (cc)
behind_fits ask (says.End n l co th) f q = absurd (cc)
behind_fits ask (says.Act action) f q = absurd (cc)
behind_fits ask (says.Connect action th ac us ho) f q = absurd (cc)
behind_fits ask _ f q = (refl, refl)

abbrev AllBehind : List Item → Type 0
AllBehind items = Each (λ (item : Item). asks_behind item.ask ≡ true) items

added_behind : (rows : List ℕ) → AllBehind (map added rows)
added_behind [] = tt
added_behind (row ∷ rows) = (refl, added_behind rows)

settling_behind : (rows : List ℕ) → AllBehind (settling rows)
settling_behind [] = tt
settling_behind (row ∷ rows) = (refl, (refl, added_behind rows))

close_part : (c : Context) (part : List Entry) → cut (shape c told.Close) part ≡ Ok [] → Each IsBehind part
close_part c part s = each_cut (λ ask. asks_behind ask ≡ true) IsBehind behind_fits (settling c.held) part [] (settling_behind c.held) s tt

record IsConnectPart (part : List Entry) : Type 0 where
  entry : Entry
  rest : List Entry
  is : part ≡ entry ∷ rest
  connects : is_connect entry ≡ true
  behind : Each IsBehind rest

connect_part : (c : Context) (part : List Entry) → cut (shape c told.Connect) part ≡ Ok [] → IsConnectPart part
unfolding cut
connect_part c [] s = absurd (cc)
connect_part c (e ∷ es) s = at (fits asks.Connect e) refl s where
  at : (b : Bool) → fits asks.Connect e ≡ b → then_cut (if b then Ok es else Err (e ∷ es)) (cut changes) ≡ Ok [] → IsConnectPart (e ∷ es)
  at true f s = record { entry = e; rest = es; is = refl; connects = f; behind = each_cut (λ ask. asks_behind ask ≡ true) IsBehind behind_fits changes es [] (refl, (refl, (refl, tt))) s tt }
  at false f s = absurd (cc)

-- ---- of placed entries

-- an entry of the phase: a connect is its line's
abbrev pub IsFirstPlace : Placed → Type 0
IsFirstPlace p = (is_first p.entry ≡ true) × (is_connect p.entry ≡ true → p.line ≡ told.Connect)

connect_first : (e : Entry) → is_connect e ≡ true → is_first e ≡ true
connect_first (says.Connect action th ac us ho) q = refl
connect_first _ q = absurd (cc)

module _ (phase session : ℕ) where
  behind_places : (line : Line) (c : Context) (part : List Entry) → Each IsBehind part → Each IsFirstPlace (placed_part phase session line c part)
  behind_places line c [] h = tt
  behind_places line c (e ∷ es) h = ((h.0.0, λ q. absurd (let z : true ≡ false = sym q ∙ h.0.1 in cc)), behind_places line (noted (subject_of line) c e) es h.1)

  connect_places : (c : Context) (part : List Entry) → IsConnectPart part → Each IsFirstPlace (placed_part phase session told.Connect c part)
  connect_places c part h = subst (λ es. Each IsFirstPlace (placed_part phase session told.Connect c es)) (sym h.is) ((connect_first h.entry h.connects, λ q. refl), behind_places told.Connect (noted None c h.entry) h.rest h.behind)

-- ---- the actions

none_action : (e : Entry) → IsBehind e → action_change e ≡ []
none_action (says.Act action) h = absurd (let z = h.0 in cc)
none_action (says.Connect action th ac us ho) h = absurd (let z = h.1 in cc)
none_action _ h = refl

one_action : (e : Entry) → is_connect e ≡ true → length (action_change e) ≡ 1
one_action (says.Connect action th ac us ho) q = refl
one_action _ q = absurd (cc)

actions_then : (xs ys : List Placed) → length (each_of action_change (xs ++ ys)) ≡ length (each_of action_change xs) + length (each_of action_change ys)
actions_then [] ys = omega arith
actions_then (x ∷ xs) ys = more (action_change x.entry) (actions_then xs ys) where
  more : (zs : List Change) → length (each_of action_change (xs ++ ys)) ≡ length (each_of action_change xs) + length (each_of action_change ys) → length (zs ++ each_of action_change (xs ++ ys)) ≡ length (zs ++ each_of action_change xs) + length (each_of action_change ys)
  more [] h = h
  more (z ∷ zs) h = let k : length (zs ++ each_of action_change (xs ++ ys)) ≡ length (zs ++ each_of action_change xs) + length (each_of action_change ys) = more zs h in omega (arith, k)

behind_actions : (phase session : ℕ) (line : Line) (c : Context) (part : List Entry) → Each IsBehind part → length (each_of action_change (placed_part phase session line c part)) ≡ 0
behind_actions phase session line c [] h = refl
behind_actions phase session line c (e ∷ es) h = ap (λ (zs : List Change). length (zs ++ each_of action_change (placed_part phase session line (noted (subject_of line) c e) es))) (none_action e h.0) ∙ behind_actions phase session line (noted (subject_of line) c e) es h.1

connect_actions : (phase session : ℕ) (c : Context) (part : List Entry) → IsConnectPart part → length (each_of action_change (placed_part phase session told.Connect c part)) ≡ 1
connect_actions phase session c part h =
    ap (λ es. length (each_of action_change (placed_part phase session told.Connect c es))) h.is
    ∙ (then_length (action_change h.entry) (each_of action_change (placed_part phase session told.Connect (noted None c h.entry) h.rest))
    ∙ sum (length (action_change h.entry)) (length (each_of action_change (placed_part phase session told.Connect (noted None c h.entry) h.rest))) (one_action h.entry h.connects) (behind_actions phase session told.Connect (noted None c h.entry) h.rest h.behind)) where
      then_length : (xs ys : List Change) → length (xs ++ ys) ≡ length xs + length ys
      then_length [] ys = omega arith
      then_length (x ∷ xs) ys = let k : length (xs ++ ys) ≡ length xs + length ys = then_length xs ys in omega (arith, k)

      sum : (a b : ℕ) → a ≡ 1 → b ≡ 0 → a + b ≡ 1
      sum a b p q = omega (arith, p, q)

-- ---- what a session has

-- a session that has all its places, or none, and nothing open
pub record IsHome (seated : Bool) (c : Context) : Type 0 where
  pub slot : is_some c.slot ≡ seated
  pub account : is_some c.account ≡ seated
  pub user : is_some c.user ≡ seated
  pub host : is_some c.host ≡ seated
  pub opened : c.opened ≡ []

-- a connect that found room for all, at the slot that is one below its action's number
abbrev pub IsSeat : Entry → Type 0
IsSeat (says.Connect action thread account user host) = (thread ≡ Some (action - 1)) × (is_some account ≡ true) × (is_some user ≡ true) × (is_some host ≡ true)
IsSeat entry = Unit {0}

abbrev pub IsSeatAt : Placed → Type 0
IsSeatAt p = IsSeat p.entry

turned_home : (x : Bool) (c : Context) → IsHome x c → IsHome x (turned c)
turned_home x c h = record { slot = h.slot; account = h.account; user = h.user; host = h.host; opened = h.opened }

behind_noted : (what : Line) (x : Bool) (c : Context) (e : Entry) → IsBehind e → IsHome x c → IsHome x (noted (subject_of what) c e)
behind_noted what x c (says.Start n v co th cl ta) b h = absurd (let z = b.0 in cc)
behind_noted what x c (says.End n l co th) b h = absurd (let z = b.0 in cc)
behind_noted what x c (says.Connect action th ac us ho) b h = absurd (let z = b.1 in cc)
behind_noted what x c _ b h = record { slot = h.slot; account = h.account; user = h.user; host = h.host; opened = h.opened }

behind_home : (what : Line) (x : Bool) (c : Context) (part : List Entry) → Each IsBehind part → IsHome x c → IsHome x (after_entries (subject_of what) c part)
behind_home what x c [] b h = h
behind_home what x c (e ∷ es) b h = behind_home what x (noted (subject_of what) c e) es b.1 (behind_noted what x c e b.0 h)

connect_noted : (x : Bool) (c : Context) (e : Entry) → is_connect e ≡ true → IsSeat e → IsHome x c → IsHome true (noted None c e)
connect_noted x c (says.Connect action thread account user host) q s h = record { slot = ap (λ (o : Option ℕ). is_some o) s.0; account = s.1; user = s.2; host = s.3; opened = h.opened }
connect_noted x c _ q s h = absurd (cc)

connect_home : (phase session : ℕ) (x : Bool) (c : Context) (part : List Entry) → IsConnectPart part → Each IsSeatAt (placed_part phase session told.Connect c part) → IsHome x c → IsHome true (after_entries None c part)
connect_home phase session x c part p s h =
    subst (λ es. IsHome true (after_entries None c es)) (sym p.is)
    (behind_home told.Connect true (noted None c p.entry) p.rest p.behind (connect_noted x c p.entry p.connects (subst (λ es. Each IsSeatAt (placed_part phase session told.Connect c es)) p.is s).0 h))

-- ---- a block

-- what a block of the phase gives
record IsGiven (phase session : ℕ) (connect : Option Connect) (c : Context) (lines : List Line) (parts : List (List Entry)) : Type 0 where
  first : Each IsFirstPlace (placed_lines phase session c lines parts)
  actions : length (each_of action_change (placed_lines phase session c lines parts)) ≤ cond (is_some connect) 1 0
  home : (x : Bool) → Each IsSeatAt (placed_lines phase session c lines parts) → IsHome x c → IsHome (is_some connect || x) (after_lines c lines parts)

placed_end : (phase session : ℕ) (line : Line) (c d : Context) (part : List Entry) → placed_part phase session line c part ++ placed_lines phase session d [] [] ≡ placed_part phase session line c part
placed_end phase session line c d [] = refl
placed_end phase session line c d (e ∷ es) = ap (λ (z : List Placed). record { phase = phase; session = session; line = line; context = c; entry = e } ∷ z) (placed_end phase session line (noted (subject_of line) c e) d es)

close_given : (phase session : ℕ) (c : Context) (parts : List (List Entry)) → AreShaped c (told.Close ∷ []) parts → IsGiven phase session None c (told.Close ∷ []) parts
close_given phase session c [] s = absurd s
close_given phase session c (part ∷ p ∷ parts) s = absurd s.1
close_given phase session c (part ∷ []) s =
    let b : Each IsBehind part = close_part c part s.0 in
    let e : placed_part phase session told.Close (turned c) part ++ placed_lines phase session (after c told.Close part) [] [] ≡ placed_part phase session told.Close (turned c) part = placed_end phase session told.Close (turned c) (after c told.Close part) part in
    let n : length (each_of action_change (placed_part phase session told.Close (turned c) part)) ≡ 0 = behind_actions phase session told.Close (turned c) part b in
    record {
      first = subst (Each IsFirstPlace) (sym e) (behind_places phase session told.Close (turned c) part b);
      actions = subst (λ ps. length (each_of action_change ps) ≤ 0) (sym e) (omega (arith, n));
      home = λ x seats h. behind_home told.Close x (turned c) part b (turned_home x c h);
    }

connect_given : (phase session : ℕ) (names : Connect) (c : Context) (parts : List (List Entry)) → AreShaped c (told.Connect ∷ told.Close ∷ []) parts → IsGiven phase session (Some names) c (told.Connect ∷ told.Close ∷ []) parts
connect_given phase session names c [] s = absurd s
connect_given phase session names c (part ∷ parts) s =
    let p : IsConnectPart part = connect_part c part s.0 in
    let rest : IsGiven phase session None (after c told.Connect part) (told.Close ∷ []) parts = close_given phase session (after c told.Connect part) parts s.1 in
    let n : length (each_of action_change (placed_part phase session told.Connect (turned c) part)) ≡ 1 = connect_actions phase session (turned c) part p in
    let m : length (each_of action_change (placed_lines phase session (after c told.Connect part) (told.Close ∷ []) parts)) ≤ 0 = rest.actions in
    let t : length (each_of action_change (placed_part phase session told.Connect (turned c) part ++ placed_lines phase session (after c told.Connect part) (told.Close ∷ []) parts))
    ≡ length (each_of action_change (placed_part phase session told.Connect (turned c) part)) + length (each_of action_change (placed_lines phase session (after c told.Connect part) (told.Close ∷ []) parts)) =
    actions_then (placed_part phase session told.Connect (turned c) part) (placed_lines phase session (after c told.Connect part) (told.Close ∷ []) parts) in
    record {
      first = each_join IsFirstPlace (placed_part phase session told.Connect (turned c) part) (placed_lines phase session (after c told.Connect part) (told.Close ∷ []) parts) (connect_places phase session (turned c) part p) rest.first;
      actions = omega (arith, n, m, t);
      home = λ x seats h. rest.home true (each_behind IsSeatAt (placed_part phase session told.Connect (turned c) part) (placed_lines phase session (after c told.Connect part) (told.Close ∷ []) parts) seats)
          (connect_home phase session x (turned c) part p (each_front IsSeatAt (placed_part phase session told.Connect (turned c) part) (placed_lines phase session (after c told.Connect part) (told.Close ∷ []) parts) seats) (turned_home x c h));
    }

block_given : (phase session : ℕ) (connect : Option Connect) (c : Context) (parts : List (List Entry)) → AreShaped c (connect_lines connect ++ told.Close ∷ []) parts → IsGiven phase session connect c (connect_lines connect ++ told.Close ∷ []) parts
block_given phase session None c parts s = close_given phase session c parts s
block_given phase session (Some names) c parts s = connect_given phase session names c parts s

-- ---- the blocks of the phase

abbrev pub ArePlainBlocks : List Said → List Block → Type 0
ArePlainBlocks [] [] = Unit {0}
ArePlainBlocks (said ∷ saids) (block ∷ blocks) = (block.session ≡ said.session) × (block.lines ≡ connect_lines said.connect ++ told.Close ∷ []) × (block.phase ≡ 1) × ArePlainBlocks saids blocks
ArePlainBlocks _ _ = ⊥

pub plain_blocks : (saids : List Said) (reports : List BlockReport) (blocks : List Block) → AreBlocksOf 1 saids reports blocks → Each (λ (block : Said). written_out block.lines ≡ []) saids → ArePlainBlocks saids blocks
plain_blocks [] [] [] are none = tt
plain_blocks [] [] (b ∷ bs) are none = absurd are
plain_blocks [] (r ∷ rs) blocks are none = absurd are
plain_blocks (s ∷ ss) [] blocks are none = absurd are
plain_blocks (s ∷ ss) (r ∷ rs) [] are none = absurd are
plain_blocks (s ∷ ss) (r ∷ rs) (b ∷ bs) are none =
    (are.0.session, are.0.lines ∙ ap (λ (ls : List BlockLine). connect_lines s.connect ++ (map line_in ls ++ told.Close ∷ [])) none.0, are.0.phase_is, plain_blocks ss rs bs are.1 none.1)

-- whether a session connects in these
abbrev pub seated_by : ℕ → List Said → Bool → Bool
seated_by session [] x = x
seated_by session (said ∷ saids) x = seated_by session saids (cond (said.session == session) (is_some said.connect || x) x)

given_of : (said : Said) (b : Block) (c : Context) → b.lines ≡ connect_lines said.connect ++ told.Close ∷ [] → AreShaped c b.lines b.parts → IsGiven b.phase b.session said.connect c b.lines b.parts
given_of said b c e s =
    subst (λ (ls : List Line). IsGiven b.phase b.session said.connect c ls b.parts) (sym e) (block_given b.phase b.session said.connect c b.parts (subst (λ (ls : List Line). AreShaped c ls b.parts) e s))

pub first_places : (earlier : List Block) (low : ℕ) (saids : List Said) (blocks : List Block) → ArePlainBlocks saids blocks → AreShapedBehind earlier low blocks → Each IsFirstPlace (places_behind earlier blocks)
unfolding places_behind
first_places earlier low [] [] p s = tt
first_places earlier low [] (b ∷ bs) p s = absurd p
first_places earlier low (x ∷ xs) [] p s = absurd p
first_places earlier low (x ∷ xs) (b ∷ bs) p s =
    each_join IsFirstPlace (placed_lines b.phase b.session (told_by b.session fresh earlier) b.lines b.parts) (places_behind (earlier ++ b ∷ []) bs)
    (given_of x b (told_by b.session fresh earlier) p.1 s.1).first (first_places (earlier ++ b ∷ []) b.phase xs bs p.3 s.2)

pub few_actions : (earlier : List Block) (low : ℕ) (saids : List Said) (blocks : List Block) → ArePlainBlocks saids blocks → AreShapedBehind earlier low blocks → length (each_of action_change (places_behind earlier blocks)) ≤ connects_of saids
unfolding places_behind
few_actions earlier low [] [] p s = omega arith
few_actions earlier low [] (b ∷ bs) p s = absurd p
few_actions earlier low (x ∷ xs) [] p s = absurd p
few_actions earlier low (x ∷ xs) (b ∷ bs) p s =
    let one : length (each_of action_change (placed_lines b.phase b.session (told_by b.session fresh earlier) b.lines b.parts)) ≤ cond (is_some x.connect) 1 0 = (given_of x b (told_by b.session fresh earlier) p.1 s.1).actions in
    let rest : length (each_of action_change (places_behind (earlier ++ b ∷ []) bs)) ≤ connects_of xs = few_actions (earlier ++ b ∷ []) b.phase xs bs p.3 s.2 in
    let both : length (each_of action_change (placed_lines b.phase b.session (told_by b.session fresh earlier) b.lines b.parts ++ places_behind (earlier ++ b ∷ []) bs))
    ≡ length (each_of action_change (placed_lines b.phase b.session (told_by b.session fresh earlier) b.lines b.parts)) + length (each_of action_change (places_behind (earlier ++ b ∷ []) bs)) =
    actions_then (placed_lines b.phase b.session (told_by b.session fresh earlier) b.lines b.parts) (places_behind (earlier ++ b ∷ []) bs) in
    omega (arith, one, rest, both)

-- what a session's blocks there tell
pub homes_told : (session : ℕ) (earlier : List Block) (low : ℕ) (saids : List Said) (blocks : List Block) (x : Bool) → ArePlainBlocks saids blocks → AreShapedBehind earlier low blocks → Each IsSeatAt (places_behind earlier blocks) → IsHome x (told_by session fresh earlier)
    → IsHome (seated_by session saids x) (told_by session (told_by session fresh earlier) blocks)
unfolding places_behind
homes_told session earlier low [] [] x p s seats h = h
homes_told session earlier low [] (b ∷ bs) x p s seats h = absurd p
homes_told session earlier low (y ∷ ys) [] x p s seats h = absurd p
homes_told session earlier low (y ∷ ys) (b ∷ bs) x p s seats h =
    on (b.session == session) refl (λ z k. homes_told session (earlier ++ b ∷ []) b.phase ys bs z p.3 s.2 (each_behind IsSeatAt (placed_lines b.phase b.session (told_by b.session fresh earlier) b.lines b.parts) (places_behind (earlier ++ b ∷ []) bs) seats) k) where
      now : Context
      now = told_by session fresh earlier

      next : Context
      next = after_lines (told_by session fresh earlier) b.lines b.parts

      by : (c : Bool) → (b.session == session) ≡ c → IsHome (cond c (is_some y.connect || x) x) (cond c (after_lines (told_by session fresh earlier) b.lines b.parts) (told_by session fresh earlier))
      by true e =
          let same : b.session ≡ session = eqb-true b.session session e in
          subst (λ n. IsHome (is_some y.connect || x) (after_lines (told_by n fresh earlier) b.lines b.parts)) same
          ((given_of y b (told_by b.session fresh earlier) p.1 s.1).home x (each_front IsSeatAt (placed_lines b.phase b.session (told_by b.session fresh earlier) b.lines b.parts) (places_behind (earlier ++ b ∷ []) bs) seats)
          (subst (λ n. IsHome x (told_by n fresh earlier)) (sym same) h))
      by false e = h

      on : (c : Bool) → (b.session == session) ≡ c
          → ((z : Bool) → IsHome z (told_by session fresh (earlier ++ b ∷ [])) → IsHome (seated_by session ys z) (told_by session (told_by session fresh (earlier ++ b ∷ [])) bs))
          → IsHome (seated_by session ys (cond (y.session == session) (is_some y.connect || x) x)) (told_by session (cond (b.session == session) (after_lines (told_by session fresh earlier) b.lines b.parts) (told_by session fresh earlier)) bs)
      on c e go =
          subst (λ z. IsHome (seated_by session ys (cond z (is_some y.connect || x) x)) (told_by session (cond (b.session == session) next now) bs)) (sym (ap (λ n. n == session) (sym p.0) ∙ e))
          (subst (λ (k : Context). IsHome (seated_by session ys (cond c (is_some y.connect || x) x)) (told_by session k bs)) (told_more session fresh earlier b)
          (go (cond c (is_some y.connect || x) x) (subst (IsHome (cond c (is_some y.connect || x) x)) (sym (told_more session fresh earlier b ∙ ap (λ z. cond z next now) e)) (by c e))))

-- ---- the phase's blocks are the first ones

later_phases : (number : ℕ) (phases : List Phase) (reports : List PhaseParts) (blocks : List (List Block)) → ArePhasesOf number phases reports blocks → Each (λ (b : Block). number ≤ b.phase) (all_blocks blocks)
later_phases number [] [] [] are = tt
later_phases number [] [] (b ∷ bs) are = absurd are
later_phases number [] (r ∷ rs) blocks are = absurd are
later_phases number (p ∷ ps) [] blocks are = absurd are
later_phases number (p ∷ ps) (r ∷ rs) [] are = absurd are
later_phases number (p ∷ ps) (r ∷ rs) (bs ∷ bss) are = each_join (λ (b : Block). number ≤ b.phase) bs (all_blocks bss) (own p.blocks r.blocks bs are.1) (less (all_blocks bss) (later_phases (number + 1) ps rs bss are.2)) where
  own : (saids : List Said) (reports : List BlockReport) (blocks : List Block) → AreBlocksOf number saids reports blocks → Each (λ (b : Block). number ≤ b.phase) blocks
  own [] [] [] are = tt
  own [] [] (b ∷ bs) are = absurd are
  own [] (r ∷ rs) blocks are = absurd are
  own (s ∷ ss) [] blocks are = absurd are
  own (s ∷ ss) (r ∷ rs) [] are = absurd are
  own (s ∷ ss) (r ∷ rs) (b ∷ bs) are = ((let e : b.phase ≡ number = are.0.phase_is in omega (arith, e)), own ss rs bs are.1)

  less : (blocks : List Block) → Each (λ (b : Block). number + 1 ≤ b.phase) blocks → Each (λ (b : Block). number ≤ b.phase) blocks
  less [] h = tt
  less (b ∷ bs) h = ((let l : number + 1 ≤ b.phase = h.0 in omega (arith, l)), less bs h.1)

front_take : (saids : List Said) (xs ys : List Block) → ArePlainBlocks saids xs → Each (λ (b : Block). 2 ≤ b.phase) ys → front_blocks 1 (xs ++ ys) ≡ xs
front_take [] [] [] p h = refl
front_take [] [] (y ∷ ys) p h = ap (λ c. cond c (y ∷ front_blocks 1 ys) []) (over y.phase h.0) where
  over : (n : ℕ) → 2 ≤ n → nat_le n 1 ≡ false
  over n l = grind (arith, l)
front_take [] (x ∷ xs) ys p h = absurd p
front_take (s ∷ ss) [] ys p h = absurd p
front_take (s ∷ ss) (x ∷ xs) ys p h = ap (λ c. cond c (x ∷ front_blocks 1 (xs ++ ys)) []) (one x.phase p.2) ∙ ap (λ (z : List Block). x ∷ z) (front_take ss xs ys p.3 h) where
  one : (n : ℕ) → n ≡ 1 → nat_le n 1 ≡ true
  one n e = grind (arith, e)

-- the first phase's blocks of a run
pub record IsOpening (saids : List Said) (blocks : List Block) : Type 0 where
  pub first : List Block
  pub is : front_blocks 1 blocks ≡ first
  pub plain : ArePlainBlocks saids first

pub opening_of : (phase : Phase) (phases : List Phase) (reports : List PhaseParts) (blocks : List (List Block)) → ArePhasesOf 1 (phase ∷ phases) reports blocks → Each (λ (block : Said). written_out block.lines ≡ []) phase.blocks
    → IsOpening phase.blocks (all_blocks blocks)
opening_of phase phases [] blocks are none = absurd are
opening_of phase phases (r ∷ rs) [] are none = absurd are
opening_of phase phases (r ∷ rs) (bs ∷ bss) are none =
    let plain : ArePlainBlocks phase.blocks bs = plain_blocks phase.blocks r.blocks bs are.1 none in
    record { first = bs; is = front_take phase.blocks bs (all_blocks bss) plain (later_phases 2 phases rs bss are.2); plain = plain }
