-- Where the lines of each block say what the labels of their sessions do, so do the entries.
use Rattle.std.proofs.Common.{ℕ, ◌≡◌, ◌+◌, ◌≤◌, ◌==◌, Bool, true, false, cond, List, [], ◌∷◌, ◌++◌, length, length-append, eq-eqb, refl, sym, subst, ◌∙◌, ap, arith}
use Rattle.pfs_admin.specs.declared.changes.Change.{Change}
use Rattle.pfs_board.specs.declared.view.Label.{Label}
use Rattle.pfs_event.specs.declared.entry.Entry.{Entry}
use Rattle.pfs_event.specs.declared.entry.Entry.TheVariants as says
use Rattle.pfs_model.specs.Actions.{numbers_by}
use Rattle.pfs_model.specs.Chains.{times, action_change}
use Rattle.pfs_model.specs.Contexts.{Context, fresh, subject_of, noted, turned, after}
use Rattle.pfs_model.specs.JournalCuts.{AreShaped}
use Rattle.pfs_model.specs.EntryPlaces.{Block, Placed, placed_part, placed_lines, told_by, places_behind, AreShapedBehind}
use Rattle.pfs_model.specs.declared.changes.Change.{Change as Numbered}
use Rattle.pfs_model.specs.declared.lines.Line.{Line}
use Rattle.pfs_law_conservation.specs.Premises.{IsChangeOf}
use Rattle.pfs_law_conservation.proofs.RunEntries.{numbers_then}
use Rattle.pfs_law_summaries.proofs.LineActions.{acts, line_acts, part_acts}
use Rattle.pfs_law_summaries.proofs.ConnectEntries.{past}
use Rattle.pfs_law_summaries.proofs.LabelChanges.{label_behind, made_by, AreNamedBehind}

-- lines of a session that has made so many actions ask for the changes of its next labels
abbrev pub AreAskedOf : (Label → Change) → ℕ → ℕ → List Line → Type 0
AreAskedOf change session made [] = Unit {0}
AreAskedOf change session made (line ∷ lines) =
    (line_acts line ≡ true → IsChangeOf line (change (label_behind session made)))
    × AreAskedOf change session (cond (line_acts line) (made + 1) made) lines

-- how many actions a session's blocks among these ask for
abbrev pub asked_among : ℕ → List Block → ℕ
asked_among session [] = 0
asked_among session (block ∷ blocks) =
    cond {A = ℕ} (block.session == session) (times line_acts block.lines) 0 + asked_among session blocks

abbrev pub AreAskedBehind : (Label → Change) → List Block → List Block → Type 0
AreAskedBehind change earlier [] = Unit {0}
AreAskedBehind change earlier (block ∷ blocks) =
    AreAskedOf change block.session (asked_among block.session earlier) block.lines
    × AreAskedBehind change (earlier ++ block ∷ []) blocks

abbrev one_if : Bool → ℕ
one_if b = cond {A = ℕ} b 1 0

-- how many actions entries tell of a session
entry_made : (e : Entry) → length (action_change e) ≡ one_if (acts e)
entry_made (says.Connect action thread account user host) = refl
entry_made (says.Act action) = refl
entry_made _ = refl

own_made : (s : ℕ) (p : Placed) (ps : List Placed)
    → made_by s (p ∷ ps) ≡ cond {A = ℕ} (p.session == s) (one_if (acts p.entry)) 0 + made_by s ps
own_made s p ps = at (p.session == s) (numbers_by s ps) where
  at : (b : Bool) (xs : List Numbered)
      → length (cond b (action_change p.entry) [] ++ xs) ≡ cond {A = ℕ} b (one_if (acts p.entry)) 0 + length xs
  at true xs = omega (arith, length-append (action_change p.entry) xs, entry_made p.entry)
  at false xs = omega arith

past_made : (s : ℕ) (earlier ps : List Placed) → made_by s (past earlier ps) ≡ made_by s ps + made_by s earlier
past_made s earlier [] = omega arith
past_made s earlier (p ∷ ps) = omega (arith, past_made s (p ∷ earlier) ps, own_made s p earlier, own_made s p ps)

part_made : (s phase session : ℕ) (line : Line) (c : Context) (part : List Entry)
    → made_by s (placed_part phase session line c part) ≡ cond {A = ℕ} (session == s) (times acts part) 0
part_made s phase session line c [] = at (session == s) where
  at : (b : Bool) → 0 ≡ cond {A = ℕ} b 0 0
  at true = refl
  at false = refl
part_made s phase session line c (e ∷ es) =
    let p : Placed = record { phase = phase; session = session; line = line; context = c; entry = e } in
    let rest : List Placed = placed_part phase session line (noted (subject_of line) c e) es in
    at (session == s) (made_by s (p ∷ rest)) (made_by s rest) (own_made s p rest)
    (part_made s phase session line (noted (subject_of line) c e) es) where
      at : (b : Bool) (m n : ℕ) → m ≡ cond {A = ℕ} b (one_if (acts e)) 0 + n → n ≡ cond {A = ℕ} b (times acts es) 0
          → m ≡ cond {A = ℕ} b (one_if (acts e) + times acts es) 0
      at true m n q r = omega (arith, q, r)
      at false m n q r = omega (arith, q, r)

lines_made : (s phase session : ℕ) (c : Context) (ls : List Line) (parts : List (List Entry)) → AreShaped c ls parts
    → made_by s (placed_lines phase session c ls parts) ≡ cond {A = ℕ} (session == s) (times line_acts ls) 0
lines_made s phase session c [] parts shaped = at (session == s) where
  at : (b : Bool) → 0 ≡ cond {A = ℕ} b 0 0
  at true = refl
  at false = refl
lines_made s phase session c (line ∷ ls) [] shaped = absurd shaped
lines_made s phase session c (line ∷ ls) (part ∷ parts) shaped =
    let xs : List Placed = placed_part phase session line (turned c) part in
    let ys : List Placed = placed_lines phase session (after c line part) ls parts in
    at (session == s) (made_by s (xs ++ ys)) (made_by s xs) (made_by s ys)
    (ap length (numbers_then s xs ys) ∙ length-append (numbers_by s xs) (numbers_by s ys))
    (part_made s phase session line (turned c) part)
    (lines_made s phase session (after c line part) ls parts shaped.1) where
      own : times acts part ≡ one_if (line_acts line)
      own = part_acts c line part shaped.0

      at : (b : Bool) (m x y : ℕ) → m ≡ x + y → x ≡ cond {A = ℕ} b (times acts part) 0
          → y ≡ cond {A = ℕ} b (times line_acts ls) 0
          → m ≡ cond {A = ℕ} b (one_if (line_acts line) + times line_acts ls) 0
      at true m x y q r t = omega (arith, q, r, t, own)
      at false m x y q r t = omega (arith, q, r, t)

pub among_more : (s : ℕ) (before : List Block) (b : Block) → asked_among s (before ++ b ∷ [])
    ≡ cond {A = ℕ} (b.session == s) (times line_acts b.lines) 0 + asked_among s before
among_more s [] b = refl
among_more s (x ∷ before) b = omega (arith, among_more s before b)

module _ (change : Label → Change) where
  named_join : (earlier xs ys : List Placed) → AreNamedBehind change earlier xs
      → AreNamedBehind change (past earlier xs) ys → AreNamedBehind change earlier (xs ++ ys)
  named_join earlier [] ys a b = b
  named_join earlier (x ∷ xs) ys a b = (a.0, named_join (x ∷ earlier) xs ys a.1 b)

  -- a line's part has one action at most, and that one is named
  part_named : (phase session made : ℕ) (line : Line) (c : Context) (part : List Entry) (earlier : List Placed)
      → made_by session earlier ≡ made → times acts part ≤ 1
      → (1 ≤ times acts part → IsChangeOf line (change (label_behind session made)))
      → AreNamedBehind change earlier (placed_part phase session line c part)
  part_named phase session made line c [] earlier m few h = tt
  part_named phase session made line c (e ∷ es) earlier m few h =
      at (acts e) refl few h
      (λ n q f k. part_named phase session n line (noted (subject_of line) c e) es (p ∷ earlier) q f k) where
        p : Placed
        p = record { phase = phase; session = session; line = line; context = c; entry = e }

        Go : Type 0
        Go = (n : ℕ) → made_by session (p ∷ earlier) ≡ n → times acts es ≤ 1
            → (1 ≤ times acts es → IsChangeOf line (change (label_behind session n)))
            → AreNamedBehind change (p ∷ earlier) (placed_part phase session line (noted (subject_of line) c e) es)

        step : (b : Bool) → acts e ≡ b → made_by session (p ∷ earlier) ≡ one_if b + made
        step b q =
            let own : made_by session (p ∷ earlier) ≡ one_if (acts e) + made_by session earlier =
            own_made session p earlier
            ∙ ap (λ b. cond {A = ℕ} b (one_if (acts e)) 0 + made_by session earlier) (eq-eqb session session refl) in
            own ∙ (ap (λ b. one_if b + made_by session earlier) q ∙ ap (λ n. one_if b + n) m)

        at : (b : Bool) → acts e ≡ b → one_if b + times acts es ≤ 1
            → (1 ≤ one_if b + times acts es → IsChangeOf line (change (label_behind session made))) → Go
            → AreNamedBehind change earlier (p ∷ placed_part phase session line (noted (subject_of line) c e) es)
        at true q few h go = (
          (λ a. subst (λ n. IsChangeOf line (change (label_behind session n))) (sym m) (h (omega arith))),
          go (1 + made) (step true q) (omega (arith, few)) (λ k. absurd (omega (arith, few, k))),
        )
        at false q few h go = (
          (λ a. absurd (let no : true ≡ false = sym a ∙ q in cc)),
          go made (omega (arith, step false q)) (omega (arith, few)) (λ k. h (omega (arith, k))),
        )

  line_named : (phase session made : ℕ) (line : Line) (c d : Context) (part : List Entry) (earlier : List Placed)
      → made_by session earlier ≡ made → times acts part ≡ one_if (line_acts line)
      → (line_acts line ≡ true → IsChangeOf line (change (label_behind session made)))
      → AreNamedBehind change earlier (placed_part phase session line d part)
  line_named phase session made line c d part earlier m own h = at (line_acts line) own h where
    at : (b : Bool) → times acts part ≡ one_if b
        → (b ≡ true → IsChangeOf line (change (label_behind session made)))
        → AreNamedBehind change earlier (placed_part phase session line d part)
    at true own h = part_named phase session made line d part earlier m (omega (arith, own)) (λ k. h refl)
    at false own h =
        part_named phase session made line d part earlier m (omega (arith, own)) (λ k. absurd (omega (arith, own, k)))

  lines_named : (phase session made : ℕ) (c : Context) (ls : List Line) (parts : List (List Entry))
      (earlier : List Placed) → made_by session earlier ≡ made → AreShaped c ls parts
      → AreAskedOf change session made ls
      → AreNamedBehind change earlier (placed_lines phase session c ls parts)
  lines_named phase session made c [] parts earlier m shaped asked = tt
  lines_named phase session made c (line ∷ ls) [] earlier m shaped asked = tt
  lines_named phase session made c (line ∷ ls) (part ∷ parts) earlier m shaped asked =
      named_join earlier xs (placed_lines phase session (after c line part) ls parts)
      (line_named phase session made line c (turned c) part earlier m own asked.0)
      (lines_named phase session (cond (line_acts line) (made + 1) made) (after c line part) ls parts (past earlier xs)
      (at (line_acts line) (made_by session (past earlier xs)) next) shaped.1 asked.1) where
        xs : List Placed
        xs = placed_part phase session line (turned c) part

        own : times acts part ≡ one_if (line_acts line)
        own = part_acts c line part shaped.0

        here : made_by session xs ≡ times acts part
        here =
            part_made session phase session line (turned c) part
            ∙ ap (λ b. cond {A = ℕ} b (times acts part) 0) (eq-eqb session session refl)

        next : made_by session (past earlier xs) ≡ one_if (line_acts line) + made
        next = omega (arith, past_made session earlier xs, here, own, m)

        at : (b : Bool) (n : ℕ) → n ≡ one_if b + made → n ≡ cond b (made + 1) made
        at true n q = omega (arith, q)
        at false n q = omega (arith, q)

  blocks_named : (before blocks : List Block) (low : ℕ) (earlier : List Placed) → AreShapedBehind before low blocks
      → AreAskedBehind change before blocks → ((s : ℕ) → made_by s earlier ≡ asked_among s before)
      → AreNamedBehind change earlier (places_behind before blocks)
  unfolding places_behind
  blocks_named before [] low earlier shaped asked same = tt
  blocks_named before (b ∷ blocks) low earlier shaped asked same =
      let c : Context = told_by b.session fresh before in
      let xs : List Placed = placed_lines b.phase b.session c b.lines b.parts in
      named_join earlier xs (places_behind (before ++ b ∷ []) blocks)
      (lines_named b.phase b.session (asked_among b.session before) c b.lines b.parts earlier (same b.session) shaped.1
      asked.0)
      (blocks_named (before ++ b ∷ []) blocks b.phase (past earlier xs) shaped.2 asked.1
      (λ s. next s (made_by s (past earlier xs)) (made_by s xs) (past_made s earlier xs)
      (lines_made s b.phase b.session c b.lines b.parts shaped.1))) where
        next : (s m x : ℕ) → m ≡ x + made_by s earlier → x ≡ cond {A = ℕ} (b.session == s) (times line_acts b.lines) 0
            → m ≡ asked_among s (before ++ b ∷ [])
        next s m x q r = omega (arith, q, r, same s, among_more s before b)

  pub named_blocks : (blocks : List Block) → AreShapedBehind [] 0 blocks → AreAskedBehind change [] blocks
      → AreNamedBehind change [] (places_behind [] blocks)
  named_blocks blocks shaped asked = blocks_named [] blocks 0 [] shaped asked (λ s. refl)
