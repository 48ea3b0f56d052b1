-- Journals of the right shape whose lines agree plainly, line by line: which action a line is in, and in which phase.
use Rattle.std.proofs.Common.{◌≡◌, refl, ℕ, ◌+◌, ◌<◌, ◌≤◌, ◌==◌, Bool, true, false, cond, List, [], ◌∷◌, ◌++◌, sym, ◌∙◌, ap, subst, ◌⊎◌, inl, inr, arith}
use Rattle.std.specs.Prelude.{Option}
use Rattle.std.proofs.lemmas.Bool.{eqb-true}
use Rattle.pfs_event.specs.declared.entry.Entry.{Entry}
use Rattle.pfs_event.specs.declared.entry.Entry.TheVariants as says
use Rattle.pfs_model.specs.declared.lines.Line.{Line}
use Rattle.pfs_model.specs.declared.lines.Subject.{Subject}
use Rattle.pfs_model.specs.Contexts.{Context, fresh, subject_of, noted, turned, after_entries, after}
use Rattle.pfs_model.specs.JournalCuts.{AreShaped}
use Rattle.pfs_model.specs.Shapes.{shape}
use Rattle.pfs_model.specs.EntryPlaces.{Block, Placed, placed_part, placed_lines, after_lines, told_by, places_behind, AreShapedBehind}
use Rattle.pfs_model.specs.Chains.{each_of, action_change, change_at}
use Rattle.pfs_model.specs.Actions.{is_acted}
use Rattle.pfs_model.specs.PlainAgreement.{last_of, AreNext, AgreesWith, AgreeBehind}
use Rattle.pfs_model.proofs.ActionGuards.{begins, Guarded, cut_guarded, shape_guards}

-- the last action number, the last line first
abbrev pub top : List Placed → ℕ
top earlier = last_of 0 (each_of action_change earlier)

-- before an action's number nothing is in hand but what has ended; behind it the action is the last one
abbrev pub IsState : List Placed → Context → Type 0
IsState earlier c = ((c.action ≡ 0) × (c.done ≤ top earlier)) ⊎ ((c.action ≡ top earlier) × (c.done < c.action))

abbrev pub IsLow : List Placed → Context → Type 0
IsLow earlier c = (c.done ≤ top earlier) × (c.action ≤ top earlier)

-- an action is none, or that of the line before, or the line before says its number
abbrev pub Comes : List Placed → ℕ → Type 0
Comes [] action = action ≡ 0
Comes (q ∷ earlier) action = (action ≡ 0) ⊎ ((action ≡ q.context.action) ⊎ (action_change q.entry ≡ change_at 0 action ∷ []))

pub record IsPlace (earlier : List Placed) (p : Placed) : Type 0 where
  pub state : IsState earlier p.context
  pub acted : is_acted p.entry ≡ true → p.context.action ≡ top earlier
  pub comes : Comes earlier p.context.action

abbrev pub Walk : List Placed → List Placed → Type 0
Walk earlier [] = Unit {0}
Walk earlier (p ∷ ps) = IsPlace earlier p × Walk (p ∷ earlier) ps

-- the lines behind these, the last first
abbrev pub past : List Placed → List Placed → List Placed
past earlier [] = earlier
past earlier (p ∷ ps) = past (p ∷ earlier) ps

pub walk_join : (earlier xs ys : List Placed) → Walk earlier xs → Walk (past earlier xs) ys → Walk earlier (xs ++ ys)
walk_join earlier [] ys v w = w
walk_join earlier (x ∷ xs) ys v w = (v.0, walk_join (x ∷ earlier) xs ys v.1 w)

pub agree_split : (earlier xs ys : List Placed) → AgreeBehind earlier (xs ++ ys) → AgreeBehind earlier xs × AgreeBehind (past earlier xs) ys
agree_split earlier [] ys a = (tt, a)
agree_split earlier (x ∷ xs) ys a = let s : AgreeBehind (x ∷ earlier) xs × AgreeBehind (past (x ∷ earlier) xs) ys = agree_split (x ∷ earlier) xs ys a.1 in ((a.0, s.0), s.1)

pub past_join : (earlier xs ys : List Placed) → past earlier (xs ++ ys) ≡ past (past earlier xs) ys
past_join earlier [] ys = refl
past_join earlier (x ∷ xs) ys = past_join (x ∷ earlier) xs ys

-- what an entry does to the action in hand
abbrev pub IsNoted : Option Subject → Context → Entry → Type 0
IsNoted s c e =
    ((action_change e ≡ []) × ((noted s c e).action ≡ c.action) × ((noted s c e).done ≡ c.done))
    ⊎ ((a : ℕ) × (action_change e ≡ change_at 0 a ∷ []) × ((noted s c e).action ≡ a) × ((noted s c e).done ≡ c.done))

pub noted_is : (s : Option Subject) (c : Context) (e : Entry) → IsNoted s c e
noted_is s c (says.Connect action thread account user host) = inr (action, refl, refl, refl)
noted_is s c (says.Act action) = inr (action, refl, refl, refl)
noted_is s c (says.Start event verdict consumers thread class table) = inl (refl, refl, refl)
noted_is s c (says.End event last consumers thread) = inl (refl, refl, refl)
noted_is s c (says.Held row first second) = inl (refl, refl, refl)
noted_is s c (says.Add row version) = inl (refl, refl, refl)
noted_is s c says.Settle = inl (refl, refl, refl)
noted_is s c (says.Take row version) = inl (refl, refl, refl)
noted_is s c _ = inl (refl, refl, refl)

none_begins : (e : Entry) → action_change e ≡ [] → begins e ≡ false
none_begins (says.Connect action thread account user host) n = absurd (cc)
none_begins (says.Act action) n = absurd (cc)
none_begins _ n = refl

-- a number is one above the last
pub number_next : (earlier : List Placed) (p : Placed) (a : ℕ) → AgreesWith earlier p → action_change p.entry ≡ change_at 0 a ∷ [] → a ≡ top earlier + 1
number_next earlier p a w q = let n : AreNext (each_of action_change earlier) (change_at 0 a ∷ []) = subst (AreNext (each_of action_change earlier)) q w.numbers in n.0

pub top_same : (earlier : List Placed) (p : Placed) → action_change p.entry ≡ [] → top (p ∷ earlier) ≡ top earlier
top_same earlier p q = ap (λ cs. last_of 0 (cs ++ each_of action_change earlier)) q

pub top_new : (earlier : List Placed) (p : Placed) (a : ℕ) → action_change p.entry ≡ change_at 0 a ∷ [] → top (p ∷ earlier) ≡ a
top_new earlier p a q = ap (λ cs. last_of 0 (cs ++ each_of action_change earlier)) q

pub top_step : (earlier : List Placed) (p : Placed) → AgreesWith earlier p → top earlier ≤ top (p ∷ earlier)
top_step earlier p w = at p.entry refl where
  by : (e : Entry) → p.entry ≡ e → IsNoted (subject_of p.line) p.context e → top earlier ≤ top (p ∷ earlier)
  by e q (inl k) = let t : top (p ∷ earlier) ≡ top earlier = top_same earlier p (ap action_change q ∙ k.0) in omega (arith, t)
  by e q (inr k) =
      let t : top (p ∷ earlier) ≡ k.0 = top_new earlier p k.0 (ap action_change q ∙ k.1) in
      let n : k.0 ≡ top earlier + 1 = number_next earlier p k.0 w (ap action_change q ∙ k.1) in
      omega (arith, t, n)

  at : (e : Entry) → p.entry ≡ e → top earlier ≤ top (p ∷ earlier)
  at e q = by e q (noted_is (subject_of p.line) p.context e)

pub top_grows : (earlier xs : List Placed) → AgreeBehind earlier xs → top earlier ≤ top (past earlier xs)
top_grows earlier [] a = omega arith
top_grows earlier (x ∷ xs) a =
    let one : top earlier ≤ top (x ∷ earlier) = top_step earlier x a.0 in
    let more : top (x ∷ earlier) ≤ top (past (x ∷ earlier) xs) = top_grows (x ∷ earlier) xs a.1 in
    omega (arith, one, more)

low_of : (earlier : List Placed) (c : Context) → IsState earlier c → IsLow earlier c
low_of earlier c (inl s) = let a : c.action ≡ 0 = s.0 in (s.1, omega (arith, a))
low_of earlier c (inr s) = let a : c.action ≡ top earlier = s.0 in let d : c.done < c.action = s.1 in (omega (arith, a, d), omega (arith, a))

turned_state : (earlier : List Placed) (c : Context) → IsLow earlier c → IsState earlier (turned c)
turned_state earlier c l = inl (refl, at (c.action == 0)) where
  at : (b : Bool) → cond b c.done c.action ≤ top earlier
  at true = l.0
  at false = l.1

comes_none : (earlier : List Placed) → Comes earlier 0
comes_none [] = refl
comes_none (q ∷ earlier) = inl refl

state_same : (earlier more : List Placed) (c d : Context) → top more ≡ top earlier → d.action ≡ c.action → d.done ≡ c.done → IsState earlier c → IsState more d
state_same earlier more c d t a n (inl s) = let x : c.action ≡ 0 = s.0 in let y : c.done ≤ top earlier = s.1 in inl (a ∙ x, omega (arith, t, n, y))
state_same earlier more c d t a n (inr s) = let x : c.action ≡ top earlier = s.0 in let y : c.done < c.action = s.1 in inr (a ∙ x ∙ sym t, omega (arith, a, n, y))

state_new : (earlier more : List Placed) (c d : Context) (a : ℕ) → top more ≡ a → d.action ≡ a → d.done ≡ c.done → a ≡ top earlier + 1 → IsState earlier c → IsState more d
state_new earlier more c d a t x n up s = let l : IsLow earlier c = low_of earlier c s in let y : c.done ≤ top earlier = l.0 in inr (x ∙ sym t, omega (arith, x, n, up, y))

-- the lines of a part, and what they leave
pub record IsWalked (earlier xs : List Placed) (c : Context) : Type 0 where
  pub walk : Walk earlier xs
  pub state : IsState (past earlier xs) c

walk_part : (phase session : ℕ) (line : Line) (c : Context) (entries : List Entry) (earlier : List Placed) (acted : Bool)
    → Guarded acted entries → (acted ≡ true → c.action ≡ top earlier) → IsState earlier c → Comes earlier c.action
    → AgreeBehind earlier (placed_part phase session line c entries)
    → IsWalked earlier (placed_part phase session line c entries) (after_entries (subject_of line) c entries)
walk_part phase session line c [] earlier acted g h s m a = record { walk = tt; state = s }
walk_part phase session line c (e ∷ es) earlier acted g h s m a =
    on (noted_is (subject_of line) c e) (walk_part phase session line (noted (subject_of line) c e) es (p ∷ earlier)) where
      p : Placed
      p = record { phase = phase; session = session; line = line; context = c; entry = e }

      here : (acted : Bool) → Guarded acted (e ∷ es) → (acted ≡ true → c.action ≡ top earlier) → is_acted e ≡ true → c.action ≡ top earlier
      here true g h i = h refl
      here false g h i = let f : is_acted e ≡ false = g.0 in absurd (cc)

      place : IsPlace earlier p
      place = record { state = s; acted = here acted g h; comes = m }

      on : IsNoted (subject_of line) c e
          → ((acted : Bool) → Guarded acted es → (acted ≡ true → (noted (subject_of line) c e).action ≡ top (p ∷ earlier)) → IsState (p ∷ earlier) (noted (subject_of line) c e) → Comes (p ∷ earlier) (noted (subject_of line) c e).action
          → AgreeBehind (p ∷ earlier) (placed_part phase session line (noted (subject_of line) c e) es)
          → IsWalked (p ∷ earlier) (placed_part phase session line (noted (subject_of line) c e) es) (after_entries (subject_of line) (noted (subject_of line) c e) es))
          → IsWalked earlier (p ∷ placed_part phase session line (noted (subject_of line) c e) es) (after_entries (subject_of line) (noted (subject_of line) c e) es)
      on (inl k) go = rest acted g h where
        t : top (p ∷ earlier) ≡ top earlier
        t = top_same earlier p k.0

        rest : (acted : Bool) → Guarded acted (e ∷ es) → (acted ≡ true → c.action ≡ top earlier) → IsWalked earlier (p ∷ placed_part phase session line (noted (subject_of line) c e) es) (after_entries (subject_of line) (noted (subject_of line) c e) es)
        rest true g h =
            let w = go true (free es) (λ q. k.1 ∙ h refl ∙ sym t) (state_same earlier (p ∷ earlier) c (noted (subject_of line) c e) t k.1 k.2 s) (inr (inl k.1)) a.1 in
            record { walk = (place, w.walk); state = w.state } where
              free : (es : List Entry) → Guarded true es
              free [] = tt
              free (x ∷ xs) = tt
        rest false g h =
            let w = go (begins e) g.1 (λ q. let f : begins e ≡ false = none_begins e k.0 in absurd (cc)) (state_same earlier (p ∷ earlier) c (noted (subject_of line) c e) t k.1 k.2 s) (inr (inl k.1)) a.1 in
            record { walk = (place, w.walk); state = w.state }
      on (inr k) go =
          let t : top (p ∷ earlier) ≡ k.0 = top_new earlier p k.0 k.1 in
          let up : k.0 ≡ top earlier + 1 = number_next earlier p k.0 a.0 k.1 in
          let w = go true (free es) (λ q. k.2 ∙ sym t) (state_new earlier (p ∷ earlier) c (noted (subject_of line) c e) k.0 t k.2 k.3 up s) (inr (inr (k.1 ∙ ap (λ z. change_at 0 z ∷ []) (sym k.2)))) a.1 in
          record { walk = (place, w.walk); state = w.state } where
            free : (es : List Entry) → Guarded true es
            free [] = tt
            free (x ∷ xs) = tt

pub record IsCrossed (earlier xs : List Placed) (c : Context) : Type 0 where
  pub walk : Walk earlier xs
  pub low : IsLow (past earlier xs) c

walk_lines : (phase session : ℕ) (c : Context) (lines : List Line) (parts : List (List Entry)) (earlier : List Placed)
    → AreShaped c lines parts → IsLow earlier c → AgreeBehind earlier (placed_lines phase session c lines parts)
    → IsCrossed earlier (placed_lines phase session c lines parts) (after_lines c lines parts)
walk_lines phase session c [] parts earlier s l a = record { walk = tt; low = l }
walk_lines phase session c (line ∷ lines) [] earlier s l a = absurd s
walk_lines phase session c (line ∷ lines) (part ∷ parts) earlier s l a =
    let xs : List Placed = placed_part phase session line (turned c) part in
    let ys : List Placed = placed_lines phase session (after c line part) lines parts in
    let both : AgreeBehind earlier xs × AgreeBehind (past earlier xs) ys = agree_split earlier xs ys a in
    let w : IsWalked earlier xs (after c line part) = walk_part phase session line (turned c) part earlier false (cut_guarded (shape c line) part (shape_guards c line) s.0) (λ q. absurd (cc)) (turned_state earlier c l) (comes_none earlier) both.0 in
    let v : IsCrossed (past earlier xs) ys (after_lines (after c line part) lines parts) = walk_lines phase session (after c line part) lines parts (past earlier xs) s.1 (low_of (past earlier xs) (after c line part) w.state) both.1 in
    record {
      walk = walk_join earlier xs ys w.walk v.walk;
      low = let P : List Placed → Type 0 = λ z. IsLow z (after_lines (after c line part) lines parts) in subst P (sym (past_join earlier xs ys)) v.low;
    }

told_more : (session : ℕ) (c : Context) (blocks : List Block) (block : Block) → told_by session c (blocks ++ block ∷ []) ≡ cond (block.session == session) (after_lines (told_by session c blocks) block.lines block.parts) (told_by session c blocks)
told_more session c [] block = refl
told_more session c (b ∷ blocks) block = told_more session (cond (b.session == session) (after_lines c b.lines b.parts) c) blocks block

pub walk_blocks : (before blocks : List Block) (phase : ℕ) (earlier : List Placed) → AreShapedBehind before phase blocks
    → ((session : ℕ) → IsLow earlier (told_by session fresh before)) → AgreeBehind earlier (places_behind before blocks) → Walk earlier (places_behind before blocks)
unfolding places_behind
walk_blocks before [] phase earlier s l a = tt
walk_blocks before (b ∷ blocks) phase earlier s l a =
    let xs : List Placed = placed_lines b.phase b.session (told_by b.session fresh before) b.lines b.parts in
    let ys : List Placed = places_behind (before ++ b ∷ []) blocks in
    let both : AgreeBehind earlier xs × AgreeBehind (past earlier xs) ys = agree_split earlier xs ys a in
    let w : IsCrossed earlier xs (after_lines (told_by b.session fresh before) b.lines b.parts) = walk_lines b.phase b.session (told_by b.session fresh before) b.lines b.parts earlier s.1 (l b.session) both.0 in
    walk_join earlier xs ys w.walk (walk_blocks (before ++ b ∷ []) blocks b.phase (past earlier xs) s.2 (λ session. low session xs both.0 w.low) both.1) where
      at : (session : ℕ) (xs : List Placed) → AgreeBehind earlier xs → IsLow (past earlier xs) (after_lines (told_by b.session fresh before) b.lines b.parts)
          → (q : Bool) → (b.session == session) ≡ q → IsLow (past earlier xs) (cond q (after_lines (told_by session fresh before) b.lines b.parts) (told_by session fresh before))
      at session xs a w true q = let P : ℕ → Type 0 = λ z. IsLow (past earlier xs) (after_lines (told_by z fresh before) b.lines b.parts) in subst P (eqb-true b.session session q) w
      at session xs a w false q =
          let g : top earlier ≤ top (past earlier xs) = top_grows earlier xs a in
          let x : (told_by session fresh before).done ≤ top earlier = (l session).0 in
          let y : (told_by session fresh before).action ≤ top earlier = (l session).1 in
          (omega (arith, g, x), omega (arith, g, y))

      low : (session : ℕ) (xs : List Placed) → AgreeBehind earlier xs → IsLow (past earlier xs) (after_lines (told_by b.session fresh before) b.lines b.parts) → IsLow (past earlier xs) (told_by session fresh (before ++ b ∷ []))
      low session xs a w = let P : Context → Type 0 = λ z. IsLow (past earlier xs) z in subst P (sym (told_more session fresh before b)) (at session xs a w (b.session == session) refl)

-- the phases never fall along the lines
abbrev pub Rising : ℕ → List Placed → Type 0
Rising phase [] = Unit {0}
Rising phase (p ∷ ps) = (phase ≤ p.phase) × Rising p.phase ps

rising_from : (low high : ℕ) (ps : List Placed) → low ≤ high → Rising high ps → Rising low ps
rising_from low high [] h r = tt
rising_from low high (p ∷ ps) h r = let x : high ≤ p.phase = r.0 in (omega (arith, h, x), r.1)

rising_part : (low phase session : ℕ) (line : Line) (c : Context) (entries : List Entry) (rest : List Placed) → low ≤ phase → Rising phase rest → Rising low (placed_part phase session line c entries ++ rest)
rising_part low phase session line c [] rest h r = rising_from low phase rest h r
rising_part low phase session line c (e ∷ es) rest h r = (h, rising_part phase phase session line (noted (subject_of line) c e) es rest (omega arith) r)

pub append_assoc3 : (xs ys zs : List Placed) → (xs ++ ys) ++ zs ≡ xs ++ (ys ++ zs)
append_assoc3 [] ys zs = refl
append_assoc3 (x ∷ xs) ys zs = ap (λ z. x ∷ z) (append_assoc3 xs ys zs)

rising_lines : (low phase session : ℕ) (c : Context) (lines : List Line) (parts : List (List Entry)) (rest : List Placed) → low ≤ phase → Rising phase rest → Rising low (placed_lines phase session c lines parts ++ rest)
rising_lines low phase session c [] parts rest h r = rising_from low phase rest h r
rising_lines low phase session c (line ∷ lines) [] rest h r = rising_from low phase rest h r
rising_lines low phase session c (line ∷ lines) (part ∷ parts) rest h r =
    subst (Rising low) (sym (append_assoc3 (placed_part phase session line (turned c) part) (placed_lines phase session (after c line part) lines parts) rest))
    (rising_part low phase session line (turned c) part _ h (rising_lines phase phase session (after c line part) lines parts rest (omega arith) r))

pub rising_blocks : (before blocks : List Block) (phase : ℕ) → AreShapedBehind before phase blocks → Rising phase (places_behind before blocks)
unfolding places_behind
rising_blocks before [] phase s = tt
rising_blocks before (b ∷ blocks) phase s = rising_lines phase b.phase b.session (told_by b.session fresh before) b.lines b.parts _ s.0 (rising_blocks (before ++ b ∷ []) blocks b.phase s.2)
