-- What an action does stands in the journal that says its number, in the same phase.
use Rattle.std.proofs.Common.{◌≡◌, refl, ℕ, ◌+◌, ◌≤◌, ◌==◌, ◌&&◌, Bool, true, false, cond, nat_lt, nat_le, List, [], ◌∷◌, ◌++◌, length, sym, ap, subst, ◌∙◌, ◌⊎◌, inl, inr, arith}
use Rattle.std.proofs.lemmas.Bool.{and_parts, eqb-true}
use Rattle.pfs_model.proofs.EachLists.{each_join}
use Rattle.pfs_lemmas.proofs.Numbers.{eq_self}
use Rattle.pfs_event.specs.declared.entry.Entry.{Entry}
use Rattle.pfs_event.specs.declared.entry.Entry.TheVariants as says
use Rattle.pfs_model.specs.declared.lines.Line.{Line}
use Rattle.pfs_model.specs.Actions.{is_acted}
use Rattle.pfs_model.specs.Chains.{Each, times, change_at, action_change, each_of, is_of, is_that, AreChained}
use Rattle.pfs_model.specs.Contexts.{Context, fresh, subject_of, noted, turned, after}
use Rattle.pfs_model.specs.JournalCuts.{AreShaped}
use Rattle.pfs_model.specs.EntryPlaces.{Block, Placed, placed_part, placed_lines, told_by, places_behind, places, up_to_phase, AreShapedBehind, IsShaped}
use Rattle.pfs_model.specs.Shapes.{shape}
use Rattle.pfs_model.proofs.ChainGrowth.{times_append}
use Rattle.pfs_model.proofs.ActionGuards.{begins, Guarded, cut_guarded, shape_guards}
use Rattle.pfs_model.proofs.LineWalks.{IsNoted, noted_is}
use Rattle.pfs_law_conservation.proofs.LineVersions.{that_self, chain_range}
use Rattle.pfs_law_conservation.proofs.RowLines.{bit_yes, bit_no}

-- an entry says this action's number
abbrev pub says_number : ℕ → Entry → Bool
says_number action entry = nat_lt 0 (times (is_that (change_at 0 action)) (action_change entry))

-- and stands in a session's journal of a phase
abbrev pub says_by : ℕ → ℕ → ℕ → Placed → Bool
says_by session phase action place = ((place.session == session) && (place.phase == phase)) && says_number action place.entry

abbrev pub IsSaid : List Placed → ℕ → ℕ → ℕ → Type 0
IsSaid all session phase action = 1 ≤ times (says_by session phase action) all

-- an entry is of no action, or of one whose number stands
abbrev pub HasNumber : List Placed → Placed → Type 0
HasNumber all p = ((p.context.action ≡ 0) × (is_acted p.entry ≡ false)) ⊎ IsSaid all p.session p.phase p.context.action

abbrev pub Among : List Placed → List Placed → Type 0
Among all ps = (session phase action : ℕ) → times (says_by session phase action) ps ≤ times (says_by session phase action) all

says_own : (p : Placed) (action : ℕ) → action_change p.entry ≡ change_at 0 action ∷ [] → says_by p.session p.phase action p ≡ true
says_own p action e =
    rw (eq_self p.session, eq_self p.phase) (ap (λ cs. nat_lt 0 (times (is_that (change_at 0 action)) cs)) e ∙ one (is_that (change_at 0 action) (change_at 0 action)) (that_self 0 action)) where
      one : (b : Bool) → b ≡ true → nat_lt 0 (cond {A = ℕ} b 1 0 + 0) ≡ true
      one true q = refl
      one false q = absurd (cc)

among_rest : (all : List Placed) (p : Placed) (ps : List Placed) → Among all (p ∷ ps) → Among all ps
among_rest all p ps h session phase action = let l : cond {A = ℕ} (says_by session phase action p) 1 0 + times (says_by session phase action) ps ≤ times (says_by session phase action) all = h session phase action in omega (arith, l)

said_here : (all : List Placed) (p : Placed) (ps : List Placed) (action : ℕ) → Among all (p ∷ ps) → action_change p.entry ≡ change_at 0 action ∷ [] → IsSaid all p.session p.phase action
said_here all p ps action h e =
    let l : cond {A = ℕ} (says_by p.session p.phase action p) 1 0 + times (says_by p.session p.phase action) ps ≤ times (says_by p.session p.phase action) all = h p.session p.phase action in
    omega (arith, l, bit_yes (says_by p.session p.phase action p) (says_own p action e))

among_front : (all xs ys : List Placed) → Among all (xs ++ ys) → Among all xs
among_front all xs ys h session phase action =
    let l : times (says_by session phase action) (xs ++ ys) ≤ times (says_by session phase action) all = h session phase action in
    omega (arith, l, times_append (says_by session phase action) xs ys)

among_back : (all xs ys : List Placed) → Among all (xs ++ ys) → Among all ys
among_back all xs ys h session phase action =
    let l : times (says_by session phase action) (xs ++ ys) ≤ times (says_by session phase action) all = h session phase action in
    omega (arith, l, times_append (says_by session phase action) xs ys)

guarded_true : (entries : List Entry) → Guarded true entries
guarded_true [] = tt
guarded_true (e ∷ es) = tt

said_part : (all : List Placed) (phase session : ℕ) (line : Line) (c : Context) (entries : List Entry) (acted : Bool) → Guarded acted entries
    → (acted ≡ true → IsSaid all session phase c.action) → ((c.action ≡ 0) ⊎ IsSaid all session phase c.action)
    → Among all (placed_part phase session line c entries) → Each (HasNumber all) (placed_part phase session line c entries)
said_part all phase session line c [] acted g h k m = tt
said_part all phase session line c (e ∷ es) acted g h k m =
    (here acted g h k, on (noted_is (subject_of line) c e) acted g h (said_part all phase session line (noted (subject_of line) c e) es)) where
      p : Placed
      p = record { phase = phase; session = session; line = line; context = c; entry = e }

      rest : Among all (placed_part phase session line (noted (subject_of line) c e) es)
      rest = among_rest all p _ m

      here : (acted : Bool) → Guarded acted (e ∷ es) → (acted ≡ true → IsSaid all session phase c.action) → ((c.action ≡ 0) ⊎ IsSaid all session phase c.action) → HasNumber all p
      here true g h k = inr (h refl)
      here false g h (inl z) = inl (z, g.0)
      here false g h (inr s) = inr s

      moved : ℕ → Type 0
      moved action = IsSaid all session phase action

      Go : Type 0
      Go = (acted : Bool) → Guarded acted es → (acted ≡ true → IsSaid all session phase (noted (subject_of line) c e).action) → (((noted (subject_of line) c e).action ≡ 0) ⊎ IsSaid all session phase (noted (subject_of line) c e).action)
          → Among all (placed_part phase session line (noted (subject_of line) c e) es) → Each (HasNumber all) (placed_part phase session line (noted (subject_of line) c e) es)

      still : (noted (subject_of line) c e).action ≡ c.action → ((c.action ≡ 0) ⊎ IsSaid all session phase c.action) → ((noted (subject_of line) c e).action ≡ 0) ⊎ IsSaid all session phase (noted (subject_of line) c e).action
      still q (inl z) = inl (q ∙ z)
      still q (inr s) = inr (subst moved (sym q) s)

      none_begins : action_change e ≡ [] → begins e ≡ true → ⊥
      none_begins n b = at e n b where
        at : (e : Entry) → action_change e ≡ [] → begins e ≡ true → ⊥
        at (says.Connect action thread account user host) n b = absurd (cc)
        at (says.Act action) n b = absurd (cc)
        at _ n b = absurd (cc)

      on : IsNoted (subject_of line) c e → (acted : Bool) → Guarded acted (e ∷ es) → (acted ≡ true → IsSaid all session phase c.action) → Go → Each (HasNumber all) (placed_part phase session line (noted (subject_of line) c e) es)
      on (inl n) true g h go = go true (guarded_true es) (λ q. subst moved (sym n.1) (h refl)) (inr (subst moved (sym n.1) (h refl))) rest
      on (inl n) false g h go = go (begins e) g.1 (λ q. absurd (none_begins n.0 q)) (still n.1 k) rest
      on (inr n) acted g h go = let s : IsSaid all session phase (noted (subject_of line) c e).action = subst moved (sym n.2) (said_here all p _ n.0 m n.1) in go true (guarded_true es) (λ q. s) (inr s) rest

said_lines : (all : List Placed) (phase session : ℕ) (c : Context) (lines : List Line) (parts : List (List Entry)) → AreShaped c lines parts
    → Among all (placed_lines phase session c lines parts) → Each (HasNumber all) (placed_lines phase session c lines parts)
said_lines all phase session c [] parts s m = tt
said_lines all phase session c (line ∷ lines) [] s m = tt
said_lines all phase session c (line ∷ lines) (part ∷ parts) s m =
    each_join (HasNumber all) (placed_part phase session line (turned c) part) (placed_lines phase session (after c line part) lines parts)
    (said_part all phase session line (turned c) part false (cut_guarded (shape c line) part (shape_guards c line) s.0) (λ q. absurd (cc)) (inl refl)
    (among_front all (placed_part phase session line (turned c) part) _ m))
    (said_lines all phase session (after c line part) lines parts s.1 (among_back all (placed_part phase session line (turned c) part) _ m))

said_blocks : (all : List Placed) (earlier blocks : List Block) (phase : ℕ) → AreShapedBehind earlier phase blocks → Among all (places_behind earlier blocks) → Each (HasNumber all) (places_behind earlier blocks)
unfolding places_behind
said_blocks all earlier [] phase s m = tt
said_blocks all earlier (b ∷ blocks) phase s m =
    let xs : List Placed = placed_lines b.phase b.session (told_by b.session fresh earlier) b.lines b.parts in
    let ys : List Placed = places_behind (earlier ++ b ∷ []) blocks in
    each_join (HasNumber all) xs ys (said_lines all b.phase b.session (told_by b.session fresh earlier) b.lines b.parts s.1 (among_front all xs ys m))
    (said_blocks all (earlier ++ b ∷ []) blocks b.phase s.2 (among_back all xs ys m))

pub all_said : (blocks : List Block) → IsShaped blocks → Each (HasNumber (places blocks)) (places blocks)
all_said blocks s = said_blocks (places blocks) [] blocks 0 s (λ session phase action. self (times (says_by session phase action) (places blocks))) where
  self : (n : ℕ) → n ≤ n
  self n = omega arith

-- up to a phase stands what stands in it
pub said_to : (phase session at action : ℕ) (all : List Placed) → nat_le at phase ≡ true → IsSaid all session at action → IsSaid (up_to_phase phase all) session at action
said_to phase session at action all l s = let e : times (says_by session at action) (up_to_phase phase all) ≡ times (says_by session at action) all = same all in omega (arith, e, s) where
  same : (ps : List Placed) → times (says_by session at action) (up_to_phase phase ps) ≡ times (says_by session at action) ps
  same [] = refl
  same (p ∷ ps) = on (nat_le p.phase phase) refl (same ps) where
    on : (b : Bool) → nat_le p.phase phase ≡ b → times (says_by session at action) (up_to_phase phase ps) ≡ times (says_by session at action) ps → times (says_by session at action) (cond b (p ∷ []) [] ++ up_to_phase phase ps) ≡ cond {A = ℕ} (says_by session at action p) 1 0 + times (says_by session at action) ps
    on true q ih = ap (λ n. cond {A = ℕ} (says_by session at action p) 1 0 + n) ih
    on false q ih = omega (arith, ih, bit_no (says_by session at action p) (other (says_by session at action p) refl)) where
      contrary : (b : Bool) → b ≡ true → b ≡ false → true ≡ false
      contrary b q r = sym q ∙ r

      other : (b : Bool) → says_by session at action p ≡ b → b ≡ false
      other true h = contrary (nat_le p.phase phase) (ap (λ n. nat_le n phase) (eqb-true p.phase at (and_parts (p.session == session) (p.phase == at) (and_parts ((p.session == session) && (p.phase == at)) (says_number action p.entry) h).0).1) ∙ l) q
      other false h = refl

pub says_few : (action : ℕ) (e : Entry) (b : Bool) → cond {A = ℕ} (b && says_number action e) 1 0 ≤ times (is_that (change_at 0 action)) (action_change e)
says_few action e true = positive (times (is_that (change_at 0 action)) (action_change e)) where
  positive : (n : ℕ) → cond {A = ℕ} (nat_lt 0 n) 1 0 ≤ n
  positive n = grind arith
says_few action e false = omega arith

-- a number that is said is one of the numbers
pub said_counts : (session phase action : ℕ) (ps : List Placed) → times (says_by session phase action) ps ≤ times (is_that (change_at 0 action)) (each_of action_change ps)
said_counts session phase action [] = omega arith
said_counts session phase action (p ∷ ps) =
    let ih : times (says_by session phase action) ps ≤ times (is_that (change_at 0 action)) (each_of action_change ps) = said_counts session phase action ps in
    let a : times (is_that (change_at 0 action)) (action_change p.entry ++ each_of action_change ps) ≡ times (is_that (change_at 0 action)) (action_change p.entry) + times (is_that (change_at 0 action)) (each_of action_change ps) = times_append (is_that (change_at 0 action)) (action_change p.entry) (each_of action_change ps) in
    omega (arith, ih, a, says_few action p.entry ((p.session == session) && (p.phase == phase)))

-- each is a change of row 0
pub zero_rows : (ps : List Placed) → times (is_of 0) (each_of action_change ps) ≡ length (each_of action_change ps)
zero_rows [] = refl
zero_rows (p ∷ ps) = by p.entry (zero_rows ps) where
  by : (e : Entry) → times (is_of 0) (each_of action_change ps) ≡ length (each_of action_change ps) → times (is_of 0) (action_change e ++ each_of action_change ps) ≡ length (action_change e ++ each_of action_change ps)
  by (says.Connect action thread account user host) ih = omega (arith, ih)
  by (says.Act action) ih = omega (arith, ih)
  by _ ih = ih

-- so a number that is said up to a phase is from 1 to how many there are
pub said_range : (phase session at action : ℕ) (all : List Placed) → AreChained action_change all → IsSaid (up_to_phase phase all) session at action → (1 ≤ action) × (action ≤ length (each_of action_change (up_to_phase phase all)))
said_range phase session at action all c s =
    let l : times (says_by session at action) (up_to_phase phase all) ≤ times (is_that (change_at 0 action)) (each_of action_change (up_to_phase phase all)) = said_counts session at action (up_to_phase phase all) in
    let r : (1 ≤ action) × (action ≤ times (is_of 0) (each_of action_change (up_to_phase phase all))) = chain_range (each_of action_change (up_to_phase phase all)) (c phase) (change_at 0 action) (omega (arith, l, s)) in
    let z : times (is_of 0) (each_of action_change (up_to_phase phase all)) ≡ length (each_of action_change (up_to_phase phase all)) = zero_rows (up_to_phase phase all) in
    let h : action ≤ times (is_of 0) (each_of action_change (up_to_phase phase all)) = r.1 in
    (r.0, omega (arith, h, z))

-- the session that says a number
abbrev pub actor : List Placed → ℕ → ℕ
actor [] action = 0
actor (p ∷ ps) action = cond (says_number action p.entry) p.session (actor ps action)

pub actor_is : (session phase action : ℕ) (ps : List Placed) → times (is_that (change_at 0 action)) (each_of action_change ps) ≤ 1 → IsSaid ps session phase action → session ≡ actor ps action
actor_is session phase action [] l s = absurd (omega (arith, s))
actor_is session phase action (p ∷ ps) l s = at (says_number action p.entry) refl ((p.session == session) && (p.phase == phase)) refl (actor_is session phase action ps) where
  a : times (is_that (change_at 0 action)) (action_change p.entry ++ each_of action_change ps) ≡ times (is_that (change_at 0 action)) (action_change p.entry) + times (is_that (change_at 0 action)) (each_of action_change ps)
  a = times_append (is_that (change_at 0 action)) (action_change p.entry) (each_of action_change ps)

  f : times (says_by session phase action) ps ≤ times (is_that (change_at 0 action)) (each_of action_change ps)
  f = said_counts session phase action ps

  few : times (is_that (change_at 0 action)) (each_of action_change ps) ≤ 1
  few = omega (arith, a, l)

  Go : Type 0
  Go = times (is_that (change_at 0 action)) (each_of action_change ps) ≤ 1 → IsSaid ps session phase action → session ≡ actor ps action

  positive : (n : ℕ) → nat_lt 0 n ≡ true → 1 ≤ n
  positive n q = grind arith

  later : (b : Bool) → ((p.session == session) && (p.phase == phase)) && says_number action p.entry ≡ b → b ≡ false → IsSaid ps session phase action
  later b q z = omega (arith, s, bit_no (((p.session == session) && (p.phase == phase)) && says_number action p.entry) (q ∙ z))

  at : (b : Bool) → says_number action p.entry ≡ b → (c : Bool) → ((p.session == session) && (p.phase == phase)) ≡ c → Go → session ≡ cond b p.session (actor ps action)
  at true q true r go = sym (eqb-true p.session session (and_parts _ _ r).0)
  at true q false r go =
      let o : 1 ≤ times (is_that (change_at 0 action)) (action_change p.entry) = positive _ q in
      let i : IsSaid ps session phase action = later false (ap (λ z. z && says_number action p.entry) r) refl in
      absurd (omega (arith, o, i, a, f, l))
  at false q true r go = go few (later false (ap (λ z. z && says_number action p.entry) r ∙ q) refl)
  at false q false r go = go few (later false (ap (λ z. z && says_number action p.entry) r) refl)
