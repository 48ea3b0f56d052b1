-- What an entry's context tells, of the entries before it: who began its action, and what its give gives.
use Rattle.std.proofs.Common.{◌≡◌, refl, ℕ, ◌<◌, ◌≤◌, ◌==◌, Bool, true, false, cond, List, [], ◌∷◌, ◌++◌, sym, ◌∙◌, ap, subst, ◌⊎◌, inl, inr, arith, Some}
use Rattle.std.specs.Prelude.{Option}
use Rattle.std.proofs.lemmas.Bool.Decides.{nat_tests}
use Rattle.pfs_event.specs.declared.entry.Entry.{Entry}
use Rattle.pfs_event.specs.declared.entry.Entry.TheVariants as says
use Rattle.pfs_model.specs.declared.changes.Change.{Change}
use Rattle.pfs_model.specs.declared.lines.Line.{Line}
use Rattle.pfs_model.specs.declared.lines.Subject.{Subject}
use Rattle.pfs_model.specs.Actions.{AllAbove, AreRising, IsAmong, is_acted, numbers_by}
use Rattle.pfs_model.specs.Chains.{action_change, change_at}
use Rattle.pfs_model.specs.Contexts.{Context, after, fresh, noted, subject_of, turned}
use Rattle.pfs_model.specs.EntryPlaces.{AreShapedBehind, Block, Placed, placed_lines, placed_part, places, places_behind, told_by}
use Rattle.pfs_model.specs.JournalCuts.{AreShaped}
use Rattle.pfs_model.specs.Shapes.{shape}
use Rattle.pfs_model.proofs.ActionGuards.{Guarded, begins, cut_guarded, shape_guards}
use Rattle.pfs_model.proofs.EachLists.{each_behind, each_front}
use Rattle.pfs_model.proofs.LineWalks.{IsNoted, noted_is, past}

-- the session's entry that says the action's number
abbrev pub IsBegun : List Placed → ℕ → ℕ → Type 0
IsBegun earlier session action =
    0 < action → (place : Placed) × IsAmong place earlier × (place.session ≡ session) × (action_change place.entry ≡ change_at 0 action ∷ [])

-- the take of what is given
pub record IsTakenIn (earlier : List Placed) (context : Context) (from : ℕ) : Type 0 where
  pub place : Placed
  pub there : IsAmong place earlier
  pub take_is : place.entry ≡ says.Take from context.source_version
  pub acted : 0 < place.context.action
  pub low : place.context.action ≤ context.action

abbrev pub HasSourceIn : List Placed → Context → Type 0
HasSourceIn earlier context = (from : ℕ) → context.source ≡ Some from → IsTakenIn earlier context from

pub record IsPlaced (earlier : List Placed) (place : Placed) : Type 0 where
  pub acted : is_acted place.entry ≡ true → 0 < place.context.action
  pub begun : IsBegun earlier place.session place.context.action
  pub source : HasSourceIn earlier place.context

abbrev pub Walked : List Placed → List Placed → Type 0
Walked earlier [] = Unit {0}
Walked earlier (place ∷ places) = IsPlaced earlier place × Walked (place ∷ earlier) places

walked_join : (earlier xs ys : List Placed) → Walked earlier xs → Walked (past earlier xs) ys → Walked earlier (xs ++ ys)
walked_join earlier [] ys v w = w
walked_join earlier (x ∷ xs) ys v w = (v.0, walked_join (x ∷ earlier) xs ys v.1 w)

-- what an entry says of the source
abbrev pub SourceNoted : Option Subject → Context → Entry → Type 0
SourceNoted subject context entry =
    ((row : ℕ) × (version : ℕ) × (entry ≡ says.Take row version) × ((noted subject context entry).source ≡ Some row) × ((noted subject context entry).source_version ≡ version))
    ⊎ (((noted subject context entry).source ≡ context.source) × ((noted subject context entry).source_version ≡ context.source_version))

source_noted : (subject : Option Subject) (context : Context) (entry : Entry) → SourceNoted subject context entry
source_noted subject context (says.Take row version) = inl (row, version, refl, refl, refl)
source_noted subject context (says.Connect action thread account user host) = inr (refl, refl)
source_noted subject context (says.Act action) = inr (refl, refl)
source_noted subject context (says.Start event verdict consumers thread class table) = inr (refl, refl)
source_noted subject context (says.End event last consumers thread) = inr (refl, refl)
source_noted subject context (says.Held row first second) = inr (refl, refl)
source_noted subject context (says.Add row version) = inr (refl, refl)
source_noted subject context says.Settle = inr (refl, refl)
source_noted subject context _ = inr (refl, refl)

none_begins : (e : Entry) → action_change e ≡ [] → begins e ≡ false
none_begins (says.Connect action thread account user host) n = absurd (cc)
none_begins (says.Act action) n = absurd (cc)
none_begins _ n = refl

guarded_true : (entries : List Entry) → Guarded true entries
guarded_true [] = tt
guarded_true (entry ∷ entries) = tt

-- the source behind an entry
source_next : (subject : Option Subject) (place : Placed) (earlier : List Placed) → (is_acted place.entry ≡ true → 0 < place.context.action)
    → place.context.action ≤ (noted subject place.context place.entry).action → HasSourceIn earlier place.context
    → HasSourceIn (place ∷ earlier) (noted subject place.context place.entry)
source_next subject place earlier acted up has from e = on (source_noted subject place.context place.entry) where
  same_some : (m n : ℕ) → Some m ≡ Some n → m ≡ n
  same_some m n e = cc

  on : SourceNoted subject place.context place.entry → IsTakenIn (place ∷ earlier) (noted subject place.context place.entry) from
  on (inl (row, version, take, row_is, version_is)) = record {
    place = place;
    there = inl refl;
    take_is = take ∙ ap (λ z. says.Take z version) (same_some row from (sym row_is ∙ e)) ∙ ap (says.Take from) (sym version_is);
    acted = acted (ap is_acted take);
    low = up;
  }
  on (inr (source, version)) =
      let h : IsTakenIn earlier place.context from = has from (sym source ∙ e) in
      record {
        place = h.place;
        there = inr h.there;
        take_is = h.take_is ∙ ap (says.Take from) (sym version);
        acted = h.acted;
        low = omega (arith, h.low, up);
      }

-- whether an action has begun behind an entry, and the numbers behind it
abbrev acted_next : Bool → Entry → Bool
acted_next true entry = true
acted_next false entry = begins entry

abbrev numbers_rest : ℕ → ℕ → Line → Context → Entry → List Entry → List Change
numbers_rest phase session line context entry entries = numbers_by session (placed_part phase session line (noted (subject_of line) context entry) entries)

part_walked : (phase session : ℕ) (line : Line) (context : Context) (entries : List Entry) (earlier : List Placed) (acted : Bool) → Guarded acted entries
    → (acted ≡ true → 0 < context.action) → IsBegun earlier session context.action → HasSourceIn earlier context
    → AllAbove context.action (numbers_by session (placed_part phase session line context entries))
    → AreRising (numbers_by session (placed_part phase session line context entries))
    → Walked earlier (placed_part phase session line context entries)
part_walked phase session line context [] earlier acted g a b s above rising = tt
part_walked phase session line context (entry ∷ entries) earlier acted g a b s above rising =
    (placed, on (noted_is (subject_of line) context entry) (part_walked phase session line (noted (subject_of line) context entry) entries (place ∷ earlier) (acted_next acted entry))) where
      place : Placed
      place = record { phase = phase; session = session; line = line; context = context; entry = entry }

      now : (acted : Bool) → Guarded acted (entry ∷ entries) → (acted ≡ true → 0 < context.action) → is_acted entry ≡ true → 0 < context.action
      now true g a e = a refl
      now false g a e = absurd (no (sym g.0 ∙ e)) where
        no : false ≡ true → ⊥
        no f = cc

      guarded : (acted : Bool) → Guarded acted (entry ∷ entries) → Guarded (acted_next acted entry) entries
      guarded true g = guarded_true entries
      guarded false g = g.1

      placed : IsPlaced earlier place
      placed = record { acted = now acted g a; begun = b; source = s }

      numbers : (changes : List Change) → action_change entry ≡ changes → numbers_by session (placed_part phase session line context (entry ∷ entries)) ≡ changes ++ (numbers_rest phase session line context entry entries)
      numbers changes e = ap (λ b. cond b (action_change entry) [] ++ (numbers_rest phase session line context entry entries)) (self session) ∙ ap (λ z. z ++ (numbers_rest phase session line context entry entries)) e where
        self : (n : ℕ) → (n == n) ≡ true
        self n = grind (arith, nat_tests)

      stays : (acted : Bool) → (acted ≡ true → 0 < context.action) → begins entry ≡ false → acted_next acted entry ≡ true → 0 < context.action
      stays true a q e = a refl
      stays false a q e = absurd (no (sym q ∙ e)) where
        no : false ≡ true → ⊥
        no f = cc

      on : IsNoted (subject_of line) context entry
          → (Guarded (acted_next acted entry) entries → (acted_next acted entry ≡ true → 0 < (noted (subject_of line) context entry).action)
          → IsBegun (place ∷ earlier) session (noted (subject_of line) context entry).action → HasSourceIn (place ∷ earlier) (noted (subject_of line) context entry)
          → AllAbove (noted (subject_of line) context entry).action (numbers_rest phase session line context entry entries) → AreRising (numbers_rest phase session line context entry entries)
          → Walked (place ∷ earlier) (placed_part phase session line (noted (subject_of line) context entry) entries))
          → Walked (place ∷ earlier) (placed_part phase session line (noted (subject_of line) context entry) entries)
      on (inl k) go =
          let same : (noted (subject_of line) context entry).action ≡ context.action = k.1 in
          go (guarded acted g)
          (λ e. let h : 0 < context.action = stays acted a (none_begins entry k.0) e in omega (arith, h, same))
          (λ some. let h : (q : Placed) × IsAmong q earlier × (q.session ≡ session) × (action_change q.entry ≡ change_at 0 context.action ∷ []) = b (omega (arith, some, same)) in
          (h.0, inr h.1, h.2, h.3 ∙ ap (λ z. change_at 0 z ∷ []) (sym same)))
          (source_next (subject_of line) place earlier (now acted g a) (omega (arith, same)) s)
          (subst (λ z. AllAbove z (numbers_rest phase session line context entry entries)) (sym same) (subst (AllAbove context.action) (numbers [] k.0) above))
          (subst AreRising (numbers [] k.0) rising)
      on (inr (n, q, same, done)) go =
          let both : AllAbove context.action (change_at 0 n ∷ (numbers_rest phase session line context entry entries)) = subst (AllAbove context.action) (numbers (change_at 0 n ∷ []) q) above in
          let rises : AreRising (change_at 0 n ∷ (numbers_rest phase session line context entry entries)) = subst AreRising (numbers (change_at 0 n ∷ []) q) rising in
          let up : context.action < n = both.0 in
          go (guarded acted g)
          (λ e. omega (arith, up, same))
          (λ some. (place, inl refl, refl, q ∙ ap (λ z. change_at 0 z ∷ []) (sym same)))
          (source_next (subject_of line) place earlier (now acted g a) (omega (arith, up, same)) s)
          (subst (λ z. AllAbove z (numbers_rest phase session line context entry entries)) (sym same) rises.0)
          rises.1

numbers_join : (session : ℕ) (xs ys : List Placed) → numbers_by session (xs ++ ys) ≡ numbers_by session xs ++ numbers_by session ys
numbers_join session [] ys = refl
numbers_join session (x ∷ xs) ys =
    ap (λ z. cond (x.session == session) (action_change x.entry) [] ++ z) (numbers_join session xs ys)
    ∙ assoc (cond (x.session == session) (action_change x.entry) []) (numbers_by session xs) (numbers_by session ys) where
      assoc : (us vs ws : List Change) → us ++ (vs ++ ws) ≡ (us ++ vs) ++ ws
      assoc [] vs ws = refl
      assoc (u ∷ us) vs ws = ap (λ z. u ∷ z) (assoc us vs ws)

rising_front : (us vs : List Change) → AreRising (us ++ vs) → AreRising us
rising_front [] vs r = tt
rising_front (u ∷ us) vs r = (each_front (λ (z : Change). u.version < z.version) us vs r.0, rising_front us vs r.1)

rising_behind : (us vs : List Change) → AreRising (us ++ vs) → AreRising vs
rising_behind [] vs r = r
rising_behind (u ∷ us) vs r = rising_behind us vs r.1

-- numbers of a session that rise, each above 0
pub record AreNumbers (session : ℕ) (xs : List Placed) : Type 0 where
  pub above : AllAbove 0 (numbers_by session xs)
  pub rising : AreRising (numbers_by session xs)

front_numbers : (session : ℕ) (xs ys : List Placed) → AreNumbers session (xs ++ ys) → AreNumbers session xs
front_numbers session xs ys n = record {
  above = each_front (λ (z : Change). 0 < z.version) (numbers_by session xs) (numbers_by session ys) (subst (AllAbove 0) (numbers_join session xs ys) n.above);
  rising = rising_front (numbers_by session xs) (numbers_by session ys) (subst AreRising (numbers_join session xs ys) n.rising);
}

behind_numbers : (session : ℕ) (xs ys : List Placed) → AreNumbers session (xs ++ ys) → AreNumbers session ys
behind_numbers session xs ys n = record {
  above = each_behind (λ (z : Change). 0 < z.version) (numbers_by session xs) (numbers_by session ys) (subst (AllAbove 0) (numbers_join session xs ys) n.above);
  rising = rising_behind (numbers_by session xs) (numbers_by session ys) (subst AreRising (numbers_join session xs ys) n.rising);
}

lines_walked : (phase session : ℕ) (context : Context) (lines : List Line) (parts : List (List Entry)) (earlier : List Placed) → AreShaped context lines parts
    → AreNumbers session (placed_lines phase session context lines parts) → Walked earlier (placed_lines phase session context lines parts)
lines_walked phase session context [] parts earlier s n = tt
lines_walked phase session context (line ∷ lines) [] earlier s n = tt
lines_walked phase session context (line ∷ lines) (part ∷ parts) earlier s n =
    let front : AreNumbers session (placed_part phase session line (turned context) part) =
    front_numbers session (placed_part phase session line (turned context) part) (placed_lines phase session (after context line part) lines parts) n in
    walked_join earlier (placed_part phase session line (turned context) part) (placed_lines phase session (after context line part) lines parts)
    (part_walked phase session line (turned context) part earlier false (cut_guarded (shape context line) part (shape_guards context line) s.0)
    (λ e. absurd (no e)) (λ some. absurd (omega (arith, some))) (λ from e. absurd (none from e)) front.above front.rising)
    (lines_walked phase session (after context line part) lines parts (past earlier (placed_part phase session line (turned context) part)) s.1
    (behind_numbers session (placed_part phase session line (turned context) part) (placed_lines phase session (after context line part) lines parts) n)) where
      no : false ≡ true → ⊥
      no f = cc

      none : (from : ℕ) → (turned context).source ≡ Some from → ⊥
      none from e = cc

blocks_walked : (earlier_blocks blocks : List Block) (phase : ℕ) (earlier : List Placed) → AreShapedBehind earlier_blocks phase blocks
    → ((session : ℕ) → AreNumbers session (places_behind earlier_blocks blocks)) → Walked earlier (places_behind earlier_blocks blocks)
unfolding places_behind
blocks_walked earlier_blocks [] phase earlier s n = tt
blocks_walked earlier_blocks (block ∷ blocks) phase earlier s n =
    walked_join earlier (placed_lines block.phase block.session (told_by block.session fresh earlier_blocks) block.lines block.parts)
    (places_behind (earlier_blocks ++ block ∷ []) blocks)
    (lines_walked block.phase block.session (told_by block.session fresh earlier_blocks) block.lines block.parts earlier s.1
    (front_numbers block.session (placed_lines block.phase block.session (told_by block.session fresh earlier_blocks) block.lines block.parts)
    (places_behind (earlier_blocks ++ block ∷ []) blocks) (n block.session)))
    (blocks_walked (earlier_blocks ++ block ∷ []) blocks block.phase
    (past earlier (placed_lines block.phase block.session (told_by block.session fresh earlier_blocks) block.lines block.parts)) s.2
    (λ session. behind_numbers session (placed_lines block.phase block.session (told_by block.session fresh earlier_blocks) block.lines block.parts)
    (places_behind (earlier_blocks ++ block ∷ []) blocks) (n session)))

pub all_walked : (blocks : List Block) → AreShapedBehind [] 0 blocks → ((session : ℕ) → AreNumbers session (places blocks)) → Walked [] (places blocks)
all_walked blocks s n = blocks_walked [] blocks 0 [] s n
