-- One block more, listed for each session.
use Rattle.std.proofs.Common.{◌≡◌, refl, ℕ, ◌+◌, ◌<◌, ◌==◌, Bool, true, false, List, [], ◌∷◌, ◌++◌, cond, filter, length, take, get_or, sym, ◌∙◌, ap, subst, append_assoc, arith, Some, None}
use Rattle.std.specs.Prelude.{Vec}
use Rattle.std.specs.List.{flat_map}
use Rattle.std.specs.Ordering.{nat_cmp}
use Rattle.std.specs.BTreeMap.{BTreeMap, IsEmpty, Updates, UpdatesBy, get, is_at}
use Rattle.std.specs.Map.{lookup}
use Rattle.std.specs.declared.alloc.Global.{Global}
use Rattle.std.proofs.lemmas.Bool.{eqb-true}
use Rattle.std.proofs.lemmas.Bool.Decides.{nat_tests}
use Rattle.std.proofs.lemmas.List.{append-nil, take_more}
use Rattle.pfs_admin.specs.declared.changes.Change.{Change}
use Rattle.pfs_runs.specs.ScriptLines.{changes_in, changes_on, connect_changes}
use Rattle.pfs_script.specs.Marks.{written_out}
use Rattle.pfs_script.specs.declared.blocks.Block.{Block}
use Rattle.pfs_script.specs.declared.blocks.Phase.{Phase}
use Rattle.pfs_check_changes.specs.declared.actions.Actions.{Actions}
use Rattle.pfs_check_changes.specs.ActionNumbers.{AreListedTo, Grows, StandFor, items_or, numbers_at}
use Rattle.pfs_check_changes.proofs.StandingNumbers.{HasPut, none_stand, stand_grown}
use Rattle.pfs_check_changes.proofs.WrittenSteps.{flat_join}

same_key : (a b : ℕ) → is_at (nat_cmp a) b ≡ (a == b)
same_key a b = grind (arith, nat_tests)

-- a session's numbers are taken out, or put back; those of the others stay
pub taken_other : (session other : ℕ) (old new : BTreeMap ℕ (Vec ℕ Global)) → UpdatesBy nat_cmp (nat_cmp session) old new None → (session == other) ≡ false → numbers_at new other ≡ numbers_at old other
taken_other session other old new u h = ap items_or (u.2 other (same_key session other ∙ h))

pub kept_at : (session other : ℕ) (old new : BTreeMap ℕ (Vec ℕ Global)) (own : Vec ℕ Global) → Updates nat_cmp old new session (Some own) → numbers_at new other ≡ cond (session == other) own.items (numbers_at old other)
kept_at session other old new own u = ap items_or (u.0 other) ∙ at (is_at (nat_cmp session) other) ∙ ap (λ (b : Bool). cond b own.items (numbers_at old other)) (same_key session other) where
  at : (b : Bool) → items_or (cond b (Some own) (get nat_cmp old other)) ≡ cond b own.items (items_or (get nat_cmp old other))
  at true = refl
  at false = refl

-- the blocks of a session among these
abbrev pub own_blocks : ℕ → List Block → List Block
own_blocks session blocks = filter (λ (block : Block). block.session == session) blocks

own_behind : (session : ℕ) (blocks : List Block) (block : Block) → own_blocks session (blocks ++ block ∷ []) ≡ own_blocks session blocks ++ cond (block.session == session) (block ∷ []) []
own_behind session [] block = at (block.session == session) where
  at : (b : Bool) → (cond b (block ∷ []) []) ≡ cond b (block ∷ []) []
  at b = refl
own_behind session (one ∷ blocks) block = at (one.session == session) (own_behind session blocks block) where
  at : (b : Bool) → own_blocks session (blocks ++ block ∷ []) ≡ own_blocks session blocks ++ cond (block.session == session) (block ∷ []) []
      → cond b (one ∷ own_blocks session (blocks ++ block ∷ [])) (own_blocks session (blocks ++ block ∷ []))
      ≡ cond b (one ∷ own_blocks session blocks) (own_blocks session blocks) ++ cond (block.session == session) (block ∷ []) []
  at true e = ap (λ z. one ∷ z) e
  at false e = e

-- what a session's blocks change, with one more
own_made : (session : ℕ) (blocks : List Block) (block : Block)
    → flat_map changes_in (own_blocks session (blocks ++ block ∷ []))
    ≡ flat_map changes_in (own_blocks session blocks) ++ flat_map changes_in (cond (block.session == session) (block ∷ []) [])
own_made session blocks block =
    ap (flat_map changes_in) (own_behind session blocks block)
    ∙ flat_join changes_in (own_blocks session blocks) (cond (block.session == session) (block ∷ []) [])

-- the session has its block too, and the others have theirs
pub one_more : (blocks : List Block) (block : Block) (old new : Actions) (mid : BTreeMap ℕ (Vec ℕ Global)) (own : List ℕ) → AreListedTo blocks old
    → Grows old.changes.items new.changes.items
    → StandFor new.changes.items own (flat_map changes_in (own_blocks block.session blocks) ++ changes_in block)
    → ((other : ℕ) → (block.session == other) ≡ false → numbers_at mid other ≡ numbers_at old.numbers other)
    → ((other : ℕ) → numbers_at new.numbers other ≡ cond (block.session == other) own (numbers_at mid other))
    → AreListedTo (blocks ++ block ∷ []) new
one_more blocks block old new mid own are grows stand others kept session =
    subst (λ z. StandFor new.changes.items z (flat_map changes_in (own_blocks session (blocks ++ block ∷ [])))) (sym (kept session))
    (subst (StandFor new.changes.items (cond (block.session == session) own (numbers_at mid session))) (sym (own_made session blocks block))
    (at (block.session == session) refl)) where
      made : ℕ → List Change
      made other = flat_map changes_in (own_blocks other blocks)

      at : (b : Bool) → (block.session == session) ≡ b
          → StandFor new.changes.items (cond b own (numbers_at mid session)) (made session ++ flat_map changes_in (cond b (block ∷ []) []))
      at true e =
          subst (λ z. StandFor new.changes.items own (made session ++ z)) (sym (append-nil (changes_in block)))
          (subst (λ z. StandFor new.changes.items own (made z ++ changes_in block)) (eqb-true block.session session e) stand)
      at false e =
          subst (λ z. StandFor new.changes.items z (made session ++ [])) (sym (others session e))
          (subst (StandFor new.changes.items (numbers_at old.numbers session)) (sym (append-nil (made session)))
          (stand_grown old.changes.items new.changes.items (numbers_at old.numbers session) (made session) grows (are session)))

-- a session's numbers behind one block more
pub block_stands : (kept mid new : List Change) (numbers own more all : List ℕ) (made : List Change) (block : Block) → own ≡ numbers
    → HasPut kept own mid more (connect_changes block.connect) → HasPut mid more new all (flat_map changes_on (written_out block.lines))
    → StandFor kept numbers made → StandFor new all (made ++ changes_in block)
block_stands kept mid new numbers own more all made block same connect lines stand =
    subst (StandFor new all) (append_assoc made (connect_changes block.connect) (flat_map changes_on (written_out block.lines)))
    (lines (made ++ connect_changes block.connect) (connect made (subst (λ z. StandFor kept z made) (sym same) stand)))

-- a session has no numbers before the first block
pub none_listed : (actions : Actions) → IsEmpty actions.numbers → AreListedTo [] actions
none_listed actions empty session =
    subst (λ z. StandFor actions.changes.items z [])
    (sym (ap (λ (z : List (ℕ × Vec ℕ Global)). items_or (lookup (is_at (nat_cmp session)) z)) empty))
    (none_stand actions.changes.items)

-- a block more of those that were passed
pub blocks_more : (blocks said : List Block) (i : ℕ) (block : Block) (actions : Actions) → i < length said → block ≡ get_or said i block
    → AreListedTo ((blocks ++ take i said) ++ block ∷ []) actions → AreListedTo (blocks ++ take (i + 1) said) actions
blocks_more blocks said i block actions within is =
    subst (λ z. AreListedTo z actions)
    (append_assoc blocks (take i said) (block ∷ [])
    ∙ ap (λ z. blocks ++ z) (ap (λ z. take i said ++ z ∷ []) is ∙ sym (take_more said i block within)))

pub phases_more : (phases : List Phase) (i : ℕ) (phase : Phase) (actions : Actions) → i < length phases → phase ≡ get_or phases i phase
    → AreListedTo (flat_map (λ (one : Phase). one.blocks) (take i phases) ++ phase.blocks) actions
    → AreListedTo (flat_map (λ (one : Phase). one.blocks) (take (i + 1) phases)) actions
phases_more phases i phase actions within is =
    let blocks : Phase → List Block = λ one. one.blocks in
    subst (λ z. AreListedTo z actions)
    (ap (λ z. flat_map blocks (take i phases) ++ z) (sym (append-nil phase.blocks))
    ∙ sym (flat_join blocks (take i phases) (phase ∷ []))
    ∙ ap (flat_map blocks) (ap (λ z. take i phases ++ z ∷ []) is ∙ sym (take_more phases i phase within)))
