-- What an action does: its other changes, and then its sets.
use Rattle.std.proofs.Common.{◌≡◌, refl, ℕ, zero, suc, ◌+◌, ◌<◌, ◌≤◌, ◌==◌, Bool, true, false, ◌&&◌, cond, nat_lt, nat_le, List, [], ◌∷◌, ◌++◌, sym, ◌∙◌, ap, subst, ◌⊎◌, inl, inr, arith}
use Rattle.std.proofs.lemmas.Bool.{eqb-true}
use Rattle.pfs_event.specs.declared.entry.Entry.{Entry}
use Rattle.pfs_event.specs.declared.entry.Entry.TheVariants as says
use Rattle.pfs_model.specs.declared.lines.Line.{Line}
use Rattle.pfs_model.specs.ActionAsks.{Did, did, of_action}
use Rattle.pfs_model.specs.Chains.{IsChained, action_change, change_at, each_of, is_of, is_that, times}
use Rattle.pfs_model.specs.Contexts.{Context, after, fresh, noted, subject_of, turned}
use Rattle.pfs_model.specs.EntryAsks.{is_set}
use Rattle.pfs_model.specs.EntryPlaces.{AreShapedBehind, Block, Placed, placed_lines, placed_part, places, places_behind, told_by}
use Rattle.pfs_model.specs.JournalCuts.{AreShaped}
use Rattle.pfs_model.specs.Shapes.{shape}
use Rattle.pfs_model.proofs.ChainGrowth.{times_append}
use Rattle.pfs_model.proofs.LineWalks.{IsNoted, noted_is}
use Rattle.pfs_check_faults.specs.ActionFaults.{flagging_at, moving_at}
use Rattle.pfs_check_faults.proofs.ChainFacts.{all_phases, that_self, top}
use Rattle.pfs_law_acted.specs.ActedParts.{ActedLaw, IdleLaw}
use Rattle.pfs_law_acted.proofs.SetsLast.{SetsLast, cut_last, shape_last}

each_append : {A : Type 0} (given : Entry → List A) (xs ys : List Placed) → each_of given (xs ++ ys) ≡ each_of given xs ++ each_of given ys
each_append given [] ys = refl
each_append {A} given (x ∷ xs) ys =
    ap (λ z. given x.entry ++ z) (each_append given xs ys) ∙ assoc (given x.entry) (each_of given xs) (each_of given ys) where
      assoc : (us vs ws : List A) → us ++ (vs ++ ws) ≡ (us ++ vs) ++ ws
      assoc [] vs ws = refl
      assoc (u ∷ us) vs ws = ap (λ z. u ∷ z) (assoc us vs ws)

action_append : (number : ℕ) (xs ys : List Placed) → of_action number (xs ++ ys) ≡ of_action number xs ++ of_action number ys
action_append number [] ys = refl
action_append number (x ∷ xs) ys = at (x.context.action == number) (action_append number xs ys) where
  at : (b : Bool) → of_action number (xs ++ ys) ≡ of_action number xs ++ of_action number ys
      → cond b (x ∷ []) [] ++ of_action number (xs ++ ys) ≡ (cond b (x ∷ []) [] ++ of_action number xs) ++ of_action number ys
  at true e = ap (λ z. x ∷ z) e
  at false e = e

append_none : {A : Type 0} (xs : List A) → xs ++ [] ≡ xs
append_none [] = refl
append_none (x ∷ xs) = ap (λ z. x ∷ z) (append_none xs)

-- its other changes, and then its sets
abbrev InTwo : List Placed → Type 0
InTwo own = each_of did own ≡ each_of moving_at own ++ each_of flagging_at own

said : ℕ → List Placed → ℕ
said number xs = times (is_that (change_at 0 number)) (each_of action_change xs)

-- Where no entry says its number, an action has none; and where one does, they stand in two parts.
record IsActed (number : ℕ) (xs : List Placed) : Type 0 where
  none : said number xs ≡ 0 → of_action number xs ≡ []
  two : said number xs ≤ 1 → InTwo (of_action number xs)

said_append : (number : ℕ) (xs ys : List Placed) → said number (xs ++ ys) ≡ said number xs + said number ys
unfolding said
said_append number xs ys =
    ap (times (is_that (change_at 0 number))) (each_append action_change xs ys)
    ∙ times_append (is_that (change_at 0 number)) (each_of action_change xs) (each_of action_change ys)

acted_join : (number : ℕ) (xs ys : List Placed) → IsActed number xs → IsActed number ys → IsActed number (xs ++ ys)
acted_join number xs ys a b = record { none = none; two = two } where
  both : said number (xs ++ ys) ≡ said number xs + said number ys
  both = said_append number xs ys

  none : said number (xs ++ ys) ≡ 0 → of_action number (xs ++ ys) ≡ []
  none e =
      action_append number xs ys ∙ ap (λ z. z ++ of_action number ys) (a.none (omega (arith, e, both))) ∙ b.none (omega (arith, e, both))

  two : said number (xs ++ ys) ≤ 1 → InTwo (of_action number (xs ++ ys))
  two few = on (said number xs) refl where
    on : (n : ℕ) → said number xs ≡ n → InTwo (of_action number (xs ++ ys))
    on zero e =
        subst InTwo (sym (action_append number xs ys ∙ ap (λ z. z ++ of_action number ys) (a.none e))) (b.two (omega (arith, few, both)))
    on (suc n) e =
        let last : of_action number ys ≡ [] = b.none (omega (arith, few, both, e)) in
        subst InTwo
        (sym (action_append number xs ys ∙ ap (λ z. of_action number xs ++ z) last ∙ append_none (of_action number xs))) (a.two (omega (arith, few, both)))

-- an entry is a set, or another change, or none
abbrev IsOneKind : Entry → Type 0
IsOneKind entry = ((is_set entry ≡ false) × (flagging_at entry ≡ []) × (did entry ≡ moving_at entry))
    ⊎ ((is_set entry ≡ true) × (moving_at entry ≡ []) × (did entry ≡ flagging_at entry))

one_kind : (entry : Entry) → IsOneKind entry
one_kind (says.Take row version) = inl (refl, refl, refl)
one_kind (says.Give row version from) = inl (refl, refl, refl)
one_kind (says.Free row version) = inl (refl, refl, refl)
one_kind (says.Tag row version) = inl (refl, refl, refl)
one_kind (says.Set word version flags) = inr (refl, refl, refl)
one_kind _ = inl (refl, refl, refl)

-- of the entries of one line
module _ (number phase session : ℕ) (line : Line) where
  part : Context → List Entry → List Placed
  part context entries = of_action number (placed_part phase session line context entries)

  -- behind a set
  part_sets : (context : Context) (entries : List Entry) → SetsLast true entries
      → (each_of moving_at (part context entries) ≡ []) × (each_of did (part context entries) ≡ each_of flagging_at (part context entries))
  unfolding part
  part_sets context [] s = (refl, refl)
  part_sets context (entry ∷ entries) s =
      on (context.action == number) (part_sets (noted (subject_of line) context entry) entries s.1) (same (one_kind entry)) where
        rest : List Placed
        rest = of_action number (placed_part phase session line (noted (subject_of line) context entry) entries)

        own : Placed
        own = record { phase = phase; session = session; line = line; context = context; entry = entry }

        same : IsOneKind entry → did entry ≡ flagging_at entry
        same (inl k) = k.2 ∙ s.0 ∙ sym k.1
        same (inr k) = k.2

        on : (b : Bool) → (each_of moving_at rest ≡ []) × (each_of did rest ≡ each_of flagging_at rest) → did entry ≡ flagging_at entry
            → (each_of moving_at (cond b (own ∷ []) [] ++ rest) ≡ [])
            × (each_of did (cond b (own ∷ []) [] ++ rest) ≡ each_of flagging_at (cond b (own ∷ []) [] ++ rest))
        on true h e = (ap (λ z. z ++ each_of moving_at rest) s.0 ∙ h.0, ap (λ z. z ++ each_of did rest) e ∙ ap (λ z. flagging_at entry ++ z) h.1)
        on false h e = h

  part_two : (context : Context) (entries : List Entry) → SetsLast false entries → InTwo (part context entries)
  unfolding part
  part_two context [] s = refl
  part_two context (entry ∷ entries) s = by (one_kind entry) (part_two (noted (subject_of line) context entry) entries) where
    rest : List Placed
    rest = of_action number (placed_part phase session line (noted (subject_of line) context entry) entries)

    own : Placed
    own = record { phase = phase; session = session; line = line; context = context; entry = entry }

    assoc : (us vs ws : List Did) → us ++ (vs ++ ws) ≡ (us ++ vs) ++ ws
    assoc [] vs ws = refl
    assoc (u ∷ us) vs ws = ap (λ z. u ∷ z) (assoc us vs ws)

    move : (b : Bool) → InTwo rest → flagging_at entry ≡ [] → did entry ≡ moving_at entry → InTwo (cond b (own ∷ []) [] ++ rest)
    move true h f e =
        ap (λ z. z ++ each_of did rest) e ∙ ap (λ z. moving_at entry ++ z) h
        ∙ assoc (moving_at entry) (each_of moving_at rest) (each_of flagging_at rest)
        ∙ ap (λ z. (moving_at entry ++ each_of moving_at rest) ++ (z ++ each_of flagging_at rest)) (sym f)
    move false h f e = h

    set : (b : Bool) → (each_of moving_at rest ≡ []) × (each_of did rest ≡ each_of flagging_at rest) → moving_at entry ≡ [] → did entry ≡ flagging_at entry
        → InTwo (cond b (own ∷ []) [] ++ rest)
    set true h m e =
        ap (λ z. z ++ each_of did rest) e ∙ ap (λ z. flagging_at entry ++ z) h.1
        ∙ ap (λ z. z ++ (flagging_at entry ++ each_of flagging_at rest)) (sym (ap (λ z. z ++ each_of moving_at rest) m ∙ h.0))
    set false h m e = h.1 ∙ ap (λ z. z ++ each_of flagging_at rest) (sym h.0)

    by : IsOneKind entry → (SetsLast false entries → InTwo rest) → InTwo (cond (context.action == number) (own ∷ []) [] ++ rest)
    by (inl k) go = move (context.action == number) (go (subst (λ b. SetsLast b entries) k.0 s)) k.1 k.2
    by (inr k) go = set (context.action == number) (part_sets (noted (subject_of line) context entry) entries (subst (λ b. SetsLast b entries) k.0 s)) k.1 k.2

  part_none : (context : Context) (entries : List Entry) → (context.action ≡ number → ⊥) → said number (placed_part phase session line context entries) ≡ 0
      → part context entries ≡ []
  unfolding part said
  part_none context [] other e = refl
  part_none context (entry ∷ entries) other e =
      on (context.action == number) refl (part_none (noted (subject_of line) context entry) entries (goes (noted_is (subject_of line) context entry)) left) where
        own : times (is_that (change_at 0 number)) (action_change entry) ≡ 0
        own = omega (
          arith,
          e,
          times_append (is_that (change_at 0 number)) (action_change entry) (each_of action_change (placed_part phase session line (noted (subject_of line) context entry) entries)),
        )

        left : times (is_that (change_at 0 number)) (each_of action_change (placed_part phase session line (noted (subject_of line) context entry) entries)) ≡ 0
        left = omega (
          arith,
          e,
          times_append (is_that (change_at 0 number)) (action_change entry) (each_of action_change (placed_part phase session line (noted (subject_of line) context entry) entries)),
        )

        goes : IsNoted (subject_of line) context entry → (noted (subject_of line) context entry).action ≡ number → ⊥
        goes (inl k) q = other (sym k.1 ∙ q)
        goes (inr k) q =
            let one : times (is_that (change_at 0 number)) (action_change entry) ≡ 1 =
            ap (times (is_that (change_at 0 number))) (k.1 ∙ ap (λ z. change_at 0 z ∷ []) (sym k.2 ∙ q)) ∙ ap (λ b. cond {A = ℕ} b 1 0 + 0) (that_self (change_at 0 number)) in
            omega (arith, one, own)

        on : (b : Bool) → (context.action == number) ≡ b
            → of_action number (placed_part phase session line (noted (subject_of line) context entry) entries) ≡ []
            → cond b (record { phase = phase; session = session; line = line; context = context; entry = entry } ∷ []) []
            ++ of_action number (placed_part phase session line (noted (subject_of line) context entry) entries) ≡ []
        on true q rest = absurd (other (eqb-true context.action number q))
        on false q rest = rest

-- of the entries of blocks
lines_acted : (number phase session : ℕ) (context : Context) (lines : List Line) (parts : List (List Entry)) → 0 < number → AreShaped context lines parts
    → IsActed number (placed_lines phase session context lines parts)
unfolding part
lines_acted number phase session context [] parts some s = record { none = λ e. refl; two = λ few. refl }
lines_acted number phase session context (line ∷ lines) [] some s = record { none = λ e. refl; two = λ few. refl }
lines_acted number phase session context (line ∷ lines) (own ∷ parts) some s =
    acted_join number (placed_part phase session line (turned context) own) (placed_lines phase session (after context line own) lines parts)
    (record {
      none = part_none number phase session line (turned context) own other;
      two = λ few. part_two number phase session line (turned context) own (cut_last (shape context line) own (shape_last context line) s.0);
    }) (lines_acted number phase session (after context line own) lines parts some s.1) where
      other : 0 ≡ number → ⊥
      other e = omega (arith, e, some)

blocks_acted : (number : ℕ) (earlier blocks : List Block) (phase : ℕ) → 0 < number → AreShapedBehind earlier phase blocks
    → IsActed number (places_behind earlier blocks)
unfolding places_behind
blocks_acted number earlier [] phase some s = record { none = λ e. refl; two = λ few. refl }
blocks_acted number earlier (block ∷ blocks) phase some s =
    acted_join number (placed_lines block.phase block.session (told_by block.session fresh earlier) block.lines block.parts)
    (places_behind (earlier ++ block ∷ []) blocks)
    (lines_acted number block.phase block.session (told_by block.session fresh earlier) block.lines block.parts some s.1)
    (blocks_acted number (earlier ++ block ∷ []) blocks block.phase some s.2)

pub acted : ActedLaw
unfolding said
acted blocks number shaped chained some = (blocks_acted number [] blocks 0 some shaped).two (few (whole (change_at 0 number))) where
  whole : IsChained (each_of action_change (places blocks))
  whole = subst (λ z. IsChained (each_of action_change z)) (all_phases (places blocks)) (chained (top (places blocks)))

  bit : (b : Bool) → cond {A = ℕ} b 1 0 ≤ 1
  bit true = omega arith
  bit false = omega arith

  few : times (is_that (change_at 0 number)) (each_of action_change (places blocks))
      ≡ cond (nat_lt 0 number && nat_le number (times (is_of 0) (each_of action_change (places blocks)))) 1 0
      → times (is_that (change_at 0 number)) (each_of action_change (places blocks)) ≤ 1
  few e = omega (arith, e, bit (nat_lt 0 number && nat_le number (times (is_of 0) (each_of action_change (places blocks)))))

pub idle : IdleLaw
unfolding said
idle blocks number shaped some none = (blocks_acted number [] blocks 0 some shaped).none none
