-- What an action does stands in one phase: all of it up to a phase where its number stands there, and else nothing.
use Rattle.std.proofs.Common.{◌≡◌, refl, ℕ, ◌+◌, ◌<◌, ◌≤◌, ◌==◌, ◌&&◌, Bool, true, false, cond, nat_lt, nat_le, List, [], ◌∷◌, ◌++◌, length, sym, ap, subst, ◌∙◌, inl, inr, arith}
use Rattle.std.proofs.lemmas.Bool.{eqb-true}
use Rattle.pfs_event.specs.declared.entry.Entry.{Entry}
use Rattle.pfs_event.specs.declared.entry.Entry.TheVariants as says
use Rattle.pfs_model.specs.Actions.{is_acted}
use Rattle.pfs_model.specs.ActionAsks.{Did, did, of_action}
use Rattle.pfs_model.specs.Chains.{Each, times, change_at, action_change, each_of, is_of, is_that, AreChained}
use Rattle.pfs_model.specs.EntryPlaces.{Placed, up_to_phase}
use Rattle.pfs_model.proofs.ChainGrowth.{times_append}
use Rattle.pfs_law_conservation.proofs.LineVersions.{chain_one}
use Rattle.pfs_law_conservation.proofs.ActionJournals.{says_number, says_by, IsSaid, HasNumber, said_to, said_range, says_few, zero_rows}
use Rattle.pfs_law_conservation.proofs.RowLines.{bit_yes, bit_no}

pub none_did : (e : Entry) → is_acted e ≡ false → did e ≡ []
none_did (says.Take row version) f = absurd (cc)
none_did (says.Give row version from) f = absurd (cc)
none_did (says.Tag row version) f = absurd (cc)
none_did (says.Free row version) f = absurd (cc)
none_did (says.Set word version flags) f = absurd (cc)
none_did _ f = refl

-- what is done by an action, among entries that do nothing of it or stand up to the phase
pub did_same : (phase action : ℕ) (ps : List Placed) → Each (λ (p : Placed). (p.context.action == action) ≡ true → is_acted p.entry ≡ true → nat_le p.phase phase ≡ true) ps
    → each_of did (of_action action (up_to_phase phase ps)) ≡ each_of did (of_action action ps)
did_same phase action [] h = refl
did_same phase action (p ∷ ps) h = at (nat_le p.phase phase) refl (p.context.action == action) refl (did_same phase action ps h.1) where
  here : (b : Bool) → (p.context.action == action) ≡ b → each_of did (of_action action (p ∷ ps)) ≡ cond b (did p.entry) [] ++ each_of did (of_action action ps)
  here true r = ap (λ z. each_of did (cond z (p ∷ []) [] ++ of_action action ps)) r
  here false r = ap (λ z. each_of did (cond z (p ∷ []) [] ++ of_action action ps)) r

  same : (b : Bool) → (p.context.action == action) ≡ b → each_of did (of_action action (p ∷ up_to_phase phase ps)) ≡ cond b (did p.entry) [] ++ each_of did (of_action action (up_to_phase phase ps))
  same true r = ap (λ z. each_of did (cond z (p ∷ []) [] ++ of_action action (up_to_phase phase ps))) r
  same false r = ap (λ z. each_of did (cond z (p ∷ []) [] ++ of_action action (up_to_phase phase ps))) r

  join : (b : Bool) → each_of did (of_action action (up_to_phase phase ps)) ≡ each_of did (of_action action ps) → cond b (did p.entry) [] ++ each_of did (of_action action (up_to_phase phase ps)) ≡ cond b (did p.entry) [] ++ each_of did (of_action action ps)
  join b ih = ap (λ (z : List Did). cond b (did p.entry) [] ++ z) ih

  empty : (p.context.action == action) ≡ true → nat_le p.phase phase ≡ false → did p.entry ≡ []
  empty r q = on (is_acted p.entry) refl where
    on : (b : Bool) → is_acted p.entry ≡ b → did p.entry ≡ []
    on true a = let l : nat_le p.phase phase ≡ true = h.0 r a in absurd (cc)
    on false a = none_did p.entry a

  at : (b : Bool) → nat_le p.phase phase ≡ b → (c : Bool) → (p.context.action == action) ≡ c → each_of did (of_action action (up_to_phase phase ps)) ≡ each_of did (of_action action ps)
      → each_of did (of_action action (cond b (p ∷ []) [] ++ up_to_phase phase ps)) ≡ each_of did (of_action action (p ∷ ps))
  at true q c r ih = same c r ∙ (join c ih ∙ sym (here c r))
  at false q true r ih = ih ∙ sym (here true r ∙ ap (λ (z : List Did). z ++ each_of did (of_action action ps)) (empty r q))
  at false q false r ih = ih ∙ sym (here false r)

pub did_none : (phase action : ℕ) (ps : List Placed) → Each (λ (p : Placed). nat_le p.phase phase ≡ true → (p.context.action == action) ≡ true → is_acted p.entry ≡ true → ⊥) ps
    → each_of did (of_action action (up_to_phase phase ps)) ≡ []
did_none phase action [] h = refl
did_none phase action (p ∷ ps) h = at (nat_le p.phase phase) refl (did_none phase action ps h.1) where
  empty : nat_le p.phase phase ≡ true → (p.context.action == action) ≡ true → did p.entry ≡ []
  empty q r = on (is_acted p.entry) refl where
    on : (b : Bool) → is_acted p.entry ≡ b → did p.entry ≡ []
    on true a = absurd (h.0 q r a)
    on false a = none_did p.entry a

  inner : (c : Bool) → (p.context.action == action) ≡ c → nat_le p.phase phase ≡ true → each_of did (of_action action (up_to_phase phase ps)) ≡ [] → each_of did (of_action action (p ∷ up_to_phase phase ps)) ≡ []
  inner true r q ih = ap (λ z. each_of did (cond z (p ∷ []) [] ++ of_action action (up_to_phase phase ps))) r ∙ (ap (λ (z : List Did). z ++ each_of did (of_action action (up_to_phase phase ps))) (empty q r) ∙ ih)
  inner false r q ih = ap (λ z. each_of did (cond z (p ∷ []) [] ++ of_action action (up_to_phase phase ps))) r ∙ ih

  at : (b : Bool) → nat_le p.phase phase ≡ b → each_of did (of_action action (up_to_phase phase ps)) ≡ [] → each_of did (of_action action (cond b (p ∷ []) [] ++ up_to_phase phase ps)) ≡ []
  at true q ih = inner (p.context.action == action) refl q ih
  at false q ih = ih

-- a number that is said in a later phase is counted there beside those up to the phase
said_later : (phase later session action : ℕ) (ps : List Placed) → phase < later
    → times (is_that (change_at 0 action)) (each_of action_change (up_to_phase phase ps)) + times (says_by session later action) ps
    ≤ times (is_that (change_at 0 action)) (each_of action_change (up_to_phase later ps))
said_later phase later session action [] l = omega arith
said_later phase later session action (p ∷ ps) l = at (nat_le p.phase phase) refl (nat_le p.phase later) refl (said_later phase later session action ps l) where
  own : ℕ
  own = times (is_that (change_at 0 action)) (action_change p.entry)

  early : ℕ
  early = times (is_that (change_at 0 action)) (each_of action_change (up_to_phase phase ps))

  late : ℕ
  late = times (is_that (change_at 0 action)) (each_of action_change (up_to_phase later ps))

  said : ℕ
  said = times (says_by session later action) ps

  a : times (is_that (change_at 0 action)) (action_change p.entry ++ each_of action_change (up_to_phase phase ps)) ≡ own + early
  a = times_append (is_that (change_at 0 action)) (action_change p.entry) (each_of action_change (up_to_phase phase ps))

  b : times (is_that (change_at 0 action)) (action_change p.entry ++ each_of action_change (up_to_phase later ps)) ≡ own + late
  b = times_append (is_that (change_at 0 action)) (action_change p.entry) (each_of action_change (up_to_phase later ps))

  below : (x m n : ℕ) → nat_le x m ≡ true → m < n → nat_le x n ≡ true
  below x m n q l = grind arith

  apart : (x m n : ℕ) → nat_le x m ≡ true → m < n → (x == n) ≡ false
  apart x m n q l = grind arith

  over : (x n : ℕ) → nat_le x n ≡ false → (x == n) ≡ false
  over x n q = grind arith

  silent : (p.phase == later) ≡ false → cond {A = ℕ} (says_by session later action p) 1 0 ≡ 0
  silent q = bit_no (says_by session later action p) (by (p.session == session)) where
    by : (c : Bool) → (c && (p.phase == later)) && says_number action p.entry ≡ false
    by true = ap (λ z. z && says_number action p.entry) q
    by false = refl

  at : (x : Bool) → nat_le p.phase phase ≡ x → (y : Bool) → nat_le p.phase later ≡ y → early + said ≤ late
      → times (is_that (change_at 0 action)) (each_of action_change (cond x (p ∷ []) [] ++ up_to_phase phase ps)) + (cond {A = ℕ} (says_by session later action p) 1 0 + said)
      ≤ times (is_that (change_at 0 action)) (each_of action_change (cond y (p ∷ []) [] ++ up_to_phase later ps))
  at true q true r ih = omega (arith, a, b, ih, silent (apart p.phase phase later q l))
  at true q false r ih = let e : nat_le p.phase later ≡ true = below p.phase phase later q l in absurd (cc)
  at false q true r ih = omega (arith, b, ih, says_few action p.entry ((p.session == session) && (p.phase == later)))
  at false q false r ih = omega (arith, ih, silent (over p.phase later r))

module _ (phase : ℕ) (all : List Placed) (chained : AreChained action_change all) where
  count : ℕ
  count = length (each_of action_change (up_to_phase phase all))

  -- a number up to the phase stands there once
  once : (action : ℕ) → 1 ≤ action → action ≤ length (each_of action_change (up_to_phase phase all)) → times (is_that (change_at 0 action)) (each_of action_change (up_to_phase phase all)) ≡ 1
  once action l h =
      chained phase (change_at 0 action)
      ∙ bit_yes (nat_lt 0 action && nat_le action (times (is_of 0) (each_of action_change (up_to_phase phase all))))
      (both action (times (is_of 0) (each_of action_change (up_to_phase phase all))) l (let z : times (is_of 0) (each_of action_change (up_to_phase phase all)) ≡ length (each_of action_change (up_to_phase phase all)) = zero_rows (up_to_phase phase all) in omega (arith, z, h))) where
        both : (a m : ℕ) → 1 ≤ a → a ≤ m → (nat_lt 0 a && nat_le a m) ≡ true
        both a m l h = grind arith

  -- so what it does stands up to there
  pub early_did : (action : ℕ) → 1 ≤ action → action ≤ length (each_of action_change (up_to_phase phase all)) → Each (HasNumber all) all
      → each_of did (of_action action (up_to_phase phase all)) ≡ each_of did (of_action action all)
  early_did action l h s = did_same phase action all (each all s) where
    here : (p : Placed) → HasNumber all p → (p.context.action == action) ≡ true → is_acted p.entry ≡ true → nat_le p.phase phase ≡ true
    here p (inl n) e a = let f : is_acted p.entry ≡ false = n.1 in absurd (cc)
    here p (inr said) e a = at (nat_le p.phase phase) refl where
      over : (x m : ℕ) → nat_le x m ≡ false → m < x
      over x m q = grind arith

      at : (b : Bool) → nat_le p.phase phase ≡ b → b ≡ true
      at true q = refl
      at false q =
          let i : IsSaid all p.session p.phase action = subst (λ n. IsSaid all p.session p.phase n) (eqb-true p.context.action action e) said in
          let m : times (is_that (change_at 0 action)) (each_of action_change (up_to_phase phase all)) + times (says_by p.session p.phase action) all ≤ times (is_that (change_at 0 action)) (each_of action_change (up_to_phase p.phase all)) = said_later phase p.phase p.session action all (over p.phase phase q) in
          let f : times (is_that (change_at 0 action)) (each_of action_change (up_to_phase p.phase all)) ≤ 1 = chain_one (each_of action_change (up_to_phase p.phase all)) (chained p.phase) (change_at 0 action) in
          let o : times (is_that (change_at 0 action)) (each_of action_change (up_to_phase phase all)) ≡ 1 = once action l h in
          absurd (omega (arith, i, m, f, o))

    each : (ps : List Placed) → Each (HasNumber all) ps → Each (λ (p : Placed). (p.context.action == action) ≡ true → is_acted p.entry ≡ true → nat_le p.phase phase ≡ true) ps
    each [] s = tt
    each (p ∷ ps) s = (here p s.0, each ps s.1)

  -- and what no number up to there does doesn't
  pub no_did : (action : ℕ) → (1 ≤ action → action ≤ length (each_of action_change (up_to_phase phase all)) → ⊥) → Each (HasNumber all) all
      → each_of did (of_action action (up_to_phase phase all)) ≡ []
  no_did action out s = did_none phase action all (each all s) where
    here : (p : Placed) → HasNumber all p → nat_le p.phase phase ≡ true → (p.context.action == action) ≡ true → is_acted p.entry ≡ true → ⊥
    here p (inl n) q e a = let f : is_acted p.entry ≡ false = n.1 in absurd (cc)
    here p (inr said) q e a =
        let i : IsSaid all p.session p.phase action = subst (λ n. IsSaid all p.session p.phase n) (eqb-true p.context.action action e) said in
        let r : (1 ≤ action) × (action ≤ length (each_of action_change (up_to_phase phase all))) = said_range phase p.session p.phase action all chained (said_to phase p.session p.phase action all q i) in
        out r.0 r.1

    each : (ps : List Placed) → Each (HasNumber all) ps → Each (λ (p : Placed). nat_le p.phase phase ≡ true → (p.context.action == action) ≡ true → is_acted p.entry ≡ true → ⊥) ps
    each [] s = tt
    each (p ∷ ps) s = (here p s.0, each ps s.1)
