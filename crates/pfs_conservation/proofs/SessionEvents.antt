-- The events of a session on its rows.
use Rattle.std.proofs.Common.{◌⊎◌, inl, inr, ◌≡◌, ℕ, zero, suc, ◌+◌, ◌-◌, ◌*◌, ◌<◌, ◌≤◌, ◌==◌, ◌&&◌, Bool, true, false, cond, List, [], ◌∷◌, Option, Some, None, count_by, refl, sym, ap, ◌∙◌, subst, arith}
use Rattle.std.specs.Prelude.{nat_le, nat_lt}
use Rattle.std.proofs.lemmas.Bool.{le-leb}
use Rattle.pfs_lemmas.proofs.Options.{none_some, some_same}
use Rattle.pfs_conservation.specs.RowChains.{Change, Added, Taken, Given}
use Rattle.pfs_conservation.specs.Removals.{first_take, following, counts_event, removal, first_from, Ascends}
use Rattle.pfs_conservation.specs.Journeys.{is_from, first_from_one, leaves_after, left, came_from, came}
use Rattle.pfs_conservation.specs.RowMoves.{Move, AreMoved, sends}
use Rattle.pfs_conservation.specs.Ways.{Step, before_by, leave_by, Leads, IsPlaced}
use Rattle.pfs_conservation.specs.Conservation.{first_moving, counts_after, AtMost, Follows, Nested, NestedFrom, last_of, last_moving, waits, Journals, IsEvent, IsSummary}
use Rattle.pfs_conservation.specs.Tenures.{Owner, Keeps, IsTenant, HasTenants, IsTable}
use Rattle.pfs_conservation.proofs.MergeTotals.{bit_yes, bit_no}
use Rattle.pfs_conservation.proofs.ChainEvents.{count_cons, late_take, late_following, Late}
use Rattle.pfs_conservation.proofs.Journeys.{home_leaves, way_leaves, starts_at, climbs_before}
use Rattle.pfs_conservation.proofs.Conservation.{moving_from, moving_least, moved_next}

at_most_later : (t : Option ℕ) (a b : ℕ) → a ≤ b → AtMost t a → AtMost t b
at_most_later None a b l h = absurd h
at_most_later (Some n) a b l h = omega arith

-- an action either is at most so late or isn't
decide : (t : Option ℕ) (a : ℕ) → AtMost t a ⊎ (AtMost t a → ⊥)
decide None a = inr (λ h. h)
decide (Some n) a = at (nat_le n a) refl
  where
    yes_le : (x y : ℕ) → nat_le x y ≡ true → x ≤ y
    yes_le x y q = grind (arith, q)

    no_le : (x y : ℕ) → nat_le x y ≡ false → y < x
    no_le x y q = grind (arith, q)

    at : (b : Bool) → nat_le n a ≡ b → (n ≤ a) ⊎ (n ≤ a → ⊥)
    at true q = inl (yes_le n a q)
    at false q = inr (λ h. let l : a < n = no_le n a q in omega arith)

module _ (holder : ℕ → ℕ → Option Owner) (takes : ℕ → ℕ → Bool) (moves : List Move) (keeps : Keeps holder takes moves) where
  -- an owner stays until an action takes its row
  held : (least row : ℕ) (owner : Owner) → holder least row ≡ Some owner → (more : ℕ) → ((action : ℕ) → suc action ≤ least + more → AtMost (first_moving least row moves) action → ⊥) → holder (least + more) row ≡ Some owner
  held least row owner h zero free = ap (λ n. holder n row) (zero_more least) ∙ h
    where
      zero_more : (n : ℕ) → n + 0 ≡ n
      zero_more n = omega arith
  held least row owner h (suc more) free = next (takes (least + more) row) refl (held least row owner h more (λ action l m. free action (omega arith) m))
    where
      later : (n k : ℕ) → n + suc k ≡ suc (n + k)
      later n k = omega arith

      next : (b : Bool) → takes (least + more) row ≡ b → holder (least + more) row ≡ Some owner → holder (least + suc more) row ≡ Some owner
      next true q ih = absurd (free (least + more) (omega arith) (keeps.lists least row (least + more) owner (omega arith) q ih))
      next false q ih = ap (λ n. holder n row) (later least more) ∙ keeps.stays (least + more) row owner ih q

  held_to : (least row action : ℕ) (owner : Owner) → holder least row ≡ Some owner → least ≤ action → ((k : ℕ) → suc k ≤ action → AtMost (first_moving least row moves) k → ⊥) → holder action row ≡ Some owner
  held_to least row action owner h l free =
      let sum : least + (action - least) ≡ action = omega arith in
      subst (λ n. holder n row ≡ Some owner) sum (held least row owner h (action - least) (λ k low m. free k (omega arith) m))

  -- an action that takes a row takes it from the owner of before, or an earlier one did
  taken_by : (least row action : ℕ) (owner : Owner) → holder least row ≡ Some owner → least ≤ action → takes action row ≡ true → AtMost (first_moving least row moves) action
  taken_by least row action owner h l t = at (decide (first_moving least row moves) action)
    where
      at : AtMost (first_moving least row moves) action ⊎ (AtMost (first_moving least row moves) action → ⊥) → AtMost (first_moving least row moves) action
      at (inl ok) = ok
      at (inr none) = keeps.lists least row action owner l t (held_to least row action owner h l (λ k low m. none (at_most_later (first_moving least row moves) k action (omega arith) m)))

low_le : (k a : ℕ) → suc a ≤ k → nat_le k a ≡ false
low_le k a l = grind (arith, l)

-- the first take of a chain is the first from its own number on
take_first : (cs : List Change) (a : ℕ) → first_take cs ≡ Some a → first_from a cs ≡ Some a
take_first [] a h = h
take_first (Added es ∷ cs) a h = take_first cs a h
take_first (Taken k ∷ cs) a h = let same : k ≡ a = some_same k a h in ap (λ (b : Bool). cond {A = Option ℕ} b (Some k) (first_from a cs)) (le-leb a k (omega arith)) ∙ h
take_first (Given k row ∷ cs) a h = take_first cs a h

late_is : (t : Option ℕ) (key a : ℕ) → t ≡ Some a → Late 0 (λ x y. 0) (λ c. false) key t → key ≤ 2 * a + 1
late_is None key a h l = none_some a h
late_is (Some n) key a h l = omega (arith, some_same n a h)

pub removal_first : (test : Change → Bool) (key : ℕ) (cs : List Change) (a : ℕ) → Ascends key cs → first_take (following test cs) ≡ Some a → first_from a cs ≡ Some a
removal_first test key [] a o h = h
removal_first test key (Added es ∷ cs) a o h = at (test (Added es)) refl (removal_first test key cs a o)
  where
    at : (b : Bool) → test (Added es) ≡ b → (first_take (following test cs) ≡ Some a → first_from a cs ≡ Some a) → first_from a cs ≡ Some a
    at true q ih = take_first cs a (rw q at h)
    at false q ih = ih (rw q at h)
removal_first test key (Given k row ∷ cs) a o h = at (test (Given k row)) refl (removal_first test (2 * k) cs a o.1)
  where
    at : (b : Bool) → test (Given k row) ≡ b → (first_take (following test cs) ≡ Some a → first_from a cs ≡ Some a) → first_from a cs ≡ Some a
    at true q ih = take_first cs a (rw q at h)
    at false q ih = ih (rw q at h)
removal_first test key (Taken k ∷ cs) a o h = at (test (Taken k)) refl (removal_first test (2 * k + 2) cs a o.1)
  where
    skip : suc k ≤ a → first_from a cs ≡ Some a → cond (nat_le a k) (Some k) (first_from a cs) ≡ Some a
    skip l e = rw (low_le a k l) e

    at : (b : Bool) → test (Taken k) ≡ b → (first_take (following test cs) ≡ Some a → first_from a cs ≡ Some a) → cond (nat_le a k) (Some k) (first_from a cs) ≡ Some a
    at true q ih =
        let t : first_take cs ≡ Some a = rw q at h in
        skip (omega (arith, late_is (first_take cs) (2 * k + 2) a t (late_take 0 (λ x y. 0) (λ c. false) (2 * k + 2) cs o.1))) (take_first cs a t)
    at false q ih =
        let t : first_take (following test cs) ≡ Some a = rw q at h in
        skip (omega (arith, late_is (first_take (following test cs)) (2 * k + 2) a t (late_following 0 (λ x y. 0) test (2 * k + 2) cs o.1))) (ih t)

-- an event counts unless an action that covers comes at or after its removal
counts_not : (least t : ℕ) (covers : List ℕ) → 1 ≤ count_by (λ c. c == t) covers → least ≤ t → counts_after (Some least) covers ≡ false
counts_not least t [] h l = absurd (omega arith)
counts_not least t (c ∷ covers) h l = at (c == t) refl (counts_not least t covers)
  where
    same : (a b : ℕ) → (a == b) ≡ true → a ≡ b
    same a b q = grind (arith, q)

    not_below : (a b : ℕ) → b ≤ a → nat_lt a b ≡ false
    not_below a b q = grind (arith, q)

    and_no : (a b : Bool) → b ≡ false → (a && b) ≡ false
    and_no true b q = q
    and_no false b q = refl

    at : (b : Bool) → (c == t) ≡ b → (1 ≤ count_by (λ x. x == t) covers → least ≤ t → counts_after (Some least) covers ≡ false) → (nat_lt c least && counts_after (Some least) covers) ≡ false
    at true q ih = rw (not_below c least (omega (arith, same c t q))) refl
    at false q ih = and_no (nat_lt c least) (counts_after (Some least) covers) (ih (omega (arith, count_cons (λ x. x == t) c covers, bit_no (c == t) q)) l)

counts_yes : (least : ℕ) (covers : List ℕ) → ((t : ℕ) → 1 ≤ count_by (λ c. c == t) covers → suc t ≤ least) → counts_after (Some least) covers ≡ true
counts_yes least [] h = refl
counts_yes least (c ∷ covers) h =
    rw (below c least (h c (omega (arith, count_cons (λ x. x == c) c covers, bit_yes (c == c) (self c))))) (counts_yes least covers (λ t some. h t (omega (arith, count_cons (λ x. x == t) c covers))))
  where
    self : (a : ℕ) → (a == a) ≡ true
    self a = grind arith

    below : (a b : ℕ) → suc a ≤ b → nat_lt a b ≡ true
    below a b q = grind (arith, q)

module _ (kept : ℕ → ℕ → Bool) (chains : ℕ → List Change) (level : ℕ → ℕ) (holder : ℕ → ℕ → Option Owner) (takes : ℕ → ℕ → Bool) (moves : List Move) (keeps : Keeps holder takes moves) (are : AreMoved chains kept moves) (ascends : (row : ℕ) → Ascends 0 (chains row))
    (event home : ℕ) (steps : List Step) (leads : Leads home steps) (climbs : (row from : ℕ) → before_by steps row ≡ Some from → suc (level from) ≤ level row)
    (own : ℕ → Owner) (connect : ℕ) (quit : Option ℕ) (tenant : IsTenant chains holder takes event home steps own connect quit)
    (least : ℕ) (removed : removal event (chains home) ≡ Some least) where
  pub taken_home : takes least home ≡ true
  taken_home = keeps.listed least home least (sym (moving_from kept chains moves are least home) ∙ removal_first (counts_event event) 0 (chains home) least (ascends home) removed)

  own_row : (row from : ℕ) → before_by steps row ≡ Some from → holder least row ≡ Some (own row)
  own_row row from come = tenant.holds least row from come (tenant.bound least removed).0 (tenant.bound least removed).1

  -- no row is taken before the row below it
  nested_row : (row from : ℕ) → before_by steps row ≡ Some from → (from == home) ≡ false → (action : ℕ) → first_moving least row moves ≡ Some action → AtMost (first_moving least from moves) action
  nested_row row from come away action t = below (tenant.joins row from come away)
    where
      below : (p : ℕ) × (before_by steps from ≡ Some p) → AtMost (first_moving least from moves) action
      below p = taken_by holder takes moves keeps least from action (own from) (own_row from p.0 p.1) (moving_least least row moves action t) (tenant.sweeps action row from come away (keeps.listed least row action t))

  pub nested_path : (from : ℕ) (rows : List ℕ) → (from == home) ≡ false → Follows (before_by steps) home from rows → Nested moves least from rows
  nested_path from [] away f = tt
  nested_path from (row ∷ rows) away f = (nested_row row from f.0 away, nested_path row rows f.1 f.2)

  pub nested_home : (rows : List ℕ) → Follows (before_by steps) home home rows → NestedFrom moves least rows
  nested_home [] f = tt
  nested_home (row ∷ rows) f = nested_path row rows f.1 f.2

  leave : ℕ → Option ℕ
  leave = leave_by chains event home steps

  leave_home : leave home ≡ Some least
  unfolding leave
  leave_home = home_leaves chains event home steps leads ∙ removed

  leave_next : (row from : ℕ) → before_by steps row ≡ Some from → leave row ≡ first_from_one (leave from) (chains row)
  unfolding leave
  leave_next row from come = at (row == home) refl
    where
      same : (a b : ℕ) → (a == b) ≡ true → a ≡ b
      same a b q = grind (arith, q)

      at : (b : Bool) → (row == home) ≡ b → leave row ≡ first_from_one (leave from) (chains row)
      at true q = none_some from (sym (starts_at home steps leads) ∙ (ap (before_by steps) (sym (same row home q)) ∙ come))
      at false q = way_leaves chains event home steps leads row q ∙ ap (λ b. leaves_after b (leave_by chains event home steps) (chains row)) come

  -- after its removal an event leaves each row at the first action that moves the row
  closed : (depth row from : ℕ) → level row < depth → before_by steps row ≡ Some from → leave row ≡ first_moving least row moves
  closed zero row from low come = absurd (omega arith)
  closed (suc depth) row from low come = at (from == home) refl (λ p back. closed depth from p (omega (arith, climbs row from come)) back)
    where
      same : (a b : ℕ) → (a == b) ≡ true → a ≡ b
      same a b q = grind (arith, q)

      at : (b : Bool) → (from == home) ≡ b → ((p : ℕ) → before_by steps from ≡ Some p → leave from ≡ first_moving least from moves) → leave row ≡ first_moving least row moves
      at true q ih = leave_next row from come ∙ (ap (λ r. first_from_one (leave r) (chains row)) (same from home q) ∙ (ap (λ t. first_from_one t (chains row)) leave_home ∙ moving_from kept chains moves are least row))
      at false q ih = below (tenant.joins row from come q)
        where
          below : (p : ℕ) × (before_by steps from ≡ Some p) → leave row ≡ first_moving least row moves
          below p = leave_next row from come ∙ (ap (λ t. first_from_one t (chains row)) (ih p.0 p.1)
              ∙ moved_next kept chains moves are event home steps leads least from row (first_moving least from moves) refl (nested_row row from come q))

  pub closed_row : (row from : ℕ) → before_by steps row ≡ Some from → leave_by chains event home steps row ≡ first_moving least row moves
  unfolding leave
  closed_row row from come = closed (suc (level row)) row from (omega arith) come

  -- the action at which an event leaves a row gives to the next rows of its session
  pub placed_after : (from action row : ℕ) → leave_by chains event home steps from ≡ Some action → sends moves action from row ≡ cond (is_from from (before_by steps row)) 1 0
  unfolding leave
  placed_after from action row went = at (from == home) refl
    where
      same : (a b : ℕ) → (a == b) ≡ true → a ≡ b
      same a b q = grind (arith, q)

      away : (from == home) ≡ false → (b : Option ℕ) → before_by steps from ≡ b → sends moves action from row ≡ cond (is_from from (before_by steps row)) 1 0
      away q None come = none_some action (sym (way_leaves chains event home steps leads from q ∙ ap (λ b. leaves_after b (leave_by chains event home steps) (chains from)) come) ∙ went)
      away q (Some p) come =
          let moves_it : first_moving least from moves ≡ Some action = sym (closed_row from p come) ∙ went in
          let free : (k : ℕ) → suc k ≤ action → AtMost (first_moving least from moves) k → ⊥ = λ k low m. (let late : action ≤ k = subst (λ t. AtMost t k) moves_it m in omega arith) in
          keeps.sends action from row (own from) (keeps.listed least from action moves_it) (held_to holder takes moves keeps least from action (own from) (own_row from p come) (moving_least least from moves action moves_it) free)
          ∙ ap (λ (b : Bool). cond {A = ℕ} b 1 0) (tenant.nexts from p row come)

      at : (b : Bool) → (from == home) ≡ b → sends moves action from row ≡ cond (is_from from (before_by steps row)) 1 0
      at false q = away q (before_by steps from) refl
      at true q =
          let is : from ≡ home = same from home q in
          let now : action ≡ least = some_same action least (sym went ∙ (ap (leave_by chains event home steps) is ∙ leave_home)) in
          ap (λ a. sends moves a from row) now ∙ (ap (λ f. sends moves least f row) is
          ∙ (keeps.sends least home row (own home) taken_home (tenant.holds_home least (tenant.bound least removed).0 (tenant.bound least removed).1)
          ∙ (ap (λ (b : Bool). cond {A = ℕ} b 1 0) (tenant.nexts_home row) ∙ ap (λ f. cond {A = ℕ} (is_from f (before_by steps row)) 1 0) (sym is))))

  last_before : (from row : ℕ) (rows : List ℕ) → Follows (before_by steps) home from (row ∷ rows) → (p : ℕ) × (before_by steps (last_of row rows) ≡ Some p)
  last_before from row [] f = (from, f.0)
  last_before from row (next ∷ rows) f = last_before row next rows f.2

  -- an action covers the table exactly where one has moved the last row of the path
  pub covered_after : (covers path : List ℕ) → Follows (before_by steps) home home path
      → ((t : ℕ) → (1 ≤ count_by (λ c. c == t) covers → takes t (last_of home path) ≡ true) × (takes t (last_of home path) ≡ true → 1 ≤ count_by (λ c. c == t) covers))
      → counts_after (Some least) covers ≡ waits (last_moving least path moves)
  covered_after covers [] f is = counts_not least least covers ((is least).1 taken_home) (omega arith)
  covered_after covers (row ∷ rows) f is = at (first_moving least (last_of row rows) moves) refl
    where
      last : ℕ
      last = last_of row rows

      p : (p : ℕ) × (before_by steps (last_of row rows) ≡ Some p)
      p = last_before home row rows f

      at : (t : Option ℕ) → first_moving least (last_of row rows) moves ≡ t → counts_after (Some least) covers ≡ waits (first_moving least (last_of row rows) moves)
      at (Some t) q = counts_not least t covers ((is t).1 (keeps.listed least (last_of row rows) t q)) (moving_least least (last_of row rows) moves t q) ∙ sym (ap waits q)
      at None q = counts_yes least covers below ∙ sym (ap waits q)
        where
          below : (t : ℕ) → 1 ≤ count_by (λ c. c == t) covers → suc t ≤ least
          below t some = late (nat_lt t least) refl
            where
              yes_lt : (a b : ℕ) → nat_lt a b ≡ true → suc a ≤ b
              yes_lt a b h = grind (arith, h)

              no_lt : (a b : ℕ) → nat_lt a b ≡ false → b ≤ a
              no_lt a b h = grind (arith, h)

              late : (b : Bool) → nat_lt t least ≡ b → suc t ≤ least
              late true h = yes_lt t least h
              late false h = absurd (subst (λ o. AtMost o t) q (taken_by holder takes moves keeps least (last_of row rows) t (own (last_of row rows)) (own_row (last_of row rows) p.0 p.1) (no_lt t least h) ((is t).0 some)))

  -- a row where the event still stands is still its session's
  pub still_own : (row from action : ℕ) → before_by steps row ≡ Some from → leave_by chains event home steps row ≡ None → least ≤ action → holder action row ≡ Some (own row)
  still_own row from action come waits l =
      held_to holder takes moves keeps least row action (own row) (own_row row from come) l (λ k low m. subst (λ o. AtMost o k) (sym (closed_row row from come) ∙ waits) m)

-- an event that isn't removed leaves no row
none_leaves : (chains : ℕ → List Change) (event home : ℕ) (steps : List Step) → removal event (chains home) ≡ None → (row : ℕ) → leave_by chains event home steps row ≡ None
none_leaves chains event home [] h row = at (row == home)
  where
    at : (b : Bool) → cond b (removal event (chains home)) None ≡ None
    at true = h
    at false = refl
none_leaves chains event home (step ∷ steps) h row = at (step.to == row) (none_leaves chains event home steps h)
  where
    at : (b : Bool) → ((r : ℕ) → leave_by chains event home steps r ≡ None) → cond b (first_from_one (leave_by chains event home steps step.from) (chains step.to)) (leave_by chains event home steps row) ≡ None
    at true ih = ap (λ t. first_from_one t (chains step.to)) (ih step.from)
    at false ih = ih row

module _ {A : Type 0} (j : Journals A) (kept : ℕ → ℕ → Bool) (are : AreMoved j.chains kept j.moves) (ascends : (row : ℕ) → Ascends 0 (j.chains row))
    (holder : ℕ → ℕ → Option Owner) (takes : ℕ → ℕ → Bool) (own : ℕ → ℕ → Owner) (connect : ℕ → ℕ) (quit : ℕ → Option ℕ) (has : HasTenants j holder takes own connect quit) where
  -- the events of a tenant are placed
  pub tenants_placed : (e : ℕ) → IsEvent j e → IsPlaced j.chains j.level j.moves e (j.home e) (j.steps e)
  tenants_placed e is = record { counted = has.counted e is; leads = has.leads e is; climb = has.climb e is; placed = λ from action row went. at (removal e (j.chains (j.home e))) refl from action row went }
    where
      at : (t : Option ℕ) → removal e (j.chains (j.home e)) ≡ t → (from action row : ℕ) → leave_by j.chains e (j.home e) (j.steps e) from ≡ Some action → sends j.moves action from row ≡ cond (is_from from (before_by (j.steps e) row)) 1 0
      at None q from action row went = none_some action (sym (none_leaves j.chains e (j.home e) (j.steps e) q from) ∙ went)
      at (Some least) q from action row went = placed_after kept j.chains j.level holder takes j.moves has.keeps are ascends e (j.home e) (j.steps e) (has.leads e is) (λ r f. climbs_before j.level (j.steps e) (has.climb e is) f r) (own e) (connect e) (quit e) (has.tenant e is) least q from action row went

  -- a table after the last action is a summary
  pub table_is : (end : ℕ) (belongs : ℕ → Owner → Bool) (shown covers : List ℕ) (path : ℕ → List ℕ) (leads : ℕ → Bool) → IsTable j holder takes own connect end belongs shown covers path leads → IsSummary j shown covers path leads
  table_is end belongs shown covers path leads t = record {
    shows = λ e is. record {
      follows = t.follows e is;
      nested = λ least q. nested_home kept j.chains j.level holder takes j.moves has.keeps are ascends e (j.home e) (j.steps e) (has.leads e is) (λ r f. climbs_before j.level (j.steps e) (has.climb e is) f r) (own e) (connect e) (quit e) (has.tenant e is) least q (path e) (t.follows e is);
      covered = λ lead least q. covered_after kept j.chains j.level holder takes j.moves has.keeps are ascends e (j.home e) (j.steps e) (has.leads e is) (λ r f. climbs_before j.level (j.steps e) (has.climb e is) f r) (own e) (connect e) (quit e) (has.tenant e is) least q covers (path e) (t.follows e is) (t.covers_are e is lead);
      once = λ row came_here waits_here. t.shows row (own e row) (owned e is row came_here waits_here).0 ∙ (owned e is row came_here waits_here).1;
    };
  }
    where
      same : (a b : ℕ) → (a == b) ≡ true → a ≡ b
      same a b q = grind (arith, q)

      Mine : ℕ → ℕ → Type 0
      Mine e row = cond (belongs row (own e row)) 1 0 ≡ cond (leads e) (count_by (λ r. r == row) (j.home e ∷ path e)) 0

      owned : (e : ℕ) → IsEvent j e → (row : ℕ) → came (j.home e) (before_by (j.steps e)) (leave_by j.chains e (j.home e) (j.steps e)) row ≡ 1 → leave_by j.chains e (j.home e) (j.steps e) row ≡ None → (holder end row ≡ Some (own e row)) × Mine e row
      owned e is row come wait = at (row == j.home e) refl
        where
          lv : ℕ → Option ℕ
          lv = leave_by j.chains e (j.home e) (j.steps e)

          zero_one : {X : Type 0} → ◌≡◌ {A = ℕ} 0 1 → X
          zero_one h = absurd (omega arith)

          rest : (b : Option ℕ) (o : Option ℕ) → before_by (j.steps e) row ≡ b → removal e (j.chains (j.home e)) ≡ o → came_from b (leave_by j.chains e (j.home e) (j.steps e)) ≡ 1 → (holder end row ≡ Some (own e row)) × Mine e row
          rest None o come_by q h = zero_one h
          rest (Some from) None come_by q h = zero_one (sym (ap left (none_leaves j.chains e (j.home e) (j.steps e) q from)) ∙ h)
          rest (Some from) (Some least) come_by q h =
              (still_own kept j.chains j.level holder takes j.moves has.keeps are ascends e (j.home e) (j.steps e) (has.leads e is) (λ r f. climbs_before j.level (j.steps e) (has.climb e is) f r) (own e) (connect e) (quit e) (has.tenant e is) least q row from end come_by wait (t.ended e is least q), t.mine e is row from come_by)

          at : (b : Bool) → (row == j.home e) ≡ b → (holder end row ≡ Some (own e row)) × Mine e row
          at true q =
              let here : row ≡ j.home e = same row (j.home e) q in
              let none : removal e (j.chains (j.home e)) ≡ None = sym (home_leaves j.chains e (j.home e) (j.steps e) (has.leads e is)) ∙ (ap (leave_by j.chains e (j.home e) (j.steps e)) (sym here) ∙ wait) in
              (ap (holder end) here ∙ ((has.tenant e is).stays_home none end (t.begun e is) ∙ ap (λ r. Some (own e r)) (sym here)), subst (λ r. Mine e r) (sym here) (t.mine_home e is))
          at false q = rest (before_by (j.steps e) row) (removal e (j.chains (j.home e))) refl refl (sym (ap (λ (b : Bool). cond {A = ℕ} b 1 (came_from (before_by (j.steps e) row) (leave_by j.chains e (j.home e) (j.steps e)))) q) ∙ come)
