-- What was lost, counted entry by entry and phase by phase.
use Rattle.std.proofs.Common.{◌≡◌, refl, ℕ, zero, suc, ◌+◌, ◌-◌, ◌<◌, ◌≤◌, nat_eq, nat_le, Bool, true, false, cond, List, [], ◌∷◌, ◌++◌, get_or, length, take, sym, ◌∙◌, ap, subst, arith, inl, inr, Some}
use Rattle.std.specs.Prelude.{◌⊎◌, slice_get, slice_index_or}
use Rattle.std.specs.List.{flat_map}
use Rattle.std.proofs.lemmas.Bool.Decides.{nat_tests}
use Rattle.std.proofs.lemmas.Bool.{eqb-false, eqb-true, leb-false, leb-true}
use Rattle.std.proofs.lemmas.List.{length-append, take_all}
use Rattle.std.proofs.lemmas.Option.{get_or_from_slice_get}
use Rattle.pfs_admin.specs.AdministrationStates.{State}
use Rattle.pfs_admin.specs.Fold.{state_from, state_of, stepped}
use Rattle.pfs_admin.specs.OpeningState.{opened}
use Rattle.pfs_admin.specs.declared.changes.Change.{Change}
use Rattle.pfs_board.specs.declared.view.Label.{Label}
use Rattle.pfs_classes.specs.declared.setting.Setting.{Setting}
use Rattle.pfs_containers.specs.Administration.{Containers}
use Rattle.pfs_containers.specs.ContainerState.{lost_in}
use Rattle.pfs_containers.specs.declared.containers.Lost.{Lost}
use Rattle.pfs_event.specs.declared.entry.Entry.{Entry}
use Rattle.pfs_event.specs.declared.entry.Entry.TheVariants as says
use Rattle.pfs_finals.specs.Counters.{counters, lost_row}
use Rattle.pfs_finals.specs.declared.counters.LostCounters.{LostCounters}
use Rattle.pfs_journal.specs.declared.report.PhaseParts.{PhaseParts}
use Rattle.pfs_model.specs.Chains.{action_change, each_of, times}
use Rattle.pfs_model.specs.EntryPlaces.{Block, Placed, in_phase, up_to_phase}
use Rattle.pfs_runs.specs.PhaseFinals.{is_digest_lost, is_lost_locker, is_lost_nested, lost_behind, verdict_at}
use Rattle.pfs_runs.specs.Runs.{ArePhasesOf}
use Rattle.pfs_script.specs.declared.blocks.Phase.{Phase}
use Rattle.pfs_check_faults.specs.FinalFaults.{lost_due}
use Rattle.pfs_check_walk.specs.Walks.{onto}
use Rattle.pfs_check_orders.specs.ActionOrders.{AreOrders}
use Rattle.pfs_check_orders.specs.declared.orders.Order.{Order}
use Rattle.pfs_check_finals.specs.LostCounts.{AreCounted, AreLosses, acts, loses_statement, loses_wait, no_losses}
use Rattle.pfs_check_finals.specs.declared.losing.Losses.{Losses}

times_then : {A : Type 0} (test : A → Bool) (xs ys : List A) → times test (xs ++ ys) ≡ times test xs + times test ys
times_then test [] ys = omega arith
times_then test (x ∷ xs) ys = let rest = times_then test xs ys in omega (arith, rest)

-- both together
pub losses_both : (a b sum : Losses) (some others : List Placed) → AreLosses a some → AreLosses b others
    → sum ≡ record { actions = a.actions + b.actions; digests = a.digests + b.digests; statements = a.statements + b.statements; waits = a.waits + b.waits }
    → AreLosses sum (some ++ others)
losses_both a b sum some others p q e = record {
  actions = let l = ap (λ (z : Losses). z.actions) e in let t = times_then (λ (place : Placed). acts place.entry) some others in omega (arith, l, t, p.actions, q.actions);
  digests = let l = ap (λ (z : Losses). z.digests) e in let t = times_then is_digest_lost some others in omega (arith, l, t, p.digests, q.digests);
  statements = let l = ap (λ (z : Losses). z.statements) e in let t = times_then (λ (place : Placed). loses_statement place.entry) some others in omega (arith, l, t, p.statements, q.statements);
  waits = let l = ap (λ (z : Losses). z.waits) e in let t = times_then (λ (place : Placed). loses_wait place.entry) some others in omega (arith, l, t, p.waits, q.waits);
}

-- the same of places that are counted alike
losses_same : (losses : Losses) (some others : List Placed) → ((test : Placed → Bool) → times test some ≡ times test others) → AreLosses losses some → AreLosses losses others
losses_same losses some others same p = record {
  actions = p.actions ∙ same (λ (place : Placed). acts place.entry);
  digests = p.digests ∙ same is_digest_lost;
  statements = p.statements ∙ same (λ (place : Placed). loses_statement place.entry);
  waits = p.waits ∙ same (λ (place : Placed). loses_wait place.entry);
}

-- one entry
pub one_loses : (losses : Losses) (place : Placed) → losses.actions ≡ cond (acts place.entry) 1 0 → losses.digests ≡ cond (is_digest_lost place) 1 0
    → losses.statements ≡ cond (loses_statement place.entry) 1 0 → losses.waits ≡ cond (loses_wait place.entry) 1 0 → AreLosses losses (place ∷ [])
one_loses losses place a d s w = record {
  actions = omega (arith, a);
  digests = omega (arith, d);
  statements = omega (arith, s);
  waits = omega (arith, w);
}

-- nothing, and an entry more
pub counted_none : AreCounted [] []
counted_none = λ phase. record { actions = refl; digests = refl; statements = refl; waits = refl }

pub counted_more : (phases after : List Losses) (phase : ℕ) (place : Placed) (earlier : List Placed) (sum : Losses) → place.phase ≡ phase
    → AreCounted phases earlier → AreLosses sum (place ∷ in_phase phase earlier)
    → ((at : ℕ) → (at ≡ phase → ⊥) → slice_index_or after at no_losses ≡ slice_index_or phases at no_losses) → slice_index_or after phase no_losses ≡ sum
    → AreCounted after (place ∷ earlier)
counted_more phases after phase place earlier sum is counted more others here = λ at. on at (nat_eq place.phase at) refl where
  on : (at : ℕ) (b : Bool) → nat_eq place.phase at ≡ b → AreLosses (slice_index_or after at no_losses) (in_phase at (place ∷ earlier))
  on at true e =
      let same : phase ≡ at = sym is ∙ eqb-true place.phase at e in
      subst (λ z. AreLosses (slice_index_or after at no_losses) (cond z (place ∷ []) [] ++ in_phase at earlier)) (sym e)
      (subst (λ n. AreLosses (slice_index_or after n no_losses) (place ∷ in_phase n earlier)) same
      (subst (λ z. AreLosses z (place ∷ in_phase phase earlier)) (sym here) more))
  on at false e =
      subst (λ z. AreLosses (slice_index_or after at no_losses) (cond z (place ∷ []) [] ++ in_phase at earlier)) (sym e)
      (subst (λ z. AreLosses z (in_phase at earlier)) (sym (others at (λ q. eqb-false place.phase at e (is ∙ sym q)))) (counted at))

-- all of them, in either order
in_more : (test : Placed → Bool) (phase : ℕ) (place : Placed) (ps : List Placed)
    → times test (in_phase phase (place ∷ ps)) ≡ times test (cond (nat_eq place.phase phase) (place ∷ []) []) + times test (in_phase phase ps)
in_more test phase place ps = times_then test (cond (nat_eq place.phase phase) (place ∷ []) []) (in_phase phase ps)

in_onto : (test : Placed → Bool) (phase : ℕ) (earlier ps : List Placed) → times test (in_phase phase (onto earlier ps)) ≡ times test (in_phase phase earlier) + times test (in_phase phase ps)
in_onto test phase earlier [] = omega arith
in_onto test phase earlier (p ∷ ps) =
    let rest = in_onto test phase (p ∷ earlier) ps in
    let one = in_more test phase p earlier in
    let other = in_more test phase p ps in
    omega (arith, rest, one, other)

pub counted_all : (phases : List Losses) (all : List Placed) → AreCounted phases (onto [] all) → AreCounted phases all
counted_all phases all counted = λ phase.
    losses_same (slice_index_or phases phase no_losses) (in_phase phase (onto [] all)) (in_phase phase all) (λ test. in_onto test phase [] all ∙ (let e : times test (in_phase phase []) + times test (in_phase phase all) ≡ times test (in_phase phase all) = omega arith in e)) (counted phase)

-- the entries up to a phase, and those of the next
bit_up : (phase at : ℕ) → cond {A = ℕ} (nat_le phase (at + 1)) 1 0 ≡ cond {A = ℕ} (nat_le phase at) 1 0 + cond {A = ℕ} (nat_eq phase (at + 1)) 1 0
bit_up phase at = on (nat_le phase at) (nat_eq phase (at + 1)) (nat_le phase (at + 1)) refl refl refl where
  on : (low is high : Bool) → nat_le phase at ≡ low → nat_eq phase (at + 1) ≡ is → nat_le phase (at + 1) ≡ high → cond {A = ℕ} high 1 0 ≡ cond {A = ℕ} low 1 0 + cond {A = ℕ} is 1 0
  on true true high p q r = absurd (let l = leb-true phase at p in let e = eqb-true phase (at + 1) q in omega (arith, l, e))
  on true false true p q r = refl
  on true false false p q r = absurd (let l = leb-true phase at p in let h = leb-false phase (at + 1) r in omega (arith, l, h))
  on false true true p q r = refl
  on false true false p q r = absurd (let e = eqb-true phase (at + 1) q in let h = leb-false phase (at + 1) r in omega (arith, e, h))
  on false false true p q r = absurd (let h = leb-false phase at p in let l = leb-true phase (at + 1) r in eqb-false phase (at + 1) q (omega (arith, h, l)))
  on false false false p q r = refl

times_cond : (test : Placed → Bool) (b : Bool) (p : Placed) → times test (cond b (p ∷ []) []) ≡ cond b (cond {A = ℕ} (test p) 1 0) 0
times_cond test true p = omega arith
times_cond test false p = refl

split_bit : (x : ℕ) (a b c : Bool) → cond {A = ℕ} a 1 0 ≡ cond {A = ℕ} b 1 0 + cond {A = ℕ} c 1 0 → cond {A = ℕ} a x 0 ≡ cond {A = ℕ} b x 0 + cond {A = ℕ} c x 0
split_bit x true true true e = absurd (omega (arith, e))
split_bit x true true false e = omega arith
split_bit x true false true e = omega arith
split_bit x true false false e = absurd (omega (arith, e))
split_bit x false true c e = absurd (more c e) where
  more : (c : Bool) → 0 ≡ 1 + cond {A = ℕ} c 1 0 → ⊥
  more c e = omega (arith, e)
split_bit x false false true e = absurd (omega (arith, e))
split_bit x false false false e = refl

up_more : (test : Placed → Bool) (at : ℕ) (ps : List Placed) → times test (up_to_phase (at + 1) ps) ≡ times test (up_to_phase at ps) + times test (in_phase (at + 1) ps)
up_more test at [] = refl
up_more test at (p ∷ ps) =
    let rest = up_more test at ps in
    let high = times_then test (cond (nat_le p.phase (at + 1)) (p ∷ []) []) (up_to_phase (at + 1) ps) in
    let low = times_then test (cond (nat_le p.phase at) (p ∷ []) []) (up_to_phase at ps) in
    let own = times_then test (cond (nat_eq p.phase (at + 1)) (p ∷ []) []) (in_phase (at + 1) ps) in
    let bit =
    split_bit (cond {A = ℕ} (test p) 1 0) (nat_le p.phase (at + 1)) (nat_le p.phase at) (nat_eq p.phase (at + 1)) (bit_up p.phase at) in
    let a = times_cond test (nat_le p.phase (at + 1)) p in
    let b = times_cond test (nat_le p.phase at) p in
    let c = times_cond test (nat_eq p.phase (at + 1)) p in
    omega (arith, rest, high, low, own, bit, a, b, c)

pub losses_up : (losses : Losses) (all : List Placed) (at : ℕ) → AreLosses losses (up_to_phase at all ++ in_phase (at + 1) all) → AreLosses losses (up_to_phase (at + 1) all)
losses_up losses all at p =
    losses_same losses (up_to_phase at all ++ in_phase (at + 1) all) (up_to_phase (at + 1) all)
    (λ test. times_then test (up_to_phase at all) (in_phase (at + 1) all) ∙ sym (up_more test at all)) p

zero_test : (phase : ℕ) → nat_le phase 0 ≡ nat_eq phase 0
zero_test zero = refl
zero_test (suc phase) = grind (arith, nat_tests)

pub losses_first : (losses : Losses) (all : List Placed) → AreLosses losses (in_phase 0 all) → AreLosses losses (up_to_phase 0 all)
losses_first losses all p = subst (AreLosses losses) (sym (same all)) p where
  same : (ps : List Placed) → up_to_phase 0 ps ≡ in_phase 0 ps
  same [] = refl
  same (p ∷ ps) = ap (λ z. cond z (p ∷ []) [] ++ up_to_phase 0 ps) (zero_test p.phase) ∙ ap (λ z. cond (nat_eq p.phase 0) (p ∷ []) [] ++ z) (same ps)

-- the counts as the counters have them
acted : (ps : List Placed) → length (each_of action_change ps) ≡ times (λ (place : Placed). acts place.entry) ps
acted [] = refl
acted (p ∷ ps) =
    let rest = acted ps in
    let one : length (action_change p.entry) ≡ cond {A = ℕ} (acts p.entry) 1 0 = here p.entry in
    let both = length-append (action_change p.entry) (each_of action_change ps) in
    omega (arith, rest, one, both) where
      here : (entry : Entry) → length (action_change entry) ≡ cond {A = ℕ} (acts entry) 1 0
      here (says.Act action) = refl
      here (says.Connect action thread account user host) = refl
      here _ = refl

statements_lost : (ps : List Placed) → times is_lost_nested (each_of verdict_at ps) ≡ times (λ (place : Placed). loses_statement place.entry) ps
statements_lost [] = refl
statements_lost (p ∷ ps) =
    let rest = statements_lost ps in
    let one = here p.entry in
    let both = times_then is_lost_nested (verdict_at p.entry) (each_of verdict_at ps) in
    omega (arith, rest, one, both) where
      here : (entry : Entry) → times is_lost_nested (verdict_at entry) ≡ cond {A = ℕ} (loses_statement entry) 1 0
      here (says.Start event verdict consumers thread class table) = omega arith
      here _ = refl

waits_lost : (ps : List Placed) → times is_lost_locker (each_of verdict_at ps) ≡ times (λ (place : Placed). loses_wait place.entry) ps
waits_lost [] = refl
waits_lost (p ∷ ps) =
    let rest = waits_lost ps in
    let one = here p.entry in
    let both = times_then is_lost_locker (verdict_at p.entry) (each_of verdict_at ps) in
    omega (arith, rest, one, both) where
      here : (entry : Entry) → times is_lost_locker (verdict_at entry) ≡ cond {A = ℕ} (loses_wait entry) 1 0
      here (says.Start event verdict consumers thread class table) = omega arith
      here _ = refl

-- so these are the counters that are due
pub counters_due : (setting : Setting) (change : Label → Change) (labels : List Label) (places : List Placed) (lost : Lost) (losses : Losses) (counted : LostCounters)
    → AreLosses losses places → lost ≡ lost_in (state_of setting change (take losses.actions labels)).kept.now
    → counted ≡ record {
      threads = lost.threads;
      accounts = lost.accounts;
      users = lost.users;
      hosts = lost.hosts;
      digests = losses.digests;
      statements = losses.statements;
      waits = losses.waits;
    } → flat_map (lost_row setting.classes counted) counters ≡ lost_due setting change labels places
counters_due setting change labels places lost losses counted are behind is =
    ap (λ z. flat_map (lost_row setting.classes z) counters) (is ∙ same) where
      containers : Containers
      containers = (state_of setting change (take (length (each_of action_change places)) labels)).kept.now

      from : lost ≡ lost_in containers
      from = behind ∙ ap (λ n. lost_in (state_of setting change (take n labels)).kept.now) (are.actions ∙ sym (acted places))

      same : ◌≡◌ {A = LostCounters} (record {
        threads = lost.threads;
        accounts = lost.accounts;
        users = lost.users;
        hosts = lost.hosts;
        digests = losses.digests;
        statements = losses.statements;
        waits = losses.waits;
      }) (lost_behind containers places)
      same = λ i. record {
        threads = (from i).threads;
        accounts = (from i).accounts;
        users = (from i).users;
        hosts = (from i).hosts;
        digests = are.digests i;
        statements = (are.statements ∙ sym (statements_lost places)) i;
        waits = (are.waits ∙ sym (waits_lost places)) i;
      }

-- behind a label more
state_more : (change : Label → Change) (s : State) (labels : List Label) (label : Label) → state_from change s (labels ++ label ∷ []) ≡ stepped (state_from change s labels) label.session (change label)
unfolding state_from
state_more change s [] label = refl
state_more change s (one ∷ labels) label = state_more change (stepped s one.session (change one)) labels label

there : {A B : Type 0} (xs : List A) (ys : List B) (at : ℕ) → length ys ≡ length xs → at < length ys
    → (x : A) × (y : B) × (slice_get xs at ≡ Some x) × (slice_get ys at ≡ Some y) × (take (suc at) xs ≡ take at xs ++ x ∷ [])
there [] (y ∷ ys) at h low = absurd (omega (arith, h))
there xs [] at h low = absurd (omega (arith, low))
there (x ∷ xs) (y ∷ ys) zero h low = (x, y, refl, refl, refl)
there (x ∷ xs) (y ∷ ys) (suc at) h low =
    let rest = there xs ys at (omega (arith, h)) (omega (arith, low)) in
    (rest.0, rest.1, rest.2, rest.3, ap (λ z. x ∷ z) rest.4)

-- what was lost behind the first actions
pub lost_last : (setting : Setting) (change : Label → Change) (labels : List Label) (entries : List Entry) (orders : List Order) (last actions : ℕ) (d : Order)
    → AreOrders setting change labels entries orders → last ≤ length orders → (last ≡ 0 → ⊥) → (last ≡ actions) ⊎ (last ≡ length orders) → last ≤ actions
    → (get_or orders (last - 1) d).lost ≡ lost_in (state_of setting change (take actions labels)).kept.now
lost_last setting change labels entries orders zero actions d are within some is low = absurd (some refl)
lost_last setting change labels entries orders (suc before) actions d are within some is low =
    let found = there labels orders before are.count (omega (arith, within)) in
    let order : Order = found.1 in
    let label : Label = found.0 in
    let one = are.each before label order found.2 found.3 in
    ap (λ (z : Order). z.lost) (ap (λ n. get_or orders n d) (let e : suc before - 1 ≡ before = omega arith in e) ∙ get_or_from_slice_get orders before order d found.3)
    ∙ one.lost
    ∙ ap (λ (z : State). lost_in z.kept.now) (sym (state_more change (opened setting) (take before labels) label) ∙ ap (state_of setting change) (sym found.4))
    ∙ ap (λ z. lost_in (state_of setting change z).kept.now) (same is) where
      same : (suc before ≡ actions) ⊎ (suc before ≡ length orders) → take (suc before) labels ≡ take actions labels
      same (inl e) = ap (λ n. take n labels) e
      same (inr e) =
          take_all (suc before) labels (let c = are.count in omega (arith, e, c))
          ∙ sym (take_all actions labels (let c = are.count in omega (arith, e, c, low)))

pub none_behind : (setting : Setting) (change : Label → Change) (labels : List Label) (entries : List Entry) (orders : List Order) (last actions : ℕ)
    → AreOrders setting change labels entries orders → last ≡ 0 → (last ≡ actions) ⊎ (last ≡ length orders)
    → record { threads = 0; accounts = 0; users = 0; hosts = 0 } ≡ lost_in (state_of setting change (take actions labels)).kept.now
unfolding state_from
none_behind setting change labels entries orders last actions are none is = sym (ap (λ z. lost_in (state_of setting change z).kept.now) (nothing is)) where
  nothing : (last ≡ actions) ⊎ (last ≡ length orders) → take actions labels ≡ []
  nothing (inl e) = ap (λ n. take n labels) (sym e ∙ none)
  nothing (inr e) = empty labels (let c = are.count in omega (arith, c, e, none)) actions where
    empty : (xs : List Label) → length xs ≡ 0 → (n : ℕ) → take n xs ≡ []
    empty [] h zero = refl
    empty [] h (suc n) = refl
    empty (x ∷ xs) h n = absurd (omega (arith, h))

-- the phases are numbered from 1 on
pub numbered_at : (number : ℕ) (phases : List Phase) (reports : List PhaseParts) (blocks : List (List Block)) → ArePhasesOf number phases reports blocks
    → (at : ℕ) (d : PhaseParts) → at < length reports → (get_or reports at d).number ≡ number + at
numbered_at number [] [] [] are at d low = absurd (omega (arith, low))
numbered_at number (phase ∷ phases) (report ∷ reports) (bs ∷ blocks) are zero d low = are.0 ∙ (let e : number ≡ number + 0 = omega arith in e)
numbered_at number (phase ∷ phases) (report ∷ reports) (bs ∷ blocks) are (suc at) d low =
    numbered_at (number + 1) phases reports blocks are.2 at d (omega (arith, low)) ∙ (let e : number + 1 + at ≡ number + suc at = omega arith in e)
numbered_at number [] (report ∷ reports) blocks are at d low = absurd are
numbered_at number [] [] (bs ∷ blocks) are at d low = absurd are
numbered_at number (phase ∷ phases) [] blocks are at d low = absurd are
numbered_at number (phase ∷ phases) (report ∷ reports) [] are at d low = absurd are
