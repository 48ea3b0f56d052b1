-- Numbers that rise along each session, as a fact of each entry, and the other way.
use Rattle.std.proofs.Common.{◌≡◌, refl, ℕ, ◌<◌, ◌≤◌, ◌==◌, Bool, true, false, cond, List, [], ◌∷◌, ◌++◌, length, subst, arith}
use Rattle.pfs_model.proofs.EachLists.{each_behind, each_front, each_join}
use Rattle.pfs_model.specs.declared.changes.Change.{Change}
use Rattle.pfs_model.specs.Actions.{AreRising, numbers_by}
use Rattle.pfs_model.specs.Chains.{Each, action_change}
use Rattle.pfs_model.specs.EntryPlaces.{Placed}
use Rattle.pfs_check_faults.proofs.ChainFacts.{action_one_change}
use Rattle.pfs_check_faults.proofs.MemberCounts.{same_is, self_is}
use Rattle.pfs_check_faults.specs.EntryFaults.{RisesAt, RisingLaw}
use Rattle.pfs_check_faults.specs.ReportCases.{AllHave}

-- each of the first is below each of the others
abbrev Below : List Change → List Change → Type 0
Below befores numbers = Each (λ before. Each (λ number. before.version < number.version) numbers) befores

-- the same, said from the other side
abbrev Above : List Change → List Change → Type 0
Above numbers befores = Each (λ number. Each (λ before. before.version < number.version) befores) numbers

none_above : (numbers : List Change) → Above numbers []
none_above [] = tt
none_above (number ∷ numbers) = (tt, none_above numbers)

none_below : (befores : List Change) → Below befores []
none_below [] = tt
none_below (before ∷ befores) = (tt, none_below befores)

above_one : (numbers befores : List Change) (before : Change) → Each (λ number. before.version < number.version) numbers
    → Above numbers befores → Above numbers (before ∷ befores)
above_one [] befores before h a = tt
above_one (number ∷ numbers) befores before h a = ((h.0, a.0), above_one numbers befores before h.1 a.1)

above : (befores numbers : List Change) → Below befores numbers → Above numbers befores
above [] numbers b = none_above numbers
above (before ∷ befores) numbers b = above_one numbers befores before b.0 (above befores numbers b.1)

below_one : (befores numbers : List Change) (number : Change) → Each (λ before. before.version < number.version) befores
    → Below befores numbers → Below befores (number ∷ numbers)
below_one [] numbers number h b = tt
below_one (before ∷ befores) numbers number h b = ((h.0, b.0), below_one befores numbers number h.1 b.1)

below : (numbers befores : List Change) → Above numbers befores → Below befores numbers
below [] befores a = none_below befores
below (number ∷ numbers) befores a = below_one befores numbers number a.0 (below numbers befores a.1)

below_left : (befores xs ys : List Change) → Below befores (xs ++ ys) → Below befores xs
below_left [] xs ys b = tt
below_left (before ∷ befores) xs ys b = (each_front _ xs ys b.0, below_left befores xs ys b.1)

below_right : (befores xs ys : List Change) → Below befores (xs ++ ys) → Below befores ys
below_right [] xs ys b = tt
below_right (before ∷ befores) xs ys b = (each_behind _ xs ys b.0, below_right befores xs ys b.1)

below_join : (befores xs ys : List Change) → Below befores xs → Below befores ys → Below befores (xs ++ ys)
below_join [] xs ys a b = tt
below_join (before ∷ befores) xs ys a b = (each_join _ xs ys a.0 b.0, below_join befores xs ys a.1 b.1)

rising_behind : (xs ys : List Change) → AreRising (xs ++ ys) → AreRising ys
rising_behind [] ys r = r
rising_behind (x ∷ xs) ys r = rising_behind xs ys r.1

rising_below : (xs ys : List Change) → AreRising (xs ++ ys) → Below xs ys
rising_below [] ys r = tt
rising_below (x ∷ xs) ys r = (each_behind _ xs ys r.0, rising_below xs ys r.1)

rising_join : (xs ys : List Change) → AreRising xs → AreRising ys → Below xs ys → AreRising (xs ++ ys)
rising_join [] ys r s b = s
rising_join (x ∷ xs) ys r s b = (each_join _ xs ys r.0 b.0, rising_join xs ys r.1 s b.1)

short_rises : (xs : List Change) → length xs ≤ 1 → AreRising xs
short_rises [] h = tt
short_rises (x ∷ []) h = (tt, tt)
short_rises (x ∷ (y ∷ xs)) h = absurd (omega arith)

all_rise : (earlier ps : List Placed) → ((session : ℕ) → AreRising (numbers_by session ps))
    → ((session : ℕ) → Below (numbers_by session earlier) (numbers_by session ps)) → AllHave RisesAt earlier ps
all_rise earlier [] rising behind = tt
all_rise earlier (p ∷ ps) rising behind =
    (here (p.session == p.session) (self_is p.session) (behind p.session), all_rise (p ∷ earlier) ps next further) where
      here : (b : Bool) → b ≡ true → Below (numbers_by p.session earlier) (cond b (action_change p.entry) [] ++ numbers_by p.session ps)
          → RisesAt earlier p
      here true e h = above (numbers_by p.session earlier) (action_change p.entry)
          (below_left (numbers_by p.session earlier) (action_change p.entry) (numbers_by p.session ps) h)
      here false e h = absurd (cc)

      next : (session : ℕ) → AreRising (numbers_by session ps)
      next session = rising_behind (cond (p.session == session) (action_change p.entry) []) (numbers_by session ps) (rising session)

      further : (session : ℕ) → Below (numbers_by session (p ∷ earlier)) (numbers_by session ps)
      further session =
          each_join _ (cond (p.session == session) (action_change p.entry) []) (numbers_by session earlier)
          (rising_below (cond (p.session == session) (action_change p.entry) []) (numbers_by session ps) (rising session))
          (below_right (numbers_by session earlier) (cond (p.session == session) (action_change p.entry) []) (numbers_by session ps) (behind session))

-- they rise, and are above those before
pub rise : (earlier ps : List Placed) → AllHave RisesAt earlier ps → (session : ℕ)
    → AreRising (numbers_by session ps) × Below (numbers_by session earlier) (numbers_by session ps)
rise earlier [] h session = (tt, none_below (numbers_by session earlier))
rise earlier (p ∷ ps) h session = at (p.session == session) refl (rise (p ∷ earlier) ps h.1 session) where
  at : (b : Bool) → (p.session == session) ≡ b
      → AreRising (numbers_by session ps) × Below (cond b (action_change p.entry) [] ++ numbers_by session earlier) (numbers_by session ps)
      → AreRising (cond b (action_change p.entry) [] ++ numbers_by session ps)
      × Below (numbers_by session earlier) (cond b (action_change p.entry) [] ++ numbers_by session ps)
  at true e r = (
    rising_join (action_change p.entry) (numbers_by session ps) (short_rises (action_change p.entry) (action_one_change p.entry)) r.0
        (each_front _ (action_change p.entry) (numbers_by session earlier) r.1),
    below_join (numbers_by session earlier) (action_change p.entry) (numbers_by session ps)
        (below (action_change p.entry) (numbers_by session earlier)
        (subst (λ z. Above (action_change p.entry) (numbers_by z earlier)) (same_is p.session session e) h.0))
        (each_behind _ (action_change p.entry) (numbers_by session earlier) r.1),
  )
  at false e r = r

pub rising_law : RisingLaw
rising_law all =
    ((λ rising. all_rise [] all rising (λ session. tt)), (λ h session. (rise [] all h session).0))
