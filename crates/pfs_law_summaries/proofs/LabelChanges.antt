-- Where a session's labels in their order say what its lines ask for, each action does its line's change.
use Rattle.std.proofs.Common.{ℕ, zero, suc, ◌≡◌, ◌+◌, ◌-◌, ◌==◌, Bool, true, false, cond, nat_le, List, [], ◌∷◌, ◌++◌, length, length-append, Some, refl, sym, subst, ◌∙◌, ap, arith}
use Rattle.std.specs.Prelude.{slice_get}
use Rattle.pfs_lemmas.proofs.Numbers.{eq_self, le_self}
use Rattle.pfs_admin.specs.declared.changes.Change.{Change}
use Rattle.pfs_board.specs.declared.view.Label.{Label}
use Rattle.pfs_event.specs.declared.entry.Entry.{Entry}
use Rattle.pfs_event.specs.declared.entry.Entry.TheVariants as says
use Rattle.pfs_model.specs.Actions.{numbers_by}
use Rattle.pfs_model.specs.Chains.{Each, times, change_at, action_change, each_of, is_that, AreChained}
use Rattle.pfs_model.specs.EntryPlaces.{Placed, up_to_phase}
use Rattle.pfs_model.specs.declared.changes.Change.{Change as Numbered}
use Rattle.pfs_model.proofs.ChainGrowth.{times_append}
use Rattle.pfs_runs.specs.Labels.{AreLabels, label_at}
use Rattle.pfs_law_conservation.specs.Premises.{IsChangeOf, IsLabelOf, IsActionOf, AreActionsOf}
use Rattle.pfs_law_summaries.proofs.LineActions.{acts}

-- a session's label behind so many actions
abbrev pub label_behind : ℕ → ℕ → Label
label_behind session made = record { session = session; line = made + 1 }

abbrev pub made_by : ℕ → List Placed → ℕ
made_by session earlier = length (numbers_by session earlier)

-- the labels of entries behind others, counted along each session, say the changes of their lines
abbrev pub IsNamed : (Label → Change) → List Placed → Placed → Type 0
IsNamed change earlier p =
    acts p.entry ≡ true → IsChangeOf p.line (change (label_behind p.session (made_by p.session earlier)))

abbrev pub AreNamedBehind : (Label → Change) → List Placed → List Placed → Type 0
AreNamedBehind change earlier [] = Unit {0}
AreNamedBehind change earlier (p ∷ ps) = IsNamed change earlier p × AreNamedBehind change (p ∷ earlier) ps

-- no action has the number 0
abbrev IsPositive : Placed → Type 0
IsPositive p = action_change p.entry ≡ change_at 0 0 ∷ [] → ⊥

abbrev zeros : List Placed → ℕ
zeros ps = times (is_that (change_at 0 0)) (each_of action_change ps)

positive : (ps : List Placed) → ((phase : ℕ) → zeros (up_to_phase phase ps) ≡ 0) → Each IsPositive ps
positive [] none = tt
positive (p ∷ ps) none = (first, positive ps (λ phase. later phase (nat_le p.phase phase) (none phase))) where
  more : (xs : List Placed) → zeros (p ∷ xs) ≡ times (is_that (change_at 0 0)) (action_change p.entry) + zeros xs
  more xs = times_append (is_that (change_at 0 0)) (action_change p.entry) (each_of action_change xs)

  first : IsPositive p
  first e =
      let rest : List Placed = up_to_phase p.phase ps in
      let all : zeros (p ∷ rest) ≡ 0 =
      sym (ap (λ b. zeros (cond b (p ∷ []) [] ++ rest)) (le_self p.phase)) ∙ none p.phase in
      let one : times (is_that (change_at 0 0)) (action_change p.entry) ≡ 1 = ap (times (is_that (change_at 0 0))) e in
      absurd (omega (arith, all, more rest, one))

  later : (phase : ℕ) (b : Bool) → zeros (cond b (p ∷ []) [] ++ up_to_phase phase ps) ≡ 0
      → zeros (up_to_phase phase ps) ≡ 0
  later phase true n = omega (arith, n, more (up_to_phase phase ps))
  later phase false n = n

pub all_positive : (all : List Placed) → AreChained action_change all → Each IsPositive all
all_positive all chained = positive all (λ phase. chained phase (change_at 0 0))

get_past : {A : Type 0} (xs ys : List A) (i : ℕ) → slice_get (xs ++ ys) (length xs + i) ≡ slice_get ys i
get_past [] ys i = ap (slice_get ys) (none i) where
  none : (i : ℕ) → 0 + i ≡ i
  none i = omega arith
get_past (x ∷ xs) ys i = ap (slice_get (x ∷ (xs ++ ys))) (more (length xs) i) ∙ get_past xs ys i where
  more : (n i : ℕ) → suc n + i ≡ suc (n + i)
  more n i = omega arith

-- the numbers that a session has behind those of `earlier` are those of `ps`
abbrev GoesOn : List Placed → List Placed → List Placed → Type 0
GoesOn all earlier ps =
    (session i : ℕ)
    → slice_get (numbers_by session all) (made_by session earlier + i) ≡ slice_get (numbers_by session ps) i

goes_on : (all earlier : List Placed) (p : Placed) (ps : List Placed) → GoesOn all earlier (p ∷ ps)
    → GoesOn all (p ∷ earlier) ps
goes_on all earlier p ps on session i =
    let own : List Numbered = cond (p.session == session) (action_change p.entry) [] in
    ap (slice_get (numbers_by session all)) (moved own (numbers_by session earlier))
    ∙ (on session (length own + i) ∙ get_past own (numbers_by session ps) i) where
      moved : (xs ys : List Numbered) → length (xs ++ ys) + i ≡ length ys + (length xs + i)
      moved xs ys = omega (arith, length-append xs ys)

module _ (change : Label → Change) (labels : List Label) (all : List Placed) (are : AreLabels labels all) where
  label_here : (earlier : List Placed) (p : Placed) (ps : List Placed) (action : ℕ) → GoesOn all earlier (p ∷ ps)
      → IsPositive p → action_change p.entry ≡ change_at 0 action ∷ []
      → label_at labels action ≡ Some (label_behind p.session (made_by p.session earlier))
  label_here earlier p ps action on some e = by action e labelled where
    none_more : (n : ℕ) → n ≡ n + 0
    none_more n = omega arith

    there : slice_get (numbers_by p.session all) (made_by p.session earlier) ≡ Some (change_at 0 action)
    there =
        ap (slice_get (numbers_by p.session all)) (none_more (made_by p.session earlier))
        ∙ (on p.session 0
        ∙ (ap (λ b. slice_get (cond b (action_change p.entry) [] ++ numbers_by p.session ps) 0) (eq_self p.session)
        ∙ ap (λ z. slice_get (z ++ numbers_by p.session ps) 0) e))

    labelled : slice_get labels (action - 1) ≡ Some (label_behind p.session (made_by p.session earlier))
    labelled = are.each p.session (made_by p.session earlier) (change_at 0 action) there

    less : (k : ℕ) → k ≡ suc k - 1
    less k = omega arith

    by : (action : ℕ) → action_change p.entry ≡ change_at 0 action ∷ []
        → slice_get labels (action - 1) ≡ Some (label_behind p.session (made_by p.session earlier))
        → label_at labels action ≡ Some (label_behind p.session (made_by p.session earlier))
    by zero e q = absurd (some e)
    by (suc k) e q = ap (slice_get labels) (less k) ∙ q

  action_here : (earlier : List Placed) (p : Placed) (ps : List Placed) → GoesOn all earlier (p ∷ ps) → IsPositive p
      → IsNamed change earlier p → IsActionOf change labels p.line p.entry
  action_here earlier p ps on some named = by p.entry refl where
    labelled : (action : ℕ) → action_change p.entry ≡ change_at 0 action ∷ [] → acts p.entry ≡ true
        → IsLabelOf change p.line (label_at labels action)
    labelled action e a = subst (IsLabelOf change p.line) (sym (label_here earlier p ps action on some e)) (named a)

    by : (e : Entry) → p.entry ≡ e → IsActionOf change labels p.line e
    by (says.Connect action thread account user host) q = labelled action (ap action_change q) (ap acts q)
    by (says.Act action) q = labelled action (ap action_change q) (ap acts q)
    by _ q = tt

  named_from : (earlier ps : List Placed) → GoesOn all earlier ps → Each IsPositive ps
      → AreNamedBehind change earlier ps → AreActionsOf change labels ps
  named_from earlier [] on some named = tt
  named_from earlier (p ∷ ps) on some named = (
    action_here earlier p ps on some.0 named.0,
    named_from (p ∷ earlier) ps (goes_on all earlier p ps on) some.1 named.1,
  )

  pub named_actions : AreChained action_change all → AreNamedBehind change [] all → AreActionsOf change labels all
  named_actions chained named =
      named_from [] all (λ session i. ap (slice_get (numbers_by session all)) (none i)) (all_positive all chained)
      named where
        none : (i : ℕ) → 0 + i ≡ i
        none i = omega arith
