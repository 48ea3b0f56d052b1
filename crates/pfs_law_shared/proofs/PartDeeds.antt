-- What a line's entries print as deeds of its action, under its number, is among what its calls changed.
use Rattle.std.proofs.Common.{ℕ, ◌≡◌, ◌+◌, ◌≤◌, ◌==◌, Bool, true, false, not, List, [], ◌∷◌, ◌++◌, Option, Some, None, refl, ap, sym, ◌∙◌, subst, arith, append-nil, eqb-true, eq-eqb}
use Rattle.std.proofs.lemmas.Bool.{false≢true}
use Rattle.pfs_event.specs.declared.entry.Entry.{Entry}
use Rattle.pfs_event.specs.declared.entry.Entry.TheVariants as says
use Rattle.pfs_levels.specs.JointCalls.{total, one_if, At, changes_of, sets_of}
use Rattle.pfs_model.proofs.ActionGuards.{begins, Guarded}
use Rattle.pfs_model.specs.Actions.{Deed, is_acted, deed_at, set_at, deeds_by, settings_of, setting_at}
use Rattle.pfs_model.specs.Chains.{Each, action_change, row_change, release_of, each_of}
use Rattle.pfs_model.specs.Contexts.{Context, noted, subject_of, turned}
use Rattle.pfs_model.specs.EntryPlaces.{Placed, placed_part}
use Rattle.pfs_model.specs.declared.lines.Line.{Line}
use Rattle.pfs_model.specs.declared.lines.Subject.{Subject}
use Rattle.pfs_session.specs.SessionStates.{State}
use Rattle.pfs_law_session.specs.Deeds.{Part, IsPart, action_of, line_of, part_calls, part_entries}
use Rattle.pfs_law_plain.specs.Notes.{notes_of}
use Rattle.pfs_law_plain.specs.SessionNotes.{Sits, ToldLaw, turns_notes}
use Rattle.pfs_law_plain.specs.Weights.{put_at, free_at, setting_of, AreWeighed, WeighedLaw}
use Rattle.pfs_law_joint.specs.Versions.{at_set}
use Rattle.pfs_law_joint.proofs.Sums.{total_then}
use Rattle.pfs_law_shared.proofs.ActionNotes.{acts, act_by, places_acts, part_acts}

abbrev pub at_deed : Deed → At
at_deed d = record { row = d.row; version = d.version; puts = not d.releases }

-- the numbers that entries begin
abbrev pub BeginsBy : (ℕ → Type 0) → Entry → Type 0
BeginsBy P (says.Connect action thread account user host) = P action
BeginsBy P (says.Act action) = P action
BeginsBy P _ = Unit {0}

abbrev pub AllBegin : (ℕ → Type 0) → List Entry → Type 0
AllBegin P [] = Unit {0}
AllBegin P (e ∷ es) = BeginsBy P e × AllBegin P es

one_begins : (P : ℕ → Type 0) (h : ℕ → ℕ) → ((n : ℕ) → h n ≡ 0 → P n) → (e : Entry) → total (λ c. h c.version) (action_change e) ≡ 0 → BeginsBy P e
unfolding total
one_begins P h so (says.Connect action thread account user host) none = so action (omega (arith, none))
one_begins P h so (says.Act action) none = so action (omega (arith, none))
one_begins P h so _ none = tt

all_begin : (P : ℕ → Type 0) (h : ℕ → ℕ) → ((n : ℕ) → h n ≡ 0 → P n) → (phase session : ℕ) (line : Line) (context : Context) (es : List Entry)
    → total (λ c. h c.version) (each_of action_change (placed_part phase session line context es)) ≡ 0 → AllBegin P es
unfolding total
all_begin P h so phase session line context [] none = tt
all_begin P h so phase session line context (e ∷ es) none =
    let rest : List Placed = placed_part phase session line (noted (subject_of line) context e) es in
    let t = total_then (λ c. h c.version) (action_change e) (each_of action_change rest) in
    (one_begins P h so e (omega (arith, none, t)), all_begin P h so phase session line (noted (subject_of line) context e) es (omega (arith, none, t)))

-- the action in hand is that of the number that was printed last
pub action_kept : (subject : Option Subject) (context : Context) (e : Entry) → begins e ≡ false → (noted subject context e).action ≡ context.action
action_kept subject context (says.Connect action thread account user host) none = absurd (false≢true (sym none))
action_kept subject context (says.Act action) none = absurd (false≢true (sym none))
action_kept subject context (says.Start event verdict consumers thread class table) none = refl
action_kept subject context (says.End event last consumers thread) none = refl
action_kept subject context (says.Held row first second) none = refl
action_kept subject context (says.Add row version) none = refl
action_kept subject context says.Settle none = refl
action_kept subject context (says.Take row version) none = refl
action_kept subject context _ none = refl

pub action_begun : (P : ℕ → Type 0) (subject : Option Subject) (context : Context) (e : Entry) → begins e ≡ true → BeginsBy P e → P (noted subject context e).action
action_begun P subject context (says.Connect action thread account user host) is p = p
action_begun P subject context (says.Act action) is p = p
action_begun P subject context _ is p = absurd (false≢true is)

-- what an entry gives under its action's number: only what is acted gives something, each under it
pub record IsGiven (given : ℕ → Entry → List Deed) : Type 0 where
  pub nothing : (action : ℕ) (e : Entry) → is_acted e ≡ false → given action e ≡ []
  pub own : (action : ℕ) (e : Entry) → Each (λ d. d.action ≡ action) (given action e)

pub deeds_given : IsGiven deed_at
deeds_given = record { nothing = nothing; own = own } where
  nothing : (action : ℕ) (e : Entry) → is_acted e ≡ false → deed_at action e ≡ []
  nothing action (says.Take row version) none = absurd (false≢true (sym none))
  nothing action (says.Give row version from) none = absurd (false≢true (sym none))
  nothing action (says.Tag row version) none = absurd (false≢true (sym none))
  nothing action (says.Free row version) none = absurd (false≢true (sym none))
  nothing action _ none = refl

  own : (action : ℕ) (e : Entry) → Each (λ d. d.action ≡ action) (deed_at action e)
  own action (says.Take row version) = (refl, tt)
  own action (says.Give row version from) = (refl, tt)
  own action (says.Tag row version) = (refl, tt)
  own action (says.Free row version) = (refl, tt)
  own action _ = tt

pub sets_given : IsGiven set_at
sets_given = record { nothing = nothing; own = own } where
  nothing : (action : ℕ) (e : Entry) → is_acted e ≡ false → set_at action e ≡ []
  nothing action (says.Set word version flags) none = absurd (false≢true (sym none))
  nothing action _ none = refl

  own : (action : ℕ) (e : Entry) → Each (λ d. d.action ≡ action) (set_at action e)
  own action (says.Set word version flags) = (refl, tt)
  own action _ = tt

each_both : (P : Deed → Type 0) (xs ys : List Deed) → Each P xs → Each P ys → Each P (xs ++ ys)
each_both P [] ys a b = b
each_both P (x ∷ xs) ys a b = (a.0, each_both P xs ys a.1 b)

of_action : (P : ℕ → Type 0) (action : ℕ) (ds : List Deed) → P action → Each (λ d. d.action ≡ action) ds → Each (λ d. P d.action) ds
of_action P action [] p each = tt
of_action P action (d ∷ ds) p each = (subst P (sym each.0) p, of_action P action ds p each.1)

module _ (given : ℕ → Entry → List Deed) (is : IsGiven given) (P : ℕ → Type 0) (phase session : ℕ) (line : Line) where
  -- behind a number
  behind : (context : Context) (es : List Entry) → P context.action → AllBegin P es → Each (λ d. P d.action) (deeds_by given (placed_part phase session line context es))
  behind context [] p all = tt
  behind context (e ∷ es) p all =
      each_both (λ d. P d.action) (given context.action e) (deeds_by given (placed_part phase session line (noted (subject_of line) context e) es))
      (of_action P context.action (given context.action e) p (is.own context.action e)) (behind (noted (subject_of line) context e) es (next (begins e) refl) all.1) where
        next : (b : Bool) → begins e ≡ b → P (noted (subject_of line) context e).action
        next true q = action_begun P (subject_of line) context e q all.0
        next false q = subst P (sym (action_kept (subject_of line) context e q)) p

  -- and where none stands before it
  guarded : (context : Context) (es : List Entry) → Guarded false es → AllBegin P es → Each (λ d. P d.action) (deeds_by given (placed_part phase session line context es))
  guarded context [] g all = tt
  guarded context (e ∷ es) g all = at (λ more. guarded (noted (subject_of line) context e) es more all.1) (begins e) refl g.1 where
    here : Each (λ d. P d.action) (given context.action e)
    here = subst (Each (λ d. P d.action)) (sym (is.nothing context.action e g.0)) tt

    at : (Guarded false es → Each (λ d. P d.action) (deeds_by given (placed_part phase session line (noted (subject_of line) context e) es)))
        → (b : Bool) → begins e ≡ b → Guarded b es → Each (λ d. P d.action) (given context.action e ++ deeds_by given (placed_part phase session line (noted (subject_of line) context e) es))
    at go true q h =
        each_both (λ d. P d.action) (given context.action e) (deeds_by given (placed_part phase session line (noted (subject_of line) context e) es)) here
        (behind (noted (subject_of line) context e) es (action_begun P (subject_of line) context e q all.0) all.1)
    at go false q h = each_both (λ d. P d.action) (given context.action e) (deeds_by given (placed_part phase session line (noted (subject_of line) context e) es)) here (go h)

-- deeds are changes, and sets are the printed ones
module _ (k : At → ℕ) where
  entry_deeds : (action : ℕ) (e : Entry) → total (λ d. k (at_deed d)) (deed_at action e) ≤ total (λ c. k (put_at c)) (row_change e) + total (λ c. k (free_at c)) (release_of e)
  unfolding total
  entry_deeds action (says.Take row version) = omega arith
  entry_deeds action (says.Give row version from) = omega arith
  entry_deeds action (says.Tag row version) = omega arith
  entry_deeds action (says.Free row version) = omega arith
  entry_deeds action _ = omega arith

  pub deeds_low : (ps : List Placed) → total (λ d. k (at_deed d)) (deeds_by deed_at ps) ≤ total (λ c. k (put_at c)) (each_of row_change ps) + total (λ c. k (free_at c)) (each_of release_of ps)
  unfolding total
  deeds_low [] = omega arith
  deeds_low (p ∷ ps) =
      let a = total_then (λ d. k (at_deed d)) (deed_at p.context.action p.entry) (deeds_by deed_at ps) in
      let b = total_then (λ c. k (put_at c)) (row_change p.entry) (each_of row_change ps) in
      let c = total_then (λ c. k (free_at c)) (release_of p.entry) (each_of release_of ps) in
      omega (arith, a, b, c, entry_deeds p.context.action p.entry, deeds_low ps)

  entry_sets : (action : ℕ) (e : Entry) → total (λ d. k (at_deed d)) (set_at action e) ≡ total (λ s. k (at_set (setting_of s))) (setting_at action e)
  unfolding total
  entry_sets action (says.Set word version flags) = refl
  entry_sets action _ = refl

  pub sets_same : (ps : List Placed) → total (λ d. k (at_deed d)) (deeds_by set_at ps) ≡ total (λ s. k (at_set (setting_of s))) (settings_of ps)
  unfolding total
  sets_same [] = refl
  sets_same (p ∷ ps) =
      let a = total_then (λ d. k (at_deed d)) (set_at p.context.action p.entry) (deeds_by set_at ps) in
      let b = total_then (λ s. k (at_set (setting_of s))) (setting_at p.context.action p.entry) (settings_of ps) in
      omega (arith, a, b, entry_sets p.context.action p.entry, sets_same ps)

-- each deed stands under the number of the line's action, and a line without one has none
abbrev pub IsOwnNumber : Option ℕ → ℕ → Type 0
IsOwnNumber None n = ⊥
IsOwnNumber (Some number) n = n ≡ number

-- of one line of a session
module _ (told : ToldLaw) (weighed : WeighedLaw) (phase session : ℕ) (context : Context) (s : State) (p : Part) (sits : Sits context s) (is : IsPart s p) where
  abbrev pub own : List Placed
  own = placed_part phase session (line_of p.deed) (turned context) (part_entries p)

  pub numbers : each_of action_change own ≡ act_by (action_of p.deed)
  numbers =
      let t = (told context s (p ∷ []) sits (is, tt)).same phase session in
      let e : notes_of own ≡ turns_notes p.turns = sym (ap notes_of (append-nil own)) ∙ (t ∙ append-nil (turns_notes p.turns)) in
      places_acts own ∙ (ap acts e ∙ part_acts s p is)

  pub changes : (k : At → ℕ) → total (λ c. k (put_at c)) (each_of row_change own) + total (λ c. k (free_at c)) (each_of release_of own) ≡ total k (changes_of (part_calls p))
  changes k =
      let w : AreWeighed (own ++ []) (part_calls p) = weighed phase session context s (p ∷ []) sits (is, tt) in
      subst (λ z. total (λ c. k (put_at c)) (each_of row_change z) + total (λ c. k (free_at c)) (each_of release_of z) ≡ total k (changes_of (part_calls p))) (append-nil own) (w.rows k)

  pub sets : (k : At → ℕ) → total (λ s. k (at_set (setting_of s))) (settings_of own) ≡ total (λ z. k (at_set z)) (sets_of (part_calls p))
  sets k =
      let w : AreWeighed (own ++ []) (part_calls p) = weighed phase session context s (p ∷ []) sits (is, tt) in
      subst (λ z. total (λ s. k (at_set (setting_of s))) (settings_of z) ≡ total (λ z. k (at_set z)) (sets_of (part_calls p))) (append-nil own) (w.sets (λ z. k (at_set z)))

  pub begun : (action : Option ℕ) → each_of action_change own ≡ act_by action → AllBegin (IsOwnNumber action) (part_entries p)
  unfolding total
  begun None e = all_begin (IsOwnNumber None) (λ n. 1) (λ n e. omega (arith, e)) phase session (line_of p.deed) (turned context) (part_entries p) (ap (total (λ c. 1)) e)
  begun (Some number) e = all_begin (IsOwnNumber (Some number)) (λ n. one_if (not (n == number))) (λ n e. by n (n == number) refl e) phase session (line_of p.deed) (turned context) (part_entries p)
      (ap (total (λ c. one_if (not (c.version == number)))) e ∙ ap (λ b. one_if (not b) + 0) (eq-eqb number number refl)) where
        by : (n : ℕ) (b : Bool) → (n == number) ≡ b → one_if (not b) ≡ 0 → n ≡ number
        by n true q e = eqb-true n number q
        by n false q e = absurd (omega (arith, e))

  pub own_deeds : (given : ℕ → Entry → List Deed) → IsGiven given → Guarded false (part_entries p) → Each (λ d. IsOwnNumber (action_of p.deed) d.action) (deeds_by given own)
  own_deeds given gives guard = guarded given gives (IsOwnNumber (action_of p.deed)) phase session (line_of p.deed) (turned context) (part_entries p) guard (begun (action_of p.deed) numbers)
