-- A session's quit is its only one, and its connect its only one.
use Rattle.std.proofs.Common.{◌≡◌, refl, ℕ, zero, suc, ◌+◌, ◌-◌, ◌<◌, ◌≤◌, ◌==◌, ◌&&◌, Bool, true, false, cond, nat_lt, nat_le, List, [], ◌∷◌, ◌++◌, length, take, Option, Some, None, sym, ap, subst, ◌∙◌, ◌⊎◌, inl, inr, arith}
use Rattle.std.specs.Prelude.{slice_get}
use Rattle.std.proofs.lemmas.Bool.{and_parts, eqb-true}
use Rattle.pfs_admin.specs.declared.changes.Change.{Change}
use Rattle.pfs_admin.specs.declared.changes.Change.TheVariants as changes
use Rattle.pfs_board.specs.declared.view.Label.{Label}
use Rattle.pfs_conservation.specs.AdministrationFold.{Action, Quit, Other, numbered}
use Rattle.pfs_event.specs.declared.entry.Entry.{Entry}
use Rattle.pfs_event.specs.declared.entry.Entry.TheVariants as says
use Rattle.pfs_model.specs.Actions.{IsAmong, numbers_by}
use Rattle.pfs_model.specs.EntryAsks.{is_head}
use Rattle.pfs_model.specs.Chains.{Each, times, change_at, action_change, each_of, is_of, is_that, IsChained}
use Rattle.pfs_model.specs.EntryPlaces.{Placed}
use Rattle.pfs_model.specs.declared.changes.Change.{Change as Numbered}
use Rattle.pfs_model.specs.declared.lines.Line.{Line}
use Rattle.pfs_model.specs.declared.lines.Line.TheVariants as lines
use Rattle.pfs_runs.specs.Labels.{AreLabels, label_at}
use Rattle.pfs_law_conservation.specs.RunActions.{actions_of, action_for}
use Rattle.pfs_law_conservation.specs.RunEvents.{given_by, connects_at, quits_at, first_of, is_quit, quit_in}
use Rattle.pfs_law_conservation.specs.Premises.{IsChangeOf, IsLabelOf, IsActionOf, AreLastBehind}
use Rattle.pfs_law_conservation.proofs.AdditionFloors.{place_among}
use Rattle.pfs_law_conservation.proofs.FirstConnects.{IsFirstConnect}
use Rattle.pfs_law_conservation.proofs.PlaceFolds.{truncation_quits, numbered_at, numbered_past, front_get, front_length, length_as}
use Rattle.pfs_law_conservation.proofs.ActionJournals.{zero_rows}
use Rattle.pfs_law_conservation.proofs.RowLines.{bit_yes}

-- the entry that says a number
pub record IsSaidBy (number : ℕ) (ps : List Placed) : Type 0 where
  pub place : Placed
  pub among : IsAmong place ps
  pub says : action_change place.entry ≡ change_at 0 number ∷ []

pub said_place : (number : ℕ) (ps : List Placed) → 1 ≤ times (is_that (change_at 0 number)) (each_of action_change ps) → IsSaidBy number ps
said_place number [] l = absurd (omega (arith, l))
said_place number (p ∷ ps) l = by p.entry refl l (said_place number ps) where
  later : IsSaidBy number ps → IsSaidBy number (p ∷ ps)
  later s = record { place = s.place; among = inr s.among; says = s.says }

  here : (n : ℕ) (b : Bool) → ((0 == 0) && (n == number)) ≡ b → action_change p.entry ≡ change_at 0 n ∷ [] → 1 ≤ cond {A = ℕ} b 1 0 + times (is_that (change_at 0 number)) (each_of action_change ps)
      → (1 ≤ times (is_that (change_at 0 number)) (each_of action_change ps) → IsSaidBy number ps) → IsSaidBy number (p ∷ ps)
  here n true q e l go = record { place = p; among = inl refl; says = e ∙ ap (λ z. change_at 0 z ∷ []) (eqb-true n number (and_parts (0 == 0) (n == number) q).1) }
  here n false q e l go = later (go (omega (arith, l)))

  by : (e : Entry) → p.entry ≡ e → 1 ≤ times (is_that (change_at 0 number)) (action_change e ++ each_of action_change ps) → (1 ≤ times (is_that (change_at 0 number)) (each_of action_change ps) → IsSaidBy number ps) → IsSaidBy number (p ∷ ps)
  by (says.Connect action thread account user host) q l go = here action ((0 == 0) && (action == number)) refl (ap action_change q) l go
  by (says.Act action) q l go = here action ((0 == 0) && (action == number)) refl (ap action_change q) l go
  by _ q l go = later (go l)

-- and its place among its session's
pub record IsIndexed (number : ℕ) (changes : List Numbered) : Type 0 where
  pub index : ℕ
  pub there : slice_get changes index ≡ Some (change_at 0 number)

index_later : (number : ℕ) (xs ys : List Numbered) → IsIndexed number ys → IsIndexed number (xs ++ ys)
index_later number [] ys i = i
index_later number (x ∷ xs) ys i = let r : IsIndexed number (xs ++ ys) = index_later number xs ys i in record { index = suc r.index; there = r.there }

pub said_index : (number : ℕ) (p : Placed) (ps : List Placed) → IsAmong p ps → action_change p.entry ≡ change_at 0 number ∷ [] → IsIndexed number (numbers_by p.session ps)
said_index number p [] m e = absurd m
said_index number p (x ∷ ps) (inl q) e = subst (λ (z : Placed). IsIndexed number (numbers_by z.session (x ∷ ps))) q here where
  self : (n : ℕ) → (n == n) ≡ true
  self n = grind arith

  own : cond (x.session == x.session) (action_change x.entry) [] ≡ change_at 0 number ∷ []
  own = ap (λ b. cond b (action_change x.entry) []) (self x.session) ∙ (ap (λ (z : Placed). action_change z.entry) q ∙ e)

  here : IsIndexed number (numbers_by x.session (x ∷ ps))
  here = record { index = 0; there = ap (λ cs. slice_get (cs ++ numbers_by x.session ps) 0) own }
said_index number p (x ∷ ps) (inr m) e = index_later number (cond (x.session == p.session) (action_change x.entry) []) (numbers_by p.session ps) (said_index number p ps m e)

-- behind a quit its session quits no more
no_quits : (session : ℕ) (earlier ps : List Placed) (q : ℕ) (qs : List ℕ) → AreLastBehind earlier ps → given_by quits_at session earlier ≡ q ∷ qs → given_by quits_at session ps ≡ []
no_quits session earlier [] q qs a e = refl
no_quits session earlier (p ∷ ps) q qs a e = at (p.session == session) refl (λ r s h. no_quits session (p ∷ earlier) ps r s a.1 h) where
  silent : (e : Entry) → is_head e ≡ false → quits_at p e ≡ []
  silent (says.Act action) h = absurd (cc)
  silent _ h = refl

  none : (p.session == session) ≡ true → (b : Bool) → is_head p.entry ≡ b → quits_at p p.entry ≡ []
  none own true h = absurd (let z : given_by quits_at session earlier ≡ [] = subst (λ s. given_by quits_at s earlier ≡ []) (eqb-true p.session session own) (a.0 h) in let k : q ∷ qs ≡ [] = sym e ∙ z in cc)
  none own false h = silent p.entry h

  at : (b : Bool) → (p.session == session) ≡ b → ((r : ℕ) (s : List ℕ) → cond (p.session == session) (quits_at p p.entry) [] ++ given_by quits_at session earlier ≡ r ∷ s → given_by quits_at session ps ≡ [])
      → cond b (quits_at p p.entry) [] ++ given_by quits_at session ps ≡ []
  at true own go =
      let n : quits_at p p.entry ≡ [] = none own (is_head p.entry) refl in
      ap (λ z. z ++ given_by quits_at session ps) n ∙ go q qs (ap (λ b. cond b (quits_at p p.entry) [] ++ given_by quits_at session earlier) own ∙ (ap (λ z. z ++ given_by quits_at session earlier) n ∙ e))
  at false own go = go q qs (ap (λ b. cond b (quits_at p p.entry) [] ++ given_by quits_at session earlier) own ∙ e)

-- so a quit is the one
pub one_quit : (session number : ℕ) (p : Placed) (earlier ps : List Placed) → AreLastBehind earlier ps → IsAmong p ps → (p.session == session) ≡ true → quits_at p p.entry ≡ number ∷ [] → given_by quits_at session ps ≡ number ∷ []
one_quit session number p earlier [] a m own e = absurd m
one_quit session number p earlier (x ∷ ps) a (inl q) own e =
    ap (λ b. cond b (quits_at x x.entry) [] ++ given_by quits_at session ps) mine ∙ (ap (λ z. z ++ given_by quits_at session ps) here ∙ ap (λ z. number ∷ z) (no_quits session (x ∷ earlier) ps number (given_by quits_at session earlier) a.1 (ap (λ b. cond b (quits_at x x.entry) [] ++ given_by quits_at session earlier) mine ∙ ap (λ z. z ++ given_by quits_at session earlier) here))) where
      mine : (x.session == session) ≡ true
      mine = ap (λ (z : Placed). z.session == session) q ∙ own

      here : quits_at x x.entry ≡ number ∷ []
      here = ap (λ (z : Placed). quits_at z z.entry) q ∙ e
one_quit session number p earlier (x ∷ ps) a (inr m) own e =
    let ih : given_by quits_at session ps ≡ number ∷ [] = one_quit session number p (x ∷ earlier) ps a.1 m own e in
    at (cond (x.session == session) (quits_at x x.entry) []) refl ih where
      at : (zs : List ℕ) → cond (x.session == session) (quits_at x x.entry) [] ≡ zs → given_by quits_at session ps ≡ number ∷ [] → zs ++ given_by quits_at session ps ≡ number ∷ []
      at [] q ih = ih
      at (z ∷ zs) q ih = absurd (let n : given_by quits_at session ps ≡ [] = no_quits session (x ∷ earlier) ps z (zs ++ given_by quits_at session earlier) a.1 (ap (λ ys. ys ++ given_by quits_at session earlier) q) in let k : number ∷ [] ≡ [] = sym ih ∙ n in cc)

-- the entries up to a phase among all, with the labels of their actions
pub record AreActing (change : Label → Change) (labels : List Label) (all ps : List Placed) : Type 0 where
  pub sub : (p : Placed) → IsAmong p ps → IsAmong p all
  pub labelled : AreLabels labels all
  pub chained : IsChained (each_of action_change ps)
  pub acts : Each (λ (p : Placed). IsActionOf change labels p.line p.entry) ps
  pub last : AreLastBehind [] ps
  pub few : length (each_of action_change ps) ≤ length labels

-- the entry of an action, with its label
pub record IsActed (change : Label → Change) (labels : List Label) (ps : List Placed) (number : ℕ) (label : Label) : Type 0 where
  pub said : IsSaidBy number ps
  pub session : said.place.session ≡ label.session
  pub at : label_at labels number ≡ Some label

module _ (change : Label → Change) (labels : List Label) (all ps : List Placed) (a : AreActing change labels all ps) where
  many : ℕ
  many = length (each_of action_change ps)

  none_past : (k : ℕ) → length (each_of action_change ps) < k → numbered (actions_of change (take (length (each_of action_change ps)) labels)) k ≡ Other
  none_past zero l = refl
  none_past (suc k) l =
      let n : length (actions_of change (take (length (each_of action_change ps)) labels)) ≡ length (take (length (each_of action_change ps)) labels) = length_as (λ (label : Label). action_for label.session (change label)) (take (length (each_of action_change ps)) labels) in
      let m : length (take (length (each_of action_change ps)) labels) ≡ length (each_of action_change ps) = front_length labels (length (each_of action_change ps)) a.few in
      numbered_past (actions_of change (take (length (each_of action_change ps)) labels)) k (omega (arith, n, m, l))

  suc_less : (k : ℕ) → suc k - 1 ≡ k
  suc_less k = omega arith

  acted_at : (k : ℕ) → suc k ≤ length (each_of action_change ps) → (label : Label) → slice_get labels k ≡ Some label → IsActed change labels ps (suc k) label
  acted_at k l label e = record {
    said = said;
    session = ap (λ (z : Label). z.session) same;
    at = e;
  } where
    within : (k m : ℕ) → suc k ≤ m → (nat_lt 0 (suc k) && nat_le (suc k) m) ≡ true
    within k m l = grind arith

    once : times (is_that (change_at 0 (suc k))) (each_of action_change ps) ≡ 1
    once = a.chained (change_at 0 (suc k)) ∙ bit_yes (nat_lt 0 (suc k) && nat_le (suc k) (times (is_of 0) (each_of action_change ps))) (within k (times (is_of 0) (each_of action_change ps)) (let z : times (is_of 0) (each_of action_change ps) ≡ length (each_of action_change ps) = zero_rows ps in omega (arith, z, l)))

    said : IsSaidBy (suc k) ps
    said = said_place (suc k) ps (omega (arith, once))

    i : IsIndexed (suc k) (numbers_by said.place.session all)
    i = said_index (suc k) said.place all (a.sub said.place said.among) said.says

    same : record { session = said.place.session; line = i.index + 1 } ≡ label
    same = some (record { session = said.place.session; line = i.index + 1 }) label (sym (a.labelled.each said.place.session i.index (change_at 0 (suc k)) i.there) ∙ (ap (slice_get labels) (suc_less k) ∙ e)) where
      some : (x y : Label) → Some x ≡ Some y → x ≡ y
      some x y q = cc

  -- of an action among those up to there
  pub acted_of : (k : ℕ) (action : Action) → numbered (actions_of change (take (length (each_of action_change ps)) labels)) k ≡ action → (action ≡ Other → ⊥)
      → (label : Label) × IsActed change labels ps k label × (action_for label.session (change label) ≡ action)
  acted_of zero action q n = absurd (n (sym q))
  acted_of (suc k) action q n = on (Rattle.pfs_law_conservation.proofs.EventNumbers.which (suc k) (length (each_of action_change ps))) where
    on : (suc k ≤ length (each_of action_change ps)) ⊎ (length (each_of action_change ps) < suc k) → (label : Label) × IsActed change labels ps (suc k) label × (action_for label.session (change label) ≡ action)
    on (inr l) = absurd (n (sym q ∙ none_past (suc k) l))
    on (inl l) = at (slice_get labels k) refl where
      there : (labels : List Label) (k : ℕ) → k < length labels → slice_get labels k ≡ None → ⊥
      there [] k l e = omega (arith, l)
      there (x ∷ xs) zero l e = cc
      there (x ∷ xs) (suc k) l e = there xs k (omega (arith, l)) e

      at : (o : Option Label) → slice_get labels k ≡ o → (label : Label) × IsActed change labels ps (suc k) label × (action_for label.session (change label) ≡ action)
      at None e = absurd (there labels k (let f : length (each_of action_change ps) ≤ length labels = a.few in omega (arith, f, l)) e)
      at (Some label) e = (label, acted_at k l label e, sym (numbered_at change (take (length (each_of action_change ps)) labels) k label (front_get labels (length (each_of action_change ps)) k (omega (arith, l)) ∙ e)) ∙ q)

  -- behind its connect a session quits by its quit alone
  pub no_other_quit : (session connect : ℕ) → Each (λ (p : Placed). (p.session == session) ≡ true → IsFirstConnect session ps p.entry) ps → first_of (given_by connects_at session ps) ≡ Some connect
      → (k : ℕ) → suc connect ≤ k → numbered (actions_of change (take (length (each_of action_change ps)) labels)) k ≡ Quit session → quit_in ps session ≡ Some k
  no_other_quit session connect firsts is k l q = on (acted_of k (Quit session) q (λ e. absurd (cc))) where
    on : (label : Label) × IsActed change labels ps k label × (action_for label.session (change label) ≡ Quit session) → quit_in ps session ≡ Some k
    on (label, acted, e) = by acted.said.place.entry refl acted.said.says where
      p : Placed
      p = acted.said.place

      quits : (s : ℕ) (what : Change) → action_for s what ≡ Quit session → (what ≡ changes.Quit) × (s ≡ session)
      quits s (changes.Connect user host) e = absurd (cc)
      quits s changes.Quit e = (refl, cc)
      quits s (changes.Truncate what) e = absurd (truncation_quits what session e)
      quits s (changes.Setup what) e = absurd (cc)

      own : (p.session == session) ≡ true
      own = subst (λ n. (n == session) ≡ true) (sym (acted.session ∙ (quits label.session (change label) e).1)) (self session) where
        self : (n : ℕ) → (n == n) ≡ true
        self n = grind arith

      labelled : (n : ℕ) → n ≡ k → IsLabelOf change p.line (label_at labels n) → IsChangeOf p.line changes.Quit
      labelled n f h = subst (λ z. IsChangeOf p.line z) (quits label.session (change label) e).0 (subst (IsLabelOf change p.line) (ap (label_at labels) f ∙ acted.at) h)

      line_quits : (line : Line) → IsChangeOf line changes.Quit → is_quit line ≡ true
      line_quits lines.Quit h = refl
      line_quits lines.Connect h = absurd h
      line_quits _ h = absurd h

      same : (n : ℕ) → ◌≡◌ {A = List Numbered} (change_at 0 n ∷ []) (change_at 0 k ∷ []) → n ≡ k
      same n f = let h : change_at 0 n ≡ change_at 0 k = cc in ap (λ (z : Numbered). z.version) h

      fact : IsActionOf change labels p.line p.entry
      fact = place_among (λ (p : Placed). IsActionOf change labels p.line p.entry) p ps acted.said.among a.acts

      by : (x : Entry) → p.entry ≡ x → action_change x ≡ change_at 0 k ∷ [] → quit_in ps session ≡ Some k
      by (says.Act n) f g =
          let h : IsChangeOf p.line changes.Quit = labelled n (same n g) (subst (IsActionOf change labels p.line) f fact) in
          let t : quits_at p p.entry ≡ k ∷ [] = ap (quits_at p) f ∙ (ap (λ b. cond b (n ∷ []) []) (line_quits p.line h) ∙ ap (λ z. z ∷ []) (same n g)) in
          ap first_of (one_quit session k p [] ps a.last acted.said.among own t)
      by (says.Connect n thread account user host) f g =
          let c : first_of (given_by connects_at session ps) ≡ Some n = subst (IsFirstConnect session ps) f (place_among (λ (p : Placed). (p.session == session) ≡ true → IsFirstConnect session ps p.entry) p ps acted.said.among firsts own) in
          let d : n ≡ connect = (let z : Some n ≡ Some connect = sym c ∙ is in cc) in
          absurd (let r : n ≡ k = same n g in omega (arith, d, r, l))
      by _ f g = absurd (cc)
