-- Each event that is added to a row of the kind is one of its events, and stands there once.
use Rattle.std.proofs.Common.{◌≡◌, refl, ℕ, ◌+◌, ◌≤◌, ◌==◌, Bool, true, false, cond, List, [], ◌∷◌, ◌++◌, map, count_by, ap, ◌∙◌, arith}
use Rattle.pfs_lemmas.proofs.Numbers.{eq_self}
use Rattle.pfs_conservation.specs.PrintedChanges.{Tagged, times_added, AllOnce}
use Rattle.pfs_conservation.specs.Conservation.{Once}
use Rattle.pfs_event.specs.declared.entry.Entry.{Entry}
use Rattle.pfs_event.specs.declared.entry.Entry.TheVariants as says
use Rattle.pfs_model.specs.Contexts.{brought}
use Rattle.pfs_model.specs.EntryPlaces.{Placed}
use Rattle.pfs_model.specs.declared.lines.Opened.{Opened}
use Rattle.pfs_law_conservation.specs.RunEvents.{event_number}
use Rattle.pfs_law_conservation.specs.KindLines.{brought_by, lines_at, all_lines, lines_on}
use Rattle.pfs_law_conservation.proofs.HeldAdditions.{numbers_own, added_then}
use Rattle.pfs_law_conservation.proofs.EventNumbers.{opened_at}

-- each of these events is counted once
once_all : (all : List ℕ) (session : ℕ) (events : List Opened) → ((index : ℕ) → 1 ≤ opened_at index events → count_by (λ y. event_number session index == y) all ≡ 1)
    → Once all (map (λ (event : Opened). event_number session event.index) events)
once_all all session [] h = tt
once_all all session (event ∷ events) h =
    (h event.index (first (event.index == event.index) (eq_self event.index)), once_all all session events (λ index l. h index (more (event.index == index) (opened_at index events) l))) where
      first : (b : Bool) → b ≡ true → 1 ≤ cond {A = ℕ} b 1 0 + opened_at event.index events
      first true q = omega arith
      first false q = absurd (cc)

      more : (b : Bool) (n : ℕ) → 1 ≤ n → 1 ≤ cond {A = ℕ} b 1 0 + n
      more true n l = omega arith
      more false n l = omega (arith, l)

module _ (all : List ℕ) (test : ℕ → Bool) (whole : List Placed)
    (known : (session index row : ℕ) → test row ≡ true → 1 ≤ times_added (event_number session index) (all_lines whole) row → count_by (λ y. event_number session index == y) all ≡ 1) where
  abbrev Within : List Placed → Type 0
  Within ps = (n row : ℕ) → times_added n (all_lines ps) row ≤ times_added n (all_lines whole) row

  once_walk : (ps : List Placed) → Within ps → AllOnce all (lines_on test (all_lines ps))
  once_walk [] w = tt
  once_walk (p ∷ ps) w = by p.entry refl (once_walk ps rest) where
    joined : (n row : ℕ) → times_added n (lines_at p p.entry ++ all_lines ps) row ≡ times_added n (lines_at p p.entry) row + times_added n (all_lines ps) row
    joined n row = added_then n row (lines_at p p.entry) (all_lines ps)

    rest : Within ps
    rest n row = (let l : times_added n (lines_at p p.entry ++ all_lines ps) row ≤ times_added n (all_lines whole) row = w n row in omega (arith, l, joined n row))

    own : (r v : ℕ) → p.entry ≡ says.Add r v → test r ≡ true → Once all (brought_by p r)
    own r v e t = once_all all p.session (brought p.context r) (λ index l. known p.session index r t (here index l)) where
      here : (index : ℕ) → 1 ≤ opened_at index (brought p.context r) → 1 ≤ times_added (event_number p.session index) (all_lines whole) r
      here index l =
          let n : count_by (λ y. y == event_number p.session index) (brought_by p r) ≡ opened_at index (brought p.context r) = numbers_own p.session index (brought p.context r) in
          let o : times_added (event_number p.session index) (lines_at p p.entry) r ≡ cond (r == r) (count_by (λ y. y == event_number p.session index) (brought_by p r)) 0 + 0
          = ap (λ z. times_added (event_number p.session index) (lines_at p z) r) e in
          let s : cond (r == r) (count_by (λ y. y == event_number p.session index) (brought_by p r)) 0 ≡ count_by (λ y. y == event_number p.session index) (brought_by p r)
          = ap (λ b. cond b (count_by (λ y. y == event_number p.session index) (brought_by p r)) 0) (eq_self r) in
          let j : times_added (event_number p.session index) (lines_at p p.entry ++ all_lines ps) r ≡ times_added (event_number p.session index) (lines_at p p.entry) r + times_added (event_number p.session index) (all_lines ps) r = joined (event_number p.session index) r in
          let u : times_added (event_number p.session index) (lines_at p p.entry ++ all_lines ps) r ≤ times_added (event_number p.session index) (all_lines whole) r = w (event_number p.session index) r in
          omega (arith, n, o, s, j, u, l)

    quiet : (line : Tagged) (b : Bool) → (b ≡ true → AllOnce all (line ∷ [])) → AllOnce all (lines_on test (all_lines ps)) → AllOnce all (cond b (line ∷ []) [] ++ lines_on test (all_lines ps))
    quiet line true f ih = ((f refl).0, ih)
    quiet line false f ih = ih

    at : (line : Tagged) (b : Bool) → test line.row ≡ b → (test line.row ≡ true → AllOnce all (line ∷ [])) → AllOnce all (lines_on test (all_lines ps)) → AllOnce all (cond b (line ∷ []) [] ++ lines_on test (all_lines ps))
    at line b q f ih = quiet line b (λ z. f (q ∙ z)) ih

    by : (e : Entry) → p.entry ≡ e → AllOnce all (lines_on test (all_lines ps)) → AllOnce all (lines_on test (lines_at p e ++ all_lines ps))
    by (says.Add r v) e ih = at _ (test r) refl (λ t. (own r v e t, tt)) ih
    by (says.Take r v) e ih = at _ (test r) refl (λ t. (tt, tt)) ih
    by (says.Give r v from) e ih = at _ (test r) refl (λ t. (tt, tt)) ih
    by _ e ih = ih

  pub all_once : AllOnce all (lines_on test (all_lines whole))
  all_once = once_walk whole (λ n row. self (times_added n (all_lines whole) row)) where
    self : (n : ℕ) → n ≤ n
    self n = omega arith
