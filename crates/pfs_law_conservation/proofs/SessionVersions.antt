-- Along a session the versions of a row rise, since each change is above its floor.
use Rattle.std.proofs.Common.{◌≡◌, refl, ℕ, ◌<◌, ◌≤◌, ◌==◌, Bool, true, false, cond, List, [], ◌∷◌, ◌++◌, max, sym, ap, subst, ◌∙◌, arith}
use Rattle.pfs_lemmas.proofs.Numbers.{eq_self}
use Rattle.pfs_conservation.specs.PrintedChanges.{Tagged}
use Rattle.pfs_conservation.specs.Prints.{Above, Rises}
use Rattle.pfs_event.specs.declared.entry.Entry.{Entry}
use Rattle.pfs_event.specs.declared.entry.Entry.TheVariants as says
use Rattle.pfs_model.specs.declared.changes.Change.{Change}
use Rattle.pfs_model.specs.Chains.{Each, each_of, change_at}
use Rattle.pfs_model.specs.Floors.{rows_known, greatest, floor_of, namings_of, NamingsKeep, AreFlooredBehind}
use Rattle.pfs_model.specs.EntryPlaces.{Placed, chosen, by_session}
use Rattle.pfs_law_conservation.specs.KindLines.{lines_at, all_lines}

-- the greatest version that a session's entries show of a row
abbrev pub known_to : List Placed → ℕ → ℕ → ℕ
known_to earlier session row = greatest row (each_of rows_known (by_session session earlier))

max_right : (a b c : ℕ) → b ≤ max (max a b) c
max_right a b c = omega arith

greatest_front : (row : ℕ) (xs ys : List Change) → greatest row ys ≤ greatest row (xs ++ ys)
greatest_front row [] ys = omega arith
greatest_front row (x ∷ xs) ys = let l : greatest row ys ≤ greatest row (xs ++ ys) = greatest_front row xs ys in omega (arith, l)

-- an entry more shows no less, and of its own session what it changes
known_more : (earlier : List Placed) (p : Placed) (session row : ℕ) → known_to earlier session row ≤ known_to (p ∷ earlier) session row
known_more earlier p session row = at (p.session == session) where
  at : (b : Bool) → known_to earlier session row ≤ greatest row (each_of rows_known (cond b (p ∷ []) [] ++ by_session session earlier))
  at true = greatest_front row (rows_known p.entry) (each_of rows_known (by_session session earlier))
  at false = omega arith

known_own : (earlier : List Placed) (p : Placed) (row version : ℕ) → rows_known p.entry ≡ change_at row version ∷ [] → version ≤ known_to (p ∷ earlier) p.session row
known_own earlier p row version e = rw (eq_self p.session) (subst (λ cs. version ≤ greatest row (cs ++ each_of rows_known (by_session p.session earlier))) (sym e) own) where
  own : version ≤ max (cond (row == row) version 0) (greatest row (each_of rows_known (by_session p.session earlier)))
  own = rw (eq_self row) (omega arith)

-- each line is above what its session knows
abbrev pub AreOver : List Placed → List Tagged → Type 0
AreOver earlier lines = Each (λ (line : Tagged). known_to earlier line.session line.row < line.version) lines

over_less : (earlier : List Placed) (p : Placed) (lines : List Tagged) → AreOver (p ∷ earlier) lines → AreOver earlier lines
over_less earlier p [] o = tt
over_less earlier p (line ∷ lines) o =
    let l : known_to (p ∷ earlier) line.session line.row < line.version = o.0 in
    let m : known_to earlier line.session line.row ≤ known_to (p ∷ earlier) line.session line.row = known_more earlier p line.session line.row in
    (omega (arith, l, m), over_less earlier p lines o.1)

over_above : (earlier : List Placed) (p : Placed) (line : Tagged) (lines : List Tagged) → line.session ≡ p.session → rows_known p.entry ≡ change_at line.row line.version ∷ [] → AreOver (p ∷ earlier) lines → Above line lines
over_above earlier p line [] s e o = tt
over_above earlier p line (next ∷ lines) s e o = (here, over_above earlier p line lines s e o.1) where
  here : line.session ≡ next.session → line.row ≡ next.row → line.version < next.version
  here q r =
      let k : line.version ≤ known_to (p ∷ earlier) p.session line.row = known_own earlier p line.row line.version e in
      let same : known_to (p ∷ earlier) p.session line.row ≡ known_to (p ∷ earlier) next.session next.row = ap (λ z. known_to (p ∷ earlier) z line.row) (sym s ∙ q) ∙ ap (λ z. known_to (p ∷ earlier) next.session z) r in
      let l : known_to (p ∷ earlier) next.session next.row < next.version = o.0 in
      omega (arith, k, same, l)

-- the lines of what a test chooses rise along each session, and each is above what its session knows
pub record AreRisen (earlier : List Placed) (lines : List Tagged) : Type 0 where
  pub over : AreOver earlier lines
  pub rises : Rises lines

pub risen : (choose : Placed → Bool) (all earlier ps : List Placed) → AreFlooredBehind all earlier ps → AreRisen earlier (all_lines (chosen choose ps))
risen choose all earlier [] f = record { over = tt; rises = tt }
risen choose all earlier (p ∷ ps) f = at (choose p) (risen choose all (p ∷ earlier) ps f.2) where
  more : AreRisen (p ∷ earlier) (all_lines (chosen choose ps)) → AreRisen earlier (all_lines (chosen choose ps))
  more r = record { over = over_less earlier p _ r.over; rises = r.rises }

  one : (line : Tagged) → line.session ≡ p.session → rows_known p.entry ≡ change_at line.row line.version ∷ [] → floor_of all earlier p line.row < line.version → AreRisen (p ∷ earlier) (all_lines (chosen choose ps)) → AreRisen earlier (line ∷ all_lines (chosen choose ps))
  one line s e l r = record {
    over = (
      (let k : known_to earlier line.session line.row ≡ known_to earlier p.session line.row = ap (λ z. known_to earlier z line.row) s in
          let m : known_to earlier p.session line.row ≤ floor_of all earlier p line.row = max_right _ (known_to earlier p.session line.row) _ in
          omega (arith, k, m, l)),
      over_less earlier p _ r.over,
    );
    rises = (over_above earlier p line _ s e r.over, r.rises);
  }

  by : (e : Entry) → p.entry ≡ e → NamingsKeep all earlier p (namings_of e) → AreRisen (p ∷ earlier) (all_lines (chosen choose ps)) → AreRisen earlier (lines_at p e ++ all_lines (chosen choose ps))
  by (says.Add row version) q n r = one _ refl (ap rows_known q) n.0.0 r
  by (says.Take row version) q n r = one _ refl (ap rows_known q) n.0.0 r
  by (says.Give row version from) q n r = one _ refl (ap rows_known q) n.0.0 r
  by _ q n r = more r

  at : (b : Bool) → AreRisen (p ∷ earlier) (all_lines (chosen choose ps)) → AreRisen earlier (all_lines (cond b (p ∷ []) [] ++ chosen choose ps))
  at true r = by p.entry refl f.0 r
  at false r = more r
