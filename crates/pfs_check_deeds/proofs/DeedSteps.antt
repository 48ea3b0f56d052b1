-- The deeds of entries, and the first that falls.
use Rattle.std.proofs.Common.{◌≡◌, refl, ℕ, zero, suc, ◌+◌, ◌<◌, ◌≤◌, List, [], ◌∷◌, ◌++◌, length, sym, ◌∙◌, ap, subst, ◌⊎◌, inl, inr, arith, append_assoc, Option, Some, None}
use Rattle.pfs_event.specs.declared.entry.Entry.{Entry}
use Rattle.pfs_event.specs.declared.entry.Entry.TheVariants as says
use Rattle.pfs_journal.specs.declared.report.ReportParts.{ReportParts}
use Rattle.std.specs.Prelude.{slice_get}
use Rattle.pfs_model.specs.Actions.{Deed, IsAmong, NeverFall, deed_at, deeds_of}
use Rattle.pfs_model.specs.Chains.{Each}
use Rattle.pfs_model.specs.EntryPlaces.{Placed}
use Rattle.pfs_model.proofs.Members.{among_back, among_either, among_front}
use Rattle.pfs_check_falls.specs.declared.falls.PlacedDeed.{PlacedDeed}
use Rattle.pfs_check_falls.specs.FallenDeeds.{IsFallFound, IsFirstFall, KeepsOrder, deed_of, deeds_in}
use Rattle.pfs_check_faults.specs.ActionFaults.{NeverFallsAt}
use Rattle.pfs_check_faults.specs.ReportCases.{AllHave, Case, Findings, entries_of, entry_lines}
use Rattle.pfs_check_faults.specs.ShapeFaults.{IsCut}
use Rattle.pfs_check_visits.specs.ReportVisits.{IsAsked}
use Rattle.pfs_check_visits.specs.Visits.{AreVisited}
use Rattle.pfs_check_visits.specs.declared.visited.Visited.{Visited}
use Rattle.pfs_check_visits.proofs.EntryCounts.{all_known, line_lacking}
use Rattle.pfs_check_walk.specs.Walks.{LacksFirst, onto}
use Rattle.pfs_check_deeds.specs.declared.collecting.Collecting.{Collecting}
use Rattle.pfs_check_deeds.specs.JudgedFalls.{AreFallsJudged}
use Rattle.pfs_check_deeds.specs.PlacedDeeds.{AreDeedsOf, in_order, placed_at, placed_deeds}

-- one entry more
placed_push : (at : ℕ) (ps : List Placed) (p : Placed) (n : ℕ) → n ≡ at + length ps
    → placed_deeds at (ps ++ p ∷ []) ≡ placed_deeds at ps ++ placed_at n p.context.action p.entry
placed_push at [] p n e = nil (placed_at at p.context.action p.entry) ∙ ap (λ z. placed_at z p.context.action p.entry) (omega (arith, e)) where
  nil : (xs : List PlacedDeed) → xs ++ [] ≡ xs
  nil [] = refl
  nil (x ∷ xs) = ap (λ z. x ∷ z) (nil xs)
placed_push at (q ∷ qs) p n e =
    ap (λ z. placed_at at q.context.action q.entry ++ z) (placed_push (at + 1) qs p n (omega (arith, e)))
    ∙ sym (append_assoc (placed_at at q.context.action q.entry) (placed_deeds (at + 1) qs) (placed_at n p.context.action p.entry))

length_push : (ps : List Placed) (p : Placed) → length (ps ++ p ∷ []) ≡ length ps + 1
length_push [] p = omega arith
length_push (q ∷ qs) p = let h : length (qs ++ p ∷ []) ≡ length qs + 1 = length_push qs p in omega (arith, h)

pub deeds_more : (ps : List Placed) (p : Placed) (old new : Collecting) (more : List PlacedDeed) → AreDeedsOf ps old
    → more ≡ placed_at old.count p.context.action p.entry → new.deeds.items ≡ old.deeds.items ++ more → new.count ≡ old.count + 1
    → AreDeedsOf (ps ++ p ∷ []) new
deeds_more ps p old new more are e items count = record {
  deeds = items ∙ ap (λ z. z ++ more) are.deeds ∙ ap (λ z. placed_deeds 0 ps ++ z) e ∙ sym (placed_push 0 ps p old.count (plus are.count));
  count = count ∙ ap (λ z. z + 1) are.count ∙ sym (length_push ps p);
} where
  plus : old.count ≡ length ps → old.count ≡ 0 + length ps
  plus e = omega (arith, e)

-- all entries are collected
order_onto : (earlier ps : List Placed) → in_order (onto earlier ps) ≡ in_order earlier ++ ps
order_onto earlier [] = sym (none (in_order earlier)) where
  none : (xs : List Placed) → xs ++ [] ≡ xs
  none [] = refl
  none (x ∷ xs) = ap (λ z. x ∷ z) (none xs)
order_onto earlier (p ∷ ps) = order_onto (p ∷ earlier) ps ∙ append_assoc (in_order earlier) (p ∷ []) ps

pub deeds_all : (found : Findings) (all : List Placed) (collecting : Collecting) (told : Type 0) (visited : Visited) → entries_of found ≡ all
    → AreVisited (λ earlier place. Unit {0}) [] all (λ earlier. AreDeedsOf (in_order earlier) collecting) told visited
    → collecting.deeds.items ≡ placed_deeds 0 (entries_of found)
deeds_all found all collecting told visited e v =
    let are : AreDeedsOf (in_order (onto [] all)) collecting = all_known all (λ earlier. AreDeedsOf (in_order earlier) collecting) told visited v in
    are.deeds ∙ ap (placed_deeds 0) (order_onto [] all ∙ sym e)

-- they are the deeds of the entries
one_same : (at action : ℕ) (entry : Entry) → deeds_in (placed_at at action entry) ≡ deed_at action entry
one_same at action (says.Take row version) = refl
one_same at action (says.Give row version from) = refl
one_same at action (says.Tag row version) = refl
one_same at action (says.Free row version) = refl
one_same at action _ = refl

map_append : (xs ys : List PlacedDeed) → deeds_in (xs ++ ys) ≡ deeds_in xs ++ deeds_in ys
map_append [] ys = refl
map_append (x ∷ xs) ys = ap (λ z. deed_of x ∷ z) (map_append xs ys)

pub deeds_same : (at : ℕ) (ps : List Placed) → deeds_in (placed_deeds at ps) ≡ deeds_of ps
deeds_same at [] = refl
deeds_same at (p ∷ ps) =
    map_append (placed_at at p.context.action p.entry) (placed_deeds (at + 1) ps)
    ∙ ap (λ z. z ++ deeds_in (placed_deeds (at + 1) ps)) (one_same at p.context.action p.entry)
    ∙ ap (λ z. deed_at p.context.action p.entry ++ z) (deeds_same (at + 1) ps)

-- each at the place of its entry
one_place : (at action : ℕ) (entry : Entry) (one : PlacedDeed) → IsAmong one (placed_at at action entry) → one.place ≡ at
one_place at action (says.Take row version) one (inl e) = sym (ap (λ (z : PlacedDeed). z.place) e)
one_place at action (says.Give row version from) one (inl e) = sym (ap (λ (z : PlacedDeed). z.place) e)
one_place at action (says.Tag row version) one (inl e) = sym (ap (λ (z : PlacedDeed). z.place) e)
one_place at action (says.Free row version) one (inl e) = sym (ap (λ (z : PlacedDeed). z.place) e)
one_place at action (says.Take row version) one (inr i) = absurd i
one_place at action (says.Give row version from) one (inr i) = absurd i
one_place at action (says.Tag row version) one (inr i) = absurd i
one_place at action (says.Free row version) one (inr i) = absurd i
one_place at action _ one i = absurd i

high_place : (at : ℕ) (ps : List Placed) (one : PlacedDeed) → IsAmong one (placed_deeds at ps) → at ≤ one.place
high_place at [] one i = absurd i
high_place at (p ∷ ps) one i = on (among_either one (placed_at at p.context.action p.entry) (placed_deeds (at + 1) ps) i) (high_place (at + 1) ps one) where
  on : IsAmong one (placed_at at p.context.action p.entry) ⊎ IsAmong one (placed_deeds (at + 1) ps) → (IsAmong one (placed_deeds (at + 1) ps) → at + 1 ≤ one.place)
      → at ≤ one.place
  on (inl j) rest = let e : one.place ≡ at = one_place at p.context.action p.entry one j in omega (arith, e)
  on (inr j) rest = let l : at + 1 ≤ one.place = rest j in omega (arith, l)

each_in : (F : Deed → Type 0) (xs : List PlacedDeed) → ((one : PlacedDeed) → IsAmong one xs → F (deed_of one)) → Each F (deeds_in xs)
each_in F [] h = tt
each_in F (x ∷ xs) h = (h x (inl refl), each_in F xs (λ one i. h one (inr i)))

of_each : (F : Deed → Type 0) (xs : List PlacedDeed) (one : PlacedDeed) → Each F (deeds_in xs) → IsAmong one xs → F (deed_of one)
of_each F [] one e i = absurd i
of_each F (x ∷ xs) one e (inl q) = subst (λ z. F (deed_of z)) q e.0
of_each F (x ∷ xs) one e (inr i) = of_each F xs one e.1 i

-- the entry of the first deed that falls is the first that lacks the rule
falls_from : (whole : List Placed) (at n : ℕ) (earlier ps : List Placed) (one : PlacedDeed) → IsAmong one (placed_deeds at ps) → one.place ≡ at + n
    → (KeepsOrder (deeds_of whole) (deed_of one) → ⊥)
    → ((other : PlacedDeed) → IsAmong other (placed_deeds at ps) → other.place < at + n → KeepsOrder (deeds_of whole) (deed_of other))
    → LacksFirst (NeverFallsAt whole) earlier ps n
falls_from whole at n earlier [] one i e falls first = absurd i
falls_from whole at zero earlier (p ∷ ps) one i e falls first = λ keeps. on keeps (among_either one (placed_at at p.context.action p.entry) (placed_deeds (at + 1) ps) i) where
  on : NeverFallsAt whole earlier p → IsAmong one (placed_at at p.context.action p.entry) ⊎ IsAmong one (placed_deeds (at + 1) ps) → ⊥
  on keeps (inl j) =
      falls (of_each (KeepsOrder (deeds_of whole)) (placed_at at p.context.action p.entry) one
      (subst (Each (KeepsOrder (deeds_of whole))) (sym (one_same at p.context.action p.entry)) keeps) j)
  on keeps (inr j) = let l : at + 1 ≤ one.place = high_place (at + 1) ps one j in omega (arith, l, e)
falls_from whole at (suc n) earlier (p ∷ ps) one i e falls first = (
  subst (Each (KeepsOrder (deeds_of whole))) (one_same at p.context.action p.entry)
      (each_in (KeepsOrder (deeds_of whole)) (placed_at at p.context.action p.entry)
      (λ other j. first other (among_front other (placed_at at p.context.action p.entry) (placed_deeds (at + 1) ps) j)
      (low other (one_place at p.context.action p.entry other j)))),
  falls_from whole (at + 1) n (p ∷ earlier) ps one
      (on (among_either one (placed_at at p.context.action p.entry) (placed_deeds (at + 1) ps) i)) (omega (arith, e)) falls
      (λ other j l. first other (among_back other (placed_at at p.context.action p.entry) (placed_deeds (at + 1) ps) j) (omega (arith, l))),
) where
  low : (other : PlacedDeed) → other.place ≡ at → other.place < at + suc n
  low other q = omega (arith, q)

  on : IsAmong one (placed_at at p.context.action p.entry) ⊎ IsAmong one (placed_deeds (at + 1) ps) → IsAmong one (placed_deeds (at + 1) ps)
  on (inl j) = let q : one.place ≡ at = one_place at p.context.action p.entry one j in absurd (omega (arith, q, e))
  on (inr j) = j

pub none_falls : (found : Findings) (case : Case) (deeds : List PlacedDeed) → deeds ≡ placed_deeds 0 (entries_of found) → IsFallFound deeds None
    → AreFallsJudged case found None
none_falls found case deeds e f = subst NeverFall (ap deeds_in e ∙ deeds_same 0 (entries_of found)) f

lacks_at : (all : List Placed) (place : ℕ) → IsFirstFall (placed_deeds 0 all) place → LacksFirst (NeverFallsAt all) [] all place
lacks_at all place f =
    falls_from all 0 place [] all f.one f.there (f.place_is ∙ plus place) (λ keeps. f.falls (subst (λ z. KeepsOrder z (deed_of f.one)) (sym (deeds_same 0 all)) keeps))
    (λ other i l. subst (λ z. KeepsOrder z (deed_of other)) (deeds_same 0 all) (f.first other i (low other.place l))) where
      plus : (m : ℕ) → m ≡ 0 + m
      plus m = omega arith

      low : (m : ℕ) → m < 0 + place → m < place
      low m l = omega (arith, l)

never_both : (rule : List Placed → Placed → Type 0) (earlier ps : List Placed) (at : ℕ) → AllHave rule earlier ps → LacksFirst rule earlier ps at → ⊥
never_both rule earlier [] at have lacks = lacks
never_both rule earlier (p ∷ ps) zero have lacks = lacks have.0
never_both rule earlier (p ∷ ps) (suc at) have lacks = never_both rule (p ∷ earlier) ps at have.1 lacks.1

pub one_falls : (found : Findings) (case : Case) (report : ReportParts) (deeds : List PlacedDeed) (place : ℕ) (line : Option ℕ) → case.report ≡ report
    → IsCut case.phases case.report found.blocks → deeds ≡ placed_deeds 0 (entries_of found) → IsFallFound deeds (Some place)
    → line ≡ slice_get (entry_lines report) place → AreFallsJudged case found line
one_falls found case report deeds place line same cut e f g =
    on line (line_lacking case.phases case.report found.blocks (NeverFallsAt (entries_of found)) (λ earlier. Unit {0}) place line cut lacks
    (g ∙ ap (λ z. slice_get (entry_lines z) place) (sym same))) where
      lacks : LacksFirst (NeverFallsAt (entries_of found)) [] (entries_of found) place
      lacks = lacks_at (entries_of found) place (subst (λ z. IsFirstFall z place) e f)

      on : (line : Option ℕ) → IsAsked case.report (NeverFallsAt (entries_of found)) (entries_of found) (λ earlier. Unit {0}) line → AreFallsJudged case found line
      on (Some number) asked = asked
      on None asked = absurd (never_both (NeverFallsAt (entries_of found)) [] (entries_of found) place asked.0 lacks)
