-- Journals of the right shape whose lines agree plainly keep all that journals owe one another.
use Rattle.std.proofs.Common.{◌≡◌, refl, ℕ, ◌+◌, ◌<◌, ◌≤◌, ◌==◌, Bool, true, false, ◌&&◌, ◌||◌, cond, nat_lt, nat_le, List, [], ◌∷◌, ◌++◌, sym, ◌∙◌, ap, subst, ◌⊎◌, inl, inr, arith}
use Rattle.std.proofs.Math.Nat.{max-le}
use Rattle.std.proofs.lemmas.Bool.{eqb-true}
use Rattle.pfs_model.proofs.EachLists.{each_join}
use Rattle.pfs_event.specs.declared.entry.Entry.{Entry}
use Rattle.pfs_event.specs.declared.entry.Entry.TheVariants as says
use Rattle.pfs_model.specs.declared.changes.Change.{Change}
use Rattle.pfs_model.specs.EntryPlaces.{Placed, chosen, before_phase, up_to_phase, places}
use Rattle.pfs_model.specs.Chains.{Each, times, each_of, row_change, word_change, action_change, release_of, change_at, is_of, is_that, opens_free, is_free_after, IsChained, AreChained}
use Rattle.pfs_model.specs.SetupFlags.{loads_of}
use Rattle.pfs_model.specs.Actions.{deed_at, set_at}
use Rattle.pfs_model.specs.Floors.{Changes, Sees, Frees, namings_of, rows_known, by_actions, greatest, loads_in, floor_of, word_floor_of, AllBelow, KeepsAbove, NamingsKeep, LoadsKeep, AreFlooredBehind}
use Rattle.pfs_model.specs.PlainAgreement.{last_of, AreNext, AreLast, Agrees, AgreesWith, AgreeBehind, is_free, IsHeldBack, NoneHeldBack, PlainKeeps}
use Rattle.pfs_model.proofs.ChainGrowth.{IsGrown, grown_count, grown_chained, onto, times_append}
use Rattle.pfs_model.proofs.LineWalks.{top, Walk, IsState, past, walk_blocks, Rising, rising_blocks}
use Rattle.pfs_model.proofs.ActionOrder.{rising_numbers, never_fall, deed_walk, set_walk, row_one, word_one}
use Rattle.pfs_model.proofs.Floors.{Agreed, grown_rows, grown_words, grown_actions, each_map, each_chosen_of, greatest_most, IsPast, grows_rows, grows_words, change_past, last_past, known_past, release_past, all_past, past_at, AllLater, all_later, by_done, times_onto, times_most, times_all, times_none, rising_all, AllUpTo, up_to_all, up_to_more, strict, opened_free}

-- a place among all lines, with what is known there
pub record IsAt (earlier : List Placed) (p : Placed) (ps : List Placed) : Type 0 where
  pub agreed : Agreed earlier
  pub own : AgreesWith earlier p
  pub later : AllLater p.context.done (p ∷ ps)
  pub phases : Each (λ q. nat_lt q.phase p.phase ≡ false) (p ∷ ps)
  pub up_to : AllUpTo p.phase (p ∷ earlier)

-- what earlier phases counted is at most what the lines before count
start_most : (f : Entry → List Change) (row : ℕ) (earlier : List Placed) (p : Placed) (ps : List Placed) → IsAt earlier p ps → IsGrown (each_of f earlier) → times (is_of row) (each_of f (before_phase p.phase (onto earlier (p ∷ ps)))) ≤ last_of row (each_of f earlier)
start_most f row earlier p ps i g =
    let choose : Placed → Bool = λ place. nat_lt place.phase p.phase in
    let e : times (is_of row) (each_of f (chosen choose (onto earlier (p ∷ ps)))) ≡ times (is_of row) (each_of f (chosen choose earlier)) + times (is_of row) (each_of f (chosen choose (p ∷ ps))) = times_onto (is_of row) f choose earlier (p ∷ ps) in
    let z : times (is_of row) (each_of f (chosen choose (p ∷ ps))) ≡ 0 = times_none (is_of row) f choose (p ∷ ps) i.phases in
    let m : times (is_of row) (each_of f (chosen choose earlier)) ≤ times (is_of row) (each_of f earlier) = times_most (is_of row) f choose earlier in
    let c : last_of row (each_of f earlier) ≡ times (is_of row) (each_of f earlier) = grown_count row (each_of f earlier) g in
    omega (arith, e, z, m, c)

-- and what the phases up to this one count is at least the last version behind the line
had_least : (f : Entry → List Change) (row : ℕ) (earlier : List Placed) (p : Placed) (ps : List Placed) → IsAt earlier p ps → IsGrown (each_of f (p ∷ earlier)) → last_of row (each_of f (p ∷ earlier)) ≤ times (is_of row) (each_of f (up_to_phase p.phase (onto earlier (p ∷ ps))))
had_least f row earlier p ps i g =
    let choose : Placed → Bool = λ place. nat_le place.phase p.phase in
    let e : times (is_of row) (each_of f (chosen choose (onto (p ∷ earlier) ps))) ≡ times (is_of row) (each_of f (chosen choose (p ∷ earlier))) + times (is_of row) (each_of f (chosen choose ps)) = times_onto (is_of row) f choose (p ∷ earlier) ps in
    let m : times (is_of row) (each_of f (chosen choose (p ∷ earlier))) ≡ times (is_of row) (each_of f (p ∷ earlier)) = times_all (is_of row) f choose (p ∷ earlier) (up_to_all p.phase (p ∷ earlier) i.up_to) in
    let c : last_of row (each_of f (p ∷ earlier)) ≡ times (is_of row) (each_of f (p ∷ earlier)) = grown_count row (each_of f (p ∷ earlier)) g in
    omega (arith, e, m, c)

module_rows : (f : Entry → List Change) (given : Entry → List Change) (row : ℕ) (test : Placed → Bool) (earlier : List Placed) → Each (λ q. Each (IsPast (each_of f earlier)) (given q.entry)) earlier → greatest row (each_of given (chosen test earlier)) ≤ last_of row (each_of f earlier)
module_rows f given row test earlier a =
    let P : Change → Type 0 = λ c. c.row ≡ row → c.version ≤ last_of row (each_of f earlier) in
    greatest_most row (last_of row (each_of f earlier)) (each_of given (chosen test earlier))
    (each_chosen_of P given test earlier (each_map (λ q. Each (IsPast (each_of f earlier)) (given q.entry)) (λ q. test q ≡ true → Each P (given q.entry)) (λ q h t. past_at (each_of f earlier) row (given q.entry) h) earlier a))

given_most : (f : Entry → List Change) (row : ℕ) (earlier : List Placed) (p : Placed) (ps : List Placed) → IsAt earlier p ps → Each (λ q. Each (IsPast (each_of f earlier)) (f q.entry)) earlier → greatest row (each_of f (by_actions p.context.done (onto earlier (p ∷ ps)))) ≤ last_of row (each_of f earlier)
given_most f row earlier p ps i a =
    let P : Change → Type 0 = λ c. c.row ≡ row → c.version ≤ last_of row (each_of f earlier) in
    greatest_most row (last_of row (each_of f earlier)) _
    (by_done P f p.context.done earlier (p ∷ ps) (each_map (λ q. Each (IsPast (each_of f earlier)) (f q.entry)) (λ q. Each P (f q.entry)) (λ q h. past_at (each_of f earlier) row (f q.entry) h) earlier a) i.later)

rows_past : (earlier : List Placed) → Agreed earlier → Each (λ q. Each (IsPast (each_of row_change earlier)) (row_change q.entry)) earlier
rows_past earlier a = all_past row_change (λ q. row_change q.entry) grows_rows (λ earlier p w. change_past (each_of row_change earlier) (row_change p.entry) (row_one p.entry)) earlier a

words_past : (earlier : List Placed) → Agreed earlier → Each (λ q. Each (IsPast (each_of word_change earlier)) (word_change q.entry)) earlier
words_past earlier a = all_past word_change (λ q. word_change q.entry) grows_words (λ earlier p w. change_past (each_of word_change earlier) (word_change p.entry) (word_one p.entry)) earlier a

pub floor_most : (row : ℕ) (earlier : List Placed) (p : Placed) (ps : List Placed) → IsAt earlier p ps → floor_of (onto earlier (p ∷ ps)) earlier p row ≤ last_of row (each_of row_change earlier)
floor_most row earlier p ps i =
    max-le
    (max-le
    (start_most row_change row earlier p ps i (grown_rows earlier i.agreed))
    (module_rows row_change rows_known row (λ place. place.session == p.session) earlier (all_past row_change (λ q. rows_known q.entry) grows_rows known_past earlier i.agreed)))
    (given_most row_change row earlier p ps i (rows_past earlier i.agreed))

-- what a line loads or sets of words is past behind it
loads_past : (earlier : List Placed) (p : Placed) → AgreesWith earlier p → Each (IsPast (each_of word_change (p ∷ earlier))) (loads_of p ++ word_change p.entry)
loads_past earlier p w = each_join (IsPast (each_of word_change (p ∷ earlier))) (loads_of p) (word_change p.entry) (last_past (each_of word_change earlier) (each_of word_change (p ∷ earlier)) (grows_words earlier p w) (loads_of p) w.loads) (change_past (each_of word_change earlier) (word_change p.entry) (word_one p.entry))

each_loads : (P : Change → Type 0) (test : Placed → Bool) (ps : List Placed) → Each (λ p. Each P (loads_of p ++ word_change p.entry)) ps → Each P (loads_in (chosen test ps))
each_loads P test [] h = tt
each_loads P test (p ∷ ps) h = at (test p) (each_loads P test ps h.1) where
  at : (b : Bool) → Each P (loads_in (chosen test ps)) → Each P (loads_in (cond b (p ∷ []) [] ++ chosen test ps))
  at true r = each_join P (loads_of p ++ word_change p.entry) (loads_in (chosen test ps)) h.0 r
  at false r = r

word_floor_most : (word : ℕ) (earlier : List Placed) (p : Placed) (ps : List Placed) → IsAt earlier p ps → word_floor_of (onto earlier (p ∷ ps)) earlier p word ≤ last_of word (each_of word_change earlier)
word_floor_most word earlier p ps i =
    let P : Change → Type 0 = λ c. c.row ≡ word → c.version ≤ last_of word (each_of word_change earlier) in
    max-le
    (max-le
    (start_most word_change word earlier p ps i (grown_words earlier i.agreed))
    (greatest_most word (last_of word (each_of word_change earlier)) _
    (each_loads P (λ place. place.session == p.session) earlier
    (each_map (λ q. Each (IsPast (each_of word_change earlier)) (loads_of q ++ word_change q.entry)) (λ q. Each P (loads_of q ++ word_change q.entry)) (λ q h. past_at (each_of word_change earlier) word (loads_of q ++ word_change q.entry) h) earlier
    (all_past word_change (λ q. loads_of q ++ word_change q.entry) grows_words loads_past earlier i.agreed)))))
    (given_most word_change word earlier p ps i (words_past earlier i.agreed))

-- releases of ended actions are at or below the last version
releases_low : (row version : ℕ) (earlier : List Placed) (p : Placed) (ps : List Placed) → IsAt earlier p ps → last_of row (each_of row_change earlier) < version → AllBelow row version (each_of release_of (by_actions p.context.done (onto earlier (p ∷ ps))))
releases_low row version earlier p ps i h =
    let P : Change → Type 0 = λ c. c.row ≡ row → c.version < version in
    by_done P release_of p.context.done earlier (p ∷ ps)
    (each_map (λ q. Each (IsPast (each_of row_change earlier)) (release_of q.entry)) (λ q. Each P (release_of q.entry))
    (λ q g. each_map (λ c. c.row ≡ row → c.version ≤ last_of row (each_of row_change earlier)) P (λ c k e. let x : c.version ≤ last_of row (each_of row_change earlier) = k e in omega (arith, x, h)) (release_of q.entry) (past_at (each_of row_change earlier) row (release_of q.entry) g))
    earlier (all_past row_change (λ q. release_of q.entry) grows_rows release_past earlier i.agreed))
    i.later

change_keeps : (row version : ℕ) (earlier : List Placed) (p : Placed) (ps : List Placed) → IsAt earlier p ps → version ≡ last_of row (each_of row_change earlier) + 1 → KeepsAbove (onto earlier (p ∷ ps)) earlier p Changes row version
change_keeps row version earlier p ps i v =
    let f : floor_of (onto earlier (p ∷ ps)) earlier p row ≤ last_of row (each_of row_change earlier) = floor_most row earlier p ps i in
    let s : times (is_of row) (each_of row_change (before_phase p.phase (onto earlier (p ∷ ps)))) ≤ last_of row (each_of row_change earlier) = start_most row_change row earlier p ps i (grown_rows earlier i.agreed) in
    (omega (arith, f, v), record { released = releases_low row version earlier p ps i (omega (arith, v)); stood = λ q. omega (arith, s, v) })

-- a row that isn't free stood free only below its last version
stood_below : (row : ℕ) (earlier : List Placed) (p : Placed) (ps : List Placed) → IsAt earlier p ps → is_free earlier row ≡ false
    → is_free_after (before_phase p.phase (onto earlier (p ∷ ps))) row ≡ true → times (is_of row) (each_of row_change (before_phase p.phase (onto earlier (p ∷ ps)))) < last_of row (each_of row_change earlier)
stood_below row earlier p ps i n h = at (nat_lt count (last_of row (each_of row_change earlier))) refl where
  before : List Placed
  before = before_phase p.phase (onto earlier (p ∷ ps))

  count : ℕ
  count = times (is_of row) (each_of row_change before)

  low : count ≤ last_of row (each_of row_change earlier)
  low = start_most row_change row earlier p ps i (grown_rows earlier i.agreed)

  -- no release stands at the last version
  none : (cs : List Change) (v : ℕ) → Each (λ c. c.row ≡ row → c.version < v) cs → times (is_that (change_at row v)) cs ≡ 0
  none [] v a = refl
  none (c ∷ cs) v a = one ((c.row == row) && (c.version == v)) refl (none cs v a.1) where
    one : (b : Bool) → (c.row == row) && (c.version == v) ≡ b → times (is_that (change_at row v)) cs ≡ 0 → cond {A = ℕ} b 1 0 + times (is_that (change_at row v)) cs ≡ 0
    one true q e = let s : (c.row ≡ row) × (c.version ≡ v) = parts c.row c.version q in let l : c.version < v = a.0 s.0 in let w : c.version ≡ v = s.1 in absurd (omega (arith, l, w)) where
      parts : (x y : ℕ) → (x == row) && (y == v) ≡ true → (x ≡ row) × (y ≡ v)
      parts x y q = (grind arith, grind arith)
    one false q e = omega (arith, e)

  choose : Placed → Bool
  choose = λ place. nat_lt place.phase p.phase

  flat : (v : ℕ) (qs : List Placed) → Each (λ q. Each (λ c. c.row ≡ row → c.version < v) (release_of q.entry)) qs → Each (λ c. c.row ≡ row → c.version < v) (each_of release_of qs)
  flat v [] a = tt
  flat v (q ∷ qs) a = each_join (λ c. c.row ≡ row → c.version < v) (release_of q.entry) (each_of release_of qs) a.0 (flat v qs a.1)

  no_release : (v : ℕ) → v ≡ last_of row (each_of row_change earlier) → times (is_that (change_at row v)) (each_of release_of before) ≡ 0
  no_release v e =
      let last : ℕ = last_of row (each_of row_change earlier) in
      let a : times (is_that (change_at row last)) (each_of release_of earlier) ≡ 0 = none (each_of release_of earlier) last (flat last earlier (strict earlier row i.agreed n)) in
      let b : times (is_that (change_at row last)) (each_of release_of before) ≡ times (is_that (change_at row last)) (each_of release_of (chosen choose earlier)) + times (is_that (change_at row last)) (each_of release_of (chosen choose (p ∷ ps))) = times_onto (is_that (change_at row last)) release_of choose earlier (p ∷ ps) in
      let z : times (is_that (change_at row last)) (each_of release_of (chosen choose (p ∷ ps))) ≡ 0 = times_none (is_that (change_at row last)) release_of choose (p ∷ ps) i.phases in
      let m : times (is_that (change_at row last)) (each_of release_of (chosen choose earlier)) ≤ times (is_that (change_at row last)) (each_of release_of earlier) = times_most (is_that (change_at row last)) release_of choose earlier in
      ap (λ w. times (is_that (change_at row w)) (each_of release_of before)) e ∙ omega (arith, a, b, z, m)

  case : (a b : Bool) → a || b ≡ true → (a ≡ true) ⊎ (b ≡ true)
  case true b q = inl refl
  case false true q = inr refl
  case false false q = absurd (cc)

  both : (a b : Bool) → a && b ≡ true → (a ≡ true) × (b ≡ true)
  both true true q = (refl, refl)
  both true false q = absurd (cc)
  both false b q = absurd (cc)

  contrary : count ≡ last_of row (each_of row_change earlier) → ⊥
  contrary e = on (case _ _ h) where
    on : (nat_lt 0 (times (is_that (change_at row count)) (each_of release_of before)) ≡ true) ⊎ ((count == 0) && opens_free row ≡ true) → ⊥
    on (inl q) = let z : times (is_that (change_at row count)) (each_of release_of before) ≡ 0 = no_release count e in positive _ z q where
      positive : (x : ℕ) → x ≡ 0 → nat_lt 0 x ≡ true → ⊥
      positive x z q = grind arith
    on (inr q) =
        let k : count ≡ 0 = eqb-true count 0 (both (count == 0) (opens_free row) q).0 in
        let c : last_of row (each_of row_change earlier) ≡ times (is_of row) (each_of row_change earlier) = grown_count row (each_of row_change earlier) (grown_rows earlier i.agreed) in
        let f : is_free earlier row ≡ true = opened_free earlier row (omega (arith, c, e, k)) (both (count == 0) (opens_free row) q).1 in
        let g : true ≡ false = sym f ∙ n in
        absurd (cc)

  at : (b : Bool) → nat_lt count (last_of row (each_of row_change earlier)) ≡ b → count < last_of row (each_of row_change earlier)
  at true q = yes count (last_of row (each_of row_change earlier)) q where
    yes : (x y : ℕ) → nat_lt x y ≡ true → x < y
    yes x y q = grind arith
  at false q = absurd (contrary (same count (last_of row (each_of row_change earlier)) low q)) where
    same : (x y : ℕ) → x ≤ y → nat_lt x y ≡ false → x ≡ y
    same x y l q = grind arith

seen_keeps : (row version : ℕ) (earlier : List Placed) (p : Placed) (ps : List Placed) → IsAt earlier p ps → version ≡ last_of row (each_of row_change earlier) → is_free earlier row ≡ false → KeepsAbove (onto earlier (p ∷ ps)) earlier p Sees row version
seen_keeps row version earlier p ps i v n =
    let f : floor_of (onto earlier (p ∷ ps)) earlier p row ≤ last_of row (each_of row_change earlier) = floor_most row earlier p ps i in
    let P : Change → Type 0 = λ c. c.row ≡ row → c.version < version in (
      omega (arith, f, v),
      record {
        released = by_done P release_of p.context.done earlier (p ∷ ps)
            (each_map (λ q. Each (λ c. c.row ≡ row → c.version < last_of row (each_of row_change earlier)) (release_of q.entry)) (λ q. Each P (release_of q.entry))
            (λ q g. each_map (λ c. c.row ≡ row → c.version < last_of row (each_of row_change earlier)) P (λ c k e. let x : c.version < last_of row (each_of row_change earlier) = k e in omega (arith, x, v)) (release_of q.entry) g)
            earlier (strict earlier row i.agreed n))
            i.later;
        stood = λ q. let s : times (is_of row) (each_of row_change (before_phase p.phase (onto earlier (p ∷ ps)))) < last_of row (each_of row_change earlier) = stood_below row earlier p ps i n q in omega (arith, s, v);
      },
    )

free_keeps : (row version : ℕ) (earlier : List Placed) (p : Placed) (ps : List Placed) → IsAt earlier p ps → version ≡ last_of row (each_of row_change earlier) → KeepsAbove (onto earlier (p ∷ ps)) earlier p Frees row version
free_keeps row version earlier p ps i v = let f : floor_of (onto earlier (p ∷ ps)) earlier p row ≤ last_of row (each_of row_change earlier) = floor_most row earlier p ps i in omega (arith, f, v)

namings_keep : (earlier : List Placed) (p : Placed) (ps : List Placed) → IsAt earlier p ps → NamingsKeep (onto earlier (p ∷ ps)) earlier p (namings_of p.entry)
namings_keep earlier p ps i = by p.entry i.own.rows i.own.others (known_past earlier p i.own) where
  had : (row version : ℕ) → version ≤ last_of row (each_of row_change (p ∷ earlier)) → version ≤ times (is_of row) (each_of row_change (up_to_phase p.phase (onto earlier (p ∷ ps))))
  had row version h = let m : last_of row (each_of row_change (p ∷ earlier)) ≤ times (is_of row) (each_of row_change (up_to_phase p.phase (onto earlier (p ∷ ps)))) = had_least row_change row earlier p ps i (grown_rows (p ∷ earlier) (i.own, i.agreed)) in omega (arith, h, m)

  by : (e : Entry) → AreNext (each_of row_change earlier) (row_change e) → Agrees earlier e → Each (IsPast (each_of row_change (p ∷ earlier))) (rows_known e) → NamingsKeep (onto earlier (p ∷ ps)) earlier p (namings_of e)
  by (says.Add row version) n w k = (change_keeps row version earlier p ps i n.0, had row version k.0, tt)
  by (says.Ring row version) n w k = (change_keeps row version earlier p ps i n.0, had row version k.0, tt)
  by (says.Long row version ticket) n w k = (change_keeps row version earlier p ps i n.0, had row version k.0, tt)
  by (says.Take row version) n w k = (change_keeps row version earlier p ps i n.0, had row version k.0, tt)
  by (says.Give row version from) n w k = (change_keeps row version earlier p ps i n.0, had row version k.0, tt)
  by (says.Tag row version) n w k = (change_keeps row version earlier p ps i n.0, had row version k.0, tt)
  by (says.Seen row version) n w k = (seen_keeps row version earlier p ps i w.0 w.1, had row version k.0, tt)
  by (says.Free row version) n w k = (free_keeps row version earlier p ps i w, had row version k.0, tt)
  by _ n w k = tt

loads_keep : (earlier : List Placed) (p : Placed) (ps : List Placed) → IsAt earlier p ps → LoadsKeep (onto earlier (p ∷ ps)) earlier p (loads_of p ++ word_change p.entry)
loads_keep earlier p ps i = all (loads_of p ++ word_change p.entry) (each_join Low (loads_of p) (word_change p.entry) (low_loads (loads_of p) i.own.loads) (low_sets (word_change p.entry) (word_one p.entry) i.own.words)) (loads_past earlier p i.own) where
  Low : Change → Type 0
  Low c = last_of c.row (each_of word_change earlier) ≤ c.version

  low_loads : (cs : List Change) → AreLast (each_of word_change earlier) cs → Each Low cs
  low_loads [] a = tt
  low_loads (c ∷ cs) a = let v : c.version ≡ last_of c.row (each_of word_change earlier) = a.0 in (omega (arith, v), low_loads cs a.1)

  low_sets : (cs : List Change) → (cs ≡ []) ⊎ ((c : Change) × (cs ≡ c ∷ [])) → AreNext (each_of word_change earlier) cs → Each Low cs
  low_sets cs (inl e) n = subst (Each Low) (sym e) tt
  low_sets cs (inr (c, e)) n = let m : AreNext (each_of word_change earlier) (c ∷ []) = subst (AreNext (each_of word_change earlier)) e n in let v : c.version ≡ last_of c.row (each_of word_change earlier) + 1 = m.0 in let l : Low c = omega (arith, v) in subst (Each Low) (sym e) (l, tt)

  all : (cs : List Change) → Each Low cs → Each (IsPast (each_of word_change (p ∷ earlier))) cs → LoadsKeep (onto earlier (p ∷ ps)) earlier p cs
  all [] l k = tt
  all (c ∷ cs) l k =
      let f : word_floor_of (onto earlier (p ∷ ps)) earlier p c.row ≤ last_of c.row (each_of word_change earlier) = word_floor_most c.row earlier p ps i in
      let x : last_of c.row (each_of word_change earlier) ≤ c.version = l.0 in
      let y : c.version ≤ last_of c.row (each_of word_change (p ∷ earlier)) = k.0 in
      let m : last_of c.row (each_of word_change (p ∷ earlier)) ≤ times (is_of c.row) (each_of word_change (up_to_phase p.phase (onto earlier (p ∷ ps)))) = had_least word_change c.row earlier p ps i (grown_words (p ∷ earlier) (i.own, i.agreed)) in
      (omega (arith, f, x), omega (arith, y, m), all cs l.1 k.1)

-- what has ended is at most the last action, and later lines are in none up to it
done_later : (earlier : List Placed) (p : Placed) (ps : List Placed) → Walk earlier (p ∷ ps) → AgreeBehind earlier (p ∷ ps) → AllLater p.context.done (p ∷ ps)
done_later earlier p ps w a = on w.0.state where
  on : IsState earlier p.context → AllLater p.context.done (p ∷ ps)
  on (inl s) = all_later p.context.done earlier p ps w a s.1 (inl s.0)
  on (inr s) = let x : p.context.action ≡ top earlier = s.0 in let y : p.context.done < p.context.action = s.1 in all_later p.context.done earlier p ps w a (omega (arith, x, y)) (inr y)

-- so all this is known at each place
pub is_at : (phase : ℕ) (earlier : List Placed) (p : Placed) (ps : List Placed) → Agreed earlier → AgreeBehind earlier (p ∷ ps) → Walk earlier (p ∷ ps) → Rising phase (p ∷ ps) → AllUpTo phase earlier → IsAt earlier p ps
is_at phase earlier p ps g a w r u = record {
  agreed = g;
  own = a.0;
  later = done_later earlier p ps w a;
  phases = (self p.phase, rising_all p.phase p.phase ps (low p.phase) r.1);
  up_to = (low p.phase, up_to_more phase p.phase earlier r.0 u);
} where
  self : (n : ℕ) → nat_lt n n ≡ false
  self n = grind arith

  low : (n : ℕ) → n ≤ n
  low n = omega arith

floored : (phase : ℕ) (earlier ps : List Placed) → Agreed earlier → AgreeBehind earlier ps → Walk earlier ps → Rising phase ps → AllUpTo phase earlier → AreFlooredBehind (onto earlier ps) earlier ps
floored phase earlier [] g a w r u = tt
floored phase earlier (p ∷ ps) g a w r u =
    let i : IsAt earlier p ps = is_at phase earlier p ps g a w r u in
    (namings_keep earlier p ps i, loads_keep earlier p ps i, floored p.phase (p ∷ earlier) ps (a.0, g) a.1 w.1 r.1 i.up_to)

-- nothing is held back
none_held : (earlier ps : List Placed) → AgreeBehind earlier ps → NoneHeldBack ps
none_held earlier [] a = tt
none_held earlier (p ∷ ps) a = (by p.entry a.0.others, none_held (p ∷ earlier) ps a.1) where
  by : (e : Entry) → Agrees earlier e → IsHeldBack e → ⊥
  by (says.Held row first second) w h = absurd w
  by (says.Busy row first second) w h = absurd w
  by (says.Late row ticket greater) w h = absurd w
  by says.Settle w h = absurd w
  by _ w h = absurd h

-- all lines, the last first, agree
agreed_past : (earlier ps : List Placed) → Agreed earlier → AgreeBehind earlier ps → Agreed (past earlier ps)
agreed_past earlier [] g a = g
agreed_past earlier (p ∷ ps) g a = agreed_past (p ∷ earlier) ps (a.0, g) a.1

-- and weigh as they do in the order of the report
times_past : (test : Change → Bool) (f : Entry → List Change) (earlier ps : List Placed) → times test (each_of f (past earlier ps)) ≡ times test (each_of f earlier) + times test (each_of f ps)
times_past test f earlier [] = omega arith
times_past test f earlier (p ∷ ps) =
    let e : times test (each_of f (past (p ∷ earlier) ps)) ≡ times test (f p.entry ++ each_of f earlier) + times test (each_of f ps) = times_past test f (p ∷ earlier) ps in
    let a : times test (f p.entry ++ each_of f earlier) ≡ times test (f p.entry) + times test (each_of f earlier) = times_append test (f p.entry) (each_of f earlier) in
    let b : times test (f p.entry ++ each_of f ps) ≡ times test (f p.entry) + times test (each_of f ps) = times_append test (f p.entry) (each_of f ps) in
    omega (arith, e, a, b)

chained : (f : Entry → List Change) (ps : List Placed) → IsGrown (each_of f (past [] ps)) → IsChained (each_of f ps)
chained f ps g change =
    let same : (test : Change → Bool) → times test (each_of f (past [] ps)) ≡ times test (each_of f ps) = λ test. times_past test f [] ps ∙ omega arith in
    sym (same (is_that change)) ∙ grown_chained (each_of f (past [] ps)) g change ∙ ap (λ n. cond {A = ℕ} (nat_lt 0 change.version && nat_le change.version n) 1 0) (same (is_of change.row))

-- the entries up to a phase are a front, since the phases never fall
none_left : (phase low : ℕ) (ps : List Placed) → phase < low → Rising low ps → up_to_phase phase ps ≡ []
none_left phase low [] l r = refl
none_left phase low (p ∷ ps) l r =
    let x : low ≤ p.phase = r.0 in
    let later : phase < p.phase = omega (arith, l, x) in
    at (nat_le p.phase phase) refl later (none_left phase p.phase ps later r.1) where
      over : (x y : ℕ) → y < x → nat_le x y ≡ true → ⊥
      over x y l q = grind arith

      at : (b : Bool) → nat_le p.phase phase ≡ b → phase < p.phase → up_to_phase phase ps ≡ [] → cond b (p ∷ []) [] ++ up_to_phase phase ps ≡ []
      at true q later e = absurd (over p.phase phase later q)
      at false q later e = e

front_agrees : (phase low : ℕ) (earlier ps : List Placed) → Rising low ps → AgreeBehind earlier ps → AgreeBehind earlier (up_to_phase phase ps)
front_agrees phase low earlier [] r a = tt
front_agrees phase low earlier (p ∷ ps) r a = at (nat_le p.phase phase) refl (front_agrees phase p.phase (p ∷ earlier) ps r.1 a.1) where
  over : (x y : ℕ) → nat_le x y ≡ false → y < x
  over x y q = grind arith

  at : (b : Bool) → nat_le p.phase phase ≡ b → AgreeBehind (p ∷ earlier) (up_to_phase phase ps) → AgreeBehind earlier (cond b (p ∷ []) [] ++ up_to_phase phase ps)
  at true q go = (a.0, go)
  at false q go = subst (AgreeBehind earlier) (sym (none_left phase p.phase ps (over p.phase phase q) r.1)) tt

by_phase : (f : Entry → List Change) → ((earlier : List Placed) → Agreed earlier → IsGrown (each_of f earlier)) → (ps : List Placed) → Rising 0 ps → AgreeBehind [] ps → AreChained f ps
by_phase f grown ps r a phase =
    let front : List Placed = up_to_phase phase ps in
    chained f front (grown (past [] front) (agreed_past [] front tt (front_agrees phase 0 [] ps r a)))

pub plain_keeps : PlainKeeps
plain_keeps blocks s a =
    let w : Walk [] (places blocks) = walk_blocks [] blocks 0 [] s (λ session. (omega arith, omega arith)) a in
    let r : Rising 0 (places blocks) = rising_blocks [] blocks 0 s in
    record {
      joint = record {
        rows = by_phase row_change grown_rows (places blocks) r a;
        words = by_phase word_change grown_words (places blocks) r a;
        ordered = record {
          numbers = by_phase action_change grown_actions (places blocks) r a;
          rising = λ session. rising_numbers session [] (places blocks) a;
          deeds = never_fall row_change deed_at [] (places blocks) (deed_walk [] (places blocks) a w);
          sets = never_fall word_change set_at [] (places blocks) (set_walk [] (places blocks) a w);
        };
        floored = floored 0 [] (places blocks) tt a w r tt;
      };
      none = none_held [] (places blocks) a;
    }
