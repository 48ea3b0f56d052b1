-- A row that is added to and cleared, and nothing else, shows the events that were added to it and not taken since.
use Rattle.std.proofs.Common.{◌≡◌, refl, ℕ, ◌+◌, ◌<◌, ◌≤◌, ◌^◌, ◌==◌, ◌&&◌, inl, Bool, true, false, cond, List, [], ◌∷◌, ◌++◌, length, fold, filter, count_by, Some, sym, ap, ◌∙◌, arith}
use Rattle.pfs_lemmas.proofs.Numbers.{eq_self}
use Rattle.pfs_conservation.specs.RowChains.{Change, Added, Taken, Given, Sums, with_event, changed, content, found_in}
use Rattle.pfs_conservation.specs.Conservation.{AddsOnce, counts_after, Journals, AreKept, IsSummary, counts_in}
use Rattle.pfs_conservation.specs.Journeys.{times_counted}
use Rattle.pfs_conservation.specs.ConservedSums.{stats, Conserved}
use Rattle.pfs_conservation.specs.RowMoves.{Move, touches, moved, AllLater, InOrder, sends}
use Rattle.pfs_conservation.specs.Removals.{first_take, following, counts_event, removal}
use Rattle.pfs_conservation.specs.Ways.{IsPlaced}
use Rattle.pfs_model.specs.Chains.{Each}
use Rattle.pfs_stat.specs.Stat.{MergeIsMonoid, Fits, zero_of, stat_of, merge_of}
use Rattle.pfs_stat.specs.declared.Measure.{Measure}
use Rattle.pfs_stat.specs.declared.Stat.{Stat}

-- what takes the row is a covering action, and nothing is given to it
abbrev pub IsPlain : List ℕ → Change → Type 0
IsPlain covers (Added events) = Unit {0}
IsPlain covers (Taken action) = counts_after (Some action) covers ≡ false
IsPlain covers (Given action from) = ⊥

-- the numbers of the actions rise
abbrev pub AreLater : ℕ → List Change → Type 0
AreLater action [] = Unit {0}
AreLater action (Added events ∷ cs) = AreLater action cs
AreLater action (Taken next ∷ cs) = (action < next) × AreLater action cs
AreLater action (Given next from ∷ cs) = AreLater action cs

abbrev pub AreRising : List Change → Type 0
AreRising [] = Unit {0}
AreRising (Added events ∷ cs) = AreRising cs
AreRising (Taken action ∷ cs) = AreLater action cs × AreRising cs
AreRising (Given action from ∷ cs) = AreRising cs

-- what the first take takes, behind an addition
first_plain : (covers : List ℕ) (cs : List Change) (least : ℕ) → Each (IsPlain covers) cs → first_take cs ≡ Some least → counts_after (Some least) covers ≡ false
first_plain covers [] least h q = absurd (cc)
first_plain covers (Added events ∷ cs) least h q = first_plain covers cs least h.1 q
first_plain covers (Taken action ∷ cs) least h q = let e : action ≡ least = cc in ap (λ n. counts_after (Some n) covers) (sym e) ∙ h.0
first_plain covers (Given action from ∷ cs) least h q = absurd h.0

following_plain : (P : Change → Type 0) (test : Change → Bool) (cs : List Change) → Each P cs → Each P (following test cs)
following_plain P test [] h = tt
following_plain P test (c ∷ cs) h = at (test c) (following_plain P test cs h.1) where
  at : (b : Bool) → Each P (following test cs) → Each P (cond b cs (following test cs))
  at true r = h.1
  at false r = r

module _ (measures : ℕ → Measure) (covers : List ℕ) where
  abbrev sums : Sums Stat
  sums = stats measures

  -- where nothing is given, it is of no account what takes found
  found_same : (f g : ℕ → ℕ → Stat) (cs : List Change) → Each (IsPlain covers) cs → (here : Stat) (action : ℕ) → found_in sums f here action cs ≡ found_in sums g here action cs
  found_same f g [] h here action = refl
  found_same f g (Added events ∷ cs) h here action = found_same f g cs h.1 (fold (with_event sums) here events) action
  found_same f g (Taken number ∷ cs) h here action = ap (λ x. cond (number == action) here x) (found_same f g cs h.1 zero_of action)
  found_same f g (Given number from ∷ cs) h here action = absurd h.0

  content_same : (f g : ℕ → ℕ → Stat) (cs : List Change) → Each (IsPlain covers) cs → (here : Stat) → fold (changed sums f) here cs ≡ fold (changed sums g) here cs
  content_same f g [] h here = refl
  content_same f g (Added events ∷ cs) h here = content_same f g cs h.1 (fold (with_event sums) here events)
  content_same f g (Taken number ∷ cs) h here = content_same f g cs h.1 zero_of
  content_same f g (Given number from ∷ cs) h here = absurd h.0

  module _ (monoid : MergeIsMonoid) (fits : (event : ℕ) → Fits (stat_of (measures event))) where
    events_fit : (events : List ℕ) (here : Stat) → Fits here → Fits (fold (with_event sums) here events)
    events_fit [] here f = f
    events_fit (event ∷ events) here f = events_fit events (merge_of here (stat_of (measures event))) (monoid.fits here (stat_of (measures event)) f (fits event))

    content_fits : (found : ℕ → ℕ → Stat) (cs : List Change) → Each (IsPlain covers) cs → (here : Stat) → Fits here → Fits (fold (changed sums found) here cs)
    content_fits found [] h here f = f
    content_fits found (Added events ∷ cs) h here f = content_fits found cs h.1 (fold (with_event sums) here events) (events_fit events here f)
    content_fits found (Taken number ∷ cs) h here f = content_fits found cs h.1 zero_of monoid.zero_fits
    content_fits found (Given number from ∷ cs) h here f = absurd h.0

-- the journals of one row
module _ (row : ℕ) where
  abbrev move : ℕ → Move
  move action = record { action = action; from = row; to = [] }

  abbrev moves_in : List Change → List Move
  moves_in [] = []
  moves_in (Added events ∷ cs) = moves_in cs
  moves_in (Taken action ∷ cs) = move action ∷ moves_in cs
  moves_in (Given action from ∷ cs) = moves_in cs

  all_later : (action : ℕ) (cs : List Change) → AreLater action cs → AllLater (λ r. 0) (move action) (moves_in cs)
  all_later action [] l = tt
  all_later action (Added events ∷ cs) l = all_later action cs l
  all_later action (Taken next ∷ cs) l = (inl l.0, all_later action cs l.1)
  all_later action (Given next from ∷ cs) l = all_later action cs l

  in_order : (cs : List Change) → AreRising cs → InOrder (λ r. 0) (moves_in cs)
  in_order [] r = tt
  in_order (Added events ∷ cs) r = in_order cs r
  in_order (Taken action ∷ cs) r = ((λ next goes. absurd (let z : false ≡ true = goes in cc)), all_later action cs r.0, in_order cs r.1)
  in_order (Given action from ∷ cs) r = in_order cs r

  nothing_sent : (action from to : ℕ) (cs : List Change) → sends (moves_in cs) action from to ≡ 0
  nothing_sent action from to [] = refl
  nothing_sent action from to (Added events ∷ cs) = nothing_sent action from to cs
  nothing_sent action from to (Taken number ∷ cs) = none ((number == action) && (row == from)) (nothing_sent action from to cs) where
    none : (b : Bool) → sends (moves_in cs) action from to ≡ 0 → cond {A = ℕ} (b && false) 1 0 + sends (moves_in cs) action from to ≡ 0
    none true e = omega (arith, e)
    none false e = omega (arith, e)
  nothing_sent action from to (Given number source ∷ cs) = nothing_sent action from to cs

  touched : (covers : List ℕ) (kept : ℕ → ℕ → Bool) (r : ℕ) (b : Bool) → (row == r) ≡ b → (cs : List Change) → Each (IsPlain covers) cs → touches kept r (moves_in cs) ≡ cond b (moved cs) []
  touched covers kept r true q [] h = refl
  touched covers kept r false q [] h = refl
  touched covers kept r b q (Added events ∷ cs) h = touched covers kept r b q cs h.1
  touched covers kept r true q (Taken action ∷ cs) h =
      ap (λ b. cond b (Taken action ∷ []) [] ++ touches kept r (moves_in cs)) q ∙ ap (λ (z : List Change). Taken action ∷ z) (touched covers kept r true q cs h.1)
  touched covers kept r false q (Taken action ∷ cs) h =
      ap (λ b. cond b (Taken action ∷ []) [] ++ touches kept r (moves_in cs)) q ∙ touched covers kept r false q cs h.1
  touched covers kept r b q (Given action from ∷ cs) h = absurd h.0

  module _ (measures : ℕ → Measure) (monoid : MergeIsMonoid) (fits : (event : ℕ) → Fits (stat_of (measures event)))
      (covers events : List ℕ) (chain : List Change) (few : length events < 2 ^ 64) (plain : Each (IsPlain covers) chain) (rising : AreRising chain) (once : AddsOnce events chain)
      (counted : (event : ℕ) → 1 ≤ count_by (λ e. event == e) events → times_counted event chain ≡ 1) where
    abbrev chains : ℕ → List Change
    chains r = cond (row == r) chain []

    abbrev found : ℕ → ℕ → Stat
    found action r = found_in (stats measures) (λ a s. zero_of) zero_of action (chains r)

    abbrev journals : Journals Stat
    journals = record {
      events = events;
      chains = λ r. cond (row == r) chain [];
      moves = moves_in chain;
      found = found;
      level = λ r. 0;
      height = 0;
      home = λ event. row;
      steps = λ event. [];
    }

    here : cond (row == row) chain [] ≡ chain
    here = ap (λ b. cond b chain []) (eq_self row)

    finds : (action r : ℕ) → found action r ≡ found_in (stats measures) found zero_of action (cond (row == r) chain [])
    finds action r = at (row == r) where
      at : (b : Bool) → found_in (stats measures) (λ a s. zero_of) zero_of action (cond b chain []) ≡ found_in (stats measures) found zero_of action (cond b chain [])
      at true = found_same measures covers (λ a s. zero_of) found chain plain zero_of action
      at false = refl

    moves_are : (kept : ℕ → ℕ → Bool) (r : ℕ) → moved (cond (row == r) chain []) ≡ touches kept r (moves_in chain)
    moves_are kept r = at (row == r) refl where
      at : (b : Bool) → (row == r) ≡ b → moved (cond b chain []) ≡ touches kept r (moves_in chain)
      at true q = sym (touched covers kept r true q chain plain)
      at false q = sym (touched covers kept r false q chain plain)

    placed : (event : ℕ) → 1 ≤ count_by (λ e. event == e) events → IsPlaced (λ r. cond (row == r) chain []) (λ r. 0) (moves_in chain) event row []
    placed event is = record {
      counted = λ r. at r (row == r) refl;
      leads = tt;
      climb = tt;
      placed = λ from action r leaves. nothing_sent action from r chain;
    } where
      swap : (a b : ℕ) → (a == b) ≡ (b == a)
      swap a b = grind arith

      at : (r : ℕ) (b : Bool) → (row == r) ≡ b → times_counted event (cond (row == r) chain []) ≡ cond {A = ℕ} (r == row) 1 0
      at r true q = ap (λ b. times_counted event (cond b chain [])) q ∙ (counted event is ∙ sym (ap (λ b. cond {A = ℕ} b 1 0) (swap r row ∙ q)))
      at r false q = ap (λ b. times_counted event (cond b chain [])) q ∙ sym (ap (λ b. cond {A = ℕ} b 1 0) (swap r row ∙ q))

    kept : AreKept (stats measures) (λ stat. stat.count) journals
    kept = record {
      few = few;
      flat = λ r. omega arith;
      order = in_order chain rising;
      moved = record { is = λ r. moves_are _ r };
      finds = record { is = finds };
      once = λ r. adds (row == r);
      placed = placed;
    } where
      adds : (b : Bool) → AddsOnce events (cond b chain [])
      adds true = once
      adds false = tt

    covered : (event least : ℕ) → removal event (cond (row == row) chain []) ≡ Some least → counts_after (Some least) covers ≡ false
    covered event least q =
        first_plain covers (following (counts_event event) chain) least (following_plain (IsPlain covers) (counts_event event) chain plain) (ap (removal event) (sym here) ∙ q)

    summary : IsSummary journals (row ∷ []) covers (λ event. []) (λ event. true)
    summary = record {
      shows = λ event is. record {
        follows = tt;
        nested = λ least q. tt;
        covered = λ lead least q. covered event least q;
        once = λ r came stays. refl;
      };
    }

    filter_same : (f g : ℕ → Bool) (xs : List ℕ) → ((x : ℕ) → f x ≡ g x) → filter f xs ≡ filter g xs
    filter_same f g [] h = refl
    filter_same f g (x ∷ xs) h = ap (λ b. cond b (x ∷ filter f xs) (filter f xs)) (h x) ∙ ap (λ (z : List ℕ). cond (g x) (x ∷ z) z) (filter_same f g xs h)

    -- what was added and is not taken since is what the row shows
    pub row_shows : Conserved → (finding : ℕ → ℕ → Stat) → content (stats measures) finding chain ≡ fold (with_event (stats measures)) zero_of (filter (λ event. counts_after (removal event chain) covers) events)
    row_shows conserved finding =
        content_same measures covers finding found chain plain zero_of
        ∙ (sym (monoid.unit (content (stats measures) found chain) (content_fits measures covers monoid fits found chain plain zero_of monoid.zero_fits))
        ∙ (ap (λ (cs : List Change). merge_of zero_of (content (stats measures) found cs)) (sym here)
        ∙ (conserved measures fits journals kept (row ∷ []) covers (λ event. []) (λ event. true) summary
        ∙ ap (λ (es : List ℕ). fold (with_event (stats measures)) zero_of es) (filter_same (counts_in journals covers (λ event. true)) (λ event. counts_after (removal event chain) covers) events (λ event. ap (λ (cs : List Change). counts_after (removal event cs) covers) here)))))
