-- The puts of tickets, and those of other sessions.
use Rattle.std.proofs.Common.{◌≡◌, refl, ℕ, zero, suc, ◌+◌, ◌-◌, ◌<◌, ◌≤◌, ◌==◌, max, Bool, true, false, not, ◌&&◌, ◌||◌, cond, nat_lt, nat_le, List, [], ◌∷◌, ◌++◌, length, get_or, sym, ◌∙◌, ap, subst, arith, Option, Some, None, inl, inr}
use Rattle.std.specs.Prelude.{if◌then◌else◌, slice_get, Vec, ◌⊎◌}
use Rattle.std.specs.BTreeMap.{BTreeMap}
use Rattle.std.specs.declared.alloc.Global.{Global}
use Rattle.std.proofs.lemmas.Bool.{and_parts, eqb-false, eqb-true, le-leb, leb-false, leb-true, ltb-false, ltb-true}
use Rattle.std.proofs.lemmas.List.{append-nil}
use Rattle.std.proofs.lemmas.Option.{same_Some, slice_get-get_or, slice_get_within}
use Rattle.pfs_event.specs.declared.entry.Entry.{Entry}
use Rattle.pfs_event.specs.declared.entry.Entry.TheVariants as says
use Rattle.pfs_model.specs.Causes.{IsLate, PutsTicket, SomePuts, by_others, kind_of_row, long_row}
use Rattle.pfs_model.specs.EntryPlaces.{Placed, up_to_phase}
use Rattle.pfs_model.specs.Floors.{floor_of}
use Rattle.pfs_check_floors.specs.KnownFloors.{Tells}
use Rattle.pfs_check_causes.specs.declared.puts.PhasedTop.{PhasedTop}
use Rattle.pfs_check_causes.specs.declared.puts.RowTicket.{RowTicket}
use Rattle.pfs_check_causes.specs.declared.puts.TicketPut.{TicketPut}
use Rattle.pfs_check_causes.specs.declared.puts.TopPut.{TopPut}
use Rattle.pfs_check_causes.specs.FreeReleases.{reaches}
use Rattle.pfs_check_causes.specs.GreatestPuts.{IsGreatestPut, PutsLaw, PutsWorked, greatest_kept}
use Rattle.pfs_check_causes.specs.TicketPuts.{ArePhased, ArePuts, NeverFallFrom, Parts, greater_of, is_same_ticket, last_top, next_top, others_of, pick, put_of, put_version, tops_at, tops_from, tops_more, version_at}

or_none : (a b : Bool) → a ≡ (a || (false && b))
or_none true b = refl
or_none false b = refl

-- a floor under the greater of two is under one of them
max_le : (f v w : ℕ) → nat_le f (max v w) ≡ (nat_le f w || nat_le f v)
max_le f v w = at (nat_le f (max v w)) (nat_le f w) (nat_le f v) refl refl refl where
  at : (x y z : Bool) → nat_le f (max v w) ≡ x → nat_le f w ≡ y → nat_le f v ≡ z → x ≡ (y || z)
  at true true z p q r = refl
  at true false true p q r = refl
  at true false false p q r = absurd (omega (arith, leb-true f (max v w) p, leb-false f w q, leb-false f v r))
  at false true z p q r = absurd (omega (arith, leb-false f (max v w) p, leb-true f w q))
  at false false true p q r = absurd (omega (arith, leb-false f (max v w) p, leb-true f v r))
  at false false false p q r = refl

high_le : (f v w : ℕ) → v ≤ w → nat_le f w ≡ (nat_le f w || nat_le f v)
high_le f v w h = at (nat_le f w) (nat_le f v) refl refl where
  at : (y z : Bool) → nat_le f w ≡ y → nat_le f v ≡ z → y ≡ (y || z)
  at true z q r = refl
  at false true q r = absurd (omega (arith, leb-false f w q, leb-true f v r, h))
  at false false q r = refl

low_le : (f v w : ℕ) → w ≤ v → nat_le f v ≡ (nat_le f w || nat_le f v)
low_le f v w h = at (nat_le f w) (nat_le f v) refl refl where
  at : (y z : Bool) → nat_le f w ≡ y → nat_le f v ≡ z → z ≡ (y || z)
  at true true q r = refl
  at true false q r = absurd (omega (arith, leb-true f w q, leb-false f v r, h))
  at false z q r = refl

-- the others' greatest isn't above the greatest
pub IsOver : Option TopPut → Type 0
IsOver None = Unit {0}
IsOver (Some top) = (floor : ℕ) → reaches top.other floor ≡ true → floor ≤ top.version

over_next : (o : Option TopPut) (session version : ℕ) → IsOver o → IsOver (Some (next_top o session version))
unfolding IsOver
over_next None session version h = λ floor e. absurd (cc)
over_next (Some top) session version h = at (top.session == session) (nat_lt top.version version) refl where
  under : (o : Option ℕ) → ((floor : ℕ) → reaches o floor ≡ true → floor ≤ top.version) → version ≤ top.version → (floor : ℕ)
      → nat_le floor (greater_of version o) ≡ true → floor ≤ top.version
  under None k l floor e = omega (arith, l, leb-true floor version e)
  under (Some w) k l floor e = on (nat_le floor w) refl where
    on : (b : Bool) → nat_le floor w ≡ b → floor ≤ top.version
    on true q = k floor q
    on false q = omega (arith, l, leb-true floor (max version w) e, leb-false floor w q)

  at : (x y : Bool) → nat_lt top.version version ≡ y
      → IsOver (Some (if x then record { version = max version top.version; session = session; other = top.other }
      else (if y then record { version = version; session = session; other = Some top.version }
      else record { version = top.version; session = top.session; other = Some (greater_of version top.other) })))
  at true y e = λ floor q. omega (arith, h floor q)
  at false true e = λ floor q. omega (arith, ltb-true top.version version e, leb-true floor top.version q)
  at false false e = under top.other h (omega (arith, ltb-false top.version version e))

-- one put more, by one session or another
step : (o : Option TopPut) (own session version floor : ℕ) → IsOver o
    → reaches (others_of own (Some (next_top o session version))) floor
    ≡ (reaches (others_of own o) floor || (not (session == own) && nat_le floor version))
unfolding IsOver
step None own session version floor h = at (session == own) where
  at : (b : Bool) → reaches (if b then None else Some version) floor ≡ (false || (not b && nat_le floor version))
  at true = refl
  at false = refl
step (Some top) own session version floor h =
    at (top.session == session) (nat_lt top.version version) (top.session == own) (session == own) refl refl refl refl where
      over : (f : ℕ) → reaches top.other f ≡ true → f ≤ top.version
      over = h

      greater : (o : Option ℕ) → nat_le floor (greater_of version o) ≡ (reaches o floor || nat_le floor version)
      greater None = refl
      greater (Some w) = max_le floor version w

      covered : top.version < version → nat_le floor version ≡ (reaches top.other floor || nat_le floor version)
      covered l = on (reaches top.other floor) (nat_le floor version) refl refl where
        on : (y z : Bool) → reaches top.other floor ≡ y → nat_le floor version ≡ z → z ≡ (y || z)
        on true true q r = refl
        on true false q r = absurd (omega (arith, over floor q, l, leb-false floor version r))
        on false z q r = refl

      at : (x y a b : Bool) → (top.session == session) ≡ x → nat_lt top.version version ≡ y → (top.session == own) ≡ a → (session == own) ≡ b
          → reaches (others_of own (Some (if x then record { version = max version top.version; session = session; other = top.other }
          else (if y then record { version = version; session = session; other = Some top.version }
          else record { version = top.version; session = top.session; other = Some (greater_of version top.other) })))) floor
          ≡ (reaches (if a then top.other else Some top.version) floor || (not b && nat_le floor version))
      at true y true true e f g k = rw k (or_none (reaches top.other floor) (nat_le floor version))
      at true y false false e f g k = rw k (max_le floor version top.version)
      at true y true false e f g k = absurd (eqb-false session own k (sym (eqb-true top.session session e) ∙ eqb-true top.session own g))
      at true y false true e f g k = absurd (eqb-false top.session own g (eqb-true top.session session e ∙ eqb-true session own k))
      at false true true true e f g k = absurd (eqb-false top.session session e (eqb-true top.session own g ∙ sym (eqb-true session own k)))
      at false true false true e f g k = rw k (or_none (nat_le floor top.version) (nat_le floor version))
      at false true true false e f g k = rw k (covered (ltb-true top.version version f))
      at false true false false e f g k = rw k (low_le floor version top.version (omega (arith, ltb-true top.version version f)))
      at false false true true e f g k = absurd (eqb-false top.session session e (eqb-true top.session own g ∙ sym (eqb-true session own k)))
      at false false true false e f g k = rw g (greater top.other)
      at false false false true e f g k = rw g (or_none (nat_le floor top.version) (nat_le floor version))
      at false false false false e f g k = rw g (high_le floor version top.version (omega (arith, ltb-false top.version version f)))

-- the top of all puts of a ticket
abbrev pub after_put : Option ℕ → Option TopPut → ℕ → Option TopPut
after_put None o session = o
after_put (Some version) o session = Some (next_top o session version)

abbrev pub top_of_all : RowTicket → Option TopPut → List Placed → Option TopPut
top_of_all key o [] = o
top_of_all key o (p ∷ ps) = top_of_all key (after_put (put_version key p.entry) o p.session) ps

abbrev pub some_put : RowTicket → ℕ → ℕ → List Placed → Bool
some_put key floor own [] = false
some_put key floor own (p ∷ ps) = (not (p.session == own) && reaches (put_version key p.entry) floor) || some_put key floor own ps

pub folded : (key : RowTicket) (floor own : ℕ) (o : Option TopPut) (ps : List Placed) → IsOver o
    → reaches (others_of own (top_of_all key o ps)) floor ≡ (reaches (others_of own o) floor || some_put key floor own ps)
folded key floor own o [] h = nothing (reaches (others_of own o) floor) where
  nothing : (a : Bool) → a ≡ (a || false)
  nothing true = refl
  nothing false = refl
folded key floor own o (p ∷ ps) h =
    at (put_version key p.entry) (folded key floor own o ps h)
    (λ version. folded key floor own (Some (next_top o p.session version)) ps (over_next o p.session version h)) where
      skip : (a b c : Bool) → (a || c) ≡ (a || ((not b && false) || c))
      skip true b c = refl
      skip false true c = refl
      skip false false c = refl

      group : (a b c : Bool) → ((a || b) || c) ≡ (a || (b || c))
      group true b c = refl
      group false b c = refl

      at : (v : Option ℕ)
          → reaches (others_of own (top_of_all key o ps)) floor ≡ (reaches (others_of own o) floor || some_put key floor own ps)
          → ((version : ℕ) → reaches (others_of own (top_of_all key (Some (next_top o p.session version)) ps)) floor
          ≡ (reaches (others_of own (Some (next_top o p.session version))) floor || some_put key floor own ps))
          → reaches (others_of own (top_of_all key (after_put v o p.session) ps)) floor
          ≡ (reaches (others_of own o) floor || ((not (p.session == own) && reaches v floor) || some_put key floor own ps))
      at None same more =
          same ∙ skip (reaches (others_of own o) floor) (p.session == own) (some_put key floor own ps)
      at (Some version) same more =
          more version
          ∙ ap (λ z. z || some_put key floor own ps) (step o own p.session version floor h)
          ∙ group (reaches (others_of own o) floor) (not (p.session == own) && nat_le floor version) (some_put key floor own ps)

own_tells : (key : RowTicket) (floor : ℕ) (entry : Entry) → Tells (PutsTicket key.row key.ticket floor entry) (reaches (put_version key entry) floor)
own_tells key floor (says.Long row version ticket) = at (row == key.row) (ticket == key.ticket) (nat_le floor version) refl refl refl where
  at : (x y z : Bool) → (row == key.row) ≡ x → (ticket == key.ticket) ≡ y → nat_le floor version ≡ z
      → Tells ((row ≡ key.row) × (ticket ≡ key.ticket) × (floor ≤ version)) (reaches (if x && y then Some version else None) floor)
  at true true z e f g = rw g (last z g) where
    last : (z : Bool) → nat_le floor version ≡ z → Tells ((row ≡ key.row) × (ticket ≡ key.ticket) × (floor ≤ version)) z
    last true g = (eqb-true row key.row e, eqb-true ticket key.ticket f, leb-true floor version g)
    last false g = λ all. omega (arith, all.2, leb-false floor version g)
  at true false z e f g = λ all. eqb-false ticket key.ticket f all.1
  at false y z e f g = λ all. eqb-false row key.row e all.0
own_tells key floor _ = λ none. none

either : {P Q : Type 0} → (P → ⊥) → (Q → ⊥) → P ⊎ Q → ⊥
either n m (inl p) = n p
either n m (inr q) = m q

one_of : (P Q : Type 0) (a b : Bool) → Tells P a → Tells Q b → Tells (P ⊎ Q) (a || b)
one_of P Q true b p q = inl p
one_of P Q false true p q = inr q
one_of P Q false false p q = either p q

pub put_tells : (key : RowTicket) (floor own : ℕ) (ps : List Placed)
    → Tells (SomePuts key.row key.ticket floor (by_others own ps)) (some_put key floor own ps)
put_tells key floor own [] = λ none. none
put_tells key floor own (p ∷ ps) = at (p.session == own) (put_tells key floor own ps) where
  at : (b : Bool) → Tells (SomePuts key.row key.ticket floor (by_others own ps)) (some_put key floor own ps)
      → Tells (SomePuts key.row key.ticket floor (cond (not b) (p ∷ []) [] ++ by_others own ps))
      ((not b && reaches (put_version key p.entry) floor) || some_put key floor own ps)
  at true rest = rest
  at false rest =
      one_of (PutsTicket key.row key.ticket floor p.entry) (SomePuts key.row key.ticket floor (by_others own ps))
      (reaches (put_version key p.entry) floor) (some_put key floor own ps) (own_tells key floor p.entry) rest

-- phases never fall, so that none behind a later one counts
none_later : (phase from : ℕ) (ps : List Placed) → NeverFallFrom from ps → phase < from → up_to_phase phase ps ≡ []
none_later phase from [] o h = refl
none_later phase from (p ∷ ps) o h = at (nat_le p.phase phase) refl (none_later phase p.phase ps o.1 (omega (arith, o.0, h))) where
  at : (b : Bool) → nat_le p.phase phase ≡ b → up_to_phase phase ps ≡ [] → cond b (p ∷ []) [] ++ up_to_phase phase ps ≡ []
  at true e s = absurd (omega (arith, leb-true p.phase phase e, o.0, h))
  at false e s = s

pub picked : (key : RowTicket) (o : Option TopPut) (phase from : ℕ) (ps : List Placed) → NeverFallFrom from ps
    → pick o phase (tops_from key o ps) ≡ top_of_all key o (up_to_phase phase ps)
unfolding tops_from
picked key o phase from [] rises = refl
picked key o phase from (p ∷ ps) rises =
    at (nat_le p.phase phase) refl (put_version key p.entry) refl (picked key o phase p.phase ps rises.1)
    (λ version. picked key (Some (next_top o p.session version)) phase p.phase ps rises.1) where
      at : (b : Bool) → nat_le p.phase phase ≡ b → (v : Option ℕ) → put_version key p.entry ≡ v
          → pick o phase (tops_from key o ps) ≡ top_of_all key o (up_to_phase phase ps)
          → ((version : ℕ) → pick (Some (next_top o p.session version)) phase (tops_from key (Some (next_top o p.session version)) ps)
          ≡ top_of_all key (Some (next_top o p.session version)) (up_to_phase phase ps))
          → pick o phase (tops_more v o p (λ top. tops_from key top ps)) ≡ top_of_all key o (cond b (p ∷ []) [] ++ up_to_phase phase ps)
      at true e None f same more =
          same
          ∙ ap (λ z. top_of_all key (after_put z o p.session) (up_to_phase phase ps)) (sym f)
      at true e (Some version) f same more =
          ap (λ z. if z then pick (Some (next_top o p.session version)) phase (tops_from key (Some (next_top o p.session version)) ps) else o) e
          ∙ more version
          ∙ ap (λ z. top_of_all key (after_put z o p.session) (up_to_phase phase ps)) (sym f)
      at false e None f same more = same
      at false e (Some version) f same more =
          ap (λ z. if z then pick (Some (next_top o p.session version)) phase (tops_from key (Some (next_top o p.session version)) ps) else o) e
          ∙ ap (top_of_all key o) (sym (none_later phase p.phase ps rises.1 (omega (arith, leb-false p.phase phase e))))

-- one entry more
abbrev pub own_top : Option ℕ → Option TopPut → Placed → List PhasedTop
own_top None o p = []
own_top (Some version) o p = record { phase = p.phase; top = next_top o p.session version } ∷ []

pub from_push : (key : RowTicket) (o : Option TopPut) (ps : List Placed) (p : Placed)
    → tops_from key o (ps ++ p ∷ []) ≡ tops_from key o ps ++ own_top (put_version key p.entry) (last_top o (tops_from key o ps)) p
unfolding tops_from
from_push key o [] p = at (put_version key p.entry) where
  at : (v : Option ℕ) → tops_more v o p (λ top. []) ≡ own_top v o p
  at None = refl
  at (Some version) = refl
from_push key o (q ∷ qs) p =
    at (put_version key q.entry) (from_push key o qs p) (λ version. from_push key (Some (next_top o q.session version)) qs p) where
      at : (v : Option ℕ)
          → tops_from key o (qs ++ p ∷ []) ≡ tops_from key o qs ++ own_top (put_version key p.entry) (last_top o (tops_from key o qs)) p
          → ((version : ℕ) → tops_from key (Some (next_top o q.session version)) (qs ++ p ∷ [])
          ≡ tops_from key (Some (next_top o q.session version)) qs
          ++ own_top (put_version key p.entry)
          (last_top (Some (next_top o q.session version)) (tops_from key (Some (next_top o q.session version)) qs)) p)
          → tops_more v o q (λ top. tops_from key top (qs ++ p ∷ []))
          ≡ tops_more v o q (λ top. tops_from key top qs)
          ++ own_top (put_version key p.entry) (last_top o (tops_more v o q (λ top. tops_from key top qs))) p
      at None same more = same
      at (Some version) same more = ap (λ z. record { phase = q.phase; top = next_top o q.session version } ∷ z) (more version)

-- the tops of a ticket stand by their phases
SortedFrom : ℕ → List PhasedTop → Type 0
SortedFrom from [] = Unit {0}
SortedFrom from (top ∷ tops) = (from ≤ top.phase) × SortedFrom top.phase tops

lower : (a b : ℕ) (tops : List PhasedTop) → a ≤ b → SortedFrom b tops → SortedFrom a tops
unfolding SortedFrom
lower a b [] h s = tt
lower a b (t ∷ ts) h s = (omega (arith, h, s.0), s.1)

sorted : (key : RowTicket) (o : Option TopPut) (from : ℕ) (ps : List Placed) → NeverFallFrom from ps → SortedFrom from (tops_from key o ps)
unfolding SortedFrom tops_from
sorted key o from [] rises = tt
sorted key o from (p ∷ ps) rises =
    at (put_version key p.entry) (sorted key o p.phase ps rises.1)
    (λ version. sorted key (Some (next_top o p.session version)) p.phase ps rises.1) where
      at : (v : Option ℕ) → SortedFrom p.phase (tops_from key o ps)
          → ((version : ℕ) → SortedFrom p.phase (tops_from key (Some (next_top o p.session version)) ps))
          → SortedFrom from (tops_more v o p (λ top. tops_from key top ps))
      at None same more = lower from p.phase (tops_from key o ps) rises.0 same
      at (Some version) same more = (rises.0, more version)

least : (from : ℕ) (tops : List PhasedTop) (j : ℕ) (top : PhasedTop) → SortedFrom from tops → slice_get tops j ≡ Some top → from ≤ top.phase
unfolding SortedFrom
least from [] j top s g = absurd (cc)
least from (t ∷ ts) zero top s g =
    let same : t.phase ≡ top.phase = ap (λ (z : PhasedTop). z.phase) (same_Some t top g) in omega (arith, s.0, same)
least from (t ∷ ts) (suc j) top s g = let more : t.phase ≤ top.phase = least t.phase ts j top s.1 g in omega (arith, s.0, more)

rise : (from : ℕ) (tops : List PhasedTop) → SortedFrom from tops → ArePhased tops
unfolding SortedFrom
rise from [] s i j one other l g h = absurd (cc)
rise from (t ∷ ts) s zero j one other l g h =
    let same : t.phase ≡ one.phase = ap (λ (z : PhasedTop). z.phase) (same_Some t one g) in
    let more : t.phase ≤ other.phase = least t.phase (t ∷ ts) j other (omega arith, s.1) h in
    omega (arith, same, more)
rise from (t ∷ ts) s (suc i) zero one other l g h = absurd (omega (arith, l))
rise from (t ∷ ts) s (suc i) (suc j) one other l g h = rise t.phase ts s.1 i j one other (omega (arith, l)) g h

pub phased : (key : RowTicket) (ps : List Placed) → NeverFallFrom 0 ps → ArePhased (tops_from key None ps)
phased key ps rises = rise 0 (tops_from key None ps) (sorted key None 0 ps rises)

-- a search by halves
pub no_parts : (tops : List PhasedTop) (phase n : ℕ) → n ≡ length tops → Parts tops phase 0 n
no_parts tops phase n e = record {
  below = λ i top h g. absurd (omega (arith, h));
  above = λ i top h g. absurd (omega (arith, h, e, slice_get_within tops i top g));
}

pub low_part : (tops : List PhasedTop) (phase low high middle : ℕ) (d : PhasedTop) → middle < length tops → ArePhased tops
    → (get_or tops middle d).phase ≤ phase → Parts tops phase low high → Parts tops phase (middle + 1) high
low_part tops phase low high middle d h order t before = record {
  below = λ i top l g.
      let up : top.phase ≤ (get_or tops middle d).phase =
      order i middle top (get_or tops middle d) (omega (arith, l)) g (slice_get-get_or tops middle d h) in
      omega (arith, up, t);
  above = before.above;
}

pub high_part : (tops : List PhasedTop) (phase low high middle : ℕ) (d : PhasedTop) → middle < length tops → ArePhased tops
    → phase < (get_or tops middle d).phase → Parts tops phase low high → Parts tops phase low middle
high_part tops phase low high middle d h order t before = record {
  below = before.below;
  above = λ i top l g.
      let up : (get_or tops middle d).phase ≤ top.phase =
      order middle i (get_or tops middle d) top l (slice_get-get_or tops middle d h) g in
      omega (arith, up, t);
}

pub pick_none : (o : Option TopPut) (phase : ℕ) (tops : List PhasedTop) → Parts tops phase 0 0 → pick o phase tops ≡ o
pick_none o phase [] parts = refl
pick_none o phase (t ∷ ts) parts = at (nat_le t.phase phase) refl where
  at : (b : Bool) → nat_le t.phase phase ≡ b → (if b then pick (Some t.top) phase ts else o) ≡ o
  at true e = absurd (omega (arith, leb-true t.phase phase e, parts.above 0 t (omega arith) refl))
  at false e = refl

pub pick_at : (o : Option TopPut) (phase n : ℕ) (tops : List PhasedTop) (d : PhasedTop) → n < length tops → Parts tops phase (n + 1) (n + 1)
    → pick o phase tops ≡ Some (get_or tops n d).top
pick_at o phase n [] d h parts = absurd (omega (arith, h))
pick_at o phase n (t ∷ ts) d h parts =
    at (nat_le t.phase phase) refl n h parts (λ m l rest. pick_at (Some t.top) phase m ts d l rest) where
      behind : (m n : ℕ) → m ≡ n + 1 → Parts (t ∷ ts) phase m m → Parts ts phase n n
      behind m n e parts = record {
        below = λ i top l g. parts.below (suc i) top (omega (arith, l, e)) g;
        above = λ i top l g. parts.above (suc i) top (omega (arith, l, e)) g;
      }

      at : (b : Bool) → nat_le t.phase phase ≡ b → (n : ℕ) → n < length (t ∷ ts) → Parts (t ∷ ts) phase (n + 1) (n + 1)
          → ((m : ℕ) → m < length ts → Parts ts phase (m + 1) (m + 1) → pick (Some t.top) phase ts ≡ Some (get_or ts m d).top)
          → (if b then pick (Some t.top) phase ts else o) ≡ Some (get_or (t ∷ ts) n d).top
      at false e n h parts more = absurd (omega (arith, leb-false t.phase phase e, parts.below 0 t (omega arith) refl))
      at true e zero h parts more = pick_none (Some t.top) phase ts (behind (0 + 1) 0 (omega arith) parts)
      at true e (suc n) h parts more = more n (omega (arith, h)) (behind (suc n + 1) (n + 1) (omega arith) parts)

-- a ticket's tops are taken out and put back with one more
pub pushed : (old mid new : BTreeMap RowTicket (Vec PhasedTop Global)) (put : TicketPut) (phase session : ℕ) (taken items : List PhasedTop)
    → taken ≡ tops_at old put.key
    → ((other : RowTicket) → is_same_ticket put.key other ≡ false → tops_at mid other ≡ tops_at old other)
    → items ≡ taken ++ record { phase = phase; top = next_top (last_top None taken) session put.version } ∷ []
    → ((other : RowTicket) → tops_at new other ≡ cond (is_same_ticket put.key other) items (tops_at mid other))
    → (key : RowTicket) → tops_at new key
    ≡ cond (is_same_ticket put.key key)
    (tops_at old put.key ++ record { phase = phase; top = next_top (last_top None (tops_at old put.key)) session put.version } ∷ [])
    (tops_at old key)
pushed old mid new put phase session taken items t others e back key = back key ∙ at (is_same_ticket put.key key) refl where
  at : (b : Bool) → is_same_ticket put.key key ≡ b
      → cond b items (tops_at mid key)
      ≡ cond b (tops_at old put.key ++ record { phase = phase; top = next_top (last_top None (tops_at old put.key)) session put.version } ∷ [])
      (tops_at old key)
  at true f = e ∙ ap (λ z. z ++ record { phase = phase; top = next_top (last_top None z) session put.version } ∷ []) t
  at false f = others key f

same_ticket : (one other : RowTicket) → is_same_ticket one other ≡ true → one ≡ other
same_ticket one other h =
    let both : ((one.row == other.row) ≡ true) × ((one.ticket == other.ticket) ≡ true) = and_parts (one.row == other.row) (one.ticket == other.ticket) h in
    let P : ℕ → RowTicket = λ r. record { row = r; ticket = one.ticket } in
    let Q : ℕ → RowTicket = λ t. record { row = other.row; ticket = t } in
    ap P (eqb-true one.row other.row both.0) ∙ ap Q (eqb-true one.ticket other.ticket both.1)

-- what is noted of an entry
pub puts_more : (old new : BTreeMap RowTicket (Vec PhasedTop Global)) (places : List Placed) (place : Placed) (put : TicketPut) (phase session : ℕ)
    → place.phase ≡ phase → place.session ≡ session → put_of place.entry ≡ Some put
    → ((key : RowTicket) → tops_at new key
    ≡ cond (is_same_ticket put.key key)
    (tops_at old put.key ++ record { phase = phase; top = next_top (last_top None (tops_at old put.key)) session put.version } ∷ [])
    (tops_at old key))
    → ArePuts places old → ArePuts (places ++ place ∷ []) new
puts_more old new places place put phase session p s g step before key =
    step key ∙ at (is_same_ticket put.key key) refl
    ∙ ap (λ z. tops_from key None places ++ own_top (version_at key z) (last_top None (tops_from key None places)) place) (sym g)
    ∙ sym (from_push key None places place) where
      at : (b : Bool) → is_same_ticket put.key key ≡ b
          → cond b
          (tops_at old put.key ++ record { phase = phase; top = next_top (last_top None (tops_at old put.key)) session put.version } ∷ [])
          (tops_at old key)
          ≡ tops_from key None places ++ own_top (if b then Some put.version else None) (last_top None (tops_from key None places)) place
      at true e =
          ap (λ z. z ++ record { phase = phase; top = next_top (last_top None z) session put.version } ∷ [])
          (ap (tops_at old) (same_ticket put.key key e) ∙ before key)
          ∙ ap (λ z. tops_from key None places ++ record { phase = z; top = next_top (last_top None (tops_from key None places)) session put.version } ∷ []) (sym p)
          ∙ ap (λ z. tops_from key None places ++ record { phase = place.phase; top = next_top (last_top None (tops_from key None places)) z put.version } ∷ []) (sym s)
      at false e = before key ∙ sym (append-nil (tops_from key None places))

pub puts_same : (puts : BTreeMap RowTicket (Vec PhasedTop Global)) (places : List Placed) (place : Placed) → put_of place.entry ≡ None
    → ArePuts places puts → ArePuts (places ++ place ∷ []) puts
puts_same puts places place g before key =
    before key ∙ sym (append-nil (tops_from key None places))
    ∙ ap (λ z. tops_from key None places ++ own_top (version_at key z) (last_top None (tops_from key None places)) place) (sym g)
    ∙ sym (from_push key None places place)

-- whether another session put the ticket, told by its tops
pub put_is : (puts : BTreeMap RowTicket (Vec PhasedTop Global)) (all : List Placed) (key : RowTicket) (floor own phase : ℕ) (top : Option TopPut)
    (others : Option ℕ) (b : Bool) → ArePuts all puts → NeverFallFrom 0 all → top ≡ pick None phase (tops_at puts key)
    → others ≡ others_of own top → b ≡ reaches others floor
    → Tells (SomePuts key.row key.ticket floor (by_others own (up_to_phase phase all))) b
unfolding IsOver
put_is puts all key floor own phase top others b known rises t o e =
    subst (Tells (SomePuts key.row key.ticket floor (by_others own (up_to_phase phase all)))) (sym is) (put_tells key floor own (up_to_phase phase all)) where
      nothing : IsOver None
      nothing = tt

      is : b ≡ some_put key floor own (up_to_phase phase all)
      is =
          e ∙ ap (λ z. reaches z floor) o ∙ ap (λ z. reaches (others_of own z) floor) (t ∙ ap (pick None phase) (known key) ∙ picked key None phase 0 all rises)
          ∙ folded key floor own None (up_to_phase phase all) nothing

-- the greatest version at which others put a ticket
pub greatest_told : PutsLaw
greatest_told all puts known rises key session phase = at (greatest_kept (tops_at puts key) session phase) refl where
  told : (floor : ℕ) (others : Option ℕ) → greatest_kept (tops_at puts key) session phase ≡ others
      → Tells (SomePuts key.row key.ticket floor (by_others session (up_to_phase phase all))) (reaches others floor)
  told floor others e =
      put_is puts all key floor session phase (pick None phase (tops_at puts key)) others (reaches others floor) known rises refl (sym e) refl

  at : (others : Option ℕ) → greatest_kept (tops_at puts key) session phase ≡ others
      → IsGreatestPut (by_others session (up_to_phase phase all)) key others
  at None e = told 0 None e
  at (Some version) e = (
    subst (Tells (SomePuts key.row key.ticket version (by_others session (up_to_phase phase all))))
        (le-leb version version (omega arith)) (told version (Some version) e),
    subst (Tells (SomePuts key.row key.ticket (version + 1) (by_others session (up_to_phase phase all))))
        (above version) (told (version + 1) (Some version) e),
  ) where
    above : (v : ℕ) → nat_le (v + 1) v ≡ false
    above v = on (nat_le (v + 1) v) refl where
      on : (b : Bool) → nat_le (v + 1) v ≡ b → b ≡ false
      on true q = absurd (omega (arith, leb-true (v + 1) v q))
      on false q = refl

pub puts_worked : PutsWorked
unfolding tops_from
puts_worked = record { first = refl; second = refl; both = refl; later = refl; none = refl }

pub late_tells : (all earlier : List Placed) (place : Placed) (row ticket greater phase session floor : ℕ) (found own same b : Bool) → phase ≡ place.phase
    → session ≡ place.session → floor ≡ floor_of all earlier place row
    → Tells (SomePuts row greater floor (by_others session (up_to_phase phase all))) found → own ≡ (row == long_row (kind_of_row row) ticket)
    → same ≡ (row == long_row (kind_of_row row) greater) → b ≡ (nat_lt ticket greater && (own && (same && found)))
    → Tells (IsLate all earlier place row ticket greater) b
late_tells all earlier place row ticket greater phase session floor found own same b p s f t o m is =
    subst (Tells (IsLate all earlier place row ticket greater)) (sym is) (at (nat_lt ticket greater) own same found refl o m moved) where
      moved : Tells (SomePuts row greater (floor_of all earlier place row) (by_others place.session (up_to_phase place.phase all))) found
      moved =
          subst (λ z. Tells (SomePuts row greater (floor_of all earlier place row) (by_others place.session (up_to_phase z all))) found) p
          (subst (λ z. Tells (SomePuts row greater (floor_of all earlier place row) (by_others z (up_to_phase phase all))) found) s
          (subst (λ z. Tells (SomePuts row greater z (by_others session (up_to_phase phase all))) found) f t))

      at : (w x y z : Bool) → nat_lt ticket greater ≡ w → x ≡ (row == long_row (kind_of_row row) ticket)
          → y ≡ (row == long_row (kind_of_row row) greater)
          → Tells (SomePuts row greater (floor_of all earlier place row) (by_others place.session (up_to_phase place.phase all))) z
          → Tells (IsLate all earlier place row ticket greater) (w && (x && (y && z)))
      at false x y z e g h t = λ late. omega (arith, late.above, ltb-false ticket greater e)
      at true false y z e g h t = λ late. eqb-false row (long_row (kind_of_row row) ticket) (sym g) late.own
      at true true false z e g h t = λ late. eqb-false row (long_row (kind_of_row row) greater) (sym h) late.same
      at true true true false e g h t = λ late. t late.put
      at true true true true e g h t = record {
        above = ltb-true ticket greater e;
        own = eqb-true row (long_row (kind_of_row row) ticket) (sym g);
        same = eqb-true row (long_row (kind_of_row row) greater) (sym h);
        put = t;
      }

pub picked_at : (o : Option TopPut) (phase place : ℕ) (tops : List PhasedTop) (d : PhasedTop) → 0 < place → place ≤ length tops
    → Parts tops phase place place → pick o phase tops ≡ Some (get_or tops (place - 1) d).top
picked_at o phase place tops d some within parts =
    pick_at o phase (place - 1) tops d (omega (arith, some, within))
    (subst (λ z. Parts tops phase z z) (omega (arith, some)) parts)

pub last_at : (o : Option TopPut) (tops : List PhasedTop) (n : ℕ) (d : PhasedTop) → length tops ≡ n + 1 → last_top o tops ≡ Some (get_or tops n d).top
last_at o [] n d h = absurd (omega (arith, h))
last_at o (t ∷ []) zero d h = refl
last_at o (t ∷ u ∷ us) zero d h = absurd (omega (arith, h))
last_at o (t ∷ []) (suc n) d h = absurd (omega (arith, h))
last_at o (t ∷ u ∷ us) (suc n) d h = last_at (Some t.top) (u ∷ us) n d (omega (arith, h))
