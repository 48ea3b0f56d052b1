-- The tickets of the long history, where each line goes by the lines before it: those of a kind stand in order, each at
-- its place, and rise there with the versions.
use Rattle.std.proofs.Common.{ℕ, zero, suc, ◌≡◌, ◌<◌, ◌≤◌, ◌+◌, ◌==◌, Bool, true, false, cond, inl, inr, List, [], ◌∷◌, ◌++◌, length, Some, eq-eqb, ne_eqb, refl, ap, sym, ◌∙◌, subst, arith}
use Rattle.std.specs.Prelude.{◌⊎◌, filter, nat_lt, nat_le}
use Rattle.std.proofs.lemmas.Bool.{eqb-true, leb-true, leb-false, ltb-true, ltb-false, false≢true}
use Rattle.std.proofs.lemmas.List.{append_assoc}
use Rattle.std.proofs.lemmas.Option.{same_Some}
use Rattle.pfs_event.specs.declared.entry.Entry.{Entry}
use Rattle.pfs_event.specs.declared.entry.Entry.TheVariants as says
use Rattle.pfs_model.specs.Actions.{IsAmong}
use Rattle.pfs_model.specs.Causes.{long_row, kind_of_row}
use Rattle.pfs_model.specs.Chains.{Each, times, row_change, each_of}
use Rattle.pfs_model.specs.EntryPlaces.{Placed, by_session, before_phase, up_to_phase, in_phase}
use Rattle.pfs_model.specs.PlainAgreement.{AgreeBehind, AgreesWith, Agrees, AreNext, IsPlain, drawn_of, last_of, tickets_at}
use Rattle.pfs_model.specs.Rings.{AreTickets, AreRisingTickets, IsAtOwn, LongPut, LongRises, Ticketed, long_put, long_puts, ticketed_at, ticket_shown, tickets_of_row, tickets_shown}
use Rattle.pfs_model.specs.declared.changes.Change.{Change}
use Rattle.pfs_model.specs.declared.lines.Line.{Line}
use Rattle.pfs_law_plain.proofs.TicketPlaces.{AreLater, ArePlacesOwn, IsOwn}
use Rattle.pfs_model.proofs.Members.{among_either}

-- the puts of a kind have the tickets from this one on, each at its place
abbrev AreFrom : ℕ → ℕ → List LongPut → Type 0
AreFrom kind number [] = Unit {0}
AreFrom kind number (put ∷ puts) = (put.ticket ≡ Some number) × (put.row ≡ long_row kind number) × AreFrom kind (number + 1) puts

-- the number behind some of them
from_more : (kind number : ℕ) (xs ys : List LongPut) → AreFrom kind number xs → AreFrom kind (number + length xs) ys → AreFrom kind number (xs ++ ys)
from_more kind number [] ys a b = subst (λ n. AreFrom kind n ys) (omega arith) b
from_more kind number (x ∷ xs) ys a b = (a.0, a.1, from_more kind (number + 1) xs ys a.2 (subst (λ n. AreFrom kind n ys) (omega arith) b))

from_front : (kind number : ℕ) (xs ys : List LongPut) → AreFrom kind number (xs ++ ys) → AreFrom kind number xs
from_front kind number [] ys a = tt
from_front kind number (x ∷ xs) ys a = (a.0, a.1, from_front kind (number + 1) xs ys a.2)

from_back : (kind number : ℕ) (xs ys : List LongPut) → AreFrom kind number (xs ++ ys) → AreFrom kind (number + length xs) ys
from_back kind number [] ys a = subst (λ n. AreFrom kind n ys) (omega arith) a
from_back kind number (x ∷ xs) ys a = subst (λ n. AreFrom kind n ys) (omega arith) (from_back kind (number + 1) xs ys a.2)

-- one entry: its put has the next ticket of its kind, and the next is one more
abbrev own_puts : ℕ → Line → Entry → List LongPut
own_puts kind line entry = filter (λ put. kind_of_row put.row == kind) (long_put line entry)

record IsNextPut (kind : ℕ) (line : Line) (earlier : List Placed) (entry : Entry) : Type 0 where
  from : AreFrom kind (drawn_of kind (each_of tickets_at earlier)) (own_puts kind line entry)
  more : drawn_of kind (tickets_at entry ++ each_of tickets_at earlier) ≡ drawn_of kind (each_of tickets_at earlier) + length (own_puts kind line entry)

no_put : (kind : ℕ) (line : Line) (earlier : List Placed) (entry : Entry) → long_put line entry ≡ [] → tickets_at entry ≡ [] → IsNextPut kind line earlier entry
no_put kind line earlier entry e f =
    let n : ℕ = drawn_of kind (each_of tickets_at earlier) in
    record {
      from = subst (λ z. AreFrom kind n (filter (λ put. kind_of_row put.row == kind) z)) (sym e) tt;
      more = ap (λ z. drawn_of kind (z ++ each_of tickets_at earlier)) f ∙ subst (λ z. n ≡ n + length (filter (λ put. kind_of_row put.row == kind) z)) (sym e) (omega arith);
    }

-- a put of this kind, or of another one
abbrev IsNextOf : ℕ → ℕ → LongPut → Bool → Type 0
IsNextOf kind before one b = AreFrom kind before (cond b (one ∷ []) []) × ((cond b 1 0 + before) ≡ before + length (cond b (one ∷ []) []))

put_next : (kind : ℕ) (line : Line) (earlier : List Placed) (row version ticket : ℕ) → ticket ≡ drawn_of (kind_of_row row) (each_of tickets_at earlier) → row ≡ long_row (kind_of_row row) ticket
    → IsNextPut kind line earlier (says.Long row version ticket)
put_next kind line earlier row version ticket t own =
    (let both : IsNextOf kind (drawn_of kind (each_of tickets_at earlier)) (record { row = row; ticket = Some ticket }) (kind_of_row row == kind) = of (kind_of_row row == kind) refl in
    record { from = both.0; more = both.1 }) where
      of : (b : Bool) → (kind_of_row row == kind) ≡ b → IsNextOf kind (drawn_of kind (each_of tickets_at earlier)) (record { row = row; ticket = Some ticket }) b
      of true e =
          let k : kind_of_row row ≡ kind = eqb-true (kind_of_row row) kind e in
          let n : ticket ≡ drawn_of kind (each_of tickets_at earlier) = t ∙ ap (λ z. drawn_of z (each_of tickets_at earlier)) k in
          ((ap (λ z. Some z) n, own ∙ (ap (λ z. long_row z ticket) k ∙ ap (long_row kind) n), tt), omega arith)
      of false e = (tt, omega arith)

entry_next : (kind : ℕ) (line : Line) (earlier : List Placed) (entry : Entry) → Agrees earlier entry → IsOwn entry → IsNextPut kind line earlier entry
entry_next kind line earlier (says.Long row version ticket) a own = put_next kind line earlier row version ticket a own
entry_next kind line earlier (says.Late row ticket greater) a own = absurd a
entry_next kind line earlier (says.Busy row first second) a own = absurd a
entry_next kind line earlier _ a own = no_put kind line earlier _ refl refl

-- all entries
all_next : (kind : ℕ) (earlier ps : List Placed) → AgreeBehind earlier ps → ArePlacesOwn ps → AreFrom kind (drawn_of kind (each_of tickets_at earlier)) (long_puts kind ps)
all_next kind earlier [] a own = tt
all_next kind earlier (p ∷ ps) a own =
    let one : IsNextPut kind p.line earlier p.entry = entry_next kind p.line earlier p.entry a.0.others own.0 in
    from_more kind (drawn_of kind (each_of tickets_at earlier)) (own_puts kind p.line p.entry) (long_puts kind ps) one.from
    (subst (λ n. AreFrom kind n (long_puts kind ps)) one.more (all_next kind (p ∷ earlier) ps a.1 own.1))

-- phase by phase
none_before : (phase low : ℕ) (ps : List Placed) → phase ≤ low → AreLater low ps → before_phase phase ps ≡ []
none_before phase low [] h l = refl
none_before phase low (p ∷ ps) h l = at (nat_lt p.phase phase) refl (none_before phase p.phase ps (omega (arith, h, l.0)) l.1) where
  at : (b : Bool) → nat_lt p.phase phase ≡ b → before_phase phase ps ≡ [] → (cond b (p ∷ []) [] ++ before_phase phase ps) ≡ []
  at true e none = absurd (omega (arith, ltb-true p.phase phase e, h, l.0))
  at false e none = none

none_inside : (phase low : ℕ) (ps : List Placed) → phase < low → AreLater low ps → in_phase phase ps ≡ []
none_inside phase low [] h l = refl
none_inside phase low (p ∷ ps) h l = at (p.phase == phase) refl (none_inside phase p.phase ps (omega (arith, h, l.0)) l.1) where
  at : (b : Bool) → (p.phase == phase) ≡ b → in_phase phase ps ≡ [] → (cond b (p ∷ []) [] ++ in_phase phase ps) ≡ []
  at true e none = absurd (omega (arith, eqb-true p.phase phase e, h, l.0))
  at false e none = none

none_up_to : (phase low : ℕ) (ps : List Placed) → phase < low → AreLater low ps → up_to_phase phase ps ≡ []
none_up_to phase low [] h l = refl
none_up_to phase low (p ∷ ps) h l = at (nat_le p.phase phase) refl (none_up_to phase p.phase ps (omega (arith, h, l.0)) l.1) where
  at : (b : Bool) → nat_le p.phase phase ≡ b → up_to_phase phase ps ≡ [] → (cond b (p ∷ []) [] ++ up_to_phase phase ps) ≡ []
  at true e none = absurd (omega (arith, leb-true p.phase phase e, h, l.0))
  at false e none = none

-- the puts before a phase, in it and up to it
record AreSplit (kind number : ℕ) (before inside up : List Placed) : Type 0 where
  first : AreFrom kind number (long_puts kind before)
  then_ : AreFrom kind (number + length (long_puts kind before)) (long_puts kind inside)
  sum : length (long_puts kind up) ≡ length (long_puts kind before) + length (long_puts kind inside)

length_then : (xs ys : List LongPut) → length (xs ++ ys) ≡ length xs + length ys
length_then [] ys = omega arith
length_then (x ∷ xs) ys = let e : length (xs ++ ys) ≡ length xs + length ys = length_then xs ys in omega (arith, e)

abbrev puts_at : ℕ → Placed → List LongPut
puts_at kind p = own_puts kind p.line p.entry

one_before : (kind number : ℕ) (p : Placed) (before inside up : List Placed) → AreFrom kind number (puts_at kind p) → AreSplit kind (number + length (puts_at kind p)) before inside up
    → AreSplit kind number (p ∷ before) inside (p ∷ up)
one_before kind number p before inside up own rest =
    let own_length : length (puts_at kind p ++ long_puts kind before) ≡ length (puts_at kind p) + length (long_puts kind before) = length_then (puts_at kind p) (long_puts kind before) in
    let up_length : length (puts_at kind p ++ long_puts kind up) ≡ length (puts_at kind p) + length (long_puts kind up) = length_then (puts_at kind p) (long_puts kind up) in
    record {
      first = from_more kind number (puts_at kind p) (long_puts kind before) own rest.first;
      then_ = subst (λ n. AreFrom kind n (long_puts kind inside)) (omega (arith, own_length)) rest.then_;
      sum = omega (arith, own_length, up_length, rest.sum);
    }

one_inside : (kind number : ℕ) (p : Placed) (before inside up : List Placed) → before ≡ [] → AreFrom kind number (puts_at kind p) → AreSplit kind (number + length (puts_at kind p)) before inside up
    → AreSplit kind number before (p ∷ inside) (p ∷ up)
one_inside kind number p before inside up none own rest =
    let in_length : length (puts_at kind p ++ long_puts kind inside) ≡ length (puts_at kind p) + length (long_puts kind inside) = length_then (puts_at kind p) (long_puts kind inside) in
    let up_length : length (puts_at kind p ++ long_puts kind up) ≡ length (puts_at kind p) + length (long_puts kind up) = length_then (puts_at kind p) (long_puts kind up) in
    let nothing : length (long_puts kind before) ≡ 0 = ap (λ z. length (long_puts kind z)) none in
    record {
      first = subst (λ z. AreFrom kind number (long_puts kind z)) (sym none) tt;
      then_ = subst (λ n. AreFrom kind n (puts_at kind p ++ long_puts kind inside)) (omega (arith, nothing))
          (from_more kind number (puts_at kind p) (long_puts kind inside) own (subst (λ n. AreFrom kind n (long_puts kind inside)) (omega (arith, nothing)) rest.then_));
      sum = omega (arith, in_length, up_length, rest.sum, nothing);
    }

-- no more of them where a later phase begins
split_end : (phase kind number low : ℕ) (ps : List Placed) → phase < low → AreLater low ps → AreSplit kind number (before_phase phase ps) (in_phase phase ps) (up_to_phase phase ps)
split_end phase kind number low ps h l =
    let none : before_phase phase ps ≡ [] = none_before phase low ps (omega (arith, h)) l in
    let nobody : in_phase phase ps ≡ [] = none_inside phase low ps h l in
    let nothing : up_to_phase phase ps ≡ [] = none_up_to phase low ps h l in
    subst (λ z. AreSplit kind number z (in_phase phase ps) (up_to_phase phase ps)) (sym none)
    (subst (λ z. AreSplit kind number [] z (up_to_phase phase ps)) (sym nobody)
    (subst (λ z. AreSplit kind number [] [] z) (sym nothing) (record { first = tt; then_ = tt; sum = omega arith })))

split_at : (phase kind number : ℕ) (p : Placed) (ps : List Placed) → AreLater p.phase ps → AreFrom kind number (puts_at kind p)
    → AreSplit kind (number + length (puts_at kind p)) (before_phase phase ps) (in_phase phase ps) (up_to_phase phase ps)
    → (b : Bool) → nat_lt p.phase phase ≡ b → (c : Bool) → (p.phase == phase) ≡ c → (d : Bool) → nat_le p.phase phase ≡ d
    → AreSplit kind number (cond b (p ∷ []) [] ++ before_phase phase ps) (cond c (p ∷ []) [] ++ in_phase phase ps) (cond d (p ∷ []) [] ++ up_to_phase phase ps)
split_at phase kind number p ps l own rest true e true f d g = absurd (omega (arith, ltb-true p.phase phase e, eqb-true p.phase phase f))
split_at phase kind number p ps l own rest true e false f true g = one_before kind number p _ _ _ own rest
split_at phase kind number p ps l own rest true e false f false g = absurd (omega (arith, ltb-true p.phase phase e, leb-false p.phase phase g))
split_at phase kind number p ps l own rest false e true f true g = one_inside kind number p _ _ _ (none_before phase p.phase ps (omega (arith, eqb-true p.phase phase f)) l) own rest
split_at phase kind number p ps l own rest false e true f false g = absurd (omega (arith, eqb-true p.phase phase f, leb-false p.phase phase g))
split_at phase kind number p ps l own rest false e false f true g = absurd (false≢true (sym f ∙ eq-eqb p.phase phase (omega (arith, ltb-false p.phase phase e, leb-true p.phase phase g))))
split_at phase kind number p ps l own rest false e false f false g = split_end phase kind number p.phase ps (leb-false p.phase phase g) l

split : (phase kind number low : ℕ) (ps : List Placed) → AreLater low ps → AreFrom kind number (long_puts kind ps) → AreSplit kind number (before_phase phase ps) (in_phase phase ps) (up_to_phase phase ps)
split phase kind number low [] l a = record { first = tt; then_ = tt; sum = omega arith }
split phase kind number low (p ∷ ps) l a =
    split_at phase kind number p ps l.1 (from_front kind number (puts_at kind p) (long_puts kind ps) a)
    (split phase kind (number + length (puts_at kind p)) p.phase ps l.1 (from_back kind number (puts_at kind p) (long_puts kind ps) a))
    (nat_lt p.phase phase) refl (p.phase == phase) refl (nat_le p.phase phase) refl

-- numbers one after another
abbrev counting : ℕ → ℕ → List ℕ
counting from zero = []
counting from (suc more) = from ∷ counting (from + 1) more

shown_are : (kind from : ℕ) (puts : List LongPut) → AreFrom kind from puts → tickets_shown puts ≡ counting from (length puts)
shown_are kind from [] a = refl
shown_are kind from (put ∷ puts) a = ap (λ z. ticket_shown z ++ tickets_shown puts) a.0 ∙ ap (λ z. from ∷ z) (shown_are kind (from + 1) puts a.2)

counting_past : (ticket from more : ℕ) → ticket < from → times (λ other. other == ticket) (counting from more) ≡ 0
counting_past ticket from zero h = refl
counting_past ticket from (suc more) h =
    let off : ◌≡◌ {A = ℕ} (cond (from == ticket) 1 0) 0 = ap (λ b. cond b 1 0) (ne_eqb from ticket (λ q. absurd (omega (arith, q, h)))) in
    let rest : times (λ other. other == ticket) (counting (from + 1) more) ≡ 0 = counting_past ticket (from + 1) more (omega (arith, h)) in
    omega (arith, off, rest)

counting_once : (ticket from more : ℕ) → times (λ other. other == ticket) (counting from more) ≤ 1
counting_once ticket from zero = omega arith
counting_once ticket from (suc more) = at (from == ticket) refl (counting_once ticket (from + 1) more) where
  at : (b : Bool) → (from == ticket) ≡ b → times (λ other. other == ticket) (counting (from + 1) more) ≤ 1 → (cond b 1 0 + times (λ other. other == ticket) (counting (from + 1) more)) ≤ 1
  at true e _ = let rest : times (λ other. other == ticket) (counting (from + 1) more) ≡ 0 = counting_past ticket (from + 1) more (omega (arith, eqb-true from ticket e)) in omega (arith, rest)
  at false e once = omega (arith, once)

among_counting : (ticket from more : ℕ) → IsAmong ticket (counting from more) → (from ≤ ticket) × (ticket < from + more)
among_counting ticket from zero m = absurd m
among_counting ticket from (suc more) (inl e) = (omega (arith, e), omega (arith, e))
among_counting ticket from (suc more) (inr m) = let rest = among_counting ticket (from + 1) more m in (omega (arith, rest.0), omega (arith, rest.1))

first_of_row : (kind row from more : ℕ) → tickets_of_row kind row from (suc more) ≡ cond (long_row kind from == row) 1 0 + tickets_of_row kind row (from + 1) more
first_of_row kind row from zero = ap (λ z. cond (long_row kind z == row) 1 0 + 0) (omega arith)
first_of_row kind row from (suc more) =
    let last : ℕ = cond (long_row kind (from + suc more) == row) 1 0 in
    let same : ◌≡◌ {A = ℕ} (cond (long_row kind (from + suc more) == row) 1 0) (cond (long_row kind (from + 1 + more) == row) 1 0) = ap (λ z. cond (long_row kind z == row) 1 0) (omega arith) in
    let rest : tickets_of_row kind row from (suc more) ≡ cond (long_row kind from == row) 1 0 + tickets_of_row kind row (from + 1) more = first_of_row kind row from more in
    omega (arith, same, rest)

of_row : (kind row from : ℕ) (puts : List LongPut) → AreFrom kind from puts → times (λ put. put.row == row) puts ≡ tickets_of_row kind row from (length puts)
of_row kind row from [] a = refl
of_row kind row from (put ∷ puts) a =
    let here : ◌≡◌ {A = ℕ} (cond (put.row == row) 1 0) (cond (long_row kind from == row) 1 0) = ap (λ z. cond (z == row) 1 0) a.1 in
    let rest : times (λ one. one.row == row) puts ≡ tickets_of_row kind row (from + 1) (length puts) = of_row kind row (from + 1) puts a.2 in
    omega (arith, here, rest, first_of_row kind row from (length puts))

each_own : (kind from : ℕ) (puts : List LongPut) → AreFrom kind from puts → Each (IsAtOwn kind) puts
each_own kind from [] a = tt
each_own kind from (put ∷ puts) a = (
  (λ ticket e. a.1 ∙ ap (long_row kind) (same_Some from ticket (sym a.0 ∙ e))),
  each_own kind (from + 1) puts a.2,
)

-- of a session alone the tickets rise
abbrev AreUp : ℕ → List ℕ → Type 0
AreUp low [] = Unit {0}
AreUp low (ticket ∷ tickets) = (low ≤ ticket) × AreUp (ticket + 1) tickets

up_lower : (low less : ℕ) (tickets : List ℕ) → less ≤ low → AreUp low tickets → AreUp less tickets
up_lower low less [] h a = tt
up_lower low less (t ∷ ts) h a = (omega (arith, h, a.0), a.1)

up_rises : (low : ℕ) (tickets : List ℕ) → AreUp low tickets → AreRisingTickets tickets
up_rises low [] a = tt
up_rises low (ticket ∷ []) a = tt
up_rises low (ticket ∷ (next ∷ tickets)) a = (omega (arith, a.1.0), up_rises (ticket + 1) (next ∷ tickets) a.1)

from_up : (kind from : ℕ) (puts : List LongPut) (more : List ℕ) → AreFrom kind from puts → AreUp (from + length puts) more → AreUp from (tickets_shown puts ++ more)
from_up kind from [] more a u = up_lower (from + 0) from more (omega arith) u
from_up kind from (put ∷ puts) more a u =
    subst (λ z. AreUp from ((ticket_shown z ++ tickets_shown puts) ++ more)) (sym a.0)
    (omega arith, from_up kind (from + 1) puts more a.2 (up_lower (from + suc (length puts)) (from + 1 + length puts) more (omega arith) u))

shown_then : (xs ys : List LongPut) → tickets_shown (xs ++ ys) ≡ tickets_shown xs ++ tickets_shown ys
shown_then [] ys = refl
shown_then (x ∷ xs) ys = ap (λ z. ticket_shown x.ticket ++ z) (shown_then xs ys) ∙ sym (append_assoc (ticket_shown x.ticket) (tickets_shown xs) (tickets_shown ys))

session_up : (kind from session : ℕ) (ps : List Placed) → AreFrom kind from (long_puts kind ps) → AreUp from (tickets_shown (long_puts kind (by_session session ps)))
session_up kind from session [] a = tt
session_up kind from session (p ∷ ps) a =
    at (p.session == session) (session_up kind (from + length (puts_at kind p)) session ps (from_back kind from (puts_at kind p) (long_puts kind ps) a)) where
      at : (b : Bool) → AreUp (from + length (puts_at kind p)) (tickets_shown (long_puts kind (by_session session ps)))
          → AreUp from (tickets_shown (long_puts kind (cond b (p ∷ []) [] ++ by_session session ps)))
      at true rest =
          subst (AreUp from) (sym (shown_then (puts_at kind p) (long_puts kind (by_session session ps))))
          (from_up kind from (puts_at kind p) _ (from_front kind from (puts_at kind p) (long_puts kind ps) a) rest)
      at false rest = up_lower (from + length (puts_at kind p)) from _ (omega arith) rest

-- the tickets of a phase
pub ticketed : (low : ℕ) (all : List Placed) → IsPlain all → ArePlacesOwn all → AreLater low all → (phase kind : ℕ) → AreTickets all phase kind
ticketed low all plain own later phase kind =
    let s : AreSplit kind 0 (before_phase phase all) (in_phase phase all) (up_to_phase phase all) = split phase kind 0 low all later (all_next kind [] all plain own) in
    let n : ℕ = length (long_puts kind (before_phase phase all)) in
    let puts : List LongPut = long_puts kind (in_phase phase all) in
    let from : AreFrom kind n puts = subst (λ z. AreFrom kind z puts) (omega arith) s.then_ in
    let shown = shown_are kind n puts from in
    record {
      placed = λ row. of_row kind row n puts from;
      own = each_own kind n puts from;
      once = λ ticket. subst (λ z. times (λ other. other == ticket) z ≤ 1) (sym shown) (counting_once ticket n (length puts));
      drawn = λ ticket m. among ticket n (length puts) _ (among_counting ticket n (length puts) (subst (IsAmong ticket) shown m)) s.sum;
      rising = λ session. up_rises n _ (session_up kind n session (in_phase phase all) from);
    } where
      among : (ticket n more last : ℕ) → (n ≤ ticket) × (ticket < n + more) → last ≡ n + more → (n ≤ ticket) × (ticket < last)
      among ticket n more last m e = (m.0, omega (arith, m.1, e))

-- along a place the tickets rise with the versions
last_stays : (row : ℕ) (before : List Change) (cs : List Change) → AreNext before cs → last_of row before ≤ last_of row (cs ++ before)
last_stays row before [] n = omega arith
last_stays row before (c ∷ cs) n = at (c.row == row) refl (last_stays row before cs n.1) where
  at : (b : Bool) → (c.row == row) ≡ b → last_of row before ≤ last_of row (cs ++ before) → last_of row before ≤ cond b c.version (last_of row (cs ++ before))
  at true e rest =
      let same : last_of c.row before ≡ last_of row before = ap (λ z. last_of z before) (eqb-true c.row row e) in
      omega (arith, n.0, same)
  at false e rest = rest

drawn_stays : (kind : ℕ) (xs before : List ℕ) → drawn_of kind before ≤ drawn_of kind (xs ++ before)
drawn_stays kind [] before = omega arith
drawn_stays kind (x ∷ xs) before = let e : drawn_of kind before ≤ drawn_of kind (xs ++ before) = drawn_stays kind xs before in omega (arith, e)

-- what a later ticket has above all that stood before
record IsAbove (earlier : List Placed) (one : Ticketed) : Type 0 where
  version : last_of one.row (each_of row_change earlier) < one.version
  ticket : drawn_of (kind_of_row one.row) (each_of tickets_at earlier) ≤ one.ticket

above_back : (earlier : List Placed) (p : Placed) (one : Ticketed) → AgreesWith earlier p → IsAbove (p ∷ earlier) one → IsAbove earlier one
above_back earlier p one a x = record {
  version = omega (arith, x.version, last_stays one.row (each_of row_change earlier) (row_change p.entry) a.rows);
  ticket = omega (arith, x.ticket, drawn_stays (kind_of_row one.row) (tickets_at p.entry) (each_of tickets_at earlier));
}

-- the put of an entry, as it stands among the tickets
own_above : (earlier : List Placed) (entry : Entry) (one : Ticketed) → AreNext (each_of row_change earlier) (row_change entry) → Agrees earlier entry → IsAmong one (ticketed_at entry) → IsAbove earlier one
own_above earlier (says.Long row version ticket) one n a (inl e) =
    subst (IsAbove earlier) e (record { version = omega (arith, n.0); ticket = omega (arith, a) })
own_above earlier (says.Long row version ticket) one n a (inr m) = absurd m
own_above earlier _ one n a m = absurd m

all_above : (earlier ps : List Placed) (one : Ticketed) → AgreeBehind earlier ps → IsAmong one (each_of ticketed_at ps) → IsAbove earlier one
all_above earlier [] one a m = absurd m
all_above earlier (p ∷ ps) one a m = by_place (among_either one (ticketed_at p.entry) (each_of ticketed_at ps) m) (λ there. all_above (p ∷ earlier) ps one a.1 there) where
  by_place : IsAmong one (ticketed_at p.entry) ⊎ IsAmong one (each_of ticketed_at ps) → (IsAmong one (each_of ticketed_at ps) → IsAbove (p ∷ earlier) one) → IsAbove earlier one
  by_place (inl here) later = own_above earlier p.entry one a.0.rows a.0.others here
  by_place (inr there) later = above_back earlier p one a.0 (later there)

-- an entry's put is the last one of its row behind it, and its ticket is drawn
record IsLast (earlier : List Placed) (entry : Entry) (one : Ticketed) : Type 0 where
  version : last_of one.row (row_change entry ++ each_of row_change earlier) ≡ one.version
  ticket : one.ticket < drawn_of (kind_of_row one.row) (tickets_at entry ++ each_of tickets_at earlier)

own_last : (earlier : List Placed) (entry : Entry) (one : Ticketed) → Agrees earlier entry → IsAmong one (ticketed_at entry) → IsLast earlier entry one
own_last earlier (says.Long row version ticket) one a (inl e) =
    let here : ◌≡◌ {A = ℕ} (cond (row == row) version (last_of row (each_of row_change earlier))) version = ap (λ b. cond b version (last_of row (each_of row_change earlier))) (eq-eqb row row refl) in
    let drawn : ◌≡◌ {A = ℕ} (cond (kind_of_row row == kind_of_row row) 1 0) 1 = ap (λ b. cond b 1 0) (eq-eqb (kind_of_row row) (kind_of_row row) refl) in
    subst (IsLast earlier (says.Long row version ticket)) e (record { version = here; ticket = omega (arith, a, drawn) })
own_last earlier (says.Long row version ticket) one a (inr m) = absurd m
own_last earlier _ one a m = absurd m

rises : (earlier ps : List Placed) → AgreeBehind earlier ps → (first next : Ticketed) → IsAmong first (each_of ticketed_at ps) → IsAmong next (each_of ticketed_at ps) → first.row ≡ next.row
    → first.version < next.version → first.ticket < next.ticket
rises earlier [] a first next m n same less = absurd m
rises earlier (p ∷ ps) a first next m n same less =
    by_place (among_either first (ticketed_at p.entry) (each_of ticketed_at ps) m) (among_either next (ticketed_at p.entry) (each_of ticketed_at ps) n)
    (λ f g. rises (p ∷ earlier) ps a.1 first next f g same less) where
      by_place : IsAmong first (ticketed_at p.entry) ⊎ IsAmong first (each_of ticketed_at ps) → IsAmong next (ticketed_at p.entry) ⊎ IsAmong next (each_of ticketed_at ps)
          → (IsAmong first (each_of ticketed_at ps) → IsAmong next (each_of ticketed_at ps) → first.ticket < next.ticket) → first.ticket < next.ticket
      by_place (inl f) (inl g) later =
          let x = own_last earlier p.entry first a.0.others f in
          let y = own_last earlier p.entry next a.0.others g in
          let moved : last_of first.row (row_change p.entry ++ each_of row_change earlier) ≡ last_of next.row (row_change p.entry ++ each_of row_change earlier) =
          ap (λ z. last_of z (row_change p.entry ++ each_of row_change earlier)) same in
          absurd (omega (arith, less, x.version, y.version, moved))
      by_place (inl f) (inr g) later =
          let x = own_last earlier p.entry first a.0.others f in
          let y = all_above (p ∷ earlier) ps next a.1 g in
          let moved : drawn_of (kind_of_row first.row) (tickets_at p.entry ++ each_of tickets_at earlier) ≡ drawn_of (kind_of_row next.row) (tickets_at p.entry ++ each_of tickets_at earlier) =
          ap (λ z. drawn_of (kind_of_row z) (tickets_at p.entry ++ each_of tickets_at earlier)) same in
          omega (arith, x.ticket, y.ticket, moved)
      by_place (inr f) (inl g) later =
          let x = all_above (p ∷ earlier) ps first a.1 f in
          let y = own_last earlier p.entry next a.0.others g in
          let moved : last_of first.row (row_change p.entry ++ each_of row_change earlier) ≡ last_of next.row (row_change p.entry ++ each_of row_change earlier) =
          ap (λ z. last_of z (row_change p.entry ++ each_of row_change earlier)) same in
          absurd (omega (arith, less, x.version, y.version, moved))
      by_place (inr f) (inr g) later = later f g

pub risen : (all : List Placed) → IsPlain all → LongRises all
risen all plain = λ first next m n same less none. rises [] all plain first next m n same less
