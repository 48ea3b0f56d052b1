-- What a session's entries so far tell, kept from entry to entry: its last take stands, and what it brings has ended.
use Rattle.std.proofs.Common.{◌≡◌, refl, ℕ, ◌+◌, ◌≤◌, ◌==◌, Bool, true, false, cond, List, [], ◌∷◌, ◌++◌, Option, Some, None, sym, ap, subst, ◌∙◌, ◌⊎◌, inl, inr, arith}
use Rattle.std.proofs.lemmas.Bool.{eqb-true}
use Rattle.pfs_model.proofs.EachLists.{each_join}
use Rattle.pfs_event.specs.declared.entry.Entry.{Entry}
use Rattle.pfs_event.specs.declared.entry.Entry.TheVariants as says
use Rattle.pfs_model.specs.Chains.{Each}
use Rattle.pfs_model.specs.Contexts.{Context, Waiting, fresh, subject_of, noted, turned, held_for, held_else, own_event, own_wait, brought, first_of}
use Rattle.pfs_model.specs.EntryPlaces.{Placed}
use Rattle.pfs_model.specs.declared.lines.Opened.{Opened}
use Rattle.pfs_model.proofs.ActionGuards.{begins}
use Rattle.pfs_law_conservation.specs.RunEvents.{event_number, Ended, number_of, ended_at, ended_first, all_ended, of_number}
use Rattle.pfs_law_conservation.proofs.EntryWalk.{Comes, Follow, then_told}
use Rattle.pfs_law_conservation.proofs.ActionHeads.{IsFresh}
use Rattle.pfs_law_conservation.proofs.EventNumbers.{is_number, times_ended}
use Rattle.pfs_law_conservation.proofs.RowLines.{bit_yes}

-- what each entry of a session keeps holds before each of them
module _ (session : ℕ) (Holds : Context → Type 0) (turns : (c : Context) → Holds c → Holds (turned c)) where
  pub walk_told : (c : Context) (ps : List Placed) → Follow session c ps → Holds c
      → Each (λ (p : Placed). (p.session == session) ≡ true → Holds p.context → Holds (noted (subject_of p.line) p.context p.entry)) ps
      → Each (λ (p : Placed). (p.session == session) ≡ true → Holds p.context) ps
  walk_told c [] f h s = tt
  walk_told c (p ∷ ps) f h s = (here, at (p.session == session) refl (λ k. walk_told (then_told session c p) ps f.1 k s.1)) where
    comes : (d : Context) → Comes c d → Holds d
    comes d (inl e) = subst Holds (sym e) h
    comes d (inr e) = subst Holds (sym e) (turns c h)

    here : (p.session == session) ≡ true → Holds p.context
    here q = comes p.context (f.0 q)

    at : (b : Bool) → (p.session == session) ≡ b → (Holds (cond b (noted (subject_of p.line) p.context p.entry) c) → Each (λ (p : Placed). (p.session == session) ≡ true → Holds p.context) ps)
        → Each (λ (p : Placed). (p.session == session) ≡ true → Holds p.context) ps
    at true q go = go (s.0 q (here q))
    at false q go = go h

-- what holds of each session's entries holds of all
pub each_session : (P : Placed → Type 0) (ps : List Placed) → ((session : ℕ) → Each (λ (p : Placed). (p.session == session) ≡ true → P p) ps) → Each P ps
each_session P [] h = tt
each_session P (p ∷ ps) h = ((h p.session).0 (eq_self p.session), each_session P ps (λ session. (h session).1)) where
  eq_self : (n : ℕ) → (n == n) ≡ true
  eq_self n = grind arith

-- an action's take stands among these
abbrev pub IsTaken : List Placed → ℕ → ℕ → ℕ → Type 0
IsTaken [] action row version = ⊥
IsTaken (p ∷ ps) action row version = ((p.context.action ≡ action) × (p.entry ≡ says.Take row version)) ⊎ IsTaken ps action row version

abbrev pub HasSource : List Placed → Context → Type 0
HasSource all c = (row : ℕ) → c.source ≡ Some row → IsTaken all c.action row c.source_version

abbrev Within : List Placed → List Placed → Type 0
Within all ps = (action row version : ℕ) → IsTaken ps action row version → IsTaken all action row version

source_step : (all : List Placed) (p : Placed) (ps : List Placed) → Within all (p ∷ ps) → IsFresh p → HasSource all p.context → HasSource all (noted (subject_of p.line) p.context p.entry)
source_step all p ps w f h = by p.entry refl f where
  same : (x y : ℕ) → Some x ≡ Some y → x ≡ y
  same x y e = cc

  none : (row : ℕ) → p.context.source ≡ None → p.context.source ≡ Some row → ⊥
  none row n e = let q : None ≡ Some row = sym n ∙ e in absurd (cc)

  by : (e : Entry) → p.entry ≡ e → (begins e ≡ true → p.context.source ≡ None) → HasSource all (noted (subject_of p.line) p.context e)
  by (says.Connect action thread account user host) q f row e = absurd (none row (f refl) e)
  by (says.Act action) q f row e = absurd (none row (f refl) e)
  by (says.Take at version) q f row e = subst (λ r. IsTaken all p.context.action r version) (same at row e) (w p.context.action at version (inl (refl, q)))
  by (says.Start event verdict consumers thread class table) q f row e = h row e
  by (says.End event last consumers thread) q f row e = h row e
  by (says.Held at first second) q f row e = h row e
  by (says.Add at version) q f row e = h row e
  by says.Settle q f row e = h row e
  by _ q f row e = h row e

source_steps : (all : List Placed) (session : ℕ) (ps : List Placed) → Within all ps → Each IsFresh ps
    → Each (λ (p : Placed). (p.session == session) ≡ true → HasSource all p.context → HasSource all (noted (subject_of p.line) p.context p.entry)) ps
source_steps all session [] w f = tt
source_steps all session (p ∷ ps) w f = ((λ q h. source_step all p ps w f.0 h), source_steps all session ps (λ action row version t. w action row version (inr t)) f.1)

-- so the last take of an action in hand stands
pub all_sourced : (ps : List Placed) → ((session : ℕ) → Follow session fresh ps) → Each IsFresh ps → Each (λ (p : Placed). HasSource ps p.context) ps
all_sourced ps follow f =
    each_session (λ (p : Placed). HasSource ps p.context) ps
    (λ session. walk_told session (HasSource ps) (λ c h row e. absurd (let q : None ≡ Some row = e in cc)) fresh ps (follow session) (λ row e. absurd (let q : None ≡ Some row = e in cc))
    (source_steps ps session ps (λ action row version t. t) f))

-- an event of a session has ended
abbrev pub IsEnded : ℕ → List Ended → Opened → Type 0
IsEnded session [] event = ⊥
IsEnded session (one ∷ others) event = ((one.session ≡ session) × (one.event ≡ event)) ⊎ IsEnded session others event

pub record HasEnded (session : ℕ) (all : List Ended) (c : Context) : Type 0 where
  pub ended : Each (IsEnded session all) (own_event c.ended)
  pub waiting : Each (λ (w : Waiting). IsEnded session all w.event) c.waiting

abbrev IsAllOf : ℕ → List Ended → List Ended → Type 0
IsAllOf session all ends = (event : Opened) → IsEnded session ends event → IsEnded session all event

ended_front : (session : ℕ) (xs ys : List Ended) (event : Opened) → IsEnded session xs event → IsEnded session (xs ++ ys) event
ended_front session (x ∷ xs) ys event (inl h) = inl h
ended_front session (x ∷ xs) ys event (inr h) = inr (ended_front session xs ys event h)
ended_front session [] ys event h = absurd h

ended_back : (session : ℕ) (xs ys : List Ended) (event : Opened) → IsEnded session ys event → IsEnded session (xs ++ ys) event
ended_back session [] ys event h = h
ended_back session (x ∷ xs) ys event h = inr (ended_back session xs ys event h)

wait_ended : (session : ℕ) (all : List Ended) (row : ℕ) (o : Option Opened) → Each (IsEnded session all) (own_event o) → Each (λ (w : Waiting). IsEnded session all w.event) (own_wait row o)
wait_ended session all row None h = tt
wait_ended session all row (Some event) h = (h.0, tt)

else_ended : (session : ℕ) (all : List Ended) (row : ℕ) (ws : List Waiting) → Each (λ (w : Waiting). IsEnded session all w.event) ws → Each (λ (w : Waiting). IsEnded session all w.event) (held_else row ws)
else_ended session all row [] h = tt
else_ended session all row (w ∷ ws) h = at (w.row == row) (else_ended session all row ws h.1) where
  at : (b : Bool) → Each (λ (w : Waiting). IsEnded session all w.event) (held_else row ws) → Each (λ (w : Waiting). IsEnded session all w.event) (cond b [] (w ∷ []) ++ held_else row ws)
  at true k = k
  at false k = (h.0, k)

for_ended : (session : ℕ) (all : List Ended) (row : ℕ) (ws : List Waiting) → Each (λ (w : Waiting). IsEnded session all w.event) ws → Each (IsEnded session all) (held_for row ws)
for_ended session all row [] h = tt
for_ended session all row (w ∷ ws) h = at (w.row == row) (for_ended session all row ws h.1) where
  at : (b : Bool) → Each (IsEnded session all) (held_for row ws) → Each (IsEnded session all) (cond b (w.event ∷ []) [] ++ held_for row ws)
  at true k = (h.0, k)
  at false k = k

pub brought_ended : (session : ℕ) (all : List Ended) (c : Context) (row : ℕ) → HasEnded session all c → Each (IsEnded session all) (brought c row)
brought_ended session all c row h = each_join (IsEnded session all) (own_event c.ended) (held_for row c.waiting) h.ended (for_ended session all row c.waiting h.waiting)

ended_step : (session : ℕ) (all : List Ended) (p : Placed) → (p.session == session) ≡ true → ((event : Opened) → IsEnded session (ended_at p p.entry) event → IsEnded session all event)
    → HasEnded session all p.context → HasEnded session all (noted (subject_of p.line) p.context p.entry)
ended_step session all p own among h = by p.entry among where
  Among : List Ended → Type 0
  Among ends = (event : Opened) → IsEnded session ends event → IsEnded session all event

  first : (opened : List Opened) → Among (ended_first p opened) → Each (IsEnded session all) (own_event (first_of opened))
  first [] among = tt
  first (event ∷ events) among = (among event (inl (eqb-true p.session session own, refl)), tt)

  by : (e : Entry) → Among (ended_at p e) → HasEnded session all (noted (subject_of p.line) p.context e)
  by (says.Start event verdict consumers thread class table) among = record { ended = tt; waiting = h.waiting }
  by (says.End event last consumers thread) among = record { ended = first p.context.opened among; waiting = h.waiting }
  by (says.Held row first second) among = record {
    ended = h.ended;
    waiting = each_join (λ (w : Waiting). IsEnded session all w.event) (own_wait row p.context.ended) p.context.waiting (wait_ended session all row p.context.ended h.ended) h.waiting;
  }
  by (says.Add row version) among = record { ended = h.ended; waiting = else_ended session all row p.context.waiting h.waiting }
  by says.Settle among = record { ended = tt; waiting = h.waiting }
  by (says.Connect action thread account user host) among = record { ended = h.ended; waiting = h.waiting }
  by (says.Act action) among = record { ended = h.ended; waiting = h.waiting }
  by (says.Take row version) among = record { ended = h.ended; waiting = h.waiting }
  by _ among = h

ended_steps : (session : ℕ) (all : List Ended) (ps : List Placed) → IsAllOf session all (all_ended ps)
    → Each (λ (p : Placed). (p.session == session) ≡ true → HasEnded session all p.context → HasEnded session all (noted (subject_of p.line) p.context p.entry)) ps
ended_steps session all [] among = tt
ended_steps session all (p ∷ ps) among = (
  (λ own h. ended_step session all p own (λ event e. among event (ended_front session (ended_at p p.entry) (all_ended ps) event e)) h),
  ended_steps session all ps (λ event e. among event (ended_back session (ended_at p p.entry) (all_ended ps) event e)),
)

-- so what an entry brings has ended
pub all_brought : (ps : List Placed) → ((session : ℕ) → Follow session fresh ps) → Each (λ (p : Placed). (row : ℕ) → Each (IsEnded p.session (all_ended ps)) (brought p.context row)) ps
all_brought ps follow =
    each_session (λ (p : Placed). (row : ℕ) → Each (IsEnded p.session (all_ended ps)) (brought p.context row)) ps (λ session. turn session ps (told session)) where
      told : (session : ℕ) → Each (λ (p : Placed). (p.session == session) ≡ true → HasEnded session (all_ended ps) p.context) ps
      told session = walk_told session (HasEnded session (all_ended ps)) (λ c h. record { ended = tt; waiting = h.waiting }) fresh ps (follow session) (record { ended = tt; waiting = tt })
          (ended_steps session (all_ended ps) ps (λ event e. e))

      turn : (session : ℕ) (qs : List Placed) → Each (λ (p : Placed). (p.session == session) ≡ true → HasEnded session (all_ended ps) p.context) qs
          → Each (λ (p : Placed). (p.session == session) ≡ true → (row : ℕ) → Each (IsEnded p.session (all_ended ps)) (brought p.context row)) qs
      turn session [] h = tt
      turn session (p ∷ qs) h = (
        (λ own row. subst (λ s. Each (IsEnded s (all_ended ps)) (brought p.context row)) (sym (eqb-true p.session session own)) (brought_ended session (all_ended ps) p.context row (h.0 own))),
        turn session qs h.1,
      )

-- an event that has ended is found by its number, where none ends twice
pub ended_found : (session : ℕ) (event : Opened) (ends : List Ended) → times_ended (event_number session event.index) ends ≤ 1 → IsEnded session ends event
    → (one : Ended) × (of_number (event_number session event.index) ends ≡ Some one) × (one.session ≡ session) × (one.event ≡ event)
ended_found session event [] few e = absurd e
ended_found session event (one ∷ others) few e = at (is_number number one) refl few e (ended_found session event others) where
  number : ℕ
  number = event_number session event.index

  some : (others : List Ended) → IsEnded session others event → 1 ≤ times_ended number others
  some [] e = absurd e
  some (one ∷ others) (inl e) =
      let y : cond {A = ℕ} (is_number number one) 1 0 ≡ 1 = bit_yes (is_number number one) (own one e) in
      omega (arith, y) where
        own : (one : Ended) → (one.session ≡ session) × (one.event ≡ event) → (number_of one == number) ≡ true
        own one e = ap (λ s. event_number s one.event.index == number) e.0 ∙ (ap (λ (x : Opened). event_number session x.index == number) e.1 ∙ eq_self number) where
          eq_self : (n : ℕ) → (n == n) ≡ true
          eq_self n = grind arith
  some (one ∷ others) (inr e) = let l : 1 ≤ times_ended number others = some others e in omega (arith, l)

  Goal : Option Ended → Type 0
  Goal o = (one : Ended) × (o ≡ Some one) × (one.session ≡ session) × (one.event ≡ event)

  at : (b : Bool) → is_number number one ≡ b → cond {A = ℕ} b 1 0 + times_ended number others ≤ 1 → ((one.session ≡ session) × (one.event ≡ event)) ⊎ IsEnded session others event
      → (times_ended number others ≤ 1 → IsEnded session others event → Goal (of_number number others)) → Goal (cond b (Some one) (of_number number others))
  at true q few (inl e) go = (one, refl, e.0, e.1)
  at true q few (inr e) go = let l : 1 ≤ times_ended number others = some others e in absurd (omega (arith, l, few))
  at false q few (inl e) go = absurd (let y : (number_of one == number) ≡ true = own e in let n : true ≡ false = sym y ∙ q in cc) where
    own : (one.session ≡ session) × (one.event ≡ event) → (number_of one == number) ≡ true
    own e = ap (λ s. event_number s one.event.index == number) e.0 ∙ (ap (λ (x : Opened). event_number session x.index == number) e.1 ∙ eq_self number) where
      eq_self : (n : ℕ) → (n == n) ≡ true
      eq_self n = grind arith
  at false q few (inr e) go = go (omega (arith, few)) e
