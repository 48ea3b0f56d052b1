-- No two events of a run have one number, and each ends once.
use Rattle.std.proofs.Common.{◌≡◌, refl, ℕ, zero, suc, ◌+◌, ◌*◌, ◌<◌, ◌≤◌, ◌==◌, ◌&&◌, Bool, true, false, cond, nat_le, List, [], ◌∷◌, ◌++◌, Option, Some, None, sym, ap, subst, ◌∙◌, ◌⊎◌, inl, inr, arith}
use Rattle.std.specs.Prelude.{drop}
use Rattle.std.proofs.lemmas.Bool.{eqb-true}
use Rattle.pfs_lemmas.proofs.Numbers.{eq_self}
use Rattle.pfs_event.specs.declared.entry.Entry.{Entry}
use Rattle.pfs_event.specs.declared.entry.Entry.TheVariants as says
use Rattle.pfs_model.specs.Chains.{times}
use Rattle.pfs_model.specs.Contexts.{Context, subject_of, with_opened, noted}
use Rattle.pfs_model.specs.EntryPlaces.{Placed}
use Rattle.pfs_model.specs.declared.lines.Opened.{Opened}
use Rattle.pfs_model.specs.declared.lines.Subject.{Subject}
use Rattle.pfs_law_conservation.specs.RunEvents.{event_number, Ended, number_of, ended_at, ended_first, all_ended}
use Rattle.pfs_law_conservation.proofs.EntryWalk.{Comes, Follow, then_told}

pub number_parts : (s i t j : ℕ) → event_number s i ≡ event_number t j → (s ≡ t) × (i ≡ j)
number_parts zero i zero j e = (refl, omega (arith, e))
number_parts zero i (suc t) j e = absurd (odd (event_number t j) i e) where
  odd : (x i : ℕ) → 2 * i + 1 ≡ 2 * x → ⊥
  odd x i e = omega (arith, e)
number_parts (suc s) i zero j e = absurd (odd (event_number s i) j e) where
  odd : (x j : ℕ) → 2 * x ≡ 2 * j + 1 → ⊥
  odd x j e = omega (arith, e)
number_parts (suc s) i (suc t) j e = on (number_parts s i t j (half (event_number s i) (event_number t j) e)) where
  half : (x y : ℕ) → 2 * x ≡ 2 * y → x ≡ y
  half x y e = omega (arith, e)

  on : (s ≡ t) × (i ≡ j) → (suc s ≡ suc t) × (i ≡ j)
  on r = (ap (λ n. suc n) r.0, r.1)

-- so a number tells the session and the position
pub number_is : (t j s i : ℕ) → (event_number t j == event_number s i) ≡ ((t == s) && (j == i))
number_is t j s i = at (event_number t j == event_number s i) refl (t == s) refl (j == i) refl where
  at : (a : Bool) → (event_number t j == event_number s i) ≡ a → (b : Bool) → (t == s) ≡ b → (c : Bool) → (j == i) ≡ c → a ≡ b && c
  at true q true r true z = refl
  at true q false r c z = let e : t ≡ s = (number_parts t j s i (eqb-true (event_number t j) (event_number s i) q)).0 in let f : (t == s) ≡ true = subst (λ n. (t == n) ≡ true) e (eq_self t) in absurd (cc)
  at true q true r false z = let e : j ≡ i = (number_parts t j s i (eqb-true (event_number t j) (event_number s i) q)).1 in let f : (j == i) ≡ true = subst (λ n. (j == n) ≡ true) e (eq_self j) in absurd (cc)
  at false q true r true z =
      let e : event_number t j ≡ event_number s i = ap (λ n. event_number n j) (eqb-true t s r) ∙ ap (λ n. event_number s n) (eqb-true j i z) in
      let f : (event_number t j == event_number s i) ≡ true = subst (λ n. (event_number t j == n) ≡ true) e (eq_self (event_number t j)) in
      absurd (cc)
  at false q true r false z = refl
  at false q false r c z = refl

-- how many of these events have a position
abbrev pub opened_at : ℕ → List Opened → ℕ
opened_at index events = times (λ (event : Opened). event.index == index) events

abbrev pub is_number : ℕ → Ended → Bool
is_number number one = number_of one == number

-- how often an event of this number ends
abbrev pub times_ended : ℕ → List Ended → ℕ
times_ended number ends = times (is_number number) ends

-- an event that is open, or has not been started, ends once at most
abbrev pub IsOnce : ℕ → ℕ → ℕ → ℕ → Type 0
IsOnce i begun opened ended = (i < begun → ended ≤ opened) × (ended ≤ 1)

pub which : (a b : ℕ) → (a ≤ b) ⊎ (b < a)
which a b = at (nat_le a b) refl where
  low : (a b : ℕ) → nat_le a b ≡ true → a ≤ b
  low a b q = grind arith

  high : (a b : ℕ) → nat_le a b ≡ false → b < a
  high a b q = grind arith

  at : (x : Bool) → nat_le a b ≡ x → (a ≤ b) ⊎ (b < a)
  at true q = inl (low a b q)
  at false q = inr (high a b q)

step_ended : (i b o p x t : ℕ) → o ≡ x + p → o ≤ 1 → (b ≤ i → o ≡ 0) → (p ≤ 1 → (b ≤ i → p ≡ 0) → IsOnce i b p t) → IsOnce i b o (x + t)
step_ended i b o p x t e few out go = on (which b i) (go (omega (arith, e, few)) (λ l. (let z : o ≡ 0 = out l in omega (arith, e, z)))) where
  on : (b ≤ i) ⊎ (i < b) → IsOnce i b p t → IsOnce i b o (x + t)
  on (inl l) r = let z : o ≡ 0 = out l in let m : t ≤ 1 = r.1 in ((λ k. absurd (omega (arith, k, l))), omega (arith, e, z, m))
  on (inr l) r = let m : t ≤ p = r.0 l in ((λ k. omega (arith, e, m)), omega (arith, e, m, few))

step_begun : (i b o p t : ℕ) → ((p ≡ o) ⊎ ((b ≡ i) × (p ≡ o + 1))) → o ≤ 1 → (b ≤ i → o ≡ 0) → (p ≤ 1 → (b + 1 ≤ i → p ≡ 0) → IsOnce i (b + 1) p t) → IsOnce i b o t
step_begun i b o p t (inl e) few out go =
    let r : IsOnce i (b + 1) p t = go (omega (arith, e, few)) (λ l. (let z : o ≡ 0 = out (omega (arith, l)) in omega (arith, e, z))) in
    ((λ l. (let m : t ≤ p = r.0 (omega (arith, l)) in omega (arith, m, e))), r.1)
step_begun i b o p t (inr (e, f)) few out go =
    let z : o ≡ 0 = out (omega (arith, e)) in
    let r : IsOnce i (b + 1) p t = go (omega (arith, f, z)) (λ l. absurd (omega (arith, l, e))) in
    ((λ l. absurd (omega (arith, l, e))), r.1)

module _ (session index : ℕ) where
  abbrev Claim : Context → List Placed → Type 0
  Claim c ps = opened_at index c.opened ≤ 1 → (c.begun ≤ index → opened_at index c.opened ≡ 0) → IsOnce index c.begun (opened_at index c.opened) (times_ended (event_number session index) (all_ended ps))

  -- what a start opens
  started : (begun : ℕ) (o : Option Subject) (make : Subject → Opened) (opened : List Opened) → ((s : Subject) → (make s).index ≡ begun)
      → (opened_at index (with_opened o make opened) ≡ opened_at index opened) ⊎ ((begun ≡ index) × (opened_at index (with_opened o make opened) ≡ opened_at index opened + 1))
  started begun None make opened own = inl refl
  started begun (Some s) make opened own = at ((make s).index == index) refl where
    at : (b : Bool) → ((make s).index == index) ≡ b → (cond {A = ℕ} b 1 0 + opened_at index opened ≡ opened_at index opened) ⊎ ((begun ≡ index) × (cond {A = ℕ} b 1 0 + opened_at index opened ≡ opened_at index opened + 1))
    at true q = inr (sym (own s) ∙ eqb-true (make s).index index q, omega arith)
    at false q = inl (omega arith)

  -- what an end closes
  finished : (p : Placed) → (p.session == session) ≡ true → (events : List Opened) (ps : List Placed) (b : ℕ)
      → (opened_at index (drop 1 events) ≤ 1 → (b ≤ index → opened_at index (drop 1 events) ≡ 0) → IsOnce index b (opened_at index (drop 1 events)) (times_ended (event_number session index) (all_ended ps)))
      → opened_at index events ≤ 1 → (b ≤ index → opened_at index events ≡ 0) → IsOnce index b (opened_at index events) (times_ended (event_number session index) (ended_first p events ++ all_ended ps))
  finished p own [] ps b go few out = go few out
  finished p own (event ∷ events) ps b go few out =
      step_ended index b (cond {A = ℕ} (event.index == index) 1 0 + opened_at index events) (opened_at index events) (cond {A = ℕ} (event_number p.session event.index == event_number session index) 1 0) (times_ended (event_number session index) (all_ended ps))
      (ap (λ z. cond {A = ℕ} z 1 0 + opened_at index events) (sym (number_is p.session event.index session index ∙ ap (λ z. z && (event.index == index)) own))) few out go

  silent : (p : Placed) → (p.session == session) ≡ false → (events : List Opened) (ps : List Placed) → times_ended (event_number session index) (ended_first p events ++ all_ended ps) ≡ times_ended (event_number session index) (all_ended ps)
  silent p other [] ps = refl
  silent p other (event ∷ events) ps = ap (λ z. cond {A = ℕ} z 1 0 + times_ended (event_number session index) (all_ended ps)) (number_is p.session event.index session index ∙ ap (λ z. z && (event.index == index)) other) ∙ zero_plus _ where
    zero_plus : (n : ℕ) → 0 + n ≡ n
    zero_plus n = omega arith

  pub ends_once : (c : Context) (ps : List Placed) → Follow session c ps → Claim c ps
  ends_once c [] f few out = ((λ l. omega arith), omega arith)
  ends_once c (p ∷ ps) f few out = at (p.session == session) refl f.0 (ends_once (then_told session c p) ps f.1) where
    next : Context
    next = noted (subject_of p.line) p.context p.entry

    by : (own : (p.session == session) ≡ true) (e : Entry) → Claim (noted (subject_of p.line) p.context e) ps → opened_at index p.context.opened ≤ 1 → (p.context.begun ≤ index → opened_at index p.context.opened ≡ 0)
        → IsOnce index p.context.begun (opened_at index p.context.opened) (times_ended (event_number session index) (ended_at p e ++ all_ended ps))
    by own (says.Start event verdict consumers thread class table) go few out =
        step_begun index p.context.begun (opened_at index p.context.opened) (opened_at index (noted (subject_of p.line) p.context (says.Start event verdict consumers thread class table)).opened) (times_ended (event_number session index) (all_ended ps))
        (started p.context.begun (subject_of p.line) _ p.context.opened (λ s. refl)) few out go
    by own (says.End event last consumers thread) go few out = finished p own p.context.opened ps p.context.begun go few out
    by own (says.Connect action thread account user host) go few out = go few out
    by own (says.Held row first second) go few out = go few out
    by own (says.Add row version) go few out = go few out
    by own says.Settle go few out = go few out
    by own (says.Act action) go few out = go few out
    by own (says.Take row version) go few out = go few out
    by own _ go few out = go few out

    quiet : (e : Entry) → (p.session == session) ≡ false → times_ended (event_number session index) (ended_at p e ++ all_ended ps) ≡ times_ended (event_number session index) (all_ended ps)
    quiet (says.End event last consumers thread) q = silent p q p.context.opened ps
    quiet _ q = refl

    same_opened : (d : Context) → Comes c d → (d.opened ≡ c.opened) × (d.begun ≡ c.begun)
    same_opened d (inl e) = (ap (λ (z : Context). z.opened) e, ap (λ (z : Context). z.begun) e)
    same_opened d (inr e) = (ap (λ (z : Context). z.opened) e, ap (λ (z : Context). z.begun) e)

    at : (b : Bool) → (p.session == session) ≡ b → ((p.session == session) ≡ true → Comes c p.context) → Claim (cond b (noted (subject_of p.line) p.context p.entry) c) ps
        → IsOnce index c.begun (opened_at index c.opened) (times_ended (event_number session index) (ended_at p p.entry ++ all_ended ps))
    at true q comes go =
        let s : (p.context.opened ≡ c.opened) × (p.context.begun ≡ c.begun) = same_opened p.context (comes q) in
        subst (λ n. IsOnce index n (opened_at index c.opened) (times_ended (event_number session index) (ended_at p p.entry ++ all_ended ps))) s.1
        (subst (λ n. IsOnce index p.context.begun (opened_at index n) (times_ended (event_number session index) (ended_at p p.entry ++ all_ended ps))) s.0
        (by q p.entry go (subst (λ n. opened_at index n ≤ 1) (sym s.0) few) (λ l. ap (opened_at index) s.0 ∙ out (subst (λ n. n ≤ index) s.1 l))))
    at false q comes go = subst (λ n. IsOnce index c.begun (opened_at index c.opened) n) (sym (quiet p.entry q)) (go few out)
