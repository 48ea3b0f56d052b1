-- The entries up to a phase's end are those up to the end of the one before, and then the phase's own.
use Rattle.std.proofs.Common.{ℕ, ◌≡◌, ◌+◌, ◌≤◌, ◌==◌, nat_le, nat_lt, Bool, true, false, cond, List, [], ◌∷◌, ◌++◌, length, Option, Some, None, inl, inr, refl, ap, sym, ◌∙◌, subst, arith, append_assoc}
use Rattle.pfs_event.specs.declared.entry.Entry.{Entry}
use Rattle.pfs_event.specs.declared.entry.Entry.TheVariants as says
use Rattle.pfs_law_conservation.proofs.ChosenLines.{each_chosen, each_map}
use Rattle.pfs_law_conservation.proofs.EntryWalk.{Comes, Follow, then_told, told_to}
use Rattle.pfs_law_conservation.proofs.PhaseEntries.{IsFront, fronts}
use Rattle.pfs_model.proofs.EachLists.{each_join}
use Rattle.pfs_model.specs.Chains.{Each}
use Rattle.pfs_model.specs.Contexts.{Context, noted, subject_of}
use Rattle.pfs_model.specs.EntryPlaces.{Block, IsShaped, Placed, before_phase, chosen, in_phase, places, up_to_phase}
use Rattle.pfs_model.specs.declared.lines.Subject.{Subject}
use Rattle.pfs_law_agreed.proofs.QuietLoads.{is_calm}
use Rattle.pfs_law_agreed.specs.AlignedEvents.{AreAligned, events_in, is_event}

-- ---- entries that pass a test

pub chosen_then : (t : Placed → Bool) (xs ys : List Placed) → chosen t (xs ++ ys) ≡ chosen t xs ++ chosen t ys
chosen_then t [] ys = refl
chosen_then t (x ∷ xs) ys = ap (λ z. cond (t x) (x ∷ []) [] ++ z) (chosen_then t xs ys) ∙ sym (append_assoc (cond (t x) (x ∷ []) []) (chosen t xs) (chosen t ys))

chosen_all : (t : Placed → Bool) (ps : List Placed) → Each (λ (p : Placed). t p ≡ true) ps → chosen t ps ≡ ps
chosen_all t [] h = refl
chosen_all t (p ∷ ps) h = ap (λ b. cond b (p ∷ []) [] ++ chosen t ps) h.0 ∙ ap (λ (z : List Placed). p ∷ z) (chosen_all t ps h.1)

chosen_none : (t : Placed → Bool) (ps : List Placed) → Each (λ (p : Placed). t p ≡ false) ps → chosen t ps ≡ []
chosen_none t [] h = refl
chosen_none t (p ∷ ps) h = ap (λ b. cond b (p ∷ []) [] ++ chosen t ps) h.0 ∙ chosen_none t ps h.1

chosen_same : (t u : Placed → Bool) (ps : List Placed) → Each (λ (p : Placed). t p ≡ u p) ps → chosen t ps ≡ chosen u ps
chosen_same t u [] h = refl
chosen_same t u (p ∷ ps) h = ap (λ b. cond b (p ∷ []) [] ++ chosen t ps) h.0 ∙ ap (λ z. cond (u p) (p ∷ []) [] ++ z) (chosen_same t u ps h.1)

none_chosen : (t : Placed → Bool) (ps : List Placed) → chosen t ps ≡ [] → Each (λ (p : Placed). t p ≡ false) ps
none_chosen t [] e = tt
none_chosen t (p ∷ ps) e = at (t p) refl e (none_chosen t ps) where
  at : (b : Bool) → t p ≡ b → cond b (p ∷ []) [] ++ chosen t ps ≡ [] → (chosen t ps ≡ [] → Each (λ (p : Placed). t p ≡ false) ps) → Each (λ (p : Placed). t p ≡ false) (p ∷ ps)
  at true q e go = absurd (cc)
  at false q e go = (q, go e)

no_more : (xs ys : List Placed) → xs ++ ys ≡ xs → ys ≡ []
no_more xs ys e = at ys (counted xs ys ∙ ap (λ (z : List Placed). length z) e) where
  counted : (xs ys : List Placed) → length xs + length ys ≡ length (xs ++ ys)
  counted [] ys = omega arith
  counted (x ∷ xs) ys = let h : length xs + length ys ≡ length (xs ++ ys) = counted xs ys in omega (arith, h)

  at : (ys : List Placed) → length xs + length ys ≡ length xs → ys ≡ []
  at [] e = refl
  at (y ∷ ys) e = absurd (omega (arith, e))

-- ---- the cut

module _ (n : ℕ) where
  abbrev low : Placed → Bool
  low p = nat_le p.phase n

  abbrev Low : Placed → Type 0
  Low p = nat_le p.phase n ≡ true

  abbrev High : Placed → Type 0
  High p = nat_le p.phase n ≡ false

  up : (a : ℕ) → nat_le a n ≡ true → nat_le a (n + 1) ≡ true
  up a q = grind (arith, q)

  apart : (a : ℕ) → nat_le a n ≡ true → (a == n + 1) ≡ false
  apart a q = grind (arith, q)

  above : (a : ℕ) → nat_le a n ≡ false → nat_le a (n + 1) ≡ (a == n + 1)
  above a q = by (a == n + 1) refl (nat_le a (n + 1)) refl where
    by : (x : Bool) → (a == n + 1) ≡ x → (y : Bool) → nat_le a (n + 1) ≡ y → y ≡ x
    by true e true f = refl
    by false e false f = refl
    by true e false f = absurd (grind (arith, q, e, f))
    by false e true f = absurd (grind (arith, q, e, f))

  cut_is : (front rest : List Placed) → Each Low front → Each High rest → up_to_phase (n + 1) (front ++ rest) ≡ front ++ in_phase (n + 1) (front ++ rest)
  cut_is front rest l h =
      chosen_then (λ place. nat_le place.phase (n + 1)) front rest
      ∙ (ap (λ z. z ++ up_to_phase (n + 1) rest) (chosen_all (λ place. nat_le place.phase (n + 1)) front (each_map Low (λ (p : Placed). nat_le p.phase (n + 1) ≡ true) front (λ p q. up p.phase q) l))
      ∙ ap (λ z. front ++ z) (chosen_same (λ place. nat_le place.phase (n + 1)) (λ place. place.phase == n + 1) rest (each_map High (λ (p : Placed). nat_le p.phase (n + 1) ≡ (p.phase == n + 1)) rest (λ p q. above p.phase q) h)
      ∙ sym (chosen_then (λ place. place.phase == n + 1) front rest
      ∙ ap (λ z. z ++ in_phase (n + 1) rest) (chosen_none (λ place. place.phase == n + 1) front (each_map Low (λ (p : Placed). (p.phase == n + 1) ≡ false) front (λ p q. apart p.phase q) l)))))

  all_low : (ps : List Placed) → Each (λ (p : Placed). Unit {0}) ps
  all_low [] = tt
  all_low (p ∷ ps) = (tt, all_low ps)

  pub up_to_next : (blocks : List Block) → IsShaped blocks → up_to_phase (n + 1) (places blocks) ≡ up_to_phase n (places blocks) ++ in_phase (n + 1) (places blocks)
  up_to_next blocks shaped = by (fronts n blocks shaped) where
    all : List Placed
    all = places blocks

    front : List Placed
    front = up_to_phase n (places blocks)

    lows : Each Low (up_to_phase n (places blocks))
    lows = each_map (λ (p : Placed). (nat_le p.phase n ≡ true) × Unit {0}) Low (up_to_phase n (places blocks)) (λ p h. h.0) (each_chosen (λ (p : Placed). Unit {0}) (λ (p : Placed). nat_le p.phase n) (places blocks) (all_low (places blocks)))

    by : IsFront n [] blocks → up_to_phase (n + 1) (places blocks) ≡ up_to_phase n (places blocks) ++ in_phase (n + 1) (places blocks)
    by f =
        let split : places blocks ≡ up_to_phase n (places blocks) ++ f.rest = f.all ∙ ap (λ z. z ++ f.rest) (sym f.same) in
        let whole : up_to_phase n (places blocks) ++ up_to_phase n f.rest ≡ up_to_phase n (places blocks) =
        sym (ap (up_to_phase n) split ∙ (chosen_then (λ place. nat_le place.phase n) (up_to_phase n (places blocks)) f.rest ∙ ap (λ z. z ++ up_to_phase n f.rest) (chosen_all (λ place. nat_le place.phase n) (up_to_phase n (places blocks)) lows))) in
        let highs : Each High f.rest = none_chosen (λ place. nat_le place.phase n) f.rest (no_more (up_to_phase n (places blocks)) (up_to_phase n f.rest) whole) in
        ap (up_to_phase (n + 1)) split ∙ (cut_is (up_to_phase n (places blocks)) f.rest lows highs ∙ ap (λ z. up_to_phase n (places blocks) ++ in_phase (n + 1) z) (sym split))

-- before a phase stand the entries up to the one before
pub early : (n : ℕ) (ps : List Placed) → before_phase (n + 1) ps ≡ up_to_phase n ps
early n [] = refl
early n (p ∷ ps) = ap (λ b. cond b (p ∷ []) [] ++ before_phase (n + 1) ps) (same p.phase) ∙ ap (λ z. cond (nat_le p.phase n) (p ∷ []) [] ++ z) (early n ps) where
  same : (a : ℕ) → nat_lt a (n + 1) ≡ nat_le a n
  same a = on (nat_lt a (n + 1)) refl (nat_le a n) refl where
    on : (x : Bool) → nat_lt a (n + 1) ≡ x → (y : Bool) → nat_le a n ≡ y → x ≡ y
    on true p true q = refl
    on false p false q = refl
    on true p false q = absurd (grind (arith, p, q))
    on false p true q = absurd (grind (arith, p, q))

-- ---- what holds of the parts

-- start and end lines of the entries that pass
pub events_chosen : (t : Placed → Bool) (ps : List Placed) → events_in (chosen t ps) ≡ chosen t (events_in ps)
events_chosen t [] = refl
events_chosen t (p ∷ ps) = at (t p) refl (is_event p.entry) refl (events_chosen t ps) where
  at : (a : Bool) → t p ≡ a → (b : Bool) → is_event p.entry ≡ b → events_in (chosen t ps) ≡ chosen t (events_in ps) → events_in (cond a (p ∷ []) [] ++ chosen t ps) ≡ chosen t (cond b (p ∷ []) [] ++ events_in ps)
  at true q true r ih = ap (λ b. cond b (p ∷ []) [] ++ events_in (chosen t ps)) r ∙ (ap (λ (z : List Placed). p ∷ z) ih ∙ ap (λ b. cond b (p ∷ []) [] ++ chosen t (events_in ps)) (sym q))
  at true q false r ih = ap (λ b. cond b (p ∷ []) [] ++ events_in (chosen t ps)) r ∙ ih
  at false q true r ih = ih ∙ ap (λ b. cond b (p ∷ []) [] ++ chosen t (events_in ps)) (sym q)
  at false q false r ih = ih

pub aligned_chosen : (t : ℕ → Bool) (ps qs : List Placed) → AreAligned ps qs → AreAligned (chosen (λ p. t p.phase) ps) (chosen (λ p. t p.phase) qs)
aligned_chosen t [] [] a = tt
aligned_chosen t [] (q ∷ qs) a = absurd a
aligned_chosen t (p ∷ ps) [] a = absurd a
aligned_chosen t (p ∷ ps) (q ∷ qs) a = at (t p.phase) refl (t q.phase) refl (aligned_chosen t ps qs a.1) where
  at : (x : Bool) → t p.phase ≡ x → (y : Bool) → t q.phase ≡ y → AreAligned (chosen (λ p. t p.phase) ps) (chosen (λ p. t p.phase) qs)
      → AreAligned (cond x (p ∷ []) [] ++ chosen (λ p. t p.phase) ps) (cond y (q ∷ []) [] ++ chosen (λ p. t p.phase) qs)
  at true e true f ih = (a.0, ih)
  at false e false f ih = ih
  at true e false f ih = absurd (let w : true ≡ false = sym e ∙ (ap t a.0.phase ∙ f) in cc)
  at false e true f ih = absurd (let w : false ≡ true = sym e ∙ (ap t a.0.phase ∙ f) in cc)

pub each_event : (P : Placed → Type 0) (ps : List Placed) → Each P ps → Each (λ (p : Placed). (is_event p.entry ≡ true) × P p) (events_in ps)
each_event P [] h = tt
each_event P (p ∷ ps) h = at (is_event p.entry) refl (each_event P ps h.1) where
  at : (b : Bool) → is_event p.entry ≡ b → Each (λ (p : Placed). (is_event p.entry ≡ true) × P p) (events_in ps) → Each (λ (p : Placed). (is_event p.entry ≡ true) × P p) (cond b (p ∷ []) [] ++ events_in ps)
  at true q r = ((q, h.0), r)
  at false q r = r

pub follow_back : (session : ℕ) (c : Context) (xs ys : List Placed) → Follow session c (xs ++ ys) → Follow session (told_to session c xs) ys
follow_back session c [] ys f = f
follow_back session c (x ∷ xs) ys f = follow_back session (then_told session c x) xs ys f.1

-- where no session connects, each keeps its places
pub record Home : Type 0 where
  pub slot : Option ℕ
  pub account : Option ℕ
  pub user : Option ℕ
  pub host : Option ℕ

abbrev pub home_of : Context → Home
home_of c = record { slot = c.slot; account = c.account; user = c.user; host = c.host }

calm_home : (what : Option Subject) (c : Context) (e : Entry) → is_calm e ≡ true → home_of (noted what c e) ≡ home_of c
calm_home what c (says.Connect action thread account user host) q = absurd (cc)
calm_home what c _ q = refl

pub comes_home : (c d : Context) → Comes c d → home_of d ≡ home_of c
comes_home c d (inl e) = ap home_of e
comes_home c d (inr e) = ap home_of e

abbrev pub HasHome : ℕ → Home → Placed → Type 0
HasHome session home p = (p.session == session) ≡ true → home_of p.context ≡ home

pub homes_kept : (session : ℕ) (home : Home) (c : Context) (ps : List Placed) → home_of c ≡ home → Follow session c ps → Each (λ (p : Placed). is_calm p.entry ≡ true) ps → Each (HasHome session home) ps
homes_kept session home c [] e f h = tt
homes_kept session home c (p ∷ ps) e f h =
    ((λ own. comes_home c p.context (f.0 own) ∙ e), homes_kept session home (then_told session c p) ps (at (p.session == session) refl) f.1 h.1) where
      at : (b : Bool) → (p.session == session) ≡ b → home_of (cond b (noted (subject_of p.line) p.context p.entry) c) ≡ home
      at true q = calm_home (subject_of p.line) p.context p.entry h.0 ∙ (comes_home c p.context (f.0 q) ∙ e)
      at false q = e
