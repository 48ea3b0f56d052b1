-- A session's slot is the one that its connect printed: its connect is its first entry, so none comes later.
use Rattle.std.proofs.Common.{◌≡◌, refl, ℕ, suc, ◌≤◌, ◌==◌, Bool, true, false, cond, List, [], ◌∷◌, ◌++◌, length, Option, Some, None, sym, ap, subst, ◌∙◌, inl, inr, arith}
use Rattle.std.proofs.lemmas.Bool.{eqb-true}
use Rattle.pfs_event.specs.declared.entry.Entry.{Entry}
use Rattle.pfs_event.specs.declared.entry.Entry.TheVariants as says
use Rattle.pfs_model.specs.Chains.{Each}
use Rattle.pfs_model.specs.Contexts.{Context, fresh, subject_of, noted}
use Rattle.pfs_model.specs.EntryPlaces.{Block, Placed, by_session, told_by, places}
use Rattle.pfs_model.specs.declared.lines.Opened.{Opened}
use Rattle.pfs_model.specs.declared.lines.Subject.{Subject}
use Rattle.pfs_runs.specs.Rules.{slot_in}
use Rattle.pfs_law_conservation.specs.RunEvents.{Ended, ended_at, ended_first, all_ended}
use Rattle.pfs_law_conservation.specs.Premises.{IsFirst, AreFirstBehind}
use Rattle.pfs_law_conservation.proofs.EntryWalk.{Comes, Follow, then_told, told_to, all_followed}
use Rattle.pfs_law_conservation.proofs.EntrySources.{each_session}

module _ (session : ℕ) where
  abbrev Earlier : List Placed → Type 0
  Earlier earlier = 1 ≤ length (by_session session earlier)

  comes_slot : (c d : Context) → Comes c d → d.slot ≡ c.slot
  comes_slot c d (inl e) = ap (λ (z : Context). z.slot) e
  comes_slot c d (inr e) = ap (λ (z : Context). z.slot) e

  -- nothing but a connect changes the slot, and that has no earlier entry of its session
  noted_slot : (earlier : List Placed) (p : Placed) → (p.session == session) ≡ true → Earlier earlier → (s : Option Subject) (e : Entry) → IsFirst earlier p e → (noted s p.context e).slot ≡ p.context.slot
  noted_slot earlier p own l s (says.Connect action thread account user host) f = absurd (none (by_session session earlier) (subst (λ z. by_session z earlier ≡ []) (eqb-true p.session session own) f) l) where
    none : (xs : List Placed) → xs ≡ [] → 1 ≤ length xs → ⊥
    none xs e l = let z : length xs ≡ 0 = ap (λ (ys : List Placed). length ys) e in omega (arith, z, l)
  noted_slot earlier p own l s (says.Start event verdict consumers thread class table) f = refl
  noted_slot earlier p own l s (says.End event last consumers thread) f = refl
  noted_slot earlier p own l s (says.Held row first second) f = refl
  noted_slot earlier p own l s (says.Add row version) f = refl
  noted_slot earlier p own l s says.Settle f = refl
  noted_slot earlier p own l s (says.Act action) f = refl
  noted_slot earlier p own l s (says.Take row version) f = refl
  noted_slot earlier p own l s _ f = refl

  pub record IsLasting (c : Context) (earlier ps : List Placed) : Type 0 where
    pub still : 1 ≤ length (by_session session earlier) → (told_to session c ps).slot ≡ c.slot
    pub each : Each (λ (p : Placed). (p.session == session) ≡ true → (slot : ℕ) → p.context.slot ≡ Some slot → (told_to session c ps).slot ≡ Some slot) ps

  pub lasting : (c : Context) (earlier ps : List Placed) → Follow session c ps → AreFirstBehind earlier ps → ((slot : ℕ) → c.slot ≡ Some slot → 1 ≤ length (by_session session earlier)) → IsLasting c earlier ps
  lasting c earlier [] f a h = record { still = λ l. refl; each = tt }
  lasting c earlier (p ∷ ps) f a h = at (p.session == session) refl (λ g. lasting (then_told session c p) (p ∷ earlier) ps f.1 a.1 g) where
    next : Context
    next = noted (subject_of p.line) p.context p.entry

    more : (b : Bool) → (p.session == session) ≡ b → by_session session (p ∷ earlier) ≡ cond b (p ∷ []) [] ++ by_session session earlier
    more b q = ap (λ z. cond z (p ∷ []) [] ++ by_session session earlier) q

    longer : (p.session == session) ≡ true → 1 ≤ length (by_session session (p ∷ earlier))
    longer q = let e : length (by_session session (p ∷ earlier)) ≡ suc (length (by_session session earlier)) = ap (λ (xs : List Placed). length xs) (more true q) in omega (arith, e)

    same : (p.session == session) ≡ false → length (by_session session (p ∷ earlier)) ≡ length (by_session session earlier)
    same q = ap (λ (xs : List Placed). length xs) (more false q)

    at : (b : Bool) → (p.session == session) ≡ b → (((slot : ℕ) → (cond b (noted (subject_of p.line) p.context p.entry) c).slot ≡ Some slot → 1 ≤ length (by_session session (p ∷ earlier))) → IsLasting (cond b (noted (subject_of p.line) p.context p.entry) c) (p ∷ earlier) ps)
        → IsLasting c earlier (p ∷ ps)
    at true q go = record { still = still; each = (here, each_told) } where
      rest : IsLasting next (p ∷ earlier) ps
      rest = go (λ slot e. longer q)

      told : told_to session (then_told session c p) ps ≡ told_to session next ps
      told = ap (λ z. told_to session (cond z next c) ps) q

      still : 1 ≤ length (by_session session earlier) → (told_to session (then_told session c p) ps).slot ≡ c.slot
      still l = ap (λ (z : Context). z.slot) told ∙ (rest.still (longer q) ∙ (noted_slot earlier p q l (subject_of p.line) p.entry a.0 ∙ comes_slot c p.context (f.0 q)))

      here : (p.session == session) ≡ true → (slot : ℕ) → p.context.slot ≡ Some slot → (told_to session (then_told session c p) ps).slot ≡ Some slot
      here own slot e = let d : c.slot ≡ Some slot = sym (comes_slot c p.context (f.0 own)) ∙ e in still (h slot d) ∙ d

      each_told : Each (λ (r : Placed). (r.session == session) ≡ true → (slot : ℕ) → r.context.slot ≡ Some slot → (told_to session (then_told session c p) ps).slot ≡ Some slot) ps
      each_told = subst (λ z. Each (λ (r : Placed). (r.session == session) ≡ true → (slot : ℕ) → r.context.slot ≡ Some slot → z.slot ≡ Some slot) ps) (sym told) rest.each
    at false q go = record { still = λ l. ap (λ (z : Context). z.slot) told ∙ rest.still (let e : length (by_session session (p ∷ earlier)) ≡ length (by_session session earlier) = same q in omega (arith, e, l)); each = ((λ own. absurd (let z : true ≡ false = sym own ∙ q in cc)), each_told) } where
      rest : IsLasting c (p ∷ earlier) ps
      rest = go (λ slot e. let l : 1 ≤ length (by_session session earlier) = h slot e in let s : length (by_session session (p ∷ earlier)) ≡ length (by_session session earlier) = same q in omega (arith, s, l))

      told : told_to session (then_told session c p) ps ≡ told_to session c ps
      told = ap (λ z. told_to session (cond z next c) ps) q

      each_told : Each (λ (r : Placed). (r.session == session) ≡ true → (slot : ℕ) → r.context.slot ≡ Some slot → (told_to session (then_told session c p) ps).slot ≡ Some slot) ps
      each_told = subst (λ z. Each (λ (r : Placed). (r.session == session) ≡ true → (slot : ℕ) → r.context.slot ≡ Some slot → z.slot ≡ Some slot) ps) (sym told) rest.each

abbrev pub HasLast : List Block → Placed → Type 0
HasLast blocks p = (slot : ℕ) → p.context.slot ≡ Some slot → slot_in blocks p.session ≡ Some slot

pub all_lasting : (blocks : List Block) → AreFirstBehind [] (places blocks) → Each (HasLast blocks) (places blocks)
all_lasting blocks a = each_session (HasLast blocks) (places blocks) (λ session. turn session (places blocks) (told session).each) where
  told : (session : ℕ) → IsLasting session fresh [] (places blocks)
  told session = lasting session fresh [] (places blocks) (all_followed session blocks).follow a (λ slot e. absurd (let q : None ≡ Some slot = e in cc))

  turn : (session : ℕ) (ps : List Placed) → Each (λ (p : Placed). (p.session == session) ≡ true → (slot : ℕ) → p.context.slot ≡ Some slot → (told_to session fresh (places blocks)).slot ≡ Some slot) ps
      → Each (λ (p : Placed). (p.session == session) ≡ true → HasLast blocks p) ps
  turn session [] h = tt
  turn session (p ∷ ps) h = (
    (λ own slot e. subst (λ s. slot_in blocks s ≡ Some slot) (sym (eqb-true p.session session own)) (comes_slot session (told_to session fresh (places blocks)) (told_by session fresh blocks) (all_followed session blocks).ends ∙ h.0 own slot e)),
    turn session ps h.1,
  )

-- and so of each event that has ended
abbrev pub EndsLast : List Block → Ended → Type 0
EndsLast blocks one = (slot : ℕ) → one.context.slot ≡ Some slot → slot_in blocks one.session ≡ Some slot

pub ends_lasting : (blocks : List Block) (ps : List Placed) → Each (HasLast blocks) ps → Each (EndsLast blocks) (all_ended ps)
ends_lasting blocks [] h = tt
ends_lasting blocks (p ∷ ps) h = by p.entry (ends_lasting blocks ps h.1) where
  first : (opened : List Opened) → Each (EndsLast blocks) (all_ended ps) → Each (EndsLast blocks) (ended_first p opened ++ all_ended ps)
  first [] r = r
  first (event ∷ events) r = (h.0, r)

  by : (e : Entry) → Each (EndsLast blocks) (all_ended ps) → Each (EndsLast blocks) (ended_at p e ++ all_ended ps)
  by (says.End event last consumers thread) r = first p.context.opened r
  by _ r = r
