-- What stands below a change of an action is by an earlier action, or stands earlier in its session.
use Rattle.std.proofs.Common.{◌≡◌, refl, ℕ, ◌<◌, ◌≤◌, ◌==◌, Bool, true, false, cond, List, [], ◌∷◌, ◌++◌, sym, ◌∙◌, ap, subst, inl, inr, arith}
use Rattle.pfs_event.specs.declared.entry.Entry.{Entry}
use Rattle.pfs_event.specs.declared.entry.Entry.TheVariants as says
use Rattle.pfs_model.specs.declared.changes.Change.{Change}
use Rattle.pfs_model.specs.Actions.{Deed, IsAmong, deed_at, deeds_of}
use Rattle.pfs_model.specs.Chains.{change_at, each_of, row_change}
use Rattle.pfs_model.specs.EntryPlaces.{Placed, by_session}
use Rattle.pfs_model.specs.Floors.{NamingsKeep, floor_of, greatest, namings_of, rows_known}
use Rattle.pfs_model.proofs.Members.{among_back, among_front}
use Rattle.pfs_law_replay.specs.EarlierChanges.{BelowLaw, RisesLaw}
use Rattle.pfs_law_replay.proofs.RowChanges.{head_is}

at_most : (c : Change) (cs : List Change) → IsAmong c cs → c.version ≤ greatest c.row cs
at_most c [] i = absurd i
at_most c (d ∷ ds) (inl e) = rw e (rw (self c.row) (omega arith)) where
  self : (n : ℕ) → (n == n) ≡ true
  self n = grind arith
at_most c (d ∷ ds) (inr i) = let h : c.version ≤ greatest c.row ds = at_most c ds i in omega (arith, h)

-- an earlier line of the session shows what it changed
known : (session : ℕ) (p : Placed) (earlier : List Placed) (c : Change) → IsAmong p earlier → p.session ≡ session → IsAmong c (rows_known p.entry) → IsAmong c (each_of rows_known (by_session session earlier))
known session p [] c i s k = absurd i
known session p (q ∷ qs) c (inl e) s k = at (q.session == session) (same q.session session (ap (λ (z : Placed). z.session) e ∙ s)) where
  same : (a b : ℕ) → a ≡ b → (a == b) ≡ true
  same a b e = grind arith

  at : (b : Bool) → b ≡ true → IsAmong c (each_of rows_known (cond b (q ∷ []) [] ++ by_session session qs))
  at true t = among_front c (rows_known q.entry) _ (subst (λ (z : Placed). IsAmong c (rows_known z.entry)) (sym e) k)
  at false t = absurd (cc)
known session p (q ∷ qs) c (inr i) s k = at (q.session == session) (known session p qs c i s k) where
  at : (b : Bool) → IsAmong c (each_of rows_known (by_session session qs)) → IsAmong c (each_of rows_known (cond b (q ∷ []) [] ++ by_session session qs))
  at true r = among_back c (rows_known q.entry) _ r
  at false r = r

change_known : (e : Entry) (c : Change) → row_change e ≡ c ∷ [] → IsAmong c (rows_known e)
change_known (says.Add row version) c q = subst (IsAmong c) (sym q) (inl refl)
change_known (says.Ring row version) c q = subst (IsAmong c) (sym q) (inl refl)
change_known (says.Long row version ticket) c q = subst (IsAmong c) (sym q) (inl refl)
change_known (says.Take row version) c q = subst (IsAmong c) (sym q) (inl refl)
change_known (says.Give row version from) c q = subst (IsAmong c) (sym q) (inl refl)
change_known (says.Tag row version) c q = subst (IsAmong c) (sym q) (inl refl)
change_known _ c q = absurd (cc)

change_floored : (all earlier : List Placed) (p : Placed) (e : Entry) (c : Change) → row_change e ≡ c ∷ [] → NamingsKeep all earlier p (namings_of e) → floor_of all earlier p c.row < c.version
change_floored all earlier p (says.Add row version) c q n = subst (λ (z : Change). floor_of all earlier p z.row < z.version) (head_is q) n.0.0
change_floored all earlier p (says.Ring row version) c q n = subst (λ (z : Change). floor_of all earlier p z.row < z.version) (head_is q) n.0.0
change_floored all earlier p (says.Long row version ticket) c q n = subst (λ (z : Change). floor_of all earlier p z.row < z.version) (head_is q) n.0.0
change_floored all earlier p (says.Take row version) c q n = subst (λ (z : Change). floor_of all earlier p z.row < z.version) (head_is q) n.0.0
change_floored all earlier p (says.Give row version from) c q n = subst (λ (z : Change). floor_of all earlier p z.row < z.version) (head_is q) n.0.0
change_floored all earlier p (says.Tag row version) c q n = subst (λ (z : Change). floor_of all earlier p z.row < z.version) (head_is q) n.0.0
change_floored all earlier p _ c q n = absurd (cc)

pub rises : RisesLaw
rises all earlier p q c d n i s a b r =
    let f : floor_of all earlier p c.row < c.version = change_floored all earlier p p.entry c a n in
    let k : d.version ≤ greatest d.row (each_of rows_known (by_session p.session earlier)) = at_most d (each_of rows_known (by_session p.session earlier)) (known p.session q earlier d i s (change_known q.entry d b)) in
    let w : greatest d.row (each_of rows_known (by_session p.session earlier)) ≡ greatest c.row (each_of rows_known (by_session p.session earlier)) = ap (λ z. greatest z (each_of rows_known (by_session p.session earlier))) r in
    omega (arith, f, k, w)

-- the deed of a change is of its row and version, and no release
record IsOf (action : ℕ) (c : Change) (d : Deed) : Type 0 where
  action_is : d.action ≡ action
  row_is : d.row ≡ c.row
  version_is : d.version ≡ c.version

deed_is : {x y : Deed} → (x ∷ []) ≡ (y ∷ []) → x ≡ y
deed_is {x} {y} e = ap (λ ds. first ds x) e where
  first : List Deed → Deed → Deed
  first [] d = d
  first (c ∷ cs) d = c

is_of : (action row version : ℕ) (c : Change) (d : Deed) → (change_at row version ∷ []) ≡ (c ∷ []) → (record { action = action; row = row; version = version; releases = false } ∷ []) ≡ (d ∷ []) → IsOf action c d
is_of action row version c d q e = record {
  action_is = ap (λ (z : Deed). z.action) (sym (deed_is e));
  row_is = ap (λ (z : Deed). z.row) (sym (deed_is e)) ∙ ap (λ (z : Change). z.row) (head_is q);
  version_is = ap (λ (z : Deed). z.version) (sym (deed_is e)) ∙ ap (λ (z : Change). z.version) (head_is q);
}

deed_of : (e : Entry) (action : ℕ) (c : Change) (d : Deed) → row_change e ≡ c ∷ [] → deed_at action e ≡ d ∷ [] → IsOf action c d
deed_of (says.Take row version) action c d q h = is_of action row version c d q h
deed_of (says.Give row version from) action c d q h = is_of action row version c d q h
deed_of (says.Tag row version) action c d q h = is_of action row version c d q h
deed_of (says.Free row version) action c d q h = absurd (cc)
deed_of _ action c d q h = absurd (cc)

-- the deeds of an entry are among those of all
among_deeds : (p : Placed) (d : Deed) (all : List Placed) → IsAmong p all → IsAmong d (deed_at p.context.action p.entry) → IsAmong d (deeds_of all)
among_deeds p d [] i m = absurd i
among_deeds p d (q ∷ qs) (inl e) m = among_front d (deed_at q.context.action q.entry) (deeds_of qs) (subst (λ (z : Placed). IsAmong d (deed_at z.context.action z.entry)) (sym e) m)
among_deeds p d (q ∷ qs) (inr i) m = among_back d (deed_at q.context.action q.entry) (deeds_of qs) (among_deeds p d qs i m)

pub below : BelowLaw
below all p q c d at_p at_q never i j a b r hp hq l =
    let of_p : IsOf p.context.action c at_p = deed_of p.entry p.context.action c at_p a hp in
    let of_q : IsOf q.context.action d at_q = deed_of q.entry q.context.action d at_q b hq in
    let row : at_q.row ≡ at_p.row = of_q.row_is ∙ r ∙ sym of_p.row_is in
    let version : at_q.version < at_p.version = omega (arith, of_p.version_is, of_q.version_is, l) in
    let there : IsAmong at_p (deeds_of all) = among_deeds p at_p all i (subst (IsAmong at_p) (sym hp) (inl refl)) in
    let other : IsAmong at_q (deeds_of all) = among_deeds q at_q all j (subst (IsAmong at_q) (sym hq) (inl refl)) in
    let up : at_q.action ≤ at_p.action = never at_q at_p other there (row, inl version) in
    omega (arith, up, of_p.action_is, of_q.action_is)
