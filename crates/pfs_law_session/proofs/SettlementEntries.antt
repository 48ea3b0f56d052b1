-- What settling writes, and how the session stands behind it.
use Rattle.std.proofs.Common.{ℕ, ◌≡◌, ◌+◌, true, List, [], ◌∷◌, ◌++◌, Option, Some, None, map, eq-eqb, refl, ap, sym, ◌∙◌, subst}
use Rattle.std.specs.Prelude.{Ok}
use Rattle.std.proofs.lemmas.List.{append_assoc, append-nil, map-append, length-replicate}
use Rattle.pfs_event.specs.declared.entry.Entry.{Entry}
use Rattle.pfs_event.specs.declared.entry.Entry.TheVariants as says
use Rattle.pfs_levels.specs.Calls.{Call}
use Rattle.pfs_model.specs.Contexts.{Context, subject_of, noted, after_entries, without_row}
use Rattle.pfs_model.specs.Cuts.{cut, then_cut, are_closed, is_headed}
use Rattle.pfs_model.specs.Shapes.{settling, added}
use Rattle.pfs_model.specs.declared.lines.Line.{Line}
use Rattle.pfs_model.specs.declared.lines.Subject.{Subject}
use Rattle.pfs_model.specs.declared.shapes.Ask.TheVariants as asks
use Rattle.pfs_model.specs.declared.shapes.Item.{Item}
use Rattle.pfs_session.specs.Settlements.{Settles, Paid, owed_by, owed_by_state, paid_entries, pay_entries, settle_head}
use Rattle.pfs_session.specs.SessionStates.{State, Owed, nothing_held}
use Rattle.pfs_stat.specs.declared.Stat.{Stat}
use Rattle.pfs_session.proofs.HeldAmounts.{nothing_owed}
use Rattle.pfs_law_session.proofs.ShapeCuts.{cut_one, cut_nothing}
use Rattle.pfs_law_session.proofs.OwedRows.{drop_same}
use Rattle.pfs_law_session.proofs.LinePieces.{IsPiece, piece_none, piece_plain, piece_then, is_plain, cut_append, entries_then}
use Rattle.pfs_law_session.specs.Agreement.{AreAlike, Agrees, row_owed}

-- entries of which none starts or ends an event
abbrev pub ArePlain : List Entry → Type 0
ArePlain [] = Unit {0}
ArePlain (e ∷ es) = (is_plain e ≡ true) × ArePlain es

pub plain_then : (es fs : List Entry) → ArePlain es → ArePlain fs → ArePlain (es ++ fs)
plain_then [] fs a b = b
plain_then (e ∷ es) fs a b = (a.0, plain_then es fs a.1 b)

pub piece_plains : (flags : ℕ → ℕ → ℕ) (stack : ℕ) (line : Line) (context : Context) (entries : List Entry) → ArePlain entries
    → IsPiece flags stack line context entries (after_entries (subject_of line) context entries)
piece_plains flags stack line context [] a = piece_none flags stack line context
piece_plains flags stack line context (e ∷ es) a =
    piece_then flags stack line context (noted (subject_of line) context e) _ (e ∷ []) es (piece_plain flags stack line context e a.0)
    (piece_plains flags stack line (noted (subject_of line) context e) es a.1)

-- what a journal tells of its session that entries of an action leave as it was
pub record Untouched (old new : Context) : Type 0 where
  pub slot : new.slot ≡ old.slot
  pub opened : new.opened ≡ old.opened
  pub drawn : new.drawn ≡ old.drawn

pub record Kept (old new : Context) : Type 0 where
  pub untouched : Untouched old new
  pub held : new.held ≡ old.held

paid_plain : (ps : List Paid) → ArePlain (paid_entries ps)
paid_plain [] = tt
paid_plain (p ∷ ps) = plain_then (paid_entries ps) (pay_entries p) (paid_plain ps) (refl, tt)

-- what was owed was added, row by row
paid_cut : (ps : List Paid) (rest : List Entry) → cut (map added (map row_owed (owed_by ps))) (paid_entries ps ++ rest) ≡ Ok rest
paid_cut [] rest = cut_nothing rest
paid_cut (p ∷ ps) rest =
    let items : List Item = map added (map row_owed (owed_by ps)) in
    let last : List Item = added p.owed.row ∷ [] in
    let shapes : map added (map row_owed (owed_by ps ++ p.owed ∷ [])) ≡ items ++ last =
    ap (map added) (map-append row_owed (owed_by ps) (p.owed ∷ [])) ∙ map-append added (map row_owed (owed_by ps)) (p.owed.row ∷ []) in
    ap (λ z. cut z ((paid_entries ps ++ pay_entries p) ++ rest)) shapes
    ∙ ap (cut (items ++ last)) (append_assoc (paid_entries ps) (pay_entries p) rest)
    ∙ cut_append items last (paid_entries ps ++ (pay_entries p ++ rest))
    ∙ ap (λ z. then_cut z (cut last)) (paid_cut ps (pay_entries p ++ rest))
    ∙ cut_one (asks.Added p.owed.row) [] (says.Add p.owed.row (p.version + 1)) rest (eq-eqb p.owed.row p.owed.row refl) ∙ cut_nothing rest

snoc_not_nil : {A : Type 0} (xs : List A) (x : A) → (xs ++ x ∷ []) ≡ [] → ⊥
snoc_not_nil [] x e = absurd (cc)
snoc_not_nil (y ∷ ys) x e = absurd (cc)

pub settle_shaped : (owed : List Owed) (ps : List Paid) → owed_by ps ≡ owed → cut (settling (map row_owed owed)) (settle_head owed ++ paid_entries ps) ≡ Ok []
settle_shaped [] [] e = cut_nothing []
settle_shaped [] (p ∷ ps) e = absurd (snoc_not_nil (owed_by ps) p.owed e)
settle_shaped (o ∷ os) ps e =
    cut_one asks.Settle _ says.Settle (paid_entries ps) refl
    ∙ (ap (λ z. cut (map added (map row_owed z)) (paid_entries ps)) (sym e) ∙ ap (cut (map added (map row_owed (owed_by ps)))) (sym (append-nil (paid_entries ps))) ∙ paid_cut ps [])

settle_headed : (owed : List Owed) (ps : List Paid) → owed_by ps ≡ owed → is_headed (settle_head owed ++ paid_entries ps) ≡ true
settle_headed [] [] e = refl
settle_headed [] (p ∷ ps) e = absurd (snoc_not_nil (owed_by ps) p.owed e)
settle_headed (o ∷ os) ps e = refl

pub settle_plain : (owed : List Owed) (ps : List Paid) → ArePlain (settle_head owed ++ paid_entries ps)
settle_plain [] ps = paid_plain ps
settle_plain (o ∷ os) ps = (refl, paid_plain ps)

pub settling_closed : (rows : List ℕ) → are_closed (settling rows) ≡ true
settling_closed [] = refl
settling_closed (r ∷ rs) = all_closed rs where
  all_closed : (rs : List ℕ) → are_closed (map added rs) ≡ true
  all_closed [] = refl
  all_closed (r ∷ rs) = all_closed rs

pub record Added (context behind : Context) (left : List ℕ) : Type 0 where
  pub untouched : Untouched context behind
  pub held : behind.held ≡ left

one_added : (subject : Option Subject) (context : Context) (row version : ℕ) (left : List ℕ) → context.held ≡ row ∷ left → Added context (noted subject context (says.Add row version)) left
one_added None context row version left e = record { untouched = record { slot = refl; opened = refl; drawn = refl }; held = ap (without_row row) e ∙ drop_same row left }
one_added (Some subject) context row version left e = record { untouched = record { slot = refl; opened = refl; drawn = refl }; held = ap (without_row row) e ∙ drop_same row left }

untouched_then : (a b c : Context) → Untouched a b → Untouched b c → Untouched a c
untouched_then a b c p q = record { slot = q.slot ∙ p.slot; opened = q.opened ∙ p.opened; drawn = q.drawn ∙ p.drawn }

-- each row is no longer held once it was added to
all_added : (subject : Option Subject) (ps : List Paid) (context : Context) (left : List ℕ) → context.held ≡ map row_owed (owed_by ps) ++ left
    → Added context (after_entries subject context (paid_entries ps)) left
all_added subject [] context left e = record { untouched = record { slot = refl; opened = refl; drawn = refl }; held = e }
all_added subject (p ∷ ps) context left e =
    let before : context.held ≡ map row_owed (owed_by ps) ++ (p.owed.row ∷ left) =
    e ∙ (ap (λ z. z ++ left) (map-append row_owed (owed_by ps) (p.owed ∷ [])) ∙ append_assoc (map row_owed (owed_by ps)) (p.owed.row ∷ []) left) in
    let first = all_added subject ps context (p.owed.row ∷ left) before in
    let mid : Context = after_entries subject context (paid_entries ps) in
    let last = one_added subject mid p.owed.row (p.version + 1) left first.held in
    let same : after_entries subject context (paid_entries ps ++ pay_entries p) ≡ noted subject mid (says.Add p.owed.row (p.version + 1)) = entries_then subject context (paid_entries ps) (pay_entries p) in
    subst (λ z. Added context z left) (sym same) (record { untouched = untouched_then _ _ _ first.untouched last.untouched; held = last.held })

settle_noted : (subject : Option Subject) (context : Context) → Kept context (noted subject context says.Settle)
settle_noted None context = record { untouched = record { slot = refl; opened = refl; drawn = refl }; held = refl }
settle_noted (Some subject) context = record { untouched = record { slot = refl; opened = refl; drawn = refl }; held = refl }

pub settled_context : (subject : Option Subject) (owed : List Owed) (ps : List Paid) (context : Context) → owed_by ps ≡ owed → context.held ≡ map row_owed owed
    → Added context (after_entries subject context (settle_head owed ++ paid_entries ps)) []
settled_context subject [] ps context e h = all_added subject ps context [] (h ∙ ap (map row_owed) (sym e) ∙ sym (append-nil (map row_owed (owed_by ps))))
settled_context subject (o ∷ os) ps context e h =
    let k = settle_noted subject context in
    let a = all_added subject ps (noted subject context says.Settle) [] (k.held ∙ (h ∙ ap (map row_owed) (sym e) ∙ sym (append-nil (map row_owed (owed_by ps))))) in
    record { untouched = untouched_then _ _ _ k.untouched a.untouched; held = a.held }

-- settling by itself
pub record SettleIs (flags : ℕ → ℕ → ℕ) (stack : ℕ) (line : Line) (context : Context) (entries : List Entry) (after : State) : Type 0 where
  pub shaped : cut (settling context.held) entries ≡ Ok []
  pub headed : is_headed entries ≡ true
  pub behind : Context
  pub piece : IsPiece flags stack line context entries behind
  pub untouched : Untouched context behind
  pub held : behind.held ≡ []
  pub agrees : Agrees flags behind after

pub settle_is : (flags : ℕ → ℕ → ℕ) (line : Line) (context : Context) (s after : State) (calls : List Call) (entries : List Entry) → Agrees flags context s
    → Settles s calls entries after → SettleIs flags s.stack line context entries after
settle_is flags line context s after calls entries a e =
    let nobody : Option Stat = None in
    let owed : List Owed = owed_by_state s in
    let subject : Option Subject = subject_of line in
    let whole : List Entry = settle_head owed ++ paid_entries e.paid in
    let behind : Context = after_entries subject context whole in
    let c = settled_context subject owed e.paid context e.owed_are a.held in
    let next : State = record s { held = nothing_held } in
    let stands : Agrees flags behind next = record {
      slot = c.untouched.slot ∙ a.slot;
      opened = subst (λ z. AreAlike flags s.place.thread z s.opened.events) (sym c.untouched.opened) a.opened;
      held = c.held ∙ sym (ap (map row_owed) (nothing_owed s.place.thread));
      drawn = c.untouched.drawn ∙ a.drawn;
      wide = length-replicate 193 nobody;
      low = a.low;
    } in
    record {
      shaped = ap (cut (settling context.held)) e.entries_are ∙ (ap (λ z. cut (settling z) whole) a.held ∙ settle_shaped owed e.paid e.owed_are);
      headed = ap is_headed e.entries_are ∙ settle_headed owed e.paid e.owed_are;
      behind = behind;
      piece = subst (λ z. IsPiece flags s.stack line context z behind) (sym e.entries_are) (piece_plains flags s.stack line context whole (settle_plain owed e.paid));
      untouched = c.untouched;
      held = c.held;
      agrees = subst (λ z. Agrees flags behind z) (sym e.after_is) stands;
    }
