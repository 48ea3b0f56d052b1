-- What a settling and an action bring, and how the session stands behind them.
use Rattle.std.proofs.Common.{ℕ, ◌≡◌, ◌+◌, Bool, true, false, List, [], ◌∷◌, ◌++◌, Option, Some, None, map, refl, ap, sym, ◌∙◌, subst}
use Rattle.std.specs.Prelude.{◌==◌, IfSome, if◌then◌else◌}
use Rattle.std.proofs.lemmas.Bool.{eqb-true}
use Rattle.std.proofs.lemmas.List.{append_assoc, append-nil}
use Rattle.pfs_event.specs.declared.entry.Entry.{Entry}
use Rattle.pfs_event.specs.declared.entry.Entry.TheVariants as says
use Rattle.pfs_levels.specs.Calls.{Call}
use Rattle.pfs_levels.specs.RowWords.{merged}
use Rattle.pfs_model.specs.Contents.{Facts, amount_by}
use Rattle.pfs_model.specs.Contexts.{Context, noted, after_entries, held_for, held_else, own_event}
use Rattle.pfs_model.specs.declared.lines.Opened.{Opened}
use Rattle.pfs_model.specs.declared.lines.Subject.{Subject}
use Rattle.pfs_session.specs.Settlements.{Settles, Paid, owed_in, owed_by, owed_by_state, paid_calls, paid_entries, settle_head}
use Rattle.pfs_session.specs.SessionStates.{State, Owed, nothing_held}
use Rattle.pfs_stat.specs.Stat.{MergeIsMonoid}
use Rattle.pfs_stat.specs.declared.Stat.{Stat}
use Rattle.pfs_law_session.proofs.StepAmounts.{AddedBy, added_then, Accounts, AddsTo, add_noted, SettlesTo, settle_noted, Quiet, brings_as}
use Rattle.pfs_law_session.proofs.OwedRows.{Above}
use Rattle.pfs_law_session.proofs.EventAmounts.{OnceBy, once_then, once_plain, once_settled}
use Rattle.pfs_law_session.proofs.OwedAmounts.{Ascend, above_none, head_owed, else_same, else_other, ascend_back}
use Rattle.pfs_law_session.proofs.LinePieces.{entries_then}
use Rattle.pfs_session.proofs.HeldAmounts.{nothing_owed}
use Rattle.pfs_law_session.proofs.AmountSums.{is_added}
use Rattle.pfs_law_session.proofs.PutWords.{settle_put}
use Rattle.pfs_law_session.specs.Agreement.{row_owed}
use Rattle.pfs_law_session.specs.Amounts.{Clocked, sum_of, owed_to, going_of, Sums, AreWorded, ContentsAgree}

-- entries that bring some of what was owed, so that this is left
record PaidIs (flags : ℕ → ℕ → ℕ) (amounts : Opened → Stat) (content : ℕ → ℕ → List ℕ) (subject : Option Subject) (context : Context) (entries : List Entry) (left : List Owed) : Type 0 where
  pub added : AddedBy amounts content subject context entries
  pub once : OnceBy flags subject context entries
  pub ended : (after_entries subject context entries).ended ≡ None
  pub begun : (after_entries subject context entries).begun ≡ context.begun
  pub opened : (after_entries subject context entries).opened ≡ context.opened
  pub held : (row : ℕ) → owed_to row left ≡ sum_of (map amounts (held_for row (after_entries subject context entries).waiting))

-- one row more
one_paid : MergeIsMonoid → (flags : ℕ → ℕ → ℕ) (amounts : Opened → Stat) (content : ℕ → ℕ → List ℕ) (subject : Option Subject) (context : Context) (one : Owed) (left : List Owed) (version : ℕ)
    → context.ended ≡ None → Above one.row (map row_owed left) → content one.row (version + 1) ≡ merged (content one.row version) one.amount
    → ((row : ℕ) → owed_to row (one ∷ left) ≡ sum_of (map amounts (held_for row context.waiting)))
    → PaidIs flags amounts content subject context (says.Add one.row (version + 1) ∷ []) left
one_paid m flags amounts content subject context one left version ended above c held =
    let t : AddsTo one.row context (noted subject context (says.Add one.row (version + 1))) = add_noted subject context one.row (version + 1) in
    record {
      added = (
        is_added m amounts content context one.row (version + 1) version one.amount refl c
            (ap (λ z. sum_of (map amounts (own_event z ++ held_for one.row context.waiting))) ended ∙ (sym (held one.row) ∙ head_owed one left)),
        tt,
      );
      once = once_settled flags subject context one.row (version + 1) ended t.waiting;
      ended = t.ended ∙ ended;
      begun = t.same.begun;
      opened = t.same.opened;
      held = λ row. ap (λ z. z) (by_test row (one.row == row) refl) ∙ ap (λ z. sum_of (map amounts (held_for row z))) (sym t.waiting);
    } where
      by_test : (row : ℕ) (b : Bool) → (one.row == row) ≡ b → owed_to row left ≡ sum_of (map amounts (held_for row (held_else one.row context.waiting)))
      by_test row true e =
          let r : row ≡ one.row = sym (eqb-true one.row row e) in
          ap (λ z. owed_to z left) r ∙ (above_none one.row left above
          ∙ (sym (ap (λ z. sum_of (map amounts z)) (else_same one.row context.waiting)) ∙ ap (λ z. sum_of (map amounts (held_for z (held_else one.row context.waiting)))) (sym r)))
      by_test row false e =
          sym (ap (λ b. if b then Some one.amount else owed_to row left) e) ∙ (held row ∙ ap (λ z. sum_of (map amounts z)) (sym (else_other row one.row context.waiting e)))

all_paid : MergeIsMonoid → (flags : ℕ → ℕ → ℕ) (amounts : Opened → Stat) (content : ℕ → ℕ → List ℕ) (subject : Option Subject) (context : Context) (ps : List Paid) (left : List Owed)
    → context.ended ≡ None → Ascend (owed_by ps ++ left) → ContentsAgree content (paid_calls ps)
    → ((row : ℕ) → owed_to row (owed_by ps ++ left) ≡ sum_of (map amounts (held_for row context.waiting))) → PaidIs flags amounts content subject context (paid_entries ps) left
all_paid m flags amounts content subject context [] left ended up c held = record { added = tt; once = λ h. refl; ended = ended; begun = refl; opened = refl; held = held }
all_paid m flags amounts content subject context (p ∷ ps) left ended up c held =
    let es : List Entry = paid_entries ps in
    let mid : Context = after_entries subject context es in
    let last : Entry = says.Add p.owed.row (p.version + 1) in
    let regrouped : (owed_by ps ++ p.owed ∷ []) ++ left ≡ owed_by ps ++ (p.owed ∷ left) = append_assoc (owed_by ps) (p.owed ∷ []) left in
    let up2 : Ascend (owed_by ps ++ (p.owed ∷ left)) = subst Ascend regrouped up in
    let first : PaidIs flags amounts content subject context es (p.owed ∷ left) =
    all_paid m flags amounts content subject context ps (p.owed ∷ left) ended up2 c.1.1 (λ row. sym (ap (owed_to row) regrouped) ∙ held row) in
    let made : content p.owed.row (p.version + 1) ≡ merged (content p.owed.row p.version) p.owed.amount = c.0 ∙ ap (λ z. merged z p.owed.amount) c.1.0 in
    let second : PaidIs flags amounts content subject mid (last ∷ []) left =
    one_paid m flags amounts content subject mid p.owed left p.version first.ended (ascend_back (owed_by ps) (p.owed ∷ left) up2).0 made first.held in
    let same : after_entries subject mid (last ∷ []) ≡ after_entries subject context (es ++ last ∷ []) = sym (entries_then subject context es (last ∷ [])) in
    record {
      added = added_then amounts content subject context es (last ∷ []) first.added second.added;
      once = once_then flags subject context es (last ∷ []) first.once second.once;
      ended = ap (λ (z : Context). z.ended) (sym same) ∙ second.ended;
      begun = ap (λ (z : Context). z.begun) (sym same) ∙ (second.begun ∙ first.begun);
      opened = ap (λ (z : Context). z.opened) (sym same) ∙ (second.opened ∙ first.opened);
      held = λ row. second.held row ∙ ap (λ (z : Context). sum_of (map amounts (held_for row z.waiting))) same;
    }

-- all that is owed, behind the entry that says so
settled : MergeIsMonoid → (flags : ℕ → ℕ → ℕ) (amounts : Opened → Stat) (content : ℕ → ℕ → List ℕ) (subject : Option Subject) (context : Context) (owed : List Owed) (ps : List Paid) → owed_by ps ≡ owed
    → context.ended ≡ None → Ascend owed → ContentsAgree content (paid_calls ps) → ((row : ℕ) → owed_to row owed ≡ sum_of (map amounts (held_for row context.waiting)))
    → PaidIs flags amounts content subject context (settle_head owed ++ paid_entries ps) []
settled m flags amounts content subject context owed ps e ended up c held = by_owed owed refl where
  whole : owed ≡ owed_by ps ++ []
  whole = sym e ∙ sym (append-nil (owed_by ps))

  rest : (mid : Context) → mid.ended ≡ None → mid.waiting ≡ context.waiting → PaidIs flags amounts content subject mid (paid_entries ps) []
  rest mid none same =
      all_paid m flags amounts content subject mid ps [] none (subst Ascend whole up) c
      (λ row. sym (ap (owed_to row) whole) ∙ (held row ∙ ap (λ z. sum_of (map amounts (held_for row z))) (sym same)))

  by_owed : (o : List Owed) → owed ≡ o → PaidIs flags amounts content subject context (settle_head o ++ paid_entries ps) []
  by_owed [] q = rest context ended refl
  by_owed (x ∷ xs) q =
      let t : SettlesTo context (noted subject context says.Settle) = settle_noted subject context in
      let r : PaidIs flags amounts content subject (noted subject context says.Settle) (paid_entries ps) [] = rest (noted subject context says.Settle) t.ended t.waiting in
      record {
        added = (tt, r.added);
        once = once_then flags subject context (says.Settle ∷ []) (paid_entries ps) (once_plain flags subject context says.Settle refl refl t.waiting) r.once;
        ended = r.ended;
        begun = r.begun ∙ t.same.begun;
        opened = r.opened ∙ t.same.opened;
        held = r.held;
      }

module _ (m : MergeIsMonoid) (flags : ℕ → ℕ → ℕ) (slots : ℕ → Option ℕ) (facts : ℕ → ℕ → Facts) (session : ℕ) (content : ℕ → ℕ → List ℕ) where
  pub settle_brings : (subject : Option Subject) (k : Clocked) (context : Context) (s after : State) (calls : List Call) (entries : List Entry)
      → Sums flags slots facts session k context s → context.ended ≡ None → Ascend (owed_by_state s) → Settles s calls entries after → ContentsAgree content calls
      → Accounts flags slots facts session content subject context entries k after
  settle_brings subject k context s after calls entries a ended up x c =
      let owed : List Owed = owed_by_state s in
      let whole : List Entry = settle_head owed ++ paid_entries x.paid in
      let r : PaidIs flags (amount_by flags slots facts session) content subject context whole [] =
      settled m flags (amount_by flags slots facts session) content subject context owed x.paid x.owed_are ended up (subst (ContentsAgree content) x.calls_are c) a.held in
      let next : State = record s { held = nothing_held } in
      let sums : Sums flags slots facts session k (after_entries subject context whole) next = record {
        clock = a.clock;
        begun = a.begun ∙ sym r.begun;
        going = a.going ∙ ap (λ z. going_of z s.opened.events) (sym r.opened);
        starts = a.starts;
        held = λ row. ap (owed_to row) (nothing_owed s.place.thread) ∙ r.held row;
        seat = a.seat;
        own = a.own;
        worded = subst (λ z. AreWorded flags s.place.thread session z s.opened.events) (sym r.opened) a.worded;
      } in
      brings_as m flags slots facts session content subject context entries whole k after next x.entries_are x.after_is (record {
        added = r.added;
        put = settle_put flags (facts session) content session subject context owed x.paid;
        once = r.once;
        sums = sums;
      })

  -- an action of a session that holds nothing, wherever it is connected then
  pub acted_sums : (k : Clocked) (context behind : Context) (s after : State) → Sums flags slots facts session k context s → s.held ≡ nothing_held → Quiet context behind
      → after.clock ≡ s.clock → after.opened ≡ s.opened → after.held ≡ s.held → IfSome after.place.thread (λ n. slots session ≡ Some n)
      → after.number ≡ s.number → AreWorded flags after.place.thread session context.opened s.opened.events → Sums flags slots facts session k behind after
  acted_sums k context behind s after a free q clock opened held seat number worded = record {
    clock = a.clock ∙ sym clock;
    begun = a.begun ∙ sym q.begun;
    going = a.going ∙ (ap (λ z. going_of z s.opened.events) (sym q.opened) ∙ ap (λ z. going_of behind.opened z.events) (sym opened));
    starts = a.starts;
    held = λ row. ap (λ z. owed_to row (owed_in after.place.thread z)) (held ∙ free) ∙ (ap (owed_to row) (nothing_owed after.place.thread)
        ∙ (sym (ap (λ z. owed_to row (owed_in s.place.thread z)) free ∙ ap (owed_to row) (nothing_owed s.place.thread))
        ∙ (a.held row ∙ ap (λ z. sum_of (map (amount_by flags slots facts session) (held_for row z))) (sym q.waiting))));
    seat = seat;
    own = number ∙ a.own;
    worded = subst (λ z. AreWorded flags after.place.thread session z after.opened.events) (sym q.opened)
        (subst (λ z. AreWorded flags after.place.thread session context.opened z.events) (sym opened) worded);
  }

-- a slot that is the one given
pub is_seated : (given slot : Option ℕ) → slot ≡ given → IfSome slot (λ n. given ≡ Some n)
is_seated given None e = tt
is_seated given (Some n) e = sym e
