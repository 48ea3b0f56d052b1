-- All blocks of all sessions, and the contents.
use Rattle.std.proofs.Common.{ℕ, ◌≡◌, ◌==◌, cond, List, [], ◌∷◌, ◌++◌, inl, inr, eq-eqb, refl, ap, sym, ◌∙◌, subst}
use Rattle.std.specs.Prelude.{◌⊎◌}
use Rattle.pfs_event.specs.declared.entry.Entry.{Entry}
use Rattle.pfs_event.specs.declared.entry.Entry.TheVariants as says
use Rattle.pfs_model.specs.ActionAsks.{asked_of}
use Rattle.pfs_model.specs.Chains.{Each, times}
use Rattle.pfs_model.specs.Contents.{Given, amount_of, IsContent, AllContents}
use Rattle.pfs_model.specs.Contexts.{Context, fresh, noted, after, subject_of, turned}
use Rattle.pfs_model.specs.EntryPlaces.{Block, Placed, places_behind, placed_part, placed_lines, told_by, by_session}
use Rattle.pfs_model.specs.declared.lines.Line.{Line}
use Rattle.pfs_law_session.specs.Amounts.{IsAdded, AreAdded, IsPut, ArePut}
use Rattle.pfs_law_session.proofs.StoreContents.{is_ringed}
use Rattle.pfs_law_session.specs.Deeds.{Part, line_of, part_entries}
use Rattle.pfs_law_session.specs.JournalLaws.{lines_of, entries_of}
use Rattle.pfs_law_session.specs.Stints.{Stint, block_of, blocks_of}
use Rattle.pfs_law_session.proofs.ActionPieces.{all_found, all_made, all_answered}
use Rattle.pfs_law_session.proofs.SessionLines.{owed, ArePaid, paid_then, lines_paid, owed_none, owed_once}
use Rattle.pfs_law_session.specs.Demands.{Orders}
use Rattle.pfs_law_session.specs.DoneActions.{IsMade, AreMade}
use Rattle.pfs_law_session.specs.AllActions.{all_numbers, numbers_of, IsOrdered, nothing_asked, AreActions, IsAsked, LinesLaw, RunLaw, AreAddedBy, ArePutBy, AllAdded, ContentsLaw}

blocks_paid : (orders : Orders) (given : Given) (content : ℕ → ℕ → List ℕ) (earlier : List Block) (stints : List Stint) → Each (IsOrdered orders given content) stints
    → ArePaid orders given content (all_numbers stints) (places_behind earlier (blocks_of stints))
unfolding places_behind
blocks_paid orders given content earlier [] are = record { done = λ n p. refl; facts = tt }
blocks_paid orders given content earlier (stint ∷ stints) are =
    paid_then orders given content (numbers_of stint.parts) (all_numbers stints) _ _
    (lines_paid orders given content stint.phase stint.session stint.session (told_by stint.session fresh earlier) are.0.done.from stint.parts are.0.done.number_is
    are.0.done.are_parts are.0.contents are.0.told)
    (blocks_paid orders given content (earlier ++ block_of stint ∷ []) stints are.1)

once : (orders : Orders) (numbers : List ℕ) (number : ℕ)
    → (times (λ n. n == number) numbers ≡ 1) ⊎ ((times (λ n. n == number) numbers ≡ 0) × (orders.asked number ≡ nothing_asked))
    → owed orders number numbers ≡ asked_of (orders.counted number) (orders.asked number)
once orders numbers number (inl e) = owed_once orders number numbers e
once orders numbers number (inr e) = owed_none orders number numbers e.0 ∙ ap (asked_of (orders.counted number)) (sym e.1)

asked_where : (orders : Orders) (given : Given) (content : ℕ → ℕ → List ℕ) (numbers : List ℕ) (all : List Placed) → ArePaid orders given content numbers all → AreActions orders.asked numbers
    → IsAsked orders given content all
asked_where orders given content numbers all paid actions = record {
  done = λ number p. paid.done number p ∙ once orders numbers number (actions number p);
  answered = all_answered orders given content all paid.facts;
  found = all_found orders given content all paid.facts;
  made = all_made orders given content all paid.facts;
}

pub lines : LinesLaw
lines = λ orders given content phase session context s parts are calls told.
    (let all : List Placed = placed_lines phase session context (lines_of parts) (entries_of parts) in
    let paid : ArePaid orders given content (numbers_of parts) all = lines_paid orders given content phase session s.number context s parts refl are calls told in
    record {
      done = λ number p e. paid.done number p ∙ owed_once orders number (numbers_of parts) e;
      none = λ number p e. paid.done number p ∙ owed_none orders number (numbers_of parts) e;
      answered = all_answered orders given content all paid.facts;
      found = all_found orders given content all paid.facts;
      made = all_made orders given content all paid.facts;
    })

pub run : RunLaw
run = λ orders given content stints are actions. asked_where orders given content (all_numbers stints) _ (blocks_paid orders given content [] stints are) actions

-- an addition, a put, or anything else
content_of : (given : Given) (content : ℕ → ℕ → List ℕ) (phase session : ℕ) (line : Line) (context : Context) (e : Entry)
    → IsMade given content (record { phase = phase; session = session; line = line; context = context; entry = e }) e → IsAdded (amount_of given session) content context e
    → IsPut given.flags (given.facts session) content session context e → IsContent given content (record { phase = phase; session = session; line = line; context = context; entry = e }) e
content_of given content phase session line context (says.Add row version) m a p = a
content_of given content phase session line context (says.Ring row version) m a p =
    is_ringed given content (record { phase = phase; session = session; line = line; context = context; entry = says.Ring row version }) (says.Ring row version) refl p
content_of given content phase session line context (says.Long row version ticket) m a p =
    is_ringed given content (record { phase = phase; session = session; line = line; context = context; entry = says.Long row version ticket }) (says.Long row version ticket) refl p
content_of given content phase session line context _ m a p = m

all_contents : (given : Given) (content : ℕ → ℕ → List ℕ) (ps : List Placed) → AreMade given content ps → AreAddedBy given content ps → ArePutBy given content ps
    → AllContents given content ps
all_contents given content [] m a p = tt
all_contents given content (x ∷ xs) m a p = (content_of given content x.phase x.session x.line x.context x.entry m.0 a.0 p.0, all_contents given content xs m.1 a.1 p.1)

front : (given : Given) (content : ℕ → ℕ → List ℕ) (session : ℕ) (xs ys : List Placed) → AreAdded (amount_of given session) content (xs ++ ys) → AreAdded (amount_of given session) content xs
front given content session [] ys a = tt
front given content session (x ∷ xs) ys a = (a.0, front given content session xs ys a.1)

back : (given : Given) (content : ℕ → ℕ → List ℕ) (session : ℕ) (xs ys : List Placed) → AreAdded (amount_of given session) content (xs ++ ys) → AreAdded (amount_of given session) content ys
back given content session [] ys a = a
back given content session (x ∷ xs) ys a = back given content session xs ys a.1

added_join : (given : Given) (content : ℕ → ℕ → List ℕ) (xs ys : List Placed) → AreAddedBy given content xs → AreAddedBy given content ys → AreAddedBy given content (xs ++ ys)
added_join given content [] ys a b = b
added_join given content (x ∷ xs) ys a b = (a.0, added_join given content xs ys a.1 b)

part_added : (given : Given) (content : ℕ → ℕ → List ℕ) (phase session : ℕ) (line : Line) (context : Context) (es : List Entry)
    → AreAdded (amount_of given session) content (placed_part phase session line context es) → AreAddedBy given content (placed_part phase session line context es)
part_added given content phase session line context [] a = tt
part_added given content phase session line context (e ∷ es) a = (a.0, part_added given content phase session line (noted (subject_of line) context e) es a.1)

lines_added : (given : Given) (content : ℕ → ℕ → List ℕ) (phase session : ℕ) (context : Context) (parts : List Part)
    → AreAdded (amount_of given session) content (placed_lines phase session context (lines_of parts) (entries_of parts))
    → AreAddedBy given content (placed_lines phase session context (lines_of parts) (entries_of parts))
lines_added given content phase session context [] a = tt
lines_added given content phase session context (p ∷ ps) a =
    let line = line_of p.deed in
    let first : List Placed = placed_part phase session line (turned context) (part_entries p) in
    let next : Context = after context line (part_entries p) in
    added_join given content first _ (part_added given content phase session line (turned context) (part_entries p) (front given content session first _ a))
    (lines_added given content phase session next ps (back given content session first _ a))

blocks_added : (given : Given) (content : ℕ → ℕ → List ℕ) (earlier : List Block) (stints : List Stint) → AllAdded given content earlier stints
    → AreAddedBy given content (places_behind earlier (blocks_of stints))
unfolding places_behind
blocks_added given content earlier [] a = tt
blocks_added given content earlier (stint ∷ stints) a =
    added_join given content _ (places_behind (earlier ++ block_of stint ∷ []) (blocks_of stints))
    (lines_added given content stint.phase stint.session (told_by stint.session fresh earlier) stint.parts a.0) (blocks_added given content (earlier ++ block_of stint ∷ []) stints a.1)

sessions_added : (given : Given) (content : ℕ → ℕ → List ℕ) (ps : List Placed) → ((session : ℕ) → AreAdded (amount_of given session) content (by_session session ps)) → AreAddedBy given content ps
sessions_added given content [] a = tt
sessions_added given content (p ∷ ps) a = (own, sessions_added given content ps (λ k. back given content k (cond (p.session == k) (p ∷ []) []) (by_session k ps) (a k))) where
  own : IsAdded (amount_of given p.session) content p.context p.entry
  own = (subst (λ b. AreAdded (amount_of given p.session) content (cond b (p ∷ []) [] ++ by_session p.session ps)) (eq-eqb p.session p.session refl) (a p.session)).0

put_back : (given : Given) (content : ℕ → ℕ → List ℕ) (session : ℕ) (xs ys : List Placed) → ArePut given.flags (given.facts session) content session (xs ++ ys)
    → ArePut given.flags (given.facts session) content session ys
put_back given content session [] ys a = a
put_back given content session (x ∷ xs) ys a = put_back given content session xs ys a.1

sessions_put : (given : Given) (content : ℕ → ℕ → List ℕ) (ps : List Placed) → ((session : ℕ) → ArePut given.flags (given.facts session) content session (by_session session ps))
    → ArePutBy given content ps
sessions_put given content [] a = tt
sessions_put given content (p ∷ ps) a = (own, sessions_put given content ps (λ k. put_back given content k (cond (p.session == k) (p ∷ []) []) (by_session k ps) (a k))) where
  own : IsPut given.flags (given.facts p.session) content p.session p.context p.entry
  own =
      (subst (λ b. ArePut given.flags (given.facts p.session) content p.session (cond b (p ∷ []) [] ++ by_session p.session ps)) (eq-eqb p.session p.session refl) (a p.session)).0

pub contents : ContentsLaw
contents = record { all = all_contents; added = λ given content stints a. blocks_added given content [] stints a; by_all = sessions_added; put_by_all = sessions_put }
