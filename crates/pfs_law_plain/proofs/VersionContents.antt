-- What the calls of a plain store found and made is what stands in the rows by their versions; of each session's parts.
use Rattle.std.proofs.Common.{ℕ, ◌≡◌, ◌==◌, Bool, true, false, cond, List, [], ◌∷◌, ◌++◌, Option, Some, None, refl, ap, sym, ◌∙◌, subst, arith}
use Rattle.std.specs.Prelude.{nat_lt, ◌&&◌, if◌then◌else◌}
use Rattle.pfs_law_plain.proofs.PlainJournals.{one_actor}
use Rattle.pfs_law_plain.specs.Spells.{Doing, Spell, around, entering, doing_calls, doings_calls, parts_in, stints_of, calls_of}
use Rattle.pfs_board.specs.declared.view.Label.{Label}
use Rattle.pfs_levels.proofs.PlainChanges.{plain_joint}
use Rattle.pfs_levels.specs.Calls.{Call}
use Rattle.pfs_levels.specs.RowWords.{opening_content}
use Rattle.pfs_levels.specs.JointCalls.{AllAgree, changes_of, sets_of, all_calls}
use Rattle.pfs_levels.specs.PlainStore.{AllAnswer, Op, ops_of, is_put, puts_in, content_by, content_at}
use Rattle.pfs_model.specs.Chains.{Each}
use Rattle.pfs_law_session.proofs.StoreContents.{contents}
use Rattle.pfs_law_session.specs.Amounts.{ContentsAgree, AllContentsAgree}
use Rattle.pfs_law_session.specs.Deeds.{Part, action_of, part_calls}
use Rattle.pfs_law_session.specs.JournalLaws.{AllLoadsAgree}
use Rattle.pfs_law_session.specs.Stints.{Stint, parts_by}

-- at version 0 stands what stood there at first
and_no : (b c : Bool) → (b && (c && false)) ≡ false
and_no true true = refl
and_no true false = refl
and_no false c = refl

pub content_opens : (os : List Op) (row : ℕ) → content_at os row 0 ≡ opening_content row
unfolding content_at
content_opens [] row = refl
content_opens (o ∷ os) row =
    ap (λ b. if (o.row == row) && (is_put o.effect && b) then content_by o.effect (content_at os row 0) else content_at os row 0) (none_below (puts_in os row))
    ∙ (ap (λ b. if b then content_by o.effect (content_at os row 0) else content_at os row 0) (and_no (o.row == row) (is_put o.effect)) ∙ content_opens os row) where
      none_below : (n : ℕ) → nat_lt n 0 ≡ false
      none_below n = grind arith

-- along lists
front : (content : ℕ → ℕ → List ℕ) (xs ys : List Call) → ContentsAgree content (xs ++ ys) → ContentsAgree content xs
front content [] ys a = tt
front content (x ∷ xs) ys a = (a.0, front content xs ys a.1)

back : (content : ℕ → ℕ → List ℕ) (xs ys : List Call) → ContentsAgree content (xs ++ ys) → ContentsAgree content ys
back content [] ys a = a
back content (x ∷ xs) ys a = back content xs ys a.1

around_agrees : (content : ℕ → ℕ → List ℕ) (label : Label) (labels : List Label) (met : Option (List ℕ)) (action : Option ℕ) (calls : List Call) → ContentsAgree content (around label labels met action calls) → ContentsAgree content calls
around_agrees content label labels met None calls a = a
around_agrees content label labels met (Some number) calls a = front content calls (entering label labels met) a.1

doings_agree : (content : ℕ → ℕ → List ℕ) (ds : List Doing) → ContentsAgree content (doings_calls ds) → AllContentsAgree content (parts_in ds)
doings_agree content [] a = tt
doings_agree content (d ∷ ds) a = (
  around_agrees content d.label d.labels d.met (action_of d.part.deed) (part_calls d.part) (back content (doings_calls ds) (doing_calls d) a),
  doings_agree content ds (front content (doings_calls ds) (doing_calls d) a),
)

spells_agree : (content : ℕ → ℕ → List ℕ) (spells : List Spell) → ContentsAgree content (calls_of spells) → Each (λ stint. AllContentsAgree content stint.parts) (stints_of spells)
spells_agree content [] a = tt
spells_agree content (spell ∷ spells) a = (
  doings_agree content spell.doings (back content (calls_of spells) (doings_calls spell.doings) a),
  spells_agree content spells (front content (calls_of spells) (doings_calls spell.doings) a),
)

pub contents_agree : (flags : List ℕ) (spells : List Spell) → AllAnswer flags (calls_of spells)
    → Each (λ stint. AllContentsAgree (content_at (ops_of (calls_of spells))) stint.parts) (stints_of spells)
contents_agree flags spells answers =
    let calls : List Call = calls_of spells in
    let e : all_calls (calls ∷ []) ≡ calls = one_actor calls in
    let j = plain_joint flags (calls ∷ []) (subst (AllAnswer flags) (sym e) answers) in
    let agree : AllAgree flags (content_at (ops_of calls)) (changes_of calls) (sets_of calls) calls =
    subst (λ z. AllAgree flags (content_at (ops_of z)) (changes_of z) (sets_of z) z) e j.agrees in
    spells_agree (content_at (ops_of calls)) spells (contents.agree flags (content_at (ops_of calls)) (changes_of calls) (sets_of calls) calls agree)

-- of the parts of one session
contents_then : (content : ℕ → ℕ → List ℕ) (xs ys : List Part) → AllContentsAgree content xs → AllContentsAgree content ys → AllContentsAgree content (xs ++ ys)
contents_then content [] ys a b = b
contents_then content (x ∷ xs) ys a b = (a.0, contents_then content xs ys a.1 b)

loads_then : (flags : ℕ → ℕ → ℕ) (xs ys : List Part) → AllLoadsAgree flags xs → AllLoadsAgree flags ys → AllLoadsAgree flags (xs ++ ys)
loads_then flags [] ys a b = b
loads_then flags (x ∷ xs) ys a b = (a.0, loads_then flags xs ys a.1 b)

pub own_contents : (content : ℕ → ℕ → List ℕ) (session : ℕ) (stints : List Stint) → Each (λ stint. AllContentsAgree content stint.parts) stints → AllContentsAgree content (parts_by session stints)
own_contents content session [] a = tt
own_contents content session (stint ∷ stints) a = contents_then content (cond (stint.session == session) stint.parts []) (parts_by session stints) (at (stint.session == session)) (own_contents content session stints a.1) where
  at : (b : Bool) → AllContentsAgree content (cond b stint.parts [])
  at true = a.0
  at false = tt

pub own_loads : (flags : ℕ → ℕ → ℕ) (session : ℕ) (stints : List Stint) → Each (λ stint. AllLoadsAgree flags stint.parts) stints → AllLoadsAgree flags (parts_by session stints)
own_loads flags session [] a = tt
own_loads flags session (stint ∷ stints) a = loads_then flags (cond (stint.session == session) stint.parts []) (parts_by session stints) (at (stint.session == session)) (own_loads flags session stints a.1) where
  at : (b : Bool) → AllLoadsAgree flags (cond b stint.parts [])
  at true = a.0
  at false = tt
