-- The work of an action: what its entries say was done, and that each makes its row's content.
use Rattle.std.proofs.Common.{ℕ, ◌≡◌, ◌+◌, ◌-◌, ◌==◌, Bool, true, List, [], ◌∷◌, ◌++◌, Some, refl, ap, sym, ◌∙◌, subst, arith}
use Rattle.std.specs.Prelude.{not}
use Rattle.pfs_model.proofs.EachLists.{each_join}
use Rattle.pfs_admin.specs.Works.{Sign, Releases, Tags, Made, Flagging, signs_of, signs_calls, sign_calls, made_calls, signs_entries, made_entries, sign_entry, flagging_entries}
use Rattle.pfs_event.specs.declared.entry.Entry.{Entry}
use Rattle.pfs_event.specs.declared.entry.Entry.TheVariants as says
use Rattle.pfs_levels.specs.Calls.{Call}
use Rattle.pfs_levels.specs.RowWords.{merged, zero_words}
use Rattle.pfs_levels.specs.Moves.{Ask, Gift, Move, AreGifts, IsMove, AreMoves, gift_calls, move_calls, moves_calls, empty_calls, gift_entries, move_entries, moves_entries}
use Rattle.pfs_levels.specs.declared.answers.Word.{Word}
use Rattle.pfs_model.specs.Actions.{is_acted}
use Rattle.pfs_model.specs.ActionAsks.{moved_by}
use Rattle.pfs_model.specs.Chains.{Each}
use Rattle.pfs_model.specs.Contents.{Given, IsFoundAsCounted}
use Rattle.pfs_model.specs.Contexts.{Context, noted, after_entries, subject_of}
use Rattle.pfs_model.specs.EntryPlaces.{placed_part}
use Rattle.pfs_model.specs.declared.lines.Line.{Line}
use Rattle.pfs_law_session.specs.Amounts.{ContentsAgree}
use Rattle.pfs_stat.specs.Stat.{stat_of_words, merge_of, words_of}
use Rattle.pfs_stat.specs.declared.Stat.{Stat}
use Rattle.pfs_law_session.proofs.ActionPieces.{placed_then, AreActed, acted_then, all_keep, Fact}
use Rattle.pfs_law_session.proofs.DoneWork.{dids, dids_then, move_done, moved_then, asked_then}
use Rattle.pfs_law_session.specs.Demands.{Orders, AreWords, AreCounted, moves_asked}

-- what is said of two lists of calls, or of entries, is said of each
pub contents_front : (content : ℕ → ℕ → List ℕ) (xs ys : List Call) → ContentsAgree content (xs ++ ys) → ContentsAgree content xs
contents_front content [] ys a = tt
contents_front content (x ∷ xs) ys a = (a.0, contents_front content xs ys a.1)

pub contents_back : (content : ℕ → ℕ → List ℕ) (xs ys : List Call) → ContentsAgree content (xs ++ ys) → ContentsAgree content ys
contents_back content [] ys a = a
contents_back content (x ∷ xs) ys a = contents_back content xs ys a.1

pub counted_front : (content : ℕ → ℕ → List ℕ) (counted : ℕ → ℕ → Bool) (action : ℕ) (xs ys : List Entry) → AreCounted content counted action (xs ++ ys) → AreCounted content counted action xs
counted_front content counted action [] ys a = tt
counted_front content counted action (x ∷ xs) ys a = (a.0, counted_front content counted action xs ys a.1)

pub counted_back : (content : ℕ → ℕ → List ℕ) (counted : ℕ → ℕ → Bool) (action : ℕ) (xs ys : List Entry) → AreCounted content counted action (xs ++ ys) → AreCounted content counted action ys
counted_back content counted action [] ys a = a
counted_back content counted action (x ∷ xs) ys a = counted_back content counted action xs ys a.1

words_front : (words : ℕ → List ℕ) (xs ys : List Sign) → AreWords words (xs ++ ys) → AreWords words xs
words_front words [] ys a = tt
words_front words (Releases row ∷ xs) ys a = words_front words xs ys a
words_front words (Tags row content ∷ xs) ys a = (a.0, words_front words xs ys a.1)

words_back : (words : ℕ → List ℕ) (xs ys : List Sign) → AreWords words (xs ++ ys) → AreWords words ys
words_back words [] ys a = a
words_back words (Releases row ∷ xs) ys a = words_back words xs ys a
words_back words (Tags row content ∷ xs) ys a = words_back words xs ys a.1

-- all is the work of an action
gifts_acted : (from : ℕ) (gs : List Gift) → AreActed (gift_entries from gs)
gifts_acted from [] = tt
gifts_acted from (g ∷ gs) = (refl, gifts_acted from gs)

pub moves_acted : (ms : List Move) → AreActed (moves_entries ms)
moves_acted [] = tt
moves_acted (m ∷ ms) = acted_then (moves_entries ms) (move_entries m) (moves_acted ms) (refl, gifts_acted m.from m.gifts)

sign_acted : (sign : Sign) (version : ℕ) → is_acted (sign_entry sign version) ≡ true
sign_acted (Releases row) version = refl
sign_acted (Tags row content) version = refl

pub signs_acted : (ms : List Made) → AreActed (signs_entries ms)
signs_acted [] = tt
signs_acted (m ∷ ms) = acted_then (signs_entries ms) (made_entries m) (signs_acted ms) (sign_acted m.sign m.version, tt)

pub sets_acted : (words : List Word) (fs : List Flagging) → AreActed (flagging_entries words fs)
sets_acted words [] = tt
sets_acted words (f ∷ fs) = (refl, sets_acted words fs)

-- what was given of a take
gifts_facts : (orders : Orders) (given : Given) (content : ℕ → ℕ → List ℕ) (phase session : ℕ) (line : Line) (amount : Stat) (from : ℕ) (gs : List Gift) (context : Context)
    → context.source ≡ Some from → stat_of_words (content from (context.source_version - 1)) ≡ amount → AreGifts gs → ContentsAgree content (gift_calls amount gs)
    → Each (Fact orders given content) (placed_part phase session line context (gift_entries from gs))
gifts_facts orders given content phase session line amount from [] context source is next calls = tt
gifts_facts orders given content phase session line amount from (g ∷ gs) context source is next calls =
    let own = contents_back content (gift_calls amount gs) _ calls in
    let there : g.there ≡ content g.to g.before = own.1.0 in
    let put : content g.to g.version ≡ merged g.there amount = own.0 in
    let makes : content g.to g.version ≡ words_of (merge_of (stat_of_words (content g.to g.before)) (stat_of_words (content from (context.source_version - 1)))) =
    put ∙ (ap (λ z. words_of (merge_of (stat_of_words z) amount)) there ∙ ap (λ z. words_of (merge_of (stat_of_words (content g.to g.before)) z)) (sym is)) in (
      record { found = tt; made = (source, (g.before, next.0, makes)); answered = tt },
      gifts_facts orders given content phase session line amount from gs context source is next.1 (contents_front content (gift_calls amount gs) _ calls),
    )

one_less : (n m : ℕ) → n ≡ m + 1 → n - 1 ≡ m
one_less n m e = omega (arith, e)

move_facts : (orders : Orders) (given : Given) (content : ℕ → ℕ → List ℕ) (phase session : ℕ) (line : Line) (action : ℕ) (a : Ask) (m : Move) (context : Context) → context.action ≡ action
    → IsMove a m → ContentsAgree content (move_calls m) → AreCounted content orders.counted action (move_entries m)
    → Each (Fact orders given content) (placed_part phase session line context (move_entries m))
move_facts orders given content phase session line action a m context at is calls counts =
    let amount : Stat = stat_of_words m.found in
    let own = contents_back content (gift_calls amount m.gifts) (empty_calls m.from m.before m.version m.found) calls in
    let zeros : content m.from m.version ≡ zero_words = own.0 in
    let was : m.found ≡ content m.from m.before = own.1.0 in
    let here : stat_of_words (content m.from (m.version - 1)) ≡ amount = ap (λ z. stat_of_words (content m.from z)) (one_less m.version m.before is.next) ∙ ap stat_of_words (sym was) in
    let counted : IsFoundAsCounted content orders.counted context.action (says.Take m.from m.version) =
    subst (λ z. IsFoundAsCounted content orders.counted z (says.Take m.from m.version)) (sym at) counts.0 in (
      record { found = counted; made = (m.before, is.next, zeros); answered = tt },
      gifts_facts orders given content phase session line amount m.from m.gifts (noted (subject_of line) context (says.Take m.from m.version)) refl here is.gifts_are
          (contents_front content (gift_calls amount m.gifts) (empty_calls m.from m.before m.version m.found) calls),
    )

-- what was moved
pub record MovesAre (orders : Orders) (given : Given) (content : ℕ → ℕ → List ℕ) (action : ℕ) (asks : List Ask) (ms : List Move) (phase session : ℕ) (line : Line) (context : Context) : Type 0 where
  pub done : dids (moves_entries ms) ≡ moved_by (orders.counted action) (moves_asked asks)
  pub facts : Each (Fact orders given content) (placed_part phase session line context (moves_entries ms))

pub moves_are : (orders : Orders) (given : Given) (content : ℕ → ℕ → List ℕ) (phase session : ℕ) (line : Line) (action : ℕ) (asks : List Ask) (ms : List Move) (context : Context)
    → context.action ≡ action → AreMoves asks ms → ContentsAgree content (moves_calls ms) → AreCounted content orders.counted action (moves_entries ms)
    → MovesAre orders given content action asks ms phase session line context
moves_are orders given content phase session line action asks [] context at are calls counts = record { done = ap (λ z. moved_by (orders.counted action) (moves_asked z)) (sym are); facts = tt }
moves_are orders given content phase session line action asks (m ∷ ms) context at are calls counts =
    let before : List Ask = are.0 in
    let last : Ask = are.1.0 in
    let is : IsMove last m = are.1.1.1.0 in
    let counted : ℕ → Bool = orders.counted action in
    let own = contents_front content (move_calls m) (moves_calls ms) calls in
    let counts_own = counted_back content orders.counted action (moves_entries ms) (move_entries m) counts in
    let rest = moves_are orders given content phase session line action before ms context at are.1.1.1.1 (contents_back content (move_calls m) (moves_calls ms) calls)
    (counted_front content orders.counted action (moves_entries ms) (move_entries m) counts) in
    let mid : Context = after_entries (subject_of line) context (moves_entries ms) in
    let found = contents_back content (gift_calls (stat_of_words m.found) m.gifts) (empty_calls m.from m.before m.version m.found) own in
    let was : m.found ≡ content m.from m.before = found.1.0 in
    let same : stat_of_words (content m.from (m.version - 1)) ≡ stat_of_words m.found = ap (λ z. stat_of_words (content m.from z)) (one_less m.version m.before is.next) ∙ ap stat_of_words (sym was) in
    let told : counted last.from ≡ not ((stat_of_words m.found).count == 0) = ap counted (sym is.from_is) ∙ (counts_own.0 ∙ ap (λ (z : Stat). not (z.count == 0)) same) in
    record {
      done = dids_then (moves_entries ms) (move_entries m)
          ∙ (ap (λ z. z ++ dids (move_entries m)) rest.done
          ∙ (ap (λ z. moved_by counted (moves_asked before) ++ z) (move_done counted last m is told)
          ∙ (sym (moved_then counted (moves_asked before) (moves_asked (last ∷ [])))
          ∙ (ap (moved_by counted) (sym (asked_then before (last ∷ []))) ∙ ap (λ z. moved_by counted (moves_asked z)) (sym are.1.1.0)))));
      facts = subst (Each (Fact orders given content)) (sym (placed_then phase session line context (moves_entries ms) (move_entries m)))
          (each_join (Fact orders given content) _ _ rest.facts
          (move_facts orders given content phase session line action last m mid (all_keep (subject_of line) context (moves_entries ms) (moves_acted ms) ∙ at) is own counts_own));
    }

-- what was released and written
sign_fact : (orders : Orders) (given : Given) (content : ℕ → ℕ → List ℕ) (phase session : ℕ) (line : Line) (action : ℕ) (sign : Sign) (version : ℕ) (found : List ℕ) (context : Context)
    → context.action ≡ action → AreWords (given.info_words action) (sign ∷ []) → ContentsAgree content (sign_calls sign version found)
    → Fact orders given content (record { phase = phase; session = session; line = line; context = context; entry = sign_entry sign version })
sign_fact orders given content phase session line action (Releases row) version found context at words calls = record { found = tt; made = tt; answered = tt }
sign_fact orders given content phase session line action (Tags row put) version found context at words calls = record {
  found = tt;
  made = (version, refl, calls.0 ∙ (sym words.0 ∙ ap (λ z. given.info_words z row) (sym at)));
  answered = tt;
}

pub signs_facts : (orders : Orders) (given : Given) (content : ℕ → ℕ → List ℕ) (phase session : ℕ) (line : Line) (action : ℕ) (ms : List Made) (context : Context)
    → context.action ≡ action → AreWords (given.info_words action) (signs_of ms) → ContentsAgree content (signs_calls ms)
    → Each (Fact orders given content) (placed_part phase session line context (signs_entries ms))
signs_facts orders given content phase session line action [] context at words calls = tt
signs_facts orders given content phase session line action (m ∷ ms) context at words calls =
    let mid : Context = after_entries (subject_of line) context (signs_entries ms) in
    subst (Each (Fact orders given content)) (sym (placed_then phase session line context (signs_entries ms) (made_entries m)))
    (each_join (Fact orders given content) _ _
    (signs_facts orders given content phase session line action ms context at (words_front (given.info_words action) (signs_of ms) (m.sign ∷ []) words) (contents_back content (made_calls m) (signs_calls ms) calls)) (
      sign_fact orders given content phase session line action m.sign m.version m.found mid (all_keep (subject_of line) context (signs_entries ms) (signs_acted ms) ∙ at)
          (words_back (given.info_words action) (signs_of ms) (m.sign ∷ []) words) (contents_front content (made_calls m) (signs_calls ms) calls),
      tt,
    ))

pub sets_facts : (orders : Orders) (given : Given) (content : ℕ → ℕ → List ℕ) (phase session : ℕ) (line : Line) (words : List Word) (fs : List Flagging) (context : Context)
    → Each (Fact orders given content) (placed_part phase session line context (flagging_entries words fs))
sets_facts orders given content phase session line words [] context = tt
sets_facts orders given content phase session line words (f ∷ fs) context =
    (record { found = tt; made = tt; answered = tt }, sets_facts orders given content phase session line words fs _)
