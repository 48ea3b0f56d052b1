-- What a store's actors have in common says of the contents, and what the rules of a journal ask of them.
use Rattle.std.proofs.Common.{ℕ, ◌≡◌, List, [], ◌∷◌, Option, Some, None, refl, ap, sym, ◌∙◌, subst}
use Rattle.pfs_event.specs.declared.entry.Entry.{Entry}
use Rattle.pfs_event.specs.declared.entry.Entry.TheVariants as says
use Rattle.pfs_levels.specs.Calls.{Call, Adds, Rings, Reads, Loads, Draws, Takes, Puts, Frees, Sets, Enters, Leaves, Meets}
use Rattle.pfs_levels.specs.JointCalls.{At, Setting, Agrees, AllAgree}
use Rattle.pfs_levels.specs.declared.answers.Added.TheVariants.{Counted, Held}
use Rattle.pfs_levels.specs.declared.answers.RingPut.TheVariants.{Done, Busy, Late}
use Rattle.pfs_model.specs.Contents.{Given, Written, amount_of, words_written, written_at, IsContent}
use Rattle.pfs_model.specs.EntryPlaces.{Placed}
use Rattle.pfs_law_session.specs.Amounts.{ContentAgrees, ContentsAgree, IsAdded, IsPut, IsRinged, words_put, ContentsLaw}

one_agrees : (opening : List ℕ) (content : ℕ → ℕ → List ℕ) (log : List At) (sets : List Setting) (call : Call) → Agrees opening content log sets call → ContentAgrees content call
one_agrees opening content log sets (Adds row amount (Counted at version)) a = (a.0, a.1.0, a.1.1)
one_agrees opening content log sets (Adds row amount (Held at first second)) a = tt
one_agrees opening content log sets (Takes row version found) a = a.0
one_agrees opening content log sets (Puts row put version) a = a
one_agrees opening content log sets (Rings row put (Done version)) a = (a.0, a.1.0, a.1.1)
one_agrees opening content log sets (Rings row put (Busy first second)) a = tt
one_agrees opening content log sets (Rings row put (Late ticket version)) a = tt
one_agrees opening content log sets (Reads row seen) a = tt
one_agrees opening content log sets (Loads at version found) a = tt
one_agrees opening content log sets (Draws kind ticket) a = tt
one_agrees opening content log sets (Frees row version) a = tt
one_agrees opening content log sets (Sets at to version) a = tt
one_agrees opening content log sets (Enters label labels) a = tt
one_agrees opening content log sets Leaves a = tt
one_agrees opening content log sets (Meets versions) a = tt

all_agree : (opening : List ℕ) (content : ℕ → ℕ → List ℕ) (log : List At) (sets : List Setting) (calls : List Call) → AllAgree opening content log sets calls → ContentsAgree content calls
all_agree opening content log sets [] a = tt
all_agree opening content log sets (call ∷ calls) a = (one_agrees opening content log sets call a.0, all_agree opening content log sets calls a.1)

is_content : (given : Given) (content : ℕ → ℕ → List ℕ) (place : Placed) (row version : ℕ) → place.entry ≡ says.Add row version
    → IsAdded (amount_of given place.session) content place.context place.entry → IsContent given content place place.entry
is_content given content place row version e a =
    let whole : Placed = record { phase = place.phase; session = place.session; line = place.line; context = place.context; entry = says.Add row version } in
    let same : place ≡ whole = ap (λ z. record { phase = place.phase; session = place.session; line = place.line; context = place.context; entry = z }) e in
    let added : IsAdded (amount_of given whole.session) content whole.context whole.entry = subst (λ z. IsAdded (amount_of given place.session) content place.context z) e a in
    let there : IsContent given content whole whole.entry = added in
    subst (λ (z : Placed). IsContent given content z z.entry) (sym same) there

-- the words of a put by the facts, and by what contents go by
words_same : (given : Given) (session : ℕ) (slot ticket : Option ℕ) (written : Option Written)
    → words_put given.flags (given.facts session) session slot ticket written ≡ words_written given session slot ticket written
words_same given session slot ticket None = refl
words_same given session slot ticket (Some written) = refl

abbrev with_entry : Placed → Entry → Placed
with_entry place e = record { phase = place.phase; session = place.session; line = place.line; context = place.context; entry = e }

pub is_ringed : (given : Given) (content : ℕ → ℕ → List ℕ) (place : Placed) (e : Entry) → place.entry ≡ e → IsPut given.flags (given.facts place.session) content place.session place.context e
    → IsRinged given content place e
is_ringed given content place (says.Ring row version) e a =
    let there : IsContent given content (with_entry place (says.Ring row version)) (says.Ring row version) =
    (a.0, a.1, a.2 ∙ words_same given place.session place.context.slot None (written_at place.context)) in
    subst (λ (z : Entry). IsContent given content (with_entry place z) z) (sym e) there
is_ringed given content place (says.Long row version ticket) e a =
    let there : IsContent given content (with_entry place (says.Long row version ticket)) (says.Long row version ticket) =
    (a.0, a.1, a.2 ∙ words_same given place.session place.context.slot (Some ticket) (written_at place.context)) in
    subst (λ (z : Entry). IsContent given content (with_entry place z) z) (sym e) there
is_ringed given content place _ e a = tt

pub contents : ContentsLaw
contents = record { agree = all_agree; ask = is_content; ask_put = λ given content place a. is_ringed given content place place.entry refl a }
