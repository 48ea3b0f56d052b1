-- An offer by one call of the store.
use Rattle.std.proofs.Common.{ℕ, ◌≡◌, ◌∷◌, [], List, Some, None, subst}
use Rattle.pfs_event.specs.declared.event.Event.{Event}
use Rattle.pfs_levels.specs.Calls.{Call, Opening, Goes, Rings, Draws}
use Rattle.pfs_levels.specs.declared.answers.RingPut.{RingPut}
use Rattle.pfs_model.specs.Causes.{long_row}
use Rattle.pfs_rings.specs.declared.puts.Put.{Put}
use Rattle.pfs_rings.specs.Offers.{IsOffered, IsOfferedLong, Says, offered}

-- to a place of a thread, without a ticket
pub once : (row : ℕ) (event : Event) (content : List ℕ) (found answer : RingPut) (put : Put) (was now : Opening → List Call → Type 0)
    → found ≡ answer → content ≡ offered event None → Says row None answer put → Goes was now (Rings row content found ∷ [])
    → IsOffered row None [] event put was now
once row event content found answer put was now is words says calls = record {
  answer = answer;
  says = says;
  calls = subst (λ z. Goes was now (Rings row z answer ∷ [])) words (subst (λ z. Goes was now (Rings row content z ∷ [])) is calls);
}

-- to the long history, behind the draw of its ticket
pub long : (kind number row ticket : ℕ) (event : Event) (content : List ℕ) (found answer : RingPut) (put : Put)
    (was drawn now : Opening → List Call → Type 0) → number ≡ kind → row ≡ long_row number ticket → found ≡ answer
    → content ≡ offered event (Some ticket) → Says row (Some ticket) answer put
    → Goes was drawn (Draws number ticket ∷ []) → Goes drawn now (Rings row content found ∷ [])
    → IsOfferedLong kind event put was now
long kind number row ticket event content found answer put was drawn now same place is words says draws calls =
    subst (λ n. IsOfferedLong n event put was now) same (record {
      ticket = ticket;
      offered = record {
        answer = answer;
        says = subst (λ r. Says r (Some ticket) answer put) place says;
        calls = λ start before stood. read start (Draws number ticket ∷ before) (calls start (Draws number ticket ∷ before) (draws start before stood));
      };
    }) where
      read : (start : Opening) (before : List Call) → now start (Rings row content found ∷ before)
          → now start (Rings (long_row number ticket) (offered event (Some ticket)) answer ∷ before)
      read start before h =
          subst (λ r. now start (Rings r (offered event (Some ticket)) answer ∷ before)) place
          (subst (λ z. now start (Rings row z answer ∷ before)) words
          (subst (λ z. now start (Rings row content z ∷ before)) is h))
