-- What entries give: each of it by one of them.
use Rattle.std.proofs.Common.{refl, List, [], ◌∷◌, sym, subst, inl, inr}
use Rattle.std.specs.Prelude.{◌⊎◌}
use Rattle.pfs_event.specs.declared.entry.Entry.{Entry}
use Rattle.pfs_model.specs.Actions.{IsAmong}
use Rattle.pfs_model.specs.Chains.{each_of}
use Rattle.pfs_model.specs.EntryPlaces.{Placed}
use Rattle.pfs_model.proofs.Members.{among_back, among_either, among_front}

-- the entry that gives it
pub record IsGiven {A : Type 0} (given : Entry → List A) (x : A) (ps : List Placed) : Type 0 where
  pub place : Placed
  pub among : IsAmong place ps
  pub gives : IsAmong x (given place.entry)

pub given_out : {A : Type 0} (given : Entry → List A) (x : A) (ps : List Placed) → IsAmong x (each_of given ps) → IsGiven given x ps
given_out given x [] m = absurd m
given_out given x (p ∷ ps) m = on (among_either x (given p.entry) (each_of given ps) m) (given_out given x ps) where
  on : IsAmong x (given p.entry) ⊎ IsAmong x (each_of given ps) → (IsAmong x (each_of given ps) → IsGiven given x ps) → IsGiven given x (p ∷ ps)
  on (inl a) go = record { place = p; among = inl refl; gives = a }
  on (inr b) go = let r : IsGiven given x ps = go b in record { place = r.place; among = inr r.among; gives = r.gives }

pub given_in : {A : Type 0} (given : Entry → List A) (x : A) (p : Placed) (ps : List Placed) → IsAmong p ps → IsAmong x (given p.entry) → IsAmong x (each_of given ps)
given_in given x p [] m a = absurd m
given_in given x p (y ∷ ps) (inl e) a = among_front x (given y.entry) (each_of given ps) (subst (λ (z : Placed). IsAmong x (given z.entry)) (sym e) a)
given_in given x p (y ∷ ps) (inr m) a = among_back x (given y.entry) (each_of given ps) (given_in given x p ps m a)

-- what some entries give, more of them give
pub given_more : {A : Type 0} (given : Entry → List A) (x : A) (ps qs : List Placed) → ((p : Placed) → IsAmong p ps → IsAmong p qs) → IsAmong x (each_of given ps) → IsAmong x (each_of given qs)
given_more given x ps qs sub m = let g : IsGiven given x ps = given_out given x ps m in given_in given x g.place qs (sub g.place g.among) g.gives

-- what one way gives, another does
pub given_as : {A B : Type 0} (given : Entry → List A) (other : Entry → List B) (x : A) (y : B) → ((e : Entry) → IsAmong x (given e) → IsAmong y (other e)) → (ps : List Placed) → IsAmong x (each_of given ps) → IsAmong y (each_of other ps)
given_as given other x y same ps m = let g : IsGiven given x ps = given_out given x ps m in given_in other y g.place ps g.among (same g.place.entry g.gives)
