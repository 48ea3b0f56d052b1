-- What a session's entries tell, along all entries: each stands where the one before left off, or a line later.
use Rattle.std.proofs.Common.{◌≡◌, refl, ℕ, ◌==◌, Bool, true, false, cond, List, [], ◌∷◌, ◌++◌, sym, ap, subst, ◌∙◌, ◌⊎◌, inl, inr}
use Rattle.std.proofs.lemmas.Bool.{eqb-true}
use Rattle.pfs_lemmas.proofs.Numbers.{eq_self}
use Rattle.pfs_event.specs.declared.entry.Entry.{Entry}
use Rattle.pfs_model.specs.Contexts.{Context, fresh, subject_of, noted, turned, after_entries, after}
use Rattle.pfs_model.specs.EntryPlaces.{Block, Placed, placed_part, placed_lines, after_lines, told_by, places_behind, places}
use Rattle.pfs_model.specs.declared.lines.Line.{Line}

-- the same, or a line later
abbrev pub Comes : Context → Context → Type 0
Comes c d = (d ≡ c) ⊎ (d ≡ turned c)

-- behind an entry, of this session or another
abbrev pub then_told : ℕ → Context → Placed → Context
then_told session c p = cond (p.session == session) (noted (subject_of p.line) p.context p.entry) c

abbrev pub told_to : ℕ → Context → List Placed → Context
told_to session c [] = c
told_to session c (p ∷ ps) = told_to session (then_told session c p) ps

abbrev pub Follow : ℕ → Context → List Placed → Type 0
Follow session c [] = Unit {0}
Follow session c (p ∷ ps) = ((p.session == session) ≡ true → Comes c p.context) × Follow session (then_told session c p) ps

pub record IsFollowed (session : ℕ) (c : Context) (ps : List Placed) (d : Context) : Type 0 where
  pub follow : Follow session c ps
  pub ends : Comes (told_to session c ps) d

comes_then : (b c d : Context) → Comes b c → Comes c d → Comes b d
comes_then b c d (inl e) (inl f) = inl (f ∙ e)
comes_then b c d (inl e) (inr f) = inr (f ∙ ap turned e)
comes_then b c d (inr e) (inl f) = inr (f ∙ e)
comes_then b c d (inr e) (inr f) = inr (f ∙ ap turned e)

module _ (session : ℕ) where
  -- from a line before
  follow_comes : (c d : Context) (ps : List Placed) → Comes c d → Follow session d ps → Follow session c ps
  follow_comes c d [] k f = tt
  follow_comes c d (p ∷ ps) k f = ((λ q. comes_then c d p.context k (f.0 q)), at (p.session == session) f.1 (λ g. follow_comes c d ps k g)) where
    at : (b : Bool) → Follow session (cond b (noted (subject_of p.line) p.context p.entry) d) ps → (Follow session d ps → Follow session c ps) → Follow session (cond b (noted (subject_of p.line) p.context p.entry) c) ps
    at true f go = f
    at false f go = go f

  told_comes : (c d e : Context) (ps : List Placed) → Comes c d → Comes (told_to session d ps) e → Comes (told_to session c ps) e
  told_comes c d e [] k t = comes_then c d e k t
  told_comes c d e (p ∷ ps) k t = at (p.session == session) t (λ u. told_comes c d e ps k u) where
    at : (b : Bool) → Comes (told_to session (cond b (noted (subject_of p.line) p.context p.entry) d) ps) e → (Comes (told_to session d ps) e → Comes (told_to session c ps) e) → Comes (told_to session (cond b (noted (subject_of p.line) p.context p.entry) c) ps) e
    at true t go = t
    at false t go = go t

  comes_followed : (c d e : Context) (ps : List Placed) → Comes c d → IsFollowed session d ps e → IsFollowed session c ps e
  comes_followed c d e ps k f = record { follow = follow_comes c d ps k f.follow; ends = told_comes c d e ps k f.ends }

  follow_then : (c d : Context) (xs ys : List Placed) → Follow session c xs → Comes (told_to session c xs) d → Follow session d ys → Follow session c (xs ++ ys)
  follow_then c d [] ys f k g = follow_comes c d ys k g
  follow_then c d (x ∷ xs) ys f k g = (f.0, follow_then (then_told session c x) d xs ys f.1 k g)

  told_then : (c d e : Context) (xs ys : List Placed) → Comes (told_to session c xs) d → Comes (told_to session d ys) e → Comes (told_to session c (xs ++ ys)) e
  told_then c d e [] ys k t = told_comes c d e ys k t
  told_then c d e (x ∷ xs) ys k t = told_then (then_told session c x) d e xs ys k t

  followed_then : (c d e : Context) (xs ys : List Placed) → IsFollowed session c xs d → IsFollowed session d ys e → IsFollowed session c (xs ++ ys) e
  followed_then c d e xs ys f g = record {
    follow = follow_then c d xs ys f.follow f.ends g.follow;
    ends = told_then c d e xs ys f.ends g.ends;
  }

  -- the session's own lines
  followed_part : (phase : ℕ) (line : Line) (c : Context) (entries : List Entry) → IsFollowed session c (placed_part phase session line c entries) (after_entries (subject_of line) c entries)
  followed_part phase line c [] = record { follow = tt; ends = inl refl }
  followed_part phase line c (e ∷ es) = on (eq_self session) (followed_part phase line (noted (subject_of line) c e) es) where
    on : (session == session) ≡ true → IsFollowed session (noted (subject_of line) c e) (placed_part phase session line (noted (subject_of line) c e) es) (after_entries (subject_of line) (noted (subject_of line) c e) es)
        → IsFollowed session c (placed_part phase session line c (e ∷ es)) (after_entries (subject_of line) c (e ∷ es))
    on q f = record {
      follow = ((λ z. inl refl), subst (λ z. Follow session (cond z (noted (subject_of line) c e) c) (placed_part phase session line (noted (subject_of line) c e) es)) (sym q) f.follow);
      ends = subst (λ z. Comes (told_to session (cond z (noted (subject_of line) c e) c) (placed_part phase session line (noted (subject_of line) c e) es)) (after_entries (subject_of line) (noted (subject_of line) c e) es)) (sym q) f.ends;
    }

  followed_lines : (phase : ℕ) (c : Context) (lines : List Line) (parts : List (List Entry)) → IsFollowed session c (placed_lines phase session c lines parts) (after_lines c lines parts)
  followed_lines phase c [] parts = record { follow = tt; ends = inl refl }
  followed_lines phase c (line ∷ lines) [] = record { follow = tt; ends = inl refl }
  followed_lines phase c (line ∷ lines) (part ∷ parts) =
      followed_then c (after c line part) (after_lines (after c line part) lines parts) (placed_part phase session line (turned c) part) (placed_lines phase session (after c line part) lines parts)
      (comes_followed c (turned c) (after c line part) (placed_part phase session line (turned c) part) (inr refl) (followed_part phase line (turned c) part))
      (followed_lines phase (after c line part) lines parts)

  -- another's lines
  other_part : (phase other : ℕ) (line : Line) (c d : Context) (entries : List Entry) → (other == session) ≡ false → IsFollowed session d (placed_part phase other line c entries) d
  other_part phase other line c d [] n = record { follow = tt; ends = inl refl }
  other_part phase other line c d (e ∷ es) n = on (other_part phase other line (noted (subject_of line) c e) d es n) where
    on : IsFollowed session d (placed_part phase other line (noted (subject_of line) c e) es) d → IsFollowed session d (placed_part phase other line c (e ∷ es)) d
    on f = record {
      follow = ((λ z. absurd (let k : true ≡ false = sym z ∙ n in cc)), subst (λ z. Follow session (cond z (noted (subject_of line) c e) d) (placed_part phase other line (noted (subject_of line) c e) es)) (sym n) f.follow);
      ends = subst (λ z. Comes (told_to session (cond z (noted (subject_of line) c e) d) (placed_part phase other line (noted (subject_of line) c e) es)) d) (sym n) f.ends;
    }

  other_lines : (phase other : ℕ) (c d : Context) (lines : List Line) (parts : List (List Entry)) → (other == session) ≡ false → IsFollowed session d (placed_lines phase other c lines parts) d
  other_lines phase other c d [] parts n = record { follow = tt; ends = inl refl }
  other_lines phase other c d (line ∷ lines) [] n = record { follow = tt; ends = inl refl }
  other_lines phase other c d (line ∷ lines) (part ∷ parts) n =
      followed_then d d d (placed_part phase other line (turned c) part) (placed_lines phase other (after c line part) lines parts)
      (other_part phase other line (turned c) d part n)
      (other_lines phase other (after c line part) d lines parts n)

  pub told_more : (c : Context) (earlier : List Block) (b : Block) → told_by session c (earlier ++ b ∷ []) ≡ cond (b.session == session) (after_lines (told_by session c earlier) b.lines b.parts) (told_by session c earlier)
  told_more c [] b = refl
  told_more c (x ∷ xs) b = told_more (cond (x.session == session) (after_lines c x.lines x.parts) c) xs b

  followed_blocks : (earlier blocks : List Block) → IsFollowed session (told_by session fresh earlier) (places_behind earlier blocks) (told_by session (told_by session fresh earlier) blocks)
  unfolding places_behind
  followed_blocks earlier [] = record { follow = tt; ends = inl refl }
  followed_blocks earlier (b ∷ blocks) = at (b.session == session) refl (followed_blocks (earlier ++ b ∷ []) blocks) where
    now : Context
    now = told_by session fresh earlier

    at : (x : Bool) → (b.session == session) ≡ x
        → IsFollowed session (told_by session fresh (earlier ++ b ∷ [])) (places_behind (earlier ++ b ∷ []) blocks) (told_by session (told_by session fresh (earlier ++ b ∷ [])) blocks)
        → IsFollowed session (told_by session fresh earlier) (placed_lines b.phase b.session (told_by b.session fresh earlier) b.lines b.parts ++ places_behind (earlier ++ b ∷ []) blocks) (told_by session (cond x (after_lines (told_by session fresh earlier) b.lines b.parts) (told_by session fresh earlier)) blocks)
    at true q ih =
        let next : Context = after_lines (told_by session fresh earlier) b.lines b.parts in
        let e : told_by session fresh (earlier ++ b ∷ []) ≡ next = told_more fresh earlier b ∙ ap (λ z. cond z (after_lines (told_by session fresh earlier) b.lines b.parts) (told_by session fresh earlier)) q in
        followed_then (told_by session fresh earlier) next (told_by session next blocks) (placed_lines b.phase b.session (told_by b.session fresh earlier) b.lines b.parts) (places_behind (earlier ++ b ∷ []) blocks)
        (subst (λ s. IsFollowed session (told_by session fresh earlier) (placed_lines b.phase s (told_by s fresh earlier) b.lines b.parts) next) (sym (eqb-true b.session session q)) (followed_lines b.phase (told_by session fresh earlier) b.lines b.parts))
        (subst (λ c. IsFollowed session c (places_behind (earlier ++ b ∷ []) blocks) (told_by session c blocks)) e ih)
    at false q ih =
        let e : told_by session fresh (earlier ++ b ∷ []) ≡ told_by session fresh earlier = told_more fresh earlier b ∙ ap (λ z. cond z (after_lines (told_by session fresh earlier) b.lines b.parts) (told_by session fresh earlier)) q in
        followed_then (told_by session fresh earlier) (told_by session fresh earlier) (told_by session (told_by session fresh earlier) blocks) (placed_lines b.phase b.session (told_by b.session fresh earlier) b.lines b.parts) (places_behind (earlier ++ b ∷ []) blocks)
        (other_lines b.phase b.session (told_by b.session fresh earlier) (told_by session fresh earlier) b.lines b.parts q)
        (subst (λ c. IsFollowed session c (places_behind (earlier ++ b ∷ []) blocks) (told_by session c blocks)) e ih)

  -- of all entries
  pub all_followed : (blocks : List Block) → IsFollowed session fresh (places blocks) (told_by session fresh blocks)
  all_followed blocks = followed_blocks [] blocks
