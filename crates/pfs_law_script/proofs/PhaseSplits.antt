-- Where a phase begins among the lines of a script.
use Rattle.std.proofs.Common.{◌≡◌, true, false, cond, List, [], ◌∷◌, ◌++◌, refl, ap, sym, ◌∙◌, append_assoc, append-nil, inl, inr}
use Rattle.std.proofs.lemmas.Bool.{cases_Bool}
use Rattle.pfs_script.specs.declared.forms.Form.{Form}
use Rattle.pfs_script.specs.declared.forms.Form.TheVariants as form
use Rattle.pfs_script.specs.declared.blocks.Block.{Block}
use Rattle.pfs_script.specs.declared.blocks.BlockLine.{BlockLine}
use Rattle.pfs_script.specs.declared.blocks.Phase.{Phase}
use Rattle.pfs_script.specs.Sessions.{is_phase}
use Rattle.pfs_script.specs.Blocks.{Sense, with_front, block_lines, block_with, blocks_of, phases_of}
use Rattle.pfs_script.proofs.BlockNests.{Stand}
use Rattle.pfs_law_script.proofs.PhasePrefixes.{block_cut}

pub stand_behind : (before lines rest : List Form) → Stand before (lines ++ rest) → Stand (before ++ lines) rest
stand_behind before [] rest s = rw append-nil s
stand_behind before (line ∷ lines) rest s = rw append_assoc at (stand_behind (before ++ line ∷ []) lines rest s.1)

module _ (sense : Sense) where
  -- a phase ends where the next one begins
  phase_cut : (lines rest : List Form) → blocks_of sense (lines ++ form.Phase ∷ rest) ≡ blocks_of sense lines
  unfolding blocks_of
  phase_cut [] rest = refl
  phase_cut (line ∷ lines) rest =
      ap (λ (said : List BlockLine). cond (is_phase line) []
      (with_front (block_with sense.names said line) (blocks_of sense (lines ++ form.Phase ∷ rest))))
      (block_cut sense lines rest)
      ∙ ap (λ (blocks : List Block). cond (is_phase line) []
      (with_front (block_with sense.names (block_lines sense lines) line) blocks)) (phase_cut lines rest)

  -- the lines before a phase and behind its line
  pub record Splits (lines : List Form) (before : List Phase) (phase : Phase) (after : List Phase) : Type 0 where
    pub front : List Form
    pub rest : List Form
    pub are : lines ≡ front ++ form.Phase ∷ rest
    pub earlier : before ≡ phases_of sense front
    pub here : phase ≡ record { blocks = blocks_of sense rest }
    pub later : after ≡ phases_of sense rest

  begins : (line : Form) (lines : List Form) → is_phase line ≡ true
      → phases_of sense (line ∷ lines) ≡ record { blocks = blocks_of sense lines } ∷ phases_of sense lines
  unfolding phases_of
  begins line lines p = rw p refl

  goes_on : (line : Form) (lines : List Form) → is_phase line ≡ false
      → phases_of sense (line ∷ lines) ≡ phases_of sense lines
  unfolding phases_of
  goes_on line lines p = rw p refl

  none : phases_of sense [] ≡ []
  unfolding phases_of
  none = refl

  phase_is : (line : Form) → is_phase line ≡ true → line ≡ form.Phase
  phase_is form.Phase h = refl
  phase_is _ h = cc

  no_split : (before : List Phase) (phase : Phase) (after : List Phase) → [] ≡ before ++ phase ∷ after → ⊥
  no_split [] phase after e = cc
  no_split (one ∷ before) phase after e = cc

  split_here : (line : Form) (lines : List Form) (phase : Phase) (after : List Phase) → is_phase line ≡ true
      → record { blocks = blocks_of sense lines } ∷ phases_of sense lines ≡ phase ∷ after
      → Splits (line ∷ lines) [] phase after
  split_here line lines phase after p e = record {
    front = [];
    rest = lines;
    are = ap (λ one. one ∷ lines) (phase_is line p);
    earlier = sym none;
    here = cc;
    later = cc;
  }

  split_behind : (line : Form) (lines : List Form) (one : Phase) (before : List Phase) (phase : Phase)
      (after : List Phase) → is_phase line ≡ true → one ≡ record { blocks = blocks_of sense lines }
      → Splits lines before phase after → Splits (line ∷ lines) (one ∷ before) phase after
  split_behind line lines one before phase after p e s = record {
    front = form.Phase ∷ s.front;
    rest = s.rest;
    are = ap (λ one. one ∷ lines) (phase_is line p) ∙ ap (λ lines. form.Phase ∷ lines) s.are;
    earlier =
        ap (λ one. one ∷ before) (e ∙ ap (λ (blocks : List Block). record { blocks = blocks })
        (ap (blocks_of sense) s.are ∙ phase_cut s.front s.rest))
        ∙ (ap (λ phases. record { blocks = blocks_of sense s.front } ∷ phases) s.earlier
        ∙ sym (begins form.Phase s.front refl));
    here = s.here;
    later = s.later;
  }

  split_on : (line : Form) (lines : List Form) (before : List Phase) (phase : Phase) (after : List Phase)
      → is_phase line ≡ false → Splits lines before phase after → Splits (line ∷ lines) before phase after
  split_on line lines before phase after p s = record {
    front = line ∷ s.front;
    rest = s.rest;
    are = ap (λ lines. line ∷ lines) s.are;
    earlier = s.earlier ∙ sym (goes_on line s.front p);
    here = s.here;
    later = s.later;
  }

  split_at : (line : Form) (lines : List Form) (before : List Phase) (phase : Phase) (after : List Phase)
      → is_phase line ≡ true
      → ((before : List Phase) → phases_of sense lines ≡ before ++ phase ∷ after → Splits lines before phase after)
      → record { blocks = blocks_of sense lines } ∷ phases_of sense lines ≡ before ++ phase ∷ after
      → Splits (line ∷ lines) before phase after
  split_at line lines [] phase after p further e = split_here line lines phase after p e
  split_at line lines (one ∷ before) phase after p further e =
      split_behind line lines one before phase after p (cc) (further before (cc))

  pub split : (lines : List Form) (before : List Phase) (phase : Phase) (after : List Phase)
      → phases_of sense lines ≡ before ++ phase ∷ after → Splits lines before phase after
  split [] before phase after e = absurd (no_split before phase after (sym none ∙ e))
  split (line ∷ lines) before phase after e =
      elim (cases_Bool (is_phase line)) [
        | inl p ↦
            split_at line lines before phase after p (λ before h. split lines before phase after h)
            (sym (begins line lines p) ∙ e)
        | inr p ↦
            split_on line lines before phase after p
            (split lines before phase after (sym (goes_on line lines p) ∙ e))
      ]
