-- The worked run, by computation.
use Rattle.std.proofs.Common.{ℕ, zero, suc, ◌≡◌, ◌+◌, ◌<◌, Bool, true, cond, nat_lt, ◌&&◌, ne_eqb, refl, ap, sym, ◌∙◌, List, [], ◌∷◌, ◌++◌, length, Some, None, arith}
use Rattle.std.specs.Prelude.{◌-◌, slice_get}
use Rattle.std.proofs.lemmas.Bool.{false≢true, and_parts, ltb-true}
use Rattle.std.proofs.lemmas.Option.{none-some, same_Some}
use Rattle.pfs_admin.specs.Fold.{state_from}
use Rattle.pfs_classes.specs.declared.setting.Setting.{Setting}
use Rattle.pfs_containers.specs.Administration.{Containers}
use Rattle.pfs_containers.specs.ContainerState.{opening, with_connect, with_quit}
use Rattle.pfs_model.specs.Actions.{numbers_by}
use Rattle.pfs_model.specs.Chains.{change_at, action_change, each_of}
use Rattle.pfs_model.specs.Cuts.{cut, behind}
use Rattle.pfs_model.specs.JournalCuts.{joined}
use Rattle.pfs_model.specs.EntryPlaces.{Placed, places_behind, up_to_phase, IsShaped}
use Rattle.pfs_model.specs.declared.changes.Change.{Change as Numbered}
use Rattle.pfs_model.specs.Puts.{AreBrought}
use Rattle.pfs_rows.specs.declared.limits.Limits.{Limits}
use Rattle.pfs_script.specs.Marks.{written_from}
use Rattle.pfs_runs.specs.PhaseFinals.{lost_behind}
use Rattle.pfs_runs.specs.Runs.{ArePhasesOf, all_blocks}
use Rattle.pfs_runs.specs.RunExamples.{WorkedBlocks, WorkedEnds, limits, phases, reports, labels, all, lost, lost_by_phase, blocks as journals}

phased : ArePhasesOf 1 phases reports journals
unfolding joined written_from
phased = (
  refl,
  (
    record { phase_is = refl; session = refl; reported = refl; lines = refl; entries = refl },
    (record { phase_is = refl; session = refl; reported = refl; lines = refl; entries = refl }, tt),
  ),
  (
    refl,
    (
      record { phase_is = refl; session = refl; reported = refl; lines = refl; entries = refl },
      (record { phase_is = refl; session = refl; reported = refl; lines = refl; entries = refl }, tt),
    ),
    (refl, (record { phase_is = refl; session = refl; reported = refl; lines = refl; entries = refl }, tt), tt),
  ),
)

shaped : IsShaped (all_blocks journals)
unfolding cut behind written_from
shaped = (
  omega arith,
  (refl, (refl, (refl, (refl, (refl, (refl, (refl, (refl, (refl, (refl, (refl, (refl, (refl, (refl, (refl, (refl, (refl, (refl, tt)))))))))))))))))),
  (
    omega arith,
    (refl, (refl, (refl, (refl, tt)))),
    (omega arith, (refl, tt), (omega arith, (refl, (refl, tt)), (omega arith, (refl, (refl, tt)), tt))),
  ),
)

-- the label of a number that is the action's
its_label : (action : ℕ) (number : Numbered) → Some (change_at 0 action) ≡ Some number
    → slice_get labels (number.version - 1) ≡ slice_get labels (action - 1)
its_label action number is = ap (λ one. slice_get labels (one.version - 1)) (sym (same_Some (change_at 0 action) number is))

-- no number stands there
nobody : {A : Type 0} {number : Numbered} → None ≡ Some number → A
nobody {number = number} is = absurd (none-some number is)

-- of other sessions no entry is there
abbrev are_of_three : List Placed → Bool
are_of_three [] = true
are_of_three (place ∷ places) = nat_lt place.session 4 && are_of_three places

others_none : (session : ℕ) (places : List Placed) → are_of_three places ≡ true → numbers_by (suc (suc (suc (suc session)))) places ≡ []
others_none session [] h = refl
others_none session (place ∷ places) h =
    let p = and_parts (nat_lt place.session 4) (are_of_three places) h in
    ap (λ b. cond b (action_change place.entry) [] ++ numbers_by (suc (suc (suc (suc session)))) places)
    (ne_eqb place.session (suc (suc (suc (suc session)))) (λ e. absurd (omega (arith, e, ltb-true place.session 4 p.0))))
    ∙ others_none session places p.1

of_three : are_of_three all ≡ true
unfolding places_behind written_from
of_three = refl

each_label : (session i : ℕ) (number : Numbered) → slice_get (numbers_by session all) i ≡ Some number
    → slice_get labels (number.version - 1) ≡ Some (record { session = session; line = i + 1 })
unfolding places_behind written_from
each_label zero i number is = nobody is
each_label (suc zero) zero number is = its_label 1 number is
each_label (suc zero) (suc zero) number is = its_label 3 number is
each_label (suc zero) (suc (suc i)) number is = nobody is
each_label (suc (suc zero)) zero number is = its_label 2 number is
each_label (suc (suc zero)) (suc i) number is = nobody is
each_label (suc (suc (suc zero))) zero number is = its_label 4 number is
each_label (suc (suc (suc zero))) (suc i) number is = nobody is
each_label (suc (suc (suc (suc session)))) i number is =
    nobody (ap (λ numbers. slice_get numbers i) (sym (others_none session all of_three)) ∙ is)

few_labels : length labels ≡ length (each_of action_change all)
unfolding places_behind written_from
few_labels = refl

-- the first statement is offered to its current place, and isn't put there
offered : AreBrought (λ word version. 12296) all → ⊥
unfolding places_behind written_from
offered other = other.1.1.1.1.1.0

brought : AreBrought (λ word version. 12288) all
unfolding places_behind written_from
brought = (
  tt,
  (
    tt,
    (
      tt,
      (
        tt,
        (
          tt,
          (
            tt,
            (
              tt,
              (
                tt,
                (
                  tt,
                  (
                    tt,
                    (
                      tt,
                      (
                        tt,
                        (
                          tt,
                          (
                            tt,
                            (
                              tt,
                              (
                                tt,
                                (
                                  (refl, tt),
                                  (
                                    tt,
                                    (
                                      (refl, tt),
                                      (
                                        tt,
                                        (
                                          (refl, tt),
                                          (
                                            tt,
                                            (
                                              (refl, tt),
                                              (
                                                tt,
                                                (
                                                  (refl, tt),
                                                  (
                                                    tt,
                                                    (
                                                      tt,
                                                      (
                                                        tt,
                                                        (
                                                          tt,
                                                          (
                                                            tt,
                                                            (
                                                              tt,
                                                              (
                                                                tt,
                                                                (
                                                                  tt,
                                                                  (
                                                                    tt,
                                                                    (
                                                                      tt,
                                                                      (
                                                                        tt,
                                                                        (
                                                                          tt,
                                                                          (
                                                                            tt,
                                                                            (
                                                                              tt,
                                                                              (
                                                                                tt,
                                                                                (
                                                                                  tt,
                                                                                  (
                                                                                    tt,
                                                                                    (
                                                                                      tt,
                                                                                      (
                                                                                        tt,
                                                                                        (
                                                                                          tt,
                                                                                          (
                                                                                            tt,
                                                                                            (
                                                                                              tt,
                                                                                              (
                                                                                                tt,
                                                                                                tt,
                                                                                              ),
                                                                                            ),
                                                                                          ),
                                                                                        ),
                                                                                      ),
                                                                                    ),
                                                                                  ),
                                                                                ),
                                                                              ),
                                                                            ),
                                                                          ),
                                                                        ),
                                                                      ),
                                                                    ),
                                                                  ),
                                                                ),
                                                              ),
                                                            ),
                                                          ),
                                                        ),
                                                      ),
                                                    ),
                                                  ),
                                                ),
                                              ),
                                            ),
                                          ),
                                        ),
                                      ),
                                    ),
                                  ),
                                ),
                              ),
                            ),
                          ),
                        ),
                      ),
                    ),
                  ),
                ),
              ),
            ),
          ),
        ),
      ),
    ),
  ),
)

pub blocks : WorkedBlocks
blocks = record {
  phases_are = phased;
  counted_from_one = λ other. absurd (omega (arith, other.0));
  empty_numbered = λ other. absurd (omega (arith, other.0));
  none_missing = λ never. never;
  shaped = shaped;
  labelled = record { few = few_labels; each = each_label };
  brought = brought;
  offered = offered;
  lost_added = refl;
  lost_held = refl;
  lost_settled = refl;
  not_lost = refl;
}

-- the containers behind the actions up to a phase's end, by the limits alone
abbrev first_kept : Limits → Containers
first_kept limits = (with_connect (with_connect (opening limits) 1 0 1) 2 0 1).now

abbrev second_kept : Limits → Containers
second_kept limits = (with_quit (with_connect (with_connect (opening limits) 1 0 1) 2 0 1) 1).now

abbrev third_kept : Limits → Containers
third_kept limits = (with_connect (with_quit (with_connect (with_connect (opening limits) 1 0 1) 2 0 1) 1) 3 0 1).now

first_lost : (setting : Setting) → setting.limits ≡ limits → lost_by_phase setting 1 ≡ lost
unfolding places_behind written_from state_from
first_lost setting is = ap (λ limits. lost_behind (first_kept limits) (up_to_phase 1 all)) is

second_lost : (setting : Setting) → setting.limits ≡ limits → lost_by_phase setting 2 ≡ lost
unfolding places_behind written_from state_from
second_lost setting is = ap (λ limits. lost_behind (second_kept limits) (up_to_phase 2 all)) is

third_lost : (setting : Setting) → setting.limits ≡ limits → lost_by_phase setting 3 ≡ record lost { accounts = 2 }
unfolding places_behind written_from state_from
third_lost setting is = ap (λ limits. lost_behind (third_kept limits) (up_to_phase 3 all)) is

pub ended : WorkedEnds
unfolding places_behind written_from state_from
ended setting limits_are content flags = record {
  info = refl;
  info_left = refl;
  info_again = refl;
  info_unused = refl;
  cell = refl;
  cell_taken = refl;
  cell_unused = refl;
  ring = refl;
  word = refl;
  word_left = refl;
  word_unused = refl;
  lost_first = first_lost setting limits_are;
  lost_second = second_lost setting limits_are;
  lost_third = third_lost setting limits_are;
  lost_before = refl;
}
