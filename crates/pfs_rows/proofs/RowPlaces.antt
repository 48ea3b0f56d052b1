-- Each row below the last is a place.
use Rattle.std.proofs.Common.{◌≡◌, ℕ, ◌-◌, ◌/◌, ◌%◌, ◌<◌, inl, inr, arith}
use Rattle.std.proofs.lemmas.Bool.{cases_lt}
use Rattle.pfs_rows.specs.declared.place.Place.{Place}
use Rattle.pfs_rows.specs.declared.place.Place.TheVariants.{Admin, ThreadInfo, AccountInfo, UserInfo, HostInfo, ThreadCell, AccountCell, UserCell, HostCell, GlobalCell, DigestNull, Digest, Ring, Long}
use Rattle.pfs_rows.specs.Rows.{IsPlace, row_number}

pub found : (row : ℕ) → row < 14242 → (p : Place) × IsPlace p × (row_number p ≡ row)
found row h =
    elim (cases_lt row 1) [
      | inl below ↦ (Admin, tt, omega arith)
      | inr from_1 ↦
          elim (cases_lt row 33) [
            | inl below ↦ (ThreadInfo (row - 1), omega arith, omega arith)
            | inr from_2 ↦
                elim (cases_lt row 65) [
                  | inl below ↦ (AccountInfo (row - 33), omega arith, omega arith)
                  | inr from_3 ↦
                      elim (cases_lt row 97) [
                        | inl below ↦ (UserInfo (row - 65), omega arith, omega arith)
                        | inr from_4 ↦
                            elim (cases_lt row 129) [
                              | inl below ↦ (HostInfo (row - 97), omega arith, omega arith)
                              | inr from_5 ↦
                                  elim (cases_lt row 2177) [
                                    | inl below ↦ (ThreadCell ((row - 129) / 64) ((row - 129) % 64), (omega arith, omega arith), omega arith)
                                    | inr from_6 ↦
                                        elim (cases_lt row 4225) [
                                          | inl below ↦ (AccountCell ((row - 2177) / 64) ((row - 2177) % 64), (omega arith, omega arith), omega arith)
                                          | inr from_7 ↦
                                              elim (cases_lt row 6273) [
                                                | inl below ↦ (UserCell ((row - 4225) / 64) ((row - 4225) % 64), (omega arith, omega arith), omega arith)
                                                | inr from_8 ↦
                                                    elim (cases_lt row 8321) [
                                                      | inl below ↦ (HostCell ((row - 6273) / 64) ((row - 6273) % 64), (omega arith, omega arith), omega arith)
                                                      | inr from_9 ↦
                                                          elim (cases_lt row 8385) [
                                                            | inl below ↦ (GlobalCell (row - 8321), omega arith, omega arith)
                                                            | inr from_10 ↦
                                                                elim (cases_lt row 8386) [
                                                                  | inl below ↦ (DigestNull, tt, omega arith)
                                                                  | inr from_11 ↦
                                                                      elim (cases_lt row 8450) [
                                                                        | inl below ↦ (Digest (row - 8386), omega arith, omega arith)
                                                                        | inr from_12 ↦
                                                                            elim (cases_lt row 10242) [
                                                                              | inl below ↦ (Ring ((row - 8450) / 56) ((row - 8450) % 56), (omega arith, omega arith), omega arith)
                                                                              | inr from_13 ↦
                                                                                  (Long ((row - 10242) / 1000) ((row - 10242) % 1000), (omega arith, omega arith), omega arith)
                                                                            ]
                                                                      ]
                                                                ]
                                                          ]
                                                    ]
                                              ]
                                        ]
                                  ]
                            ]
                      ]
                ]
          ]
    ]
