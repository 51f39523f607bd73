-- Every starred figure, and every figure worked out for a request, holds of the definitions: each by a test that is computed.
use mathlib.Core.Path.{refl}
use native.Mathlib.Nat.{not-le_of_lt}
use lib.Dec.{lit<, lit≤}
use lib.Count.{ones}
use lib.Ieee.{of_bits, mul}
use Rattle.arithmetic.proofs.Cases.{impossible, unlike}
use Rattle.arithmetic.proofs.rounding.Compute.{up_test, rounds_up_test, cube_test, cube_test'}
use Rattle.scour.specs.discharge.Discharge.{to_500, to_5000, to_25000}
use Rattle.earth.specs.Earth.{has_coefficient}
use Rattle.current.specs.Current.{pushes}
use Rattle.arithmetic.specs.signed.Whole.{signed, worth, amount, above, below}
use Rattle.sets.specs.Sets.{bit, row}
use Rattle.sums.specs.Totals.{counted, countedℤ, sum, sumℤ, arm, v_moment, h_moment, moment, resists, overturns, resisting, overturning, N, H, M}
use Rattle.checks.specs.steps.Rounded.{Presses}
use Rattle.kinds.specs.classes.Classes.{class_of, source, optional}
use Rattle.loads.specs.LoadRows.{optionals}
use Rattle.lines.specs.Lines.{figure_exactness, exactness_of}
use Rattle.figures.specs.Figures.{needed, surcharge, optional_rows, position, named, braked_set, pressure, pressure_either, load_row, line_in_I, AllHold, none, more, starred, worked, trained, laden, sent, told}
use Rattle.figures.proofs.Loaded.{overturns_test}
use Rattle.figures.proofs.Laden.{near_test, far_test}
use Rattle.figures.proofs.Sent.{whole_shown, line_shown, pressure_shown}
use Rattle.figures.proofs.Recorded.{dead_given, wind_given}
use Rattle.figures.proofs.Told.{eighth_shown}
use Rattle.figures.proofs.Printed.{printed_in_I}
use Rattle.figures.proofs.Trained.{position_0, braking_ranged, position_17, first_named, second_named, itself_named, past_named, braked_permitted, without_train}

pub figures : AllHold starred
unfolding worth amount bit row sum counted resists overturns v_moment h_moment arm above below resisting overturning Presses
figures =
    more (to_500 (lit≤ tt) (up_test _ _ _ tt))
    (more (to_5000 (lit< tt) (lit≤ tt) (up_test _ _ _ tt))
    (more (to_25000 (lit< tt) (lit≤ tt) (up_test _ _ _ tt))
    (more (lit≤ tt)
    (more (not-le_of_lt (lit< tt))
    (more (cube_test _ _ _ _ tt)
    (more {x = needed _ _ _ _} (record { greatest = 10326; scour = up_test _ _ _ tt; rounded = rounds_up_test _ _ _ _ tt })
    (more (cube_test' _ _ _ _ tt)
    (more (cube_test' _ _ _ _ tt)
    (more (rounds_up_test _ _ _ _ tt)
    (more (has_coefficient refl (up_test _ _ _ tt) (up_test _ _ _ tt))
    (more (overturns_test _ _ _ _ _ _ tt tt)
    (more (overturns_test _ _ _ _ _ _ tt tt)
    (more {x = pressure _ _ _ _ _} (lit< tt, lit< tt, (λ h. absurd (not-le_of_lt (lit< tt) h)), λ h. up_test _ _ _ tt)
    (more {x = pressure_either _ _ _ _ _}
    (record {
      presses = (lit< tt, lit< tt, (λ h. up_test _ _ _ tt), λ h. absurd (not-le_of_lt h (lit≤ tt)));
      whole = up_test _ _ _ tt;
      part = up_test _ _ _ tt;
    })
    none))))))))))))))

pub worked_figures : AllHold worked
unfolding optionals optional class_of
worked_figures =
    more (pushes (lit≤ tt) (up_test _ _ _ tt) (up_test _ _ _ tt))
    (more (pushes (lit≤ tt) (up_test _ _ _ tt) (up_test _ _ _ tt))
    (more (pushes (lit≤ tt) (up_test _ _ _ tt) (up_test _ _ _ tt))
    (more (pushes (lit≤ tt) (up_test _ _ _ tt) (up_test _ _ _ tt))
    (more (pushes (lit≤ tt) (up_test _ _ _ tt) (up_test _ _ _ tt))
    (more (pushes (lit≤ tt) (up_test _ _ _ tt) (up_test _ _ _ tt))
    (more (pushes (lit≤ tt) (up_test _ _ _ tt) (up_test _ _ _ tt))
    (more (pushes (lit≤ tt) (up_test _ _ _ tt) (up_test _ _ _ tt))
    (more (pushes (lit≤ tt) (up_test _ _ _ tt) (up_test _ _ _ tt))
    (more (pushes (lit≤ tt) (up_test _ _ _ tt) (up_test _ _ _ tt))
    (more (pushes (lit≤ tt) (up_test _ _ _ tt) (up_test _ _ _ tt))
    (more {x = optional_rows _ _ _} refl
    none)))))))))))

pub surcharge_figures : AllHold laden
unfolding optionals optional class_of
surcharge_figures =
    more {x = surcharge _ _ _ _ _ _ _ _ _} (near_test _ 3257 2715 _ (λ e. unlike _ _ refl e) tt tt)
    (more {x = surcharge _ _ _ _ _ _ _ _ _} (near_test _ 2819 2349 _ (λ e. unlike _ _ refl e) tt tt)
    (more {x = surcharge _ _ _ _ _ _ _ _ _} (near_test _ 3173 2644 _ (λ e. unlike _ _ refl e) tt tt)
    (more {x = surcharge _ _ _ _ _ _ _ _ _} (near_test _ 2819 2349 _ (λ e. unlike _ _ refl e) tt tt)
    (more {x = surcharge _ _ _ _ _ _ _ _ _} (near_test _ 2434 2898 _ (λ e. unlike _ _ refl e) tt tt)
    (more {x = surcharge _ _ _ _ _ _ _ _ _} (near_test _ 2434 2898 _ (λ e. unlike _ _ refl e) tt tt)
    (more {x = surcharge _ _ _ _ _ _ _ _ _} (near_test _ 2244 3116 _ (λ e. unlike _ _ refl e) tt tt)
    (more {x = surcharge _ _ _ _ _ _ _ _ _} (near_test _ 3619 3016 _ (λ e. unlike _ _ refl e) tt tt)
    (more {x = surcharge _ _ _ _ _ _ _ _ _} (near_test _ 4705 3921 _ (λ e. unlike _ _ refl e) tt tt)
    (more {x = surcharge _ _ _ _ _ _ _ _ _} (near_test _ 12063 10053 _ (λ e. unlike _ _ refl e) tt tt)
    (more {x = surcharge _ _ _ _ _ _ _ _ _} (near_test _ 24199 24195 _ (λ e. unlike _ _ refl e) tt tt)
    (more {x = surcharge _ _ _ _ _ _ _ _ _} (near_test _ 24200 24200 _ (λ e. unlike _ _ refl e) tt tt)
    (more {x = surcharge _ _ _ _ _ _ _ _ _} (far_test _ 24205 24200 _ (λ e. unlike _ _ refl e) tt tt)
    (more {x = surcharge _ _ _ _ _ _ _ _ _} (far_test _ 3320 2034 _ (λ e. unlike _ _ refl e) tt tt)
    (more {x = surcharge _ _ _ _ _ _ _ _ _} (near_test _ 2515 1677 _ (λ e. unlike _ _ refl e) tt tt)
    (more {x = surcharge _ _ _ _ _ _ _ _ _} (near_test _ 1101 184 _ (λ e. unlike _ _ refl e) tt tt)
    (more {x = surcharge _ _ _ _ _ _ _ _ _} (near_test _ 30250 75625 _ (λ e. unlike _ _ refl e) tt tt)
    (more {x = surcharge _ _ _ _ _ _ _ _ _} (near_test _ 25268 105283 _ (λ e. unlike _ _ refl e) tt tt)
    (more {x = surcharge _ _ _ _ _ _ _ _ _} (near_test _ 2 1 _ (λ e. unlike _ _ refl e) tt tt)
    (more {x = optional_rows _ _ _} refl
    none)))))))))))))))))))

pub train_figures : AllHold trained
unfolding bit
train_figures =
    more {x = position _ _} position_0
    (more {x = position _ _} (braking_ranged 1 (lit≤ tt) (lit≤ tt))
    (more {x = position _ _} (braking_ranged 16 (lit≤ tt) (lit≤ tt))
    (more {x = position _ _} position_17
    (more {x = named _ _} first_named
    (more {x = named _ _} second_named
    (more {x = named _ _} itself_named
    (more {x = named _ _} past_named
    (more {x = braked_set _ _} (braked_permitted 1 (lit< tt) refl (λ b. impossible cc))
    (more {x = braked_set _ _} (braked_permitted 3 (lit< tt) refl (λ b. refl))
    (more {x = braked_set _ _} without_train
    (more {x = braked_set _ _} (braked_permitted 7 (lit< tt) refl (λ b. refl))
    none)))))))))))

pub reaction_figures : AllHold sent
unfolding of_bits mul
reaction_figures =
    whole_shown tt
    (whole_shown tt
    (whole_shown tt
    (whole_shown tt
    (whole_shown tt
    (whole_shown tt
    (whole_shown tt
    (whole_shown tt
    (whole_shown tt
    (whole_shown tt
    (line_shown tt
    (line_shown tt
    (line_shown tt
    (pressure_shown tt
    (more {x = load_row _ _ _ _ _ _} dead_given
    (more {x = load_row _ _ _ _ _ _} wind_given
    none)))))))))))))))

pub exactness_figures : AllHold told
unfolding class_of source signed worth amount bit row sum counted sumℤ countedℤ resists overturns v_moment h_moment moment arm above below N H M resisting overturning figure_exactness exactness_of ones
exactness_figures =
    eighth_shown tt tt tt
    (eighth_shown tt tt tt
    (eighth_shown tt tt tt
    (eighth_shown tt tt tt
    (eighth_shown tt tt tt
    (more {x = line_in_I _ _ _ _ _ _ _} (printed_in_I _ tt tt tt tt tt _ tt)
    (eighth_shown tt tt tt
    (eighth_shown tt tt tt
    (eighth_shown tt tt tt
    (eighth_shown tt tt tt
    (eighth_shown tt tt tt
    (eighth_shown tt tt tt
    (eighth_shown tt tt tt
    (eighth_shown tt tt tt
    (eighth_shown tt tt tt
    (eighth_shown tt tt tt
    (eighth_shown tt tt tt
    (eighth_shown tt tt tt
    (more {x = needed _ _ _ _} (record { greatest = 100; scour = up_test _ _ _ tt; rounded = rounds_up_test _ _ _ _ tt })
    (more {x = needed _ _ _ _} (record { greatest = 5; scour = up_test _ _ _ tt; rounded = rounds_up_test _ _ _ _ tt })
    (more (cube_test _ _ _ _ tt)
    (more (rounds_up_test _ _ _ _ tt)
    (more (rounds_up_test _ _ _ _ tt)
    none))))))))))))))))))))))
