-- What `scour` and `clearance` tell of a row, told of its job: a refusal of a row is one of the job, the lower of two comes first, and no
-- other holds beside what is told.
use Prim.Native.Nat.{ℕ, ◌≤◌}
use mathlib.Core.Path.{◌≡◌, subst, subst⁻¹}
use mathlib.Core.Bool.{Bool}
use Rattle.arithmetic.proofs.Cases.{impossible}
use Rattle.arithmetic.specs.decides.Decides.{Decides}
use Rattle.arithmetic.proofs.Deciding.{decided, refuted}
use Rattle.kinds.specs.ranges.Range.{Ranged}
use Rattle.kinds.specs.declared.Kind.TheVariants.{S, C}
use Rattle.jobs.specs.declared.Job.{Job}
use Rattle.jobs.specs.stages.Rows.{HasScour, HasClearance}
use Rattle.scour.specs.Scour as scour
use Rattle.scour.specs.ScourRow as scour_row
use Rattle.arithmetic.specs.declared.signed.Amount.{Amount}
use Rattle.clearance.specs.ClearanceRow as told
use Rattle.clearance.specs.Clear as clearing
use Rattle.clearance.specs.declared.VerticalClearance.{VerticalClearance}
use Rattle.clearance.specs.declared.ClearanceRefusal.{ClearanceRefusal}
use Rattle.clearance.specs.declared.ClearanceRefusal.TheVariants as clearance
use Rattle.kinds.specs.declared.refusals.JobRefusal.{JobRefusal}
use Rattle.kinds.specs.declared.refusals.JobRefusal.TheVariants as refusal
use Rattle.kinds.specs.refusals.Refusals.{refusal_number}
use Rattle.kinds.proofs.Numbered.{refusal_one}
use Rattle.std.proofs.Common.{Result, Ok, Err}
use Rattle.scour.proofs.Scours.{scour_rule_one}
use Rattle.clearance.proofs.Clearances as clearances
use Rattle.lines.specs.declared.RiverLine.{RiverLine}
use Rattle.lines.specs.declared.RiverLine.TheVariants as lines
use Rattle.answer.specs.river.River.{OnRock, DepthIs, ClearIs}
use Rattle.answer.specs.river.steps.Says.{LargeCatchment, TooIntense, OverObstructed, ScourAllowed, RiverSays}
use Rattle.answer.specs.river.steps.Says as says
use Rattle.answer.specs.river.steps.Rows.{DepthLineIs, DepthGiven, ClearLineIs, ClearGiven, both}

-- ---- what each row gives its job

abbrev DepthRanged : Job → Type 0
DepthRanged job = HasScour job.stage → Ranged S job.scour

abbrev ClearRanged : Job → Type 0
ClearRanged job = HasClearance job.stage → Ranged C job.clearance

pub data DepthGives (job : Job) : Result RiverLine JobRefusal → Type 0 where
  out_of_range : (DepthRanged job → ⊥) → DepthGives job (Err refusal.OutOfRange)
  large : DepthRanged job → LargeCatchment job → DepthGives job (Err refusal.LargeCatchment)
  intense : DepthRanged job → TooIntense job → DepthGives job (Err refusal.TooIntense)
  line : {l : RiverLine} → DepthRanged job → ScourAllowed job → DepthIs job l → DepthGives job (Ok l)

pub data ClearGives (job : Job) : Result RiverLine JobRefusal → Type 0 where
  unranged : (ClearRanged job → ⊥) → ClearGives job (Err refusal.OutOfRange)
  obstructed : ClearRanged job → OverObstructed job → ClearGives job (Err refusal.OverObstructed)
  clear : {l : RiverLine} → ClearRanged job → (OverObstructed job → ⊥) → ClearIs job l → ClearGives job (Ok l)

module _ (job : Job) where
  -- a row that is not there
  pub no_depth : (HasScour job.stage → ⊥) → DepthGives job (Ok lines.Missing)
  no_depth n = line {l = lines.Missing} (λ h. absurd (n h)) (record { catchment = λ l. n l.has; intensity = λ t. n t.has }) (λ f. n f.has)

  pub no_clear : (HasClearance job.stage → ⊥) → ClearGives job (Ok lines.Missing)
  no_clear n = clear {l = lines.Missing} (λ h. absurd (n h)) (λ o. n o.has) n

  -- the S row
  module _ (has : HasScour job.stage) (rock : Bool) (strata : Decides rock (OnRock job)) where
    module _ {needed : ℕ} {exact : Bool} (rule : scour.ScourRule (scour.waterway_in job.scour) (scour.needs needed exact)) where
      -- what gives a depth gives neither 12 nor 13
      allowed : ScourAllowed job
      allowed = record {
        catchment = λ x. let e = scour_rule_one x.rule rule in impossible cc;
        intensity = λ x. let e = scour_rule_one x.rule rule in impossible cc;
      }

      depth_line : (l : RiverLine) → DepthLineIs rock needed exact (scour.waterway_in job.scour).depth l → DepthIs job l
      depth_line lines.Missing w = λ f. f.soil (decided rock w strata)
      depth_line (lines.Shown depth f passes e) w =
          record {
            soil = refuted rock w.0 strata;
            needed = needed;
            gives = record { has = has; rule = subst⁻¹ (λ (x : Bool). scour.ScourRule (scour.waterway_in job.scour) (scour.needs needed x)) w.4 rule };
            value = w.1;
            limit = w.2;
            mark = subst⁻¹ (λ (x : ℕ). Decides passes (needed ≤ x)) w.2 w.3;
          }

    depth_number : {r s : JobRefusal} → scour.refused (refusal_number r) ≡ scour.refused (refusal_number s) → DepthGives job (Err r) → DepthGives job (Err s)
    depth_number {r} {s} e = subst (λ (k : JobRefusal). DepthGives job (Err k)) (refusal_one r s (cc))

    pub depth_gives : {t : scour.ScourTold} → scour_row.ScourSays job.scour t → (r : Result RiverLine JobRefusal) → DepthGiven rock (scour.waterway_in job.scour).depth t r → DepthGives job r
    depth_gives (scour_row.out_of_range h) (Err n) e = depth_number e (out_of_range (λ r. h (r has)))
    depth_gives (scour_row.out_of_range h) (Ok l) w = let e = w.2 in impossible cc
    depth_gives (scour_row.in_range k (scour.large_catchment h)) (Err n) e = depth_number e (large (λ _. k) (record { has = has; rule = scour.large_catchment h }))
    depth_gives (scour_row.in_range k (scour.large_catchment h)) (Ok l) w = let e = w.2 in impossible cc
    depth_gives (scour_row.in_range k (scour.too_intense c h)) (Err n) e = depth_number e (intense (λ _. k) (record { has = has; rule = scour.too_intense c h }))
    depth_gives (scour_row.in_range k (scour.too_intense c h)) (Ok l) w = let e = w.2 in impossible cc
    depth_gives (scour_row.in_range k (scour.needed d n)) (Err m) e = impossible cc
    depth_gives (scour_row.in_range k (scour.needed d n)) (Ok l) w =
        let rule = subst (scour.ScourRule (scour.waterway_in job.scour)) w.2 (scour.needed d n) in
        line {l = l} (λ _. k) (allowed rule) (depth_line rule l w.3)

  -- the C row
  module _ (has : HasClearance job.stage) where
    abbrev Says : clearing.ClearanceTold → Type 0
    Says t = told.ClearanceSays job.clearance (scour.waterway_in job.scour).discharge t

    abbrev Cleared : Amount → ℕ → Bool → Type 0
    Cleared there needed exact = clearing.Cleared (clearing.opening_of job.clearance) (scour.waterway_in job.scour).discharge (clearing.given there needed exact)

    module _ (there : Amount) (needed : ℕ) (exact : Bool) where
      -- what gives a clearance does not give 14
      not_obstructed : Cleared there needed exact → OverObstructed job → ⊥
      not_obstructed v o = let e = clearances.cleared_one o.rule v in impossible cc

      clear_line : (l : RiverLine) → Ranged C job.clearance → Cleared there needed exact → ClearLineIs there needed exact l → ClearGives job (Ok l)
      clear_line lines.Missing k v w = absurd w
      clear_line (lines.Shown c n passes e) k v w =
          let here : ClearIs job (lines.Shown there needed passes exact) = record { gives = record { has = has; rule = v }; mark = w.2 } in
          let same : lines.Shown c n passes e ≡ lines.Shown there needed passes exact = let p = w.0 in let q = w.1 in let r = w.3 in cc in
          subst⁻¹ (λ (l : RiverLine). ClearGives job (Ok l)) same (clear {l = lines.Shown there needed passes exact} (λ _. k) (not_obstructed v) here)

    pub clear_gives : (a : Result VerticalClearance ClearanceRefusal) → Says (told.clearance_told a) → (r : Result RiverLine JobRefusal) → ClearGiven a r → ClearGives job r
    clear_gives (Err clearance.OutOfRange) (told.out_of_range h) r e = subst⁻¹ (ClearGives job) e (unranged (λ r. h (r has)))
    clear_gives (Err clearance.OutOfRange) (told.in_range k v) r e = elim v [ ]
    clear_gives (Err clearance.OverObstructed) (told.in_range k v) r e = subst⁻¹ (ClearGives job) e (obstructed (λ _. k) (record { has = has; rule = v }))
    clear_gives (Ok found) s (Err n) w = absurd w
    clear_gives (Ok found) (told.in_range k v) (Ok l) w = clear_line found.there found.needed found.exact l k v w

  -- ---- both rows: 11 before 12 and 13, and those before 14
  pub both_give : {d c : Result RiverLine JobRefusal} → DepthGives job d → ClearGives job c → RiverSays job (both d c)
  both_give (out_of_range h) (unranged k) = says.out_of_range (λ r. h r.scour)
  both_give (out_of_range h) (obstructed r o) = says.out_of_range (λ r. h r.scour)
  both_give (out_of_range h) (clear r n l) = says.out_of_range (λ r. h r.scour)
  both_give (large r l) (unranged k) = says.out_of_range (λ r. k r.clearance)
  both_give (large r l) (obstructed q o) = says.large (record { scour = r; clearance = q }) l
  both_give (large r l) (clear q n m) = says.large (record { scour = r; clearance = q }) l
  both_give (intense r i) (unranged k) = says.out_of_range (λ r. k r.clearance)
  both_give (intense r i) (obstructed q o) = says.intense (record { scour = r; clearance = q }) i
  both_give (intense r i) (clear q m l) = says.intense (record { scour = r; clearance = q }) i
  both_give (line r p d) (unranged k) = says.out_of_range (λ r. k r.clearance)
  both_give (line r p d) (obstructed q o) = says.obstructed (record { scour = r; clearance = q }) p o
  both_give (line {l} r p d) (clear {l = m} q n c) = says.shown {d = l} {c = m} (record { scour = r; clearance = q }) p n d c
