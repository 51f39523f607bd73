-- Document 01, "Figures on each side": the starred ones as one list; and the figures of document 02's requests, worked out by hand in
-- docs/DECISIONS.md, as one for each. Each is said of the definitions that the promises cite.
use Rattle.std.specs.Prelude.{◌≡◌, Bool, true, false, List, [], ◌∷◌, ◌++◌, ℕ, ℤ, pos, neg_ℤ, Float, replicate}
use Rattle.std.specs.Float.{binary64}
use Rattle.std.specs.Float.Ieee.{of_bits}
use Rattle.arithmetic.specs.decides.Decides.{Decides}
use Rattle.arithmetic.specs.rounding.Least.{RoundedUp}
use Rattle.arithmetic.specs.rounding.Rounding.{Rounding}
use Rattle.fields.specs.declared.Entry.{Entry}
use Rattle.fields.specs.Numbers.{positive, absent}
use Rattle.kinds.specs.declared.Kind.{Kind}
use Rattle.kinds.specs.declared.Kind.TheVariants.{DL, LL, LF, WC, TM, WL}
use Rattle.kinds.specs.declared.Kind.TheVariants as kind
use Rattle.kinds.specs.declared.Row.{Row}
use Rattle.kinds.specs.Table.{letters, blank_numbers}
use Rattle.kinds.specs.ranges.Range.{Ranged}
use Rattle.scour.specs.discharge.Discharge.{FoundationDischarge}
use Rattle.scour.specs.lacey.Lacey.{RegimeMet, RegimeDepth, ConstrictedDepth, DepthNeeded}
use Rattle.clearance.specs.afflux.Rules.{Afflux}
use Rattle.earth.specs.table2.Table2.{table2_fill}
use Rattle.earth.specs.Earth.{Pushed, push}
use Rattle.current.specs.Current as water
use Rattle.surcharge.specs.Surcharge as behind
use Rattle.sets.specs.declared.Combination.TheVariants.{I}
use Rattle.sets.specs.declared.Loads.{Loads}
use Rattle.sets.specs.Sets.{Permitted}
use Rattle.checks.specs.declared.Base.{Base}
use Rattle.checks.specs.declared.Check.{Check}
use Rattle.checks.specs.declared.Check.TheVariants.{OP, SL, PR, RK}
use Rattle.checks.specs.declared.Figure.{Figure}
use Rattle.checks.specs.declared.Figure.TheVariants.{Nothing, Number, Off}
use Rattle.checks.specs.ranks.Figures.{PressesWhole, PressesPart}
use Rattle.checks.specs.steps.Rounded.{Presses}
use Rattle.checks.specs.set_figures.Figures.{Shows, ShowsExactly}
use Rattle.loads.specs.LoadRows.{AllNamed, optionals, AreLoads}
use Rattle.lines.specs.declared.Line.TheVariants.{Shown}
use Rattle.lines.specs.Lines.{ExactOrRounded, unsaid, E, R, figure_exactness}
use Rattle.worst.specs.Lines.{LineSays}
use Rattle.doubles.specs.Doubles.{Exactly, Nearest}
use Rattle.reactions.specs.declared.xdr.FrameLoad.TheVariants.{Line, Pressure}
use Rattle.reactions.specs.Force.{kilonewtons}
use Rattle.reactions.specs.Reacts.{GivesRow}

-- a row of its own forces as it is written: V, x, H, y, in service, and n6
abbrev pub written : Kind → (v x h y : ℕ) → Entry → Row
written k v x h y n = record { kind = k; numbers = record { n1 = positive v; n2 = positive x; n3 = positive h; n4 = positive y; n5 = positive 0; n6 = n } }

abbrev pub dead_load : (v x h y : ℕ) → Row
dead_load v x h y = written DL v x h y absent

-- an LF row that names a position
abbrev pub braking : ℕ → Row
braking n = written LF 0 0 300 6000 (positive n)

-- the load rows of 01's whole example, with a train as its second (02, P3)
abbrev pub braked : ℕ → List Row
braked n = dead_load 6000 0 0 0 ∷ written LL 0 0 0 0 absent ∷ braking n ∷ []

-- a row of H and y alone
abbrev pub pushing : Kind → (h y : ℕ) → Row
pushing k h y = written k 0 0 h y absent

-- a DL row in the middle of the base and a current beside it, at this y
abbrev pub current_at : ℕ → List Row
current_at y = dead_load 1000 0 0 0 ∷ pushing WC 100 y ∷ []

-- the same with a third row: OP is printed as 200 without it, and with it
abbrev pub twice_200 : List Row
twice_200 = dead_load 1000 0 0 0 ∷ pushing WC 100 9999 ∷ pushing TM 1 100 ∷ []

-- a row of a kind, whatever its numbers
abbrev pub row_of : Kind → Row
row_of k = record { kind = k; numbers = blank_numbers }

-- OP of the set of one row, on a base of width B whatever else it is: the loads are those of that row and of no other, and the row counts 1
pub record Overturns (B : ℕ) (row : Row) (figure : ℕ) : Type 0 where
  pub loads : Loads
  pub its_loads : AreLoads table2_fill (row ∷ []) loads
  pub shows : (base : Base) → base.width ≡ B → Shows OP base loads 1 (Number figure)

-- whether I permits a set, where the loads are those of these rows and of no other
pub record Permits (rows : List Row) (set : ℕ) (permitted : Bool) : Type 0 where
  pub loads : Loads
  pub its_loads : AreLoads table2_fill rows loads
  pub decides : Decides permitted (Permitted I loads set)

-- 02, P7: the eighth field of a check's line that names this set, where the loads are those of these rows and of no other
pub record Eighth (rows : List Row) (of : Check) (base : Base) (set : ℕ) (figure : Figure) (field : ExactOrRounded) : Type 0 where
  pub loads : Loads
  pub its_loads : AreLoads table2_fill rows loads
  pub shows : Shows of base loads set figure
  pub exact : Bool
  pub told : Decides exact (ShowsExactly of base loads set figure)
  pub is : field ≡ figure_exactness figure exact

-- the line of a check in I, among all the sets that it permits: value, limit, set, Y or N, E or R
pub record LineInI (rows : List Row) (of : Check) (base : Base) (figure : Figure) (limit set : ℕ) (passes exact : Bool) : Type 0 where
  pub loads : Loads
  pub its_loads : AreLoads table2_fill rows loads
  pub says : LineSays I of base loads (Shown figure limit set passes exact)

-- the base of these: width 4,000, length 8,000, allowable pressure 300, friction 600, soil
abbrev pub four_by_eight : Base
four_by_eight = record { width = 4000; length = 8000; allowable = 300; friction = 600; rock = false }

-- PR by either rule
pub record PressesEither (B L N M figure : ℕ) : Type 0 where
  pub presses : Presses B L N M (Number figure)
  pub whole : PressesWhole RoundedUp B L N M figure
  pub part : PressesPart RoundedUp B L N M figure

-- the double that these 64 bits are
abbrev pub double : ℕ → Float
double bits = of_bits binary64 bits

-- a figure: what is asked, and what 01 says, or the work by hand
pub data WorkedFigure : Type 0 where
  flood : (Q Z Qf : ℕ) → WorkedFigure
  width : (Q W : ℕ) (met : Bool) → WorkedFigure
  depth : (Qf f D : ℕ) (exact : Bool) → WorkedFigure
  needed : (D reach d : ℕ) (exact : Bool) → WorkedFigure
  constricted : (q f D : ℕ) (exact : Bool) → WorkedFigure
  afflux : (v A a h : ℕ) (exact : Bool) → WorkedFigure
  earth : (soil slope height length H y : ℕ) → WorkedFigure
  current : (shape area velocity upper lower H y : ℕ) → WorkedFigure
  surcharge : (standard dead soil h L H₁ y₁ H₂ y₂ : ℕ) → WorkedFigure
  optional_rows : (live : ℕ) (other : Kind) (count : ℕ) → WorkedFigure
  position : (n : ℕ) (ranged : Bool) → WorkedFigure
  named : (n : ℕ) (live : Bool) → WorkedFigure
  braked_set : (set : ℕ) (permitted : Bool) → WorkedFigure
  overturning : (B v x h y figure : ℕ) → WorkedFigure
  pressure : (B L N M figure : ℕ) → WorkedFigure
  pressure_either : (B L N M figure : ℕ) → WorkedFigure
  nearest_whole : (bits : ℕ) (whole : ℤ) (exact : Bool) → WorkedFigure
  line_load : (load length : ℕ) (whole : ℤ) → WorkedFigure
  pressure_load : (load side other : ℕ) (whole : ℤ) → WorkedFigure
  load_row : (member job kind : List ℕ) (phase : ℕ) (sent row : List ℕ) → WorkedFigure
  eighth : (rows : List Row) (of : Check) (set : ℕ) (figure : Figure) (field : ExactOrRounded) → WorkedFigure
  line_in_I : (rows : List Row) (of : Check) (figure : Figure) (limit set : ℕ) (passes exact : Bool) → WorkedFigure

abbrev pub Holds : WorkedFigure → Type 0
Holds (flood Q Z Qf) = FoundationDischarge Q Z Qf
Holds (width Q W met) = Decides met (RegimeMet Q W)
Holds (depth Qf f D exact) = RegimeDepth Qf f D exact
Holds (needed D reach d exact) = DepthNeeded D reach d exact
Holds (constricted q f D exact) = ConstrictedDepth q f D exact
Holds (afflux v A a h exact) = Afflux v A a h exact
Holds (earth soil slope height length H y) = Pushed table2_fill (record { soil = soil; slope = slope; height = height; length = length }) (push H y)
Holds (current shape area velocity upper lower H y) =
    water.CurrentRule (record { shape = shape; area = area; velocity = velocity; upper = upper; lower = lower }) (water.push H y)
Holds (surcharge standard dead soil h L H₁ y₁ H₂ y₂) =
    behind.SurchargeRule (record { standard = standard; dead = dead; soil = soil; depth = h; length = L })
    (behind.pushes (record { first = record { force = H₁; arm = y₁ }; second = record { force = H₂; arm = y₂ } }))
Holds (optional_rows live other count) = optionals (replicate live (row_of LL) ++ row_of other ∷ []) ≡ count
Holds (position n ranged) = Decides ranged (Ranged LF (braking n).numbers)
Holds (named n live) = Decides live (AllNamed (braked n))
Holds (braked_set set permitted) = Permits (braked 2) set permitted
Holds (overturning B v x h y figure) = Overturns B (dead_load v x h y) figure
Holds (pressure B L N M figure) = Presses B L N M (Number figure)
Holds (pressure_either B L N M figure) = PressesEither B L N M figure
Holds (nearest_whole bits whole exact) = Rounding (Nearest (double bits)) (Exactly (double bits)) whole exact
Holds (line_load load length whole) = Nearest (kilonewtons (Line (double load) (double length))) whole
Holds (pressure_load load side other whole) = Nearest (kilonewtons (Pressure (double load) (double side) (double other))) whole
Holds (load_row member job kind phase sent row) = GivesRow member job kind phase sent row
Holds (eighth rows of set figure field) = Eighth rows of four_by_eight set figure field
Holds (line_in_I rows of figure limit set passes exact) = LineInI rows of four_by_eight figure limit set passes exact

-- all of a list hold
pub data AllHold : List WorkedFigure → Type 0 where
  none : AllHold []
  more : {x : WorkedFigure} {xs : List WorkedFigure} → Holds x → AllHold xs → AllHold (x ∷ xs)

-- *Z = 500, Q = 1,000,000: 1,300,000. *5,000: 1,200,000. *25,000: 1,100,000.
-- *Q = 1,000,000: W = 152,908 meets the regime width, *152,907 doesn't.
-- *Qf = 1,300,000, f = 1,000: D = 5,163; reach 4 needs 13,734.
-- *q = 8,000, f = 1,000: D = 5,352. *8,001: 5,353.
-- *v = 3,000, A = 1,200, a = 1,000: 229.
-- 02, P7: of these depths and this afflux one is exact, the D of q = 8,000, which is 4 times 1,338.
-- *Soil a, level, 6,000 by 8,000: 664 at y 2,000.
-- *B 4,000, one row of V 1,000 at x 0, H 100: y 10,000 gives OP 200, *10,001 gives 199.
-- *B 4,000, L 8,000, N 1,000, M = 2,000,000: PR 84.
-- *N 900, M 1,200,000: PR 57 by either rule.
abbrev pub starred : List WorkedFigure
starred =
    flood 1000000 500 1300000
    ∷ flood 1000000 5000 1200000
    ∷ flood 1000000 25000 1100000
    ∷ width 1000000 152908 true
    ∷ width 1000000 152907 false
    ∷ depth 1300000 1000 5163 false
    ∷ needed 5163 4 13734 false
    ∷ constricted 8000 1000 5352 true
    ∷ constricted 8001 1000 5353 false
    ∷ afflux 3000 1200 1000 229 false
    ∷ earth 1 1 6000 8000 664 2000
    ∷ overturning 4000 1000 0 100 10000 200
    ∷ overturning 4000 1000 0 100 10001 199
    ∷ pressure 4000 8000 1000 2000000 84
    ∷ pressure_either 4000 8000 900 1200000 57
    ∷ []

-- P1, water current. Each shape: area 10 m², 3 m/s, wetted from 3,000 to 9,000.
-- H on each side of a whole kN: 3,005 mm/s and 3,006. y on each side of a whole mm: lower 0 and 1 below 3,000.
-- Rounded once: 101.3 kg are 0.993 kN, and 102 kg would be more than 1; two thirds of 1 mm are 1 mm.
-- The largest row; and no velocity, with upper equal to lower. A W row counts among the optional ones: with twelve LL rows they are 13.
abbrev pub worked : List WorkedFigure
worked =
    current 1 1000 3000 9000 3000 70 7000
    ∷ current 2 1000 3000 9000 3000 31 7000
    ∷ current 3 1000 3000 9000 3000 33 7000
    ∷ current 4 1000 3000 9000 3000 42 7000
    ∷ current 5 1000 3000 9000 3000 22 7000
    ∷ current 6 1000 3000 9000 3000 23 7000
    ∷ current 2 1000 3005 3000 0 31 2000
    ∷ current 2 1000 3006 3000 1 32 2001
    ∷ current 1 16 2831 1 0 1 1
    ∷ current 1 20000 6000 60000 60000 5579 60000
    ∷ current 1 1000 0 5000 5000 0 5000
    ∷ optional_rows 12 kind.W 13
    ∷ []

-- P3, braking needs a train. n6 of LF: 0 and 17 are out of range, and 1 and 16 in it. LF behind DL and LL names LL as the second of all the load
-- rows: the first is DL, the third itself, and there is no fourth. DL and LF without LL, 5, are no set of I; DL alone, DL and LL, and all three are.
abbrev pub trained : List WorkedFigure
trained =
    position 0 false
    ∷ position 1 true
    ∷ position 16 true
    ∷ position 17 false
    ∷ named 1 false
    ∷ named 2 true
    ∷ named 3 false
    ∷ named 4 false
    ∷ braked_set 1 true
    ∷ braked_set 3 true
    ∷ braked_set 5 false
    ∷ braked_set 7 true
    ∷ []

-- P5, surcharge. Each standard of Table 3, and each soil that has a coefficient: 3,000 kg/m of dead surcharge, h 5,000, L 10,000.
-- On both sides of h = L - B and at it: h 5,999, 6,000 and 6,001 beside L 9,000 and B 3,000; and well beyond, h 8,000 beside L 6,000 and B 1,800.
-- The coefficient is in what is rounded: 2,514.9 kg are 2,515, where 0.27 of 9,315 would be 2,516 and a kN more. kN are rounded over the length: 53.99 are 54, where 11 kN
-- a metre would be 55. The largest first part, the largest second part, and the smallest row. A G row counts among the optional ones: with twelve LL rows they are 13.
abbrev pub laden : List WorkedFigure
laden =
    surcharge 1 3000 1 5000 10000 320 2500 267 3334
    ∷ surcharge 2 3000 1 5000 10000 277 2500 231 3334
    ∷ surcharge 3 3000 1 5000 10000 312 2500 260 3334
    ∷ surcharge 4 3000 1 5000 10000 277 2500 231 3334
    ∷ surcharge 5 3000 1 5000 10000 239 2500 285 3334
    ∷ surcharge 6 3000 1 5000 10000 239 2500 285 3334
    ∷ surcharge 7 3000 1 5000 10000 221 2500 306 3334
    ∷ surcharge 1 3000 2 5000 10000 355 2500 296 3334
    ∷ surcharge 1 3000 3 5000 10000 462 2500 385 3334
    ∷ surcharge 1 3000 4 5000 10000 1183 2500 986 3334
    ∷ surcharge 1 20000 4 5999 9000 2136 3000 2136 4000
    ∷ surcharge 1 20000 4 6000 9000 2136 3000 2136 4000
    ∷ surcharge 1 20000 4 6001 9000 2137 3001 2136 4001
    ∷ surcharge 7 0 2 8000 6000 196 4000 120 6600
    ∷ surcharge 1 0 1 4000 9000 222 2000 149 2667
    ∷ surcharge 1 0 1 1000 5000 54 500 10 667
    ∷ surcharge 1 20000 4 15000 60000 17800 7500 44498 10000
    ∷ surcharge 7 20000 4 15000 60000 14868 7500 61949 10000
    ∷ surcharge 1 0 1 1 3001 1 1 1 1
    ∷ optional_rows 12 kind.G 13
    ∷ []

-- the member and the job of 01's example
abbrev pub K7 : List ℕ
K7 = 0x4B ∷ 0x37 ∷ []

abbrev pub P_12 : List ℕ
P_12 = 0x50 ∷ 0x2D ∷ 0x31 ∷ 0x32 ∷ []

-- P6, a record's vertical load, x, horizontal load and y, a line each: 6,000 kN at x 0, and 0 kN at y 0; and the load row of 01's example, K7,P-12,DL,6000,0,0,0,0,, and CRLF
abbrev pub dead_sent : List ℕ
dead_sent =
    (0 ∷ 0 ∷ 0 ∷ 0 ∷ 0x40 ∷ 0xB7 ∷ 0x70 ∷ 0 ∷ 0 ∷ 0 ∷ 0 ∷ 0 ∷ [])
    ++ ((0 ∷ 0 ∷ 0 ∷ 0 ∷ 0 ∷ 0 ∷ 0 ∷ 0 ∷ [])
    ++ ((0 ∷ 0 ∷ 0 ∷ 0 ∷ 0 ∷ 0 ∷ 0 ∷ 0 ∷ 0 ∷ 0 ∷ 0 ∷ 0 ∷ [])
    ++ (0 ∷ 0 ∷ 0 ∷ 0 ∷ 0 ∷ 0 ∷ 0 ∷ 0 ∷ [])))

abbrev pub dead_row : List ℕ
dead_row = 0x4B ∷ 0x37 ∷ 0x2C ∷ 0x50 ∷ 0x2D ∷ 0x31 ∷ 0x32 ∷ 0x2C ∷ 0x44 ∷ 0x4C ∷ 0x2C ∷ 0x36 ∷ 0x30 ∷ 0x30 ∷ 0x30 ∷ 0x2C ∷ 0x30 ∷ 0x2C ∷ 0x30 ∷ 0x2C ∷ 0x30 ∷ 0x2C ∷ 0x30 ∷ 0x2C ∷ 0x2C ∷ 0x0D ∷ 0x0A ∷ []

-- and with the other two union cases: 1.4 kN/m² on 7.5 m by 3 m at x -250.5, and 12.5 kN/m over 3.2 m at y 4,500.25; and its row, K7,P-12,WL,32,-251,40,4500,2,, and CRLF
abbrev pub wind_sent : List ℕ
wind_sent =
    (0 ∷ 0 ∷ 0 ∷ 2 ∷ 0x3F ∷ 0xF6 ∷ 0x66 ∷ 0x66 ∷ 0x66 ∷ 0x66 ∷ 0x66 ∷ 0x66 ∷ 0x40 ∷ 0x1E ∷ 0 ∷ 0 ∷ 0 ∷ 0 ∷ 0 ∷ 0 ∷ 0x40 ∷ 0x08 ∷ 0 ∷ 0 ∷ 0 ∷ 0 ∷ 0 ∷ 0 ∷ [])
    ++ ((0xC0 ∷ 0x6F ∷ 0x50 ∷ 0 ∷ 0 ∷ 0 ∷ 0 ∷ 0 ∷ [])
    ++ ((0 ∷ 0 ∷ 0 ∷ 1 ∷ 0x40 ∷ 0x29 ∷ 0 ∷ 0 ∷ 0 ∷ 0 ∷ 0 ∷ 0 ∷ 0x40 ∷ 0x09 ∷ 0x99 ∷ 0x99 ∷ 0x99 ∷ 0x99 ∷ 0x99 ∷ 0x9A ∷ [])
    ++ (0x40 ∷ 0xB1 ∷ 0x94 ∷ 0x40 ∷ 0 ∷ 0 ∷ 0 ∷ 0 ∷ [])))

abbrev pub wind_row : List ℕ
wind_row = 0x4B ∷ 0x37 ∷ 0x2C ∷ 0x50 ∷ 0x2D ∷ 0x31 ∷ 0x32 ∷ 0x2C ∷ 0x57 ∷ 0x4C ∷ 0x2C ∷ 0x33 ∷ 0x32 ∷ 0x2C ∷ 0x2D ∷ 0x32 ∷ 0x35 ∷ 0x31 ∷ 0x2C ∷ 0x34 ∷ 0x30 ∷ 0x2C ∷ 0x34 ∷ 0x35 ∷ 0x30 ∷ 0x30 ∷ 0x2C ∷ 0x32 ∷ 0x2C ∷ 0x2C ∷ 0x0D ∷ 0x0A ∷ []

-- P6, reactions: each double by its bits. It "goes to the nearest whole kN or mm, halves away from zero": 0.49999999999999994, the double before 0.5, and 0.5; -0.5; 2.5 and
-- -2.5; -0.4, whose 0 has no sign; 49,999.5; -0.0; the smallest double above 0; and 2. -0.0 and 2 alone are exact (P7): each is the whole number that it goes to.
-- "Products are taken in doubles, left to right, each rounded once": 12.5 kN/m over 3.2 m; 1.4 over 7.5, where the exact product of the two doubles is less than 10.5 and
-- the nearest double is 10.5; 250 over 24; and 1.4 kN/m² by 7.5 m by 3 m, 31.5, where 1.4 by the product of the sides is 31.499999999999996, and 1.4 by 3 by 7.5 less still.
-- "A record holds a vertical load, x, a horizontal load and y", and "the output is a load row": the two records.
abbrev pub sent : List WorkedFigure
sent =
    nearest_whole 0x3FDFFFFFFFFFFFFF (pos 0) false
    ∷ nearest_whole 0x3FE0000000000000 (pos 1) false
    ∷ nearest_whole 0xBFE0000000000000 (neg_ℤ (pos 1)) false
    ∷ nearest_whole 0x4004000000000000 (pos 3) false
    ∷ nearest_whole 0xC004000000000000 (neg_ℤ (pos 3)) false
    ∷ nearest_whole 0xBFD999999999999A (pos 0) false
    ∷ nearest_whole 0x40E869F000000000 (pos 50000) false
    ∷ nearest_whole 0x8000000000000000 (pos 0) true
    ∷ nearest_whole 1 (pos 0) false
    ∷ nearest_whole 0x4000000000000000 (pos 2) true
    ∷ line_load 0x4029000000000000 0x400999999999999A (pos 40)
    ∷ line_load 0x3FF6666666666666 0x401E000000000000 (pos 11)
    ∷ line_load 0x406F400000000000 0x4038000000000000 (pos 6000)
    ∷ pressure_load 0x3FF6666666666666 0x401E000000000000 0x4008000000000000 (pos 32)
    ∷ load_row K7 P_12 (letters DL) 0 dead_sent dead_row
    ∷ load_row K7 P_12 (letters WL) 2 wind_sent wind_row
    ∷ []

-- P7, was it exactly 200? "A printed 200 may be 200 or 200.9": with the current at y 10,000 OP is 200, and at 9,960 200.8. "Words .. have it empty": the DL row alone, which
-- nothing overturns, and PR without weight. "By the named set": of two sets that print OP 200 the line in I names 3, which has fewer rows, and that one's is 200.02, where 7 has exactly 200.
-- "A value that takes no rounding, such as SL 0 without weight, is E"; SL 0.6 is printed as 0 too, and is R. PR 40 and 39.97 by the rule for the whole base, 100 and 99.9 by that
-- for a part; 37.5 and 106.7, where the other rule's would be exact. RK 0, 125 and 124.5. "SC reports the rounding of the 1.33": it is 133 of a greatest scour of 99.75, rounded to 100, and
-- 6.65 of one of exactly 5. D of 1,300 l/s with a silt factor of 1,300 is 473. "CL that of the afflux": 176 and 175.8.
abbrev pub told : List WorkedFigure
told =
    eighth (current_at 10000) OP 3 (Number 200) E
    ∷ eighth (current_at 9960) OP 3 (Number 200) R
    ∷ eighth twice_200 OP 1 Nothing unsaid
    ∷ eighth twice_200 OP 3 (Number 200) R
    ∷ eighth twice_200 OP 7 (Number 200) E
    ∷ line_in_I twice_200 OP (Number 200) 200 3 true false
    ∷ eighth (dead_load 0 0 100 1000 ∷ []) SL 1 (Number 0) E
    ∷ eighth (dead_load 0 0 100 1000 ∷ []) PR 1 Off unsaid
    ∷ eighth (dead_load 1 0 100 1000 ∷ []) SL 1 (Number 0) R
    ∷ eighth (dead_load 1280 0 0 0 ∷ []) PR 1 (Number 40) E
    ∷ eighth (dead_load 1279 0 0 0 ∷ []) PR 1 (Number 40) R
    ∷ eighth (dead_load 1200 1000 0 0 ∷ []) PR 1 (Number 100) E
    ∷ eighth (dead_load 1200 999 0 0 ∷ []) PR 1 (Number 100) R
    ∷ eighth (dead_load 1200 0 0 0 ∷ []) PR 1 (Number 38) R
    ∷ eighth (dead_load 1280 1000 0 0 ∷ []) PR 1 (Number 107) R
    ∷ eighth (dead_load 1000 0 0 0 ∷ []) RK 1 (Number 0) E
    ∷ eighth (dead_load 1000 500 0 0 ∷ []) RK 1 (Number 125) E
    ∷ eighth (dead_load 1000 498 0 0 ∷ []) RK 1 (Number 125) R
    ∷ needed 57 3 133 true
    ∷ needed 4 1 7 false
    ∷ depth 1300 1300 473 true
    ∷ afflux 1788 2900 2100 176 true
    ∷ afflux 1787 2900 2100 176 false
    ∷ []
