-- Document 01, the job book, and 02, P1, P3 and P5: the table of kinds, as data. Each kind, how it is written, what it is to its job, and its columns n1 to n6.
use Rattle.std.specs.Prelude.{ℕ, List, [], ◌∷◌}
use Rattle.fields.specs.Numbers.{absent}
use Rattle.kinds.specs.declared.Kind.{Kind}
use Rattle.kinds.specs.declared.Kind.TheVariants.{B, S, C, E, W, G, DL, EP, LL, LF, CF, WC, BU, TM, EX, WL, SF}
use Rattle.kinds.specs.declared.Role.{Role}
use Rattle.kinds.specs.declared.Role.TheVariants.{Base, Scour, Clearance, Load}
use Rattle.kinds.specs.declared.Column.{Column}
use Rattle.kinds.specs.declared.Column.TheVariants.{Empty, Filled, Signed}
use Rattle.kinds.specs.declared.Columns.{Columns}
use Rattle.kinds.specs.declared.Numbers.{Numbers}

abbrev pub six : Column → Column → Column → Column → Column → Column → Columns
six a b c d e f = record { n1 = a; n2 = b; n3 = c; n4 = d; n5 = e; n6 = f }

-- n1 to n6 in their order
abbrev pub six_of : Columns → List Column
six_of c = c.n1 ∷ c.n2 ∷ c.n3 ∷ c.n4 ∷ c.n5 ∷ c.n6 ∷ []

-- V kN, down positive; x mm, measured from the base centre; H kN, positive toward +x; y mm above the base; phase; and n6
abbrev pub load_columns : Column → Columns
load_columns n6 = six (Signed 50000 50000) (Signed 30000 30000) (Signed 50000 50000) (Filled 0 60000) (Filled 0 2) n6

-- the columns of each kind, with their ranges:
-- B: width B mm; length L mm; allowable pressure kN/m²; friction, thousandths; strata, 0 soil, 1 rock
-- S: Q l/s; catchment km²; silt factor, thousandths; waterway W mm; reach; foundation depth mm below flood
-- C: velocity mm/s; area A and obstructed area a, tenths of m²; underside and flood level mm
-- E: soil; slope; height mm; length mm; phase
-- W: shape of Table 4; exposed area, hundredths of m²; velocity mm/s; upper and lower wetted height mm; phase
-- G: standard of loading of Table 3; dead surcharge kg/m; soil; depth h mm; length of the abutment mm; phase (02, P5)
-- LF and CF, which come with a train: n6, the position of an LL row among the job's load rows (02, P3)
abbrev pub columns : Kind → Columns
columns B = six (Filled 500 30000) (Filled 500 60000) (Filled 1 10000) (Filled 1 1000) (Filled 0 1) Empty
columns S = six (Filled 1 50000000) (Filled 1 3000000) (Filled 100 3000) (Filled 1000 1300000) (Filled 1 5) (Filled 0 200000)
columns C = six (Filled 0 10000) (Filled 1 100000) (Filled 1 100000) (Signed 500000 9000000) (Signed 500000 9000000) Empty
columns E = six (Filled 1 5) (Filled 1 5) (Filled 1 15000) (Filled 1 60000) (Filled 0 2) Empty
columns W = six (Filled 1 6) (Filled 1 20000) (Filled 0 6000) (Filled 0 60000) (Filled 0 60000) (Filled 0 2)
columns G = six (Filled 1 7) (Filled 0 20000) (Filled 1 5) (Filled 1 15000) (Filled 1 60000) (Filled 0 2)
columns DL = load_columns Empty
columns EP = load_columns Empty
columns LL = load_columns Empty
columns LF = load_columns (Filled 1 16)
columns CF = load_columns (Filled 1 16)
columns WC = load_columns Empty
columns BU = load_columns Empty
columns TM = load_columns Empty
columns EX = load_columns Empty
columns WL = load_columns Empty
columns SF = load_columns Empty

-- how a kind is written
abbrev pub letters : Kind → List ℕ
letters B = 0x42 ∷ []
letters S = 0x53 ∷ []
letters C = 0x43 ∷ []
letters E = 0x45 ∷ []
letters W = 0x57 ∷ []
letters G = 0x47 ∷ []
letters DL = 0x44 ∷ 0x4C ∷ []
letters EP = 0x45 ∷ 0x50 ∷ []
letters LL = 0x4C ∷ 0x4C ∷ []
letters LF = 0x4C ∷ 0x46 ∷ []
letters CF = 0x43 ∷ 0x46 ∷ []
letters WC = 0x57 ∷ 0x43 ∷ []
letters BU = 0x42 ∷ 0x55 ∷ []
letters TM = 0x54 ∷ 0x4D ∷ []
letters EX = 0x45 ∷ 0x58 ∷ []
letters WL = 0x57 ∷ 0x4C ∷ []
letters SF = 0x53 ∷ 0x46 ∷ []

-- what a row of a kind is to its job; load rows are E, W, G and the last line of the table
abbrev pub role : Kind → Role
role B = Base
role S = Scour
role C = Clearance
role E = Load
role W = Load
role G = Load
role DL = Load
role EP = Load
role LL = Load
role LF = Load
role CF = Load
role WC = Load
role BU = Load
role TM = Load
role EX = Load
role WL = Load
role SF = Load

-- the phase of a load row, 0 service, 1 erection, 2 both: it stands in n5, of a W and of a G row in n6
abbrev pub phase : Kind → Numbers → ℕ
phase B n = n.n5.size
phase S n = n.n5.size
phase C n = n.n5.size
phase E n = n.n5.size
phase W n = n.n6.size
phase G n = n.n6.size
phase DL n = n.n5.size
phase EP n = n.n5.size
phase LL n = n.n5.size
phase LF n = n.n5.size
phase CF n = n.n5.size
phase WC n = n.n5.size
phase BU n = n.n5.size
phase TM n = n.n5.size
phase EX n = n.n5.size
phase WL n = n.n5.size
phase SF n = n.n5.size

-- the LL row that a load row comes with, by its position from 1 among the job's load rows: it stands in n6 of LF and CF (02, P3); 0 names none
abbrev pub train : Kind → Numbers → ℕ
train B n = 0
train S n = 0
train C n = 0
train E n = 0
train W n = 0
train G n = 0
train DL n = 0
train EP n = 0
train LL n = 0
train LF n = n.n6.size
train CF n = n.n6.size
train WC n = 0
train BU n = 0
train TM n = 0
train EX n = 0
train WL n = 0
train SF n = 0

-- the numbers of no row
abbrev pub blank_numbers : Numbers
blank_numbers = record { n1 = absent; n2 = absent; n3 = absent; n4 = absent; n5 = absent; n6 = absent }
