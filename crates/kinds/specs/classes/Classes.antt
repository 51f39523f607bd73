-- Document 01, the job book and Load sets, and 02, P1: what a row of a kind is to a combination, and where its forces come from.
use Rattle.std.specs.Prelude.{ℕ}
use Rattle.kinds.specs.declared.Kind.{Kind}
use Rattle.kinds.specs.declared.Kind.TheVariants.{B, S, C, E, W, G, DL, EP, LL, LF, CF, WC, BU, TM, EX, WL, SF}
use Rattle.sets.specs.declared.Class.{Class}
use Rattle.sets.specs.declared.Class.TheVariants.{Permanent, Free, Wind, Earthquake}
use Rattle.kinds.specs.declared.classes.Source.{Source}
use Rattle.kinds.specs.declared.classes.Source.TheVariants.{Absent, Earth, Current, Surcharge, Own}

-- DL, EP, E are permanent, the rest optional and free; WL and SF stand apart in the combinations. B, S and C are no load rows.
unfoldable pub class_of : Kind → Class
class_of B = Permanent
class_of S = Permanent
class_of C = Permanent
class_of E = Permanent
class_of W = Free
class_of G = Free
class_of DL = Permanent
class_of EP = Permanent
class_of LL = Free
class_of LF = Free
class_of CF = Free
class_of WC = Free
class_of BU = Free
class_of TM = Free
class_of EX = Free
class_of WL = Wind
class_of SF = Earthquake

-- where a row's forces come from: E from its fill, W from the water current, G from the surcharge, the last line of the table from the row's own numbers
unfoldable pub source : Kind → Source
source B = Absent
source S = Absent
source C = Absent
source E = Earth
source W = Current
source G = Surcharge
source DL = Own
source EP = Own
source LL = Own
source LF = Own
source CF = Own
source WC = Own
source BU = Own
source TM = Own
source EX = Own
source WL = Own
source SF = Own

-- how many optional rows a row of a class is
unfoldable pub optional : Class → ℕ
optional Permanent = 0
optional Free = 1
optional Wind = 1
optional Earthquake = 1
