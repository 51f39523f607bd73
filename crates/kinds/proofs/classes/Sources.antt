-- What the source of a row's forces says of its kind: three sources are those of one kind each, and a row that gives its own forces is in their columns.
use mathlib.Core.Path.{◌≡◌, refl, subst}
use Rattle.kinds.specs.declared.Kind.{Kind}
use Rattle.kinds.specs.declared.Kind.TheVariants.{B, S, C, E, W, G, DL, EP, LL, LF, CF, WC, BU, TM, EX, WL, SF}
use Rattle.kinds.specs.declared.Numbers.{Numbers}
use Rattle.kinds.specs.Table.{load_columns}
use Rattle.kinds.specs.declared.Column.TheVariants.{Empty, Filled}
use Rattle.kinds.specs.ranges.Range.{InColumns, Ranged}
use Rattle.kinds.specs.declared.classes.Source.{Source}
use Rattle.kinds.specs.declared.classes.Source.TheVariants.{Absent, Earth, Current, Surcharge, Own}
use Rattle.kinds.specs.classes.Classes.{source}

abbrev pub OfSource : Source → Kind → Type 0
OfSource Absent k = Unit {0}
OfSource Earth k = k ≡ E
OfSource Current k = k ≡ W
OfSource Surcharge k = k ≡ G
OfSource Own k = (n : Numbers) → Ranged k n → InColumns (load_columns Empty) n

-- where a row with a train is in range, so is the row without it
without_train : (n : Numbers) → InColumns (load_columns (Filled 1 16)) n → InColumns (load_columns Empty) n
without_train n r = record { n1 = r.n1; n2 = r.n2; n3 = r.n3; n4 = r.n4; n5 = r.n5; n6 = tt }

of_source : (k : Kind) → OfSource (source k) k
unfolding source
of_source B = tt
of_source S = tt
of_source C = tt
of_source E = refl
of_source W = refl
of_source G = refl
of_source DL = λ n r. r
of_source EP = λ n r. r
of_source LL = λ n r. r
of_source LF = without_train
of_source CF = without_train
of_source WC = λ n r. r
of_source BU = λ n r. r
of_source TM = λ n r. r
of_source EX = λ n r. r
of_source WL = λ n r. r
of_source SF = λ n r. r

pub kind_by : (k : Kind) (s : Source) → source k ≡ s → OfSource s k
kind_by k s e = subst (λ (x : Source). OfSource x k) e (of_source k)
