-- Two jobs that are the same by key, kinds and numbers have one value, whatever their notes: the kinds say where the river rows end.
use Prim.Native.Nat.{suc, ◌-◌}
use mathlib.Core.Path.{◌≡◌, refl, sym, ap, ◌∙◌}
use mathlib.Core.List.{List, [], ◌∷◌, ◌++◌}
use lib.ListN.{length, replicate}
use Rattle.arithmetic.proofs.Cases.{impossible}
use Rattle.kinds.specs.Table.{role}
use Rattle.kinds.specs.declared.Role.TheVariants.{Load}
use Rattle.rows.specs.Form.{BookRow}
use Rattle.rows.specs.keys.Keyed.{no_row}
use Rattle.rows.specs.declared.keys.Keyed.{Keyed}
use Rattle.csv_text.proofs.Lists.{heads, tails}
use Rattle.book.specs.JobBook.{IsA, River, WrittenJob, LoadRows, no_load_row, load, Rivers, is_dry, is_scoured, is_crossed, GoodJob, good, river_rows}
use Rattle.book.specs.Values.{stage_of, scour_of, clearance_of, load_rows, job_value}
use Rattle.book.specs.SameJob.{keyed_rows, SameJob}

loads_same : (ls ms : List BookRow) → keyed_rows ls ≡ keyed_rows ms → (load_rows ls ≡ load_rows ms) × (length ls ≡ length ms)
loads_same [] [] e = (refl, refl)
loads_same [] (m ∷ ms) e = impossible cc
loads_same (l ∷ ls) [] e = impossible cc
loads_same (l ∷ ls) (m ∷ ms) e =
    let w = loads_same ls ms (tails e) in
    (λ i. (heads e i).row ∷ w.0 i, ap suc w.1)

-- no load row stands where a river row does
head_loads : {b : BookRow} {ls : List BookRow} (r : BookRow) (rs : List BookRow) → LoadRows b ls → keyed_rows ls ≡ keyed_rows (r ∷ rs) → IsA Load r
head_loads r rs no_load_row e = impossible cc
head_loads r rs (load {r = l} k s ls) e =
    sym (ap (λ (x : Keyed). role x.row.kind) (heads e)) ∙ k

-- the same river, by its numbers
record SameRiver (v w : River) (ls ms : List BookRow) : Type 0 where
  stage : stage_of v ≡ stage_of w
  scour : scour_of v ≡ scour_of w
  clearance : clearance_of v ≡ clearance_of w
  rest : keyed_rows ls ≡ keyed_rows ms

same_river : {b c : BookRow} {v w : River} {ls ms : List BookRow} → Rivers b v → Rivers c w → LoadRows b ls → LoadRows c ms → keyed_rows (river_rows v ++ ls) ≡ keyed_rows (river_rows w ++ ms) → SameRiver v w ls ms
same_river is_dry is_dry l m e = record { stage = refl; scour = refl; clearance = refl; rest = e }
same_river {ms = ms} is_dry (is_scoured {s} k i) l m e = let z = head_loads s ms l e in impossible cc
same_river {ms = ms} is_dry (is_crossed {s} {c} k i n j) l m e = let z = head_loads s (c ∷ ms) l e in impossible cc
same_river {ls = ls} (is_scoured {s} k i) is_dry l m e = let z = head_loads s ls m (sym e) in impossible cc
same_river {ls = ls} {ms} (is_scoured {s} k i) (is_scoured {s = t} n j) l m e =
    record { stage = refl; scour = ap (λ (x : Keyed). x.row.numbers) (heads e); clearance = refl; rest = tails e }
same_river {ls = ls} {ms} (is_scoured {s} k i) (is_crossed {s = t} {c} n j o p) l m e =
    let z = head_loads c ms l (tails e) in
    impossible cc
same_river {ls = ls} (is_crossed {s} {c} k i n j) is_dry l m e = let z = head_loads s (c ∷ ls) m (sym e) in impossible cc
same_river {ls = ls} {ms} (is_crossed {s} {c} k i n j) (is_scoured {s = t} o p) l m e =
    let z = head_loads c ls m (sym (tails e)) in
    impossible cc
same_river {ls = ls} {ms} (is_crossed {s} {c} k i n j) (is_crossed {s = t} {c = d} o p q u) l m e =
    let behind = tails e in
    record { stage = refl; scour = ap (λ (x : Keyed). x.row.numbers) (heads e); clearance = ap (λ (x : Keyed). x.row.numbers) (heads behind); rest = tails behind }

pub same_value : {a b : WrittenJob} → GoodJob a → GoodJob b → SameJob a b → job_value a ≡ job_value b
same_value (good {b} {v} {ls} p q r s) (good {b = c} {v = w} {ls = ms} t u x y) e =
    let h : b.keyed ≡ c.keyed = heads e in
    let k = same_river q u r x (tails e) in
    let g = loads_same ls ms k.rest in
    λ i. record {
      stage = k.stage i;
      key = (h i).key;
      base = (h i).row.numbers;
      scour = k.scour i;
      clearance = k.clearance i;
      count = g.1 i;
      loads = g.0 i ++ replicate (16 - g.1 i) no_row.row;
    }
