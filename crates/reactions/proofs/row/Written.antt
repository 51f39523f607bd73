-- A row as it is written is short, and a load row in the job book's own sense: its kind has the columns of a load row, and its numbers, which are in
-- range, are numbers of at most 9 digits, so that each cell is plain and means what it was written for.
use Prim.Native.Nat.{ℕ, suc, ◌≤◌, ◌<◌, ◌^◌}
use native.Mathlib.Omega.{arith}
use mathlib.Core.Path.{◌≡◌, refl, sym, subst}
use mathlib.Core.List.{List, []}
use lib.IntN.{ℤ, pos, negsuc, nat_abs}
use lib.ListN.{length, length-append}
use Rattle.csv_text.specs.rfc4180.Rfc4180.{Cell, Plain, none, plain, Record, only, then, closed}
use Rattle.csv_text.proofs.rfc4180.Unique.{file_unique}
use Rattle.fields.specs.digits.Numerals.{Digited}
use Rattle.fields.specs.Numbers.{IsNumber, is_positive, is_negative}
use Rattle.fields.specs.declared.Entry.{Entry}
use Rattle.fields.proofs.names.Names.{name_plain}
use Rattle.fields.proofs.Numerals.{number_plain}
use Rattle.block.specs.Decimal.{decimal}
use Rattle.block.proofs.Numbers.{decimal_numeral, decimal_length}
use Rattle.kinds.specs.Table.{letters, columns, load_columns, role}
use Rattle.kinds.specs.ranges.Range.{Between, Around, InColumns, Ranged}
use Rattle.kinds.specs.declared.Columns.{Columns}
use Rattle.kinds.specs.declared.Column.TheVariants.{Empty}
use Rattle.kinds.specs.declared.Kind.{Kind}
use Rattle.kinds.specs.declared.Role.TheVariants.{Load}
use Rattle.kinds.proofs.letters.Letters.{kind_plain}
use Rattle.rows.specs.Form.{Ten, cells_of, Six, Form}
use Rattle.rows.specs.declared.keys.Key.{Key}
use Rattle.rows.proofs.Forms.{form_one}
use Rattle.reactions.specs.Asked.{Taken, dl, ep, ll, wc, bu, tm, ex, wl, sf, Asked}
use Rattle.reactions.specs.row.Text.{Rounded, entry, row_numbers, entry_text, fields_text, row_text}
use Rattle.reactions.specs.row.Reads.{IsLoadRow}

-- ---- the kinds that are taken

-- a load row with no sixth number, written with two letters
taken_kind : {of : Kind} → Taken of → (columns of ≡ load_columns Empty) × (role of ≡ Load) × (length (letters of) ≡ 2)
taken_kind dl = (refl, refl, refl)
taken_kind ep = (refl, refl, refl)
taken_kind ll = (refl, refl, refl)
taken_kind wc = (refl, refl, refl)
taken_kind bu = (refl, refl, refl)
taken_kind tm = (refl, refl, refl)
taken_kind ex = (refl, refl, refl)
taken_kind wl = (refl, refl, refl)
taken_kind sf = (refl, refl, refl)

pub taken_columns : {of : Kind} → Taken of → columns of ≡ load_columns Empty
taken_columns t = (taken_kind t).0

pub taken_load : {of : Kind} → Taken of → role of ≡ Load
taken_load t = (taken_kind t).1

-- ---- a whole number as an entry

pub entry_size : (z : ℤ) → (entry z).size ≡ nat_abs z
entry_size (pos n) = refl
entry_size (negsuc n) = refl

around_size : (z : ℤ) (most : ℕ) → Around most most (entry z) → nat_abs z ≤ most
around_size (pos n) most a = a.over refl
around_size (negsuc n) most a = a.under refl

between_size : (z : ℤ) (most : ℕ) → Between 0 most (entry z) → nat_abs z ≤ most
between_size z most b = subst (λ (n : ℕ). n ≤ most) (entry_size z) b.to

pub range_size : {of : Kind} {phase : ℕ} (q : Rounded) → Taken of → Ranged of (row_numbers q phase)
    → (nat_abs q.v ≤ 50000) × (nat_abs q.x ≤ 30000) × (nat_abs q.h ≤ 50000) × (nat_abs q.y ≤ 60000)
range_size {of} {phase} q t r =
    let c = subst (λ (c : Columns). InColumns c (row_numbers q phase)) (taken_columns t) r in
    (around_size q.v 50000 c.n1, around_size q.x 30000 c.n2, around_size q.h 50000 c.n3, between_size q.y 60000 c.n4)

digited : (n : ℕ) → n < 10 ^ 9 → Digited (decimal n) n
digited n h = record { numeral = decimal_numeral n; few = decimal_length 8 n h }

-- its text is the number that it is
entry_number : (z : ℤ) → nat_abs z < 10 ^ 9 → IsNumber (entry_text (entry z)) (entry z)
entry_number (pos n) h = is_positive {n = n} (digited n h) refl
entry_number (negsuc n) h = is_negative {n = suc n} refl (digited (suc n) h) (omega arith) refl

number_short : {c : List ℕ} {e : Entry} → IsNumber c e → length c ≤ 10
number_short (is_positive d q) = omega (arith, d.few)
number_short (is_negative f d l q) = rw f (omega (arith, d.few))

-- ---- the row

abbrev cell : List ℕ → Cell
cell t = record { raw = t; content = t }

module _ {member job kind : List ℕ} {phase : ℕ} {key : Key} {of : Kind} (q : Rounded) (asked : Asked member job kind phase key of)
    (ranged : Ranged of (row_numbers q phase)) where
  -- its ten fields
  abbrev ten : Ten
  ten = record {
    member = cell member;
    job = cell job;
    kind = cell kind;
    n1 = cell (entry_text (entry q.v));
    n2 = cell (entry_text (entry q.x));
    n3 = cell (entry_text (entry q.h));
    n4 = cell (entry_text (entry q.y));
    n5 = cell (decimal phase);
    n6 = cell [];
    note = cell [];
  }

  -- the six numbers mean what they were written for
  six : Six (load_columns Empty) ten (row_numbers q phase)
  six =
      let sizes = range_size q asked.taken ranged in
      record {
        n1 = entry_number q.v (omega (arith, sizes.0));
        n2 = entry_number q.x (omega (arith, sizes.1));
        n3 = entry_number q.h (omega (arith, sizes.2));
        n4 = entry_number q.y (omega (arith, sizes.3));
        n5 = entry_number (pos phase) (omega (arith, asked.phased));
        n6 = (refl, refl);
      }

  pub row_short : length (row_text member job kind (row_numbers q phase)) ≤ 2048
  unfolding row_text fields_text
  row_short =
      let two : length kind ≡ 2 = rw asked.lettered (taken_kind asked.taken).2 in
      simp length-append
      (omega
      (arith, asked.member_named.is.few, asked.job_named.is.few, two, number_short six.n1, number_short six.n2, number_short six.n3, number_short six.n4, number_short six.n5))

  -- the row before its CRLF is a record of RFC 4180
  reads : Record (fields_text member job kind (row_numbers q phase)) (cells_of ten)
  unfolding fields_text
  reads =
      then (plain (name_plain member asked.member_named.is))
      (then (plain (name_plain job asked.job_named.is))
      (then (plain (subst Plain (sym asked.lettered) (kind_plain of)))
      (then (plain (number_plain _ _ six.n1))
      (then (plain (number_plain _ _ six.n2))
      (then (plain (number_plain _ _ six.n3))
      (then (plain (number_plain _ _ six.n4))
      (then (plain (number_plain _ _ six.n5))
      (then (plain none) (only (plain none))))))))))

  -- and its cells mean the row that was asked for
  means : Form (cells_of ten) (record { keyed = record { key = key; row = record { kind = of; numbers = row_numbers q phase } }; note = [] })
  means = record {
    ten = ten;
    are = refl;
    member = asked.member_named;
    job = asked.job_named;
    kind = asked.lettered;
    numbers = subst (λ (c : Columns). Six c ten (row_numbers q phase)) (sym (taken_columns asked.taken)) six;
    note = refl;
  }

  pub row_is_load : IsLoadRow (row_text member job kind (row_numbers q phase)) (record { key = key; row = record { kind = of; numbers = row_numbers q phase } })
  unfolding row_text
  row_is_load = record {
    row = fields_text member job kind (row_numbers q phase);
    cells = cells_of ten;
    closed = refl;
    reads = reads;
    alone = λ rows f. file_unique f (closed reads) refl;
    means = means;
    only = λ b f. form_one f means;
    load = taken_load asked.taken;
    ranged = ranged;
  }
