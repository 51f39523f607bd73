-- Two texts that are equal are those of the same key and the same lines: their fields are equal one by one, and each says the same.
use Prim.Native.Nat.{ℕ}
use mathlib.Core.Path.{◌≡◌, refl, sym, ap, ◌∙◌}
use mathlib.Core.List.{List, [], ◌∷◌, ◌++◌, append_assoc}
use lib.Seq.{take-append_seam}
use Rattle.arithmetic.proofs.Cases.{impossible}
use Rattle.csv_text.specs.rfc4180.Rfc4180.{COMMA, CR, LF}
use Rattle.fields.specs.declared.names.Name.{Name}
use Rattle.fields.specs.names.Names.{name, NameOf}
use Rattle.rows.specs.declared.keys.Key.{Key}
use Rattle.lines.specs.Lines.{PrintedLine}
use Rattle.printing.specs.line_key.Text.{name_bytes, key_text}
use Rattle.printing.specs.line_fields.Text.{name_text, value_text, number_text, mark_text, exactness_text}
use Rattle.printing.specs.Keys.{IsKey}
use Rattle.printing.specs.Text.{line_text, texts}
use Rattle.printing.proofs.Fields.{Without, until_first, name_without, line_name_without, value_without, cell_without, mark_without, exactness_without, read_back, read_name, name_read, read_value, value_read, read_cell, cell_read, read_mark, mark_read, read_exactness, exactness_read}

-- ---- a line, and what follows it

line_laid : (key : Key) (l : PrintedLine) (later : List ℕ) → line_text key l ++ later
    ≡ name_bytes key.member ++ (COMMA ∷ (name_bytes key.job ++ (COMMA ∷ (name_text l.name ++ (COMMA ∷ (value_text l.value
    ++ (COMMA ∷ (number_text l.limit ++ (COMMA ∷ (number_text l.set ++ (COMMA ∷ (mark_text l.mark
    ++ (COMMA ∷ (exactness_text l.exactness ++ (CR ∷ (LF ∷ later))))))))))))))))
unfolding line_text key_text
line_laid key l later = simp append_assoc

-- keys whose names hold no comma, two lines, and what follows each
module _ (k k' : Key) (l l' : PrintedLine) (later later' : List ℕ)
    (member : Without COMMA (name_bytes k.member)) (member' : Without COMMA (name_bytes k'.member))
    (job : Without COMMA (name_bytes k.job)) (job' : Without COMMA (name_bytes k'.job)) where
  record SameLine : Type 0 where
    members : name_bytes k.member ≡ name_bytes k'.member
    jobs : name_bytes k.job ≡ name_bytes k'.job
    lines : l ≡ l'
    rest : later ≡ later'

  line_same : line_text k l ++ later ≡ line_text k' l' ++ later' → SameLine
  line_same e =
      let a = until_first COMMA _ _ _ _ member member' (sym (line_laid k l later) ∙ e ∙ line_laid k' l' later') in
      let b = until_first COMMA _ _ _ _ job job' a.1 in
      let c = until_first COMMA _ _ _ _ (line_name_without l.name) (line_name_without l'.name) b.1 in
      let d = until_first COMMA _ _ _ _ (value_without l.value) (value_without l'.value) c.1 in
      let f = until_first COMMA _ _ _ _ (cell_without l.limit) (cell_without l'.limit) d.1 in
      let g = until_first COMMA _ _ _ _ (cell_without l.set) (cell_without l'.set) f.1 in
      let h = until_first COMMA _ _ _ _ (mark_without l.mark) (mark_without l'.mark) g.1 in
      let x = until_first CR _ _ _ _ (exactness_without l.exactness) (exactness_without l'.exactness) h.1 in
      let names = read_back name_text read_name name_read _ _ c.0 in
      let values = read_back value_text read_value value_read _ _ d.0 in
      let limits = read_back number_text read_cell cell_read _ _ f.0 in
      let sets = read_back number_text read_cell cell_read _ _ g.0 in
      let marks = read_back mark_text read_mark mark_read _ _ h.0 in
      let exactness = read_back exactness_text read_exactness exactness_read _ _ x.0 in
      record {
        members = a.0;
        jobs = b.0;
        lines = λ i. record { name = names i; value = values i; limit = limits i; set = sets i; mark = marks i; exactness = exactness i };
        rest = cc x.1;
      }

-- ---- lines

none_not_some : (s : List ℕ) (x : ℕ) (t : List ℕ) → [] ≡ s ++ (x ∷ t) → ⊥
none_not_some [] x t e = impossible cc
none_not_some (y ∷ s) x t e = impossible cc

line_some : (key : Key) (l : PrintedLine) (later : List ℕ) → [] ≡ line_text key l ++ later → ⊥
line_some key l later e = none_not_some (name_bytes key.member) COMMA _ (e ∙ line_laid key l later)

module _ (k k' : Key) (member : Without COMMA (name_bytes k.member)) (member' : Without COMMA (name_bytes k'.member))
    (job : Without COMMA (name_bytes k.job)) (job' : Without COMMA (name_bytes k'.job)) where
  texts_same : (ls ms : List PrintedLine) → texts k ls ≡ texts k' ms → ls ≡ ms
  unfolding texts
  texts_same [] [] e = refl
  texts_same [] (m ∷ ms) e = absurd (line_some k' m (texts k' ms) e)
  texts_same (l ∷ ls) [] e = absurd (line_some k l (texts k ls) (sym e))
  texts_same (l ∷ ls) (m ∷ ms) e =
      let same = line_same k k' l m (texts k ls) (texts k' ms) member member' job job' e in
      let later = texts_same ls ms same.rest in
      cc same.lines

-- ---- a key's names

named_bytes : (c : List ℕ) → name_bytes (name c) ≡ c
unfolding name_bytes
named_bytes c = take-append_seam c _

-- the same content has the same value
name_same : {c d : List ℕ} {m n : Name} → NameOf c m → NameOf d n → c ≡ d → m ≡ n
name_same p q e = p.held ∙ (λ i. name (e i)) ∙ sym q.held

member_bytes : {key : Key} (h : IsKey key) → name_bytes key.member ≡ h.member
member_bytes h = ap name_bytes h.member_named.held ∙ named_bytes h.member

job_bytes : {key : Key} (h : IsKey key) → name_bytes key.job ≡ h.job
job_bytes h = ap name_bytes h.job_named.held ∙ named_bytes h.job

member_without : {key : Key} → IsKey key → Without COMMA (name_bytes key.member)
member_without h = rw (member_bytes h) (name_without h.member h.member_named.is)

job_without : {key : Key} → IsKey key → Without COMMA (name_bytes key.job)
job_without h = rw (job_bytes h) (name_without h.job h.job_named.is)

-- A line and what follows it say the key, the line, and what follows; lines say themselves.
module _ {k k' : Key} (h : IsKey k) (h' : IsKey k') where
  pub line_injective : (l l' : PrintedLine) (later later' : List ℕ) → line_text k l ++ later ≡ line_text k' l' ++ later' → (k ≡ k') × (l ≡ l')
  line_injective l l' later later' e =
      let same = line_same k k' l l' later later' (member_without h) (member_without h') (job_without h) (job_without h') e in
      let members = name_same h.member_named h'.member_named (sym (member_bytes h) ∙ same.members ∙ member_bytes h') in
      let jobs = name_same h.job_named h'.job_named (sym (job_bytes h) ∙ same.jobs ∙ job_bytes h') in
      (λ i. record { member = members i; job = jobs i }, same.lines)

  pub texts_injective : (ls ms : List PrintedLine) → texts k ls ≡ texts k' ms → ls ≡ ms
  texts_injective = texts_same k k' (member_without h) (member_without h') (job_without h) (job_without h')
