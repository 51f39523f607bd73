-- Document 02, P6: "Key, kind and phase are given beside the record". 26: "a key or phase no load row can have, or a kind other than DL, EP, LL, WC,
-- BU, TM, EX, WL, SF".
use Rattle.std.specs.Prelude.{ℕ, ◌≤◌, ◌≡◌, List}
use Rattle.fields.specs.names.Names.{NameOf}
use Rattle.kinds.specs.Table.{letters}
use Rattle.kinds.specs.declared.Kind.{Kind}
use Rattle.kinds.specs.declared.Kind.TheVariants.{DL, EP, LL, WC, BU, TM, EX, WL, SF}
use Rattle.rows.specs.declared.keys.Key.{Key}

-- the kinds that are taken
pub data Taken : Kind → Type 0 where
  dl : Taken DL
  ep : Taken EP
  ll : Taken LL
  wc : Taken WC
  bu : Taken BU
  tm : Taken TM
  ex : Taken EX
  wl : Taken WL
  sf : Taken SF

-- member and job are names, and together this key; the letters are those of this kind, which is taken; the phase is 0, 1 or 2
pub record Asked (member job kind : List ℕ) (phase : ℕ) (key : Key) (of : Kind) : Type 0 where
  pub member_named : NameOf member key.member
  pub job_named : NameOf job key.job
  pub lettered : kind ≡ letters of
  pub taken : Taken of
  pub phased : phase ≤ 2
