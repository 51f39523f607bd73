-- How many bytes stand at the start of a buffer.
use Rattle.std.specs.Prelude.{ℕ, ◌≤◌, ◌≡◌, List, length, take, Result, Ok, Err}
use Rattle.files.specs.declared.Unfinished.{Unfinished}

-- `&xs[..n]` is in bounds and has n bytes. The second part follows from the first, and spares a caller's `&buf[..n]` a proof file.
abbrev pub IsPrefixLen : ℕ → List ℕ → Type 0
IsPrefixLen n xs = (n ≤ length xs) × (n ≡ length (take n xs))

-- how many bytes were read, to the end or until a read failed
abbrev pub read_len : Result ℕ Unfinished → ℕ
read_len (Ok n) = n
read_len (Err unfinished) = unfinished.len
