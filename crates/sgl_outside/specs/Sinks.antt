-- The bytes that a sink was written, where it tells them.
use Rattle.std.specs.Prelude.{◌≡◌, ℕ, ◌<◌, ◌≤◌, List, ◌++◌, length, Option, Result, OnOk, OnErr}
use Rattle.std.specs.Io.KnownBytes.{Appends}
use Rattle.sgl_outside.specs.Causes.{Rose}

-- a prefix of this length was taken of the piece, at least a byte where there is any
pub record Takes (piece : List ℕ) (count : ℕ) : Type 0 where
  pub fits : count ≤ length piece
  pub some : 0 < length piece → 0 < count

-- a prefix of the piece was written
pub record AppendsPrefix (old new : Option (List ℕ)) (piece : List ℕ) : Type 0 where
  pub taken : List ℕ
  pub rest : List ℕ
  pub whole : taken ++ rest ≡ piece
  pub appends : Appends old new taken

-- the text was written whole, or the sink failed and a prefix of it was written
pub record Writes {T E : Type 0} (old new : Option (List ℕ)) (before now : ℕ) (result : Result T E) (text : List ℕ) : Type 0 where
  pub later : before ≤ now
  pub whole : OnOk result (Appends old new text)
  pub cut : OnErr result (Rose before now × AppendsPrefix old new text)
