-- Floats by their 32 bits.
use Rattle.std.specs.Prelude.{ℕ, Bool, not, List, map, from_bits, slice_index_or, Float}
use Rattle.std.specs.Float.{binary32}
use Rattle.std.specs.Float.Ieee.{nan_bits}

-- bits that are no NaN's
abbrev pub is_number : ℕ → Bool
is_number b = not (nan_bits binary32 b)

abbrev pub floats_of : List ℕ → List Float
floats_of words = map (from_bits binary32) words

abbrev pub float_at : List ℕ → ℕ → Float
float_at words i = from_bits binary32 (slice_index_or words i 0)
