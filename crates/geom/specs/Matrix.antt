-- Matrices (a, b, c, d, e, f), which map x to ax + cy + e and y to bx + dy + f.
use Rattle.std.specs.Prelude.{Bool, ◌&&◌, List, [], ◌∷◌, Float}
use Rattle.std.specs.Float.Ieee.{eq}
use Rattle.std.specs.Float.{float_is_finite}
use Rattle.geom.specs.F32.{◌+f◌, ◌*f◌, whole}
use Rattle.geom.specs.declared.matrix.Matrix.{Matrix}

-- its numbers in their order
abbrev pub entries : Matrix → List Float
entries m = m.a ∷ m.b ∷ m.c ∷ m.d ∷ m.e ∷ m.f ∷ []

unfoldable pub translation : Float → Float → Matrix
translation x y = record { a = whole 1; b = whole 0; c = whole 0; d = whole 1; e = x; f = y }

unfoldable pub identity : Matrix
identity = record { a = whole 1; b = whole 0; c = whole 0; d = whole 1; e = whole 0; f = whole 0 }

-- A·B: B is applied first
unfoldable pub product : Matrix → Matrix → Matrix
product A B =
    record {
      a = A.a *f B.a +f A.c *f B.b;
      b = A.b *f B.a +f A.d *f B.b;
      c = A.a *f B.c +f A.c *f B.d;
      d = A.b *f B.c +f A.d *f B.d;
      e = (A.a *f B.e +f A.c *f B.f) +f A.e;
      f = (A.b *f B.e +f A.d *f B.f) +f A.f;
    }

unfoldable pub finite_matrix : Matrix → Bool
finite_matrix m = float_is_finite m.a && float_is_finite m.b && float_is_finite m.c && float_is_finite m.d && float_is_finite m.e && float_is_finite m.f

-- each entry compares equal to the identity's, so that -0 counts as 0
unfoldable pub is_identity : Matrix → Bool
is_identity m =
    eq m.a (whole 1) && eq m.b (whole 0) && eq m.c (whole 0) && eq m.d (whole 1) && eq m.e (whole 0) && eq m.f (whole 0)
