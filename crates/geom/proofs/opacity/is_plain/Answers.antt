use Rattle.std.proofs.Common.{◌≡◌, ℕ, true, false, sym, refl, arith}
use lib.Ieee.{Float, nan, inf, fin, is_nan, to_bits}
use Rattle.geom.specs.Opacity.{plain}
use Rattle.geom.proofs.opacity.is_plain.Goals as goal

nan_is_not_plain : (x : Float) → is_nan x ≡ true → plain x ≡ false
unfolding plain to_bits is_nan
nan_is_not_plain nan h = refl
nan_is_not_plain (inf s) h = let z : ◌≡◌ {A = ℕ} 0 1 = cc in absurd (omega arith)
nan_is_not_plain (fin s m e) h = let z : ◌≡◌ {A = ℕ} 0 1 = cc in absurd (omega arith)

pub returns-then-not-is_nan : goal.returns-then-not-is_nan
unfolding plain
returns-then-not-is_nan c = rw c.abs_diff.ensures refl

pub returns-else-not-is_nan : goal.returns-else-not-is_nan
unfolding plain
returns-else-not-is_nan c = rw c.if-not-is_nan.false (sym (nan_is_not_plain c.args.opacity (sym c.if-not-is_nan.ensures.value)))
