-- What is good stays good where -0 counts as 0, and nothing is left to change after the first time.
use Rattle.std.specs.Prelude.{◌≡◌, zero, suc, true, false, pos, Some, None, Option, refl, Float}
use Rattle.std.proofs.Common.{zero-mul, zero-add}
use Rattle.std.specs.Int.Count.{count_trailing_zeros}
use Rattle.std.specs.Float.Ieee.{round, odd, units, size, span, climb, lt, le, eq}
use Rattle.std.specs.Float.{float_is_finite, nan, inf, fin}
use Rattle.geom.specs.F32.{decimal}
use Rattle.geom.specs.Matrix.{finite_matrix}
use Rattle.geom.specs.Size.{finite_rect, valid_rect, finite_ruler}
use Rattle.geom.specs.declared.matrix.Matrix.{Matrix}
use Rattle.geom.specs.declared.rect.Rect.{Rect}
use Rattle.record.specs.Good.{good_clip, good_opacity, good_group, good_mark}
use Rattle.record.specs.Zero.{zeroed, zeroed_matrix, zeroed_rect, zeroed_clip, zeroed_group, zeroed_ruler, zeroed_mark}
use Rattle.record.specs.declared.Group.{Group}
use Rattle.record.specs.declared.Mark.{Mark}

pub nought : decimal 0 1 ≡ fin false 0 (pos 0)
unfolding decimal round odd units size span climb count_trailing_zeros
nought = refl

pub unit : decimal 1 1 ≡ fin false 1 (pos 0)
unfolding decimal round odd units size span climb count_trailing_zeros
unit = refl

finite_zeroed : (x : Float) → float_is_finite (zeroed x) ≡ float_is_finite x
unfolding float_is_finite zeroed
finite_zeroed nan = refl
finite_zeroed (inf s) = refl
finite_zeroed (fin s zero e) = refl
finite_zeroed (fin s (suc m) e) = refl

above_at : (x : Float) → lt (fin false 0 (pos 0)) (zeroed x) ≡ lt (fin false 0 (pos 0)) x
unfolding lt zeroed
above_at nan = refl
above_at (inf s) = refl
above_at (fin true zero e) = simp zero-mul
above_at (fin false zero e) = refl
above_at (fin s (suc m) e) = refl

from_at : (x : Float) → le (fin false 0 (pos 0)) (zeroed x) ≡ le (fin false 0 (pos 0)) x
unfolding le lt eq zeroed
from_at nan = refl
from_at (inf s) = refl
from_at (fin true zero e) = simp zero-mul
from_at (fin false zero e) = refl
from_at (fin s (suc m) e) = refl

upto_at : (x : Float) → le (zeroed x) (fin false 1 (pos 0)) ≡ le x (fin false 1 (pos 0))
unfolding le lt eq zeroed
upto_at nan = refl
upto_at (inf s) = refl
upto_at (fin true zero e) = simp (zero-mul, zero-add)
upto_at (fin false zero e) = refl
upto_at (fin s (suc m) e) = refl

matrix_good : (m : Matrix) → finite_matrix (zeroed_matrix m) ≡ finite_matrix m
unfolding finite_matrix zeroed_matrix
matrix_good m = simp finite_zeroed

clip_good : (c : Option Rect) → good_clip (zeroed_clip c) ≡ good_clip c
unfolding good_clip zeroed_clip zeroed_rect finite_rect valid_rect
clip_good None = refl
clip_good (Some r) = simp (nought, finite_zeroed, above_at)

opacity_good : (x : Float) → good_opacity (zeroed x) ≡ good_opacity x
unfolding good_opacity
opacity_good x = simp (nought, unit, from_at, upto_at)

pub group_good : (g : Group) → good_group (zeroed_group g) ≡ good_group g
unfolding good_group zeroed_group
group_good g = simp (matrix_good, clip_good, opacity_good)

pub mark_good : (m : Mark) → good_mark (zeroed_mark m) ≡ good_mark m
unfolding good_mark zeroed_mark zeroed_ruler finite_ruler
mark_good m = simp finite_zeroed

zeroed_twice : (x : Float) → zeroed (zeroed x) ≡ zeroed x
unfolding zeroed
zeroed_twice nan = refl
zeroed_twice (inf s) = refl
zeroed_twice (fin s zero e) = refl
zeroed_twice (fin s (suc m) e) = refl

clip_twice : (c : Option Rect) → zeroed_clip (zeroed_clip c) ≡ zeroed_clip c
unfolding zeroed_clip zeroed_rect
clip_twice None = refl
clip_twice (Some r) = simp zeroed_twice

pub group_twice : (g : Group) → zeroed_group (zeroed_group g) ≡ zeroed_group g
unfolding zeroed_group zeroed_matrix
group_twice g = simp (zeroed_twice, clip_twice)

pub mark_twice : (m : Mark) → zeroed_mark (zeroed_mark m) ≡ zeroed_mark m
unfolding zeroed_mark zeroed_ruler
mark_twice m = simp zeroed_twice
