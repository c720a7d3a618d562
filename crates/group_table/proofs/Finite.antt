-- What is good is finite part by part, and the bits of what is finite are no NaN's. Assumes nothing.
use Rattle.std.proofs.Common.{◌≡◌, Bool, true, false, not, T, pos, Some, sym, refl, subst}
use lib.Ieee.{Float, nan, inf, fin, binary32, to_bits, nan_bits, is_nan, fits, lt, le, eq}
use lib.Ieee.Bits.{of_bits-to_bits, nan_bits_is}
use Rattle.std.specs.Float.{float_is_finite}
use Rattle.std.specs.List.{list_all}
use Rattle.std.proofs.lemmas.Bool.{and_parts}
use Rattle.geom.specs.F32.{decimal}
use Rattle.geom.specs.Matrix.{entries, finite_matrix}
use Rattle.geom.specs.Size.{rect_floats, ruler_floats, finite_rect, finite_ruler}
use Rattle.geom.specs.declared.matrix.Matrix.{Matrix}
use Rattle.geom.specs.declared.rect.Rect.{Rect}
use Rattle.geom.specs.declared.rect.Ruler.{Ruler}
use Rattle.record.specs.Good.{good_clip, good_opacity, good_group, good_mark}
use Rattle.sink.specs.Zeroed.{nought, unit}
use Rattle.record.specs.declared.Group.{Group}
use Rattle.record.specs.declared.Mark.{Mark}

pub holds : (b : Bool) → b ≡ true → T b
holds b is = subst T (sym is) tt

finite_number : (x : Float) → float_is_finite x ≡ true → is_nan x ≡ false
unfolding float_is_finite is_nan
finite_number nan is = sym is
finite_number (inf s) is = refl
finite_number (fin s m e) is = refl

pub no_nan_at : (x : Float) → float_is_finite x ≡ true → T (not (is_nan x))
no_nan_at x is = rw (finite_number x is) tt

pub no_nan_bits : (x : Float) → T (fits binary32 x) → float_is_finite x ≡ true → not (nan_bits binary32 (to_bits binary32 x)) ≡ true
no_nan_bits x fits-it is = rw (nan_bits_is binary32 (to_bits binary32 x), of_bits-to_bits binary32 x fits-it, finite_number x is) refl

-- ---- the parts

matrix_parts : (m : Matrix) → finite_matrix m ≡ true
    → (float_is_finite m.a ≡ true) × (float_is_finite m.b ≡ true) × (float_is_finite m.c ≡ true) × (float_is_finite m.d ≡ true) × (float_is_finite m.e ≡ true) × (float_is_finite m.f ≡ true)
unfolding finite_matrix
matrix_parts m is =
    let f = and_parts _ _ is in
    let e = and_parts _ _ f.0 in
    let d = and_parts _ _ e.0 in
    let c = and_parts _ _ d.0 in
    let b = and_parts _ _ c.0 in
    (b.0, b.1, c.1, d.1, e.1, f.1)

clip_parts : (r : Rect) → good_clip (Some r) ≡ true → (float_is_finite r.x ≡ true) × (float_is_finite r.y ≡ true) × (float_is_finite r.w ≡ true) × (float_is_finite r.h ≡ true)
unfolding good_clip finite_rect
clip_parts r is =
    let h = and_parts _ _ (and_parts _ _ is).0 in
    let w = and_parts _ _ h.0 in
    let y = and_parts _ _ w.0 in
    (y.0, y.1, w.1, h.1)

ruler_parts : (r : Ruler) → finite_ruler r ≡ true → (float_is_finite r.w ≡ true) × (float_is_finite r.h ≡ true) × (float_is_finite r.f ≡ true)
unfolding finite_ruler
ruler_parts r is =
    let f = and_parts _ _ is in
    let h = and_parts _ _ f.0 in
    (h.0, h.1, f.1)

-- ---- all of the parts, in a list

pub matrix_all : (m : Matrix) → finite_matrix m ≡ true → list_all float_is_finite (entries m) ≡ true
matrix_all m is = let p = matrix_parts m is in rw (p.0, p.1, p.2, p.3, p.4, p.5) refl

pub clip_all : (r : Rect) → good_clip (Some r) ≡ true → list_all float_is_finite (rect_floats r) ≡ true
clip_all r is = let p = clip_parts r is in rw (p.0, p.1, p.2, p.3) refl

pub ruler_all : (r : Ruler) → finite_ruler r ≡ true → list_all float_is_finite (ruler_floats r) ≡ true
ruler_all r is = let p = ruler_parts r is in rw (p.0, p.1, p.2) refl

pub mark_part : (m : Mark) → good_mark m ≡ true → finite_ruler m.ruler ≡ true
unfolding good_mark
mark_part m is = is

in_range : (x : Float) → le (fin false 0 (pos 0)) x ≡ true → le x (fin false 1 (pos 0)) ≡ true → float_is_finite x ≡ true
unfolding le lt eq float_is_finite
in_range nan from to = from
in_range (inf true) from to = from
in_range (inf false) from to = to
in_range (fin s m e) from to = refl

opacity_finite : (x : Float) → good_opacity x ≡ true → float_is_finite x ≡ true
unfolding good_opacity
opacity_finite x is =
    let p = and_parts (le (decimal 0 1) x) (le x (decimal 1 1)) is in in_range x (rw nought at p.0) (rw unit at p.1)

pub group_parts : (g : Group) → good_group g ≡ true → (finite_matrix g.matrix ≡ true) × (good_clip g.clip ≡ true) × (float_is_finite g.opacity ≡ true)
unfolding good_group
group_parts g is =
    let o = and_parts _ _ is in
    let c = and_parts _ _ o.0 in
    (c.0, c.1, opacity_finite g.opacity o.1)
