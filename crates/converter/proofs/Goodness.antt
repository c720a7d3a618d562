-- Every group that a rule gives is good.
use Rattle.std.proofs.Common.{◌≡◌, ℕ, Bool, true, cond, ◌&&◌, Some, None, Option, refl}
use Rattle.std.proofs.lemmas.Bool.{and_from, and_parts, cond_both}
use lib.Count.{count_trailing_zeros}
use lib.Ieee.{Float, le, lt, eq, round, odd, units, size, span, climb}
use Rattle.std.specs.Float.{float_is_finite}
use Rattle.geom.specs.F32.{decimal, whole}
use Rattle.geom.specs.Matrix.{identity, product, finite_matrix, is_identity}
use Rattle.geom.specs.Opacity.{plain}
use Rattle.geom.specs.Size.{valid_rect, finite_rect}
use Rattle.geom.specs.declared.matrix.Matrix.{Matrix}
use Rattle.geom.specs.declared.rect.Rect.{Rect}
use Rattle.geom.specs.declared.rect.Ruler.{Ruler}
use Rattle.record.specs.Good.{good_group, good_clip, good_opacity}
use Rattle.record.specs.declared.Group.{Group}
use Rattle.element.specs.Attributes.{matrix_of, opacity_of, id_of}
use Rattle.element.specs.declared.element.Element.{Element}
use Rattle.converter.specs.Clip.{keeps_in, svg_clip, symbol_clip}
use Rattle.converter.specs.Groups.{group, clip_group, spare}
use Rattle.converter.specs.Rules.{svg_groups, finite_placing, use_symbol_groups, root_group}
use Rattle.converter.specs.State.{ruled, framed}
use Rattle.converter.specs.Laws.{Good, AllGood}
use Rattle.converter.specs.declared.state.State.{State}

good_one : good_opacity (whole 1) ≡ true
unfolding good_opacity le lt eq decimal round odd units size span climb count_trailing_zeros
good_one = refl

pub finite_identity : finite_matrix identity ≡ true
unfolding finite_matrix identity float_is_finite decimal round odd units size span climb count_trailing_zeros
finite_identity = refl

-- a group is good by its parts
good_parts : (g : Group) → finite_matrix g.matrix ≡ true → good_clip g.clip ≡ true → good_opacity g.opacity ≡ true → good_group g ≡ true
unfolding good_group
good_parts g f h k = and_from _ _ (and_from _ _ f h) k

pub good_plain : (id : ℕ) (m : Matrix) (o : Float) → finite_matrix m ≡ true → good_opacity o ≡ true → good_group (group id m o) ≡ true
unfolding group good_clip
good_plain id m o f h = good_parts (group id m o) f refl h

good_clipped : (id : ℕ) (m : Matrix) (r : Rect) → finite_matrix m ≡ true → good_clip (Some r) ≡ true → good_group (clip_group id m r) ≡ true
unfolding clip_group
good_clipped id m r f h = good_parts (clip_group id m r) f h good_one

pub good_spare : (own m : Matrix) (o : Float) → finite_matrix m ≡ true → good_opacity o ≡ true → Good (spare own m o)
unfolding spare
good_spare own m o f h =
    cond_both (plain o && is_identity m && is_identity own) None (Some (group 0 m o)) Good (λ _. tt) (λ _. good_plain 0 m o f h)

pub good_root : (m : Matrix) → finite_matrix m ≡ true → Good (root_group m)
unfolding root_group
good_root m f = cond_both (is_identity m) None (Some (group 0 m (whole 1))) Good (λ _. tt) (λ _. good_plain 0 m (whole 1) f good_one)

-- a clip under a test that asks for a valid rectangle
good_tested : (b : Bool) (r : Rect) → (b ≡ true → valid_rect r ≡ true) → finite_rect r ≡ true → good_clip (cond b (Some r) None) ≡ true
unfolding good_clip
good_tested b r v f = cond_both b (Some r) None (λ c. good_clip c ≡ true) (λ h. and_from (finite_rect r) (valid_rect r) f (v h)) (λ _. refl)

kept_valid : (e : Element) (r : Rect) → keeps_in e r ≡ true → valid_rect r ≡ true
unfolding keeps_in
kept_valid e r h = (and_parts (valid_rect r) _ h).0

good_svg : (e : Element) (N : Matrix) (clip : Option Rect) (s : State) (ruler : Ruler)
    → finite_placing (matrix_of e) N clip ≡ true → good_clip clip ≡ true → AllGood e (svg_groups e N clip (ruled s ruler))
unfolding svg_groups finite_placing ruled framed
good_svg e N None s ruler p q o =
    (tt, good_spare (matrix_of e) (product (matrix_of e) N) (opacity_of e) (and_parts (finite_matrix N) (finite_matrix (product (matrix_of e) N)) p).1 o, finite_identity)
good_svg e N (Some r) s ruler p q o =
    let f = and_parts (finite_matrix N) (finite_matrix (matrix_of e)) p in
    (good_clipped (id_of e) (matrix_of e) r f.1 q, good_spare (matrix_of e) N (opacity_of e) f.0 o, finite_identity)

good_use_symbol : (e : Element) (N : Matrix) (clip : Option Rect) (s : State) (ruler : Ruler)
    → finite_placing (matrix_of e) N clip ≡ true → good_clip clip ≡ true → AllGood e (use_symbol_groups e N clip s ruler)
unfolding use_symbol_groups finite_placing framed
good_use_symbol e N None s ruler p q o =
    (good_plain (id_of e) identity (opacity_of e) finite_identity o, tt, (and_parts (finite_matrix N) (finite_matrix (product (matrix_of e) N)) p).1)
good_use_symbol e N (Some r) s ruler p q o =
    let f = and_parts (finite_matrix N) (finite_matrix (matrix_of e)) p in
    (good_clipped (id_of e) (matrix_of e) r f.1 q, good_plain 0 identity (opacity_of e) finite_identity o, f.0)

pub svg_good : (e : Element) (s : State) (N : Matrix) (r : Rect) (ruler : Ruler)
    → (finite_rect r && finite_placing (matrix_of e) N (svg_clip e s r)) ≡ true → AllGood e (svg_groups e N (svg_clip e s r) (ruled s ruler))
unfolding svg_clip
svg_good e s N r ruler ok =
    let f = and_parts (finite_rect r) (finite_placing (matrix_of e) N (svg_clip e s r)) ok in
    good_svg e N (svg_clip e s r) s ruler f.1 (good_tested _ r (λ h. kept_valid e r (and_parts (keeps_in e r) _ h).0) f.0)

pub use_symbol_good : (e symbol : Element) (s : State) (N : Matrix) (r : Rect) (ruler : Ruler)
    → (finite_rect r && finite_placing (matrix_of e) N (symbol_clip symbol r)) ≡ true → AllGood e (use_symbol_groups e N (symbol_clip symbol r) s ruler)
unfolding symbol_clip
use_symbol_good e symbol s N r ruler ok =
    let f = and_parts (finite_rect r) (finite_placing (matrix_of e) N (symbol_clip symbol r)) ok in
    good_use_symbol e N (symbol_clip symbol r) s ruler f.1 (good_tested _ r (kept_valid symbol r) f.0)
