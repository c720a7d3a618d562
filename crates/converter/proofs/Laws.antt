-- The laws of groups, from the rules.
use Rattle.std.proofs.Common.{◌≡◌, Bool, true, false, cond, ◌&&◌, ◌||◌, [], ◌∷◌, Some, None, Option, refl, ap}
use Rattle.std.proofs.lemmas.Bool.{and_parts, cond_both, not-true, not_from_false}
use Rattle.std.proofs.lemmas.Bool.Decides.{Decides-and, Decides-or, not_from_Decides}
use Rattle.std.specs.Bool.{Decides}
use lib.Ieee.{Float}
use Rattle.geom.specs.Matrix.{product, is_identity}
use Rattle.geom.specs.Opacity.{plain}
use Rattle.geom.specs.declared.matrix.Matrix.{Matrix}
use Rattle.geom.specs.declared.rect.Rect.{Rect}
use Rattle.geom.specs.declared.rect.Ruler.{Ruler}
use Rattle.element.specs.Attributes.{matrix_of, opacity_of, overflows}
use Rattle.element.specs.declared.element.Element.{Element}
use Rattle.converter.specs.Rectangle.{resolved_rect}
use Rattle.converter.specs.Clip.{both_set, from_use, keeps_in, svg_clip, symbol_clip}
use Rattle.converter.specs.Groups.{group, clip_group, spare}
use Rattle.converter.specs.Rules.{svg_groups, use_symbol_groups}
use Rattle.converter.specs.State.{framed}
use Rattle.converter.specs.Laws.{listed, clip_of, clips, ClipsTo, KeptIn, Sized, SvgClips, SymbolClips, Has, OwnThenPlacing, OwnThenSymbol, Alone}
use Rattle.converter.specs.declared.state.State.{State}
use Rattle.converter.specs.declared.rules.Converted.{Converted}

-- ---- clips

no_clip_in_spare : (own m : Matrix) (o : Float) → clip_of (spare own m o) ≡ []
unfolding spare group
no_clip_in_spare own m o =
    cond_both (plain o && is_identity m && is_identity own) None (Some (group 0 m o)) (λ g. clip_of g ≡ []) (λ _. refl) (λ _. refl)

svg_clips : (e : Element) (N : Matrix) (clip : Option Rect) (s : State) → clips (svg_groups e N clip s) ≡ listed clip
unfolding svg_groups clip_group
svg_clips e N None s = no_clip_in_spare (matrix_of e) (product (matrix_of e) N) (opacity_of e)
svg_clips e N (Some r) s = ap (λ t. r ∷ t) (no_clip_in_spare (matrix_of e) N (opacity_of e))

use_symbol_clips : (e : Element) (N : Matrix) (clip : Option Rect) (s : State) (ruler : Ruler) → clips (use_symbol_groups e N clip s ruler) ≡ listed clip
unfolding use_symbol_groups clip_group group
use_symbol_clips e N None s ruler = refl
use_symbol_clips e N (Some r) s ruler = refl

-- a clip that stands under a test, and what the test decides
tested : (c : Converted) (r : Rect) (b : Bool) (When : Type 0) → Decides b When → clips c ≡ listed (cond b (Some r) None) → ClipsTo c r When
tested c r true When d e = (λ w. e, λ n. absurd (n (d.0 refl)))
tested c r false When d e = (λ w. absurd (not_from_Decides false d refl w), λ n. e)

kept : (e : Element) (r : Rect) → Decides (keeps_in e r) (KeptIn e r)
unfolding keeps_in
kept e r = Decides-and _ _ (λ h. h, λ h. h) (not-true (overflows e), not_from_false (overflows e))

sized : (e : Element) (s : State) → Decides (both_set e || from_use s) (Sized e s)
unfolding both_set from_use
sized e s = Decides-or _ _ (Decides-and _ _ (λ h. h, λ h. h) (λ h. h, λ h. h)) (Decides-or _ _ (λ h. h, λ h. h) (λ h. h, λ h. h))

pub svg_clips_to : (e : Element) (s : State) (N : Matrix) (inside : State)
    → SvgClips e s (svg_groups e N (svg_clip e s (resolved_rect e s.use_size s)) inside)
unfolding svg_clip
svg_clips_to e s N inside =
    let r = resolved_rect e s.use_size s in
    tested (svg_groups e N (svg_clip e s r) inside) r _ _ (Decides-and _ _ (kept e r) (sized e s)) (svg_clips e N (svg_clip e s r) inside)

pub symbol_clips_to : (e symbol : Element) (s : State) (N : Matrix) (ruler : Ruler)
    → SymbolClips e symbol s (use_symbol_groups e N (symbol_clip symbol (resolved_rect e (None, None) s)) s ruler)
unfolding symbol_clip
symbol_clips_to e symbol s N ruler =
    let r = resolved_rect e (None, None) s in
    tested (use_symbol_groups e N (symbol_clip symbol r) s ruler) r _ _ (kept symbol r) (use_symbol_clips e N (symbol_clip symbol r) s ruler)

-- ---- matrices

has_spare : (own m : Matrix) (o : Float) → Has (spare own m o) m
unfolding spare group
has_spare own m o =
    let left_out = plain o && is_identity m && is_identity own in
    cond_both left_out None (Some (group 0 m o)) (λ g. Has g m)
    (λ h. (and_parts (plain o) (is_identity m) (and_parts (plain o && is_identity m) (is_identity own) h).0).1)
    (λ _. refl)

pub own_then_placing : (e : Element) (N : Matrix) (clip : Option Rect) (s : State) → OwnThenPlacing (matrix_of e) N (svg_groups e N clip s)
unfolding svg_groups clip_group
own_then_placing e N None s =
    (λ h. absurd (h (svg_clips e N None s)), λ h. (refl, has_spare (matrix_of e) (product (matrix_of e) N) (opacity_of e)))
own_then_placing e N (Some r) s = (λ h. (refl, has_spare (matrix_of e) N (opacity_of e)), λ h. absurd (cc))

pub own_then_symbol : (e : Element) (N : Matrix) (clip : Option Rect) (s : State) (ruler : Ruler) → OwnThenSymbol (matrix_of e) N (use_symbol_groups e N clip s ruler)
unfolding use_symbol_groups clip_group group framed
own_then_symbol e N None s ruler = (λ h. absurd (h refl), λ h. (refl, refl, refl))
own_then_symbol e N (Some r) s ruler = (λ h. (refl, refl, refl), λ h. absurd (cc))

pub alone_spare : (own m T : Matrix) (o : Float) → T ≡ m → Alone (spare own m o) None T
alone_spare own m T o same = rw same (refl, has_spare own m o, no_clip_in_spare own m o)
