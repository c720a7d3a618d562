-- Worked examples, on the definitions that the contracts use.
use Rattle.std.specs.Prelude.{◌≡◌, ℕ, Bool, true, false, Ok, Err, Option, from_bits, Float}
use Rattle.std.specs.Float.{binary32}
use Rattle.std.specs.Float.Ieee.{neg}
use Rattle.std.specs.declared.option.Option.TheVariants as option
use Rattle.refusal.specs.declared.Refusal.TheVariants.{InvalidSize}
use Rattle.refusal.specs.Numbers.{number_of}
use Rattle.geom.specs.F32.{whole}
use Rattle.geom.specs.Length.{in_unit}
use Rattle.geom.specs.Root.{root_size}
use Rattle.geom.specs.Fit.{fit}
use Rattle.geom.specs.Opacity.{plain}
use Rattle.geom.specs.declared.length.Length.{Length}
use Rattle.geom.specs.declared.length.Unit.TheVariants as unit
use Rattle.geom.specs.declared.matrix.Matrix.{Matrix}
use Rattle.geom.specs.declared.options.Options.{Options}
use Rattle.geom.specs.declared.rect.Rect.{Rect}
use Rattle.geom.specs.declared.rect.Size.{Size}
use Rattle.geom.specs.declared.root.RootAttributes.{RootAttributes}
use Rattle.geom.specs.declared.view_box.Align.TheVariants.{XMidYMid}
use Rattle.geom.specs.declared.view_box.ViewBox.{ViewBox}

abbrev pub box : ℕ → ℕ → ℕ → ℕ → Rect
box x y w h = record { x = whole x; y = whole y; w = whole w; h = whole h }

abbrev pub size : ℕ → ℕ → Size
size w h = record { w = whole w; h = whole h }

-- a length of n user units
abbrev pub units : ℕ → Length
units n = record { number = whole n; unit = unit.None }

-- a root of this width and view box, without a height
abbrev pub root : Option Length → Option Rect → RootAttributes
root width view_box = record { width = width; height = option.None; view_box = view_box }

abbrev pub usual : Options
usual = record { dpi = whole 96; font_size = whole 12 }

abbrev pub centred : Rect → Bool → ViewBox
centred r slice = record { rect = r; aspect = record { align = XMidYMid; slice = slice } }

-- a scale of s and a move by (e, f)
abbrev pub scaled : ℕ → Float → Float → Matrix
scaled s e f = record { a = whole s; b = whole 0; c = whole 0; d = whole s; e = e; f = f }

-- 72pt at dpi 96 is 96, and 1ex at font size 12 is 6, whatever the other numbers are
abbrev pub WorkedLengths : Type 0
WorkedLengths =
    ((base F : Float) → in_unit unit.Pt (whole 72) base (whole 96) F ≡ whole 96)
    × ((base dpi : Float) → in_unit unit.Ex (whole 1) base dpi (whole 12) ≡ whole 6)

-- a root of width 200 with view box 0 0 100 50 is 200 by 100; a bare root is 100 by 100, with its flag on; one of width 0 is refused 6
abbrev pub WorkedRootSizes : Type 0
WorkedRootSizes =
    (root_size (root (option.Some (units 200)) (option.Some (box 0 0 100 50))) usual ≡ Ok (record { size = size 200 100; flag = false }))
    × (root_size (root option.None option.None) usual ≡ Ok (record { size = size 100 100; flag = true }))
    × (root_size (root (option.Some (units 0)) option.None) usual ≡ Err InvalidSize)
    × (number_of InvalidSize ≡ 6)

-- view box 0 0 10 20 into 100 by 100: (5, 0, 0, 5, 25, 0) to meet, (10, 0, 0, 10, 0, -50) to slice
abbrev pub WorkedFits : Type 0
WorkedFits =
    (fit (centred (box 0 0 10 20) false) (size 100 100) ≡ scaled 5 (whole 25) (whole 0))
    × (fit (centred (box 0 0 10 20) true) (size 100 100) ≡ scaled 10 (whole 0) (neg (whole 50)))

-- opacity bits 3F7FFFFC are plain, 3F7FFFFB are not
abbrev pub WorkedOpacities : Type 0
WorkedOpacities = (plain (from_bits binary32 0x3f7f_fffc) ≡ true) × (plain (from_bits binary32 0x3f7f_fffb) ≡ false)

abbrev pub WorkedExamples : Type 0
WorkedExamples = WorkedLengths × WorkedRootSizes × WorkedFits × WorkedOpacities
