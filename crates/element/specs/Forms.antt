-- The six forms of a value: what a value of that form holds, and none of any other.
use Rattle.std.specs.Prelude.{Some, None, Option, Float}
use Rattle.geom.specs.declared.length.Length.{Length}
use Rattle.geom.specs.declared.matrix.Matrix.{Matrix}
use Rattle.geom.specs.declared.rect.Rect.{Rect}
use Rattle.geom.specs.declared.view_box.Aspect.{Aspect}
use Rattle.element.specs.declared.value.Value.{Value}
use Rattle.element.specs.declared.value.Value.TheVariants as form
use Rattle.element.specs.declared.word.Word.{Word}

unfoldable pub as_length : Value → Option Length
as_length (form.Length number unit) = Some (record { number = number; unit = unit })
as_length (form.Box x y w h) = None
as_length (form.Matrix a b c d e f) = None
as_length (form.Aspect align slice) = None
as_length (form.Number x) = None
as_length (form.Word w) = None

unfoldable pub as_rect : Value → Option Rect
as_rect (form.Length number unit) = None
as_rect (form.Box x y w h) = Some (record { x = x; y = y; w = w; h = h })
as_rect (form.Matrix a b c d e f) = None
as_rect (form.Aspect align slice) = None
as_rect (form.Number x) = None
as_rect (form.Word w) = None

unfoldable pub as_matrix : Value → Option Matrix
as_matrix (form.Length number unit) = None
as_matrix (form.Box x y w h) = None
as_matrix (form.Matrix a b c d e f) = Some (record { a = a; b = b; c = c; d = d; e = e; f = f })
as_matrix (form.Aspect align slice) = None
as_matrix (form.Number x) = None
as_matrix (form.Word w) = None

unfoldable pub as_aspect : Value → Option Aspect
as_aspect (form.Length number unit) = None
as_aspect (form.Box x y w h) = None
as_aspect (form.Matrix a b c d e f) = None
as_aspect (form.Aspect align slice) = Some (record { align = align; slice = slice })
as_aspect (form.Number x) = None
as_aspect (form.Word w) = None

unfoldable pub as_number : Value → Option Float
as_number (form.Length number unit) = None
as_number (form.Box x y w h) = None
as_number (form.Matrix a b c d e f) = None
as_number (form.Aspect align slice) = None
as_number (form.Number x) = Some x
as_number (form.Word w) = None

unfoldable pub as_word : Value → Option Word
as_word (form.Length number unit) = None
as_word (form.Box x y w h) = None
as_word (form.Matrix a b c d e f) = None
as_word (form.Aspect align slice) = None
as_word (form.Number x) = None
as_word (form.Word w) = Some w
