-- What the words of a line say of numbers, lengths, sizes, matrices and attributes' values.
use Rattle.std.specs.Prelude.{◌≡◌, ℕ, Bool, cond, List, [], ◌∷◌, drop, IsSomeAnd, Some, None, Option, ◌==◌, slice_index, Float}
use Rattle.geom.specs.declared.length.Length.{Length}
use Rattle.geom.specs.declared.length.Direction.{Direction}
use Rattle.geom.specs.declared.matrix.Matrix.{Matrix}
use Rattle.geom.specs.declared.rect.Rect.{Rect}
use Rattle.geom.specs.declared.rect.Ruler.{Ruler}
use Rattle.geom.specs.declared.rect.Size.{Size}
use Rattle.geom.specs.declared.view_box.Align.{Align}
use Rattle.geom.specs.declared.view_box.Aspect.{Aspect}
use Rattle.element.specs.Forms.{as_length, as_rect, as_matrix, as_aspect, as_number, as_word}
use Rattle.element.specs.Words.{word_of}
use Rattle.element.specs.declared.value.Attribute.{Attribute}
use Rattle.element.specs.declared.value.Attribute.TheVariants as attribute
use Rattle.element.specs.declared.value.Kind.{Kind}
use Rattle.element.specs.declared.value.Value.{Value}
use Rattle.element.specs.declared.word.Word.{Word}
use Rattle.notation.specs.Names.{named, directions, aligns, slices, kinds, attributes, forms}
use Rattle.notation.specs.Words.{word, past_word}
use Rattle.notation.specs.Numbers.{Number, whole_number}
use Rattle.notation.specs.Lengths.{WrittenLength}
use Rattle.drawing.specs.declared.expected.Expected.{Expected}
use Rattle.drawing.specs.declared.expected.Expected.TheVariants as expected
use Rattle.notation.specs.declared.form.Form.{Form}
use Rattle.notation.specs.declared.form.Form.TheVariants as form

abbrev pub NumberAt : List ℕ → Float → Type 0
NumberAt line x = Number (word 0 line) x

-- one after another
abbrev pub NumbersAt : List ℕ → List Float → Type 0
NumbersAt line [] = Unit {0}
NumbersAt line (x ∷ xs) = NumberAt line x × NumbersAt (past_word line) xs

abbrev pub LengthAt : List ℕ → Length → Type 0
LengthAt line l = WrittenLength (word 0 line) l

abbrev pub DirectionAt : List ℕ → Direction → Type 0
DirectionAt line d = named directions (word 0 line) ≡ Some d

abbrev pub AlignAt : List ℕ → Align → Type 0
AlignAt line a = named aligns (word 0 line) ≡ Some a

abbrev pub SliceAt : List ℕ → Bool → Type 0
SliceAt line b = named slices (word 0 line) ≡ Some b

abbrev pub WholeNumberAt : List ℕ → ℕ → Type 0
WholeNumberAt line n = whole_number (word 0 line) ≡ Some n

abbrev pub KindAt : List ℕ → Kind → Type 0
KindAt line k = named kinds (word 0 line) ≡ Some k

abbrev pub AttributeAt : List ℕ → Attribute → Type 0
AttributeAt line a = named attributes (word 0 line) ≡ Some a

abbrev pub WordAt : List ℕ → Word → Type 0
WordAt line w = w ≡ word_of (word 0 line)

-- nothing more is said
abbrev pub NothingAt : List ℕ → Unit {0} → Type 0
NothingAt line x = Unit {0}

abbrev pub SizeAt : List ℕ → Size → Type 0
SizeAt line s = Number (word 0 line) s.w × Number (word 1 line) s.h

abbrev pub RulerAt : List ℕ → Ruler → Type 0
RulerAt line r = Number (word 0 line) r.w × Number (word 1 line) r.h × Number (word 2 line) r.f

abbrev pub RectAt : List ℕ → Rect → Type 0
RectAt line r = Number (word 0 line) r.x × Number (word 1 line) r.y × Number (word 2 line) r.w × Number (word 3 line) r.h

abbrev pub MatrixAt : List ℕ → Matrix → Type 0
MatrixAt line m =
    Number (word 0 line) m.a
    × Number (word 1 line) m.b
    × Number (word 2 line) m.c
    × Number (word 3 line) m.d
    × Number (word 4 line) m.e
    × Number (word 5 line) m.f

abbrev pub AspectAt : List ℕ → Aspect → Type 0
AspectAt line a = AlignAt line a.align × SliceAt (past_word line) a.slice

-- the words of a value of each form
abbrev pub words_of : Form → List Expected
words_of form.Length = expected.Length ∷ []
words_of form.Box = expected.Number ∷ expected.Number ∷ expected.Number ∷ expected.Number ∷ []
words_of form.Matrix = expected.Number ∷ expected.Number ∷ expected.Number ∷ expected.Number ∷ expected.Number ∷ expected.Number ∷ []
words_of form.Aspect = expected.Align ∷ expected.Slice ∷ []
words_of form.Number = expected.Number ∷ []
words_of form.Word = expected.Word ∷ []

-- the value is of the form, and what it holds is what the line says
abbrev pub ValueAt : Form → List ℕ → Value → Type 0
ValueAt form.Length line v = IsSomeAnd (as_length v) (λ l. LengthAt line l)
ValueAt form.Box line v = IsSomeAnd (as_rect v) (λ r. RectAt line r)
ValueAt form.Matrix line v = IsSomeAnd (as_matrix v) (λ m. MatrixAt line m)
ValueAt form.Aspect line v = IsSomeAnd (as_aspect v) (λ a. AspectAt line a)
ValueAt form.Number line v = IsSomeAnd (as_number v) (λ x. NumberAt line x)
ValueAt form.Word line v = IsSomeAnd (as_word v) (λ w. WordAt line w)

-- the form that an attribute's values have
abbrev pub own_form : Attribute → Form
own_form attribute.Id = form.Number
own_form attribute.Shown = form.Word
own_form attribute.Opacity = form.Number
own_form attribute.Matrix = form.Matrix
own_form attribute.X = form.Length
own_form attribute.Y = form.Length
own_form attribute.Width = form.Length
own_form attribute.Height = form.Length
own_form attribute.ViewBox = form.Box
own_form attribute.Aspect = form.Aspect
own_form attribute.Overflow = form.Word

-- whether a form is named: its word begins with @, which is 64
abbrev pub names_form : List ℕ → Bool
names_form line = slice_index (word 0 line) 0 == 64

-- the form of a value for the attribute: the one that is named, or the attribute's own
unfoldable pub form_at : Attribute → List ℕ → Option Form
form_at a line = cond (names_form line) (named forms (drop 1 (word 0 line))) (Some (own_form a))

-- what follows the form's name, or all where none is named
unfoldable pub past_form : List ℕ → List ℕ
past_form line = cond (names_form line) (past_word line) line

-- a form is missing where what stands behind an @ names none
abbrev pub form_missing : Option Form → Option Expected
form_missing None = Some expected.Form
form_missing (Some f) = None
