-- What lines say: the commands, and what a line lacks that can't be read.
use Rattle.std.specs.Prelude.{◌≡◌, ℕ, Bool, true, cond, ◌||◌, List, [], ◌∷◌, ◌++◌, IsSomeAnd, Some, None, codes, Option}
use Rattle.std.specs.Str.{bytes_eq}
use Rattle.std.specs.Option.{option_or}
use Rattle.element.specs.declared.value.Attribute.{Attribute}
use Rattle.element.specs.declared.value.Value.{Value}
use Rattle.notation.specs.Names.{named, attributes}
use Rattle.notation.specs.Words.{word, first_word, past_word, past_words}
use Rattle.notation.specs.Numbers.{whole_number}
use Rattle.drawing.specs.Grammar.{fits, missing}
use Rattle.drawing.specs.Values.{LengthAt, DirectionAt, RulerAt, NumberAt, RectAt, AspectAt, SizeAt, WholeNumberAt, KindAt, AttributeAt, ValueAt, words_of, form_at, past_form}
use Rattle.svgtree.specs.declared.calls.Call.TheVariants as call
use Rattle.drawing.specs.declared.command.Command.{Command as Order}
use Rattle.drawing.specs.declared.command.Command.TheVariants as command
use Rattle.drawing.specs.declared.expected.Expected.{Expected}
use Rattle.drawing.specs.declared.expected.Expected.TheVariants.{Command, Length, Direction, Number as ANumber, Align, Slice, WholeNumber, Kind, Attribute as AnAttribute, Form, End}
use Rattle.notation.specs.declared.form.Form.{Form as ValueForm}

-- THE WORDS BEHIND A COMMAND'S NAME

abbrev pub measure_words : List Expected
measure_words = Length ∷ Direction ∷ ANumber ∷ ANumber ∷ ANumber ∷ ANumber ∷ End ∷ []

abbrev pub fit_words : List Expected
fit_words = ANumber ∷ ANumber ∷ ANumber ∷ ANumber ∷ Align ∷ Slice ∷ ANumber ∷ ANumber ∷ End ∷ []

abbrev pub add_words : List Expected
add_words = WholeNumber ∷ Kind ∷ End ∷ []

abbrev pub unset_words : List Expected
unset_words = WholeNumber ∷ AnAttribute ∷ End ∷ []

abbrev pub size_words : List Expected
size_words = End ∷ []

-- a count of nodes may be left out
abbrev pub nodes_missing : List ℕ → Option Expected
nodes_missing line = cond (fits End (word 0 line)) None (missing (WholeNumber ∷ End ∷ []) line)

abbrev pub new_missing : List ℕ → Option Expected
new_missing line = option_or (missing (ANumber ∷ ANumber ∷ []) line) (nodes_missing (past_words 2 line))

-- which words a value needs rests on its form
abbrev pub formed_missing : Option ValueForm → List ℕ → Option Expected
formed_missing None line = Some Form
formed_missing (Some f) line = missing (words_of f ++ (End ∷ [])) line

abbrev pub value_missing : Option Attribute → List ℕ → Option Expected
value_missing None line = Some AnAttribute
value_missing (Some a) line = formed_missing (form_at a line) (past_form line)

abbrev pub set_missing : List ℕ → Option Expected
set_missing line = option_or (missing (WholeNumber ∷ AnAttribute ∷ []) line) (value_missing (named attributes (word 1 line)) (past_words 2 line))

-- each command's name, and what is missing behind it
abbrev pub commands : List (List ℕ × (List ℕ → Option Expected))
commands =
    (codes "measure", missing measure_words)
    ∷ (codes "fit", missing fit_words)
    ∷ (codes "new", new_missing)
    ∷ (codes "add", missing add_words)
    ∷ (codes "set", set_missing)
    ∷ (codes "unset", missing unset_words)
    ∷ (codes "size", missing size_words)
    ∷ []

-- WHAT A COMMAND SAYS, by what stands behind its name

abbrev pub ValueSaid : Attribute → List ℕ → Value → Type 0
ValueSaid a line v = IsSomeAnd (form_at a line) (λ f. ValueAt f (past_form line) v)

abbrev pub Said : List ℕ → Order → Type 0
Said line (command.Measure length direction ruler dpi) =
    LengthAt line length × DirectionAt (past_words 1 line) direction × RulerAt (past_words 2 line) ruler × NumberAt (past_words 5 line) dpi
Said line (command.Fit view-box size) =
    RectAt line view-box.rect × AspectAt (past_words 4 line) view-box.aspect × SizeAt (past_words 6 line) size
Said line (command.New options nodes) =
    NumberAt line options.dpi × NumberAt (past_words 1 line) options.font_size × (nodes ≡ whole_number (word 2 line))
Said line (command.Edit (call.Add parent kind)) = WholeNumberAt line parent × KindAt (past_words 1 line) kind
Said line (command.Edit (call.Set node a value)) = WholeNumberAt line node × AttributeAt (past_words 1 line) a × ValueSaid a (past_words 2 line) value
Said line (command.Edit (call.Unset node a)) = WholeNumberAt line node × AttributeAt (past_words 1 line) a
Said line command.Size = Unit {0}

abbrev pub name_of : Order → List ℕ
name_of (command.Measure length direction ruler dpi) = codes "measure"
name_of (command.Fit view-box size) = codes "fit"
name_of (command.New options nodes) = codes "new"
name_of (command.Edit (call.Add parent kind)) = codes "add"
name_of (command.Edit (call.Set node a value)) = codes "set"
name_of (command.Edit (call.Unset node a)) = codes "unset"
name_of command.Size = codes "size"

-- a command of this name, which says what stands behind the name
abbrev pub Told : List ℕ → List ℕ → Order → Type 0
Told name line c = (name_of c ≡ name) × Said line c

-- LINES

-- a line with this first word is blank, a comment, or an answer
abbrev pub says_nothing : List ℕ → Bool
says_nothing word = bytes_eq word (codes "") || bytes_eq word (codes ">") || bytes_eq word (codes "<")

-- what is missing in a line behind a command's name, or that there is no such name
abbrev pub missing_behind : Option (List ℕ → Option Expected) → List ℕ → Option Expected
missing_behind None line = Some Command
missing_behind (Some m) line = m line

unfoldable pub line_missing : List ℕ → Option Expected
line_missing line = cond (says_nothing (first_word line)) None (missing_behind (named commands (first_word line)) (past_word line))

-- what a line says that can be read: nothing, or a command
abbrev pub LineSaid : List ℕ → Option Order → Type 0
LineSaid line None = says_nothing (first_word line) ≡ true
LineSaid line (Some c) = Told (first_word line) (past_word line) c
