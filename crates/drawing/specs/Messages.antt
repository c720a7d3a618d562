-- How it is said what a line lacks.
use Rattle.std.specs.Prelude.{ℕ, List, ◌++◌, codes, decimal}
use Rattle.drawing.specs.declared.expected.Expected.{Expected}
use Rattle.drawing.specs.declared.expected.Expected.TheVariants.{Command, Length, Direction, Number, Align, Slice, WholeNumber, Kind, Attribute, Form, Word, End, Text}
use Rattle.drawing.specs.declared.expected.Unreadable.{Unreadable}

abbrev pub expected_words : Expected → List ℕ
expected_words Command = codes "a command"
expected_words Length = codes "a length"
expected_words Direction = codes "across or down"
expected_words Number = codes "a number"
expected_words Align = codes "an alignment"
expected_words Slice = codes "meet or slice"
expected_words WholeNumber = codes "a whole number"
expected_words Kind = codes "a kind"
expected_words Attribute = codes "an attribute"
expected_words Form = codes "a form"
expected_words Word = codes "a word"
expected_words End = codes "the end of the line"
expected_words Text = codes "text in UTF-8"

abbrev pub unreadable_text : Unreadable → List ℕ
unreadable_text u = codes "line " ++ (decimal u.line ++ (codes ": expected " ++ expected_words u.expected))
