-- The words that mean something in an attribute's value, by their exact letters.
use Rattle.std.specs.Prelude.{ℕ, cond, List, codes}
use Rattle.std.specs.Str.{bytes_eq}
use Rattle.element.specs.declared.word.Word.{Word}
use Rattle.element.specs.declared.word.Word.TheVariants.{Yes, No, Visible, Auto, Other}

abbrev pub word_of : List ℕ → Word
word_of text =
    cond (bytes_eq text (codes "yes")) Yes
    (cond (bytes_eq text (codes "no")) No
    (cond (bytes_eq text (codes "visible")) Visible
    (cond (bytes_eq text (codes "auto")) Auto Other)))
