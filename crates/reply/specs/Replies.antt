-- Replies, each on a line of its own.
use Rattle.std.specs.Prelude.{◌≡◌, ℕ, List, [], ◌∷◌, Some, None, Ok, Err, codes, Option, Result}
use Rattle.std.specs.Fmt.{option_append}
use Rattle.notation.specs.Names.{named}
use Rattle.reply.specs.Plain as plain
use Rattle.reply.specs.People as people
use Rattle.reply.specs.declared.answer.Answer.{Answer}
use Rattle.reply.specs.declared.answer.Failure.{Failure}
use Rattle.reply.specs.declared.reply.Reply.{Reply}
use Rattle.reply.specs.declared.reply.Style.{Style}
use Rattle.reply.specs.declared.reply.Style.TheVariants.{Plain, People}
use Rattle.reply.specs.declared.reply.UnknownStyle.{UnknownStyle}

-- behind these
abbrev pub prefix : Style → List ℕ
prefix Plain = codes "> "
prefix People = codes "    "

abbrev pub outcome_text : Style → Result Answer Failure → Option (List ℕ)
outcome_text Plain (Ok a) = Some (plain.answer_text a)
outcome_text Plain (Err f) = Some (plain.failure_text f)
outcome_text People (Ok a) = people.answer_text a
outcome_text People (Err f) = people.failure_text f

abbrev pub reply_text : Reply → Option (List ℕ)
reply_text r = option_append (Some (prefix r.style)) (outcome_text r.style r.outcome)

-- the word that asks for a style
abbrev pub styles : List (List ℕ × Style)
styles = (codes "people", People) ∷ []

-- the style that a word asks for, or that it asks for none
abbrev pub style_in : Option Style → Result Style UnknownStyle
style_in (Some style) = Ok style
style_in None = Err (record {})

abbrev pub StyleNamed : List ℕ → Result Style UnknownStyle → Type 0
StyleNamed word r = r ≡ style_in (named styles word)
