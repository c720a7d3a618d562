-- How answers, failures and records are written for people. Of floats in decimals nothing is said.
use Rattle.std.specs.Prelude.{ℕ, List, ◌++◌, Some, None, codes, decimal, Option}
use Rattle.refusal.specs.Numbers.{number_of}
use Rattle.refusal.specs.Words.{words_of}
use Rattle.record.specs.Records.{Record}
use Rattle.record.specs.declared.Event.TheVariants.{Open, Mark, Close}
use Rattle.drawing.specs.Messages.{unreadable_text}
use Rattle.reply.specs.declared.answer.Answer.{Answer}
use Rattle.reply.specs.declared.answer.Answer.TheVariants.{Number, Matrix, Size, Node, Done}
use Rattle.reply.specs.declared.answer.Failure.{Failure}
use Rattle.reply.specs.declared.answer.Failure.TheVariants.{Refused, Unreadable}

abbrev pub answer_text : Answer → Option (List ℕ)
answer_text (Number x) = None
answer_text (Matrix m) = None
answer_text (Size s) = None
answer_text (Node n) = Some (codes "node " ++ decimal n)
answer_text Done = Some (codes "done")

abbrev pub failure_text : Failure → Option (List ℕ)
failure_text (Refused r) = Some (codes "refused " ++ (decimal (number_of r) ++ (codes ": " ++ words_of r)))
failure_text (Unreadable u) = Some (unreadable_text u)

abbrev pub record_text : Record → Option (List ℕ)
record_text (Open g) = None
record_text (Mark m) = None
record_text Close = Some (codes "close")
