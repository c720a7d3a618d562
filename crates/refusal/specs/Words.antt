-- What a person reads of each refusal.
use Rattle.std.specs.Prelude.{ℕ, List, codes}
use Rattle.refusal.specs.declared.Refusal.{Refusal}
use Rattle.refusal.specs.declared.Refusal.TheVariants.{UnknownNode, ChildNotAllowed, AttributeNotAllowed, BadValue, DocumentFull, InvalidSize, TooDeep, NotFinite, WorkListFull, SinkFull, OutOfTurn, Damaged}

abbrev pub words_of : Refusal → List ℕ
words_of UnknownNode = codes "the node was never added"
words_of ChildNotAllowed = codes "the parent takes no child, or no further one"
words_of AttributeNotAllowed = codes "the kind lacks the attribute, or the value has another form"
words_of BadValue = codes "a value is outside its range or not finite"
words_of DocumentFull = codes "the document is full"
words_of InvalidSize = codes "the root has no valid size"
words_of TooDeep = codes "nested too deep"
words_of NotFinite = codes "a length, fit or matrix leaves the finite range"
words_of WorkListFull = codes "the work list is full"
words_of SinkFull = codes "the sink has no places left"
words_of OutOfTurn = codes "the sink was called out of turn"
words_of Damaged = codes "the face file is damaged"
