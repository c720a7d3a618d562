-- The number of each refusal.
use Rattle.std.specs.Prelude.{ℕ}
use Rattle.refusal.specs.declared.Refusal.{Refusal}
use Rattle.refusal.specs.declared.Refusal.TheVariants.{UnknownNode, ChildNotAllowed, AttributeNotAllowed, BadValue, DocumentFull, InvalidSize, TooDeep, NotFinite, WorkListFull, SinkFull, OutOfTurn, Damaged}

abbrev pub number_of : Refusal → ℕ
-- the node was never added
number_of UnknownNode = 1
-- the parent takes no child, or no further one
number_of ChildNotAllowed = 2
-- the kind lacks the attribute, or the value has another form
number_of AttributeNotAllowed = 3
-- a value or an option outside its range or not finite; a group or ruler not good; a bad root size at seal
number_of BadValue = 4
-- 4,096 nodes, or their memory full
number_of DocumentFull = 5
-- the root's size is not valid
number_of InvalidSize = 6
-- level 49, or a 113th open group in a sink
number_of TooDeep = 7
-- a length, fit or matrix that the rules use is not finite
number_of NotFinite = 8
-- the work list is full
number_of WorkListFull = 9
-- the places pass the sink's limit
number_of SinkFull = 10
-- open, mark, close or end without begin; close on the base; end with other groups open; seal in a turn
number_of OutOfTurn = 11
-- the trailer, a record or the nesting of a face file breaks its rules, or a group in it is not good
number_of Damaged = 12
