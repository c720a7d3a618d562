-- What each command answers, and what it leaves.
use Rattle.std.specs.Prelude.{ℕ, List, [], ◌∷◌, Some, None, Ok, Err, Option, Result}
use Rattle.std.specs.Result.{result_map_both}
use Rattle.refusal.specs.declared.Refusal.{Refusal}
use Rattle.refusal.specs.declared.Refusal.TheVariants.{UnknownNode}
use Rattle.geom.specs.Fit.{fit}
use Rattle.geom.specs.Length.{base_of, length_in}
use Rattle.geom.specs.declared.options.Options.{Options}
use Rattle.svgtree.specs.Calls.{turn}
use Rattle.svgtree.specs.Model.{Item, Model}
use Rattle.svgtree.specs.Steps.{new_step}
use Rattle.svgtree.specs.declared.calls.Call.{Call}
use Rattle.drawing.specs.declared.command.Command.{Command}
use Rattle.drawing.specs.declared.command.Command.TheVariants as command
use Rattle.reply.specs.Edits.{answer_of}
use Rattle.reply.specs.declared.answer.Answer.{Answer}
use Rattle.reply.specs.declared.answer.Answer.TheVariants.{Number, Matrix, Size, Node}
use Rattle.session.specs.Room.{room_for}
use Rattle.session.specs.Size.{size_of}
use Rattle.session.specs.State.{State}

-- what a command answers, or why it is refused, and the state that it leaves
pub record Step : Type 0 where
  pub answer : Result Answer Refusal
  pub state : State

-- A NEW DOCUMENT takes the place of any earlier one, unless it is refused

abbrev pub begun : State → ℕ → Result Model Refusal → Step
begun s room (Ok m) = record { answer = Ok (Node 0); state = record { document = Some m; room = room } }
begun s room (Err r) = record { answer = Err r; state = s }

-- EDITS; where there is no document, no node was added

abbrev pub edited : State → Option Model → Call → Step
edited s None call = record { answer = Err UnknownNode; state = s }
edited s (Some m) call =
    record {
      answer = result_map_both answer_of (λ refusal. refusal) (turn s.room m call).told;
      state = record { document = Some (turn s.room m call).document; room = s.room };
    }

-- THE ROOT'S SIZE

abbrev pub root_answer : Options → List Item → Result Answer Refusal
root_answer options [] = Err UnknownNode
root_answer options (root ∷ items) = result_map_both (λ size. Size size) (λ refusal. refusal) (size_of root.element options)

abbrev pub size_answer : Option Model → Result Answer Refusal
size_answer None = Err UnknownNode
size_answer (Some m) = root_answer m.options m.items

-- ANY COMMAND

abbrev pub step : State → Command → Step
step s (command.Measure length direction ruler dpi) = record { answer = Ok (Number (length_in length (base_of direction ruler) dpi ruler.f)); state = s }
step s (command.Fit view-box size) = record { answer = Ok (Matrix (fit view-box size)); state = s }
step s (command.New options nodes) = begun s (room_for nodes) (new_step (room_for nodes) options)
step s (command.Edit call) = edited s s.document call
step s command.Size = record { answer = size_answer s.document; state = s }
