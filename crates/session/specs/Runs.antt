-- What a call leaves of a session: the step of the rules, or where memory fails what there was.
use Rattle.std.specs.Prelude.{◌≡◌, Ok, Err, Result}
use Rattle.refusal.specs.declared.Refusal.{Refusal}
use Rattle.reply.specs.declared.answer.Answer.{Answer}
use Rattle.session.specs.State.{State, state_of}
use Rattle.session.specs.Steps.{Step}
use Rattle.session.specs.declared.Session.{Session}
use Rattle.session.specs.declared.error.CommandError.{CommandError}
use Rattle.session.specs.declared.error.CommandError.TheVariants.{Refused, OutOfMemory}

abbrev pub Stepped : Session → (State → Step) → Result Answer Refusal → Session → Type 0
Stepped before by_rules r after = record { answer = r; state = state_of after } ≡ by_rules (state_of before)

abbrev pub Ran : Session → (State → Step) → Result Answer CommandError → Session → Type 0
Ran before by_rules (Ok a) after = Stepped before by_rules (Ok a) after
Ran before by_rules (Err (Refused r)) after = Stepped before by_rules (Err r) after
Ran before by_rules (Err (OutOfMemory e)) after = after ≡ before
