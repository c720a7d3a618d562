-- Lists of calls: the document after them and what they answer follow from the options of `new`, the number of nodes lent and
-- the calls' arguments alone.
use Rattle.std.specs.Prelude.{ℕ, List, [], ◌∷◌, Ok, Err, Result}
use Rattle.std.specs.Result.{result_map_both}
use Rattle.refusal.specs.declared.Refusal.{Refusal}
use Rattle.svgtree.specs.declared.calls.Call.{Call}
use Rattle.svgtree.specs.declared.calls.Call.TheVariants as call
use Rattle.svgtree.specs.declared.calls.Done.{Done}
use Rattle.svgtree.specs.declared.calls.Done.TheVariants as did
use Rattle.geom.specs.declared.options.Options.{Options}
use Rattle.svgtree.specs.Model.{Model}
use Rattle.svgtree.specs.Steps.{new_step, add_step, set_step, unset_step}

-- ONE CALL

-- what a call did, or why it was refused
abbrev pub Answer : Type 0
Answer = Result Done Refusal

-- what is told of a call that gave r, where `done` says what it did
abbrev pub told_by : {X : Type 0} → (X → Done) → Result X Refusal → Answer
told_by done r = result_map_both done (λ refusal. refusal) r

-- what a call answers, and the document that it leaves
pub record Turn : Type 0 where
  pub told : Answer
  pub document : Model

-- where so many nodes are lent
abbrev pub turn : ℕ → Model → Call → Turn
turn lent m (call.Add parent kind) = record { told = told_by did.Added (add_step lent m parent kind).answer; document = (add_step lent m parent kind).document }
turn lent m (call.Set n a value) = record { told = told_by (λ _. did.Edited) (set_step m n a value).answer; document = (set_step m n a value).document }
turn lent m (call.Unset n a) = record { told = told_by (λ _. did.Edited) (unset_step m n a).answer; document = (unset_step m n a).document }

-- A LIST OF CALLS

module _ (lent : ℕ) where
  -- the document after calls on m, and what each answers
  unfoldable pub edited : Model → List Call → Model
  edited m [] = m
  edited m (c ∷ calls) = edited (turn lent m c).document calls

  unfoldable pub told : Model → List Call → List Answer
  told m [] = []
  told m (c ∷ calls) = (turn lent m c).told ∷ told (turn lent m c).document calls

  abbrev pub after_new : Result Model Refusal → List Call → Result Model Refusal
  after_new (Ok m) calls = Ok (edited m calls)
  after_new (Err refusal) calls = Err refusal

  abbrev pub told_after_new : Result Model Refusal → List Call → List Answer
  told_after_new (Ok m) calls = told m calls
  told_after_new (Err refusal) calls = []

-- the document after `new` with these options and then the calls, where so many nodes are lent; or why there is none
abbrev pub after : Options → ℕ → List Call → Result Model Refusal
after options lent calls = after_new lent (new_step lent options) calls

-- what the calls answer
abbrev pub answers_after : Options → ℕ → List Call → List Answer
answers_after options lent calls = told_after_new lent (new_step lent options) calls
