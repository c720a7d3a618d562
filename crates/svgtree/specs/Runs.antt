-- Calls and runs of calls on a document in memory.
use Rattle.std.specs.Prelude.{◌≡◌, ℕ, ◌≤◌, List, [], ◌∷◌, length, IfOk, Some, None, Err, Result}
use Rattle.refusal.specs.declared.Refusal.{Refusal}
use Rattle.svgtree.specs.declared.calls.Call.{Call}
use Rattle.svgtree.specs.declared.calls.Call.TheVariants as call
use Rattle.svgtree.specs.declared.calls.Done.TheVariants as did
use Rattle.svgtree.specs.declared.node.Node.{Node}
use Rattle.svgtree.specs.declared.document.Document.{Document}
use Rattle.geom.specs.declared.options.Options.{Options}
use Rattle.svgtree.specs.Steps.{set_step, unset_step}
use Rattle.svgtree.specs.Memory.{nodes_of, model_of, node_at}
use Rattle.svgtree.specs.Links.{Linked}
use Rattle.svgtree.specs.Edits.{Added, Edited, made_in}
use Rattle.svgtree.specs.Calls.{Answer, told_by, turn, edited, told, after, answers_after}
use Rattle.svgtree.specs.Sound.{Sound}

-- what one call did, whatever the memory held
abbrev pub DoneBy : Document → List Node → Call → Answer → Document → List Node → Type 0
DoneBy d ns (call.Add parent kind) told d' ns' = (r : Result ℕ Refusal) × (told ≡ told_by did.Added r) × Added d ns parent kind r d' ns'
DoneBy d ns (call.Set n a value) told d' ns' =
    (r : Result (Unit {0}) Refusal) × (told ≡ told_by (λ _. did.Edited) r) × (d' ≡ d) × Edited d ns n a (Some value) (set_step (model_of d ns) n a value) r ns'
DoneBy d ns (call.Unset n a) told d' ns' =
    (r : Result (Unit {0}) Refusal) × (told ≡ told_by (λ _. did.Edited) r) × (d' ≡ d) × Edited d ns n a None (unset_step (model_of d ns) n a) r ns'

pub record Called (d : Document) (ns : List Node) (c : Call) (told : Answer) (d' : Document) (ns' : List Node) : Type 0 where
  pub done : DoneBy d ns c told d' ns'
  pub step : Linked (nodes_of d ns) → record { told = told; document = model_of d' ns' } ≡ turn (length ns) (model_of d ns) c
  pub links : Linked (nodes_of d ns) → Linked (nodes_of d' ns')

-- answers written one by one over the places lent for them, as many as there are places
abbrev pub written : List Answer → List Answer → List Answer
written [] told = []
written (place ∷ places) [] = place ∷ places
written (place ∷ places) (a ∷ told) = a ∷ written places told

-- the nodes past those in use are as they were
abbrev pub RestKept : List Node → Document → List Node → Type 0
RestKept ns d ns' = (k : ℕ) → length (nodes_of d ns') ≤ k → node_at ns' k ≡ node_at ns k

-- the calls on d and its linked memory ns, with places for answers, left d', ns' and places'
pub record AllCalled (d : Document) (ns : List Node) (calls : List Call) (places : List Answer) (d' : Document) (ns' : List Node) (places' : List Answer) : Type 0 where
  pub document : model_of d' ns' ≡ edited (length ns) (model_of d ns) calls
  pub answers : places' ≡ written places (told (length ns) (model_of d ns) calls)
  pub links : Linked (nodes_of d' ns')
  pub rest : RestKept ns d' ns'
  pub grown : length (nodes_of d ns) ≤ length (nodes_of d' ns')
  pub counted : d.count ≤ length ns → d'.count ≤ length ns'

-- A run of `new` and the calls made r of these nodes and places for answers, and left ns' and places': the document is the one
-- after the calls by the rules, and so are the answers, as many as there are places. Its memory is linked, so that its links and
-- levels follow from it, and the nodes past those in use are as they were. Where `new` is refused, nothing is changed.
pub record Ran (options : Options) (ns : List Node) (calls : List Call) (places : List Answer) (r : Result Document Refusal) (ns' : List Node) (places' : List Answer) : Type 0 where
  pub document : made_in ns' r ≡ after options (length ns) calls
  pub answers : places' ≡ written places (answers_after options (length ns) calls)
  pub counted : IfOk r (λ d. d.count ≡ length (nodes_of d ns'))
  pub links : IfOk r (λ d. Linked (nodes_of d ns'))
  pub sound : IfOk r (λ d. Sound (model_of d ns'))
  pub rest : IfOk r (λ d. RestKept ns d ns')
  pub refused : (refusal : Refusal) → r ≡ Err refusal → ns' ≡ ns
