-- What each call does to a document in memory, whatever the memory held.
use Rattle.std.specs.Prelude.{◌≡◌, ℕ, ◌+◌, List, length, IfOk, Ok, Err, Option, Result, slice_set}
use Rattle.refusal.specs.Order.{first_of, unless}
use Rattle.refusal.specs.declared.Refusal.{Refusal}
use Rattle.element.specs.declared.value.Attribute.{Attribute}
use Rattle.element.specs.declared.value.Kind.{Kind}
use Rattle.element.specs.declared.value.Kind.TheVariants.{Svg}
use Rattle.element.specs.declared.value.Value.{Value}
use Rattle.svgtree.specs.declared.node.Node.{Node}
use Rattle.svgtree.specs.declared.document.Document.{Document}
use Rattle.geom.specs.declared.options.Options.{Options}
use Rattle.svgtree.specs.Model.{Model, with_child}
use Rattle.svgtree.specs.Steps.{Outcome, new_checks, new_step, add_step}
use Rattle.svgtree.specs.Memory.{nodes_of, model_of, fresh, attribute_changed, place_refusal, placed}
use Rattle.svgtree.specs.Links.{Linked}

-- what a call leaves: where it is refused, what there was before
abbrev pub left_by : {X Y : Type 0} → Result X Refusal → Y → Y → Y
left_by (Ok x) before after = after
left_by (Err refusal) before after = before

-- the document that a new document's memory holds
abbrev pub made_in : List Node → Result Document Refusal → Result Model Refusal
made_in ns (Ok d) = Ok (model_of d ns)
made_in ns (Err refusal) = Err refusal

-- `new` made r of these nodes, and left ns': refused, everything as it was; else the root in place 0, and nothing else changed
pub record Begun (options : Options) (ns : List Node) (r : Result Document Refusal) (ns' : List Node) : Type 0 where
  pub answer : r ≡ unless (first_of (new_checks (length ns) options)) (record { count = 1; options = options })
  pub memory : ns' ≡ left_by r ns (slice_set ns 0 (fresh Svg 0 1))
  pub step : made_in ns' r ≡ new_step (length ns) options
  pub links : IfOk r (λ d. Linked (nodes_of d ns'))

-- `add` answered r, and left d' and ns': refused, everything as it was. On any memory, answer, count and memory follow from what
-- the memory has for the parent; where it is linked, that is what the document has, and so the outcome is the rules'.
pub record Added (d : Document) (ns : List Node) (p : ℕ) (kind : Kind) (r : Result ℕ Refusal) (d' : Document) (ns' : List Node) : Type 0 where
  pub answer : r ≡ unless (place_refusal d ns p) (length (nodes_of d ns))
  pub counted : d' ≡ left_by r d (record { count = length (nodes_of d ns) + 1; options = d.options })
  pub memory : ns' ≡ left_by r ns (placed d ns p kind)
  pub document : model_of d' ns' ≡ left_by r (model_of d ns) (with_child (model_of d ns) p kind)
  pub step : Linked (nodes_of d ns) → record { answer = r; document = model_of d' ns' } ≡ add_step (length ns) (model_of d ns) p kind
  pub links : Linked (nodes_of d ns) → Linked (nodes_of d' ns')

-- an edit of node n's attribute, with the outcome by the rules, answered r and left ns': refused, everything as it was; else that
-- attribute of that node changed, and nothing else
pub record Edited (d : Document) (ns : List Node) (n : ℕ) (a : Attribute) (value : Option Value) (by_rules : Outcome (Unit {0})) (r : Result (Unit {0}) Refusal) (ns' : List Node) : Type 0 where
  pub step : record { answer = r; document = model_of d ns' } ≡ by_rules
  pub memory : ns' ≡ left_by r ns (attribute_changed ns n a value)
  pub links : Linked (nodes_of d ns) → Linked (nodes_of d ns')
