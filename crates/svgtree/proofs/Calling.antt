-- Calls, one by one.
use Rattle.std.proofs.Common.{◌≡◌, ℕ, List, Some, None, Result, refl, ap}
use Rattle.refusal.specs.declared.Refusal.{Refusal}
use Rattle.element.specs.declared.value.Attribute.{Attribute}
use Rattle.element.specs.declared.value.Kind.{Kind}
use Rattle.element.specs.declared.value.Value.{Value}
use Rattle.svgtree.specs.declared.calls.Call.{Call}
use Rattle.svgtree.specs.declared.calls.Call.TheVariants as call
use Rattle.svgtree.specs.declared.calls.Done.TheVariants as did
use Rattle.svgtree.specs.declared.node.Node.{Node}
use Rattle.svgtree.specs.declared.document.Document.{Document}
use Rattle.svgtree.specs.Steps.{Outcome, set_step, unset_step}
use Rattle.svgtree.specs.Memory.{model_of}
use Rattle.svgtree.specs.Edits.{Added, Edited}
use Rattle.svgtree.specs.Calls.{Answer, told_by}
use Rattle.svgtree.specs.Runs.{Called}

module _ (d : Document) (ns : List Node) (c : Call) (told : Answer) (ns' : List Node) where
  pub called_add : (p : ℕ) (kind : Kind) (r : Result ℕ Refusal) (d' : Document) → c ≡ call.Add p kind → told ≡ told_by did.Added r → Added d ns p kind r d' ns' → Called d ns c told d' ns'
  called_add p kind r d' is tells added =
      rw (is, tells)
      (record {
        done = (r, refl, added);
        step = λ linked. ap (λ (o : Outcome ℕ). record { told = told_by did.Added o.answer; document = o.document }) (added.step linked);
        links = added.links;
      })

  pub called_set : (n : ℕ) (a : Attribute) (value : Value) (r : Result (Unit {0}) Refusal) → c ≡ call.Set n a value → told ≡ told_by (λ _. did.Edited) r →
      Edited d ns n a (Some value) (set_step (model_of d ns) n a value) r ns' → Called d ns c told d ns'
  called_set n a value r is tells edited =
      rw (is, tells)
      (record {
        done = (r, refl, refl, edited);
        step = λ linked. ap (λ (o : Outcome (Unit {0})). record { told = told_by (λ _. did.Edited) o.answer; document = o.document }) edited.step;
        links = edited.links;
      })

  pub called_unset : (n : ℕ) (a : Attribute) (r : Result (Unit {0}) Refusal) → c ≡ call.Unset n a → told ≡ told_by (λ _. did.Edited) r →
      Edited d ns n a None (unset_step (model_of d ns) n a) r ns' → Called d ns c told d ns'
  called_unset n a r is tells edited =
      rw (is, tells)
      (record {
        done = (r, refl, refl, edited);
        step = λ linked. ap (λ (o : Outcome (Unit {0})). record { told = told_by (λ _. did.Edited) o.answer; document = o.document }) edited.step;
        links = edited.links;
      })
